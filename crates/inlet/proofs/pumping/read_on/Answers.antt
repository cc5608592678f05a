use Rattle.std.proofs.Common.{◌≤◌, length, ap, arith, length-append}
use Rattle.packet_framing.proofs.PacketLemmas.{unfinished-length}
use Rattle.inlet.proofs.PumpLemmas.{pumps-of, few-kept, after_first-length}
use Rattle.inlet.proofs.pumping.read_on.Goals as goal

pub returns-in-End-2-clause-bounded : goal.returns-in-End-2-clause-bounded
returns-in-End-2-clause-bounded g c =
    let before = unfinished-length c.loop-taken.decoder c.loop-taken.invariant.going.unfinished in
    rw c.in-End-2.ensures.feeds.keeps.0 (omega arith)

pub returns-in-Fault-clause-bounded : goal.returns-in-Fault-clause-bounded
returns-in-Fault-clause-bounded g c =
    let before = unfinished-length c.loop-taken.decoder c.loop-taken.invariant.going.unfinished in
    rw c.in-Fault.ensures.feeds.keeps.0 (omega arith)

pub returns-in-NoMemory-clause-pumps : goal.returns-in-NoMemory-clause-pumps
returns-in-NoMemory-clause-pumps g c = pumps-of _ _ _ _ _ _ _ _ _ _ _ _ c.loop-taken.invariant.going c.in-NoMemory.ensures.feeds.source c.in-NoMemory.ensures.feeds.count tt

pub returns-in-NoMemory-clause-bounded : goal.returns-in-NoMemory-clause-bounded
returns-in-NoMemory-clause-bounded g c =
    let before = unfinished-length c.loop-taken.decoder c.loop-taken.invariant.going.unfinished in
    rw c.in-NoMemory.ensures.feeds.keeps (omega arith)

pub returns-in-Message-clause-few : goal.returns-in-Message-clause-few
returns-in-Message-clause-few g c =
    let feeds = c.in-More.ensures.feeds in
    λ _. few-kept c.loop-taken.decoder feeds.octets c.feed.new.decoder c.in-Message.ensures.payload c.take_message.new.decoder c.loop-taken.invariant.going.unfinished feeds.keeps.1 feeds.small feeds.keeps.0 c.in-Message.ensures.front

pub returns-in-Message-clause-bounded : goal.returns-in-Message-clause-bounded
returns-in-Message-clause-bounded g c =
    let feeds = c.in-More.ensures.feeds in
    let few : length c.take_message.new.decoder ≤ 4095 = few-kept c.loop-taken.decoder feeds.octets c.feed.new.decoder c.in-Message.ensures.payload c.take_message.new.decoder c.loop-taken.invariant.going.unfinished feeds.keeps.1 feeds.small feeds.keeps.0 c.in-Message.ensures.front in
    omega arith

pub returns-in-BadHeader-clause-bounded : goal.returns-in-BadHeader-clause-bounded
returns-in-BadHeader-clause-bounded g c =
    let feeds = c.in-More.ensures.feeds in
    let before = unfinished-length c.loop-taken.decoder c.loop-taken.invariant.going.unfinished in
    let same = ap length c.in-BadHeader.ensures.1 in
    let grown = ap length feeds.keeps.0 in
    let small = feeds.small in
    omega (arith, same, grown, length-append c.loop-taken.decoder feeds.octets)

pub returns-in-NoMemory-take_message-clause-pumps : goal.returns-in-NoMemory-take_message-clause-pumps
returns-in-NoMemory-take_message-clause-pumps g c = pumps-of _ _ _ _ _ _ _ _ _ _ _ _ c.loop-taken.invariant.going c.in-More.ensures.feeds.source c.in-More.ensures.feeds.count tt

pub returns-in-NoMemory-take_message-clause-bounded : goal.returns-in-NoMemory-take_message-clause-bounded
returns-in-NoMemory-take_message-clause-bounded g c =
    let feeds = c.in-More.ensures.feeds in
    let before = unfinished-length c.loop-taken.decoder c.loop-taken.invariant.going.unfinished in
    let same = ap length c.in-NoMemory-take_message.ensures.1 in
    let less = after_first-length c.feed.new.decoder c.in-NoMemory-take_message.ensures.0 in
    let grown = ap length feeds.keeps.0 in
    let small = feeds.small in
    omega (arith, same, less, grown, length-append c.loop-taken.decoder feeds.octets)

pub returns-clause-bounded : goal.returns-clause-bounded
returns-clause-bounded g c =
    let before = unfinished-length c.loop-taken.decoder c.loop-taken.invariant.going.unfinished in
    omega arith
