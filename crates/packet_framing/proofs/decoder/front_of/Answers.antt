use Rattle.std.proofs.Common.{◌≡◌, ◌+◌, ◌≤◌, length, take, drop, Some, None, refl, arith, length-drop}
use Rattle.std.proofs.lemmas.List.{drop-drop}
use Rattle.packet_framing.specs.Packets.{header_value, IsBad, IsUnfinished}
use Rattle.packet_framing.proofs.PacketLemmas.{WholePacket, some-of_whole, first_packet-short, first_packet-bad, first_packet-room, unfinished-length, bad-of_none, not_bad}
use Rattle.packet_framing.proofs.decoder.front_of.Goals as goal

pub returns-then-octets-lt6 : goal.returns-then-octets-lt6
returns-then-octets-lt6 c =
    (record { no_packet = first_packet-short c.args.octets.now (omega arith); not_bad = λ bad. let six = bad.six in absurd (omega arith) }, omega arith)

pub returns-in-None : goal.returns-in-None
returns-in-None c =
    let octets = c.args.octets.now in
    let header : header_value (take 6 octets) ≡ None = grind (arith, c.in-None.ensures.value) in
    let bad : IsBad octets = bad-of_none octets (omega arith) header in
    (first_packet-bad octets bad, bad)

pub returns-then-octets-len : goal.returns-then-octets-len
returns-then-octets-len c =
    let octets = c.args.octets.now in
    let header : header_value (take 6 octets) ≡ Some c.in-Some.len = grind (arith, c.in-Some.ensures.value) in
    let unfinished : IsUnfinished octets =
    record { no_packet = first_packet-room octets c.in-Some.len header (omega (arith, length-drop 6 octets)); not_bad = not_bad octets c.in-Some.len header } in
    (unfinished, omega (arith, unfinished-length octets unfinished))

pub returns-else-octets-len : goal.returns-else-octets-len
returns-else-octets-len c =
    let octets = c.args.octets.now in
    let header : header_value (take 6 octets) ≡ Some c.in-Some.len = grind (arith, c.in-Some.ensures.value) in
    let room : 6 + c.in-Some.len ≤ length octets = omega arith in
    let front : WholePacket octets (take c.in-Some.len (drop 6 octets), drop (6 + c.in-Some.len) octets) =
    record { count = c.in-Some.len; header = header; room = room; is = rw drop-drop refl } in
    (room, some-of_whole octets _ front, not_bad octets c.in-Some.len header)
