use Rattle.std.proofs.Common.{length, ap, inl, inr, arith}
use Rattle.packet_framing.proofs.PacketLemmas.{shorter}
use Rattle.inlet.proofs.PumpLemmas.{after_first-length}
use Rattle.inlet.proofs.pumping.pump.Goals as goal

pub returns-in-Message-clause-few : goal.returns-in-Message-clause-few
returns-in-Message-clause-few g c = λ before _.
    let front = c.in-Message.ensures.front in
    let less = shorter _ _ _ front in
    elim before [ inl few ↦ omega arith | inr none ↦ absurd (cc) ]

pub returns-in-Message-clause-bounded : goal.returns-in-Message-clause-bounded
returns-in-Message-clause-bounded g c = λ small.
    let less = shorter _ _ _ c.in-Message.ensures.front in
    omega arith

pub returns-in-NoMemory-clause-bounded : goal.returns-in-NoMemory-clause-bounded
returns-in-NoMemory-clause-bounded g c = λ small.
    let less = after_first-length c.args.decoder.now c.in-NoMemory.ensures.0 in
    let same = ap length c.in-NoMemory.ensures.1 in
    omega (arith, same)
