use Rattle.std.proofs.Common.{[], inl, inr}
use Rattle.packet_framing.proofs.PacketLemmas.{first_packet-bad}
use Rattle.inlet.proofs.CallLemmas.{packets-calls, messages-calls}
use Rattle.inlet.proofs.laws.calls_take_the_stream.Goals as goal

pub returns-clause-first : goal.returns-clause-first
returns-clause-first c = λ calls last runs. packets-calls [] calls last runs

pub returns-clause-all : goal.returns-clause-all
returns-clause-all c = λ calls last runs ends. elim ends [
  | inl unfinished ↦ messages-calls calls last runs unfinished.no_packet
  | inr bad ↦ messages-calls calls last runs (first_packet-bad last bad)
]
