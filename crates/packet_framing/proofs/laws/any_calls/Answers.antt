use Rattle.std.proofs.Common.{[], inl, inr, ◌∙◌, append-nil}
use Rattle.packet_framing.specs.Calls.{all_given}
use Rattle.packet_framing.proofs.CallLemmas.{packets-runs}
use Rattle.packet_framing.proofs.PacketLemmas.{packets-none, first_packet-bad}
use Rattle.packet_framing.proofs.laws.any_calls.Goals as goal

pub returns-clause-first : goal.returns-clause-first
returns-clause-first c = packets-runs []

pub returns-clause-all : goal.returns-clause-all
returns-clause-all c calls last runs none = elim none [
  | inl unfinished ↦ packets-runs [] calls last runs ∙ rw (packets-none last unfinished.no_packet, append-nil (all_given calls))
  | inr bad ↦ packets-runs [] calls last runs ∙ rw (packets-none last (first_packet-bad last bad), append-nil (all_given calls))
]
