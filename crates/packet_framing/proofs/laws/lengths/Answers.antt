use Rattle.std.proofs.Common.{arith}
use Rattle.packet_framing.proofs.PacketLemmas.{first_packet-length, first_packet-completed, unfinished-length}
use Rattle.packet_framing.proofs.laws.lengths.Goals as goal

pub returns-clause-whole : goal.returns-clause-whole
returns-clause-whole c = first_packet-length

pub returns-clause-unfinished : goal.returns-clause-unfinished
returns-clause-unfinished c octets unfinished = omega (arith, unfinished-length octets unfinished)

pub returns-clause-completed : goal.returns-clause-completed
returns-clause-completed c = first_packet-completed
