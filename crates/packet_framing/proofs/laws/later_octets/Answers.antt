use Rattle.packet_framing.proofs.PacketLemmas.{packets-append, packets-bad, bad-append}
use Rattle.packet_framing.proofs.laws.later_octets.Goals as goal

pub returns-clause-packets : goal.returns-clause-packets
returns-clause-packets c = packets-append

pub returns-clause-bad : goal.returns-clause-bad
returns-clause-bad c = bad-append

pub returns-clause-bad_rest : goal.returns-clause-bad_rest
returns-clause-bad_rest c = packets-bad
