use Rattle.packet_framing.proofs.PacketLemmas.{packets-step, first_packet-rest}
use Rattle.packet_framing.proofs.laws.packet_by_packet.Goals as goal

pub returns-clause-step : goal.returns-clause-step
returns-clause-step c = packets-step

pub returns-clause-rest : goal.returns-clause-rest
returns-clause-rest c = first_packet-rest
