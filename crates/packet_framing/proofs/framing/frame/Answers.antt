use Rattle.std.proofs.Common.{arith}
use Rattle.packet_framing.proofs.PacketLemmas.{first_packet-packet_of}
use Rattle.packet_framing.proofs.framing.frame.Goals as goal

pub returns-clause-read : goal.returns-clause-read
returns-clause-read c more = let payload = c.as_bytes-payload.ensures in let text = c.as_str.ensures.value in first_packet-packet_of c.args.text.now more (rw (← text) (omega arith))
