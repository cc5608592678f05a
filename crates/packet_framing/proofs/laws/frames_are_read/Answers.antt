use Rattle.packet_framing.proofs.PacketLemmas.{packets-frames}
use Rattle.packet_framing.proofs.laws.frames_are_read.Goals as goal

pub returns : goal.returns
returns c = packets-frames
