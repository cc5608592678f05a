use Rattle.std.proofs.Common.{ap, ◌∙◌}
use Rattle.packet_framing.specs.Packets.{rest_of}
use Rattle.packet_framing.proofs.PacketLemmas.{first_packet-bad}
use Rattle.inlet.proofs.pumping.take_message.Goals as goal

pub returns-in-BadHeader : goal.returns-in-BadHeader
returns-in-BadHeader c =
    let kept = c.args.decoder.now in
    let bad = c.in-BadHeader.ensures.gives in
    (bad, c.next.follows.holds-at-none ∙ ap (rest_of kept) (first_packet-bad kept bad))
