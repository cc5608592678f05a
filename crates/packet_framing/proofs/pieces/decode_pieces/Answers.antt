use Rattle.std.proofs.Common.{◌≡◌, ◌+◌, List, ℕ, [], ◌∷◌, ◌++◌, take, sym, ap, ◌∙◌, append_assoc, append-nil}
use Rattle.std.specs.List.{concat}
use Rattle.std.proofs.lemmas.List.{take_more}
use Rattle.packet_framing.specs.Packets.{Split, packets, packets_up_to, after_payloads}
use Rattle.packet_framing.proofs.PacketLemmas.{packets-append}
use Rattle.packet_framing.proofs.pieces.decode_pieces.Goals as goal

pub loop-piece-init : goal.loop-piece-init
unfolding packets_up_to
loop-piece-init c = record { payloads = c.new-payloads.ensures; rest = c.new-decoder.ensures }

concat-one : (pieces : List (List ℕ)) (piece : List ℕ) → concat (pieces ++ piece ∷ []) ≡ concat pieces ++ piece
concat-one [] piece = append-nil piece
concat-one (first ∷ pieces) piece = ap (λ octets. first ++ octets) (concat-one pieces piece) ∙ sym (append_assoc first (concat pieces) piece)

-- one piece more
fed_one : (octets piece kept : List ℕ) (payloads : List (List ℕ)) → payloads ≡ (packets octets).payloads → kept ≡ (packets octets).rest
    → packets (octets ++ piece) ≡ after_payloads payloads (packets (kept ++ piece))
fed_one octets piece kept payloads e f = rw (e, f) (packets-append octets piece)

pub loop-piece-preserved : goal.loop-piece-preserved
loop-piece-preserved c =
    let pieces = c.args.pieces.now in
    let i = c.loop-piece.piece-index in
    let piece = c.piece-item.result in
    let so_far : concat (take (i + 1) pieces) ≡ concat (take i pieces) ++ piece =
    ap concat (take_more pieces i piece c.loop-piece-test.true) ∙ rw (← c.piece-item.is) (concat-one (take i pieces) piece) in
    let all = ap packets so_far ∙ fed_one (concat (take i pieces)) piece c.loop-piece.decoder c.loop-piece.payloads c.loop-piece.invariant.payloads c.loop-piece.invariant.rest in
    let kept : c.feed.new.self ≡ c.loop-piece.decoder ++ piece = c.in_ok-feed.ensures.ok ∙ ap (λ octets. c.loop-piece.decoder ++ octets) c.as_slice.ensures in
    record {
      payloads = c.in_ok-take_packets.ensures.payloads ∙ rw kept (ap (λ (s : Split). s.payloads) (sym all));
      rest = c.in_ok-take_packets.ensures.rest ∙ rw kept (ap (λ (s : Split). s.rest) (sym all));
    }
