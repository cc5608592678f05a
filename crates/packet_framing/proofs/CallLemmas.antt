-- The calls of one decoder.
use Rattle.std.proofs.Common.{◌≡◌, ℕ, List, [], ◌∷◌, ◌++◌, refl, sym, ap, ◌∙◌, append_assoc, append-nil}
use Rattle.packet_framing.specs.Calls.{Call, fed, answered, Runs, all_fed, given_by, all_given}
use Rattle.packet_framing.specs.Decoder.{Gives}
use Rattle.packet_framing.specs.Packets.{after_first, packets, after_payloads}
use Rattle.packet_framing.specs.declared.decoder.Next.{Next}
use Rattle.packet_framing.specs.declared.decoder.Next.TheVariants.{Packet, NotYet, BadHeader}
use Rattle.packet_framing.proofs.PacketLemmas.{first_packet-append, first_packet-bad, packets-some}

-- what an answer gave comes first, and the others are those of the octets that it left
packets-answered : (kept more : List ℕ) (next : Next) → Gives kept next → packets (kept ++ more) ≡ after_payloads (given_by next) (packets (after_first kept ++ more))
packets-answered kept more (Packet payload) given =
    packets-some (kept ++ more) payload.now (after_first kept ++ more) (first_packet-append kept more payload.now (after_first kept) given)
packets-answered kept more NotYet given = rw given.no_packet refl
packets-answered kept more BadHeader given = rw (first_packet-bad kept given) refl

-- the payloads given are the first ones, and the octets kept hold the others and the rest
pub packets-runs : (kept : List ℕ) (calls : List Call) (last : List ℕ) → Runs kept calls last
    → packets (kept ++ all_fed calls) ≡ after_payloads (all_given calls) (packets last)
packets-runs kept [] last r = rw (append-nil kept, r) refl
packets-runs kept (fed piece ∷ calls) last r = rw (← append_assoc kept piece (all_fed calls)) (packets-runs (kept ++ piece) calls last r)
packets-runs kept (answered next ∷ calls) last r =
    packets-answered kept (all_fed calls) next r.0 ∙ ap (after_payloads (given_by next)) (packets-runs (after_first kept) calls last r.1)
    ∙ ap (λ (payloads : List (List ℕ)). record { payloads = payloads; rest = (packets last).rest }) (sym (append_assoc (given_by next) (all_given calls) (packets last).payloads))
