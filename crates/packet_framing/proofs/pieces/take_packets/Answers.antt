use Rattle.std.proofs.Common.{◌≡◌, List, ℕ, [], ◌∷◌, ◌++◌, refl, sym, ap, ◌∙◌, arith, append_assoc, append-nil}
use Rattle.std.specs.Prelude.{None}
use Rattle.std.specs.Borrow.{Bor}
use Rattle.packet_framing.specs.Decoder.{Gives}
use Rattle.packet_framing.specs.Packets.{Split, first_packet, after_first, packets, after_payloads}
use Rattle.packet_framing.specs.declared.decoder.Next.{Next}
use Rattle.packet_framing.specs.declared.decoder.Next.TheVariants.{Packet, NotYet, BadHeader}
use Rattle.packet_framing.proofs.PacketLemmas.{shorter, packets-some, packets-none, first_packet-bad}
use Rattle.packet_framing.proofs.pieces.take_packets.Goals as goal

pub loop-payload-smaller : goal.loop-payload-smaller
loop-payload-smaller c =
    let given = shorter c.loop-payload.decoder c.in-Packet.payload.now (after_first c.loop-payload.decoder) c.in-Packet.ensures.gives in
    rw (c.next.follows.holds-at-none) (omega arith)

-- a payload moved from those that are held to those that were taken
moved : (taken : List (List ℕ)) (payload : List ℕ) (held rest : Split) → held ≡ after_payloads (payload ∷ []) rest
    → ((taken ++ payload ∷ []) ++ rest.payloads ≡ taken ++ held.payloads) × (rest.rest ≡ held.rest)
moved taken payload held rest e = (append_assoc taken (payload ∷ []) rest.payloads ∙ ap (λ (s : Split). taken ++ s.payloads) (sym e), ap (λ (s : Split). s.rest) (sym e))

pub loop-payload-preserved : goal.loop-payload-preserved
loop-payload-preserved c =
    let kept = c.loop-payload.decoder in
    let all = packets-some kept c.in-Packet.payload.now (after_first kept) c.in-Packet.ensures.gives in
    let step = moved c.loop-payload.payloads c.in-Packet.payload.now (packets kept) (packets (after_first kept)) all in
    rw (c.in_ok-push.ensures.ok, c.in_ok-from_slice.ensures, c.next.follows.holds-at-none)
    (record { payloads = step.0 ∙ c.loop-payload.invariant.payloads; rest = step.1 ∙ c.loop-payload.invariant.rest })

none_given : (kept : List ℕ) (next : Next) → Gives kept next → ((payload : Bor (List ℕ)) → next ≡ Packet payload → ⊥) → first_packet kept ≡ None
none_given kept (Packet payload) given never = absurd (never payload refl)
none_given kept NotYet given never = given.no_packet
none_given kept BadHeader given never = first_packet-bad kept given

-- where no packet is given, all were taken
finished : (taken : List (List ℕ)) (kept last : List ℕ) (all : Split) → first_packet kept ≡ None → last ≡ after_first kept
    → taken ++ (packets kept).payloads ≡ all.payloads → (packets kept).rest ≡ all.rest → (taken ≡ all.payloads) × (last ≡ all.rest)
finished taken kept last all none ends payloads rest =
    let p = packets-none kept none in (
      sym (append-nil taken) ∙ ap (λ (s : Split). taken ++ s.payloads) (sym p) ∙ payloads,
      ends ∙ rw none (ap (λ (s : Split). s.rest) (sym p)) ∙ rest,
    )

pub returns : goal.returns
returns c =
    let kept = c.loop-payload.decoder in
    let none = none_given kept c.next.result c.next.ensures.gives c.in_default.not-Packet in
    let all = after_payloads c.args.payloads.now (packets c.args.decoder.now) in
    let done = finished c.loop-payload.payloads kept c.next.follows.lender-at-none all none c.next.follows.holds-at-none c.loop-payload.invariant.payloads c.loop-payload.invariant.rest in
    record { payloads = done.0; rest = done.1 }
