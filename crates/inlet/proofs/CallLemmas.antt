-- The calls on one stream take its packets from the front.
use Rattle.std.proofs.Common.{◌≡◌, ℕ, List, [], ◌∷◌, ◌++◌, refl, sym, ap, ◌∙◌, append_assoc, append-nil}
use Rattle.std.specs.Prelude.{None}
use Rattle.packet_framing.specs.Packets.{Split, first_packet, packets, after_payloads}
use Rattle.packet_framing.proofs.PacketLemmas.{packets-some, packets-none, first_packet-append}
use Rattle.inlet.specs.Calls.{Call, gave, gave_none, Runs, all_read, all_given}
use Rattle.inlet.specs.Messages.{AreMessagesOf, none, next}

-- the messages given are those of the first packets, and the octets kept hold the other packets
pub packets-calls : (kept : List ℕ) (calls : List Call) (last : List ℕ) → Runs kept calls last
    → (payloads : List (List ℕ)) × AreMessagesOf payloads (all_given calls) × (packets (kept ++ all_read calls) ≡ after_payloads payloads (packets last))
packets-calls kept [] last r = ([], none, rw (append-nil kept, r) refl)
packets-calls kept (gave octets message ∷ calls) last r =
    let rest = r.0 in
    let payload = r.1.payload in
    let later = packets-calls rest calls last r.2 in
    let front = first_packet-append (kept ++ octets) (all_read calls) payload rest r.1.front in (
      payload ∷ later.0,
      next payload message later.0 (all_given calls) r.1.is later.1,
      ap packets (sym (append_assoc kept octets (all_read calls)))
          ∙ packets-some ((kept ++ octets) ++ all_read calls) payload (rest ++ all_read calls) front
          ∙ ap (after_payloads (payload ∷ [])) later.2,
    )
packets-calls kept (gave_none octets ∷ calls) last r =
    let later = packets-calls (kept ++ octets) calls last r in
    (later.0, later.1, ap packets (sym (append_assoc kept octets (all_read calls))) ∙ later.2)

-- where no packet is kept, they are the messages of the stream
pub messages-calls : (calls : List Call) (last : List ℕ) → Runs [] calls last → first_packet last ≡ None
    → AreMessagesOf (packets (all_read calls)).payloads (all_given calls) × ((packets (all_read calls)).rest ≡ last)
messages-calls calls last r empty =
    let all = packets-calls [] calls last r in
    let whole : packets (all_read calls) ≡ record { payloads = all.0; rest = last } = all.2 ∙ rw (packets-none last empty, append-nil all.0) refl in
    (rw whole all.1, ap (λ (s : Split). s.rest) whole)
