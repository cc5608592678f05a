-- Packets of octets that go on.
use Rattle.std.proofs.Common.{◌≡◌, ℕ, zero, suc, ◌+◌, ◌<◌, ◌≤◌, Bool, true, false, cond, leb, List, [], ◌∷◌, ◌++◌, length, take, drop, inl, inr, refl, ap, ◌∙◌, arith, append_assoc, append-nil, length-append, length-drop, length-take}
use Rattle.std.specs.Prelude.{Option, Some, None, All}
use Rattle.std.proofs.lemmas.Bool.{cases_lt, leb-true, le-leb, leb-false, lt-leb}
use Rattle.std.proofs.lemmas.List.{take-append-le, drop-append-le, take_at, drop_at}
use Rattle.std.proofs.lemmas.List.Elements.{All-head, All-tail}
use Rattle.packet_framing.specs.Packets.{Split, header_value, payload_of, first_packet, split_after, packets_up_to, packets, after_payloads, IsBad, IsUnfinished}
use Rattle.packet_framing.specs.Frames.{header, packet_of, frames}
use Rattle.packet_framing.proofs.HeaderLemmas.{header-of_some, not_digits-of_none, header_value-header, length-header}

-- ---- the packet at the front

guarded : {A : Type 0} (b : Bool) (o : Option A) (x : A) → cond b o None ≡ Some x → (b ≡ true) × (o ≡ Some x)
guarded true o x e = (refl, e)
guarded false o x e = absurd (cc)

unguarded : {A : Type 0} (b : Bool) (x : A) → cond b (Some x) None ≡ None → b ≡ false
unguarded true x e = absurd (cc)
unguarded false x e = refl

-- what a packet at the front is
pub record WholePacket (octets : List ℕ) (taken : List ℕ × List ℕ) : Type 0 where
  pub count : ℕ
  pub header : header_value (take 6 octets) ≡ Some count
  pub room : 6 + count ≤ length octets
  pub is : taken ≡ (take count (drop 6 octets), drop count (drop 6 octets))

payload_some : (octets : List ℕ) (header : Option ℕ) (taken : List ℕ × List ℕ) → payload_of octets header ≡ Some taken
    → (n : ℕ) × (header ≡ Some n) × (n ≤ length octets) × (taken ≡ (take n octets, drop n octets))
payload_some octets None taken e = absurd (cc)
payload_some octets (Some n) taken e =
    let g = guarded (leb n (length octets)) _ _ e in
    (n, refl, leb-true _ _ g.0, let h = g.1 in cc)

-- a header with a value has six octets before it ends
pub six_octets : (octets : List ℕ) (n : ℕ) → header_value (take 6 octets) ≡ Some n → 6 ≤ length octets
six_octets octets n e = let h = header-of_some (take 6 octets) n e in let six = h.six in omega (arith, length-take 6 octets)

pub whole-of_some : (octets rest payload : List ℕ) → first_packet octets ≡ Some (payload, rest) → WholePacket octets (payload, rest)
unfolding first_packet
whole-of_some octets rest payload e =
    let p = payload_some (drop 6 octets) (header_value (take 6 octets)) (payload, rest) e in
    let six = six_octets octets p.0 p.1 in
    record { count = p.0; header = p.1; room = omega (arith, p.2, length-drop 6 octets); is = p.3 }

pub some-of_whole : (octets : List ℕ) (taken : List ℕ × List ℕ) → WholePacket octets taken → first_packet octets ≡ Some taken
unfolding first_packet
some-of_whole octets taken f =
    let room : leb f.count (length (drop 6 octets)) ≡ true = le-leb _ _ (let r = f.room in omega (arith, length-drop 6 octets)) in
    rw (f.header, room, f.is) refl

grown : (octets more : List ℕ) (taken : List ℕ × List ℕ) (n : ℕ) → header_value (take 6 octets) ≡ Some n → 6 + n ≤ length octets
    → taken ≡ (take n (drop 6 octets), drop n (drop 6 octets)) → WholePacket (octets ++ more) (taken.0, taken.1 ++ more)
grown octets more taken n header long is =
    let six : 6 ≤ length octets = omega arith in
    let room : n ≤ length (drop 6 octets) = omega (arith, length-drop 6 octets) in
    record {
      count = n;
      header = rw (take-append-le 6 octets more six) header;
      room = omega (arith, length-append octets more);
      is = rw (drop-append-le 6 octets more six, take-append-le n (drop 6 octets) more room, drop-append-le n (drop 6 octets) more room, is) refl;
    }

-- octets that come later do not change the packet at the front
pub first_packet-append : (octets more payload rest : List ℕ) → first_packet octets ≡ Some (payload, rest) → first_packet (octets ++ more) ≡ Some (payload, rest ++ more)
first_packet-append octets more payload rest e =
    let f = whole-of_some octets rest payload e in
    some-of_whole (octets ++ more) (payload, rest ++ more) (grown octets more (payload, rest) f.count f.header f.room f.is)

-- what a packet at the front leaves is shorter
pub shorter : (octets payload rest : List ℕ) → first_packet octets ≡ Some (payload, rest) → length rest + 6 ≤ length octets
shorter octets payload rest e =
    let f = whole-of_some octets rest payload e in
    let r = f.room in
    let is : rest ≡ drop f.count (drop 6 octets) = ap (λ (t : List ℕ × List ℕ). t.1) f.is in
    rw is (omega (arith, length-drop f.count (drop 6 octets), length-drop 6 octets))

-- ---- where no whole packet is

none-by_header : (octets : List ℕ) (header : Option ℕ) → header_value (take 6 octets) ≡ header → ((n : ℕ) → header ≡ Some n → ⊥) → first_packet octets ≡ None
unfolding first_packet
none-by_header octets None e never = rw e refl
none-by_header octets (Some n) e never = absurd (never n refl)

pub first_packet-short : (octets : List ℕ) → length octets < 6 → first_packet octets ≡ None
first_packet-short octets h = none-by_header octets (header_value (take 6 octets)) refl (λ n e. let six = six_octets octets n e in absurd (omega arith))

pub first_packet-bad : (octets : List ℕ) → IsBad octets → first_packet octets ≡ None
first_packet-bad octets bad = none-by_header octets (header_value (take 6 octets)) refl (λ n e. bad.not_digits (header-of_some (take 6 octets) n e).digits_all)

pub not_bad : (octets : List ℕ) (n : ℕ) → header_value (take 6 octets) ≡ Some n → ¬ IsBad octets
not_bad octets n e bad = bad.not_digits (header-of_some (take 6 octets) n e).digits_all

-- a header's payload that is not whole yet
pub first_packet-room : (octets : List ℕ) (n : ℕ) → header_value (take 6 octets) ≡ Some n → length (drop 6 octets) < n → first_packet octets ≡ None
unfolding first_packet
first_packet-room octets n header short = rw (header, lt-leb _ _ short) refl

pub bad-of_none : (octets : List ℕ) → 6 ≤ length octets → header_value (take 6 octets) ≡ None → IsBad octets
bad-of_none octets six none = record { six = six; not_digits = not_digits-of_none (take 6 octets) (omega (arith, length-take 6 octets)) none }

unfinished_below : (octets : List ℕ) (header : Option ℕ) → header_value (take 6 octets) ≡ header → 6 ≤ length octets → IsUnfinished octets → length octets ≤ 16777220
unfolding first_packet
unfinished_below octets None e six u = absurd (u.not_bad (bad-of_none octets six e))
unfinished_below octets (Some n) e six u =
    let none : payload_of (drop 6 octets) (Some n) ≡ None = rw e at u.no_packet in
    let short = leb-false _ _ (unguarded (leb n (length (drop 6 octets))) _ none) in
    let small = (header-of_some (take 6 octets) n e).small in
    omega (arith, length-drop 6 octets)

-- an unfinished packet is below the largest one
pub unfinished-length : (octets : List ℕ) → IsUnfinished octets → length octets ≤ 16777220
unfinished-length octets u = elim (cases_lt (length octets) 6) [
  | inl short ↦ omega arith
  | inr six ↦ unfinished_below octets (header_value (take 6 octets)) refl six u
]

-- a bad header stays bad
pub bad-append : (octets more : List ℕ) → IsBad octets → IsBad (octets ++ more)
bad-append octets more bad = record { six = omega (arith, length-append octets more, bad.six); not_digits = rw (take-append-le 6 octets more bad.six) bad.not_digits }

-- ---- all packets

same_split : (f g : List ℕ → Split) (octets : List ℕ) (o : Option (List ℕ × List ℕ)) → ((payload rest : List ℕ) → o ≡ Some (payload, rest) → f rest ≡ g rest)
    → split_after f octets o ≡ split_after g octets o
same_split f g octets None same = refl
same_split f g octets (Some taken) same = rw (same taken.0 taken.1 refl) refl

-- enough turns give what more turns give
packets_up_to-enough : (n m : ℕ) (octets : List ℕ) → length octets ≤ n → length octets ≤ m → packets_up_to n octets ≡ packets_up_to m octets
unfolding packets_up_to
packets_up_to-enough zero zero octets a b = refl
packets_up_to-enough zero (suc m) octets a b = rw (first_packet-short octets (omega arith)) refl
packets_up_to-enough (suc n) zero octets a b = rw (first_packet-short octets (omega arith)) refl
packets_up_to-enough (suc n) (suc m) octets a b =
    same_split (packets_up_to n) (packets_up_to m) octets (first_packet octets)
    (λ payload rest e. let s = shorter octets payload rest e in packets_up_to-enough n m rest (omega arith) (omega arith))

step : (n : ℕ) (octets : List ℕ) → length octets ≤ n → packets_up_to n octets ≡ split_after packets octets (first_packet octets)
unfolding packets_up_to
step zero octets a = rw (first_packet-short octets (omega arith)) refl
step (suc n) octets a =
    same_split (packets_up_to n) packets octets (first_packet octets)
    (λ payload rest e. let s = shorter octets payload rest e in packets_up_to-enough n (length rest) rest (omega arith) (omega arith))

-- the stream goes on after the packet at its front
pub packets-step : (octets : List ℕ) → packets octets ≡ split_after packets octets (first_packet octets)
packets-step octets = step (length octets) octets (omega arith)

pub packets-none : (octets : List ℕ) → first_packet octets ≡ None → packets octets ≡ record { payloads = []; rest = octets }
packets-none octets e = packets-step octets ∙ rw e refl

pub packets-some : (octets payload rest : List ℕ) → first_packet octets ≡ Some (payload, rest) → packets octets ≡ after_payloads (payload ∷ []) (packets rest)
packets-some octets payload rest e = packets-step octets ∙ rw e refl

-- ---- later octets

-- the packets of octets and of what comes later, from those of a split of the octets
abbrev Joins : List ℕ → List ℕ → Split → Type 0
Joins octets more split = packets (octets ++ more) ≡ after_payloads split.payloads (packets (split.rest ++ more))

joins_step : (f : List ℕ → Split) (octets more : List ℕ) (o : Option (List ℕ × List ℕ)) → first_packet octets ≡ o
    → ((payload rest : List ℕ) → o ≡ Some (payload, rest) → Joins rest more (f rest)) → Joins octets more (split_after f octets o)
joins_step f octets more None e later = refl
joins_step f octets more (Some taken) e later =
    packets-some (octets ++ more) taken.0 (taken.1 ++ more) (first_packet-append octets more taken.0 taken.1 e) ∙ ap (after_payloads (taken.0 ∷ [])) (later taken.0 taken.1 refl)

joins : (n : ℕ) (octets more : List ℕ) → length octets ≤ n → Joins octets more (packets_up_to n octets)
unfolding packets_up_to
joins zero octets more a = refl
joins (suc n) octets more a =
    joins_step (packets_up_to n) octets more (first_packet octets) refl
    (λ payload rest e. let s = shorter octets payload rest e in joins n rest more (omega arith))

-- the packets of octets that go on: those of the first octets, and then those of their rest as it goes on
pub packets-append : (octets more : List ℕ) → packets (octets ++ more) ≡ after_payloads (packets octets).payloads (packets ((packets octets).rest ++ more))
packets-append octets more = joins (length octets) octets more (omega arith)

rest_step : (f : List ℕ → Split) (octets : List ℕ) (o : Option (List ℕ × List ℕ)) → first_packet octets ≡ o
    → ((payload rest : List ℕ) → o ≡ Some (payload, rest) → first_packet (f rest).rest ≡ None) → first_packet (split_after f octets o).rest ≡ None
rest_step f octets None e later = e
rest_step f octets (Some taken) e later = later taken.0 taken.1 refl

rest_none : (n : ℕ) (octets : List ℕ) → length octets ≤ n → first_packet (packets_up_to n octets).rest ≡ None
unfolding packets_up_to
rest_none zero octets a = first_packet-short octets (omega arith)
rest_none (suc n) octets a =
    rest_step (packets_up_to n) octets (first_packet octets) refl
    (λ payload rest e. let s = shorter octets payload rest e in rest_none n rest (omega arith))

-- no whole packet stands at the front of the rest
pub first_packet-rest : (octets : List ℕ) → first_packet (packets octets).rest ≡ None
first_packet-rest octets = rest_none (length octets) octets (omega arith)

-- where the rest is bad, so is the rest of all that goes on
pub packets-bad : (octets more : List ℕ) → IsBad (packets octets).rest → packets (octets ++ more) ≡ record { payloads = (packets octets).payloads; rest = (packets octets).rest ++ more }
packets-bad octets more bad =
    let rest = (packets octets).rest in
    packets-append octets more ∙ rw (packets-none (rest ++ more) (first_packet-bad (rest ++ more) (bad-append rest more bad)), append-nil (packets octets).payloads) refl

-- ---- packets that are written

pub first_packet-packet_of : (payload more : List ℕ) → length payload ≤ 16777215 → first_packet (packet_of payload ++ more) ≡ Some (payload, more)
first_packet-packet_of payload more small =
    let head = header (length payload) in
    let six : length head ≡ 6 = length-header (length payload) in
    let is_whole : WholePacket (head ++ (payload ++ more)) (payload, more) = record {
      count = length payload;
      header = rw (take_at head (payload ++ more) 6 six) (header_value-header (length payload) small);
      room = omega (arith, length-append head (payload ++ more), length-append payload more);
      is = rw (drop_at head (payload ++ more) 6 six, take_at payload more (length payload) refl, drop_at payload more (length payload) refl) refl;
    } in
    ap first_packet (append_assoc head payload more) ∙ some-of_whole (head ++ (payload ++ more)) (payload, more) is_whole

-- packets at the front are read as their payloads
pub packets-frames : (payloads : List (List ℕ)) (more : List ℕ) → All (λ payload. length payload ≤ 16777215) payloads → packets (frames payloads ++ more) ≡ after_payloads payloads (packets more)
packets-frames [] more small = refl
packets-frames (payload ∷ payloads) more small =
    let fits : List ℕ → Type 0 = λ p. length p ≤ 16777215 in
    let first = first_packet-packet_of payload (frames payloads ++ more) (All-head fits payload payloads small) in
    ap packets (append_assoc (packet_of payload) (frames payloads) more) ∙ packets-some (packet_of payload ++ (frames payloads ++ more)) payload (frames payloads ++ more) first
    ∙ ap (after_payloads (payload ∷ [])) (packets-frames payloads more (All-tail fits payload payloads small))

-- ---- lengths

pub first_packet-length : (octets payload rest : List ℕ) → first_packet octets ≡ Some (payload, rest) → (length payload ≤ 16777215) × (length octets ≡ 6 + length payload + length rest)
first_packet-length octets payload rest e =
    let f = whole-of_some octets rest payload e in
    let room = f.room in
    let small = (header-of_some (take 6 octets) f.count f.header).small in
    let given : payload ≡ take f.count (drop 6 octets) = ap (λ (t : List ℕ × List ℕ). t.0) f.is in
    let left : rest ≡ drop f.count (drop 6 octets) = ap (λ (t : List ℕ × List ℕ). t.1) f.is in
    let count : length payload ≡ f.count = omega (arith, ap length given, length-take f.count (drop 6 octets), length-drop 6 octets) in
    (omega arith, omega (arith, ap length left, length-drop f.count (drop 6 octets), length-drop 6 octets))

-- octets that are no whole packet do not reach the end of the one that they begin
below_whole : (octets : List ℕ) (n : ℕ) → first_packet octets ≡ None → (6 ≤ length octets → header_value (take 6 octets) ≡ Some n) → length octets < 6 + n
below_whole octets n none header = elim (cases_lt (length octets) (6 + n)) [
  | inl short ↦ short
  | inr long ↦
      let whole : WholePacket octets (take n (drop 6 octets), drop n (drop 6 octets)) = record { count = n; header = header (omega arith); room = long; is = refl } in
      absurd (cc (none, some-of_whole octets (take n (drop 6 octets), drop n (drop 6 octets)) whole))
]

-- what is left of the octets that completed a packet is shorter than they are
pub first_packet-completed : (octets more payload rest : List ℕ) → first_packet octets ≡ None → first_packet (octets ++ more) ≡ Some (payload, rest) → length rest < length more
first_packet-completed octets more payload rest none e =
    let f = whole-of_some (octets ++ more) rest payload e in
    let sum = first_packet-length (octets ++ more) payload rest e in
    let room = f.room in
    let below = below_whole octets f.count none (λ six. rw (← take-append-le 6 octets more six) f.header) in
    let left : rest ≡ drop f.count (drop 6 (octets ++ more)) = ap (λ (t : List ℕ × List ℕ). t.1) f.is in
    rw left (omega (arith, length-drop f.count (drop 6 (octets ++ more)), length-drop 6 (octets ++ more), length-append octets more))
