-- Each request that arrives is routed to one thread or refused.
use Rattle.std.proofs.Common.{◌≡◌, ℕ, ℤ, zero, suc, ◌+◌, ◌≢◌, ◌⊎◌, inl, inr, ⊎_elim, Bool, true, false, ◌&&◌, List, [], ◌∷◌, ◌++◌, length, Option, Some, None, refl, sym, ap, ◌∙◌, arith}
use Rattle.std.specs.Prelude.{◌==◌, if◌then◌else◌, slice_get}
use Rattle.std.proofs.lemmas.Bool.{cases_eq, eq-eqb}
use Rattle.std.proofs.lemmas.Bool.Decides.{nat_tests}
use Rattle.rpc_messages.specs.declared.from_emacs.FromEmacs.{FromEmacs}
use Rattle.rpc_messages.specs.declared.from_emacs.FromEmacs.TheVariants as mail
use Rattle.rpc_messages.specs.declared.to_emacs.ToEmacs.TheVariants as message
use Rattle.term_model.specs.declared.question.Ask.TheVariants as question
use Rattle.term_model.specs.Label.{Label, Routed, Refused, Out, Broke}
use Rattle.step_model.specs.Image.{ImageState}
use Rattle.step_model.specs.Moves.{Move, Unasked, Writes, is_request, told}
use Rattle.step_model.specs.Rules.{Rules, Output, NewPackage}
use Rattle.session_model.specs.declared.event.Entry.{Entry}
use Rattle.session_model.specs.declared.event.Event.{Event}
use Rattle.session_model.specs.declared.event.Event.TheVariants.{Arrive, End, Lend, Burst, Drain}
use Rattle.session_model.specs.Journal.{labels}
use Rattle.session_laws.specs.AnswersOnce.{id_at, id_in, id_of, refuses, routes_request}
use Rattle.session_laws.specs.Counting.{count, tally}
use Rattle.session_laws.proofs.Always.{IsLaw, always, asks}
use Rattle.session_laws.proofs.Counts.{count-append, other, own}
use Rattle.session_laws.proofs.SomeLemmas.{none≢some}
use Rattle.session_laws.proofs.Threads.{get-append_last, get-append_other}

-- whether a label says that request i was routed or refused
abbrev pub places : ℕ → Label → Bool
places i (Routed t j (mail.Rex form p thread id)) = j == i
places i (Refused j) = j == i
places i l = false

abbrev arrived : Option Entry → Bool
arrived (Some e) = asks e.event
arrived None = false

IsPlaced : List Entry → List Label → Type 0
IsPlaced j ls = (i : ℕ) → count (places i) ls ≡ tally (arrived (slice_get j i))

none_at : (j : List Entry) → slice_get j (length j) ≡ None
none_at [] = refl
none_at (e ∷ j) = none_at j

-- one more entry
one_more : (j : List Entry) (e : Entry) (i : ℕ) (b : Bool) → asks e.event ≡ b → tally (arrived (slice_get (j ++ e ∷ []) i)) ≡ tally (arrived (slice_get j i)) + (if length j == i then tally b else 0)
one_more j e i b is =
    ⊎_elim
    (λ (same : length j ≡ i).
    let here : slice_get (j ++ e ∷ []) i ≡ Some e = ap (λ k. slice_get (j ++ e ∷ []) k) (sym same) ∙ get-append_last j e in
    let past : slice_get j i ≡ None = ap (λ k. slice_get j k) (sym same) ∙ none_at j in
    let test : length j == i ≡ true = eq-eqb (length j) i same in
    rw (here, past, test, is) (omega arith))
    (λ (ne : length j ≢ i). rw get-append_other (grind (arith, nat_tests)))
    (cases_eq (length j) i)

no_place : (u i : ℕ) (m : Move) → count (places i) (told u m) ≡ 0
no_place u i (Unasked question.String tag) = omega arith
no_place u i (Unasked question.YesNo tag) = omega arith
no_place u i (Writes (Output text b)) = omega arith
no_place u i (Writes (NewPackage name prompt)) = omega arith
no_place u i m = omega arith

one_routed : (t i j : ℕ) (m : FromEmacs) (b : Bool) → is_request m ≡ b → count (places i) (Routed t j m ∷ []) ≡ (if j == i then tally b else 0)
one_routed t i j (mail.Rex form p thread id) b e = rw (← e) (grind (arith, nat_tests))
one_routed t i j (mail.Interrupt thread) b e = rw (← e) (grind (arith, nat_tests))
one_routed t i j (mail.ReturnString thread tag text) b e = rw (← e) (grind (arith, nat_tests))
one_routed t i j (mail.Return thread tag form) b e = rw (← e) (grind (arith, nat_tests))
one_routed t i j (mail.Unreadable packet text) b e = rw (← e) (grind (arith, nat_tests))

routes_one : (past : List Entry) (e : Entry) (t : ℕ) (ls : List Label) (m : FromEmacs) → e.event ≡ Arrive m → IsPlaced past ls → IsPlaced (past ++ e ∷ []) (ls ++ Routed t (length past) m ∷ [])
unfolding IsPlaced
routes_one past e t ls m is h i =
    let b = is_request m in
    omega (arith, count-append (places i) ls (Routed t (length past) m ∷ []), one_routed t i (length past) m b refl, one_more past e i b (ap asks is), h i)

none_more : (n i : ℕ) → (if n == i then tally false else 0) ≡ 0
none_more n i = grind (arith, nat_tests)

one_refused : (n i : ℕ) → tally (n == i) ≡ (if n == i then tally true else 0)
one_refused n i = grind (arith, nat_tests)

law : IsLaw (λ past t ls x. IsPlaced past ls)
unfolding IsPlaced
law = record {
  moves = λ past t ls m ms s mb fits h i. omega (arith, count-append (places i) ls (told t m), no_place t i m, h i);
  aside = λ past t u ls x m ms s mb fits ne g h i. omega (arith, count-append (places i) ls (told u m), no_place u i m, h i);
  later = λ past e t ls x none h i. omega (arith, one_more past e i false none, none_more (length past) i, h i);
  routed = λ past e t ls s m is h. routes_one past e t ls m is h;
  born = λ past e t ls m is h. routes_one past e t ls m is h;
  routed_aside = λ past e t u ls x m is ne h. routes_one past e u ls m is h;
  refused = λ past e t form p thread id text ls x is h i. omega (arith, count-append (places i) ls (Refused (length past) ∷ Out (message.InvalidRpc id text) ∷ []), one_more past e i true (ap asks is), one_refused (length past) i, h i);
  noted = λ past t ls m x is h i. omega (arith, count-append (places i) ls (Out m ∷ []), h i);
  broken = λ past t u ls x h i. omega (arith, count-append (places i) ls (Broke u ∷ []), h i);
  gone = λ past t ls s mb none h. h;
  unborn = λ t i. refl;
  none = λ t i. refl;
  first = λ t i. refl;
}

-- ---- where a request is

-- it was refused, or routed to one thread
pub record Refusal (i : ℕ) (ls : List Label) : Type 0 where
  pub refused : count (refuses i) ls ≡ 1
  pub not_routed : (t : ℕ) → count (routes_request t i) ls ≡ 0

pub record Routing (t i : ℕ) (ls : List Label) : Type 0 where
  pub routed : count (routes_request t i) ls ≡ 1
  pub not_refused : count (refuses i) ls ≡ 0
  pub to_no_other : (u : ℕ) → u ≢ t → count (routes_request u i) ls ≡ 0

abbrev pub Placing : ℕ → List Label → Type 0
Placing i ls = Refusal i ls ⊎ ((t : ℕ) × Routing t i ls)

pub record Nowhere (i : ℕ) (ls : List Label) : Type 0 where
  pub not_refused : count (refuses i) ls ≡ 0
  pub not_routed : (t : ℕ) → count (routes_request t i) ls ≡ 0

no_test : (a b : Bool) → b ≡ false → tally (a && b) ≡ 0
no_test true true e = absurd (cc)
no_test true false e = refl
no_test false b e = refl

zero_test : (b : Bool) → tally b ≡ 0 → b ≡ false
zero_test true e = absurd (omega (arith, e))
zero_test false e = refl

-- a label that places nothing of i
record Silent (i : ℕ) (l : Label) : Type 0 where
  refuses_not : tally (refuses i l) ≡ 0
  routes_not : (t : ℕ) → tally (routes_request t i l) ≡ 0

silent : (i : ℕ) (l : Label) → tally (places i l) ≡ 0 → Silent i l
silent i (Routed u j (mail.Rex form p thread id)) e = record { refuses_not = refl; routes_not = λ t. no_test (u == t) (j == i) (zero_test (j == i) e) }
silent i (Routed u j (mail.Interrupt thread)) e = record { refuses_not = refl; routes_not = λ t. refl }
silent i (Routed u j (mail.ReturnString thread tag text)) e = record { refuses_not = refl; routes_not = λ t. refl }
silent i (Routed u j (mail.Return thread tag form)) e = record { refuses_not = refl; routes_not = λ t. refl }
silent i (Routed u j (mail.Unreadable packet text)) e = record { refuses_not = refl; routes_not = λ t. refl }
silent i (Refused j) e = record { refuses_not = e; routes_not = λ t. refl }
silent i l e = record { refuses_not = refl; routes_not = λ t. refl }

nowhere_past : (i : ℕ) (l : Label) (ls : List Label) → Silent i l → Nowhere i ls → Nowhere i (l ∷ ls)
nowhere_past i l ls s h = record { not_refused = omega (arith, s.refuses_not, h.not_refused); not_routed = λ t. omega (arith, s.routes_not t, h.not_routed t) }

pub nowhere : (i : ℕ) (ls : List Label) → count (places i) ls ≡ 0 → Nowhere i ls
nowhere i [] e = record { not_refused = refl; not_routed = λ t. refl }
nowhere i (l ∷ ls) e = nowhere_past i l ls (silent i l (omega (arith, e))) (nowhere i ls (omega (arith, e)))

placed_past : (i : ℕ) (l : Label) (ls : List Label) → Silent i l → Placing i ls → Placing i (l ∷ ls)
placed_past i l ls s (inl h) = inl (record { refused = omega (arith, s.refuses_not, h.refused); not_routed = λ t. omega (arith, s.routes_not t, h.not_routed t) })
placed_past i l ls s (inr (t, h)) = inr (t, record { routed = omega (arith, s.routes_not t, h.routed); not_refused = omega (arith, s.refuses_not, h.not_refused); to_no_other = λ u ne. omega (arith, s.routes_not u, h.to_no_other u ne) })

-- the label that places i
placed_here : (i : ℕ) (l : Label) (ls : List Label) → tally (places i l) ≡ 1 → Nowhere i ls → Placing i (l ∷ ls)
placed_here i (Routed u j (mail.Rex form p thread id)) ls e h = inr (
  u,
  record {
    routed = omega (arith, own u (j == i), e, h.not_routed u);
    not_refused = omega (arith, h.not_refused);
    to_no_other = λ v ne. omega (arith, other v u (j == i) ne, h.not_routed v);
  },
)
placed_here i (Refused j) ls e h = inl (record { refused = omega (arith, e, h.not_refused); not_routed = λ t. omega (arith, h.not_routed t) })
placed_here i (Routed u j (mail.Interrupt thread)) ls e h = absurd (omega (arith, e))
placed_here i (Routed u j (mail.ReturnString thread tag text)) ls e h = absurd (omega (arith, e))
placed_here i (Routed u j (mail.Return thread tag form)) ls e h = absurd (omega (arith, e))
placed_here i (Routed u j (mail.Unreadable packet text)) ls e h = absurd (omega (arith, e))
placed_here i l ls e h = absurd (omega (arith, e))

placed_by : (i : ℕ) (l : Label) (ls : List Label) (n : ℕ) → tally (places i l) ≡ n → n + count (places i) ls ≡ 1 → (count (places i) ls ≡ 1 → Placing i ls) → Placing i (l ∷ ls)
placed_by i l ls zero is e further = placed_past i l ls (silent i l is) (further (omega (arith, e)))
placed_by i l ls (suc n) is e further = placed_here i l ls (omega (arith, is, e)) (nowhere i ls (omega (arith, e)))

pub placed : (i : ℕ) (ls : List Label) → count (places i) ls ≡ 1 → Placing i ls
placed i [] e = absurd (omega (arith, e))
placed i (l ∷ ls) e = placed_by i l ls (tally (places i l)) refl e (placed i ls)

-- ---- of every journal

id_arrived : (o : Option Entry) (id : ℤ) → id_of o ≡ Some id → arrived o ≡ true
id_arrived None id e = absurd (none≢some e)
id_arrived (Some e) id is = by_event e.event is
  where
    by_event : (v : Event) → id_in v ≡ Some id → asks v ≡ true
    by_event (Arrive (mail.Rex form p thread n)) is = refl
    by_event (Arrive (mail.Interrupt thread)) is = absurd (none≢some is)
    by_event (Arrive (mail.ReturnString thread tag text)) is = absurd (none≢some is)
    by_event (Arrive (mail.Return thread tag form)) is = absurd (none≢some is)
    by_event (Arrive (mail.Unreadable packet text)) is = absurd (none≢some is)
    by_event End is = absurd (none≢some is)
    by_event (Lend t) is = absurd (none≢some is)
    by_event (Burst t n) is = absurd (none≢some is)
    by_event (Drain k) is = absurd (none≢some is)

pub placings : (rules : Rules) (image : ImageState) (j : List Entry) (i : ℕ) → count (places i) (labels rules image j) ≡ tally (arrived (slice_get j i))
unfolding IsPlaced
placings rules image j i = always rules (λ past t ls x. IsPlaced past ls) law image j 0 i

pub request_is_placed : (rules : Rules) (image : ImageState) (j : List Entry) (i : ℕ) (id : ℤ) → id_at j i ≡ Some id → Placing i (labels rules image j)
request_is_placed rules image j i id e = placed i (labels rules image j) (placings rules image j i ∙ ap tally (id_arrived (slice_get j i) id e))

pub placed_or_not : (rules : Rules) (image : ImageState) (j : List Entry) (i : ℕ) → Nowhere i (labels rules image j) ⊎ Placing i (labels rules image j)
placed_or_not rules image j i = by_test (arrived (slice_get j i)) refl
  where
    by_test : (b : Bool) → arrived (slice_get j i) ≡ b → Nowhere i (labels rules image j) ⊎ Placing i (labels rules image j)
    by_test true e = inr (placed i (labels rules image j) (placings rules image j i ∙ ap tally e))
    by_test false e = inl (nowhere i (labels rules image j) (placings rules image j i ∙ ap tally e))
