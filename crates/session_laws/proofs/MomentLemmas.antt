-- Moments of a journal: each beginning is one, each step of a burst makes one, those of a legal journal are legal, and what is told by
-- then is a beginning of what the journal tells.
use Rattle.std.proofs.Common.{◌≡◌, ℕ, zero, suc, ◌+◌, ◌-◌, ◌<◌, ◌≤◌, List, [], ◌∷◌, ◌++◌, refl, sym, ap, ◌∙◌, append_assoc, append-nil, arith}
use Rattle.term_model.specs.Label.{Label}
use Rattle.step_model.specs.Image.{ImageState}
use Rattle.step_model.specs.Rules.{Rules}
use Rattle.session_model.specs.declared.event.Entry.{Entry}
use Rattle.session_model.specs.Journal.{counted, labels, next, run, run_from}
use Rattle.session_model.specs.Legal.{AreLegal, CanMake, IsLegalFrom}
use Rattle.session_model.specs.Running.{bursts, returns, steps, steps_once}
use Rattle.session_model.specs.World.{Happened, World, start, then}
use Rattle.session_laws.specs.Moments.{IsMoment, opening, within, behind, burst}

pub beginning_is_moment : (past rest : List Entry) → IsMoment past (past ++ rest)
beginning_is_moment [] rest = opening
beginning_is_moment (e ∷ past) rest = behind (beginning_is_moment past rest)

pub step_is_moment : (past : List Entry) (seat t k n : ℕ) (rest : List Entry) → 0 < k → k ≤ n → IsMoment (past ++ burst seat t k ∷ []) (past ++ burst seat t n ∷ rest)
step_is_moment [] seat t k n rest some le = within some le
step_is_moment (e ∷ past) seat t k n rest some le = behind (step_is_moment past seat t k n rest some le)

-- ---- bursts

then_in_turn : (h : Happened) (f g : World → Happened) → then h (λ v. then (f v) g) ≡ then (then h f) g
then_in_turn h f g = ap (λ ls. record { after = (g (f h.after).after).after; labels = ls }) (sym (append_assoc h.labels (f h.after).labels (g (f h.after).after).labels))

none_more : (l : ℕ) → 0 + l ≡ l
none_more l = omega arith

one_more : (k l : ℕ) → suc k + l ≡ suc (k + l)
one_more k l = omega arith

-- so many steps, and then so many more
pub steps_in_turn : (rules : Rules) (k l t : ℕ) (w : World) → steps rules (k + l) t w ≡ then (steps rules k t w) (steps rules l t)
steps_in_turn rules zero l t w = ap (λ i. steps rules i t w) (none_more l)
steps_in_turn rules (suc k) l t w =
    let one = steps_once rules w t in
    ap (λ i. steps rules i t w) (one_more k l)
    ∙ ap (λ (h : Happened). record { after = h.after; labels = one.labels ++ h.labels }) (steps_in_turn rules k l t one.after)
    ∙ then_in_turn one (steps rules k t) (steps rules l t)

run_behind : (rules : Rules) (past : List Entry) (e : Entry) (w : World) → (run_from rules w (past ++ e ∷ [])).after ≡ (next rules (run_from rules w past).after e).after
run_behind rules [] e w = refl
run_behind rules (d ∷ past) e w = run_behind rules past e (next rules w d).after

-- what stands in a burst, after one of its steps
pub run_within : (rules : Rules) (image : ImageState) (past : List Entry) (seat t k : ℕ)
    → run rules image (past ++ burst seat t k ∷ []) ≡ (counted (then (steps rules k t (run rules image past)) (returns t))).after
run_within rules image past seat t k = run_behind rules past (burst seat t k) (start image)

-- ---- legal journals

fewer_can_be_made : (rules : Rules) (k n t : ℕ) (w : World) → k ≤ n → CanMake rules n t w → CanMake rules k t w
fewer_can_be_made rules zero n t w le h = tt
fewer_can_be_made rules (suc k) zero t w le h = absurd (omega (arith, le))
fewer_can_be_made rules (suc k) (suc n) t w le h = (h.0, fewer_can_be_made rules k n t (steps_once rules w t).after (omega (arith, le)) h.1)

no_more : (k n m : ℕ) → k ≤ n → n ≤ m → k ≤ m
no_more k n m a b = omega (arith, a, b)

moment_is_legal_from : (rules : Rules) (w : World) {m j : List Entry} → IsMoment m j → AreLegal rules w j → AreLegal rules w m
moment_is_legal_from rules w opening h = tt
moment_is_legal_from rules w (within {seat = seat} {t = t} {k = k} {n = n} some le) h = ((h.0.0, some, no_more k n 256 le h.0.2, fewer_can_be_made rules k n t w le h.0.3), tt)
moment_is_legal_from rules w (behind {e = e} m) h = (h.0, moment_is_legal_from rules (next rules w e).after m h.1)

pub moment_is_legal : (rules : Rules) (image : ImageState) (m j : List Entry) → IsMoment m j → IsLegalFrom rules image j → IsLegalFrom rules image m
moment_is_legal rules image m j is h = moment_is_legal_from rules (start image) is h

-- ---- what is told

-- these labels begin with those
abbrev pub Begins : List Label → List Label → Type 0
Begins ls all = (rest : List Label) × (ls ++ rest ≡ all)

begins_behind : (first ls all : List Label) → Begins ls all → Begins (first ++ ls) (first ++ all)
begins_behind first ls all h = (h.0, append_assoc first ls h.0 ∙ ap (λ l. first ++ l) h.1)

the_rest : (k n : ℕ) → k ≤ n → n ≡ k + (n - k)
the_rest k n le = omega (arith, le)

-- of a burst, fewer steps
begins_within : (rules : Rules) (w : World) (t k n : ℕ) (more : List Label) → k ≤ n → Begins ((bursts rules w t k).labels ++ []) ((bursts rules w t n).labels ++ more)
begins_within rules w t k n more le =
    let first = (steps rules k t w).labels in
    let others = (steps rules (n - k) t (steps rules k t w).after).labels in
    let all : (steps rules n t w).labels ≡ first ++ others = ap (λ i. (steps rules i t w).labels) (the_rest k n le) ∙ ap (λ (h : Happened). h.labels) (steps_in_turn rules k (n - k) t w) in (
      others ++ more,
      ap (λ l. l ++ (others ++ more)) (append-nil (first ++ []) ∙ append-nil first)
          ∙ sym (append_assoc first others more)
          ∙ ap (λ l. l ++ more) (sym all ∙ sym (append-nil (steps rules n t w).labels)),
    )

told_by_moment : (rules : Rules) (w : World) {m j : List Entry} → IsMoment m j → Begins (run_from rules w m).labels (run_from rules w j).labels
told_by_moment rules w (opening {j = j}) = ((run_from rules w j).labels, refl)
told_by_moment rules w (within {seat = seat} {t = t} {k = k} {n = n} {j = j} some le) = begins_within rules w t k n (run_from rules (next rules w (burst seat t n)).after j).labels le
told_by_moment rules w (behind {e = e} {m = m} {j = j} is) =
    let one = next rules w e in
    begins_behind one.labels (run_from rules one.after m).labels (run_from rules one.after j).labels (told_by_moment rules one.after is)

pub moment_tells : (rules : Rules) (image : ImageState) (m j : List Entry) → IsMoment m j → (rest : List Label) × (labels rules image m ++ rest ≡ labels rules image j)
moment_tells rules image m j is = told_by_moment rules (start image) is
