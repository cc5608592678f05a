-- Inner cleanups begin before outer ones.
use Rattle.std.proofs.Common.{◌≡◌, ◌≢◌, ℕ, Bool, true, false, List, [], ◌∷◌, ◌++◌, Option, Some, None, refl, ap, ◌∙◌, subst, arith}
use Rattle.std.specs.Prelude.{◌==◌}
use Rattle.std.proofs.lemmas.Bool.Decides.{nat_tests}
use Rattle.term_model.specs.declared.frame.Frame.TheVariants as frame
use Rattle.term_model.specs.declared.question.Ask.TheVariants as question
use Rattle.term_model.specs.Label.{Label}
use Rattle.term_model.specs.Term.{Context}
use Rattle.step_model.proofs.Paths.{as_built_path}
use Rattle.step_model.specs.Marks.{Mark, Protected, Asking, State, marks, state_of}
use Rattle.step_model.specs.Moves.{Protects, Turns, Unasked, Writes, told, removes, adds, Phase, Calm, Made, Turned, Path, stay, go}
use Rattle.step_model.specs.Now.{Now}
use Rattle.step_model.specs.Rules.{Rules, Output, NewPackage}
use Rattle.step_model.specs.AsBuilt.{step_as_built}
use Rattle.session_laws.specs.CleansOnce.{CleansInnermost, begins, innermost_protected}
use Rattle.session_laws.specs.Counting.{count, tally}
use Rattle.session_laws.proofs.Counts.{count-append, own}
use Rattle.session_laws.proofs.StepFacts.{IsOf, step_of_thread}

innermost : List Mark → Option ℕ
innermost [] = None
innermost (Protected k ∷ ms) = Some k
innermost (_ ∷ ms) = innermost ms

-- what a list of moves says of the innermost protected form that stood before it
Before : ℕ → List Mark → List Label → List Mark → Phase → Type 0
Before t ms ls ns Calm = (innermost ms ≡ innermost ns) × ((k : ℕ) → count (begins t k) ls ≡ 0)
Before t ms ls ns Made = (k : ℕ) → count (begins t k) ls ≡ 0
Before t ms ls ns (Turned j) = (innermost ms ≡ Some j) × ((k : ℕ) → count (begins t k) ls ≡ tally (j == k))

quiet : (t : ℕ) (ms : List Mark) (ls new : List Label) (ns os : List Mark) (ph : Phase) → innermost ns ≡ innermost os → ((k : ℕ) → count (begins t k) new ≡ 0) → Before t ms ls ns ph → Before t ms (ls ++ new) os ph
unfolding Before
quiet t ms ls new ns os Calm e none h = (h.0 ∙ e, λ k. omega (arith, count-append (begins t k) ls new, none k, h.1 k))
quiet t ms ls new ns os Made e none h = λ k. omega (arith, count-append (begins t k) ls new, none k, h k)
quiet t ms ls new ns os (Turned j) e none h = (h.0, λ k. omega (arith, count-append (begins t k) ls new, none k, h.1 k))

by_path : (t : ℕ) (a : State) (ls : List Label) (b : State) {ph : Phase} → Path t a ls b ph → Before t a.marks ls b.marks ph
unfolding Before innermost
by_path t a ls b stay = (refl, λ k. refl)
by_path t a ls b (go {ls = old} {ph = ph} (Turns j) ms s mb p fits may) =
    let h = subst (λ q. Before t a.marks old (Protected j ∷ ms) q) may (by_path t a old _ p) in
    (h.0, λ k. omega (arith, count-append (begins t k) old (told t (Turns j)), own t (j == k), h.1 k))
by_path t a ls b (go {ls = old} {ph = ph} (Protects j) ms s mb p fits may) =
    let h = subst (λ q. Before t a.marks old ms q) may (by_path t a old _ p) in
    λ k. omega (arith, count-append (begins t k) old [], h.1 k)
by_path t a ls b (go {ls = old} {ph = ph} (Unasked question.String tag) ms s mb p fits may) =
    quiet t a.marks old (told t (Unasked question.String tag)) (Asking question.String tag ∷ ms) ms ph refl (λ k. refl) (by_path t a old _ p)
by_path t a ls b (go {ls = old} {ph = ph} (Unasked question.YesNo tag) ms s mb p fits may) =
    quiet t a.marks old (told t (Unasked question.YesNo tag)) (Asking question.YesNo tag ∷ ms) ms ph refl (λ k. refl) (by_path t a old _ p)
by_path t a ls b (go {ls = old} {ph = ph} (Writes (Output text r)) ms s mb p fits may) =
    quiet t a.marks old (told t (Writes (Output text r))) ms ms ph refl (λ k. refl) (by_path t a old _ p)
by_path t a ls b (go {ls = old} {ph = ph} (Writes (NewPackage name prompt)) ms s mb p fits may) =
    quiet t a.marks old (told t (Writes (NewPackage name prompt))) ms ms ph refl (λ k. refl) (by_path t a old _ p)
by_path t a ls b (go {ls = old} {ph = ph} m ms s mb p fits may) =
    quiet t a.marks old (told t m) (removes m ++ ms) (adds m ++ ms) ph refl (λ k. refl) (by_path t a old _ p)

from_phase : (t k : ℕ) (ms : List Mark) (ls : List Label) (ns : List Mark) (ph : Phase) → Before t ms ls ns ph → count (begins t k) ls ≢ 0 → innermost ms ≡ Some k
unfolding Before
from_phase t k ms ls ns Calm h some = absurd (some (h.1 k))
from_phase t k ms ls ns Made h some = absurd (some (h k))
from_phase t k ms ls ns (Turned j) h some = let same : j ≡ k = equal (j == k) refl (λ e. some (h.1 k ∙ e)) in h.0 ∙ ap Some same
  where
    equal : (b : Bool) → j == k ≡ b → (tally b ≡ 0 → ⊥) → j ≡ k
    equal true e none = grind (arith, nat_tests)
    equal false e none = absurd (none refl)

innermost-marks : (c : Context) → innermost_protected c ≡ innermost (marks c)
unfolding innermost
innermost-marks [] = refl
innermost-marks (frame.Protect k cleanup ∷ c) = refl
innermost-marks (frame.On p ∷ c) = innermost-marks c
innermost-marks (frame.Cleanup k saved ∷ c) = innermost-marks c
innermost-marks (frame.Rex i id form ∷ c) = innermost-marks c
innermost-marks (frame.Sldb n condition again ∷ c) = innermost-marks c
innermost-marks (frame.Ask kind tag ∷ c) = innermost-marks c

pub cleans_innermost : (rules : Rules) (n : Now) (k : ℕ) → CleansInnermost rules n k
cleans_innermost rules n k some =
    let p = as_built_path rules.built rules n in
    let is : IsOf n.thread (step_as_built rules.built rules n) = step_of_thread rules n in
    let path : Path n.thread (state_of n) (step_as_built rules.built rules n).labels (state_of (step_as_built rules.built rules n)) p.0 = subst (λ u. Path u (state_of n) (step_as_built rules.built rules n).labels (state_of (step_as_built rules.built rules n)) p.0) is.0 p.1 in
    innermost-marks n.context ∙ from_phase n.thread k (marks n.context) (step_as_built rules.built rules n).labels (marks (step_as_built rules.built rules n).context) p.0 (by_path n.thread (state_of n) (step_as_built rules.built rules n).labels (state_of (step_as_built rules.built rules n)) path) some
