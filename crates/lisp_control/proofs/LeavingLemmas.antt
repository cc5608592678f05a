-- An exit past a layer, by what is dropped with that layer.
use Rattle.std.proofs.Common.{◌≡◌, ℕ, zero, suc, ◌-◌, ◌<◌, List, [], ◌∷◌, ◌++◌, Option, Some, None, refl, sym, ap, ◌∙◌, arith}
use Rattle.std.proofs.lemmas.List.{append_assoc}
use Rattle.term_model.specs.declared.question.Ask.TheVariants as question
use Rattle.term_model.specs.declared.frame.Frame.{Frame}
use Rattle.term_model.specs.declared.frame.Frame.TheVariants as frame
use Rattle.term_model.specs.declared.kept.Bring.{Bring}
use Rattle.term_model.specs.declared.kept.Saved.TheVariants as saved
use Rattle.term_model.specs.Exit as exit
use Rattle.term_model.specs.Exit.{past}
use Rattle.term_model.specs.Term.{Context}
use Rattle.lisp_frames.specs.Stack.{innermost, outer}
use Rattle.lisp_control.specs.declared.left.Way.{Way}
use Rattle.lisp_control.specs.declared.left.Met.{Met}
use Rattle.lisp_control.specs.declared.passed.Passed.{Passed}
use Rattle.lisp_control.specs.Leaving.{IsBrought, Reached, behind, kept, left_behind, met_in, next_of, passed_by, passing, past_layer, reached}

-- the exit to a target that brings this, once it has gone so far
abbrev pub left_of : ℕ → ℕ → Bring → Reached → exit.Left
left_of t target b r = left_behind t (kept (saved.Exit target b) r.around r.way.met) (record { passed = r.way.passed; next = next_of b r.way.met })

-- an exit is the way outwards, with what thread t tells of it
exit_passing : (t target : ℕ) (b : Bring) (d : ℕ) (c : Context) → exit.leave t (saved.Exit target b) d c ≡ left_of t target b (passing d c)
exit_passing t target b zero c = refl
exit_passing t target b (suc d) [] = refl
exit_passing t target b (suc d) (frame.Protect k cleanup ∷ c) = refl
exit_passing t target b (suc d) (frame.On p ∷ c) = ap (past t (frame.On p)) (exit_passing t target b d c)
exit_passing t target b (suc d) (frame.Cleanup k x ∷ c) = ap (past t (frame.Cleanup k x)) (exit_passing t target b d c)
exit_passing t target b (suc d) (frame.Rex i id form ∷ c) = ap (past t (frame.Rex i id form)) (exit_passing t target b d c)
exit_passing t target b (suc d) (frame.Sldb n condition again ∷ c) = ap (past t (frame.Sldb n condition again)) (exit_passing t target b d c)
exit_passing t target b (suc d) (frame.Ask question.String tag ∷ c) = ap (past t (frame.Ask question.String tag)) (exit_passing t target b d c)
exit_passing t target b (suc d) (frame.Ask question.YesNo tag ∷ c) = ap (past t (frame.Ask question.YesNo tag)) (exit_passing t target b d c)

pub left_where : (target : ℕ) (b : Bring) (d : ℕ) (c here : Context) (way : Way) → passing d c ≡ reached here way
    → (t : ℕ) → exit.leave t (saved.Exit target b) d c ≡ left_of t target b (reached here way)
left_where target b d c here way e t = exit_passing t target b d c ∙ ap (left_of t target b) e

-- what arrives was brought
pub is_brought : (b : Bring) (met : Option Met) → IsBrought b (next_of b met)
is_brought b None = refl
is_brought b (Some met) = tt

-- ---- the way so far

behind_all : (ps qs : List Passed) (r : Reached) → behind (ps ++ qs) r ≡ behind ps (behind qs r)
behind_all ps qs r = ap (λ all. reached r.around (record { passed = all; met = r.way.met })) (append_assoc ps qs r.way.passed)

-- past a layer that is no protected form, the way goes on
past_plain : (ps : List Passed) (d : ℕ) (x : Frame) (c : Context) → met_in x ≡ None → behind ps (passing (suc d) (x ∷ c)) ≡ behind (ps ++ passed_by x) (passing d c)
past_plain ps d x c e = ap (λ met. behind ps (past_layer met (passed_by x) c (passing d c))) e ∙ sym (behind_all ps (passed_by x) (passing d c))

pub passed_on : (ps : List Passed) (n : ℕ) (l : Frame) (c : Context) → 0 < n → innermost c ≡ Some l → met_in l ≡ None → behind ps (passing n c) ≡ behind (ps ++ passed_by l) (passing (n - 1) (outer c))
passed_on ps zero l c more is none = absurd (omega (arith, more))
passed_on ps (suc d) l [] more is none = absurd (cc)
passed_on ps (suc d) l (x ∷ c) more is none =
    let same : x ≡ l = cc in
    let less : d ≡ suc d - 1 = omega arith in
    past_plain ps d x c (ap met_in same ∙ none) ∙ ap (λ y. behind (ps ++ passed_by y) (passing d c)) same ∙ ap (λ e. behind (ps ++ passed_by l) (passing e c)) less
