-- A burst whose steps are known: what it makes of the world, and what it tells.
use Rattle.std.proofs.Common.{◌≡◌, ◌∙◌, ap, refl, ℕ, List, [], ◌∷◌, length}
use Rattle.std.specs.Prelude.{Option, Some, None, ◌++◌}
use Rattle.session_model.specs.Running.{is_over, now_of, settles, step_of, steps}
use Rattle.session_model.specs.World.{Happened, Thread, World, silent, then, thread_at}
use Rattle.term_model.specs.Label.{Label}
use Rattle.step_model.specs.Now.{Now}
use Rattle.step_model.specs.Rules.{Rules}
use Rattle.step_model.specs.AsBuilt.{step_as_built}

abbrev happened : World → List Label → Happened
happened w ls = record { after = w; labels = ls }

-- the step of a thread leaves this
abbrev pub Leaves : Rules → World → ℕ → Now → Option Thread → Type 0
Leaves rules w t n (Some thread) = step_as_built rules.built rules (now_of w t thread) ≡ n
Leaves rules w t n None = ⊥

-- what it makes of the world then
abbrev pub left_by : World → ℕ → Now → Option Thread → Happened
left_by w t n (Some thread) = settles w t thread n (is_over t n)
left_by w t n None = silent w

-- the thread of a number makes these steps, one after another
abbrev pub Makes : Rules → World → ℕ → List Now → Type 0
Makes rules w t [] = Unit {0}
Makes rules w t (n ∷ ns) = Leaves rules w t n (thread_at w t) × Makes rules (left_by w t n (thread_at w t)).after t ns

-- what they make of the world
abbrev pub made : World → ℕ → List Now → Happened
made w t [] = silent w
made w t (n ∷ ns) = then (left_by w t n (thread_at w t)) (λ v. made v t ns)

leaves-left : (rules : Rules) (w : World) (t : ℕ) (n : Now) (thread : Option Thread) → Leaves rules w t n thread → step_of rules w t thread ≡ left_by w t n thread
leaves-left rules w t n (Some thread) e = ap (λ (m : Now). settles w t thread m (is_over t m)) e
leaves-left rules w t n None e = absurd e

pub makes-made : (rules : Rules) (t : ℕ) (ns : List Now) (w : World) → Makes rules w t ns → steps rules (length ns) t w ≡ made w t ns
makes-made rules t [] w e = refl
makes-made rules t (n ∷ ns) w e =
    ap (λ (h : Happened). then h (steps rules (length ns) t)) (leaves-left rules w t n (thread_at w t) e.0)
    ∙ ap (λ (g : Happened). happened (g.after) ((left_by w t n (thread_at w t)).labels ++ g.labels)) (makes-made rules t ns (left_by w t n (thread_at w t)).after e.1)
