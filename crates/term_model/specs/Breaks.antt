-- What an interrupt makes of a term: the redex is to be done after the break; an outcome stays out of the layer that is around it and
-- is brought back by the break's CONTINUE. With as many levels open as there may be the thread leaves by the innermost visible ABORT instead.
use Rattle.std.specs.Prelude.{ℕ, Bool, true, false, ◌&&◌, nat_lt, ◌∷◌, Some, None}
use Rattle.term_model.specs.declared.focus.Focus.{Focus}
use Rattle.term_model.specs.declared.focus.Focus.TheVariants as focus
use Rattle.term_model.specs.declared.frame.Frame.TheVariants.{On}
use Rattle.term_model.specs.declared.plain.Plain.TheVariants.{Before}
use Rattle.term_model.specs.Room.{levels}
use Rattle.term_model.specs.Term.{Term, At, Context, plug, split}

-- how many levels there may be
abbrev pub max_levels : ℕ
max_levels = 64

-- whether one more may be opened, by a program that opens so many
abbrev pub may_open : ℕ → Context → Bool
may_open most c = nat_lt (levels c) most && nat_lt (levels c) max_levels

abbrev pub broken_at : Bool → Context → Focus → Context × Focus
broken_at true c (focus.Given o) = (c, focus.Break (Some o))
broken_at true c f = (On (Before f) ∷ c, focus.Break None)
broken_at false c f = (c, focus.Abort)

abbrev pub broken_in : ℕ → Context × Focus → Term
broken_in most s = let b = broken_at (may_open most s.0) s.0 s.1 in plug b.0 (At b.1)

-- the term after an interrupt
abbrev pub broken : ℕ → Term → Term
broken most t = broken_in most (split t)
