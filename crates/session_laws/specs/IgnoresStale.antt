-- A restart of an older level does nothing.
use Rattle.std.specs.Prelude.{◌≡◌, ℕ, ℤ, true, [], ◌∷◌, codes, Some}
use Rattle.lisp_data.specs.declared.sexp.Sexp.{Sexp}
use Rattle.lisp_data.specs.declared.sexp.Sexp.TheVariants as form
use Rattle.term_model.specs.declared.focus.Focus.TheVariants as focus
use Rattle.term_model.specs.declared.kept.Outcome.TheVariants as outcome
use Rattle.term_model.specs.Levels.{current_level, served_form}
use Rattle.term_model.specs.Term.{At, plug, split}
use Rattle.step_model.specs.Requests.{asked}
use Rattle.step_model.specs.Rules.{Asked, InvokesNth, Rules}
use Rattle.step_model.specs.Stale.{IsStale}
use Rattle.session_model.specs.Running.{now_of, steps_once}
use Rattle.session_model.specs.World.{Thread, World, tells, thread_at, with_thread}

-- the thread with the reply NIL in the place of its redex
abbrev pub answered_nil : Thread → Thread
answered_nil thread = record thread { term = plug (split thread.term).0 (At (focus.Given (outcome.Reply (form.List [])))) }

-- ---- in the words of the request

-- the form `(swank:invoke-nth-restart-for-emacs L N)`, as it is read
abbrev pub invoke_nth : (level place : ℤ) → Sexp
invoke_nth level place = form.List (form.Sym (codes "SWANK:INVOKE-NTH-RESTART-FOR-EMACS") ∷ form.Int level ∷ form.Int place ∷ [])

-- these rules take that form at its word: its function is served, and it says to invoke the restart at place N of level L
pub record InvokeByForm (rules : Rules) : Type 0 where
  pub served : (level place : ℤ) → rules.built.serves (invoke_nth level place) ≡ true
  pub says : (a : Asked) (level place : ℤ) → a.form ≡ invoke_nth level place → rules.command a ≡ InvokesNth level place

-- where a thread's request is that form, and no level is open, L isn't the current level or that has no restart at place N, the thread's
-- step puts the reply NIL in place, and changes and writes nothing else
pub record IgnoresStaleRequests (rules : Rules) (w : World) : Type 0 where
  pub stale : (t : ℕ) (thread : Thread) (level place : ℤ) → thread_at w t ≡ Some thread → (split thread.term).1 ≡ focus.Rpc
      → served_form (split thread.term).0 ≡ Some (invoke_nth level place)
      → IsStale (current_level (split thread.term).0) level place
      → steps_once rules w t ≡ tells (with_thread w t (Some (answered_nil thread))) []

-- ---- the law

-- where a thread's request says to invoke the restart at a place of a level, and no level is open, that level isn't the current one or
-- has no restart at that place, the thread's step puts the reply NIL in place, and changes and writes nothing else; and so it is of the
-- form, where the rules take it at its word
pub record IgnoresStale (rules : Rules) (w : World) : Type 0 where
  pub stale : (t : ℕ) (thread : Thread) (level place : ℤ) → thread_at w t ≡ Some thread → (split thread.term).1 ≡ focus.Rpc
      → rules.built.serves (asked (now_of w t thread)).form ≡ true → rules.command (asked (now_of w t thread)) ≡ InvokesNth level place
      → IsStale (current_level (split thread.term).0) level place
      → steps_once rules w t ≡ tells (with_thread w t (Some (answered_nil thread))) []
  pub by_form : InvokeByForm rules → IgnoresStaleRequests rules w
