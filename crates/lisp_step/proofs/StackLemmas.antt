-- Going on inside simple layers, as it is seen on the stack.
use Rattle.std.proofs.Common.{◌≡◌, ℕ, Bool, true, false, List, [], ◌∷◌, Option, Some, None, refl, ap, ◌∙◌}
use Rattle.std.specs.Prelude.{unwrap_or}
use Rattle.lisp_data.specs.declared.value.Value.{Value}
use Rattle.lisp_frames.specs.Resumed.{next_in}
use Rattle.lisp_frames.specs.Stack.{StackState, with_redex}
use Rattle.server_rules.specs.Simple.{are_simple}
use Rattle.step_model.specs.Now.{Now, around}
use Rattle.step_model.specs.Perform.{exhausted, laid, lays, lays_if}
use Rattle.step_model.specs.Perform as act
use Rattle.term_model.specs.declared.focus.Focus.{Focus}
use Rattle.term_model.specs.declared.focus.Focus.TheVariants as focus
use Rattle.term_model.specs.declared.found.Found.{Found}
use Rattle.term_model.specs.declared.found.Found.TheVariants.{Already, Here, Inside}
use Rattle.term_model.specs.declared.frame.Frame.TheVariants as frame
use Rattle.term_model.specs.declared.kept.Outcome.{Outcome}
use Rattle.term_model.specs.declared.kept.Outcome.TheVariants as outcome
use Rattle.term_model.specs.declared.plain.Plain.{Plain}
use Rattle.term_model.specs.GoingIn.{resumed}
use Rattle.term_model.specs.Room.{is_within, levels, room, wrap}
use Rattle.term_model.specs.Term.{Context}
use Rattle.lisp_step.specs.Machine.{stack_of}
use Rattle.lisp_step.specs.Rows.{given, given_value, gone, laid_if, resumed_by}
use Rattle.lisp_step.specs.Rows as row
use Rattle.server_rules.proofs.SimpleLemmas.{cut_off-simple, exhausted-leaves, simple_rest}
use Rattle.lisp_step.proofs.LevelLemmas.{wrap-levels}

-- the same thread with this stack
abbrev pub onto : Now → StackState → Now
onto n s = record n { context = s.context; redex = s.redex; serial = s.serial }

-- ---- laying

laid-in : (n : Now) → n.most ≡ 0 → (c : Context) (r : Option Focus)
    → laid (around n c) r ≡ onto n (record { context = c; redex = unwrap_or r focus.Abort; serial = n.serial })
laid-in n z c (Some f) = refl
laid-in n z c None = exhausted-leaves (around n c) z

lays-if : (n : Now) → n.most ≡ 0 → (ps : List Plain) (found : Found) (within : Bool) → are_simple n.context ≡ true
    → lays_if within n ps found ≡ onto n (laid_if within (with_redex focus.Abort (stack_of n)) ps found)
lays-if n z ps found true e =
    let w = wrap (room n.context) n.context ps found in
    laid-in n z w.around w.redex
lays-if n z ps found false e =
    ap (λ (c : Context). exhausted (around n c)) (cut_off-simple n.context e) ∙ exhausted-leaves n z

pub lays-laid : (n : Now) → n.most ≡ 0 → (ps : List Plain) (found : Found) → are_simple n.context ≡ true → lays n ps found ≡ onto n (row.laid (stack_of n) ps found)
lays-laid n z ps found e = lays-if n z ps found (is_within n.context) e

laid-levels-if : (s : StackState) (ps : List Plain) (found : Found) (within : Bool) → levels (laid_if within s ps found).context ≡ levels s.context
laid-levels-if s ps found true = wrap-levels (room s.context) s.context ps found
laid-levels-if s ps found false = refl

pub laid-levels : (s : StackState) (ps : List Plain) (found : Found) → levels (row.laid s ps found).context ≡ levels s.context
laid-levels s ps found = laid-levels-if (with_redex focus.Abort s) ps found (is_within s.context)

-- ---- giving

-- a thread with this context around its redex
abbrev at : Now → Context → StackState
at n c = record { context = c; redex = n.redex; serial = n.serial }

given-found : (n : Now) → n.most ≡ 0 → (p : Plain) (c : Context) (v : Value) (found : Option Found) → are_simple c ≡ true
    → act.given n p c v found ≡ onto n (resumed_by found v (at n (frame.On p ∷ c)))
given-found n z p c v (Some found) e = lays-laid (around n c) z [] found e
given-found n z p c v None e = refl

gives-in : (n : Now) → n.most ≡ 0 → (c : Context) (o : Outcome) → are_simple c ≡ true → act.gives_in n c o ≡ onto n (given (at n c) o)
gives-in n z [] (outcome.Value v) e = refl
gives-in n z [] (outcome.Reply r) e = refl
gives-in n z (frame.On p ∷ c) (outcome.Value v) e = given-found n z p c v (resumed p v) (simple_rest (frame.On p) c e)
gives-in n z (frame.On p ∷ c) (outcome.Reply r) e = refl
gives-in n z (frame.Rex i id form ∷ c) (outcome.Value v) e = refl
gives-in n z (frame.Rex i id form ∷ c) (outcome.Reply r) e = refl
gives-in n z (frame.Protect k cleanup ∷ c) o e = absurd (cc)
gives-in n z (frame.Cleanup k kept ∷ c) o e = absurd (cc)
gives-in n z (frame.Sldb k condition told ∷ c) o e = absurd (cc)
gives-in n z (frame.Ask kind tag ∷ c) o e = absurd (cc)

pub gives-given : (n : Now) → n.most ≡ 0 → (o : Outcome) → are_simple n.context ≡ true → act.gives n o ≡ onto n (given (stack_of n) o)
gives-given n z o e = gives-in n z n.context o e

resumed-levels : (p : Plain) (c : Context) (f : Focus) (k : ℕ) (v : Value) (found : Option Found)
    → levels (resumed_by found v (record { context = frame.On p ∷ c; redex = f; serial = k })).context ≡ levels c
resumed-levels p c f k v (Some found) = laid-levels (record { context = c; redex = f; serial = k }) [] found
resumed-levels p c f k v None = refl

value-levels-in : (c : Context) (f : Focus) (k : ℕ) (v : Value) → levels (given_value (record { context = c; redex = f; serial = k }) v).context ≡ levels c
value-levels-in [] f k v = refl
value-levels-in (frame.On p ∷ c) f k v = resumed-levels p c f k v (resumed p v)
value-levels-in (frame.Rex i id form ∷ c) f k v = refl
value-levels-in (frame.Protect j cleanup ∷ c) f k v = refl
value-levels-in (frame.Cleanup j kept ∷ c) f k v = refl
value-levels-in (frame.Sldb j condition told ∷ c) f k v = refl
value-levels-in (frame.Ask kind tag ∷ c) f k v = refl

pub value-levels : (s : StackState) (v : Value) → levels (given_value s v).context ≡ levels s.context
value-levels s v = value-levels-in s.context s.redex s.serial v

pub given-levels : (s : StackState) (o : Outcome) → levels (given s o).context ≡ levels s.context
given-levels s (outcome.Value v) = value-levels s v
given-levels s (outcome.Reply r) = refl

-- ---- going

pub goes-gone : (n : Now) → n.most ≡ 0 → (ps : List Plain) (found : Found) → are_simple n.context ≡ true → act.goes n ps found ≡ onto n (gone (stack_of n) ps found)
goes-gone n z [] (Already v) e = gives-given n z (outcome.Value v) e
goes-gone n z [] (Here f) e = lays-laid n z [] (Here f) e
goes-gone n z [] (Inside p a) e = lays-laid n z [] (Inside p a) e
goes-gone n z (p ∷ ps) found e = lays-laid n z (p ∷ ps) found e

pub gone-levels : (s : StackState) (ps : List Plain) (found : Found) → levels (gone s ps found).context ≡ levels s.context
gone-levels s [] (Already v) = value-levels s v
gone-levels s [] (Here f) = laid-levels s [] (Here f)
gone-levels s [] (Inside p a) = laid-levels s [] (Inside p a)
gone-levels s (p ∷ ps) found = laid-levels s (p ∷ ps) found

-- ---- what was the redex does not count

resumed-any : (s : StackState) (f : Focus) (v : Value) (found : Option Found) → resumed_by found v (with_redex f s) ≡ resumed_by found v s
resumed-any s f v (Some found) = refl
resumed-any s f v None = refl

pub value-any : (s : StackState) (f : Focus) (v : Value) → given_value (with_redex f s) v ≡ given_value s v
value-any s f v = resumed-any s f v (next_in s.context v)

pub given-any : (s : StackState) (f : Focus) (o : Outcome) → given (with_redex f s) o ≡ given s o
given-any s f (outcome.Value v) = value-any s f v
given-any s f (outcome.Reply r) = refl

pub gone-any : (s : StackState) (f : Focus) (ps : List Plain) (found : Found) → gone (with_redex f s) ps found ≡ gone s ps found
gone-any s f [] (Already v) = value-any s f v
gone-any s f [] (Here g) = refl
gone-any s f [] (Inside p a) = refl
gone-any s f (p ∷ ps) found = refl
