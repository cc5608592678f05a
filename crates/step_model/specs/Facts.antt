-- What holds of every thread's term: where requests and waits may stand, where saved exits lead, and what running handlers name. The
-- facts speak of the layers but for the values of variables and for the mark that a level is to be announced again.
use Rattle.std.specs.Prelude.{◌≡◌, ℕ, ◌+◌, ◌≤◌, ◌⊎◌, ◌==◌, Bool, true, false, is_some, [], ◌∷◌, length, map, Option, Some, None, slice_get}
use Rattle.rpc_messages.specs.declared.pattern.Pattern.TheVariants as pattern
use Rattle.term_model.specs.declared.focus.Focus.{Focus}
use Rattle.term_model.specs.declared.focus.Focus.TheVariants as focus
use Rattle.term_model.specs.declared.frame.Frame.{Frame}
use Rattle.term_model.specs.declared.frame.Frame.TheVariants as frame
use Rattle.term_model.specs.declared.kept.Bring.{Bring}
use Rattle.term_model.specs.declared.kept.Bring.TheVariants as bring
use Rattle.term_model.specs.declared.kept.Saved.TheVariants as saved
use Rattle.term_model.specs.declared.plain.Cluster.TheVariants.{Clauses, Ignoring}
use Rattle.term_model.specs.declared.plain.Plain.{Plain}
use Rattle.term_model.specs.declared.plain.Plain.TheVariants as plain
use Rattle.term_model.specs.declared.restart.Action.{Action}
use Rattle.term_model.specs.declared.restart.Action.TheVariants.{Give, Run}
use Rattle.term_model.specs.declared.restart.Offer.{Offer}
use Rattle.term_model.specs.Breaks.{may_open}
use Rattle.lisp_data.specs.Parts.{nil}
use Rattle.term_model.specs.Search.{layer_at}
use Rattle.term_model.specs.Term.{Context}

-- a layer without what assigning and announcing change
abbrev pub bare_plain : Plain → Plain
bare_plain (plain.Lexical x v) = plain.Lexical x nil
bare_plain (plain.Dynamic x v) = plain.Dynamic x nil
bare_plain p = p

abbrev pub bare : Frame → Frame
bare (frame.On p) = frame.On (bare_plain p)
bare (frame.Sldb n condition again) = frame.Sldb n condition false
bare l = l

abbrev pub bares : Context → Context
bares c = map bare c

-- directly inside the top or a level, where requests are awaited
abbrev pub waits : Context → Bool
waits [] = true
waits (frame.Sldb n condition again ∷ c) = true
waits (_ ∷ c) = false

-- the layer of this number has handlers, and no level of the debugger is inside it
abbrev pub are_handlers : Frame → Bool
are_handlers (frame.On (plain.Handlers cluster)) = true
are_handlers _ = false

abbrev pub named_in : Bool → Frame → Bool → Bool
named_in true l further = are_handlers l
named_in false (frame.Sldb n condition again) further = false
named_in false _ further = further

abbrev pub names_handlers : ℕ → Context → Bool
names_handlers p [] = false
names_handlers p (l ∷ c) = named_in (p == length c + 1) l (names_handlers p c)

-- ---- exits

-- a layer that an exit with a value may lead to
abbrev pub TakesValue : Option Frame → Type 0
TakesValue (Some (frame.On (plain.Catch v))) = Unit {0}
TakesValue (Some (frame.On (plain.Block name))) = Unit {0}
TakesValue (Some (frame.On (plain.Restarts offers))) = Unit {0}
TakesValue (Some (frame.On (plain.Call g vs))) = Unit {0}
TakesValue _ = ⊥

-- a layer of handlers
abbrev pub HasHandlers : Option Frame → Type 0
HasHandlers (Some (frame.On (plain.Handlers cluster))) = Unit {0}
HasHandlers _ = ⊥

abbrev pub is_run : Action → Bool
is_run (Give o) = false
is_run (Run clause) = true

-- a restart that runs a clause
abbrev pub is_clause : Option Offer → Bool
is_clause (Some offer) = is_run offer.action
is_clause None = false

-- a layer with a clause of this number; `ignore-errors` has one
abbrev pub HasClause : ℕ → Option Frame → Type 0
HasClause i (Some (frame.On (plain.Handlers (Clauses clauses)))) = is_some (slice_get clauses i) ≡ true
HasClause i (Some (frame.On (plain.Handlers Ignoring))) = i ≡ 0
HasClause i (Some (frame.On (plain.Restarts offers))) = is_clause (slice_get offers i) ≡ true
HasClause i _ = ⊥

abbrev pub IsCall : Option Frame → Type 0
IsCall (Some (frame.On (plain.Call g vs))) = Unit {0}
IsCall _ = ⊥

abbrev pub IsRequest : Option Frame → Type 0
IsRequest (Some (frame.Rex i id form)) = Unit {0}
IsRequest _ = ⊥

-- an exit leads to a layer around it that takes what it brings; one with nothing leads to a request or to the top
abbrev pub TargetFits : ℕ → Bring → Context → Type 0
TargetFits target (bring.Value v) c = (1 ≤ target) × TakesValue (layer_at target c)
TargetFits target (bring.Reply r) c = (1 ≤ target) × TakesValue (layer_at target c)
TargetFits target (bring.Clause i vs) c = (1 ≤ target) × HasClause i (layer_at target c)
TargetFits target bring.Call c = (1 ≤ target) × IsCall (layer_at target c)
TargetFits target bring.Nothing c = (target ≡ 0) ⊎ ((1 ≤ target) × IsRequest (layer_at target c))

-- ---- layers and redexes

-- a redex but leaving may stand in this context: a wait for a request directly in the top or in a level, and everything else inside a
-- request
abbrev pub FocusFits : Focus → Context → Type 0
FocusFits (focus.Wait pattern.Rex) c = waits c ≡ true
FocusFits focus.Abort c = ⊥
FocusFits (focus.SignalPast condition p j) c = (waits c ≡ false) × (names_handlers p c ≡ true)
FocusFits _ c = waits c ≡ false

-- a layer may stand there: a request, or a wait for one that was put off, directly in the top or in a level, and nothing else
abbrev pub LayerFits : Frame → Context → Type 0
LayerFits (frame.Rex i id form) c = waits c ≡ true
LayerFits (frame.On (plain.Before (focus.Wait pattern.Rex))) c = waits c ≡ true
LayerFits (frame.On (plain.Before focus.Abort)) c = ⊥
LayerFits (frame.On (plain.Before (focus.SignalPast condition p j))) c = (waits c ≡ false) × (names_handlers p c ≡ true)
LayerFits (frame.On (plain.Handling p j)) c = (waits c ≡ false) × (names_handlers p c ≡ true)
LayerFits (frame.Cleanup k (saved.Exit target b)) c = (waits c ≡ false) × TargetFits target b c
LayerFits _ c = waits c ≡ false

abbrev pub LayersFit : Context → Type 0
LayersFit [] = Unit {0}
LayersFit (l ∷ c) = LayerFits l c × LayersFit c

-- a thread's redex may stand there: leaving only where no further level may be opened
abbrev pub RedexStands : ℕ → Focus → Context → Type 0
RedexStands most focus.Abort c = may_open most c ≡ false
RedexStands most f c = FocusFits f c

-- the facts of a term, by its redex and what is around it, where so many levels are opened
pub record IsSound (most : ℕ) (c : Context) (f : Focus) : Type 0 where
  pub layers : LayersFit (bares c)
  pub redex : RedexStands most f (bares c)
