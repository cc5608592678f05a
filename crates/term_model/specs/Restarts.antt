-- Restarts (HyperSpec 9.1.4.2). They are seen innermost first, through levels of the debugger too. The top of a thread has an ABORT,
-- and so has each request that a level serves.
use Rattle.std.specs.Prelude.{ℕ, zero, suc, ◌+◌, if◌then◌else◌, List, [], ◌∷◌, ◌++◌, length, take, Option, Some, None, codes, slice_get}
use Rattle.std.specs.Fmt.{decimal}
use Rattle.lisp_data.specs.declared.symbol.Symbol.{Symbol}
use Rattle.lisp_data.specs.declared.value.Value.{Value}
use Rattle.lisp_data.specs.Symbols.{cl}
use Rattle.term_model.specs.declared.frame.Frame.{Frame}
use Rattle.term_model.specs.declared.frame.Frame.TheVariants as frame
use Rattle.term_model.specs.declared.kept.Bring.{Bring}
use Rattle.term_model.specs.declared.kept.Bring.TheVariants as bring
use Rattle.term_model.specs.declared.kept.Leaving.{Leaving}
use Rattle.term_model.specs.declared.kept.Outcome.{Outcome}
use Rattle.term_model.specs.declared.kept.Outcome.TheVariants as outcome
use Rattle.term_model.specs.declared.plain.Plain.TheVariants as plain
use Rattle.term_model.specs.declared.restart.Action.{Action}
use Rattle.term_model.specs.declared.restart.Action.TheVariants.{Give, Run}
use Rattle.term_model.specs.declared.restart.Offer.{Offer}
use Rattle.term_model.specs.declared.restart.Restart.{Restart}
use Rattle.lisp_data.specs.Same.{same_symbol}
use Rattle.term_model.specs.Search.{layer_at}
use Rattle.term_model.specs.Term.{Context}

abbrev pub abort : Symbol
abort = cl (codes "ABORT")

-- the restart of the thread's top
abbrev pub top_restart : Restart
top_restart = record { name = abort; text = codes "Return to SLIME's top level."; at = 0; number = 0 }

-- the restart of a request that a level serves; n is the number of the request's layer, k that of the level
abbrev pub level_restart : ℕ → ℕ → Restart
level_restart n k = record { name = abort; text = codes "Return to sldb level " ++ decimal k ++ codes "."; at = n; number = 0 }

-- the restarts of the layer of this number, the first of which has this place among them
abbrev pub numbered : ℕ → ℕ → List Offer → List Restart
numbered n i [] = []
numbered n i (o ∷ os) = (record { name = o.name; text = o.text; at = n; number = i }) ∷ numbered n (i + 1) os

-- the restarts that a layer offers, with what is around it
abbrev pub offered : ℕ → Frame → Context → List Restart
offered n (frame.On (plain.Restarts os)) c = numbered n 0 os
offered n (frame.Rex i id form) (frame.Sldb k condition again ∷ c) = level_restart n k ∷ []
offered n _ c = []

-- the visible restarts
abbrev pub visible : Context → List Restart
visible [] = top_restart ∷ []
visible (l ∷ c) = offered (length c + 1) l c ++ visible c

-- how many a level lists
abbrev pub max_restarts : ℕ
max_restarts = 1000

-- the restarts of the level whose outside this is
abbrev pub restarts_of_level : Context → List Restart
restarts_of_level outside = take max_restarts (visible outside)

-- the first of these restarts that has the name
abbrev pub first_named : Symbol → List Restart → Option Restart
first_named name [] = None
first_named name (r ∷ rs) = if same_symbol r.name name then Some r else first_named name rs

-- the innermost visible restart of a name
abbrev pub find_restart : Symbol → Context → Option Restart
find_restart name c = first_named name (visible c)

abbrev pub brings : Outcome → Bring
brings (outcome.Value v) = bring.Value v
brings (outcome.Reply r) = bring.Reply r

abbrev pub by_action : ℕ → ℕ → List Value → Action → Leaving
by_action n i vs (Give o) = record { target = n; bring = brings o }
by_action n i vs (Run clause) = record { target = n; bring = bring.Clause i vs }

abbrev pub by_offer : ℕ → ℕ → List Value → Option Offer → Option Leaving
by_offer n i vs None = None
by_offer n i vs (Some o) = Some (by_action n i vs o.action)

abbrev pub nothing_at : ℕ → Leaving
nothing_at n = record { target = n; bring = bring.Nothing }

abbrev pub by_layer : ℕ → ℕ → List Value → Option Frame → Option Leaving
by_layer n i vs (Some (frame.On (plain.Restarts os))) = by_offer n i vs (slice_get os i)
by_layer n i vs (Some (frame.Rex at id form)) = Some (nothing_at n)
by_layer n i vs _ = None

-- the exit that a restart makes with these arguments, by the number of its layer and its place there
abbrev pub invoked : ℕ → ℕ → List Value → Context → Option Leaving
invoked zero i vs c = Some (nothing_at 0)
invoked (suc n) i vs c = by_layer (suc n) i vs (layer_at (suc n) c)

-- the exit of a restart, if there is one
abbrev pub invoking : Option Restart → List Value → Context → Option Leaving
invoking None vs c = None
invoking (Some r) vs c = invoked r.at r.number vs c

abbrev pub or_to_top : Option Leaving → Leaving
or_to_top (Some x) = x
or_to_top None = nothing_at 0

-- the exit by the innermost visible ABORT; the top always has one
abbrev pub abort_exit : Context → Leaving
abort_exit c = or_to_top (invoking (find_restart abort c) [] c)
