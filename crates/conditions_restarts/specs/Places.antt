-- Where the innermost visible restart of a name is (HyperSpec 9.1.4.2), by what one layer offers.
use Rattle.std.specs.Prelude.{ℕ, ◌+◌, if◌then◌else◌, List, [], ◌∷◌, length, Option, Some, None, codes}
use Rattle.lisp_data.specs.Symbols.{names}
use Rattle.lisp_data.specs.Same.{same_symbol}
use Rattle.lisp_data.specs.declared.symbol.Symbol.{Symbol}
use Rattle.lisp_frames.specs.Stack.{innermost}
use Rattle.term_model.specs.declared.frame.Frame.{Frame}
use Rattle.term_model.specs.declared.frame.Frame.TheVariants as frame
use Rattle.term_model.specs.declared.plain.Plain.{Plain}
use Rattle.term_model.specs.declared.plain.Plain.TheVariants as plain
use Rattle.term_model.specs.declared.restart.Offer.{Offer}
use Rattle.term_model.specs.declared.restart.Restart.{Restart}
use Rattle.term_model.specs.Term.{Context}
use Rattle.conditions_restarts.specs.declared.places.RestartPlace.{RestartPlace}

-- where a visible restart is
abbrev pub place_of : Restart → RestartPlace
place_of r = record { layer = r.at; number = r.number }

-- the place of the first restart of a name, where the first of these has this place
abbrev pub named_from : Symbol → ℕ → List Offer → Option ℕ
named_from name i [] = None
named_from name i (o ∷ os) = if same_symbol o.name name then Some i else named_from name (i + 1) os

abbrev pub offered_in_plain : Symbol → Plain → Option ℕ
offered_in_plain name (plain.Restarts os) = named_from name 0 os
offered_in_plain name _ = None

-- the one restart of a request, where the layer around it is a level
abbrev pub served_in : Symbol → Option Frame → Option ℕ
served_in name (Some (frame.Sldb k condition again)) = if names name (codes "ABORT") then Some 0 else None
served_in name _ = None

-- the place of the restart of a name that a layer offers, with the layer around it
abbrev pub offered_in : Symbol → Frame → Option Frame → Option ℕ
offered_in name (frame.On p) outer = offered_in_plain name p
offered_in name (frame.Rex i id form) outer = served_in name outer
offered_in name _ outer = None

abbrev pub top_place : Symbol → Option RestartPlace
top_place name = if names name (codes "ABORT") then Some (record { layer = 0; number = 0 }) else None

abbrev pub or_further : ℕ → Option ℕ → Option RestartPlace → Option RestartPlace
or_further n (Some i) further = Some (record { layer = n; number = i })
or_further n None further = further

-- the place of the innermost visible restart of a name
abbrev pub find_place : Symbol → Context → Option RestartPlace
find_place name [] = top_place name
find_place name (l ∷ c) = or_further (length c + 1) (offered_in name l (innermost c)) (find_place name c)
