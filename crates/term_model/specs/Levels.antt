-- Levels of the debugger, and the frames that a level shows: the calls of user functions and the requests of the thread outside it,
-- innermost first, from 0.
use Rattle.std.specs.Prelude.{ℕ, ℤ, ◌+◌, if◌then◌else◌, List, [], ◌∷◌, ◌++◌, length, Option, Some, None}
use Rattle.std.specs.List.{list_any}
use Rattle.lisp_data.specs.declared.sexp.Sexp.{Sexp}
use Rattle.lisp_data.specs.declared.symbol.Symbol.{Symbol}
use Rattle.lisp_data.specs.declared.value.Value.{Value}
use Rattle.lisp_data.specs.declared.value.Condition.{Condition}
use Rattle.term_model.specs.declared.focus.Bound.{Bound}
use Rattle.term_model.specs.declared.frame.Frame.{Frame}
use Rattle.term_model.specs.declared.frame.Frame.TheVariants as frame
use Rattle.term_model.specs.declared.plain.Plain.TheVariants as plain
use Rattle.lisp_data.specs.Same.{same_symbol}
use Rattle.term_model.specs.Search.{Sight, Here, Past, nearest}
use Rattle.term_model.specs.Term.{Context}

-- an open level: its number, its condition, and what is around it
pub record Level : Type 0 where
  pub number : ℕ
  pub condition : Condition
  pub around : Context

-- the innermost level
abbrev pub current_level : Context → Option Level
current_level [] = None
current_level (frame.Sldb n condition again ∷ c) = Some (record { number = n; condition = condition; around = c })
current_level (_ ∷ c) = current_level c

-- the numbers of the levels, the innermost first
abbrev pub level_numbers : Context → List ℕ
level_numbers [] = []
level_numbers (frame.Sldb n condition again ∷ c) = n ∷ level_numbers c
level_numbers (_ ∷ c) = level_numbers c

-- the ids of the pending requests, the innermost first
abbrev pub pending_ids : Context → List ℤ
pending_ids [] = []
pending_ids (frame.Rex i id form ∷ c) = id ∷ pending_ids c
pending_ids (_ ∷ c) = pending_ids c

-- what a layer says of the form of the request that it is
abbrev pub form_in : ℕ → Frame → Sight Sexp
form_in n (frame.Rex i id form) = Here form
form_in n _ = Past

-- the form of the nearest request
abbrev pub served_form : Context → Option Sexp
served_form c = nearest form_in c

-- what a frame of the debugger shows
pub data Shown : Type 0 where
  Called : Symbol → List Value → Shown
  Served : Sexp → Shown

-- a frame: the number of its layer, what it shows, and the layers between it and the next frame inside it, or the level, innermost first
pub record Framed : Type 0 where
  pub layer : ℕ
  pub shown : Shown
  pub inner : Context

-- what of a layer is a frame
abbrev pub shown_in : Frame → Option Shown
shown_in (frame.On (plain.Call f vs)) = Some (Called f vs)
shown_in (frame.Rex i id form) = Some (Served form)
shown_in _ = None

abbrev pub framed_by : Option Shown → Frame → Context → ℕ → (Context → List Framed) → List Framed
framed_by None l inner n further = further (inner ++ l ∷ [])
framed_by (Some shown) l inner n further = (record { layer = n; shown = shown; inner = inner }) ∷ further []

-- the frames of a context, inside which these layers were passed since the last frame
abbrev pub frames_from : Context → Context → List Framed
frames_from inner [] = []
frames_from inner (l ∷ c) = framed_by (shown_in l) l inner (length c + 1) (λ passed. frames_from passed c)

-- the frames of the level that this is around
abbrev pub frames : Context → List Framed
frames c = frames_from [] c

-- the lexical bindings among these layers
abbrev pub lexicals : Context → List Bound
lexicals [] = []
lexicals (frame.On (plain.Lexical x v) ∷ c) = (record { variable = x; value = v }) ∷ lexicals c
lexicals (_ ∷ c) = lexicals c

-- each name once, the first time
abbrev pub once : List Symbol → List Bound → List Bound
once names [] = []
once names (b ∷ bs) = if list_any (same_symbol b.variable) names then once names bs else b ∷ once (b.variable ∷ names) bs

-- the lexical variables of a frame, innermost first
abbrev pub locals : Framed → List Bound
locals f = once [] (lexicals f.inner)

-- the tags of the catches among these layers, innermost first
abbrev pub tags : Context → List Value
tags [] = []
tags (frame.On (plain.Catch v) ∷ c) = v ∷ tags c
tags (_ ∷ c) = tags c

-- the catch tags of a frame, innermost first
abbrev pub catch_tags : Framed → List Value
catch_tags f = tags f.inner
