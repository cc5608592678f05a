-- One search outwards for all that is looked for among the layers of a thread: what a layer is to it, and the nearest that is sought.
use Rattle.std.specs.Prelude.{ℕ, Bool, if◌then◌else◌, Option, Some, None, option_map}
use Rattle.lisp_data.specs.declared.sexp.Sexp.{Sexp}
use Rattle.lisp_data.specs.declared.symbol.Symbol.{Symbol}
use Rattle.lisp_data.specs.declared.value.Value.{Value}
use Rattle.lisp_data.specs.declared.value.Condition.{Condition}
use Rattle.lisp_data.specs.Same.{same_symbol, same_value}
use Rattle.term_model.specs.declared.frame.Frame.{Frame}
use Rattle.term_model.specs.declared.frame.Frame.TheVariants as frame
use Rattle.term_model.specs.declared.plain.Plain.{Plain}
use Rattle.term_model.specs.declared.plain.Plain.TheVariants as plain
use Rattle.term_model.specs.Levels.{Level}
use Rattle.term_model.specs.Search.{Sight, Here, Ends, Past, nearest}
use Rattle.term_model.specs.Term.{Context}
use Rattle.lisp_frames.specs.declared.sought.Seen.{Seen}
use Rattle.lisp_frames.specs.declared.sought.Seen.TheVariants as seen
use Rattle.lisp_frames.specs.declared.sought.Sought.{Sought}
use Rattle.lisp_frames.specs.declared.sought.Sought.TheVariants as sought
use Rattle.lisp_frames.specs.Stack.{changed_at, with_value}

-- ---- what a layer is to a search

abbrev pub target_if : Bool → Seen
target_if found = if found then seen.Target else seen.Other

abbrev pub lexical_seen : Sought → Symbol → Seen
lexical_seen (sought.Lexical s) x = target_if (same_symbol x s.now)
lexical_seen _ x = seen.Other

abbrev pub dynamic_seen : Sought → Symbol → Seen
dynamic_seen (sought.Dynamic s) x = target_if (same_symbol x s.now)
dynamic_seen _ x = seen.Other

abbrev pub block_seen : Sought → Symbol → Seen
block_seen (sought.Block name) x = target_if (same_symbol x name.now)
block_seen _ x = seen.Other

abbrev pub catch_seen : Sought → Value → Seen
catch_seen (sought.Catch tag) v = target_if (same_value v tag.now)
catch_seen _ v = seen.Other

-- a layer that ends the search for a lexical variable and for a block
abbrev pub end_seen : Sought → Seen
end_seen (sought.Lexical s) = seen.End
end_seen (sought.Block name) = seen.End
end_seen _ = seen.Other

abbrev pub call_seen : Sought → Seen
call_seen sought.Call = seen.Target
call_seen s = end_seen s

abbrev pub request_seen : Sought → Seen
request_seen sought.Request = seen.Target
request_seen s = end_seen s

abbrev pub level_seen : Sought → Seen
level_seen sought.Level = seen.Target
level_seen _ = seen.Other

abbrev pub seen_in : Sought → Plain → Seen
seen_in s (plain.Lexical x v) = lexical_seen s x
seen_in s (plain.Dynamic x v) = dynamic_seen s x
seen_in s (plain.Block x) = block_seen s x
seen_in s (plain.Catch v) = catch_seen s v
seen_in s (plain.Call f vs) = call_seen s
seen_in s plain.Eval = end_seen s
seen_in s _ = seen.Other

abbrev pub sees : Sought → Frame → Seen
sees s (frame.On p) = seen_in s p
sees s (frame.Rex i id form) = request_seen s
sees s (frame.Sldb n condition again) = level_seen s
sees s _ = seen.Other

-- ---- the nearest

abbrev pub sight_of : ℕ × Frame → Seen → Sight (ℕ × Frame)
sight_of found seen.Target = Here found
sight_of found seen.End = Ends
sight_of found seen.Other = Past

-- the nearest layer that is sought, with its number, counted from the top, which is 0
abbrev pub nearest_sought : Sought → Context → Option (ℕ × Frame)
nearest_sought s c = nearest (λ n l. sight_of (n, l) (sees s l)) c

-- the context with this value in the nearest binding that is sought, None where there is none
abbrev pub with_sought : Sought → Value → Context → Option Context
with_sought s v c = option_map (λ found. changed_at found.0 (with_value v) c) (nearest_sought s c)

-- ---- what stands in a layer

-- the value of a binding
abbrev pub value_in_plain : Plain → Option Value
value_in_plain (plain.Lexical x v) = Some v
value_in_plain (plain.Dynamic x v) = Some v
value_in_plain _ = None

abbrev pub value_in : Frame → Option Value
value_in (frame.On p) = value_in_plain p
value_in _ = None

-- the form of a request
abbrev pub form_in : Frame → Option Sexp
form_in (frame.Rex i id form) = Some form
form_in _ = None

-- the number of a level, and its condition
abbrev pub level_in : Frame → Option (ℕ × Condition)
level_in (frame.Sldb n condition again) = Some (n, condition)
level_in _ = None

abbrev pub shown : Level → ℕ × Condition
shown level = (level.number, level.condition)
