-- What a variable is bound to. A lexical variable and a block are seen up to the nearest call, evaluation or request (HyperSpec 3.1.2.1.1).
use Rattle.std.specs.Prelude.{ℕ, if◌then◌else◌, Option}
use Rattle.lisp_data.specs.declared.symbol.Symbol.{Symbol}
use Rattle.lisp_data.specs.declared.value.Value.{Value}
use Rattle.term_model.specs.declared.frame.Frame.{Frame}
use Rattle.term_model.specs.declared.frame.Frame.TheVariants as frame
use Rattle.term_model.specs.declared.plain.Plain.TheVariants as plain
use Rattle.lisp_data.specs.Same.{same_symbol}
use Rattle.term_model.specs.Search.{Sight, Here, Ends, Past, nearest, changed}
use Rattle.term_model.specs.Term.{Context}

-- what a layer says of a lexical variable
abbrev pub lexical_in : Symbol → ℕ → Frame → Sight Value
lexical_in s n (frame.On (plain.Lexical x v)) = if same_symbol x s then Here v else Past
lexical_in s n (frame.On (plain.Call f vs)) = Ends
lexical_in s n (frame.On plain.Eval) = Ends
lexical_in s n (frame.Rex i id form) = Ends
lexical_in s n _ = Past

-- the value of the nearest lexical binding
abbrev pub lexical : Symbol → Context → Option Value
lexical s c = nearest (lexical_in s) c

-- what a layer says of a dynamic binding
abbrev pub dynamic_in : Symbol → ℕ → Frame → Sight Value
dynamic_in s n (frame.On (plain.Dynamic x v)) = if same_symbol x s then Here v else Past
dynamic_in s n _ = Past

-- the value of the newest dynamic binding
abbrev pub dynamic : Symbol → Context → Option Value
dynamic s c = nearest (dynamic_in s) c

-- the layer with this value, where it is the binding
abbrev pub lexical_to : Symbol → Value → Frame → Sight Frame
lexical_to s v (frame.On (plain.Lexical x w)) = if same_symbol x s then Here (frame.On (plain.Lexical x v)) else Past
lexical_to s v (frame.On (plain.Call f vs)) = Ends
lexical_to s v (frame.On plain.Eval) = Ends
lexical_to s v (frame.Rex i id form) = Ends
lexical_to s v _ = Past

abbrev pub dynamic_to : Symbol → Value → Frame → Sight Frame
dynamic_to s v (frame.On (plain.Dynamic x w)) = if same_symbol x s then Here (frame.On (plain.Dynamic x v)) else Past
dynamic_to s v _ = Past

-- the context with this value in the nearest lexical binding, None where there is none
abbrev pub with_lexical : Symbol → Value → Context → Option Context
with_lexical s v c = changed (lexical_to s v) c

-- the context with this value in the newest dynamic binding, None where there is none
abbrev pub with_dynamic : Symbol → Value → Context → Option Context
with_dynamic s v c = changed (dynamic_to s v) c
