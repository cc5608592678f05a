-- The value of a dynamic variable (HyperSpec 3.1.2.1.1.2): that of its newest binding, else its global one; and what setting it changes.
use Rattle.std.specs.Prelude.{Bool, true, false, Option, Some, None}
use Rattle.std.specs.Option.{option_or}
use Rattle.lisp_data.specs.declared.symbol.Symbol.{Symbol}
use Rattle.lisp_data.specs.declared.value.Value.{Value}
use Rattle.step_model.specs.Image.{ImageState, global, with_global}
use Rattle.term_model.specs.Term.{Context}
use Rattle.term_model.specs.Variables.{dynamic}

abbrev pub value_in : ImageState → Context → Symbol → Option Value
value_in image c s = option_or (dynamic s c) (global image s)

-- the image once a variable was set: the global value is changed only where no binding was
abbrev pub image_set : Option Context → Symbol → Value → ImageState → ImageState
image_set (Some c) s v image = image
image_set None s v image = with_global image s v

-- a value that a request binds, if it binds one
abbrev pub bound_in : Bool → Value → Option Value
bound_in true v = Some v
bound_in false v = None
