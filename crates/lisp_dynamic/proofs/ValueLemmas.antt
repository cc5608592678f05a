-- Setting a dynamic variable: what is given back of the value says whether there was a binding.
use Rattle.std.proofs.Common.{◌≡◌, Option, Some, None, refl, sym, ap}
use Rattle.lisp_data.specs.declared.symbol.Symbol.{Symbol}
use Rattle.lisp_data.specs.declared.value.Value.{Value}
use Rattle.lisp_frames.specs.Stack.{given_back}
use Rattle.step_model.specs.Image.{ImageState, with_global}
use Rattle.step_model.specs.Now.{Now}
use Rattle.step_model.specs.Perform.{sets_or}
use Rattle.std.specs.Prelude.{unwrap_or}
use Rattle.term_model.specs.Term.{Context}
use Rattle.lisp_dynamic.specs.Values.{image_set}

pub set_bound : (o : Option Context) (s : Symbol) (v : Value) (image : ImageState) → given_back v o ≡ None → image ≡ image_set o s v image
set_bound (Some c) s v image e = refl
set_bound None s v image e = absurd (cc)

pub set_global : (o : Option Context) (s : Symbol) (v w : Value) (image : ImageState) → given_back v o ≡ Some w → with_global image s w ≡ image_set o s v image
set_global (Some c) s v w image e = absurd (cc)
set_global None s v w image e = let same : v ≡ w = cc in ap (with_global image s) (sym same)

pub set-in-step : (n : Now) (s : Symbol) (v : Value) (o : Option Context) → sets_or n s v o ≡ record n { context = unwrap_or o n.context; image = image_set o s v n.image }
set-in-step n s v (Some c) = refl
set-in-step n s v None = refl
