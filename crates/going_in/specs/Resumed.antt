-- What a layer becomes with the value of what is inside it, apart: what its form meets next, or the layer and the value.
use Rattle.std.specs.Prelude.{Option, Some, None}
use Rattle.lisp_data.specs.declared.value.Value.{Value}
use Rattle.term_model.specs.declared.found.Found.{Found}
use Rattle.term_model.specs.declared.plain.Plain.{Plain}
use Rattle.going_in.specs.declared.resuming.Next.{Next}
use Rattle.going_in.specs.declared.resuming.Next.TheVariants.{Goes, Keeps}

-- what the form meets next, where it goes on
abbrev pub found_of : Next → Option Found
found_of (Goes f) = Some f
found_of (Keeps p v) = None

-- the layer and the value that are kept, where they are, and these otherwise
abbrev pub kept_of : Next → Plain × Value → Plain × Value
kept_of (Goes f) kept = kept
kept_of (Keeps p v) kept = (p, v)
