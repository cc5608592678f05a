-- The text of a control text and its arguments (HyperSpec 22.3 and function FORMAT).
use Rattle.std.specs.Prelude.{ℕ, ◌+◌, ◌==◌, Bool, true, false, nat_lt, if◌then◌else◌, List, [], ◌∷◌, ◌++◌, length, encode_utf8, Result, Ok, Err}
use Rattle.std.specs.Str.{chars}
use Rattle.lisp_data.specs.declared.value.Value.{Value}
use Rattle.lisp_data.specs.declared.value.Value.TheOpen.{Value-F}
use Rattle.lisp_data.specs.declared.value.Value.TheViews.{out-Value}
use Rattle.lisp_data.specs.declared.value.Condition.{Condition}
use Rattle.lisp_errors.specs.Limits.{max_weight}
use Rattle.lisp_format.specs.Directives.{tilde, directive_of}
use Rattle.lisp_format.specs.Hexadecimal.{hexadecimal}
use Rattle.lisp_format.specs.declared.directive.Directive.{Directive}
use Rattle.lisp_format.specs.declared.directive.Directive.TheVariants.{Shows, Writes, Unknown}
use Rattle.lisp_format.specs.declared.directive.Style.{Style}
use Rattle.lisp_format.specs.declared.directive.Style.TheVariants.{Aesthetic, Standard, Decimal, Hexadecimal}
use Rattle.lisp_format.specs.declared.fault.FormatFault.{FormatFault}
use Rattle.lisp_format.specs.declared.fault.FormatFault.TheVariants.{BadDirective, TooFewArguments, TooLong}
use Rattle.sexp_printer.specs.UserText.{user_text}

-- one level of a value in base 16: an integer's digits; any other as with `~a`
abbrev pub in_base_16 : List ℕ → Value-F Value Condition → Value → List ℕ
in_base_16 current (Value-F.Int z) value = hexadecimal z
in_base_16 current _ value = user_text current false value

-- an argument's text: without escape, with escape, in decimal, which is how integers print anyway, and in base 16. What is no
-- integer prints with the last two as with the first.
abbrev pub shown : List ℕ → Style → Value → List ℕ
shown current Aesthetic value = user_text current false value
shown current Standard value = user_text current true value
shown current Decimal value = user_text current false value
shown current Hexadecimal value = in_base_16 current (out-Value value) value

-- a text before what is still to come
abbrev pub preceded : List ℕ → Result (List ℕ) FormatFault → Result (List ℕ) FormatFault
preceded text (Ok more) = Ok (text ++ more)
preceded text (Err fault) = Err fault

-- a directive, with what the rest of the control text gives for the arguments that it leaves
abbrev pub obeyed : List ℕ → Directive → (List Value → Result (List ℕ) FormatFault) → List Value → Result (List ℕ) FormatFault
obeyed current (Shows style) rest (value ∷ values) = preceded (shown current style value) (rest values)
obeyed current (Shows style) rest [] = Err TooFewArguments
obeyed current (Writes c) rest values = preceded (encode_utf8 c) (rest values)
obeyed current Unknown rest values = Err BadDirective

-- the rest of a control text, which stands after a tilde or not, with the arguments that are left: a character stands for
-- itself, and a tilde and the character after it are a directive. Arguments beyond the last directive are ignored.
unfoldable pub text_from : List ℕ → Bool → List ℕ → List Value → Result (List ℕ) FormatFault
text_from current false [] values = Ok []
text_from current true [] values = Err BadDirective
text_from current false (c ∷ cs) values =
    if c == tilde then text_from current true cs values else preceded (encode_utf8 c) (text_from current false cs values)
text_from current true (c ∷ cs) values = obeyed current (directive_of c) (text_from current false cs) values

-- a text within the limit: a string of it weighs one more than its octets
abbrev pub within_limit : Result (List ℕ) FormatFault → Result (List ℕ) FormatFault
within_limit (Ok text) = if nat_lt max_weight (1 + length text) then Err TooLong else Ok text
within_limit (Err fault) = Err fault

-- the text that a control text gives for these arguments, or the fault at the first place that has one
unfoldable pub formatted : List ℕ → List ℕ → List Value → Result (List ℕ) FormatFault
formatted current control values = within_limit (text_from current false (chars control) values)
