-- The directives of a control text, by the character after the tilde (HyperSpec 22.3).
use Rattle.std.specs.Prelude.{ℕ, ◌==◌, ◌||◌, if◌then◌else◌}
use Rattle.lisp_format.specs.declared.directive.Directive.{Directive}
use Rattle.lisp_format.specs.declared.directive.Directive.TheVariants.{Shows, Writes, Unknown}
use Rattle.lisp_format.specs.declared.directive.Style.TheVariants.{Aesthetic, Standard, Decimal, Hexadecimal}

-- `~`, which begins a directive
abbrev pub tilde : ℕ
tilde = 126

-- `a` (22.3.4.1), `s` (22.3.4.2), `d` (22.3.2.2) and `x` (22.3.2.4), in either case, `%` (22.3.1.2) and `~` (22.3.1.4)
unfoldable pub directive_of : ℕ → Directive
directive_of c =
    if c == 97 || c == 65 then Shows Aesthetic
    else if c == 115 || c == 83 then Shows Standard
    else if c == 100 || c == 68 then Shows Decimal
    else if c == 120 || c == 88 then Shows Hexadecimal
    else if c == 37 then Writes 10
    else if c == 126 then Writes 126
    else Unknown
