-- What a request's form is as a call, and the arguments that its function takes.
use Rattle.std.specs.Prelude.{ℕ, Bool, true, false, not, if◌then◌else◌, nat_lt, List, [], ◌∷◌, ◌++◌, codes, Option, Some, None}
use Rattle.std.specs.Option.{option_map_or}
use Rattle.std.specs.Str.{str_eq_ignore_ascii_case}
use Rattle.lisp_data.specs.Parts.{form_text, form_token}
use Rattle.lisp_data.specs.Sexp.{weight_of}
use Rattle.lisp_data.specs.declared.sexp.Sexp.{Sexp}
use Rattle.lisp_data.specs.declared.sexp.Sexp.TheOpen.{Sexp-F}
use Rattle.lisp_data.specs.declared.sexp.Sexp.TheViews.{out-Sexp}
use Rattle.lisp_data.specs.declared.type_id.TypeId.TheVariants as type
use Rattle.lisp_data.specs.declared.value.Value.TheVariants as value
use Rattle.lisp_data.specs.declared.value.Condition.{Condition}
use Rattle.lisp_errors.specs.Causes.{undefined_function}
use Rattle.lisp_errors.specs.Limits.{limited, max_weight}
use Rattle.lisp_errors.specs.Texts.{without_datum}
use Rattle.sexp_printer.specs.Printed.{shown}
use Rattle.lisp_data.specs.Symbols.{cl}
use Rattle.swank_rpc.specs.Names.{is_unbuilt}

abbrev pub call_of : Option (List ℕ) → List Sexp → Option (List ℕ × List Sexp)
call_of (Some token) arguments = Some (token, arguments)
call_of None arguments = None

abbrev pub call_in : Sexp-F Sexp → Option (List ℕ × List Sexp)
call_in (Sexp-F.List (head ∷ arguments)) = call_of (form_token head) arguments
call_in _ = None

-- a form's head and its arguments, where it is a list with a symbol as head
abbrev pub parts : Sexp → Option (List ℕ × List Sexp)
parts form = call_in (out-Sexp form)

-- whether a form weighs more than a request's may
abbrev pub is_too_heavy : Sexp → Bool
is_too_heavy form = nat_lt max_weight (weight_of form)

-- whether the function of a form is built. A form that calls none of the functions is served too: it raises
abbrev pub is_served : Sexp → Bool
is_served form = option_map_or (λ call. not (is_unbuilt call.0)) (parts form) true

-- ---- arguments

-- whether a form is the symbol `quote`
abbrev pub is_quote : Sexp-F Sexp → Bool
is_quote (Sexp-F.Sym token) = str_eq_ignore_ascii_case token (codes "QUOTE")
is_quote _ = false

-- an argument that is a string, as a literal or quoted
abbrev pub text_of : Sexp-F Sexp → Option (List ℕ)
text_of (Sexp-F.Str text) = Some text
text_of (Sexp-F.List (mark ∷ quoted ∷ [])) = if is_quote (out-Sexp mark) then form_text quoted else None
text_of _ = None

-- the first argument, where it is a string. Further ones are ignored
abbrev pub first_text : List Sexp → Option (List ℕ)
first_text [] = None
first_text (argument ∷ more) = text_of (out-Sexp argument)

-- ---- refusals

-- a form that is no list with a symbol as head (HyperSpec, condition type PROGRAM-ERROR)
abbrev pub bad_call : Sexp → Condition
bad_call form = limited (without_datum type.ProgramError (codes "Bad form: " ++ shown form))

-- a head that names no function. Its token, which no package resolves, stands as the symbol's name
abbrev pub unknown_function : List ℕ → List ℕ → Condition
unknown_function current token = undefined_function current (value.Sym (cl token))
