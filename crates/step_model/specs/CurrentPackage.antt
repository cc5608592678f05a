-- The current package (HyperSpec 11.1.1.3, and the variable *PACKAGE*): the one that the newest binding's value names, COMMON-LISP-USER
-- where that names none; the global package is the one that the global value names.
use Rattle.std.specs.Prelude.{ℕ, ◌-◌, Bool, not, ◌&&◌, if◌then◌else◌, nat_lt, List, [], ◌∷◌, length, take, drop, map, Option, Some, None, unwrap_or, codes}
use Rattle.std.specs.Char.{to_ascii_uppercase}
use Rattle.std.specs.List.{list_any}
use Rattle.std.specs.Option.{option_map_or, option_or}
use Rattle.std.specs.Str.{bytes_eq}
use Rattle.lisp_data.specs.declared.sexp.Sexp.{Sexp}
use Rattle.lisp_data.specs.declared.sexp.Sexp.TheOpen.{Sexp-F}
use Rattle.lisp_data.specs.declared.sexp.Sexp.TheViews.{out-Sexp}
use Rattle.lisp_data.specs.declared.symbol.Symbol.{Symbol}
use Rattle.lisp_data.specs.declared.value.Value.{Value}
use Rattle.lisp_data.specs.declared.value.Value as value
use Rattle.lisp_data.specs.declared.value.Value.TheOpen.{Value-F}
use Rattle.lisp_data.specs.declared.value.Value.TheViews.{out-Value}
use Rattle.lisp_data.specs.declared.value.Condition.{Condition}
use Rattle.lisp_packages.specs.declared.lisp_package.Package.{Package}
use Rattle.lisp_packages.specs.Packages.{name_at, place_of}
use Rattle.lisp_data.specs.Symbols.{cl}
use Rattle.term_model.specs.Term.{Context}
use Rattle.term_model.specs.Variables.{dynamic}
use Rattle.step_model.specs.Image.{ImageState, global}

abbrev pub package_variable : Symbol
package_variable = cl (codes "*PACKAGE*")

abbrev pub user_package : List ℕ
user_package = codes "COMMON-LISP-USER"

abbrev pub named_by : List Package → Value-F Value Condition → List ℕ
named_by ps (Value-F.Str text) = option_map_or (name_at ps) (place_of ps text) user_package
named_by ps _ = user_package

-- the full name of the package that a value names
abbrev pub package_of : List Package → Option Value → List ℕ
package_of ps (Some v) = named_by ps (out-Value v)
package_of ps None = user_package

abbrev pub global_package : ImageState → List ℕ
global_package image = package_of image.packages (global image package_variable)

abbrev pub current_package : ImageState → Context → List ℕ
current_package image c = package_of image.packages (option_or (dynamic package_variable c) (global image package_variable))

-- what a request's package is written with: `#:` or `:` before it, and double quotes around it
abbrev pub without_mark : List ℕ → List ℕ
without_mark text = if bytes_eq (take 2 text) (codes "#:") then drop 2 text else if bytes_eq (take 1 text) (codes ":") then drop 1 text else text

abbrev pub is_quoted : List ℕ → Bool
is_quoted text = nat_lt 1 (length text) && bytes_eq (take 1 text) (codes "\"") && bytes_eq (drop (length text - 1) text) (codes "\"")

abbrev pub without_quotes : List ℕ → List ℕ
without_quotes text = if is_quoted text then drop 1 (take (length text - 1) text) else text

abbrev pub bare_name : List ℕ → List ℕ
bare_name text = map to_ascii_uppercase (without_quotes (without_mark text))

-- the global value of the variable
abbrev pub global_value : ImageState → Value
global_value image = unwrap_or (global image package_variable) (value.Str user_package)

abbrev pub bound_if : Option ℕ → List ℕ → Value → Value
bound_if (Some place) name otherwise = value.Str name
bound_if None name otherwise = otherwise

-- what a request binds the variable to: its package's name where that names a package, else the global value
abbrev pub bound_package : ImageState → Option (List ℕ) → Value
bound_package image None = global_value image
bound_package image (Some text) = bound_if (place_of image.packages (bare_name text)) (bare_name text) (global_value image)

-- the two functions that work in the global package, by each of their prefixes
abbrev pub unbound_heads : List (List ℕ)
unbound_heads = codes "SWANK:LISTENER-EVAL" ∷ codes "SWANK::LISTENER-EVAL" ∷ codes "SWANK-REPL:LISTENER-EVAL" ∷ codes "SWANK-REPL::LISTENER-EVAL"
    ∷ codes "SWANK:CREATE-REPL" ∷ codes "SWANK::CREATE-REPL" ∷ codes "SWANK-REPL:CREATE-REPL" ∷ codes "SWANK-REPL::CREATE-REPL" ∷ []

abbrev pub head_in : Sexp-F Sexp → List ℕ
head_in (Sexp-F.Sym token) = map to_ascii_uppercase token
head_in _ = []

abbrev pub headed_by : Sexp-F Sexp → List ℕ
headed_by (Sexp-F.List (head ∷ arguments)) = head_in (out-Sexp head)
headed_by _ = []

-- whether the request of this form binds the variable
abbrev pub binds_package : Sexp → Bool
binds_package form = not (list_any (bytes_eq (headed_by (out-Sexp form))) unbound_heads)
