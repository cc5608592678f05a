-- The names of the functions that a request may call, and how a call's head names one.
use Rattle.std.specs.Prelude.{◌≡◌, ℕ, Bool, false, true, not, ◌&&◌, ◌||◌, if◌then◌else◌, List, [], ◌∷◌, ◌++◌, take, drop, codes, Option, Some, None, option_and_then}
use Rattle.std.specs.List.{find, list_any, before_first, after_first}
use Rattle.std.specs.Option.{option_map_or}
use Rattle.std.specs.Str.{bytes_eq, str_eq_ignore_ascii_case}
use Rattle.lisp_data.specs.declared.sexp.Sexp.{Sexp}
use Rattle.lisp_data.specs.declared.sexp.Sexp.TheVariants as form
use Rattle.lisp_packages.specs.Naming.{is_colon}
use Rattle.step_model.specs.CurrentPackage.{binds_package}
use Rattle.swank_rpc.specs.declared.function.SwankFunction.{SwankFunction}
use Rattle.swank_rpc.specs.declared.function.SwankFunction.TheVariants as function
use Rattle.swank_rpc.specs.declared.function.TheConstants.{FUNCTIONS, UNBUILT}

-- the name of a function, in upper case and without its package
abbrev pub name_of : SwankFunction → List ℕ
name_of function.ConnectionInfo = codes "CONNECTION-INFO"
name_of function.CreateRepl = codes "CREATE-REPL"
name_of function.SetPackage = codes "SET-PACKAGE"
name_of function.SwankRequire = codes "SWANK-REQUIRE"
name_of function.BufferFirstChange = codes "BUFFER-FIRST-CHANGE"
name_of function.InteractiveEval = codes "INTERACTIVE-EVAL"
name_of function.InteractiveEvalRegion = codes "INTERACTIVE-EVAL-REGION"
name_of function.ListenerEval = codes "LISTENER-EVAL"
name_of function.ListAllPackageNames = codes "LIST-ALL-PACKAGE-NAMES"

-- whether a prefix is that of one of the two packages, which name the same functions. Case counts nowhere in a head
abbrev pub is_swank : List ℕ → Bool
is_swank prefix = str_eq_ignore_ascii_case prefix (codes "SWANK") || str_eq_ignore_ascii_case prefix (codes "SWANK-REPL")

-- what stands after the first colon of a head, without a second one that follows at once
abbrev pub without_colon : List ℕ → List ℕ
without_colon rest = if bytes_eq (take 1 rest) (codes ":") then drop 1 rest else rest

-- the name that a token has behind `swank:`, `swank::`, `swank-repl:` or `swank-repl::`
abbrev pub name_in : List ℕ → Option (List ℕ)
name_in token =
    if list_any is_colon token && is_swank (before_first is_colon token) then Some (without_colon (after_first is_colon token)) else None

-- the function of a name
abbrev pub named : List ℕ → Option SwankFunction
named name = find (λ f. str_eq_ignore_ascii_case (name_of f) name) FUNCTIONS

-- whether a name is that of a function that is not built
abbrev pub named_unbuilt : List ℕ → Bool
named_unbuilt name = list_any (λ unbuilt. str_eq_ignore_ascii_case unbuilt.now name) UNBUILT

-- the function that a call's head names
abbrev pub function_of : List ℕ → Option SwankFunction
function_of token = option_and_then named (name_in token)

-- whether a call's head names a function that is not built
abbrev pub is_unbuilt : List ℕ → Bool
is_unbuilt token = option_map_or named_unbuilt (name_in token) false

-- ---- each function, by each of its heads

-- what may stand before a function's name
abbrev pub prefixes : List (List ℕ)
prefixes = codes "SWANK:" ∷ codes "SWANK::" ∷ codes "SWANK-REPL:" ∷ codes "SWANK-REPL::" ∷ []

-- the function's name behind each of these is a head that names it
abbrev pub IsFoundBehind : SwankFunction → List (List ℕ) → Type 0
IsFoundBehind f [] = Unit {0}
IsFoundBehind f (prefix ∷ more) = (function_of (prefix ++ name_of f) ≡ Some f) × IsFoundBehind f more

-- whether a function works in the global package, so that a request of it binds no package
abbrev pub is_global : SwankFunction → Bool
is_global function.CreateRepl = true
is_global function.ListenerEval = true
is_global _ = false

-- a call of the function by its name behind each of these binds the package, unless the function works in the global one
abbrev pub BindsBehind : SwankFunction → List Sexp → List (List ℕ) → Type 0
BindsBehind f arguments [] = Unit {0}
BindsBehind f arguments (prefix ∷ more) =
    (binds_package (form.List (form.Sym (prefix ++ name_of f) ∷ arguments)) ≡ not (is_global f)) × BindsBehind f arguments more
