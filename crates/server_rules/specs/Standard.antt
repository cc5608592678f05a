-- The names that the language has: those of its operators, of its functions, of its types, and the rest.
use Rattle.std.specs.Prelude.{◌≡◌, ℕ, Bool, ◌||◌, List, [], ◌∷◌, Some, codes, is_some}
use Rattle.std.specs.List.{list_any}
use Rattle.std.specs.Str.{bytes_eq}
use Rattle.lisp_builtins.specs.Names.{op_of}
use Rattle.lisp_data.specs.Symbols.{cl}
use Rattle.lisp_packages.specs.Fresh.{standard_packages}
use Rattle.lisp_packages.specs.Packages.{external_at}
use Rattle.lisp_syntax.specs.Operators.{operator_of}
use Rattle.lisp_types.specs.Kinds.{type_by_name}
use Rattle.step_model.specs.MachineFunctions.{machine_function}

-- a symbol of COMMON-LISP, in a fresh image, has this name, and is external
abbrev pub IsStandard : List ℕ → Type 0
IsStandard name = external_at standard_packages 0 name ≡ Some (cl name)

abbrev pub AreStandard : List (List ℕ) → Type 0
AreStandard [] = Unit {0}
AreStandard (name ∷ names) = IsStandard name × AreStandard names

-- the names that are neither of an operator nor of a function nor of a type: NIL, the lambda-list keywords, the variable, and the restarts
-- that are no functions
abbrev pub other_names : List (List ℕ)
other_names = codes "NIL" ∷ codes "&OPTIONAL" ∷ codes "&REST" ∷ codes "*PACKAGE*" ∷ codes "USE-VALUE" ∷ codes "STORE-VALUE" ∷ []

-- whether the language has the name
abbrev pub is_known : List ℕ → Bool
is_known name =
    is_some (operator_of (cl name)) || is_some (op_of (cl name)) || is_some (machine_function (cl name)) || is_some (type_by_name name)
    || list_any (bytes_eq name) other_names
