-- The image of a session, and what a change of it gives. An image is seen as this record of four parts.
use Rattle.std.specs.Prelude.{◌≢◌, ◌<◌, ◌^◌, ℕ, Bool, is_some, List, [], ◌∷◌, Option, codes, slice_get, MatchOption}
use Rattle.lisp_data.specs.declared.symbol.Symbol.{Symbol}
use Rattle.lisp_data.specs.declared.value.Value.{Value}
use Rattle.lisp_data.specs.declared.value.Value.TheVariants as value
use Rattle.lisp_data.specs.Symbols.{cl, common_lisp, keyword_package}
use Rattle.lisp_packages.specs.declared.lisp_package.Package.{Package}
use Rattle.lisp_image.specs.declared.function.Function.{Function}
use Rattle.lisp_image.specs.SymbolMap.{value_of, with_value}

pub record ImageState : Type 0 where
  -- the packages, in order of making
  pub packages : List Package
  -- the global values of variables
  pub globals : List (Symbol × Value)
  -- the variables that are proclaimed special
  pub specials : List (Symbol × Unit {0})
  -- the user functions, in order of first definition
  pub functions : List (Symbol × Function)

-- the global value of a variable
abbrev pub global : ImageState → Symbol → Option Value
global image s = value_of image.globals s

-- whether a variable is proclaimed special (HyperSpec, `special`)
abbrev pub is_special : ImageState → Symbol → Bool
is_special image s = is_some (value_of image.specials s)

-- the user function of a symbol
abbrev pub function : ImageState → Symbol → Option Function
function image s = value_of image.functions s

-- the n-th user function in order of first definition, with its symbol
abbrev pub function_at : ImageState → ℕ → Option (Symbol × Function)
function_at image n = slice_get image.functions n

-- the image with this global value of a variable
abbrev pub with_global : ImageState → Symbol → Value → ImageState
with_global image s v = record image { globals = with_value image.globals s v }

-- the image with a variable proclaimed special
abbrev pub with_special : ImageState → Symbol → ImageState
with_special image s = record image { specials = with_value image.specials s tt }

-- the image with this function of a symbol: a redefinition keeps its place in the order
abbrev pub with_function : ImageState → Symbol → Function → ImageState
with_function image s f = record image { functions = with_value image.functions s f }

-- the image with other packages
abbrev pub with_packages : ImageState → List Package → ImageState
with_packages image ps = record image { packages = ps }

-- the symbol may name a user function: it is no symbol of COMMON-LISP and no keyword
pub record IsFunctionName (s : Symbol) : Type 0 where
  pub not_standard : s.home ≢ common_lisp
  pub not_keyword : s.home ≢ keyword_package

-- the place of the function's text, if it has one, has an offset that a signed number holds
abbrev pub HasSmallOffset : Function → Type 0
HasSmallOffset f = MatchOption f.source (Unit {0}) (λ place. place.offset < 2 ^ 63)

-- the variable that holds the name of the current package
abbrev pub package_variable : Symbol
package_variable = cl (codes "*PACKAGE*")

-- the image with these packages, `*PACKAGE*` special with the global value "COMMON-LISP-USER", and no other global, special or function
abbrev pub fresh_image : List Package → ImageState
fresh_image ps = record {
  packages = ps;
  globals = (package_variable, value.Str (codes "COMMON-LISP-USER")) ∷ [];
  specials = (package_variable, tt) ∷ [];
  functions = [];
}
