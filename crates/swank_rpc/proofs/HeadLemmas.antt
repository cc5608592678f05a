-- Each function is found by its name and by its heads.
use Rattle.std.proofs.Common.{◌≡◌, ◌∙◌, ◌↔◌, ap, refl, sym, ℕ, Bool, true, false, List, [], ◌∷◌}
use Rattle.std.specs.Prelude.{◌++◌, IsTrue, Option, Some, not, map, if◌then◌else◌}
use Rattle.std.specs.Char.{to_ascii_uppercase}
use Rattle.std.specs.List.{find, list_any}
use Rattle.std.specs.Str.{bytes_eq, str_eq_ignore_ascii_case, str_to_ascii_lowercase}
use Rattle.std.proofs.lemmas.Slice.Eq.{bytes_eq-Decides}
use Rattle.lisp_data.specs.declared.sexp.Sexp.{Sexp}
use Rattle.lisp_data.specs.declared.sexp.Sexp.TheVariants as form
use Rattle.step_model.specs.CurrentPackage.{binds_package, unbound_heads}
use Rattle.swank_rpc.specs.Names.{BindsBehind, IsFoundBehind, is_global, name_of, named, named_unbuilt, prefixes}
use Rattle.swank_rpc.specs.declared.function.SwankFunction.{SwankFunction}
use Rattle.swank_rpc.specs.declared.function.SwankFunction.TheVariants as function
use Rattle.swank_rpc.specs.declared.function.TheConstants.{FUNCTIONS}

-- ---- names

abbrev is_named : List ℕ → SwankFunction → Bool
is_named lower f = bytes_eq (str_to_ascii_lowercase (name_of f)) lower

-- what is found passes the test
found-at : (p : SwankFunction → Bool) (f g : SwankFunction) (b : Bool) (o : Option SwankFunction) → p f ≡ b → (o ≡ Some g → p g ≡ true) → (if b then Some f else o) ≡ Some g → p g ≡ true
found-at p f g true o is more e = let same : f ≡ g = cc in ap p (sym same) ∙ is
found-at p f g false o is more e = more e

found : (p : SwankFunction → Bool) (fs : List SwankFunction) (g : SwankFunction) → find p fs ≡ Some g → p g ≡ true
found p [] g e = absurd (cc)
found p (f ∷ fs) g e = found-at p f g (p f) (find p fs) refl (found p fs g) e

by-its-name : (f : SwankFunction) → find (is_named (str_to_ascii_lowercase (name_of f))) FUNCTIONS ≡ Some f
by-its-name function.ConnectionInfo = refl
by-its-name function.CreateRepl = refl
by-its-name function.SetPackage = refl
by-its-name function.SwankRequire = refl
by-its-name function.BufferFirstChange = refl
by-its-name function.InteractiveEval = refl
by-its-name function.InteractiveEvalRegion = refl
by-its-name function.ListenerEval = refl
by-its-name function.ListAllPackageNames = refl

pub names-iff : (name : List ℕ) (f : SwankFunction) → (named name ≡ Some f) ↔ IsTrue (str_eq_ignore_ascii_case (name_of f) name)
names-iff name f = (
  found (is_named (str_to_ascii_lowercase name)) FUNCTIONS f,
  λ e. ap (λ lower. find (is_named lower) FUNCTIONS) (sym ((bytes_eq-Decides (str_to_ascii_lowercase (name_of f)) (str_to_ascii_lowercase name)).0 e)) ∙ by-its-name f,
)

-- ---- heads

pub heads-found : (f : SwankFunction) → IsFoundBehind f prefixes
heads-found function.ConnectionInfo = (refl, (refl, (refl, (refl, tt))))
heads-found function.CreateRepl = (refl, (refl, (refl, (refl, tt))))
heads-found function.SetPackage = (refl, (refl, (refl, (refl, tt))))
heads-found function.SwankRequire = (refl, (refl, (refl, (refl, tt))))
heads-found function.BufferFirstChange = (refl, (refl, (refl, (refl, tt))))
heads-found function.InteractiveEval = (refl, (refl, (refl, (refl, tt))))
heads-found function.InteractiveEvalRegion = (refl, (refl, (refl, (refl, tt))))
heads-found function.ListenerEval = (refl, (refl, (refl, (refl, tt))))
heads-found function.ListAllPackageNames = (refl, (refl, (refl, (refl, tt))))

pub none-unbuilt : (f : SwankFunction) → named_unbuilt (name_of f) ≡ false
none-unbuilt function.ConnectionInfo = refl
none-unbuilt function.CreateRepl = refl
none-unbuilt function.SetPackage = refl
none-unbuilt function.SwankRequire = refl
none-unbuilt function.BufferFirstChange = refl
none-unbuilt function.InteractiveEval = refl
none-unbuilt function.InteractiveEvalRegion = refl
none-unbuilt function.ListenerEval = refl
none-unbuilt function.ListAllPackageNames = refl

-- ---- packages

abbrev is_unbound : List ℕ → Bool
is_unbound token = list_any (bytes_eq (map to_ascii_uppercase token)) unbound_heads

abbrev TestsBehind : SwankFunction → List (List ℕ) → Type 0
TestsBehind f [] = Unit {0}
TestsBehind f (prefix ∷ more) = (is_unbound (prefix ++ name_of f) ≡ is_global f) × TestsBehind f more

tests : (f : SwankFunction) → TestsBehind f prefixes
tests function.ConnectionInfo = (refl, (refl, (refl, (refl, tt))))
tests function.CreateRepl = (refl, (refl, (refl, (refl, tt))))
tests function.SetPackage = (refl, (refl, (refl, (refl, tt))))
tests function.SwankRequire = (refl, (refl, (refl, (refl, tt))))
tests function.BufferFirstChange = (refl, (refl, (refl, (refl, tt))))
tests function.InteractiveEval = (refl, (refl, (refl, (refl, tt))))
tests function.InteractiveEvalRegion = (refl, (refl, (refl, (refl, tt))))
tests function.ListenerEval = (refl, (refl, (refl, (refl, tt))))
tests function.ListAllPackageNames = (refl, (refl, (refl, (refl, tt))))

binds : (token : List ℕ) (arguments : List Sexp) → binds_package (form.List (form.Sym token ∷ arguments)) ≡ not (is_unbound token)
binds token arguments = rw (form.outs-List (form.Sym token ∷ arguments), form.outs-Sym token) refl

binds-behind : (f : SwankFunction) (arguments : List Sexp) (ps : List (List ℕ)) → TestsBehind f ps → BindsBehind f arguments ps
binds-behind f arguments [] e = tt
binds-behind f arguments (prefix ∷ more) e = (binds (prefix ++ name_of f) arguments ∙ ap not e.0, binds-behind f arguments more e.1)

pub calls-bind : (f : SwankFunction) (arguments : List Sexp) → BindsBehind f arguments prefixes
calls-bind f arguments = binds-behind f arguments prefixes (tests f)
