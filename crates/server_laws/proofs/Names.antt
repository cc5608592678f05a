-- Naming symbols makes no package, and renames none.
use Rattle.std.proofs.Common.{◌≡◌, ℕ, Bool, true, false, List, [], ◌∷◌, map, Option, Some, None, Ok, Err, sym, ap, ◌∙◌, subst}
use Rattle.std.specs.Prelude.{if◌then◌else◌, Result}
use Rattle.std.specs.List.{list_any, before_first, after_first}
use Rattle.std.specs.Option.{option_map_or}
use Rattle.std.specs.Str.{bytes_eq}
use Rattle.lisp_data.specs.declared.sexp.Sexp.{Sexp, map-Sexp}
use Rattle.lisp_data.specs.declared.sexp.Sexp.TheOpen.{Sexp-F}
use Rattle.lisp_data.specs.declared.sexp.Sexp.TheFolds.{fold-roll-Sexp, ind-Sexp}
use Rattle.lisp_data.specs.declared.sexp.Sexp.TheViews.{roll-Sexp}
use Rattle.lisp_data.specs.declared.symbol.Symbol.{Symbol}
use Rattle.lisp_data.specs.Symbols.{common_lisp, keyword_package}
use Rattle.lisp_packages.specs.declared.entry.Entry.{Entry}
use Rattle.lisp_packages.specs.declared.fault.NameFault.{NameFault}
use Rattle.lisp_packages.specs.declared.lisp_package.Package.{Package}
use Rattle.lisp_packages.specs.Entries.{entry_of}
use Rattle.lisp_packages.specs.Naming.{AllValued, Named, Valued, external_named, in_named, in_turn, interned, is_colon, keyword_named, list_valued, made_symbol, named, prefixed, qualified, symbol_valued, value_before, value_step, value_then, valued}
use Rattle.lisp_packages.specs.Packages.{accessible, external_at, name_at, own_at, place_of, with_own}
use Rattle.server_laws.specs.Small.{are_short}
use Rattle.server_laws.proofs.ShortNames.{are_short-own}

abbrev pub AreShort : List Package → Type 0
AreShort ps = are_short ps ≡ true

-- other symbols in a package
short-own : (ps : List Package) (i : ℕ) (own : List Entry) → AreShort ps → AreShort (with_own ps i own)
short-own ps i own h = are_short-own ps i own ∙ h

-- the packages of an answer
abbrev pub IsShortAnswer : {X : Type 0} → Result (List Package × X) NameFault → Type 0
IsShortAnswer (Ok found) = AreShort found.0
IsShortAnswer (Err why) = Unit {0}

chosen : {X : Type 0} (b : Bool) (why : NameFault) (found : List Package × X) → AreShort found.0 → IsShortAnswer (if b then Err why else Ok found)
chosen true why found h = tt
chosen false why found h = h

or_else : {A X : Type 0} (f : A → Result (List Package × X) NameFault) (o : Option A) (otherwise : Result (List Package × X) NameFault)
    → ((a : A) → IsShortAnswer (f a)) → IsShortAnswer otherwise → IsShortAnswer (option_map_or f o otherwise)
or_else f None otherwise h k = k
or_else f (Some a) otherwise h k = h a

made_short : (ps : List Package) (i : ℕ) (name : List ℕ) → AreShort ps → IsShortAnswer (made_symbol ps i name)
made_short ps i name h = chosen (bytes_eq (name_at ps i) common_lisp) _ _ (short-own ps i _ h)

interned_short : (ps : List Package) (i : ℕ) (name : List ℕ) → AreShort ps → IsShortAnswer (interned ps i name)
interned_short ps i name h = or_else (λ (symbol : Symbol). Ok (ps, symbol)) (accessible ps i name) (made_symbol ps i name) (λ symbol. h) (made_short ps i name h)

keyword_short : (ps : List Package) (i : ℕ) (name : List ℕ) → AreShort ps → IsShortAnswer (keyword_named ps i name)
keyword_short ps i name h = or_else (λ (entry : Entry). Ok (ps, entry.symbol)) (entry_of (own_at ps i) name) (made_symbol ps i name) (λ entry. h) (made_short ps i name h)

external_short : (ps : List Package) (i : ℕ) (name : List ℕ) → AreShort ps → IsShortAnswer (external_named ps i name)
external_short ps i name h = or_else (λ (symbol : Symbol). Ok (ps, symbol)) (external_at ps i name) _ (λ symbol. h) tt

pub in_named_short : {X : Type 0} (ps : List Package) (text : List ℕ) (rest : ℕ → Result (List Package × X) NameFault) → ((i : ℕ) → IsShortAnswer (rest i)) → IsShortAnswer (in_named ps text rest)
in_named_short ps text rest h = or_else rest (place_of ps text) _ h tt

qualified_if : (b : Bool) (ps : List Package) (i : ℕ) (whole name : List ℕ) → AreShort ps → IsShortAnswer (if b then interned ps i name else external_named ps i whole)
qualified_if true ps i whole name h = interned_short ps i name h
qualified_if false ps i whole name h = external_short ps i whole h

qualified_short : (ps : List Package) (i : ℕ) (name : List ℕ) → AreShort ps → IsShortAnswer (qualified ps i name)
qualified_short ps i [] h = external_short ps i [] h
qualified_short ps i (c ∷ name) h = qualified_if (is_colon c) ps i (c ∷ name) name h

prefixed_short : (ps : List Package) (prefix rest : List ℕ) → AreShort ps → IsShortAnswer (prefixed ps prefix rest)
prefixed_short ps [] rest h = in_named_short ps keyword_package (λ i. keyword_named ps i rest) (λ i. keyword_short ps i rest h)
prefixed_short ps (c ∷ prefix) rest h = in_named_short ps (c ∷ prefix) (λ i. qualified ps i rest) (λ i. qualified_short ps i rest h)

named_if : (b : Bool) (ps : List Package) (current : ℕ) (token : List ℕ) → AreShort ps
    → IsShortAnswer (if b then prefixed ps (before_first is_colon token) (after_first is_colon token) else interned ps current token)
named_if true ps current token h = prefixed_short ps (before_first is_colon token) (after_first is_colon token) h
named_if false ps current token h = interned_short ps current token h

named_short : (ps : List Package) (current : ℕ) (token : List ℕ) → AreShort ps → IsShortAnswer (named ps current token)
named_short ps current token h = named_if (list_any is_colon token) ps current token h

symbol_short : (n : Named) → IsShortAnswer n → IsShortAnswer (symbol_valued n)
symbol_short (Ok found) h = h
symbol_short (Err why) h = tt

before_short : (v : _) (r : AllValued) → IsShortAnswer r → IsShortAnswer (value_before v r)
before_short v (Ok found) h = h
before_short v (Err why) h = tt

then_short : (first : Valued) (rest : List Package → AllValued) → IsShortAnswer first → ((ps : List Package) → AreShort ps → IsShortAnswer (rest ps)) → IsShortAnswer (value_then first rest)
then_short (Ok found) rest h k = before_short found.1 (rest found.0) (k found.0 h)
then_short (Err why) rest h k = tt

list_short : (r : AllValued) → IsShortAnswer r → IsShortAnswer (list_valued r)
list_short (Ok found) h = h
list_short (Err why) h = tt

-- a form's value leaves names short
abbrev KeepsShort : ℕ → Sexp → Type 0
KeepsShort current form = (ps : List Package) → AreShort ps → IsShortAnswer (valued current form ps)

turn_short : {X : Type 0} (current : ℕ) (bare : X → Sexp) → ((x : X) → KeepsShort current (bare x)) → (items : List X) (ps : List Package) → AreShort ps → IsShortAnswer (in_turn (map (valued current) (map bare items)) ps)
turn_short current bare holds [] ps h = h
turn_short current bare holds (x ∷ items) ps h =
    then_short (valued current (bare x) ps) (in_turn (map (valued current) (map bare items))) (holds x ps h) (turn_short current bare holds items)

layer_short : {X : Type 0} (current : ℕ) (bare : X → Sexp) → ((x : X) → KeepsShort current (bare x)) → (y : Sexp-F X) → KeepsShort current (roll-Sexp (map-Sexp X Sexp bare y))
layer_short current bare holds y ps h =
    subst IsShortAnswer (sym (ap (λ (f : List Package → Valued). f ps) (fold-roll-Sexp (List Package → Valued) (value_step current) (map-Sexp _ Sexp bare y)))) (by_layer y)
  where
    by_layer : (y : Sexp-F _) → IsShortAnswer (value_step current (map-Sexp Sexp (List Package → Valued) (valued current) (map-Sexp _ Sexp bare y)) ps)
    by_layer (Sexp-F.Int n) = h
    by_layer (Sexp-F.Str text) = h
    by_layer (Sexp-F.Sym token) = symbol_short (named ps current token) (named_short ps current token h)
    by_layer (Sexp-F.List items) = list_short _ (turn_short current bare holds items ps h)

pub valued_short : (current : ℕ) (form : Sexp) → KeepsShort current form
valued_short current = ind-Sexp (KeepsShort current) (λ x y is. subst (λ z. KeepsShort current (roll-Sexp z)) is (layer_short current (λ e. e.0) (λ e. e.1) y))
