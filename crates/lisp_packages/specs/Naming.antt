-- The symbol that a token names, and the value of a form.
use Rattle.std.specs.Prelude.{◌≡◌, ℕ, ◌==◌, Bool, List, [], ◌∷◌, Result, Ok, Err, if◌then◌else◌, codes}
use Rattle.std.specs.List.{list_any, before_first, after_first}
use Rattle.std.specs.Option.{option_map_or}
use Rattle.std.specs.Str.{bytes_eq}
use Rattle.lisp_data.specs.Symbols.{common_lisp, keyword_package, value_of_symbol}
use Rattle.lisp_data.specs.declared.symbol.Symbol.{Symbol}
use Rattle.lisp_data.specs.declared.sexp.Sexp.{Sexp}
use Rattle.lisp_data.specs.declared.sexp.Sexp.TheOpen.{Sexp-F}
use Rattle.lisp_data.specs.declared.sexp.Sexp.TheFolds.{fold-Sexp}
use Rattle.lisp_data.specs.declared.value.Value.{Value}
use Rattle.lisp_data.specs.declared.value.Value.TheVariants as value
use Rattle.lisp_packages.specs.declared.entry.Entry.{Entry}
use Rattle.lisp_packages.specs.declared.fault.NameFault.{NameFault}
use Rattle.lisp_packages.specs.declared.fault.NameFault.TheVariants as fault
use Rattle.lisp_packages.specs.declared.lisp_package.Package.{Package}
use Rattle.lisp_packages.specs.Entries.{entry_of, added}
use Rattle.lisp_packages.specs.Packages.{place_of, name_at, own_at, external_at, accessible, with_own}

-- the entry of a symbol that is new in the package of this full name; a keyword is external (HyperSpec 11.1.2.3)
abbrev pub new_entry : List ℕ → List ℕ → Entry
new_entry home name = record { symbol = record { home = home; name = name }; external = bytes_eq home keyword_package }

-- the packages with a new symbol of this name in the one at a place
abbrev pub with_new : List Package → ℕ → List ℕ → List Package
with_new ps i name = with_own ps i (added (own_at ps i) (new_entry (name_at ps i) name))

-- the answer of naming: the packages afterwards, and the symbol
abbrev pub Named : Type 0
Named = Result (List Package × Symbol) NameFault

-- a new symbol of the package at a place; COMMON-LISP gets none
abbrev pub made_symbol : List Package → ℕ → List ℕ → Named
made_symbol ps i name = if bytes_eq (name_at ps i) common_lisp
    then Err (fault.NotExternal name (name_at ps i))
    else Ok (with_new ps i name, (new_entry (name_at ps i) name).symbol)

-- the symbol of a name in the package at a place: the one that is accessible, else a new one (HyperSpec, `intern`)
abbrev pub interned : List Package → ℕ → List ℕ → Named
interned ps i name = option_map_or (λ symbol. Ok (ps, symbol)) (accessible ps i name) (made_symbol ps i name)

-- the keyword of a name: the symbol that is present in KEYWORD, else a new one (HyperSpec 2.3.5)
abbrev pub keyword_named : List Package → ℕ → List ℕ → Named
keyword_named ps i name = option_map_or (λ entry. Ok (ps, entry.symbol)) (entry_of (own_at ps i) name) (made_symbol ps i name)

-- the external symbol of a name in the package at a place
abbrev pub external_named : List Package → ℕ → List ℕ → Named
external_named ps i name = option_map_or (λ symbol. Ok (ps, symbol)) (external_at ps i name) (Err (fault.NotExternal name (name_at ps i)))

-- what this names in the package that a text names, or that there is no such package
abbrev pub in_named : {X : Type 0} → List Package → List ℕ → (ℕ → Result X NameFault) → Result X NameFault
in_named ps text rest = option_map_or rest (place_of ps text) (Err (fault.NoPackage text))

-- a colon
abbrev pub is_colon : ℕ → Bool
is_colon c = c == 58

-- what stands after the first colon of a token, with a package's name before it: after a second colon any symbol of that package,
-- else an external one
abbrev pub qualified : List Package → ℕ → List ℕ → Named
qualified ps i [] = external_named ps i []
qualified ps i (c ∷ name) = if is_colon c then interned ps i name else external_named ps i (c ∷ name)

-- a token with a colon (HyperSpec 2.3.5): nothing before it stands for KEYWORD
abbrev pub prefixed : List Package → List ℕ → List ℕ → Named
prefixed ps [] rest = in_named ps keyword_package (λ i. keyword_named ps i rest)
prefixed ps (c ∷ prefix) rest = in_named ps (c ∷ prefix) (λ i. qualified ps i rest)

-- the symbol that a token names where the package at this place is current
abbrev pub named : List Package → ℕ → List ℕ → Named
named ps current token = if list_any is_colon token
    then prefixed ps (before_first is_colon token) (after_first is_colon token)
    else interned ps current token

-- the answer for a form: the packages afterwards, and the value
abbrev pub Valued : Type 0
Valued = Result (List Package × Value) NameFault

-- the value of a token's symbol
abbrev pub symbol_valued : Named → Valued
symbol_valued (Ok (ps, symbol)) = Ok (ps, value_of_symbol symbol)
symbol_valued (Err why) = Err why

-- the answer for several forms: the packages afterwards, and the values
abbrev pub AllValued : Type 0
AllValued = Result (List Package × List Value) NameFault

-- a value in front of others
abbrev pub value_before : Value → AllValued → AllValued
value_before first (Ok (ps, values)) = Ok (ps, first ∷ values)
value_before first (Err why) = Err why

-- the value of one form, and those of the forms after it in the packages that it left
abbrev pub value_then : Valued → (List Package → AllValued) → AllValued
value_then (Ok (ps, first)) rest = value_before first (rest ps)
value_then (Err why) rest = Err why

-- the values of forms one after another
abbrev pub in_turn : List (List Package → Valued) → List Package → AllValued
in_turn [] ps = Ok (ps, [])
in_turn (form ∷ forms) ps = value_then (form ps) (in_turn forms)

-- a list's value, of its items' values
abbrev pub list_valued : Result (List Package × List Value) NameFault → Valued
list_valued (Ok (ps, values)) = Ok (ps, value.List values)
list_valued (Err why) = Err why

-- one level of a form, with what its items give in their places
abbrev pub value_step : ℕ → Sexp-F (List Package → Valued) → List Package → Valued
value_step current (Sexp-F.Int n) ps = Ok (ps, value.Int n)
value_step current (Sexp-F.Str text) ps = Ok (ps, value.Str text)
value_step current (Sexp-F.Sym token) ps = symbol_valued (named ps current token)
value_step current (Sexp-F.List items) ps = list_valued (in_turn items ps)

-- the value of a form where the package at this place is current: its tokens are named from left to right
abbrev pub valued : ℕ → Sexp → List Package → Valued
valued current = fold-Sexp (List Package → Valued) (value_step current)

-- the answer has this value, whatever the packages are afterwards
abbrev pub Gives : Value → Valued → Type 0
Gives wanted (Ok (ps, given)) = given ≡ wanted
Gives wanted (Err why) = ⊥
