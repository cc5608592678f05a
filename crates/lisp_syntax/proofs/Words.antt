-- Symbols, strings, lists and types are read exactly where they fit.
use Rattle.std.proofs.Common.{◌≡◌, ℕ, Bool, true, false, not, List, [], ◌∷◌, refl, sym, ap, ◌∙◌}
use Rattle.std.specs.Prelude.{Some, None, option_and_then, if◌then◌else◌, codes}
use Rattle.std.specs.Str.{bytes_eq}
use Rattle.std.proofs.lemmas.Bool.{and_parts}
use Rattle.std.proofs.lemmas.Slice.Eq.{bytes_eq-Decides}
use Rattle.lisp_data.specs.declared.symbol.Symbol.{Symbol}
use Rattle.lisp_data.specs.declared.type_id.TypeId.{TypeId}
use Rattle.lisp_data.specs.declared.value.Value.{Value}
use Rattle.lisp_data.specs.declared.value.Value as value
use Rattle.lisp_data.specs.declared.value.Value.TheOpen.{Value-F}
use Rattle.lisp_data.specs.declared.value.Value.TheViews.{out-Value}
use Rattle.lisp_data.specs.declared.value.Condition.{Condition}
use Rattle.lisp_data.specs.Parts.{value_items, value_items_in, value_text, value_text_in}
use Rattle.lisp_data.specs.Symbols.{cl, keyword, is_keyword, is_nil, is_of_common_lisp, value_of_symbol}
use Rattle.lisp_data.specs.TypeNames.{name_of as type_name}
use Rattle.lisp_types.specs.Kinds.{type_by_name}
use Rattle.lisp_types.proofs.KindLemmas.{type_by_name_iff}
use Rattle.lisp_syntax.specs.Symbols.{is_readable, is_variable}
use Rattle.lisp_syntax.specs.Parts.{symbol_in, symbol_of, tested, tested_in, variable_of, readable_of, restart_name_of, is_key_in, is_key, is_condition_type, condition_type_named, condition_type_in, condition_type_of, type_form}
use Rattle.lisp_syntax.proofs.Options.{Exact, chained, chosen, passed, some-same, choose, pass}
use Rattle.lisp_syntax.proofs.Levels.{from-string, from-symbol, from-list, out-string, out-symbol, out-list}

pub same-bytes : (a b : List ℕ) → bytes_eq a b ≡ true → a ≡ b
same-bytes a b e = (bytes_eq-Decides a b).0 e

pub bytes-same : (a : List ℕ) → bytes_eq a a ≡ true
bytes-same a = (bytes_eq-Decides a a).1 refl

pub symbol-from : (s : Symbol) (home name : List ℕ) → s.home ≡ home → s.name ≡ name → s ≡ record { home = home; name = name }
symbol-from s home name first second = ap (λ (h : List ℕ). let t : Symbol = record { home = h; name = s.name } in t) first ∙ ap (λ (n : List ℕ). let t : Symbol = record { home = home; name = n } in t) second

-- ---- lists and strings

list-at : (v : Value) (o : Value-F Value Condition) → out-Value v ≡ o → (items : List Value) → value_items_in o ≡ Some items → v ≡ value.List items
list-at v (Value-F.List xs) is items e = from-list v xs is ∙ ap value.List (some-same xs items e)
list-at v _ is items e = absurd (cc)

pub list-back : (v : Value) (items : List Value) → value_items v ≡ Some items → value.List items ≡ v
list-back v items e = sym (list-at v (out-Value v) refl items e)

pub list-whole : (items : List Value) → value_items (value.List items) ≡ Some items
list-whole items = ap value_items_in (out-list items)

string-at : (v : Value) (o : Value-F Value Condition) → out-Value v ≡ o → (text : List ℕ) → value_text_in o ≡ Some text → v ≡ value.Str text
string-at v (Value-F.Str t) is text e = from-string v t is ∙ ap value.Str (some-same t text e)
string-at v _ is text e = absurd (cc)

pub string-back : (v : Value) (text : List ℕ) → value_text v ≡ Some text → value.Str text ≡ v
string-back v text e = sym (string-at v (out-Value v) refl text e)

pub string-whole : (text : List ℕ) → value_text (value.Str text) ≡ Some text
string-whole text = ap value_text_in (out-string text)

pub symbol-no-list : (s : Symbol) → value_items (value.Sym s) ≡ None
symbol-no-list s = ap value_items_in (out-symbol s)

-- ---- symbols that pass a test

record Tested (test : Symbol → Bool) (v : Value) (s : Symbol) : Type 0 where
  passes : test s ≡ true
  is : value.Sym s ≡ v

tested-at : (test : Symbol → Bool) (v : Value) (o : Value-F Value Condition) → out-Value v ≡ o → (s : Symbol) → tested_in test o ≡ Some s → Tested test v s
tested-at test v (Value-F.Sym t) is s e =
    let c = chosen (test t) (Some t) s e in
    let same : t ≡ s = some-same t s c.is in
    record { passes = ap test (sym same) ∙ c.test; is = ap value.Sym (sym same) ∙ sym (from-symbol v t is) }
tested-at test v _ is s e = absurd (cc)

tested-whole : (test : Symbol → Bool) (s : Symbol) → test s ≡ true → tested test (value.Sym s) ≡ Some s
tested-whole test s e = ap (tested_in test) (out-symbol s) ∙ choose (test s) (Some s) None e

tested-exact : (test : Symbol → Bool) → Exact (tested test) value.Sym (λ s. test s ≡ true)
tested-exact test = record {
  back = λ v s e. (tested-at test v (out-Value v) refl s e).is;
  fits = λ v s e. (tested-at test v (out-Value v) refl s e).passes;
  whole = tested-whole test;
}

pub variable-exact : Exact variable_of value.Sym (λ s. is_variable s ≡ true)
unfolding variable_of
variable-exact = tested-exact is_variable

pub readable-exact : Exact readable_of value.Sym (λ s. is_readable s ≡ true)
unfolding readable_of
readable-exact = tested-exact is_readable

not-true : (b : Bool) → not b ≡ true → b ≡ false
not-true true e = absurd (cc)
not-true false e = refl

pub restart-name-exact : Exact restart_name_of value.Sym (λ s. is_nil s ≡ false)
unfolding restart_name_of
restart-name-exact =
    let x = tested-exact (λ s. not (is_nil s)) in
    record { back = x.back; fits = λ v s e. not-true (is_nil s) (x.fits v s e); whole = λ s e. x.whole s (ap not e) }

-- ---- symbols, NIL among them

value-of-other : (s : Symbol) → is_nil s ≡ false → value_of_symbol s ≡ value.Sym s
value-of-other s e = ap (λ b. if b then value.List [] else value.Sym s) e

value-of-nil : (s : Symbol) → is_nil s ≡ true → value_of_symbol s ≡ value.List []
value-of-nil s e = ap (λ b. if b then value.List [] else value.Sym s) e

nil-same : (s : Symbol) → is_nil s ≡ true → s ≡ cl (codes "NIL")
nil-same s e =
    let p = and_parts (is_of_common_lisp s) (bytes_eq s.name (codes "NIL")) e in
    symbol-from s (codes "COMMON-LISP") (codes "NIL") (same-bytes s.home (codes "COMMON-LISP") p.0) (same-bytes s.name (codes "NIL") p.1)

symbol-at : (v : Value) (o : Value-F Value Condition) → out-Value v ≡ o → (s : Symbol) → symbol_in o ≡ Some s → value_of_symbol s ≡ v
symbol-at v (Value-F.Sym t) is s e =
    let p = passed (is_nil t) (Some t) s e in
    let same : t ≡ s = some-same t s p.is in
    ap value_of_symbol (sym same) ∙ (value-of-other t p.test ∙ sym (from-symbol v t is))
symbol-at v (Value-F.List []) is s e = ap value_of_symbol (sym (some-same (cl (codes "NIL")) s e)) ∙ sym (from-list v [] is)
symbol-at v (Value-F.List (x ∷ xs)) is s e = absurd (cc)
symbol-at v _ is s e = absurd (cc)

symbol-whole-at : (s : Symbol) (b : Bool) → is_nil s ≡ b → symbol_of (value_of_symbol s) ≡ Some s
unfolding symbol_of
symbol-whole-at s true e =
    ap symbol_of (value-of-nil s e) ∙ (ap symbol_in (out-list []) ∙ ap Some (sym (nil-same s e)))
symbol-whole-at s false e =
    ap symbol_of (value-of-other s e) ∙ (ap symbol_in (out-symbol s) ∙ pass (is_nil s) None (Some s) e)

pub symbol-exact : Exact symbol_of value_of_symbol (λ s. Unit {0})
unfolding symbol_of
symbol-exact = record {
  back = λ v s e. symbol-at v (out-Value v) refl s e;
  fits = λ v s e. tt;
  whole = λ s f. symbol-whole-at s (is_nil s) refl;
}

no-text-at : (s : Symbol) (b : Bool) → is_nil s ≡ b → value_text (value_of_symbol s) ≡ None
no-text-at s true e = ap value_text (value-of-nil s e) ∙ ap value_text_in (out-list [])
no-text-at s false e = ap value_text (value-of-other s e) ∙ ap value_text_in (out-symbol s)

-- a symbol is no string
pub symbol-no-text : (s : Symbol) → value_text (value_of_symbol s) ≡ None
symbol-no-text s = no-text-at s (is_nil s) refl

-- ---- keywords

key-at : (key : List ℕ) (v : Value) (o : Value-F Value Condition) → out-Value v ≡ o → is_key_in key o ≡ true → value.Sym (keyword key) ≡ v
key-at key v (Value-F.Sym s) is e =
    let p = and_parts (is_keyword s) (bytes_eq s.name key) e in
    sym (from-symbol v s is ∙ ap value.Sym (symbol-from s (codes "KEYWORD") key (same-bytes s.home (codes "KEYWORD") p.0) (same-bytes s.name key p.1)))
key-at key v _ is e = absurd (cc)

pub key-back : (key : List ℕ) (v : Value) → is_key key v ≡ true → value.Sym (keyword key) ≡ v
unfolding is_key
key-back key v e = key-at key v (out-Value v) refl e

pub key-is : (key name : List ℕ) → is_key key (value.Sym (keyword name)) ≡ bytes_eq name key
unfolding is_key
key-is key name = ap (is_key_in key) (out-symbol (keyword name))

-- ---- types

named-type : (name : List ℕ) (t : TypeId) → type_by_name name ≡ Some t → type_name t ≡ name
named-type name t e = sym ((type_by_name_iff name t).0 e)

type-found : (t : TypeId) → type_by_name (type_name t) ≡ Some t
type-found t = (type_by_name_iff (type_name t) t).1 refl

record NamedCondition (name : List ℕ) (t : TypeId) : Type 0 where
  is : type_name t ≡ name
  kind : is_condition_type t ≡ true

named-condition : (name : List ℕ) (t : TypeId) → condition_type_named name ≡ Some t → NamedCondition name t
named-condition name t e =
    let c = chained (λ k. if is_condition_type k then Some k else None) (type_by_name name) t e in
    let k = chosen (is_condition_type c.x) (Some c.x) t c.is in
    let same : c.x ≡ t = some-same c.x t k.is in
    record { is = ap type_name (sym same) ∙ named-type name c.x c.was; kind = ap is_condition_type (sym same) ∙ k.test }

record TypeAt (v : Value) (t : TypeId) : Type 0 where
  is : type_form t ≡ v
  kind : is_condition_type t ≡ true

type-at : (v : Value) (o : Value-F Value Condition) → out-Value v ≡ o → (t : TypeId) → condition_type_in o ≡ Some t → TypeAt v t
type-at v (Value-F.Sym s) is t e =
    let c = chosen (is_of_common_lisp s) (condition_type_named s.name) t e in
    let n = named-condition s.name t c.is in
    record {
      is = sym (from-symbol v s is ∙ ap value.Sym (symbol-from s (codes "COMMON-LISP") (type_name t) (same-bytes s.home (codes "COMMON-LISP") c.test) (sym n.is)));
      kind = n.kind;
    }
type-at v _ is t e = absurd (cc)

type-whole : (t : TypeId) → is_condition_type t ≡ true → condition_type_of (type_form t) ≡ Some t
unfolding condition_type_of
type-whole t e =
    ap condition_type_in (out-symbol (cl (type_name t)))
    ∙ (ap (option_and_then (λ k. if is_condition_type k then Some k else None)) (type-found t)
    ∙ choose (is_condition_type t) (Some t) None e)

pub type-exact : Exact condition_type_of type_form (λ t. is_condition_type t ≡ true)
unfolding condition_type_of
type-exact = record {
  back = λ v t e. (type-at v (out-Value v) refl t e).is;
  fits = λ v t e. (type-at v (out-Value v) refl t e).kind;
  whole = type-whole;
}
