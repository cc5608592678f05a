-- What making a symbol external does to a package's entries.
use Rattle.std.proofs.Common.{◌≡◌, ℕ, Bool, true, false, cond, List, [], ◌∷◌, refl, sym, ap, ◌∙◌, None, Some, String}
use Rattle.std.specs.Str.{bytes_eq}
use Rattle.std.specs.String.{string_bytes}
use Rattle.std.specs.Map.{lookup, set_value, values_of}
use Rattle.lisp_packages.specs.declared.entry.Entry.{Entry}
use Rattle.lisp_packages.specs.Entries.{has_name, entry_of, with_external}
use Rattle.lisp_packages.specs.Keyed.{IsKeyed}
use Rattle.lisp_packages.proofs.TextLemmas.{is_text}

pub values-set_external : {A : Type 0} (name : List ℕ) (es : List (String A × Entry)) (e : Entry) → IsKeyed es → lookup (is_text name) es ≡ Some e
    → values_of (set_value (is_text name) es (record e { external = true })) ≡ with_external (values_of es) name
values-set_external name [] e h k = absurd (cc)
values-set_external {A} name (x ∷ es) e h k =
    by (bytes_eq name (string_bytes x.0)) k (values-set_external name es e h.1)
    ∙ (λ j. cond (bytes_eq name (h.0 j)) ((record x.1 { external = true }) ∷ values_of es) (x.1 ∷ with_external (values_of es) name))
  where
    by : (b : Bool) → cond b (Some x.1) (lookup (is_text name) es) ≡ Some e
        → (lookup (is_text name) es ≡ Some e → values_of (set_value (is_text name) es (record e { external = true })) ≡ with_external (values_of es) name)
        → values_of (cond b ((x.0, record e { external = true }) ∷ es) (x ∷ set_value (is_text name) es (record e { external = true })))
        ≡ cond b ((record x.1 { external = true }) ∷ values_of es) (x.1 ∷ with_external (values_of es) name)
    by true k rest = let same : x.1 ≡ e = cc in λ j. (record (sym same j) { external = true }) ∷ values_of es
    by false k rest = ap (λ r. x.1 ∷ r) (rest k)

pub IsKeyed-set_external : {A : Type 0} (name : List ℕ) (es : List (String A × Entry)) (e : Entry) → IsKeyed es → lookup (is_text name) es ≡ Some e
    → IsKeyed (set_value (is_text name) es (record e { external = true }))
IsKeyed-set_external name [] e h k = tt
IsKeyed-set_external {A} name (x ∷ es) e h k = by (bytes_eq name (string_bytes x.0)) k (IsKeyed-set_external name es e h.1)
  where
    by : (b : Bool) → cond b (Some x.1) (lookup (is_text name) es) ≡ Some e → (lookup (is_text name) es ≡ Some e → IsKeyed (set_value (is_text name) es (record e { external = true })))
        → IsKeyed (cond b ((x.0, record e { external = true }) ∷ es) (x ∷ set_value (is_text name) es (record e { external = true })))
    by true k rest = let same : x.1 ≡ e = cc in (h.0 ∙ ap (λ (entry : Entry). entry.symbol.name) same, h.1)
    by false k rest = (h.0, rest k)

pub with_external-none : (own : List Entry) (name : List ℕ) → entry_of own name ≡ None → own ≡ with_external own name
with_external-none [] name h = refl
with_external-none (x ∷ own) name h = by (has_name name x) h (with_external-none own name)
  where
    by : (b : Bool) → cond b (Some x) (entry_of own name) ≡ None → (entry_of own name ≡ None → own ≡ with_external own name)
        → x ∷ own ≡ cond b ((record x { external = true }) ∷ own) (x ∷ with_external own name)
    by true h rest = absurd (cc)
    by false h rest = ap (λ r. x ∷ r) (rest h)
