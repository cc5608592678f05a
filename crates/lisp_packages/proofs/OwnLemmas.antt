-- How a map from names stands for the list of a package's entries.
use Rattle.std.proofs.Common.{◌≡◌, ℕ, zero, suc, ◌-◌, Bool, true, false, cond, List, [], ◌∷◌, ◌++◌, refl, sym, ap, ◌∙◌, Option, None, Some, length, take, String, is_some, if◌then◌else◌, arith}
use Rattle.std.specs.Str.{bytes_eq}
use Rattle.std.specs.String.{string_bytes, string_eq}
use Rattle.std.specs.Map.{lookup, values_of}
use Rattle.std.proofs.Math.Seq.{take-append_seam}
use Rattle.std.proofs.lemmas.List.{length-append}
use Rattle.std.proofs.lemmas.Slice.Eq.{bytes_eq-Decides}
use Rattle.indexmap.specs.IndexMap.{insert_entry}
use Rattle.lisp_packages.specs.declared.entry.Entry.{Entry}
use Rattle.lisp_packages.specs.Entries.{has_name, entry_of, put_entry, added}
use Rattle.lisp_packages.specs.Keyed.{IsKeyed}

-- a look-up by name finds the entry of that name
pub lookup-IsKeyed : {A : Type 0} (name : List ℕ) (es : List (String A × Entry)) → IsKeyed es → lookup (λ k. bytes_eq name (string_bytes k)) es ≡ entry_of (values_of es) name
lookup-IsKeyed name [] h = refl
lookup-IsKeyed name (e ∷ es) h = let rest = lookup-IsKeyed name es h.1 in λ j. cond (bytes_eq name (h.0 j)) (Some e.1) (rest j)

-- an insertion under an entry's name puts the entry
pub values-insert_entry : {A : Type 0} (es : List (String A × Entry)) (k : String A) (v : Entry) → IsKeyed es → string_bytes k ≡ v.symbol.name → values_of (insert_entry string_eq es k v) ≡ put_entry (values_of es) v
values-insert_entry [] k v h p = refl
values-insert_entry {A} (e ∷ es) k v h p =
    by (bytes_eq (string_bytes k) (string_bytes e.0)) (values-insert_entry es k v h.1 p)
    ∙ (λ j. cond (bytes_eq (p j) (h.0 j)) (v ∷ values_of es) (e.1 ∷ put_entry (values_of es) v))
  where
    by : (b : Bool) → values_of (insert_entry string_eq es k v) ≡ put_entry (values_of es) v
        → values_of (cond b ((e.0, v) ∷ es) (e ∷ insert_entry string_eq es k v)) ≡ cond b (v ∷ values_of es) (e.1 ∷ put_entry (values_of es) v)
    by true rest = refl
    by false rest = ap (λ r. e.1 ∷ r) rest

-- and each entry still lies under its name
pub IsKeyed-insert_entry : {A : Type 0} (es : List (String A × Entry)) (k : String A) (v : Entry) → IsKeyed es → string_bytes k ≡ v.symbol.name → IsKeyed (insert_entry string_eq es k v)
IsKeyed-insert_entry [] k v h p = (p, tt)
IsKeyed-insert_entry {A} (e ∷ es) k v h p = by (bytes_eq (string_bytes k) (string_bytes e.0)) refl (IsKeyed-insert_entry es k v h.1 p)
  where
    by : (b : Bool) → bytes_eq (string_bytes k) (string_bytes e.0) ≡ b → IsKeyed (insert_entry string_eq es k v) → IsKeyed (cond b ((e.0, v) ∷ es) (e ∷ insert_entry string_eq es k v))
    by true q rest = (sym ((bytes_eq-Decides (string_bytes k) (string_bytes e.0)).0 q) ∙ p, h.1)
    by false q rest = (h.0, rest)

pub IsKeyed-take : {A : Type 0} (n : ℕ) (es : List (String A × Entry)) → IsKeyed es → IsKeyed (take n es)
IsKeyed-take zero es h = tt
IsKeyed-take (suc n) [] h = tt
IsKeyed-take (suc n) (e ∷ es) h = (h.0, IsKeyed-take n es h.1)

pub values-take : {A : Type 0} (n : ℕ) (es : List (String A × Entry)) → values_of (take n es) ≡ take n (values_of es)
values-take zero es = refl
values-take (suc n) [] = refl
values-take (suc n) (e ∷ es) = ap (λ r. e.1 ∷ r) (values-take n es)

-- an entry of a new name goes last
pub put_entry-new : (own : List Entry) (entry : Entry) → entry_of own entry.symbol.name ≡ None → put_entry own entry ≡ own ++ entry ∷ []
put_entry-new [] entry h = refl
put_entry-new (x ∷ xs) entry h = by (has_name entry.symbol.name x) (put_entry-new xs entry) h
  where
    by : (b : Bool) → (entry_of xs entry.symbol.name ≡ None → put_entry xs entry ≡ xs ++ entry ∷ []) → cond b (Some x) (entry_of xs entry.symbol.name) ≡ None
        → cond b (entry ∷ xs) (x ∷ put_entry xs entry) ≡ x ∷ (xs ++ entry ∷ [])
    by true rest h = absurd (cc)
    by false rest h = ap (λ r. x ∷ r) (rest h)

pub none_of : {X : Type 0} (o : Option X) → is_some o ≡ false → o ≡ None
none_of None h = refl
none_of (Some x) h = absurd (cc)

pub put_entry-added : (own : List Entry) (entry : Entry) → is_some (entry_of own entry.symbol.name) ≡ false → put_entry own entry ≡ added own entry
put_entry-added own entry h = put_entry-new own entry (none_of (entry_of own entry.symbol.name) h) ∙ sym (ap (λ b. if b then own else own ++ entry ∷ []) h)

-- all but the last
pub take-push : {X : Type 0} (xs : List X) (x : X) → take (length (xs ++ x ∷ []) - 1) (xs ++ x ∷ []) ≡ xs
take-push xs x = (λ k. take (shorter k) (xs ++ x ∷ [])) ∙ take-append_seam xs (x ∷ [])
  where
    shorter : length (xs ++ x ∷ []) - 1 ≡ length xs
    shorter = rw (length-append xs (x ∷ [])) (omega arith)
