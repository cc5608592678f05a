-- What a map from texts has after one more entry.
use Rattle.std.proofs.Common.{◌≡◌, ℕ, Bool, true, false, cond, List, [], ◌∷◌, refl, sym, ◌∙◌, Option, None, Some, String, if◌then◌else◌}
use Rattle.std.specs.Bool.{one_answer}
use Rattle.std.specs.Str.{bytes_eq}
use Rattle.std.specs.String.{string_bytes, string_eq}
use Rattle.std.specs.Map.{lookup, set_value}
use Rattle.std.proofs.lemmas.Slice.Eq.{bytes_eq-Decides}
use Rattle.indexmap.specs.IndexMap.{insert_entry}

-- the key is this text
abbrev pub is_text : {A : Type 0} → List ℕ → String A → Bool
is_text text key = bytes_eq text (string_bytes key)

pub bytes_eq-comm : (a b : List ℕ) → bytes_eq a b ≡ bytes_eq b a
bytes_eq-comm a b = one_answer (bytes_eq a b) (bytes_eq b a) (bytes_eq-Decides a b) ((λ h. sym ((bytes_eq-Decides b a).0 h)), (λ p. (bytes_eq-Decides b a).1 (sym p)))

-- two texts that are both a third are the same
pub bytes_eq-trans : (a b c : List ℕ) → bytes_eq a b ≡ true → bytes_eq b c ≡ true → bytes_eq a c ≡ true
bytes_eq-trans a b c p q = (bytes_eq-Decides a c).1 ((bytes_eq-Decides a b).0 p ∙ (bytes_eq-Decides b c).0 q)

-- where an entry is replaced
replaced : {X : Type 0} (t u : Bool) (v old : X) (rest : Option X) → t ≡ u → cond t (Some v) rest ≡ (if u then Some v else cond t (Some old) rest)
replaced true true v old rest h = refl
replaced true false v old rest h = absurd (cc)
replaced false true v old rest h = absurd (cc)
replaced false false v old rest h = refl

-- where one behind it is
behind : {X : Type 0} (t u : Bool) (v first : X) (rest more : Option X) → (t ≡ true → u ≡ false) → more ≡ (if u then Some v else rest)
    → cond t (Some first) more ≡ (if u then Some v else cond t (Some first) rest)
behind true true v first rest more apart h = let f : true ≡ false = apart refl in absurd (cc)
behind true false v first rest more apart h = refl
behind false true v first rest more apart h = h
behind false false v first rest more apart h = h

-- two texts that are not the same are not both a third
apart : (a b c : List ℕ) → bytes_eq a b ≡ false → bytes_eq c b ≡ true → bytes_eq a c ≡ false
apart a b c differ same = by (bytes_eq a c) refl
  where
    by : (u : Bool) → bytes_eq a c ≡ u → u ≡ false
    by true h = let t : bytes_eq a b ≡ true = bytes_eq-trans a c b h same in absurd (cc)
    by false h = refl

-- once a value is put under a key
pub lookup-insert_entry : {A X : Type 0} (m : List ℕ) (es : List (String A × X)) (k : String A) (v : X)
    → lookup (is_text m) (insert_entry string_eq es k v) ≡ (if bytes_eq (string_bytes k) m then Some v else lookup (is_text m) es)
lookup-insert_entry {A} {X} m [] k v = λ j. cond (bytes_eq-comm m (string_bytes k) j) (Some v) None
lookup-insert_entry {A} {X} m (e ∷ es) k v = by (bytes_eq (string_bytes k) (string_bytes e.0)) refl (lookup-insert_entry m es k v)
  where
    by : (b : Bool) → bytes_eq (string_bytes k) (string_bytes e.0) ≡ b
        → lookup (is_text m) (insert_entry string_eq es k v) ≡ (if bytes_eq (string_bytes k) m then Some v else lookup (is_text m) es)
        → lookup (is_text m) (cond b ((e.0, v) ∷ es) (e ∷ insert_entry string_eq es k v)) ≡ (if bytes_eq (string_bytes k) m then Some v else cond (bytes_eq m (string_bytes e.0)) (Some e.1) (lookup (is_text m) es))
    by true q rest = replaced (bytes_eq m (string_bytes e.0)) (bytes_eq (string_bytes k) m) v e.1 (lookup (is_text m) es)
        (bytes_eq-comm m (string_bytes e.0) ∙ (λ j. bytes_eq (sym ((bytes_eq-Decides (string_bytes k) (string_bytes e.0)).0 q) j) m))
    by false q rest = behind (bytes_eq m (string_bytes e.0)) (bytes_eq (string_bytes k) m) v e.1 (lookup (is_text m) es) (lookup (is_text m) (insert_entry string_eq es k v))
        (apart (string_bytes k) (string_bytes e.0) m q) rest

-- once the value under a key is replaced
pub lookup-set_value : {A X : Type 0} (m key : List ℕ) (es : List (String A × X)) (w old : X) → lookup (is_text key) es ≡ Some old
    → lookup (is_text m) (set_value (is_text key) es w) ≡ (if bytes_eq key m then Some w else lookup (is_text m) es)
lookup-set_value {A} {X} m key [] w old h = absurd (cc)
lookup-set_value {A} {X} m key (e ∷ es) w old h = by (bytes_eq key (string_bytes e.0)) refl h (lookup-set_value m key es w old)
  where
    by : (b : Bool) → bytes_eq key (string_bytes e.0) ≡ b → cond b (Some e.1) (lookup (is_text key) es) ≡ Some old
        → (lookup (is_text key) es ≡ Some old → lookup (is_text m) (set_value (is_text key) es w) ≡ (if bytes_eq key m then Some w else lookup (is_text m) es))
        → lookup (is_text m) (cond b ((e.0, w) ∷ es) (e ∷ set_value (is_text key) es w)) ≡ (if bytes_eq key m then Some w else cond (bytes_eq m (string_bytes e.0)) (Some e.1) (lookup (is_text m) es))
    by true q h rest = replaced (bytes_eq m (string_bytes e.0)) (bytes_eq key m) w e.1 (lookup (is_text m) es)
        (bytes_eq-comm m (string_bytes e.0) ∙ (λ j. bytes_eq (sym ((bytes_eq-Decides key (string_bytes e.0)).0 q) j) m))
    by false q h rest = behind (bytes_eq m (string_bytes e.0)) (bytes_eq key m) w e.1 (lookup (is_text m) es) (lookup (is_text m) (set_value (is_text key) es w))
        (apart key (string_bytes e.0) m q) (rest h)
