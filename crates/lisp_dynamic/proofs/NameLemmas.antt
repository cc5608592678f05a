-- The name of a package as a request writes it: a quote at the front alone stays.
use Rattle.std.proofs.Common.{◌≡◌, ◌≢◌, ◌∙◌, ℕ, suc, ◌+◌, ◌-◌, Bool, true, false, List, [], ◌∷◌, ◌++◌, length, take, drop, refl, sym, ap, arith}
use Rattle.std.proofs.lemmas.List.{take-append-drop}
use Rattle.std.proofs.lemmas.Slice.Eq.{bytes_eq-Decides}
use Rattle.std.specs.Prelude.{◌&&◌, if◌then◌else◌, codes}
use Rattle.std.specs.Str.{bytes_eq}
use Rattle.step_model.specs.CurrentPackage.{is_quoted, without_quotes}

abbrev quote : List ℕ
quote = codes "\""

not-quoted : (b : Bool) (text inner : List ℕ) → (b ≡ true → ⊥) → text ≡ (if b then inner else text)
not-quoted true text inner never = absurd (never refl)
not-quoted false text inner never = refl

third : (a b c : Bool) → a && b && c ≡ true → c ≡ true
third true true c e = e
third true false c e = absurd (cc)
third false b c e = absurd (cc)

last-drop : (c x : ℕ) (xs : List ℕ) → drop (length (c ∷ x ∷ xs) - 1) (c ∷ x ∷ xs) ≡ drop (length xs) (x ∷ xs)
last-drop c x xs = let one : length (c ∷ x ∷ xs) - 1 ≡ suc (length xs) = omega arith in ap (λ (k : ℕ). drop k (c ∷ x ∷ xs)) one

unquoted-in : (rest : List ℕ) → ((front : List ℕ) → rest ≢ front ++ quote) → 34 ∷ rest ≡ without_quotes (34 ∷ rest)
unquoted-in [] none = refl
unquoted-in (x ∷ xs) none =
    let text = 34 ∷ x ∷ xs in
    let ends = λ (q : is_quoted text ≡ true). (bytes_eq-Decides (drop (length text - 1) text) quote).0 (third _ (bytes_eq (take 1 text) quote) (bytes_eq (drop (length text - 1) text) quote) q) in
    not-quoted (is_quoted text) text (drop 1 (take (length text - 1) text))
    (λ q. none (take (length xs) (x ∷ xs)) (sym (take-append-drop (length xs) (x ∷ xs)) ∙ ap (λ ys. take (length xs) (x ∷ xs) ++ ys) (sym (last-drop 34 x xs) ∙ ends q)))

-- a text with a quote at its front and none at the end of the rest
pub unquoted : (text rest : List ℕ) → text ≡ quote ++ rest → ((front : List ℕ) → rest ≢ front ++ quote) → text ≡ without_quotes text
unquoted text rest e none = e ∙ unquoted-in rest none ∙ ap without_quotes (sym e)
