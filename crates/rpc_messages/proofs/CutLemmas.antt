-- A text whose characters are taken one by one, and where it is cut.
use Rattle.std.proofs.Common.{◌≡◌, ℕ, suc, ◌+◌, ◌<◌, ◌≤◌, Bool, true, false, List, [], ◌∷◌, ◌++◌, length, take, drop, codes, get_or, nat_lt, refl, sym, ap, ◌∙◌, arith, length-drop, add-one}
use Rattle.std.specs.Prelude.{encode_utf8, encode_utf8_all, if◌then◌else◌}
use Rattle.std.specs.Str.{chars, IsUtf8}
use Rattle.std.proofs.lemmas.Bool.{lt-ltb, ltb-true}
use Rattle.std.proofs.lemmas.List.{append-nil, take-append-drop, take_more}
use Rattle.std.proofs.lemmas.Str.{encodes-chars, encodes-append, chars_past_char, chars-nil, IsUtf8-past_char}
use Rattle.std.proofs.Math.Seq.{drop-cons}
use Rattle.rpc_messages.specs.Cut.{cut, max_shown}

-- after so many characters of a text, these were shown and these octets are left
pub record Shows (text shown rest : List ℕ) (count : ℕ) : Type 0 where
  pub utf8 : IsUtf8 rest
  pub few : count ≤ max_shown
  pub front : shown ≡ encode_utf8_all (take count (chars text))
  pub left : drop count (chars text) ≡ chars rest

-- there is a further element where some are left
below-length : {X : Type 0} (n : ℕ) (xs ys : List X) (x : X) → drop n xs ≡ x ∷ ys → n < length xs
below-length n xs ys x left = let e : length (drop n xs) ≡ suc (length ys) = ap length left in omega (arith, length-drop n xs, e)

take-next : {X : Type 0} (n : ℕ) (xs ys : List X) (x : X) → drop n xs ≡ x ∷ ys → take (n + 1) xs ≡ take n xs ++ x ∷ []
take-next n xs ys x left =
    let within = below-length n xs ys x left in
    let first : get_or xs n x ≡ x = cc (drop-cons xs n x within, left) in
    take_more xs n x within ∙ ap (λ y. take n xs ++ y ∷ []) first

drop-next : {X : Type 0} (n : ℕ) (xs ys : List X) (x : X) → drop n xs ≡ x ∷ ys → drop (n + 1) xs ≡ ys
drop-next n xs ys x left =
    let within = below-length n xs ys x left in
    let e : drop (suc n) xs ≡ ys = cc (drop-cons xs n x within, left) in
    rw add-one e

-- the next character is shown
pub Shows-next : (text shown shown' rest rest' : List ℕ) (count c : ℕ) → Shows text shown rest count → rest ≡ encode_utf8 c ++ rest'
    → count < max_shown → shown' ≡ shown ++ encode_utf8 c → Shows text shown' rest' (count + 1)
Shows-next text shown shown' rest rest' count c shows step below more =
    let left : drop count (chars text) ≡ c ∷ chars rest' = shows.left ∙ chars_past_char rest rest' c shows.utf8 step in record {
      utf8 = IsUtf8-past_char rest rest' c shows.utf8 step;
      few = omega arith;
      front = more ∙ ap (λ xs. xs ++ encode_utf8 c) shows.front
          ∙ ap (λ xs. encode_utf8_all (take count (chars text)) ++ xs) (sym (append-nil (encode_utf8 c)))
          ∙ sym (encodes-append (take count (chars text)) (c ∷ []))
          ∙ ap encode_utf8_all (sym (take-next count (chars text) (chars rest') c left));
      left = drop-next count (chars text) (chars rest') c left;
    }

-- the cut by whether there are more characters
cut_at : List ℕ → Bool → List ℕ
cut_at text long = if long then encode_utf8_all (take max_shown (chars text)) ++ codes "..." else text

-- there is a further character past those that are shown
pub cut-long : (text shown rest rest' : List ℕ) (count c : ℕ) → Shows text shown rest count → rest ≡ encode_utf8 c ++ rest'
    → max_shown ≤ count → shown ++ codes "..." ≡ cut text
unfolding cut_at
cut-long text shown rest rest' count c shows step full =
    let left : drop count (chars text) ≡ c ∷ chars rest' = shows.left ∙ chars_past_char rest rest' c shows.utf8 step in
    let within = below-length count (chars text) (chars rest') c left in
    let few = shows.few in
    let all : count ≡ max_shown = omega arith in
    let long : nat_lt max_shown (length (chars text)) ≡ true = lt-ltb max_shown (length (chars text)) (omega arith) in
    ap (λ xs. xs ++ codes "...") (shows.front ∙ ap (λ n. encode_utf8_all (take n (chars text))) all) ∙ sym (ap (cut_at text) long)

short : (n : ℕ) → n ≤ max_shown → nat_lt max_shown n ≡ false
short n few = elim (nat_lt max_shown n) as (λ b. nat_lt max_shown n ≡ b → b ≡ false) [ true ↦ λ e. absurd (omega (arith, ltb-true max_shown n e)) | false ↦ λ _. refl ] refl

-- no character is left
pub cut-short : (text shown : List ℕ) (count : ℕ) → IsUtf8 text → Shows text shown [] count → shown ≡ cut text
unfolding cut_at
cut-short text shown count utf8 shows =
    let none : drop count (chars text) ≡ [] = shows.left ∙ chars-nil in
    let whole : take count (chars text) ≡ chars text = sym (append-nil _) ∙ (ap (λ xs. take count (chars text) ++ xs) (sym none) ∙ take-append-drop count (chars text)) in
    let few = shows.few in
    let e : length (drop count (chars text)) ≡ 0 = ap length none in
    let at_most : length (chars text) ≤ max_shown = omega (arith, length-drop count (chars text), e) in
    shows.front ∙ (ap encode_utf8_all whole ∙ (encodes-chars text utf8 ∙ sym (ap (cut_at text) (short (length (chars text)) at_most))))
