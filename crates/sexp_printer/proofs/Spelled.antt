-- The wire text of a plain form is a spelling of it.
use mir.Syntax.{w64}
use Rattle.std.proofs.Common.{◌≡◌, ℕ, suc, ◌<◌, Bool, true, false, cond, ◌||◌, ◌==◌, inl, inr, List, [], ◌∷◌, ◌++◌, length, map, flat_map, chars, refl, sym, ap, subst, ◌∙◌, arith, append_assoc}
use Rattle.std.specs.Prelude.{ℤ, encode_utf8_all, codes, nat_lt, FitsSigned, Result, Ok, Err, IfOk}
use Rattle.std.specs.Char.{to_ascii_lowercase}
use Rattle.std.specs.Fmt.{signed_decimal}
use Rattle.std.specs.List.{list_any, list_all}
use Rattle.std.specs.Str.{all_scalars as scalars, IsAscii, IsUtf8}
use Rattle.std.proofs.Math.Utf8.{scalar}
use Rattle.std.proofs.lemmas.Bool.{and_parts, and_from, or_parts, ltb-true}
use Rattle.std.proofs.lemmas.List.{append-nil}
use Rattle.std.proofs.lemmas.Str.{encodes-chars, encodes-append, encodes-IsAscii, chars_from_encodes, scalars-chars, chars-IsAscii, IsUtf8-from_ascii}
use Rattle.std.proofs.lemmas.Str.Ascii.{IsAscii-nil, IsAscii-cons}
use Rattle.itoa.proofs.Decimal.{IsAscii-signed_decimal}
use Rattle.lisp_data.specs.declared.sexp.Sexp.{Sexp}
use Rattle.lisp_data.specs.declared.sexp.Sexp.TheOpen.{Sexp-F}
use Rattle.lisp_data.specs.declared.sexp.Sexp.TheFolds.{fold-Sexp, fold-roll-Sexp}
use Rattle.lisp_data.specs.declared.sexp.Sexp.TheVariants as form
use Rattle.lisp_data.specs.declared.sexp.Sexp.TheVariants.{rolls-Int, rolls-Str, rolls-Sym, rolls-List}
use Rattle.sexp_reader.specs.Tokens.{ends_token, uppercase}
use Rattle.sexp_reader.specs.Grammar.{Gap, Body, Taken, Token, Spells, Items, IsSpelled}
use Rattle.sexp_printer.specs.Plain.{IsPlainToken, IsPlain, ArePlain}
use Rattle.sexp_printer.specs.Printed.{escaped, changed, others_of, in_parentheses, text_step, printed}
use Rattle.sexp_printer.proofs.TokenLemmas.{lower, lower-cases, unbroken-lower, no_integer-lower, good-lower, uppercase-lower, not_nil-lower, integer-own, integer_unbroken, integer_not_empty, integer_short}

-- ---- the wire text as characters

abbrev written_step : Sexp-F (List ℕ) → List ℕ
written_step (Sexp-F.Int n) = signed_decimal n
written_step (Sexp-F.Str text) = 34 ∷ flat_map escaped (chars text) ++ 34 ∷ []
written_step (Sexp-F.Sym token) = lower (chars token)
written_step (Sexp-F.List items) = in_parentheses (codes "nil") items

abbrev written : Sexp → List ℕ
written = fold-Sexp (List ℕ) written_step

written-int : (z : ℤ) → written (form.Int z) ≡ signed_decimal z
written-int z = ap written (sym (rolls-Int z)) ∙ fold-roll-Sexp (List ℕ) written_step (Sexp-F.Int z)

written-str : (text : List ℕ) → written (form.Str text) ≡ 34 ∷ flat_map escaped (chars text) ++ 34 ∷ []
written-str text = ap written (sym (rolls-Str text)) ∙ fold-roll-Sexp (List ℕ) written_step (Sexp-F.Str text)

written-sym : (token : List ℕ) → written (form.Sym token) ≡ lower (chars token)
written-sym token = ap written (sym (rolls-Sym token)) ∙ fold-roll-Sexp (List ℕ) written_step (Sexp-F.Sym token)

written-list : (xs : List Sexp) → written (form.List xs) ≡ in_parentheses (codes "nil") (map written xs)
written-list xs = ap written (sym (rolls-List xs)) ∙ fold-roll-Sexp (List ℕ) written_step (Sexp-F.List xs)

-- ---- the spelling

-- what may follow a token
abbrev Delimits : List ℕ → Type 0
Delimits [] = Unit {0}
Delimits (c ∷ t) = ends_token c ≡ true

taken : (cs rest : List ℕ) → list_any ends_token cs ≡ false → Delimits rest → Taken (cs ++ rest) cs rest
taken [] [] whole d = Taken.to_end
taken [] (c ∷ t) whole d = Taken.to_next c t d
taken (c ∷ cs) rest whole d =
    let p = or_parts (ends_token c) (list_any ends_token cs) whole in
    Taken.takes c (cs ++ rest) cs rest p.0 (taken cs rest p.1 d)

token-taken : (cs rest : List ℕ) → 0 < length cs → list_any ends_token cs ≡ false → Delimits rest → Token (cs ++ rest) cs rest
token-taken [] rest some whole d = absurd (omega arith)
token-taken (c ∷ cs) rest some whole d =
    let p = or_parts (ends_token c) (list_any ends_token cs) whole in
    Token.token c (cs ++ rest) cs rest p.0 (taken cs rest p.1 d)

integer-spelled : (n : ℕ) (z : ℤ) (rest : List ℕ) → FitsSigned w64 z → Delimits rest → Spells n (signed_decimal z ++ rest) (form.Int z) rest
integer-spelled n z rest fits d =
    Spells.integer n (signed_decimal z ++ rest) (signed_decimal z) rest z (token-taken (signed_decimal z) rest (integer_not_empty z fits) (integer_unbroken z fits) d) (integer_short z fits) (integer-own z fits) fits

nil-spelled : (n : ℕ) (rest : List ℕ) → Delimits rest → Spells n (codes "nil" ++ rest) (form.List []) rest
nil-spelled n rest d = Spells.nil n (codes "nil" ++ rest) (codes "nil") rest (token-taken (codes "nil") rest (omega arith) refl d) refl

lower_not_empty : (cs : List ℕ) → 0 < length cs → 0 < length (lower cs)
lower_not_empty [] h = h
lower_not_empty (c ∷ cs) h = omega arith

symbol-spelled : (n : ℕ) (token rest : List ℕ) → IsUtf8 token → IsPlainToken (chars token) → Delimits rest → Spells n (lower (chars token) ++ rest) (form.Sym token) rest
symbol-spelled n token rest utf8 plain d =
    let cs = chars token in
    let back : encode_utf8_all (uppercase (lower cs)) ≡ token = ap encode_utf8_all (uppercase-lower cs ∙ plain.upper) ∙ encodes-chars token utf8 in
    subst (λ t. Spells n (lower cs ++ rest) (form.Sym t) rest) back
    (Spells.symbol n (lower cs ++ rest) (lower cs) rest
    (token-taken (lower cs) rest (lower_not_empty cs plain.not_empty) (unbroken-lower cs ∙ plain.unbroken) d)
    (good-lower cs plain.no_integer plain.good) (no_integer-lower cs plain.no_integer) (not_nil-lower cs plain.upper plain.not_nil))

body-step : (c : ℕ) (cs rest more : List ℕ) (b : Bool) → (c == 34 || c == 92) ≡ b → Body (more ++ 34 ∷ rest) cs rest
    → Body ((cond b (92 ∷ c ∷ []) (c ∷ []) ++ more) ++ 34 ∷ rest) (c ∷ cs) rest
body-step c cs rest more true e body = Body.escaped c (more ++ 34 ∷ rest) cs rest body
body-step c cs rest more false e body = let p = or_parts (c == 34) (c == 92) e in Body.plain c (more ++ 34 ∷ rest) cs rest p.0 p.1 body

body-spelled : (cs rest : List ℕ) → Body (flat_map escaped cs ++ 34 ∷ rest) cs rest
body-spelled [] rest = Body.end_quote rest
body-spelled (c ∷ cs) rest = body-step c cs rest (flat_map escaped cs) (c == 34 || c == 92) refl (body-spelled cs rest)

string-spelled : (n : ℕ) (text rest : List ℕ) → encode_utf8_all (chars text) ≡ text → Spells n ((34 ∷ flat_map escaped (chars text) ++ 34 ∷ []) ++ rest) (form.Str text) rest
string-spelled n text rest same =
    subst (λ t. Spells n (34 ∷ t) (form.Str text) rest) (sym (append_assoc (flat_map escaped (chars text)) (34 ∷ []) rest))
    (subst (λ t. Spells n (34 ∷ (flat_map escaped (chars text) ++ 34 ∷ rest)) (form.Str t) rest) same
    (Spells.string n (flat_map escaped (chars text) ++ 34 ∷ rest) (chars text) rest (body-spelled (chars text) rest)))

delimits-others : (ts : List (List ℕ)) (rest : List ℕ) → Delimits (others_of ts ++ 41 ∷ rest)
delimits-others [] rest = refl
delimits-others (t ∷ ts) rest = refl

mutual
  spells-written : {n : ℕ} {x : Sexp} → IsPlain n x → (rest : List ℕ) → Delimits rest → Spells n (written x ++ rest) x rest
  spells-written (IsPlain.integer n z fits) rest d = subst (λ t. Spells n (t ++ rest) (form.Int z) rest) (sym (written-int z)) (integer-spelled n z rest fits d)
  spells-written (IsPlain.string n text utf8) rest d = subst (λ t. Spells n (t ++ rest) (form.Str text) rest) (sym (written-str text)) (string-spelled n text rest (encodes-chars text utf8))
  spells-written (IsPlain.symbol n token utf8 plain) rest d = subst (λ t. Spells n (t ++ rest) (form.Sym token) rest) (sym (written-sym token)) (symbol-spelled n token rest utf8 plain d)
  spells-written (IsPlain.nil n) rest d = subst (λ t. Spells n (t ++ rest) (form.List []) rest) (sym (written-list [])) (nil-spelled n rest d)
  spells-written (IsPlain.list n x xs one all) rest d =
      let others = others_of (map written xs) in
      let after = others ++ 41 ∷ rest in
      let items : Items n (written x ++ after) (x ∷ xs) rest =
      Items.item n (written x ++ after) (written x ++ after) after rest x xs (Gap.nothing (written x ++ after)) (spells-written one after (delimits-others (map written xs) rest)) (items-written all rest) in
      subst (λ t. Spells (suc n) (t ++ rest) (form.List (x ∷ xs)) rest) (sym (written-list (x ∷ xs)))
      (subst (λ t. Spells (suc n) (40 ∷ t) (form.List (x ∷ xs)) rest) (sym (append_assoc (written x ++ others) (41 ∷ []) rest ∙ append_assoc (written x) others (41 ∷ rest)))
      (Spells.list n (written x ++ after) rest (x ∷ xs) items))

  items-written : {n : ℕ} {xs : List Sexp} → ArePlain n xs → (rest : List ℕ) → Items n (others_of (map written xs) ++ 41 ∷ rest) xs rest
  items-written (ArePlain.none n) rest = Items.close n (41 ∷ rest) rest (Gap.nothing (41 ∷ rest))
  items-written (ArePlain.more n x xs one all) rest =
      let others = others_of (map written xs) in
      let after = others ++ 41 ∷ rest in
      let text = written x ++ after in
      subst (λ t. Items n (32 ∷ t) (x ∷ xs) rest) (sym (append_assoc (written x) others (41 ∷ rest)))
      (Items.item n (32 ∷ text) text after rest x xs (Gap.space 32 text text refl (Gap.nothing text)) (spells-written one after (delimits-others (map written xs) rest)) (items-written all rest))

-- ---- the octets and the characters

scalars-append : (xs ys : List ℕ) → scalars xs ≡ true → scalars ys ≡ true → scalars (xs ++ ys) ≡ true
scalars-append [] ys a b = b
scalars-append (x ∷ xs) ys a b =
    let p = and_parts (scalar x) (scalars xs) a in
    and_from (scalar x) (scalars (xs ++ ys)) p.0 (scalars-append xs ys p.1 b)

-- these octets are the text of these characters
record Encodes (octets cs : List ℕ) : Type 0 where
  pub same : octets ≡ encode_utf8_all cs
  pub sound : scalars cs ≡ true

joined : (xs ys cs ds : List ℕ) → Encodes xs cs → Encodes ys ds → Encodes (xs ++ ys) (cs ++ ds)
joined xs ys cs ds a b = record {
  same = rw (a.same, b.same) (sym (encodes-append cs ds));
  sound = scalars-append cs ds a.sound b.sound;
}

plain-ascii : (cs : List ℕ) → IsAscii cs → Encodes cs cs
plain-ascii cs h = record {
  same = sym (encodes-IsAscii cs h);
  sound = subst (λ ds. scalars ds ≡ true) (chars-IsAscii cs h) (scalars-chars cs (IsUtf8-from_ascii cs h));
}

one : (c : ℕ) → c < 128 → Encodes (c ∷ []) (c ∷ [])
one c h = plain-ascii (c ∷ []) (IsAscii-cons c [] h IsAscii-nil)

ascii : (cs : List ℕ) → list_all (λ c. nat_lt c 128) cs ≡ true → IsAscii cs
ascii [] h = IsAscii-nil
ascii (c ∷ cs) h =
    let p = and_parts (nat_lt c 128) (list_all (λ d. nat_lt d 128) cs) h in
    IsAscii-cons c cs (ltb-true c 128 p.0) (ascii cs p.1)

nil-text : Encodes (codes "nil") (codes "nil")
nil-text = plain-ascii (codes "nil") (ascii (codes "nil") refl)

-- NIL in lower case
nil-lower : changed to_ascii_lowercase (codes "NIL") ≡ codes "nil"
nil-lower = ap (λ cs. encode_utf8_all (lower cs)) (chars-IsAscii (codes "NIL") (ascii (codes "NIL") refl)) ∙ encodes-IsAscii (codes "nil") (ascii (codes "nil") refl)

escaped-sound : (cs : List ℕ) → scalars cs ≡ true → scalars (flat_map escaped cs) ≡ true
escaped-sound [] h = refl
escaped-sound (c ∷ cs) h =
    let p = and_parts (scalar c) (scalars cs) h in
    scalars-append (escaped c) (flat_map escaped cs) (elim (c == 34 || c == 92) as (λ b. scalars (cond b (92 ∷ c ∷ []) (c ∷ [])) ≡ true) [ true ↦ rw p.0 refl | false ↦ rw p.0 refl ]) (escaped-sound cs p.1)

scalar-low : (c : ℕ) → c < 128 → scalar c ≡ true
scalar-low c h = (and_parts (scalar c) true ((one c h).sound)).0

-- the lower case of a character is a character
lower-scalar : (c : ℕ) → scalar c ≡ true → scalar (to_ascii_lowercase c) ≡ true
lower-scalar c h = elim (lower-cases c) [
  | inl same ↦ ap scalar same ∙ h
  | inr g ↦ scalar-low (to_ascii_lowercase c) (omega (arith, g.1, g.2))
]

lower-sound : (cs : List ℕ) → scalars cs ≡ true → scalars (lower cs) ≡ true
lower-sound [] h = refl
lower-sound (c ∷ cs) h =
    let p = and_parts (scalar c) (scalars cs) h in
    and_from (scalar (to_ascii_lowercase c)) (scalars (lower cs)) (lower-scalar c p.0) (lower-sound cs p.1)

printed-int : (z : ℤ) → printed (form.Int z) ≡ signed_decimal z
printed-int z = ap printed (sym (rolls-Int z)) ∙ fold-roll-Sexp (List ℕ) (text_step to_ascii_lowercase) (Sexp-F.Int z)

printed-str : (text : List ℕ) → printed (form.Str text) ≡ 34 ∷ encode_utf8_all (flat_map escaped (chars text)) ++ 34 ∷ []
printed-str text = ap printed (sym (rolls-Str text)) ∙ fold-roll-Sexp (List ℕ) (text_step to_ascii_lowercase) (Sexp-F.Str text)

printed-sym : (token : List ℕ) → printed (form.Sym token) ≡ encode_utf8_all (lower (chars token))
printed-sym token = ap printed (sym (rolls-Sym token)) ∙ fold-roll-Sexp (List ℕ) (text_step to_ascii_lowercase) (Sexp-F.Sym token)

printed-list : (xs : List Sexp) → printed (form.List xs) ≡ in_parentheses (codes "nil") (map printed xs)
printed-list xs = ap printed (sym (rolls-List xs)) ∙ fold-roll-Sexp (List ℕ) (text_step to_ascii_lowercase) (Sexp-F.List xs) ∙ ap (λ nil. in_parentheses nil (map printed xs)) nil-lower

moved : (octets cs octets' cs' : List ℕ) → octets ≡ octets' → cs ≡ cs' → Encodes octets' cs' → Encodes octets cs
moved octets cs octets' cs' a b h = record { same = a ∙ (h.same ∙ ap encode_utf8_all (sym b)); sound = ap scalars b ∙ h.sound }

mutual
  characters : {n : ℕ} {x : Sexp} → IsPlain n x → Encodes (printed x) (written x)
  characters (IsPlain.integer n z fits) = moved _ _ _ _ (printed-int z) (written-int z) (plain-ascii (signed_decimal z) (IsAscii-signed_decimal z fits))
  characters (IsPlain.string n text utf8) = moved _ _ _ _ (printed-str text) (written-str text)
      (joined (34 ∷ encode_utf8_all (flat_map escaped (chars text))) (34 ∷ []) (34 ∷ flat_map escaped (chars text)) (34 ∷ [])
      (joined (34 ∷ []) (encode_utf8_all (flat_map escaped (chars text))) (34 ∷ []) (flat_map escaped (chars text)) (one 34 (omega arith))
      (record { same = refl; sound = escaped-sound (chars text) (scalars-chars text utf8) })) (one 34 (omega arith)))
  characters (IsPlain.symbol n token utf8 plain) = moved _ _ _ _ (printed-sym token) (written-sym token) (record { same = refl; sound = lower-sound (chars token) (scalars-chars token utf8) })
  characters (IsPlain.nil n) = moved _ _ _ _ (printed-list []) (written-list []) nil-text
  characters (IsPlain.list n x xs first all) = moved _ _ _ _ (printed-list (x ∷ xs)) (written-list (x ∷ xs))
      (joined (40 ∷ printed x ++ others_of (map printed xs)) (41 ∷ []) (40 ∷ written x ++ others_of (map written xs)) (41 ∷ [])
      (joined (40 ∷ printed x) (others_of (map printed xs)) (40 ∷ written x) (others_of (map written xs))
      (joined (40 ∷ []) (printed x) (40 ∷ []) (written x) (one 40 (omega arith)) (characters first)) (all-characters all)) (one 41 (omega arith)))

  all-characters : {n : ℕ} {xs : List Sexp} → ArePlain n xs → Encodes (others_of (map printed xs)) (others_of (map written xs))
  all-characters (ArePlain.none n) = record { same = refl; sound = refl }
  all-characters (ArePlain.more n x xs first all) =
      joined (32 ∷ printed x) (others_of (map printed xs)) (32 ∷ written x) (others_of (map written xs))
      (joined (32 ∷ []) (printed x) (32 ∷ []) (written x) (one 32 (omega arith)) (characters first)) (all-characters all)

-- a plain form is spelled by its text
pub printed-spelled : (x : Sexp) → IsPlain 500 x → IsSpelled (chars (printed x)) x
printed-spelled x plain =
    let c = characters plain in
    let same : written x ≡ chars (printed x) = chars_from_encodes (written x) (printed x) (written x, (c.sound, sym c.same)) (sym c.same) in
    let s : Spells 500 (written x) x [] = subst (λ t. Spells 500 t x []) (append-nil (written x)) (spells-written plain [] tt) in
    record { before = written x; after = []; leads = subst (λ t. Gap t (written x)) same (Gap.nothing (written x)); spells = s; ends = Gap.nothing [] }

-- so is the text that a printing call answers
pub answer-spelled : {E : Type 0} (answer : Result (List ℕ) E) (x : Sexp) → IfOk answer (λ text. text ≡ printed x) → IsPlain 500 x → IfOk answer (λ text. IsSpelled (chars text) x)
answer-spelled (Ok text) x is plain = subst (λ t. IsSpelled (chars t) x) (sym is) (printed-spelled x plain)
answer-spelled (Err e) x is plain = tt
