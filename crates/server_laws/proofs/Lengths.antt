-- How long printed forms are.
use Rattle.std.proofs.Common.{◌≡◌, ℕ, zero, suc, ◌+◌, ◌-◌, ◌*◌, ◌^◌, ◌<◌, ◌≤◌, ◌==◌, ◌||◌, Bool, true, false, cond, inl, inr, List, [], ◌∷◌, ◌++◌, length, map, take, flat_map, refl, sym, ap, ◌∙◌, arith, length-append}
use Rattle.std.specs.Prelude.{ℤ, codes, nat_lt, encode_utf8_all, if◌then◌else◌}
use lib.Signed.{mag}
use Rattle.std.proofs.Math.Utf8.{encode}
use Rattle.std.proofs.lemmas.Bool.{and_parts, eqb-true, false≢true, lt-ltb, ltb-false, ltb-true, or_cases}
use Rattle.std.proofs.lemmas.Fmt.{length_signed_le}
use Rattle.std.proofs.lemmas.List.{length-map, length-take}
use Rattle.std.proofs.lemmas.Str.{chars-IsAscii, encodes-IsAscii, encodes-append, encodes-chars, length-encode}
use Rattle.std.proofs.lemmas.Str.Ascii.{IsAscii-nil, IsAscii-cons, IsAscii-map, lowercase_ascii}
use Rattle.std.specs.Char.{to_ascii_lowercase}
use Rattle.std.specs.Fmt.{signed_decimal}
use Rattle.std.specs.List.{list_all}
use Rattle.std.specs.Str.{IsAscii, IsUtf8, chars, chars_after, continuation_len, lead_bits}
use Rattle.lisp_data.specs.declared.sexp.Sexp.{Sexp}
use Rattle.lisp_data.specs.declared.sexp.Sexp.TheOpen.{Sexp-F}
use Rattle.lisp_data.specs.declared.sexp.Sexp.TheFolds.{fold-roll-Sexp}
use Rattle.lisp_data.specs.declared.sexp.Sexp.TheVariants as form
use Rattle.lisp_data.specs.declared.sexp.Sexp.TheVariants.{rolls-Int, rolls-Str, rolls-Sym, rolls-List}
use Rattle.rpc_messages.specs.Cut.{cut, max_shown}
use Rattle.server_laws.specs.Small.{max_packet}
use Rattle.sexp_printer.specs.Printed.{changed, quoted, escaped, others_of, in_parentheses, text_step, printed}

pub printed-int : (z : ℤ) → printed (form.Int z) ≡ signed_decimal z
printed-int z = ap printed (sym (rolls-Int z)) ∙ fold-roll-Sexp (List ℕ) (text_step to_ascii_lowercase) (Sexp-F.Int z)

printed-str : (text : List ℕ) → printed (form.Str text) ≡ quoted text
printed-str text = ap printed (sym (rolls-Str text)) ∙ fold-roll-Sexp (List ℕ) (text_step to_ascii_lowercase) (Sexp-F.Str text)

pub printed-sym : (token : List ℕ) → printed (form.Sym token) ≡ changed to_ascii_lowercase token
printed-sym token = ap printed (sym (rolls-Sym token)) ∙ fold-roll-Sexp (List ℕ) (text_step to_ascii_lowercase) (Sexp-F.Sym token)

pub printed-list : (xs : List Sexp) → printed (form.List xs) ≡ in_parentheses (changed to_ascii_lowercase (codes "NIL")) (map printed xs)
printed-list xs = ap printed (sym (rolls-List xs)) ∙ fold-roll-Sexp (List ℕ) (text_step to_ascii_lowercase) (Sexp-F.List xs)

-- ---- texts

abbrev pub is_plain : List ℕ → Bool
is_plain text = list_all (λ c. nat_lt c 128) text

pub ascii : (text : List ℕ) → is_plain text ≡ true → IsAscii text
ascii [] h = IsAscii-nil
ascii (c ∷ cs) h = let p = and_parts (nat_lt c 128) (is_plain cs) h in IsAscii-cons c cs (ltb-true c 128 p.0) (ascii cs p.1)

-- a symbol of ASCII is as long as its token
length-changed : (token : List ℕ) → is_plain token ≡ true → length (changed to_ascii_lowercase token) ≤ length token
length-changed token h =
    let a = ascii token h in
    let lower = IsAscii-map to_ascii_lowercase token lowercase_ascii a in
    rw (chars-IsAscii token a, encodes-IsAscii (map to_ascii_lowercase token) lower, length-map token to_ascii_lowercase) (omega arith)

length-sym : (token : List ℕ) → is_plain token ≡ true → length (printed (form.Sym token)) ≤ length token
length-sym token h = rw (printed-sym token) (length-changed token h)

pub length-int : (z : ℤ) → mag z < 2 ^ 63 → length (printed (form.Int z)) ≤ 20
length-int z h = rw (printed-int z) (length_signed_le 19 z (omega arith) h)

-- a text has no more characters than octets
chars_after-length : (bs : List ℕ) (n c : ℕ) → length (chars_after n c bs) ≤ length bs + 1
chars_after-length [] zero c = omega arith
chars_after-length (b ∷ bs) zero c = let h = chars_after-length bs (continuation_len b) (lead_bits b) in omega (arith, h)
chars_after-length [] (suc n) c = omega arith
chars_after-length (b ∷ bs) (suc n) c = let h = chars_after-length bs n (c * 64 + (b - 128)) in omega (arith, h)

length-chars : (bs : List ℕ) → length (chars bs) ≤ length bs
unfolding chars
length-chars [] = omega arith
length-chars (b ∷ bs) = let h = chars_after-length bs (continuation_len b) (lead_bits b) in omega (arith, h)

-- a character has four octets at most
four : (c : ℕ) → length (encode c) ≤ 4
four c = rw (length-encode c) (by_range (nat_lt c 128) (nat_lt c 2048) (nat_lt c 65536))
  where
    by_range : (x y z : Bool) → cond x 1 (cond y 2 (cond z 3 4)) ≤ 4
    by_range true y z = omega arith
    by_range false true z = omega arith
    by_range false false true = omega arith
    by_range false false false = omega arith

length-encodes : (cs : List ℕ) → length (encode_utf8_all cs) ≤ 4 * length cs
length-encodes [] = omega arith
length-encodes (c ∷ cs) = omega (arith, length-append (encode c) (encode_utf8_all cs), four c, length-encodes cs)

one_octet : (c : ℕ) → c < 128 → length (encode c) ≤ 1
one_octet c h = rw (length-encode c) (by_test (nat_lt c 128) (lt-ltb c 128 h))
  where
    by_test : (b : Bool) → b ≡ true → cond b 1 (cond (nat_lt c 2048) 2 (cond (nat_lt c 65536) 3 4)) ≤ 1
    by_test true e = omega arith
    by_test false e = absurd (false≢true e)

-- the two characters that get a backslash have one octet
is_small : (c : ℕ) → (c == 34 || c == 92) ≡ true → c < 128
is_small c e = elim (or_cases (c == 34) (c == 92) e) [ inl quote ↦ omega (arith, eqb-true c 34 quote) | inr backslash ↦ omega (arith, eqb-true c 92 backslash) ]

escaped-length : (c : ℕ) (b : Bool) → (c == 34 || c == 92) ≡ b → length (encode_utf8_all (cond b (92 ∷ c ∷ []) (c ∷ []))) ≤ 4
escaped-length c true e =
    omega (arith, length-append (encode 92) (encode c ++ []), length-append (encode c) [], one_octet 92 (omega arith), one_octet c (is_small c e))
escaped-length c false e = omega (arith, length-append (encode c) [], four c)

escapes-length : (cs : List ℕ) → length (encode_utf8_all (flat_map escaped cs)) ≤ 4 * length cs
escapes-length [] = omega arith
escapes-length (c ∷ cs) = omega (arith, ap length (encodes-append (escaped c) (flat_map escaped cs)), length-append (encode_utf8_all (escaped c)) (encode_utf8_all (flat_map escaped cs)), escaped-length c (c == 34 || c == 92) refl, escapes-length cs)

-- a string's text, by its characters, and by its octets
length-quoted : (text : List ℕ) → length (quoted text) ≤ 4 * length (chars text) + 2
length-quoted text = omega (arith, length-append (encode_utf8_all (flat_map escaped (chars text))) (34 ∷ []), escapes-length (chars text))

length-by_chars : (text : List ℕ) → length (printed (form.Str text)) ≤ 4 * length (chars text) + 2
length-by_chars text = rw (printed-str text) (length-quoted text)

pub length-str : (text : List ℕ) → length (printed (form.Str text)) ≤ 4 * length text + 2
length-str text = let h = length-by_chars text in omega (arith, h, length-chars text)

-- a text that is cut
pub length-cut : (text : List ℕ) → length (printed (form.Str (cut text))) ≤ 16014
length-cut text = by_length (nat_lt max_shown (length (chars text))) refl
  where
    by_length : (b : Bool) → nat_lt max_shown (length (chars text)) ≡ b
        → length (printed (form.Str (if b then encode_utf8_all (take max_shown (chars text)) ++ codes "..." else text))) ≤ 16014
    by_length true e =
        let shown = encode_utf8_all (take max_shown (chars text)) in
        let h = length-str (shown ++ codes "...") in
        omega (arith, h, length-append shown (codes "..."), length-encodes (take max_shown (chars text)), length-take max_shown (chars text))
    by_length false e = let h = length-by_chars text in omega (arith, h, ltb-false max_shown (length (chars text)) e)

-- a text of UTF-8 that is cut is short itself
pub cut-length : (text : List ℕ) → IsUtf8 text → length (cut text) ≤ max_packet
cut-length text utf8 = by_length (nat_lt max_shown (length (chars text))) refl
  where
    by_length : (b : Bool) → nat_lt max_shown (length (chars text)) ≡ b → length (if b then encode_utf8_all (take max_shown (chars text)) ++ codes "..." else text) ≤ max_packet
    by_length true e =
        let shown = encode_utf8_all (take max_shown (chars text)) in
        omega (arith, length-append shown (codes "..."), length-encodes (take max_shown (chars text)), length-take max_shown (chars text))
    by_length false e = omega (arith, ap length (encodes-chars text utf8), length-encodes (chars text), ltb-false max_shown (length (chars text)) e)

-- ---- lists of forms

-- the texts of the forms, each with a space, have at most so many octets
pub data Lengths : List Sexp → ℕ → Type 0 where
  none : Lengths [] 0
  more : (x : Sexp) (xs : List Sexp) (m n : ℕ) → length (printed x) ≤ m → Lengths xs n → Lengths (x ∷ xs) (m + 1 + n)

others-length : {xs : List Sexp} {n : ℕ} → Lengths xs n → length (others_of (map printed xs)) ≤ n
others-length none = omega arith
others-length (more x xs m n h hs) = omega (arith, length-append (printed x) (others_of (map printed xs)), others-length hs)

pub list-length : {xs : List Sexp} {n : ℕ} → Lengths xs n → length (printed (form.List xs)) ≤ n + 3
list-length none = rw (printed-list []) (length-changed (codes "NIL") refl)
list-length (more x xs m n h hs) =
    let others = others_of (map printed xs) in
    rw (printed-list (x ∷ xs)) (omega (arith, length-append (printed x ++ others) (41 ∷ []), length-append (printed x) others, others-length hs))

pub sym_then : (token : List ℕ) → is_plain token ≡ true → {xs : List Sexp} {n : ℕ} → Lengths xs n → Lengths (form.Sym token ∷ xs) (length token + 1 + n)
sym_then token h {xs = xs} {n = n} hs = more (form.Sym token) xs (length token) n (length-sym token h) hs

pub str_then : (text : List ℕ) {xs : List Sexp} {n : ℕ} → Lengths xs n → Lengths (form.Str text ∷ xs) (4 * length text + 2 + 1 + n)
str_then text {xs = xs} {n = n} hs = more (form.Str text) xs (4 * length text + 2) n (length-str text) hs

pub form_then : (x : Sexp) (m : ℕ) → length (printed x) ≤ m → {xs : List Sexp} {n : ℕ} → Lengths xs n → Lengths (x ∷ xs) (m + 1 + n)
form_then x m h {xs = xs} {n = n} hs = more x xs m n h hs
