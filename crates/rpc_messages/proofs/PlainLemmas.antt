-- The form of a message is plain.
use mir.Syntax.{w64}
use Rattle.std.proofs.Common.{◌≡◌, ◌==◌, ◌||◌, ◌&&◌, ℕ, suc, ◌<◌, Bool, true, false, List, [], ◌∷◌, length, map, refl, sym, ap, subst, arith, nat_lt}
use Rattle.std.specs.Prelude.{◌^◌, ℤ, pos, All, codes, FitsSigned, IfOk, OnOk, Result, Ok, Err}
use Rattle.std.specs.Char.{to_ascii_uppercase}
use Rattle.std.specs.List.{list_all, list_any}
use Rattle.std.specs.Str.{IsAscii, IsUtf8}
use Rattle.std.specs.Str.Parse.{AllDigits}
use Rattle.std.proofs.lemmas.Bool.{and_parts, ne_eqb}
use Rattle.std.proofs.lemmas.Bool.Decides.{nat_tests}
use Rattle.std.proofs.lemmas.List.Elements.{All-head, All-tail}
use Rattle.std.proofs.lemmas.Str.{chars-IsAscii, IsUtf8-from_ascii}
use Rattle.std.proofs.lemmas.Str.Ascii.{IsAscii-nil, IsAscii-cons}
use Rattle.std.proofs.lemmas.Str.Parse.{digit_at}
use Rattle.lisp_data.specs.declared.sexp.Sexp.{Sexp}
use Rattle.lisp_data.specs.declared.sexp.Sexp.TheVariants as form
use Rattle.lisp_data.specs.Sexp.{nil}
use Rattle.sexp_printer.specs.Plain.{IsPlain, ArePlain, IsPlainToken}
use Rattle.sexp_reader.specs.Tokens.{ends_token, spoils, uppercase, IsInteger, IsNumberLike, HasGoodColons, IsBad}
use Rattle.rpc_messages.specs.Outgoing.{number, message, restart_form, frame_form, form_of, HaveSmallNumbers, HasSmallNumbers}
use Rattle.rpc_messages.specs.Plain.{ReturnsPlain, HasTexts, HasText, IsSound}
use Rattle.rpc_messages.specs.declared.to_emacs.FrameLine.{FrameLine}
use Rattle.rpc_messages.specs.declared.to_emacs.RestartLine.{RestartLine}
use Rattle.rpc_messages.specs.declared.to_emacs.Returned.TheVariants as returned
use Rattle.rpc_messages.specs.declared.to_emacs.ToEmacs.{ToEmacs}
use Rattle.rpc_messages.specs.declared.to_emacs.ToEmacs.TheVariants.{Return, InvalidRpc, ReaderError, WriteString, ReadString, ReadAborted, YesNo, NewPackage, Debug, DebugActivate, DebugReturn, DebugCondition}

-- ---- keywords of capital letters and hyphens

abbrev is_capital : ℕ → Bool
is_capital c = (nat_lt 64 c && nat_lt c 91) || c == 45

abbrev are_capitals : List ℕ → Bool
are_capitals name = list_all is_capital name

-- a capital is none of what is no capital
apart : (c k : ℕ) → is_capital c ≡ true → is_capital k ≡ false → (c == k) ≡ false
apart c k h other = ne_eqb c k (λ e. let same : is_capital c ≡ is_capital k = ap is_capital e in cc)

no_end : (c : ℕ) → is_capital c ≡ true → ends_token c ≡ false
no_end c h = rw (
  apart c 32 h refl,
  apart c 9 h refl,
  apart c 10 h refl,
  apart c 13 h refl,
  apart c 12 h refl,
  apart c 40 h refl,
  apart c 41 h refl,
  apart c 34 h refl,
  apart c 59 h refl,
  apart c 39 h refl,
) refl

no_spoil : (c : ℕ) → is_capital c ≡ true → spoils c ≡ false
no_spoil c h = rw (apart c 92 h refl, apart c 124 h refl, apart c 44 h refl, apart c 96 h refl) refl

below : (c : ℕ) → is_capital c ≡ true → c < 91
below c h = grind (arith, nat_tests)

stays : (c : ℕ) → is_capital c ≡ true → to_ascii_uppercase c ≡ c
stays c h = let b = below c h in grind (arith, nat_tests)

none_of : (p : ℕ → Bool) → ((c : ℕ) → is_capital c ≡ true → p c ≡ false) → (name : List ℕ) → are_capitals name ≡ true → list_any p name ≡ false
none_of p never [] h = refl
none_of p never (c ∷ cs) h =
    let parts = and_parts (is_capital c) (are_capitals cs) h in
    rw (never c parts.0, none_of p never cs parts.1) refl

all_stay : (name : List ℕ) → are_capitals name ≡ true → uppercase name ≡ name
all_stay [] h = refl
all_stay (c ∷ cs) h =
    let parts = and_parts (is_capital c) (are_capitals cs) h in
    rw (stays c parts.0, all_stay cs parts.1) refl

ascii : (name : List ℕ) → are_capitals name ≡ true → IsAscii name
ascii [] h = IsAscii-nil
ascii (c ∷ cs) h =
    let parts = and_parts (is_capital c) (are_capitals cs) h in
    let b = below c parts.0 in
    IsAscii-cons c cs (omega arith) (ascii cs parts.1)

first : {c : ℕ} {cs : List ℕ} {d : ℕ} {ds : List ℕ} → c ∷ cs ≡ d ∷ ds → c ≡ d
first e = cc

others : {c : ℕ} {cs : List ℕ} {d : ℕ} {ds : List ℕ} → c ∷ cs ≡ d ∷ ds → cs ≡ ds
others e = cc

-- a colon is no digit
no_digits : (name ds : List ℕ) → AllDigits 10 ds → ds ≡ 58 ∷ name → ⊥
no_digits name [] all e = absurd (cc)
no_digits name (d ∷ ds) all e =
    let r = digit_at (d ∷ ds) 0 all (omega arith) in
    let colon : d ≡ 58 = first e in
    absurd (omega (arith, r.1, colon))

no_integer : (name : List ℕ) {t : List ℕ} {z : ℤ} → IsInteger t z → t ≡ 58 ∷ name → ⊥
no_integer name (IsInteger.bare digits is) e = no_digits name digits is.1 e
no_integer name (IsInteger.plus digits is) e = let head : 43 ≡ 58 = first e in absurd (omega (arith, head))
no_integer name (IsInteger.minus digits is) e = let head : 45 ≡ 58 = first e in absurd (omega (arith, head))

no_number : (name : List ℕ) {t : List ℕ} → IsNumberLike t → t ≡ 58 ∷ name → ⊥
no_number name (IsNumberLike.bare c more begins) e = let head : c ≡ 58 = first e in absurd (cc (rw head at begins))
no_number name (IsNumberLike.plus c more begins) e = let head : 43 ≡ 58 = first e in absurd (omega (arith, head))
no_number name (IsNumberLike.minus c more begins) e = let head : 45 ≡ 58 = first e in absurd (omega (arith, head))

good : (name : List ℕ) → are_capitals name ≡ true → 0 < length name → length name < 1000 → {t : List ℕ} → IsBad t → t ≡ 58 ∷ name → ⊥
good name h some short (IsBad.begins_with_hash more) e = let head : 35 ≡ 58 = first e in absurd (omega (arith, head))
good name h some short (IsBad.is_spoiled t spoiled) e =
    let none : list_any spoils (58 ∷ name) ≡ false = none_of spoils no_spoil name h in
    absurd (cc (ap (list_any spoils) e))
good name h some short (IsBad.is_too_long t long) e = absurd (omega (arith, ap length e))
good name h some short (IsBad.is_no_number t like nowhere plus minus) e = no_number name like e
good name h some short (IsBad.has_bad_colons t bad) e =
    bad (subst HasGoodColons (sym e) (HasGoodColons.leading name (none_of (λ c. c == 58) (λ c h'. apart c 58 h' refl) name h)))
good name h some short IsBad.is_colon e = let rest : [] ≡ name = others e in absurd (omega (arith, ap length rest))

-- such a keyword is a plain symbol
keyword : (n : ℕ) (name : List ℕ) → are_capitals name ≡ true → 0 < length name → length name < 1000 → IsPlain n (form.Sym (58 ∷ name))
keyword n name h some short =
    let a : IsAscii (58 ∷ name) = IsAscii-cons 58 name (omega arith) (ascii name h) in
    let plain : IsPlainToken (58 ∷ name) = record {
      not_empty = omega arith;
      unbroken = none_of ends_token no_end name h;
      good = λ bad. good name h some short bad refl;
      upper = ap (λ cs. 58 ∷ cs) (all_stay name h);
      not_nil = λ e. (let head : 58 ≡ 78 = first e in absurd (omega (arith, head)));
      no_integer = λ z is. no_integer name is refl;
    } in
    IsPlain.symbol n (58 ∷ name) (IsUtf8-from_ascii (58 ∷ name) a) (subst IsPlainToken (sym (chars-IsAscii (58 ∷ name) a)) plain)

-- ---- parts

number-plain : (n k : ℕ) → k < 2 ^ 63 → IsPlain n (number k)
number-plain n k small = let fits : FitsSigned w64 (pos k) = record { sfits = small } in IsPlain.integer n (pos k) fits

list-plain : {n : ℕ} {xs : List Sexp} → ArePlain n xs → IsPlain (suc n) (form.List xs)
list-plain (ArePlain.none n) = IsPlain.nil (suc n)
list-plain (ArePlain.more n x xs first all) = IsPlain.list n x xs first all

-- a list of one, two or three more items
one : {n : ℕ} {x : Sexp} → IsPlain n x → ArePlain n (x ∷ [])
one p = ArePlain.more _ _ _ p (ArePlain.none _)

two : {n : ℕ} {x y : Sexp} → IsPlain n x → IsPlain n y → ArePlain n (x ∷ y ∷ [])
two p q = ArePlain.more _ _ _ p (one q)

three : {n : ℕ} {x y z : Sexp} → IsPlain n x → IsPlain n y → IsPlain n z → ArePlain n (x ∷ y ∷ z ∷ [])
three p q r = ArePlain.more _ _ _ p (two q r)

restarts-plain : (n : ℕ) (lines : List RestartLine) → All HasTexts lines → ArePlain (suc n) (map restart_form lines)
restarts-plain n [] all = ArePlain.none (suc n)
restarts-plain n (line ∷ lines) all =
    let texts = All-head HasTexts line lines all in
    ArePlain.more (suc n) _ _ (list-plain (two (IsPlain.string n line.name texts.name) (IsPlain.string n line.text texts.text)))
    (restarts-plain n lines (All-tail HasTexts line lines all))

frames-plain : (n : ℕ) (lines : List FrameLine) → HaveSmallNumbers lines → All HasText lines → ArePlain (suc n) (map frame_form lines)
frames-plain n [] small all = ArePlain.none (suc n)
frames-plain n (line ∷ lines) small all =
    let Small : FrameLine → Type 0 = λ x. x.number < 2 ^ 63 in
    ArePlain.more (suc n) _ _ (list-plain (two (number-plain n line.number (All-head Small line lines small)) (IsPlain.string n line.text (All-head HasText line lines all).text)))
    (frames-plain n lines (All-tail Small line lines small) (All-tail HasText line lines all))

ids-plain : (n : ℕ) (ids : List ℤ) → All (FitsSigned w64) ids → ArePlain n (map form.Int ids)
ids-plain n [] all = ArePlain.none n
ids-plain n (id ∷ ids) all =
    ArePlain.more n _ _ (IsPlain.integer n id (All-head (FitsSigned w64) id ids all)) (ids-plain n ids (All-tail (FitsSigned w64) id ids all))

-- ---- messages

-- a keyword and plain parts
headed : (name : List ℕ) (parts : List Sexp) → are_capitals name ≡ true → 0 < length name → length name < 1000 → ArePlain 499 parts
    → IsPlain 500 (message (58 ∷ name) parts)
headed name parts h some short all = list-plain (ArePlain.more 499 _ _ (keyword 499 name h some short) all)

string : (text : List ℕ) → IsUtf8 text → IsPlain 499 (form.Str text)
string = IsPlain.string 499

of_thread : (name : List ℕ) (thread tag : ℕ) (last : List Sexp) → are_capitals name ≡ true → 0 < length name → length name < 1000
    → thread < 2 ^ 63 → tag < 2 ^ 63 → ArePlain 499 last → IsPlain 500 (message (58 ∷ name) (number thread ∷ number tag ∷ last))
of_thread name thread tag last h some short small small' all =
    headed name _ h some short (ArePlain.more 499 _ _ (number-plain 499 thread small) (ArePlain.more 499 _ _ (number-plain 499 tag small') all))

nil-plain : ArePlain 499 (nil ∷ [])
nil-plain = one (IsPlain.nil 499)

-- the form of each message whose parts are sound, and whose numbers are small, is plain
pub form_of-plain : (m : ToEmacs) → HasSmallNumbers m → IsSound m → ReturnsPlain m → IsPlain 500 (form_of m)
form_of-plain (Return id (returned.Ok value)) small sound plain =
    headed (codes "RETURN") _ refl (omega arith) (omega arith)
    (two (list-plain (two (keyword 498 (codes "OK") refl (omega arith) (omega arith)) plain)) (IsPlain.integer 499 id sound))
form_of-plain (Return id returned.Abort) small sound plain =
    headed (codes "RETURN") _ refl (omega arith) (omega arith)
    (two (list-plain (two (keyword 498 (codes "ABORT") refl (omega arith) (omega arith)) (IsPlain.string 498 (codes "NIL") (IsUtf8-from_ascii (codes "NIL") (ascii (codes "NIL") refl)))))
    (IsPlain.integer 499 id sound))
form_of-plain (InvalidRpc id text) small sound plain =
    headed (codes "INVALID-RPC") _ refl (omega arith) (omega arith) (two (IsPlain.integer 499 id sound.0) (string text sound.1))
form_of-plain (ReaderError packet text) small sound plain =
    headed (codes "READER-ERROR") _ refl (omega arith) (omega arith) (two (string packet sound.0) (string text sound.1))
form_of-plain (WriteString text true) small sound plain =
    headed (codes "WRITE-STRING") _ refl (omega arith) (omega arith)
    (two (string text sound) (keyword 499 (codes "REPL-RESULT") refl (omega arith) (omega arith)))
form_of-plain (WriteString text false) small sound plain = headed (codes "WRITE-STRING") _ refl (omega arith) (omega arith) (one (string text sound))
form_of-plain (ReadString thread tag) small sound plain =
    of_thread (codes "READ-STRING") thread tag _ refl (omega arith) (omega arith) small.0 small.1 (ArePlain.none 499)
form_of-plain (ReadAborted thread tag) small sound plain =
    of_thread (codes "READ-ABORTED") thread tag _ refl (omega arith) (omega arith) small.0 small.1 (ArePlain.none 499)
form_of-plain (YesNo thread tag text) small sound plain =
    of_thread (codes "Y-OR-N-P") thread tag _ refl (omega arith) (omega arith) small.0 small.1 (one (string text sound))
form_of-plain (NewPackage name prompt) small sound plain =
    headed (codes "NEW-PACKAGE") _ refl (omega arith) (omega arith) (two (string name sound.0) (string prompt sound.1))
form_of-plain (Debug thread level text type_line restarts frames continuations) small sound plain =
    of_thread (codes "DEBUG") thread level _ refl (omega arith) (omega arith) small.0 small.1
    (ArePlain.more 499 _ _ (list-plain (three (IsPlain.string 498 text sound.0) (IsPlain.string 498 type_line sound.1) (IsPlain.nil 498)))
    (three (list-plain (restarts-plain 497 restarts sound.2)) (list-plain (frames-plain 497 frames small.2 sound.3)) (list-plain (ids-plain 498 continuations sound.4))))
form_of-plain (DebugActivate thread level) small sound plain =
    of_thread (codes "DEBUG-ACTIVATE") thread level _ refl (omega arith) (omega arith) small.0 small.1 nil-plain
form_of-plain (DebugReturn thread level) small sound plain =
    of_thread (codes "DEBUG-RETURN") thread level _ refl (omega arith) (omega arith) small.0 small.1 nil-plain
form_of-plain (DebugCondition thread text) small sound plain =
    headed (codes "DEBUG-CONDITION") _ refl (omega arith) (omega arith) (two (number-plain 499 thread small) (string text sound))

-- so is the one that a call answers
pub answer-plain : {E : Type 0} (answer : Result Sexp E) (m : ToEmacs) → HasSmallNumbers m → IfOk answer (λ x. x ≡ form_of m) → OnOk answer (IsSound m)
    → ReturnsPlain m → IfOk answer (λ x. IsPlain 500 x)
answer-plain (Ok x) m small is sound plain = subst (IsPlain 500) (sym is) (form_of-plain m small sound plain)
answer-plain (Err e) m small is sound plain = tt

pub on_ok : {X E P : Type 0} (r : Result X E) → P → OnOk r P
on_ok (Ok x) p = p
on_ok (Err e) p = tt
