-- The five forms of words, and that no other words have limits.
use Rattle.std.proofs.Common.{◌≡◌, ◌∙◌, ℕ, Bool, true, false, true≢false, ◌&&◌, ◌||◌, List, [], ◌∷◌, Option, Some, None, refl, sym, ap, ap₂}
use Rattle.std.specs.Prelude.{codes, if◌then◌else◌, option_and_then, option_map}
use Rattle.std.specs.List.{list_all}
use Rattle.std.specs.Str.{bytes_eq}
use Rattle.std.proofs.lemmas.Slice.Eq.{bytes_eq-Decides}
use Rattle.clap.proofs.WalkLemmas.{both}
use Rattle.command_words.specs.Form.{are_both, has_form}
use Rattle.command_words.specs.Words.{NumberOption, Pair, is_number, journal_option, limits_by, limits_from, limits_of, names_option, number_in, number_of, pairs, steps_option}

-- the form `pipe` with some of its options, each once and with a number, in any order
pub data IsForm : List (List ℕ) → Type 0 where
  bare : IsForm (codes "pipe" ∷ [])
  steps : (n : List ℕ) → is_number n ≡ true → IsForm (codes "pipe" ∷ steps_option.name ∷ n ∷ [])
  journal : (n : List ℕ) → is_number n ≡ true → IsForm (codes "pipe" ∷ journal_option.name ∷ n ∷ [])
  steps_first : (n m : List ℕ) → is_number n ≡ true → is_number m ≡ true → IsForm (codes "pipe" ∷ steps_option.name ∷ n ∷ journal_option.name ∷ m ∷ [])
  journal_first : (n m : List ℕ) → is_number n ≡ true → is_number m ≡ true → IsForm (codes "pipe" ∷ journal_option.name ∷ n ∷ steps_option.name ∷ m ∷ [])

same : (a b : List ℕ) → bytes_eq a b ≡ true → a ≡ b
same a b e = (bytes_eq-Decides a b).0 e

pub is_form : (words : List (List ℕ)) → has_form words ≡ true → IsForm words
is_form [] e = absurd (true≢false (sym e))
is_form (form ∷ []) e = rw (same form (codes "pipe") e) bare
is_form (form ∷ name ∷ []) e = absurd (true≢false (sym e))
is_form (form ∷ name ∷ number ∷ []) e =
    let parts = both (bytes_eq form (codes "pipe")) (names_option (name, number) && is_number number) e in
    let more = both (names_option (name, number)) (is_number number) parts.1 in
    rw (same form (codes "pipe") parts.0) (go (bytes_eq name steps_option.name) refl more.0 more.1)
  where
    go : (b : Bool) → bytes_eq name steps_option.name ≡ b → names_option (name, number) ≡ true → is_number number ≡ true → IsForm (codes "pipe" ∷ name ∷ number ∷ [])
    go true is some digits = rw (same name steps_option.name is) (steps number digits)
    go false is some digits =
        let other : bytes_eq name journal_option.name ≡ true = ap (λ (b : Bool). b || bytes_eq name journal_option.name) (sym is) ∙ some in
        rw (same name journal_option.name other) (journal number digits)
is_form (form ∷ name ∷ number ∷ other ∷ []) e = absurd (true≢false (sym e))
is_form (form ∷ name ∷ number ∷ other ∷ further ∷ []) e =
    let parts = both (bytes_eq form (codes "pipe")) (are_both name other && (is_number number && is_number further)) e in
    let more = both (are_both name other) (is_number number && is_number further) parts.1 in
    let digits = both (is_number number) (is_number further) more.1 in
    rw (same form (codes "pipe") parts.0) (go (bytes_eq name steps_option.name && bytes_eq other journal_option.name) refl more.0 digits.0 digits.1)
  where
    go : (b : Bool) → (bytes_eq name steps_option.name && bytes_eq other journal_option.name) ≡ b → are_both name other ≡ true
        → is_number number ≡ true → is_number further ≡ true → IsForm (codes "pipe" ∷ name ∷ number ∷ other ∷ further ∷ [])
    go true is some n m =
        let names = both (bytes_eq name steps_option.name) (bytes_eq other journal_option.name) is in
        rw (same name steps_option.name names.0, same other journal_option.name names.1) (steps_first number further n m)
    go false is some n m =
        let turned : (bytes_eq name journal_option.name && bytes_eq other steps_option.name) ≡ true =
        ap (λ (b : Bool). b || (bytes_eq name journal_option.name && bytes_eq other steps_option.name)) (sym is) ∙ some in
        let names = both (bytes_eq name journal_option.name) (bytes_eq other steps_option.name) turned in
        rw (same name journal_option.name names.0, same other steps_option.name names.1) (journal_first number further n m)
is_form (form ∷ name ∷ number ∷ other ∷ further ∷ more ∷ rest) e = absurd (true≢false (sym e))

-- ---- other words have no limits

-- which option a name is
data Named (name : List ℕ) : Type 0 where
  is_steps : name ≡ steps_option.name → Named name
  is_journal : name ≡ journal_option.name → Named name
  is_other : ((word : List ℕ) → names_option (name, word) ≡ false) → Named name

named : (name : List ℕ) → Named name
named name = go (bytes_eq name steps_option.name) (bytes_eq name journal_option.name) refl refl
  where
    go : (b c : Bool) → bytes_eq name steps_option.name ≡ b → bytes_eq name journal_option.name ≡ c → Named name
    go true c e f = is_steps (same name steps_option.name e)
    go false true e f = is_journal (same name journal_option.name f)
    go false false e f = is_other (λ word. ap₂ (λ (x y : Bool). x || y) e f)

if_none : {A : Type 0} (b : Bool) (x : Option A) → x ≡ None → (if b then x else None) ≡ None
if_none true x e = e
if_none false x e = refl

pub none_behind : (x : Option ℕ) → limits_from x None ≡ None
none_behind (Some x) = refl
none_behind None = refl

and_false : (b : Bool) → (b && false) ≡ false
and_false true = refl
and_false false = refl

-- a pair whose name is no option's
unnamed : (given : List Pair) → list_all names_option given ≡ false → limits_by given ≡ None
unnamed given e = ap (λ (b : Bool). if b then limits_from (number_of steps_option given) (number_of journal_option given) else None) e

no_number : (o : NumberOption) (word : List ℕ) → is_number word ≡ false → number_in o word ≡ None
no_number o word e = rw e refl

one_pair : (name word : List ℕ) → (names_option (name, word) && is_number word) ≡ false → limits_by ((name, word) ∷ []) ≡ None
one_pair name word e = go (named name)
  where
    go : Named name → limits_by ((name, word) ∷ []) ≡ None
    go (is_steps at) =
        let digits : is_number word ≡ false = ap (λ (n : List ℕ). names_option (n, word) && is_number word) (sym at) ∙ e in
        rw (at, no_number steps_option word digits) refl
    go (is_journal at) =
        let digits : is_number word ≡ false = ap (λ (n : List ℕ). names_option (n, word) && is_number word) (sym at) ∙ e in
        rw (at, no_number journal_option word digits) refl
    go (is_other apart) = unnamed ((name, word) ∷ []) (ap (λ (b : Bool). b && true) (apart word))

two_numbers : (o p : NumberOption) (n m : List ℕ) → (is_number n && is_number m) ≡ false → limits_from (number_in o n) (number_in p m) ≡ None
two_numbers o p n m e = go (is_number n) refl
  where
    go : (b : Bool) → is_number n ≡ b → limits_from (number_in o n) (number_in p m) ≡ None
    go false f = ap (λ x. limits_from x (number_in p m)) (no_number o n f)
    go true f =
        let digits : is_number m ≡ false = ap (λ (b : Bool). b && is_number m) (sym f) ∙ e in
        ap (limits_from (number_in o n)) (no_number p m digits) ∙ none_behind (number_in o n)

and_comm : (a b : Bool) → (a && b) ≡ (b && a)
and_comm true true = refl
and_comm true false = refl
and_comm false true = refl
and_comm false false = refl

abbrev two_fit : List ℕ → List ℕ → List ℕ → List ℕ → Bool
two_fit name word other further = are_both name other && (is_number word && is_number further)

two_pairs : (name word other further : List ℕ) → two_fit name word other further ≡ false → limits_by ((name, word) ∷ (other, further) ∷ []) ≡ None
two_pairs name word other further e = go (named name) (named other)
  where
    at_names : (a b : List ℕ) → name ≡ a → other ≡ b → two_fit a word b further ≡ false
    at_names a b at behind = ap₂ (λ (x y : List ℕ). two_fit x word y further) (sym at) (sym behind) ∙ e

    go : Named name → Named other → limits_by ((name, word) ∷ (other, further) ∷ []) ≡ None
    go (is_steps at) (is_steps behind) = rw (at, behind) refl
    go (is_journal at) (is_journal behind) = rw (at, behind) refl
    go (is_steps at) (is_journal behind) =
        let digits : (is_number word && is_number further) ≡ false = at_names steps_option.name journal_option.name at behind in
        rw (at, behind) (two_numbers steps_option journal_option word further digits)
    go (is_journal at) (is_steps behind) =
        let digits : (is_number word && is_number further) ≡ false = at_names journal_option.name steps_option.name at behind in
        rw (at, behind) (two_numbers steps_option journal_option further word (and_comm (is_number further) (is_number word) ∙ digits))
    go (is_other apart) b = unnamed ((name, word) ∷ (other, further) ∷ []) (ap (λ (x : Bool). x && (names_option (other, further) && true)) (apart word))
    go a (is_other apart) = unnamed ((name, word) ∷ (other, further) ∷ [])
        (ap (λ (x : Bool). names_option (name, word) && (x && true)) (apart further) ∙ and_false (names_option (name, word)))

-- of three pairs two have one name
three_pairs : (a n b m c k : List ℕ) (more : List Pair) → limits_by ((a, n) ∷ (b, m) ∷ (c, k) ∷ more) ≡ None
three_pairs a n b m c k more = go (named a) (named b) (named c)
  where
    go : Named a → Named b → Named c → limits_by ((a, n) ∷ (b, m) ∷ (c, k) ∷ more) ≡ None
    go (is_steps e) (is_steps f) z = rw (e, f) (if_none (names_option (c, k) && list_all names_option more) _ refl)
    go (is_journal e) (is_journal f) z = rw (e, f) (if_none (names_option (c, k) && list_all names_option more) _ (none_behind _))
    go (is_steps e) (is_journal f) (is_steps g) = rw (e, f, g) (if_none (list_all names_option more) _ refl)
    go (is_steps e) (is_journal f) (is_journal g) = rw (e, f, g) (if_none (list_all names_option more) _ (none_behind _))
    go (is_journal e) (is_steps f) (is_steps g) = rw (e, f, g) (if_none (list_all names_option more) _ refl)
    go (is_journal e) (is_steps f) (is_journal g) = rw (e, f, g) (if_none (list_all names_option more) _ (none_behind _))
    go (is_other apart) y z = unnamed ((a, n) ∷ (b, m) ∷ (c, k) ∷ more)
        (ap (λ (x : Bool). x && (names_option (b, m) && (names_option (c, k) && list_all names_option more))) (apart n))
    go x (is_other apart) z = unnamed ((a, n) ∷ (b, m) ∷ (c, k) ∷ more)
        (ap (λ (y : Bool). names_option (a, n) && (y && (names_option (c, k) && list_all names_option more))) (apart m) ∙ and_false (names_option (a, n)))
    go x y (is_other apart) = unnamed ((a, n) ∷ (b, m) ∷ (c, k) ∷ more)
        (ap (λ (z : Bool). names_option (a, n) && (names_option (b, m) && (z && list_all names_option more))) (apart k)
        ∙ ap (λ (z : Bool). names_option (a, n) && z) (and_false (names_option (b, m))) ∙ and_false (names_option (a, n)))

many_pairs : (a n b m c : List ℕ) (rest : List (List ℕ)) → option_and_then limits_by (pairs (a ∷ n ∷ b ∷ m ∷ c ∷ rest)) ≡ None
many_pairs a n b m c [] = refl
many_pairs a n b m c (k ∷ rest) = go (pairs rest)
  where
    go : (o : Option (List Pair)) → option_and_then limits_by (option_map (λ more. (a, n) ∷ more) (option_map (λ more. (b, m) ∷ more) (option_map (λ more. (c, k) ∷ more) o))) ≡ None
    go None = refl
    go (Some more) = three_pairs a n b m c k more

pub no_form : (words : List (List ℕ)) → has_form words ≡ false → limits_of words ≡ None
no_form [] e = refl
no_form (form ∷ []) e = rw e refl
no_form (form ∷ name ∷ []) e = if_none (bytes_eq form (codes "pipe")) _ refl
no_form (form ∷ name ∷ word ∷ []) e = go (bytes_eq form (codes "pipe")) refl
  where
    go : (b : Bool) → bytes_eq form (codes "pipe") ≡ b → limits_of (form ∷ name ∷ word ∷ []) ≡ None
    go false f = rw f refl
    go true f = rw f (one_pair name word (ap (λ (b : Bool). b && (names_option (name, word) && is_number word)) (sym f) ∙ e))
no_form (form ∷ name ∷ word ∷ other ∷ []) e = if_none (bytes_eq form (codes "pipe")) _ refl
no_form (form ∷ name ∷ word ∷ other ∷ further ∷ []) e = go (bytes_eq form (codes "pipe")) refl
  where
    go : (b : Bool) → bytes_eq form (codes "pipe") ≡ b → limits_of (form ∷ name ∷ word ∷ other ∷ further ∷ []) ≡ None
    go false f = rw f refl
    go true f = rw f (two_pairs name word other further (ap (λ (b : Bool). b && two_fit name word other further) (sym f) ∙ e))
no_form (form ∷ a ∷ n ∷ b ∷ m ∷ c ∷ rest) e = if_none (bytes_eq form (codes "pipe")) _ (many_pairs a n b m c rest)
