-- What the test of an image's package names says, how it goes through them, and that the symbols in packages don't matter to it.
use Rattle.std.proofs.Common.{◌≡◌, ℕ, zero, suc, ◌+◌, ◌^◌, ◌<◌, ◌≤◌, ◌⊎◌, inl, inr, Bool, true, false, List, [], ◌∷◌, length, take, Option, Some, None, refl, sym, ap, ◌∙◌, subst, arith}
use Rattle.std.specs.Prelude.{◌&&◌, ◌||◌, cond, nat_le, nat_lt, slice_get, option_map, option_and_then, unwrap_or, get_or}
use Rattle.std.specs.List.{list_all, list_any, position_from}
use Rattle.std.specs.Option.{option_map_or}
use Rattle.std.specs.Str.{bytes_eq}
use Rattle.std.proofs.lemmas.Bool.{and_parts, true≢false}
use Rattle.std.proofs.lemmas.Bool.Decides.{nat_tests}
use Rattle.std.proofs.lemmas.List.Folds.{list_all_at, list_all_more, list_any_more}
use Rattle.std.proofs.lemmas.Option.{get_or_from_slice_get, none-some, same_Some, slice_get_cases, slice_get_within}
use Rattle.std.proofs.lemmas.Slice.Eq.{bytes_eq-Decides}
use Rattle.std.proofs.Math.Seq.{take-length}
use Rattle.lisp_packages.specs.declared.entry.Entry.{Entry}
use Rattle.lisp_packages.specs.declared.lisp_package.Package.{Package}
use Rattle.lisp_packages.specs.Packages.{is_named, name_at, place_of, prompt_of, with_own}
use Rattle.step_model.specs.CurrentPackage.{user_package}
use Rattle.swank_rpc.specs.Info.{prompt}
use Rattle.server_laws.specs.Small.{are_short, is_short, is_user, max_name}

-- ---- what it says

le-of : (a b : ℕ) → nat_le a b ≡ true → a ≤ b
le-of a b h = grind (arith, nat_tests)

lt-of : (a b : ℕ) → nat_lt a b ≡ true → a < b
lt-of a b h = grind (arith, nat_tests)

is-lt : (a b : ℕ) → a < b → nat_lt a b ≡ true
is-lt a b h = grind (arith, nat_tests)

-- a package's name is short, and what a prompt shows for it
pub record IsShort (ps : List Package) (p : Package) : Type 0 where
  pub name : length p.name ≤ max_name
  pub shown : length (prompt ps p.name) ≤ max_name

short-of : (ps : List Package) (p : Package) → is_short ps p ≡ true → IsShort ps p
short-of ps p h =
    let parts = and_parts (nat_le (length p.name) max_name) (nat_le (length (prompt ps p.name)) max_name) h in
    record { name = le-of (length p.name) max_name parts.0; shown = le-of (length (prompt ps p.name)) max_name parts.1 }

-- the three parts of the test
pub record AreShort (ps : List Package) : Type 0 where
  pub few : length ps < 2 ^ 63
  pub user : list_any is_user ps ≡ true
  pub names : list_all (is_short ps) ps ≡ true

pub parts-of : (ps : List Package) → are_short ps ≡ true → AreShort ps
parts-of ps h =
    let all = and_parts (nat_lt (length ps) (2 ^ 63) && list_any is_user ps) (list_all (is_short ps) ps) h in
    let two = and_parts (nat_lt (length ps) (2 ^ 63)) (list_any is_user ps) all.0 in
    record { few = lt-of (length ps) (2 ^ 63) two.0; user = two.1; names = all.1 }

-- the package at a place, where one stands there
at-place : (ps qs : List Package) (i : ℕ) (p : Package) → slice_get qs i ≡ Some p → list_all (is_short ps) qs ≡ true → IsShort ps p
at-place ps [] i p e h = absurd (none-some p e)
at-place ps (q ∷ qs) zero p e h =
    let parts = and_parts (is_short ps q) (list_all (is_short ps) qs) h in
    subst (IsShort ps) (same_Some q p e) (short-of ps q parts.0)
at-place ps (q ∷ qs) (suc i) p e h = at-place ps qs i p e (and_parts (is_short ps q) (list_all (is_short ps) qs) h).1

pub name_short : (ps : List Package) (i : ℕ) → are_short ps ≡ true → length (name_at ps i) ≤ max_name
name_short ps i h = by (slice_get ps i) refl
  where
    by : (o : Option Package) → slice_get ps i ≡ o → length (option_map_or (λ (p : Package). p.name) o []) ≤ max_name
    by None e = omega arith
    by (Some p) e = (at-place ps ps i p e (parts-of ps h).names).name

-- what a prompt shows for the package of the name COMMON-LISP-USER
user-among : (ps qs : List Package) → list_any is_user qs ≡ true → list_all (is_short ps) qs ≡ true → length (prompt ps user_package) ≤ max_name
user-among ps [] e h = absurd (true≢false (sym e))
user-among ps (q ∷ qs) e h =
    let parts = and_parts (is_short ps q) (list_all (is_short ps) qs) h in
    by (is_user q) refl e (short-of ps q parts.0) (λ further. user-among ps qs further parts.1)
  where
    by : (b : Bool) → is_user q ≡ b → (b || list_any is_user qs) ≡ true → IsShort ps q → (list_any is_user qs ≡ true → length (prompt ps user_package) ≤ max_name) → length (prompt ps user_package) ≤ max_name
    by true u e s k = subst (λ (name : List ℕ). length (prompt ps name) ≤ max_name) ((bytes_eq-Decides q.name user_package).0 u) s.shown
    by false u e s k = k e

pub user_short : (ps : List Package) → are_short ps ≡ true → length (prompt ps user_package) ≤ max_name
user_short ps h = let parts = parts-of ps h in user-among ps ps parts.user parts.names

-- a package that a text names stands in the list
found-within : (text : List ℕ) (n : ℕ) (ps : List Package) (i : ℕ) → position_from (is_named text) n ps ≡ Some i → i < n + length ps
found-within text n [] i e = absurd (none-some i e)
found-within text n (p ∷ ps) i e = by (is_named text p) e (found-within text (n + 1) ps i)
  where
    by : (b : Bool) → cond b (Some n) (position_from (is_named text) (n + 1) ps) ≡ Some i → (position_from (is_named text) (n + 1) ps ≡ Some i → i < n + 1 + length ps) → i < n + length (p ∷ ps)
    by true e k = omega (arith, same_Some n i e)
    by false e k = omega (arith, k e)

-- what a prompt shows for a package that a text names
pub prompt_found : (ps : List Package) (text : List ℕ) (i : ℕ) → place_of ps text ≡ Some i → are_short ps ≡ true → length (prompt ps (name_at ps i)) ≤ max_name
prompt_found ps text i e h = by (slice_get ps i) refl
  where
    by : (o : Option Package) → slice_get ps i ≡ o → length (prompt ps (option_map_or (λ (p : Package). p.name) o [])) ≤ max_name
    by (Some p) s = (at-place ps ps i p s (parts-of ps h).names).shown
    by None s = absurd (past (slice_get_cases ps i).1 (found-within text 0 ps i e) s)
      where
        past : ((x : Package) × (i < length ps) × (slice_get ps i ≡ Some x) × (get_or ps i x ≡ x)) ⊎ ((length ps ≤ i) × (slice_get ps i ≡ None)) → i < 0 + length ps → slice_get ps i ≡ None → ⊥
        past (inl there) within none = cc (there.2, none)
        past (inr gone) within none = omega (arith, gone.0, within)

-- ---- the symbols in packages don't matter

abbrev IgnoresOwn : (Package → Bool) → (Package → Bool) → Type 0
IgnoresOwn f g = (p : Package) (own : List Entry) → f (record p { own = own }) ≡ g p

all-same : (f g : Package → Bool) → ((p : Package) → f p ≡ g p) → (ps : List Package) → list_all f ps ≡ list_all g ps
all-same f g each [] = refl
all-same f g each (p ∷ ps) = ap (λ (b : Bool). b && list_all f ps) (each p) ∙ ap (λ (b : Bool). g p && b) (all-same f g each ps)

all-own : (f g : Package → Bool) → IgnoresOwn f g → ((p : Package) → f p ≡ g p) → (ps : List Package) (i : ℕ) (own : List Entry) → list_all f (with_own ps i own) ≡ list_all g ps
all-own f g same each [] i own = refl
all-own f g same each (p ∷ ps) zero own = ap (λ (b : Bool). b && list_all f ps) (same p own) ∙ ap (λ (b : Bool). g p && b) (all-same f g each ps)
all-own f g same each (p ∷ ps) (suc i) own = ap (λ (b : Bool). b && list_all f (with_own ps i own)) (each p) ∙ ap (λ (b : Bool). g p && b) (all-own f g same each ps i own)

any-own : (f : Package → Bool) → IgnoresOwn f f → (ps : List Package) (i : ℕ) (own : List Entry) → list_any f (with_own ps i own) ≡ list_any f ps
any-own f same [] i own = refl
any-own f same (p ∷ ps) zero own = ap (λ (b : Bool). b || list_any f ps) (same p own)
any-own f same (p ∷ ps) (suc i) own = ap (λ (b : Bool). f p || b) (any-own f same ps i own)

length-own : (ps : List Package) (i : ℕ) (own : List Entry) → length (with_own ps i own) ≡ length ps
length-own [] i own = refl
length-own (p ∷ ps) zero own = refl
length-own (p ∷ ps) (suc i) own = ap suc (length-own ps i own)

place-own : (text : List ℕ) (n : ℕ) (ps : List Package) (i : ℕ) (own : List Entry) → position_from (is_named text) n (with_own ps i own) ≡ position_from (is_named text) n ps
place-own text n [] i own = refl
place-own text n (p ∷ ps) zero own = refl
place-own text n (p ∷ ps) (suc i) own = ap (λ (o : Option ℕ). cond (is_named text p) (Some n) o) (place-own text (n + 1) ps i own)

prompt-at-own : (ps : List Package) (i : ℕ) (own : List Entry) (k : ℕ) → option_map prompt_of (slice_get (with_own ps i own) k) ≡ option_map prompt_of (slice_get ps k)
prompt-at-own [] i own k = refl
prompt-at-own (p ∷ ps) zero own zero = refl
prompt-at-own (p ∷ ps) zero own (suc k) = refl
prompt-at-own (p ∷ ps) (suc i) own zero = refl
prompt-at-own (p ∷ ps) (suc i) own (suc k) = prompt-at-own ps i own k

prompt-own : (ps : List Package) (i : ℕ) (own : List Entry) (name : List ℕ) → prompt (with_own ps i own) name ≡ prompt ps name
prompt-own ps i own name =
    ap (λ (o : Option ℕ). unwrap_or (option_map prompt_of (option_and_then (slice_get (with_own ps i own)) o)) name) (place-own name 0 ps i own)
    ∙ by (place_of ps name)
  where
    by : (o : Option ℕ) → unwrap_or (option_map prompt_of (option_and_then (slice_get (with_own ps i own)) o)) name ≡ unwrap_or (option_map prompt_of (option_and_then (slice_get ps) o)) name
    by None = refl
    by (Some k) = ap (λ (o : Option (List ℕ)). unwrap_or o name) (prompt-at-own ps i own k)

is_short-own : (ps : List Package) (i : ℕ) (own : List Entry) (p : Package) → is_short (with_own ps i own) p ≡ is_short ps p
is_short-own ps i own p = ap (λ (shown : List ℕ). nat_le (length p.name) max_name && nat_le (length shown) max_name) (prompt-own ps i own p.name)

pub are_short-own : (ps : List Package) (i : ℕ) (own : List Entry) → are_short (with_own ps i own) ≡ are_short ps
are_short-own ps i own =
    ap (λ (n : ℕ). nat_lt n (2 ^ 63) && list_any is_user (with_own ps i own) && list_all (is_short (with_own ps i own)) (with_own ps i own)) (length-own ps i own)
    ∙ ap (λ (b : Bool). nat_lt (length ps) (2 ^ 63) && b && list_all (is_short (with_own ps i own)) (with_own ps i own)) (any-own is_user (λ p o. refl) ps i own)
    ∙ ap (λ (b : Bool). nat_lt (length ps) (2 ^ 63) && list_any is_user ps && b)
    (all-own (is_short (with_own ps i own)) (is_short ps) (λ p o. is_short-own ps i own (record p { own = o })) (is_short-own ps i own) ps i own)

-- ---- going through the packages

-- how far the test has come
pub record Passed (ps : List Package) (n : ℕ) (has_user : Bool) : Type 0 where
  pub within : n ≤ length ps
  pub user : list_any is_user (take n ps) ≡ has_user
  pub names : list_all (is_short ps) (take n ps) ≡ true

pub passed-none : (ps : List Package) → Passed ps 0 false
passed-none ps = record { within = omega arith; user = refl; names = refl }

-- the package of this place, by its name
record At (ps : List Package) (n : ℕ) (name : List ℕ) : Type 0 where
  found : Package
  stands : slice_get ps n ≡ Some found
  named : found.name ≡ name

at-of : (ps : List Package) (n : ℕ) (name : List ℕ) → Some name ≡ option_map (λ (p : Package). p.name) (slice_get ps n) → At ps n name
at-of ps n name e = by (slice_get ps n) refl e
  where
    by : (o : Option Package) → slice_get ps n ≡ o → Some name ≡ option_map (λ (p : Package). p.name) o → At ps n name
    by None s e = absurd (none-some name (sym e))
    by (Some p) s e = record { found = p; stands = s; named = sym (same_Some name p.name e) }

abbrev short_name : List Package → List ℕ → Bool
short_name ps name = nat_le (length name) max_name && nat_le (length (prompt ps name)) max_name

exact : (a b : ℕ) → a ≤ b → b ≤ a → a ≡ b
exact a b x y = omega (arith, x, y)

all-true : (a b c u : Bool) → a ≡ true → b ≡ u → c ≡ true → u ≡ (a && b && c)
all-true true true true u x y z = sym y
all-true true false true u x y z = sym y
all-true true b false u x y z = absurd (true≢false (sym z))
all-true false b c u x y z = absurd (true≢false (sym x))

-- the last was passed
pub passed-all : (ps : List Package) (n : ℕ) (has_user : Bool) → n < 2 ^ 63 → Passed ps n has_user → None ≡ option_map (λ (p : Package). p.name) (slice_get ps n) → has_user ≡ are_short ps
passed-all ps n has_user few h none =
    by (slice_get ps n) refl none
  where
    whole : length ps ≤ n → has_user ≡ are_short ps
    whole past =
        let same : n ≡ length ps = exact n (length ps) h.within past in
        let all : take n ps ≡ ps = ap (λ (k : ℕ). take k ps) same ∙ take-length ps in
        let user : list_any is_user ps ≡ has_user = ap (list_any is_user) (sym all) ∙ h.user in
        let names : list_all (is_short ps) ps ≡ true = ap (list_all (is_short ps)) (sym all) ∙ h.names in
        let lt : nat_lt (length ps) (2 ^ 63) ≡ true = is-lt (length ps) (2 ^ 63) (omega (arith, few, past)) in
        all-true (nat_lt (length ps) (2 ^ 63)) (list_any is_user ps) (list_all (is_short ps) ps) has_user lt user names

    by : (o : Option Package) → slice_get ps n ≡ o → None ≡ option_map (λ (p : Package). p.name) o → has_user ≡ are_short ps
    by (Some p) s e = absurd (none-some p.name e)
    by None s e = past (slice_get_cases ps n).1
      where
        past : ((x : Package) × (n < length ps) × (slice_get ps n ≡ Some x) × (get_or ps n x ≡ x)) ⊎ ((length ps ≤ n) × (slice_get ps n ≡ None)) → has_user ≡ are_short ps
        past (inl there) = absurd (cc (there.2, s))
        past (inr gone) = whole gone.0

and-false : (a b : Bool) → b ≡ false → false ≡ (a && b)
and-false true b e = sym e
and-false false b e = refl

-- this one was not short
pub passed-long : (ps : List Package) (n : ℕ) (name : List ℕ) → Some name ≡ option_map (λ (p : Package). p.name) (slice_get ps n) → short_name ps name ≡ false → false ≡ are_short ps
passed-long ps n name e long =
    let at = at-of ps n name e in
    let this : is_short ps (get_or ps n at.found) ≡ false = ap (is_short ps) (get_or_from_slice_get ps n at.found at.found at.stands) ∙ ap (short_name ps) at.named ∙ long in
    and-false (nat_lt (length ps) (2 ^ 63) && list_any is_user ps) (list_all (is_short ps) ps) (list_all_at (is_short ps) ps n at.found (slice_get_within ps n at.found at.stands) this)

-- this one was
pub passed-more : (ps : List Package) (n : ℕ) (has_user : Bool) (name : List ℕ) → Passed ps n has_user → Some name ≡ option_map (λ (p : Package). p.name) (slice_get ps n) → short_name ps name ≡ true
    → Passed ps (n + 1) (has_user || bytes_eq name user_package)
passed-more ps n has_user name h e short =
    let at = at-of ps n name e in
    let within = slice_get_within ps n at.found at.stands in
    let this = get_or_from_slice_get ps n at.found at.found at.stands in
    let user : is_user (get_or ps n at.found) ≡ bytes_eq name user_package = ap is_user this ∙ ap (λ (x : List ℕ). bytes_eq x user_package) at.named in
    let is : is_short ps (get_or ps n at.found) ≡ true = ap (is_short ps) this ∙ ap (short_name ps) at.named ∙ short in
    record {
      within = omega (arith, within);
      user = list_any_more is_user ps n at.found within ∙ ap (λ (b : Bool). b || is_user (get_or ps n at.found)) h.user ∙ ap (λ (b : Bool). has_user || b) user;
      names = list_all_more (is_short ps) ps n at.found within ∙ ap (λ (b : Bool). b && is_short ps (get_or ps n at.found)) h.names ∙ is;
    }
