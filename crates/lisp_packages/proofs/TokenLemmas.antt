-- Where a token has its colons.
use Rattle.std.proofs.Common.{◌≡◌, ◌≢◌, ℕ, ◌+◌, ◌<◌, Bool, true, false, cond, not, ◌||◌, List, [], ◌∷◌, refl, ap, length, take, drop, if◌then◌else◌, arith}
use Rattle.std.specs.List.{list_any, position_or_len, prefix_len, before_first, after_first}
use Rattle.std.proofs.lemmas.List.{length-take}
use Rattle.lisp_packages.specs.declared.lisp_package.Package.{Package}
use Rattle.lisp_packages.specs.Naming.{is_colon, named, interned, qualified, external_named, prefixed, in_named}

pub none-any : (xs : List ℕ) → position_or_len is_colon xs ≡ length xs → list_any is_colon xs ≡ false
none-any [] h = refl
none-any (x ∷ xs) h = by (is_colon x) h (none-any xs)
  where
    by : (b : Bool) → cond (not b) (1 + position_or_len is_colon xs) 0 ≡ length (x ∷ xs) → (position_or_len is_colon xs ≡ length xs → list_any is_colon xs ≡ false) → (b || list_any is_colon xs) ≡ false
    by true h rest = absurd (omega (arith, h))
    by false h rest = rest (omega (arith, h))

-- a token without a colon
pub named-plain : (ps : List Package) (current : ℕ) (token : List ℕ) → position_or_len is_colon token ≡ length token → named ps current token ≡ interned ps current token
named-plain ps current token h = λ k. if none-any token h k then prefixed ps (before_first is_colon token) (after_first is_colon token) else interned ps current token

-- after a second colon that follows at once
pub qualified-any : (ps : List Package) (i : ℕ) (rest : List ℕ) → position_or_len is_colon rest < length rest → before_first is_colon rest ≡ [] → qualified ps i rest ≡ interned ps i (after_first is_colon rest)
qualified-any ps i [] p h = absurd (omega (arith, p))
qualified-any ps i (c ∷ name) p h = by (is_colon c) h
  where
    by : (b : Bool) → take (cond (not b) (1 + prefix_len (λ x. not (is_colon x)) name) 0) (c ∷ name) ≡ []
        → (if b then interned ps i name else external_named ps i (c ∷ name)) ≡ interned ps i (drop (cond (not b) (1 + prefix_len (λ x. not (is_colon x)) name) 0 + 1) (c ∷ name))
    by true h = refl
    by false h = absurd (omega (arith, length-take (1 + prefix_len (λ x. not (is_colon x)) name) (c ∷ name), ap length h))

-- and otherwise
pub qualified-none : (ps : List Package) (i : ℕ) (rest : List ℕ) → position_or_len is_colon rest ≡ length rest → qualified ps i rest ≡ external_named ps i rest
qualified-none ps i [] h = refl
qualified-none ps i (c ∷ name) h = by (is_colon c) (none-any (c ∷ name) h)
  where
    by : (b : Bool) → (b || list_any is_colon name) ≡ false → (if b then interned ps i name else external_named ps i (c ∷ name)) ≡ external_named ps i (c ∷ name)
    by true h = absurd (cc)
    by false h = refl

pub qualified-later : (ps : List Package) (i : ℕ) (rest : List ℕ) → before_first is_colon rest ≢ [] → qualified ps i rest ≡ external_named ps i rest
qualified-later ps i [] h = refl
qualified-later ps i (c ∷ name) h = by (is_colon c) h
  where
    by : (b : Bool) → take (cond (not b) (1 + prefix_len (λ x. not (is_colon x)) name) 0) (c ∷ name) ≢ []
        → (if b then interned ps i name else external_named ps i (c ∷ name)) ≡ external_named ps i (c ∷ name)
    by true h = absurd (h refl)
    by false h = refl

-- a package's name before the colon
pub prefixed-named : (ps : List Package) (prefix rest : List ℕ) → prefix ≢ [] → prefixed ps prefix rest ≡ in_named ps prefix (λ i. qualified ps i rest)
prefixed-named ps [] rest h = absurd (h refl)
prefixed-named ps (c ∷ prefix) rest h = refl
