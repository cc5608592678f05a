-- What making a package refuses, and what it leaves alone.
use Rattle.std.proofs.Common.{◌≡◌, ◌≢◌, ℕ, zero, suc, ◌||◌, Bool, true, false, List, [], ◌∷◌, ◌++◌, refl, sym, ap, ◌∙◌, Some, Result, Ok, Err, drop, append_assoc, length, slice_get, nat_eq, if◌then◌else◌, arith}
use Rattle.std.specs.List.{list_any}
use Rattle.lisp_data.specs.declared.symbol.Symbol.{Symbol}
use Rattle.lisp_packages.specs.declared.fault.NameFault.{NameFault}
use Rattle.lisp_packages.specs.declared.fault.NameFault.TheVariants.{NoPackage, NotExternal, Clash, NoMemory}
use Rattle.lisp_packages.specs.declared.lisp_package.Package.{Package}
use Rattle.lisp_packages.specs.Causes.{IsCause}
use Rattle.lisp_packages.specs.Changes.{Changed}
use Rattle.lisp_packages.specs.Entries.{added, with_external}
use Rattle.lisp_packages.specs.Making.{new_package, Placed, place_before, with_use, with_used, with_present, symbol_to_export, present_symbol, present_at, then_changed, all_present, uses_clash, export_clashes, exported, unless_clash, extended, then_placed}
use Rattle.lisp_packages.specs.Packages.{uses_at, own_at, with_own, with_uses}
use Rattle.lisp_packages.proofs.MadeLemmas.{slice_get-with_own-other}
use Rattle.lisp_packages.proofs.PackagesLemmas.{slice_get-with_uses-other}

-- a refused first change is the refusal of both
pub refused-then : (why : NameFault) (first : Changed) (next : List Package → Changed) → IsCause why first → IsCause why (then_changed first next)
refused-then why (Err other) next h = h
refused-then NoMemory (Ok ps) next h = tt
refused-then (NoPackage text) (Ok ps) next h = absurd (cc)
refused-then (NotExternal name home) (Ok ps) next h = absurd (cc)
refused-then Clash (Ok ps) next h = absurd (cc)

pub refused-present : (why : NameFault) (ps : List Package) (i : ℕ) (symbol : Result Symbol NameFault) → IsCause why symbol → IsCause why (present_symbol ps i symbol)
refused-present why ps i (Err other) h = h
refused-present NoMemory ps i (Ok symbol) h = tt
refused-present (NoPackage text) ps i (Ok symbol) h = absurd (cc)
refused-present (NotExternal name home) ps i (Ok symbol) h = absurd (cc)
refused-present Clash ps i (Ok symbol) h = absurd (cc)

pub refused-placed : (why : NameFault) (first : Placed) (next : List ℕ → Changed) → IsCause why first → IsCause why (then_placed first next)
refused-placed why (Err other) next h = h
refused-placed NoMemory (Ok us) next h = tt
refused-placed (NoPackage text) (Ok us) next h = absurd (cc)
refused-placed (NotExternal name home) (Ok us) next h = absurd (cc)
refused-placed Clash (Ok us) next h = absurd (cc)

-- want of memory is a cause of every refusal
pub no_memory : {X : Type 0} (answer : Result X NameFault) → IsCause NoMemory answer
no_memory answer = tt

-- places in front of others
abbrev pub places_before : List ℕ → Placed → Placed
places_before before (Ok us) = Ok (before ++ us)
places_before before (Err why) = Err why

pub places_before-push : (before : List ℕ) (u : ℕ) (r : Placed) → places_before before (place_before u r) ≡ places_before (before ++ u ∷ []) r
places_before-push before u (Ok us) = ap Ok (sym (append_assoc before (u ∷ []) us))
places_before-push before u (Err why) = refl

-- the other places
with_use-others : (ps : List Package) (i u k : ℕ) → k ≢ i → slice_get (with_use ps i u) k ≡ slice_get ps k
with_use-others ps i u k other = by (list_any (nat_eq u) (uses_at ps i))
  where
    by : (b : Bool) → slice_get (if b then ps else with_uses ps i (uses_at ps i ++ u ∷ [])) k ≡ slice_get ps k
    by true = refl
    by false = slice_get-with_uses-other ps k i (uses_at ps i ++ u ∷ []) other

with_used-others : (us : List ℕ) (ps : List Package) (i k : ℕ) → k ≢ i → slice_get (with_used ps i us) k ≡ slice_get ps k
with_used-others [] ps i k other = refl
with_used-others (u ∷ us) ps i k other = with_used-others us (with_use ps i u) i k other ∙ with_use-others ps i u k other

present_symbol-others : (ps : List Package) (i k : ℕ) (symbol : Result Symbol NameFault) (new : List Package) → k ≢ i → present_symbol ps i symbol ≡ Ok new → slice_get new k ≡ slice_get ps k
present_symbol-others ps i k (Ok symbol) new other h =
    let made : with_present ps i symbol ≡ new = cc in
    sym (ap (λ qs. slice_get qs k) made) ∙ slice_get-with_own-other ps k i (added (own_at ps i) (record { symbol = symbol; external = false })) other
present_symbol-others ps i k (Err why) new other h = absurd (cc)

all_present-others : (names : List (List ℕ)) (ps : List Package) (i k : ℕ) (new : List Package) → k ≢ i → all_present i names ps ≡ Ok new → slice_get new k ≡ slice_get ps k
all_present-others [] ps i k new other h = let same : ps ≡ new = cc in sym (ap (λ qs. slice_get qs k) same)
all_present-others (name ∷ names) ps i k new other h = by (present_at ps i name) refl h (λ between. all_present-others names between i k new other)
  where
    by : (r : Changed) → present_at ps i name ≡ r → then_changed r (all_present i names) ≡ Ok new
        → ((between : List Package) → all_present i names between ≡ Ok new → slice_get new k ≡ slice_get between k) → slice_get new k ≡ slice_get ps k
    by (Ok between) e h rest = rest between h ∙ present_symbol-others ps i k (symbol_to_export ps i name) between other e
    by (Err why) e h rest = absurd (cc)

exported-others : (names : List (List ℕ)) (ps : List Package) (i k : ℕ) → k ≢ i → slice_get (exported i names ps) k ≡ slice_get ps k
exported-others [] ps i k other = refl
exported-others (name ∷ names) ps i k other =
    exported-others names (with_own ps i (with_external (own_at ps i) name)) i k other ∙ slice_get-with_own-other ps k i (with_external (own_at ps i) name) other

pub extended-others : (ps : List Package) (i : ℕ) (us : List ℕ) (names : List (List ℕ)) (new : List Package) (k : ℕ) → k ≢ i → extended ps i us names ≡ Ok new → slice_get new k ≡ slice_get ps k
extended-others ps i us names new k other h = by (all_present i names (with_used ps i us)) refl h
  where
    clash : (b : Bool) (between : List Package) → (if b then Err Clash else Ok (exported i names between)) ≡ Ok new → slice_get new k ≡ slice_get between k
    clash true between h = absurd (cc)
    clash false between h = let done : exported i names between ≡ new = cc in sym (ap (λ qs. slice_get qs k) done) ∙ exported-others names between i k other

    by : (r : Changed) → all_present i names (with_used ps i us) ≡ r → then_changed r (unless_clash i (length (uses_at ps i)) names) ≡ Ok new → slice_get new k ≡ slice_get ps k
    by (Ok between) e h =
        clash (uses_clash between i (drop (length (uses_at ps i)) (uses_at between i)) || list_any (export_clashes between i) names) between h
        ∙ all_present-others names (with_used ps i us) i k between other e ∙ with_used-others us ps i k other
    by (Err why) e h = absurd (cc)

slice_get-push : (ps : List Package) (p : Package) (k : ℕ) → k ≢ length ps → slice_get (ps ++ p ∷ []) k ≡ slice_get ps k
slice_get-push [] p zero other = absurd (other refl)
slice_get-push [] p (suc k) other = refl
slice_get-push (q ∷ ps) p zero other = refl
slice_get-push (q ∷ ps) p (suc k) other = slice_get-push ps p k (λ e. other (omega (arith, e)))

pub made-others : (ps : List Package) (name : List ℕ) (us : List ℕ) (names : List (List ℕ)) (new : List Package)
    → extended (ps ++ new_package name ∷ []) (length ps) us names ≡ Ok new → (k : ℕ) → Some (length ps) ≢ Some k → slice_get new k ≡ slice_get ps k
made-others ps name us names new h k other =
    extended-others (ps ++ new_package name ∷ []) (length ps) us names new k (λ e. other (ap Some (sym e))) h ∙ slice_get-push ps (new_package name) k (λ e. other (ap Some (sym e)))
