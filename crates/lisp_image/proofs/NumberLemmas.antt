-- The numbers of symbols after one of them is set.
use Rattle.std.proofs.Common.{◌≡◌, ℕ, Bool, true, false, ◌&&◌, List, refl, sym, ap, ◌∙◌, None, Some, String, Result, Ok, Err, OnOk, OnErr, option_and_then, if◌then◌else◌}
use Rattle.std.specs.Str.{bytes_eq}
use Rattle.std.proofs.lemmas.Slice.Eq.{bytes_eq-Decides}
use Rattle.indexmap.specs.IndexMap.{IndexMap, get_by_text}
use Rattle.lisp_image.specs.Places.{number_of}

pub on_ok : {X E P Q : Type 0} (r : Result X E) → (P → Q) → OnOk r P → OnOk r Q
on_ok (Ok x) f h = f h
on_ok (Err e) f h = h

pub on_err : {X E P Q : Type 0} (r : Result X E) → (P → Q) → OnErr r P → OnErr r Q
on_err (Ok x) f h = h
on_err (Err e) f h = f h

module _ {A B S T : Type 0} (old new : IndexMap (String A) (IndexMap (String B) ℕ S) T) (home : List ℕ) (names : IndexMap (String B) ℕ S) where
  -- the numbers of a home alone are replaced
  abbrev pub Replaces : Type 0
  Replaces = (h : List ℕ) → get_by_text new h ≡ (if bytes_eq home h then Some names else get_by_text old h)

  at_home : (h n : List ℕ) (b : Bool) → bytes_eq home h ≡ b → Replaces → number_of new h n ≡ (if b then get_by_text names n else number_of old h n)
  at_home h n true p e = ap (option_and_then (λ (names : IndexMap (String B) ℕ S). get_by_text names n)) (e h ∙ (λ j. if p j then Some names else get_by_text old h))
  at_home h n false p e = ap (option_and_then (λ (names : IndexMap (String B) ℕ S). get_by_text names n)) (e h ∙ (λ j. if p j then Some names else get_by_text old h))

  -- one name of the home has another number
  pub number_of-set : Replaces → (name : List ℕ) (number : ℕ) → ((n : List ℕ) → get_by_text names n ≡ (if bytes_eq name n then Some number else number_of old home n))
      → (h n : List ℕ) → number_of new h n ≡ (if bytes_eq home h && bytes_eq name n then Some number else number_of old h n)
  number_of-set e name number f h n = by (bytes_eq home h) refl
    where
      by : (b : Bool) → bytes_eq home h ≡ b → number_of new h n ≡ (if b && bytes_eq name n then Some number else number_of old h n)
      by true p = at_home h n true p e ∙ f n ∙ (λ j. if bytes_eq name n then Some number else number_of old ((bytes_eq-Decides home h).0 p j) n)
      by false p = at_home h n false p e

  -- no name has another number
  pub number_of-same : Replaces → ((n : List ℕ) → get_by_text names n ≡ number_of old home n) → (h n : List ℕ) → number_of new h n ≡ number_of old h n
  number_of-same e f h n = by (bytes_eq home h) refl
    where
      by : (b : Bool) → bytes_eq home h ≡ b → number_of new h n ≡ number_of old h n
      by true p = at_home h n true p e ∙ f n ∙ (λ j. number_of old ((bytes_eq-Decides home h).0 p j) n)
      by false p = at_home h n false p e

  -- where the home has these numbers, its own are theirs
  pub number_of-home : get_by_text old home ≡ Some names → (n : List ℕ) → get_by_text names n ≡ number_of old home n
  number_of-home h n = sym (ap (option_and_then (λ (names : IndexMap (String B) ℕ S). get_by_text names n)) h)

  pub number_of-no_home : get_by_text old home ≡ None → (n : List ℕ) → None ≡ number_of old home n
  number_of-no_home h n = sym (ap (option_and_then (λ (names : IndexMap (String B) ℕ S). get_by_text names n)) h)
