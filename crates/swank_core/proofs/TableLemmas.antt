-- The table of live threads: what is found in it, and what a change makes of it.
use Rattle.std.proofs.Common.{◌≡◌, ℕ, zero, suc, ◌+◌, ◌<◌, ◌≤◌, Bool, true, false, List, [], ◌∷◌, ◌++◌, length, map, Option, Some, None, ⊎_elim, refl, sym, ap, ◌∙◌, subst, arith, add-one}
use Rattle.std.specs.Prelude.{◌==◌, ◌&&◌, ◌^◌, ltb, find, is_some, IfNone, IfSome, if◌then◌else◌, slice_get, slice_set, slice_index_or, remove, drop}
use Rattle.std.specs.List.Sorted.{IsNonDecreasingBy, IsPartitionPoint}
use Rattle.std.specs.Option.{option_map_or}
use Rattle.std.proofs.lemmas.Bool.{cases_lt, ltb-false, ltb-true}
use Rattle.std.proofs.lemmas.List.{get_or-set_same, length-map}
use Rattle.std.proofs.lemmas.Option.{IfSome_then, get_or_from_slice_get, none-some, same_Some, slice_get_past, slice_get_within}
use Rattle.server_rules.specs.Simple.{are_simple}
use Rattle.session_model.specs.Legal.{are_idle, is_idle}
use Rattle.session_model.specs.Pipe.{numbers}
use Rattle.session_model.specs.World.{Thread, World, fresh, thread_in}
use Rattle.step_model.specs.Image.{ImageState}
use Rattle.swank_core.specs.Bursts.{Shows}
use Rattle.swank_core.specs.Kept.{first, found, AreAscending, AreRising}
use Rattle.swank_core.specs.Session.{lent_among}
use Rattle.swank_core.specs.Threads.{changed, number_of, thread_of, threads_of, AreKept, AreSimple, IsAt, IsPlace}
use Rattle.swank_core.specs.declared.record.Record.{Record}
use Rattle.swank_core.proofs.NumberLemmas as lemma
use Rattle.swank_core.proofs.NumberLemmas.{passes, somes}

-- ---- what is found

pub length_of : (n : ℕ) (rs : List Record) → length (threads_of n rs) ≡ n
length_of n rs = length-map (numbers n 0) (found number_of thread_of rs) ∙ lemma.length-numbers n 0

thread_if : (n : ℕ) (rs : List Record) (t : ℕ) (o : Option (Option Thread)) → slice_get (threads_of n rs) t ≡ o → thread_in (threads_of n rs) t ≡ option_map_or (λ thread. thread) o None
thread_if n rs t o e = ap (λ x. option_map_or (λ thread. thread) x None) e

-- the thread of a number is the one that is found
pub thread_found : (n : ℕ) (rs : List Record) (t : ℕ) → AreRising number_of 0 n rs → thread_in (threads_of n rs) t ≡ found number_of thread_of rs t
thread_found n rs t h =
    ⊎_elim
    (λ (less : t < n). thread_if n rs t (Some (found number_of thread_of rs t)) (lemma.get-numbers (found number_of thread_of rs) n 0 t less ∙ at_zero t))
    (λ (past : n ≤ t). thread_if n rs t None (lemma.past-numbers (found number_of thread_of rs) n 0 t past) ∙ sym (lemma.found_past number_of thread_of rs 0 n t h past))
    (cases_lt t n)
  where
    at_zero : (t : ℕ) → Some (found number_of thread_of rs (0 + t)) ≡ Some (found number_of thread_of rs t)
    at_zero t = let e : 0 + t ≡ t = omega arith in ap (λ k. Some (found number_of thread_of rs k)) e

pub thread_at_place : (n : ℕ) (rs : List Record) (at t : ℕ) → AreKept n rs → (p : IsAt rs at t) → thread_in (threads_of n rs) t ≡ Some (thread_of p.item)
thread_at_place n rs at t h p =
    thread_found n rs t h.rising
    ∙ ap (found number_of thread_of rs) (sym p.number)
    ∙ lemma.found_at number_of thread_of rs at 0 n p.item h.rising p.is

pub no_thread : (n : ℕ) (rs : List Record) (t : ℕ) → AreKept n rs → found number_of thread_of rs t ≡ None → thread_in (threads_of n rs) t ≡ None
no_thread n rs t h none = thread_found n rs t h.rising ∙ none

pub simple_at : (rs : List Record) (at : ℕ) (r : Record) → AreSimple rs → slice_get rs at ≡ Some r → are_simple r.machine.stack.context ≡ true
simple_at [] at r h e = absurd (none-some r e)
simple_at (q ∷ rs) zero r h e = ap (λ (x : Record). are_simple x.machine.stack.context) (sym (same_Some q r e)) ∙ h.0
simple_at (q ∷ rs) (suc at) r h e = simple_at rs at r h.1 e

-- ---- a change of the table

-- the table after a change of what stands at one number
pub record IsChanged (n t : ℕ) (old new : List Record) (thread : Option Thread) : Type 0 where
  pub kept : AreKept n new
  pub threads : threads_of n new ≡ slice_set (threads_of n old) t thread

simple_set : (rs : List Record) (at : ℕ) (r : Record) → AreSimple rs → are_simple r.machine.stack.context ≡ true → AreSimple (slice_set rs at r)
simple_set [] at r h e = tt
simple_set (q ∷ rs) zero r h e = (e, h.1)
simple_set (q ∷ rs) (suc at) r h e = (h.0, simple_set rs at r h.1 e)

simple_remove : (rs : List Record) (at : ℕ) → AreSimple rs → AreSimple (remove rs at)
simple_remove [] zero h = tt
simple_remove [] (suc at) h = tt
simple_remove (q ∷ rs) zero h = h.1
simple_remove (q ∷ rs) (suc at) h = (h.0, simple_remove rs at h.1)

simple_push : (rs : List Record) (r : Record) → AreSimple rs → are_simple r.machine.stack.context ≡ true → AreSimple (rs ++ r ∷ [])
simple_push [] r h e = (e, tt)
simple_push (q ∷ rs) r h e = (h.0, simple_push rs r h.1 e)

zero_plus : (t : ℕ) → 0 + t ≡ t
zero_plus t = omega arith

pub set_kept : (n : ℕ) (rs : List Record) (at t : ℕ) (new : Record) → AreKept n rs → (p : IsAt rs at t) → number_of new ≡ number_of p.item → are_simple new.machine.stack.context ≡ true
    → IsChanged n t rs (slice_set rs at new) (Some (thread_of new))
set_kept n rs at t new h p same simple = record {
  kept = record { few = h.few; rising = lemma.rising_set number_of thread_of rs at 0 n p.item new h.rising p.is same; simple = simple_set rs at new h.simple simple };
  threads = sym (lemma.set-numbers (found number_of thread_of rs) (found number_of thread_of (slice_set rs at new)) n 0 t (Some (thread_of new))
      (ap (found number_of thread_of (slice_set rs at new)) (zero_plus t ∙ sym p.number) ∙ lemma.found_set_here number_of thread_of rs at 0 n p.item new h.rising p.is same)
      (λ k ne. lemma.found_set_other number_of thread_of rs at k p.item new p.is same (λ e. ne (e ∙ p.number ∙ sym (zero_plus t)))));
}

pub remove_kept : (n : ℕ) (rs : List Record) (at t : ℕ) → AreKept n rs → (p : IsAt rs at t) → IsChanged n t rs (remove rs at) None
remove_kept n rs at t h p = record {
  kept = record { few = h.few; rising = lemma.rising_remove number_of thread_of rs at 0 n h.rising; simple = simple_remove rs at h.simple };
  threads = sym (lemma.set-numbers (found number_of thread_of rs) (found number_of thread_of (remove rs at)) n 0 t None
      (ap (found number_of thread_of (remove rs at)) (zero_plus t ∙ sym p.number) ∙ lemma.found_remove_here number_of thread_of rs at 0 n p.item h.rising p.is)
      (λ k ne. lemma.found_remove_other number_of thread_of rs at k p.item p.is (λ e. ne (e ∙ p.number ∙ sym (zero_plus t)))));
}

-- what was written to a place and then taken out leaves nothing
pub remove_set : (rs : List Record) (at : ℕ) (r : Record) → remove (slice_set rs at r) at ≡ remove rs at
remove_set [] at r = refl
remove_set (q ∷ rs) zero r = refl
remove_set (q ∷ rs) (suc at) r = ap (λ xs. q ∷ xs) (remove_set rs at r)

pub record IsPushed (n : ℕ) (old new : List Record) (thread : Thread) : Type 0 where
  pub kept : AreKept (n + 1) new
  pub threads : threads_of (n + 1) new ≡ threads_of n old ++ Some thread ∷ []

pub push_kept : (n : ℕ) (rs : List Record) (r : Record) → n < 2 ^ 63 → AreKept n rs → number_of r ≡ n → are_simple r.machine.stack.context ≡ true → IsPushed n rs (rs ++ r ∷ []) (thread_of r)
push_kept n rs r less h is simple =
    let all : List Record = rs ++ r ∷ [] in
    record {
      kept = record { few = omega (arith, less); rising = lemma.rising_push number_of thread_of rs 0 n r h.rising (omega arith) is; simple = simple_push rs r h.simple simple };
      threads =
          ap (λ m. threads_of m all) (add-one n)
          ∙ lemma.more-numbers (found number_of thread_of all) n 0
          ∙ ap (λ xs. xs ++ found number_of thread_of all (0 + n) ∷ [])
          (lemma.same-numbers (found number_of thread_of all) (found number_of thread_of rs) n 0 (λ k low high. lemma.found_push_other number_of thread_of rs k r (λ e. absurd (omega (arith, e, is, high)))))
          ∙ ap (λ o. threads_of n rs ++ o ∷ []) (ap (found number_of thread_of all) (zero_plus n) ∙ lemma.found_push_here number_of thread_of rs 0 n r h.rising is);
    }

-- ---- a change of the thread of a number

pub changed_some : (change : Thread → Thread) (t : ℕ) (threads : List (Option Thread)) (thread : Thread) → thread_in threads t ≡ Some thread → changed change t threads ≡ slice_set threads t (Some (change thread))
changed_some change t threads thread e = ap (λ o. option_map_or (λ th. slice_set threads t (Some (change th))) o threads) e

pub changed_none : (change : Thread → Thread) (t : ℕ) (threads : List (Option Thread)) → thread_in threads t ≡ None → changed change t threads ≡ threads
changed_none change t threads e = ap (λ o. option_map_or (λ th. slice_set threads t (Some (change th))) o threads) e

-- ---- all threads

idle_somes : (threads : List (Option Thread)) → are_idle threads ≡ are_idle (map Some (somes threads))
idle_somes [] = refl
idle_somes (None ∷ threads) = idle_somes threads
idle_somes (Some thread ∷ threads) = ap (λ b. is_idle (Some thread) && b) (idle_somes threads)

lent_somes : (threads : List (Option Thread)) → lent_among threads ≡ lent_among (map Some (somes threads))
lent_somes [] = refl
lent_somes (None ∷ threads) = lent_somes threads
lent_somes (Some thread ∷ threads) = omega (arith, lent_somes threads)

-- the kept threads, as threads that are live
abbrev pub lives : List Record → List (Option Thread)
lives [] = []
lives (r ∷ rs) = Some (thread_of r) ∷ lives rs

lives_map : (rs : List Record) → map Some (map thread_of rs) ≡ lives rs
lives_map [] = refl
lives_map (r ∷ rs) = ap (λ xs. Some (thread_of r) ∷ xs) (lives_map rs)

somes_of : (n : ℕ) (rs : List Record) → AreKept n rs → map Some (somes (threads_of n rs)) ≡ lives rs
somes_of n rs h = ap (λ xs. map Some xs) (lemma.somes-numbers number_of thread_of rs n 0 n h.rising (omega arith)) ∙ lives_map rs

pub idle_is : (n : ℕ) (rs : List Record) → AreKept n rs → are_idle (lives rs) ≡ are_idle (threads_of n rs)
idle_is n rs h = sym (idle_somes (threads_of n rs) ∙ ap are_idle (somes_of n rs h))

pub lent_is : (n : ℕ) (rs : List Record) → AreKept n rs → lent_among (lives rs) ≡ lent_among (threads_of n rs)
lent_is n rs h = sym (lent_somes (threads_of n rs) ∙ ap lent_among (somes_of n rs h))

find_same : (p q : ℕ → Bool) (n s : ℕ) → ((k : ℕ) → s ≤ k → p k ≡ q k) → find p (numbers n s) ≡ find q (numbers n s)
find_same p q zero s h = refl
find_same p q (suc n) s h =
    ap (λ b. if b then Some s else find p (numbers n (s + 1))) (h s (omega arith))
    ∙ ap (λ o. if q s then Some s else o) (find_same p q n (s + 1) (λ k low. h k (omega (arith, low))))

-- the first thread from a number on that passes a test
pub first_is : (test : Thread → Bool) (n : ℕ) (rs : List Record) (from at : ℕ) → AreKept n rs → IsPlace rs at from
    → first number_of thread_of test (drop at rs) ≡ find (λ t. option_map_or test (thread_in (threads_of n rs) t) false) (numbers (length (threads_of n rs)) from)
first_is test n rs from at h p =
    let rising : AreRising number_of from n (drop at rs) = lemma.rising_drop number_of thread_of rs at 0 n from h.rising p.late in
    sym (ap (λ m. find (λ t. option_map_or test (thread_in (threads_of n rs) t) false) (numbers m from)) (length_of n rs)
    ∙ find_same (λ t. option_map_or test (thread_in (threads_of n rs) t) false) (λ t. passes test (found number_of thread_of (drop at rs) t)) n from
    (λ k low. ap (passes test) (thread_found n rs k h.rising ∙ sym (p.found_there k low)))
    ∙ lemma.find-numbers number_of thread_of test (drop at rs) n from n rising (omega arith))

-- ---- places

late_index : (rs : List Record) (i s : ℕ) (d : Record) → AreAscending number_of s rs → i < length rs → s ≤ number_of (slice_index_or rs i d)
late_index [] i s d h less = absurd (omega (arith, less))
late_index (r ∷ rs) zero s d h less = h.0
late_index (r ∷ rs) (suc i) s d h less = let later : number_of r + 1 ≤ number_of (slice_index_or rs i d) = late_index rs i (number_of r + 1) d h.1 (omega (arith, less)) in omega (arith, later, h.0)

pub numbers_rise : (rs : List Record) (s : ℕ) → AreAscending number_of s rs → IsNonDecreasingBy number_of rs
numbers_rise [] s h = λ i j d less inside. absurd (omega (arith, inside))
numbers_rise (r ∷ rs) s h = rise (numbers_rise rs (number_of r + 1) h.1)
  where
    rise : IsNonDecreasingBy number_of rs → (i j : ℕ) (d : Record) → i ≤ j → j < length (r ∷ rs) → number_of (slice_index_or (r ∷ rs) i d) ≤ number_of (slice_index_or (r ∷ rs) j d)
    rise rest zero zero d less inside = omega arith
    rise rest zero (suc j) d less inside = let later : number_of r + 1 ≤ number_of (slice_index_or rs j d) = late_index rs j (number_of r + 1) d h.1 (omega (arith, inside)) in omega (arith, later)
    rise rest (suc i) zero d less inside = absurd (omega (arith, less))
    rise rest (suc i) (suc j) d less inside = rest i j d (omega (arith, less)) (omega (arith, inside))

pub place_is : (rs : List Record) (at t : ℕ) → at ≤ length rs → IsPartitionPoint (λ (r : Record). ltb r.machine.thread t ≡ true) (λ (r : Record). ltb r.machine.thread t ≡ false) rs at → IsPlace rs at t
place_is rs at t bound point = record {
  late = λ k r low e.
      let inside : k < length rs = slice_get_within rs k r e in
      let test : ltb (number_of (slice_index_or rs k r)) t ≡ false = point.1 k r low inside in
      ltb-false (number_of r) t (ap (λ (x : Record). ltb (number_of x) t) (sym (get_or_from_slice_get rs k r r e)) ∙ test);
  found_there = λ u low. lemma.found_drop number_of thread_of rs at u (λ k r less e same.
      let test : ltb (number_of (slice_index_or rs k r)) t ≡ true = point.0 k r (omega arith) less in
      let early : number_of r < t = ltb-true (number_of r) t (ap (λ (x : Record). ltb (number_of x) t) (sym (get_or_from_slice_get rs k r r e)) ∙ test) in
      absurd (omega (arith, early, same, low)));
}

drop_get : (rs : List Record) (at : ℕ) → slice_get rs at ≡ slice_get (drop at rs) 0
drop_get [] zero = refl
drop_get [] (suc at) = refl
drop_get (r ∷ rs) zero = refl
drop_get (r ∷ rs) (suc at) = drop_get rs at

ascending : (rs : List Record) (s n : ℕ) → AreRising number_of s n rs → AreAscending number_of s rs
ascending [] s n h = tt
ascending (r ∷ rs) s n h = (h.0, ascending rs (number_of r + 1) n h.2)

-- what the search by places asks for
pub kept_ascending : (n : ℕ) (rs xs : List Record) → AreKept n rs → xs ≡ rs → AreAscending number_of 0 xs
kept_ascending n rs xs h same = subst (AreAscending number_of 0) (sym same) (ascending rs 0 n h.rising)

ascending_missing : (rs : List Record) (s t : ℕ) → AreAscending number_of s rs → t < s → found number_of thread_of rs t ≡ None
ascending_missing [] s t h less = refl
ascending_missing (r ∷ rs) s t h less =
    lemma.found_later number_of thread_of r rs t (λ e. absurd (omega (arith, e, less, h.0)))
    ∙ ascending_missing rs (number_of r + 1) t h.1 (omega (arith, less, h.0))

ascending_drop : (rs : List Record) (at s t : ℕ) → AreAscending number_of s rs → ((k : ℕ) (r : Record) → at ≤ k → slice_get rs k ≡ Some r → t ≤ number_of r) → AreAscending number_of t (drop at rs)
ascending_drop [] zero s t h late = tt
ascending_drop [] (suc at) s t h late = tt
ascending_drop (r ∷ rs) zero s t h late = (late 0 r (omega arith) refl, h.1)
ascending_drop (r ∷ rs) (suc at) s t h late = ascending_drop rs at (number_of r + 1) t h.1 (λ k q less e. late (suc k) q (omega (arith, less)) e)

first_missing : (rs : List Record) (t : ℕ) → AreAscending number_of t rs → ((r : Record) → slice_get rs 0 ≡ Some r → number_of r ≡ t → ⊥) → found number_of thread_of rs t ≡ None
first_missing [] t h other = refl
first_missing (r ∷ rs) t h other = ascending_missing (r ∷ rs) (t + 1) t (ne_above (number_of r) t h.0 (other r refl), h.1) (omega arith)
  where
    ne_above : (m t : ℕ) → t ≤ m → (m ≡ t → ⊥) → t + 1 ≤ m
    ne_above m t low ne = omega (arith, low, ne)

-- another thread stands at the place where this one would
pub missing : (rs : List Record) (at t : ℕ) → AreAscending number_of 0 rs → IsPlace rs at t → ((r : Record) → slice_get rs at ≡ Some r → number_of r ≡ t → ⊥) → found number_of thread_of rs t ≡ None
missing rs at t h p other =
    sym (p.found_there t (omega arith))
    ∙ first_missing (drop at rs) t (ascending_drop rs at 0 t h p.late) (λ r e same. other r (drop_get rs at ∙ e) same)

-- a new session's threads
pub first_kept : (r : Record) → number_of r ≡ 1 → thread_of r ≡ fresh [] → are_simple r.machine.stack.context ≡ true → AreKept 2 (r ∷ []) × (threads_of 2 (r ∷ []) ≡ None ∷ Some (fresh []) ∷ [])
first_kept r is thread simple = (
  record { few = omega arith; rising = (omega arith, omega (arith, is), tt); simple = (simple, tt) },
  ap (λ k. (if k == 0 then Some (thread_of r) else None) ∷ (if k == 1 then Some (thread_of r) else None) ∷ []) is ∙ ap (λ th. None ∷ Some th ∷ []) thread,
)

-- ---- what stands at a place

pub record Stands (rs : List Record) (place t : ℕ) (r : Record) : Type 0 where
  pub is : slice_get rs place ≡ Some r
  pub number : number_of r ≡ t

-- what was read at the place that a search found
pub stands : (rs xs : List Record) (place t : ℕ) (r : Record) → xs ≡ rs → IsAt xs place t → r ≡ slice_index_or rs place r → Stands rs place t r
stands rs xs place t r same at read =
    let there : slice_get rs place ≡ Some at.item = ap (λ ys. slice_get ys place) (sym same) ∙ at.is in
    let item : at.item ≡ r = sym (read ∙ get_or_from_slice_get rs place at.item r there) in
    record { is = there ∙ ap Some item; number = ap number_of (sym item) ∙ at.number }

module _ (n : ℕ) (rs : List Record) (place t : ℕ) (r : Record) (h : AreKept n rs) (s : Stands rs place t r) where
  abbrev at_place : IsAt rs place t
  at_place = record { item = r; is = s.is; number = s.number }

  pub stands_simple : are_simple r.machine.stack.context ≡ true
  stands_simple = simple_at rs place r h.simple s.is

  pub stands_live : (now : List (Option Thread)) → threads_of n rs ≡ now → thread_in now t ≡ Some (thread_of r)
  stands_live now view = ap (λ threads. thread_in threads t) (sym view) ∙ thread_at_place n rs place t h at_place

  pub stands_set : (new : Record) → number_of new ≡ number_of r → are_simple new.machine.stack.context ≡ true → IsChanged n t rs (slice_set rs place new) (Some (thread_of new))
  stands_set new same simple = set_kept n rs place t new h at_place same simple

  pub stands_changed : (change : Thread → Thread) (new : Record) (now : List (Option Thread)) → threads_of n rs ≡ now → number_of new ≡ number_of r → are_simple new.machine.stack.context ≡ true
      → thread_of new ≡ change (thread_of r) → threads_of n (slice_set rs place new) ≡ changed change t now
  stands_changed change new now view same simple is =
      (stands_set new same simple).threads
      ∙ ap (λ threads. slice_set threads t (Some (thread_of new))) view
      ∙ ap (λ th. slice_set now t (Some th)) is
      ∙ sym (changed_some change t now (thread_of r) (stands_live now view))

  pub stands_removed : IsChanged n t rs (remove rs place) None
  stands_removed = remove_kept n rs place t h at_place

-- nothing was found
pub none_live : (n : ℕ) (rs xs : List Record) (t : ℕ) (now : List (Option Thread)) → AreKept n rs → threads_of n rs ≡ now → xs ≡ rs → found number_of thread_of xs t ≡ None → thread_in now t ≡ None
none_live n rs xs t now h view same none =
    ap (λ threads. thread_in threads t) (sym view) ∙ no_thread n rs t h (ap (λ ys. found number_of thread_of ys t) (sym same) ∙ none)

-- a place is found where the thread is live
pub is_found : (n : ℕ) (rs xs : List Record) (t : ℕ) (now : List (Option Thread)) → AreKept n rs → threads_of n rs ≡ now → xs ≡ rs
    → (o : Option ℕ) → IfSome o (λ at. IsAt xs at t) → IfNone o (found number_of thread_of xs t ≡ None) → is_some o ≡ is_some (thread_in now t)
is_found n rs xs t now h view same None at none = sym (ap is_some (none_live n rs xs t now h view same none))
is_found n rs xs t now h view same (Some place) at none =
    sym (ap is_some (ap (λ threads. thread_in threads t) (sym view) ∙ thread_at_place n rs place t h (subst (λ ys. IsAt ys place t) same at)))

pub long_as : (n m : ℕ) (rs : List Record) (now : List (Option Thread)) → threads_of n rs ≡ now → length now ≡ n
long_as n m rs now view = ap length (sym view) ∙ length_of n rs

-- ---- the next thread

-- the first kept one from a place on has a number that was made
pub first_within : (test : Thread → Bool) (n s : ℕ) (rs : List Record) → AreRising number_of s n rs → IfSome (first number_of thread_of test rs) (λ t. t < n)
first_within test n s [] h = tt
first_within test n s (r ∷ rs) h = either (test (thread_of r)) (number_of r) (first number_of thread_of test rs) h.1 (first_within test n (number_of r + 1) rs h.2)
  where
    either : (b : Bool) (t : ℕ) (o : Option ℕ) → t < n → IfSome o (λ u. u < n) → IfSome (if b then Some t else o) (λ u. u < n)
    either true t o here later = here
    either false t o here later = later

-- and so it is small
pub first_small : (test : Thread → Bool) (n : ℕ) (rs : List Record) (from at : ℕ) → AreKept n rs → IsPlace rs at from → IfSome (first number_of thread_of test (drop at rs)) (λ t. t < 2 ^ 63)
first_small test n rs from at h p =
    IfSome_then (first number_of thread_of test (drop at rs))
    (first_within test n from (drop at rs) (lemma.rising_drop number_of thread_of rs at 0 n from h.rising p.late))
    (λ t less. omega (arith, less, h.few))

-- past the last number there is none
pub none_above : (test : Thread → Bool) (threads : List (Option Thread)) (n from : ℕ) → length threads ≤ from → find (λ t. option_map_or test (thread_in threads t) false) (numbers n from) ≡ None
none_above test threads zero from past = refl
none_above test threads (suc n) from past =
    ap (λ o. if option_map_or test (option_map_or (λ thread. thread) o None) false then Some from else find (λ t. option_map_or test (thread_in threads t) false) (numbers n (from + 1))) (slice_get_past threads from past)
    ∙ none_above test threads n (from + 1) (omega (arith, past))

-- ---- a burst of the thread at a place

pub stands_shows : (n : ℕ) (rs : List Record) (place t : ℕ) (r : Record) → AreKept n rs → Stands rs place t r → (w : World) (image : ImageState) (now : List (Option Thread)) → threads_of n rs ≡ now
    → w.threads ≡ now → w.image ≡ image → w.closed ≡ false → Shows w r image
stands_shows n rs place t r h s w image now view threads is still = record {
  at =
      ap (λ ts. thread_in ts (number_of r)) threads
      ∙ ap (thread_in now) s.number
      ∙ stands_live n rs place t r h s now view;
  image_is = is;
  still = still;
}

-- what stands where it was written
pub set_read : (rs : List Record) (place : ℕ) (new read : Record) → place < length rs → read ≡ slice_index_or (slice_set rs place new) place read → read ≡ new
set_read rs place new read inside e = e ∙ get_or-set_same rs place new read inside

pub stands_within : (rs : List Record) (place t : ℕ) (r : Record) → Stands rs place t r → place < length rs
stands_within rs place t r s = slice_get_within rs place r s.is
