-- Each move keeps the cleanups.
use Rattle.std.proofs.Common.{◌≡◌, ℕ, zero, suc, ◌+◌, ◌≢◌, ◌<◌, ◌≤◌, ◌⊎◌, inl, inr, Bool, false, List, [], ◌∷◌, ◌++◌, length, Some, refl, ap, subst, arith}
use Rattle.std.specs.Prelude.{◌==◌, nat_lt}
use Rattle.std.proofs.lemmas.Bool.Decides.{nat_tests}
use Rattle.term_model.specs.declared.frame.Frame.TheVariants as frame
use Rattle.term_model.specs.declared.question.Ask.TheVariants as question
use Rattle.term_model.specs.Label.{Label}
use Rattle.term_model.specs.Term.{Context, split}
use Rattle.step_model.specs.Image.{ImageState}
use Rattle.step_model.specs.Marks.{Mark, Protected, marks}
use Rattle.step_model.specs.Moves.{Move, Protects, Turns, Asks, Unasked, Writes, Fits, adds, after, before, removes, serial_after, told}
use Rattle.step_model.specs.Now.{Mailbox}
use Rattle.step_model.specs.Rules.{Rules, Output, NewPackage}
use Rattle.session_model.specs.declared.event.Entry.{Entry}
use Rattle.session_model.specs.Journal.{labels, run}
use Rattle.session_model.specs.World.{Thread, thread_at}
use Rattle.session_laws.specs.CleansOnce.{AllBegun, CleansOnce, begins, begun, standing}
use Rattle.session_laws.specs.Counting.{count, tally}
use Rattle.session_laws.specs.Seen.{Seen, Unborn, Alive, Gone, seen, seen_in, state_in}
use Rattle.session_laws.proofs.Always.{IsLaw, always}
use Rattle.session_laws.proofs.Counts.{count-append, other, own, tally_more, tally_small}
use Rattle.session_laws.proofs.Threads.{found, not_live}

abbrev pub is_protected : ℕ → Mark → Bool
is_protected k (Protected j) = j == k
is_protected k m = false

abbrev stands : ℕ → Seen → ℕ
stands k (Alive s) = count (is_protected k) s.marks
stands k Unborn = 0
stands k Gone = 0

abbrev IsSerial : ℕ → Seen → Type 0
IsSerial n Unborn = n ≡ 0
IsSerial n (Alive s) = n ≡ s.serial
IsSerial n Gone = Unit {0}

-- each serial made stands as a protected form or has begun its cleanup, once, and no other has
record IsCleaned (t : ℕ) (ls : List Label) (x : Seen) : Type 0 where
  made : ℕ
  each : (k : ℕ) → stands k x + count (begins t k) ls ≡ tally (nat_lt k made)
  is_serial : IsSerial made x

-- what a move begins, and what it makes
begins_own : (t k : ℕ) (m : Move) (ms : List Mark) (s : ℕ) (mb : Mailbox) → Fits t m ms s mb → (count (is_protected k) (adds m ++ ms) + count (begins t k) (told t m)) + tally (nat_lt k s) ≡ count (is_protected k) (removes m ++ ms) + tally (nat_lt k (serial_after m s))
begins_own t k (Turns j) ms s mb fits = omega (arith, own t (j == k))
begins_own t k (Protects j) ms s mb fits = omega (arith, tally_more k s, ap (λ n. tally (n == k)) fits)
begins_own t k (Asks question.String tag text) ms s mb fits = omega arith
begins_own t k (Asks question.YesNo tag text) ms s mb fits = omega arith
begins_own t k (Unasked question.String tag) ms s mb fits = omega arith
begins_own t k (Unasked question.YesNo tag) ms s mb fits = omega arith
begins_own t k (Writes (Output text b)) ms s mb fits = omega arith
begins_own t k (Writes (NewPackage name prompt)) ms s mb fits = omega arith
begins_own t k m ms s mb fits = omega arith

begins_other : (t u k : ℕ) (m : Move) → t ≢ u → count (begins t k) (told u m) ≡ 0
begins_other t u k (Turns j) ne = omega (arith, other t u (j == k) ne)
begins_other t u k (Unasked question.String tag) ne = omega arith
begins_other t u k (Unasked question.YesNo tag) ne = omega arith
begins_other t u k (Writes (Output text b)) ne = omega arith
begins_other t u k (Writes (NewPackage name prompt)) ne = omega arith
begins_other t u k m ne = omega arith

quiet : (t : ℕ) (ls new : List Label) (x y : Seen) (h : IsCleaned t ls x) → (IsSerial h.made x → IsSerial h.made y) → ((k : ℕ) → stands k x ≡ stands k y) → ((k : ℕ) → count (begins t k) new ≡ 0) → IsCleaned t (ls ++ new) y
quiet t ls new x y h serial same none = record {
  made = h.made;
  each = λ k. omega (arith, count-append (begins t k) ls new, none k, same k, h.each k);
  is_serial = serial h.is_serial;
}

moves : (t : ℕ) (ls : List Label) (m : Move) (ms : List Mark) (s : ℕ) (mb : Mailbox) → Fits t m ms s mb → IsCleaned t ls (Alive (before m ms s mb)) → IsCleaned t (ls ++ told t m) (Alive (after m ms s mb))
moves t ls m ms s mb fits h = record {
  made = serial_after m s;
  each = λ k. omega (arith, count-append (begins t k) ls (told t m), begins_own t k m ms s mb fits, h.each k, ap (λ n. tally (nat_lt k n)) h.is_serial);
  is_serial = refl;
}

none_below : (k : ℕ) → 0 + 0 ≡ tally (nat_lt k 0)
none_below k = grind (arith, nat_tests)

law : IsLaw (λ past. IsCleaned)
law = record {
  moves = λ past. moves;
  aside = λ past t u ls x m ms s mb fits ne g h. quiet t ls (told u m) x x h (λ e. e) (λ k. refl) (λ k. begins_other t u k m ne);
  later = λ past e t ls x none h. h;
  routed = λ past e t ls s m is h. quiet t ls _ (Alive s) (Alive (record s { mailbox = s.mailbox ++ (length past, m) ∷ [] })) h (λ e. e) (λ k. refl) (λ k. refl);
  born = λ past e t ls m is h. quiet t ls _ Unborn (Alive (record { marks = []; serial = 0; mailbox = (length past, m) ∷ [] })) h (λ e. e) (λ k. refl) (λ k. refl);
  routed_aside = λ past e t u ls x m is ne h. quiet t ls _ x x h (λ e. e) (λ k. refl) (λ k. refl);
  refused = λ past e t form p thread id text ls x is h. quiet t ls _ x x h (λ e. e) (λ k. refl) (λ k. refl);
  noted = λ past t ls m x is h. quiet t ls _ x x h (λ e. e) (λ k. refl) (λ k. refl);
  broken = λ past t u ls x h. quiet t ls _ x x h (λ e. e) (λ k. refl) (λ k. refl);
  gone = λ past t ls s mb none h. record { made = h.made; each = h.each; is_serial = tt };
  unborn = λ t. record { made = 0; each = λ k. none_below k; is_serial = refl };
  none = λ t. record { made = 0; each = λ k. none_below k; is_serial = tt };
  first = λ t. record { made = 0; each = λ k. none_below k; is_serial = refl };
}

-- ---- from marks to layers

stands-standing : (k : ℕ) (c : Context) → count (is_protected k) (marks c) ≡ standing k c
stands-standing k [] = refl
stands-standing k (frame.Protect n cleanup ∷ c) = ap (λ a. tally (n == k) + a) (stands-standing k c)
stands-standing k (frame.On p ∷ c) = omega (arith, stands-standing k c)
stands-standing k (frame.Cleanup n saved ∷ c) = omega (arith, stands-standing k c)
stands-standing k (frame.Rex i id form ∷ c) = omega (arith, stands-standing k c)
stands-standing k (frame.Sldb n condition again ∷ c) = omega (arith, stands-standing k c)
stands-standing k (frame.Ask kind tag ∷ c) = omega (arith, stands-standing k c)

one_of : (a b k n : ℕ) → k < n → a + b ≡ tally (nat_lt k n) → ((a ≡ 1) × (b ≡ 0)) ⊎ ((a ≡ 0) × (b ≡ 1))
one_of a b k n lt e = by_a a (sum k n lt e)
  where
    sum : (k n : ℕ) → k < n → a + b ≡ tally (nat_lt k n) → a + b ≡ 1
    sum k n lt e = grind (arith, nat_tests)

    by_a : (c : ℕ) → c + b ≡ 1 → ((c ≡ 1) × (b ≡ 0)) ⊎ ((c ≡ 0) × (b ≡ 1))
    by_a zero e = inr (refl, omega (arith, e))
    by_a (suc c) e = inl (omega (arith, e), omega (arith, e))

neither : (a b k n : ℕ) → n ≤ k → a + b ≡ tally (nat_lt k n) → (a ≡ 0) × (b ≡ 0)
neither a b k n le e = (omega (arith, sum k n le e), omega (arith, sum k n le e))
  where
    sum : (k n : ℕ) → n ≤ k → a + b ≡ tally (nat_lt k n) → a + b ≡ 0
    sum k n le e = grind (arith, nat_tests)

-- where nothing stands, all have begun
all_begun : (t : ℕ) (ls : List Label) (x : Seen) → ((k : ℕ) → stands k x ≡ 0) → IsCleaned t ls x → AllBegun t ls
all_begun t ls x none h = record {
  made = h.made;
  once = λ k lt. omega (arith, none k, h.each k, below k h.made lt);
  none = λ k le. omega (arith, none k, h.each k, above k h.made le);
}
  where
    below : (k n : ℕ) → k < n → tally (nat_lt k n) ≡ 1
    below k n lt = grind (arith, nat_tests)

    above : (k n : ℕ) → n ≤ k → tally (nat_lt k n) ≡ 0
    above k n le = grind (arith, nat_tests)

pub cleans_once : (rules : Rules) (image : ImageState) (j : List Entry) → CleansOnce rules image j
cleans_once rules image j = record {
  made = λ t thread e k lt. one_of _ _ k thread.serial lt (live t thread e k);
  not_made = λ t thread e k le. neither _ _ k thread.serial le (live t thread e k);
  ended = λ t e. not_live (run rules image j).threads t e (λ x. IsCleaned t (labels rules image j) x → AllBegun t (labels rules image j)) (all_begun t (labels rules image j) Unborn (λ k. refl)) (all_begun t (labels rules image j) Gone (λ k. refl)) (holds t);
  at_most_once = λ t k. let h = holds t in omega (arith, h.each k, tally_small (nat_lt k h.made));
}
  where
    holds : (t : ℕ) → IsCleaned t (labels rules image j) (seen_in (run rules image j).threads t)
    holds t = always rules (λ past. IsCleaned) law image j t

    live : (t : ℕ) (thread : Thread) → thread_at (run rules image j) t ≡ Some thread → (k : ℕ) → standing k (split thread.term).0 + begun t k (labels rules image j) ≡ tally (nat_lt k thread.serial)
    live t thread e k =
        let h : IsCleaned t (labels rules image j) (Alive (state_in thread)) = subst (λ o. IsCleaned t (labels rules image j) (seen o)) (found (run rules image j).threads t thread e) (holds t) in
        omega (arith, h.each k, stands-standing k (split thread.term).0, ap (λ n. tally (nat_lt k n)) h.is_serial)
