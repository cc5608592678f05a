-- Counts.
use Rattle.std.proofs.Common.{◌≡◌, ℕ, ◌+◌, ◌≤◌, Bool, true, false, ◌&&◌, List, [], ◌∷◌, ◌++◌, Some, ap, arith, ◌≢◌}
use Rattle.std.specs.Prelude.{◌==◌, if◌then◌else◌, nat_lt}
use Rattle.std.proofs.lemmas.Bool.Decides.{nat_tests}
use Rattle.mailboxes.specs.Mail.{first_accepted, without_accepted}
use Rattle.rpc_messages.specs.declared.from_emacs.FromEmacs.{FromEmacs}
use Rattle.rpc_messages.specs.declared.pattern.Pattern.{Pattern}
use Rattle.rpc_messages.specs.Waiting.{accepted}
use Rattle.step_model.specs.Now.{Mailbox}
use Rattle.session_laws.specs.Counting.{count, tally}

pub count-append : {X : Type 0} (p : X → Bool) (xs ys : List X) → count p (xs ++ ys) ≡ count p xs + count p ys
count-append p [] ys = omega arith
count-append p (x ∷ xs) ys = omega (arith, count-append p xs ys)

pub tally_small : (b : Bool) → tally b ≤ 1
tally_small true = omega arith
tally_small false = omega arith

-- a test of thread t and a number, at t's own and at another thread's
pub own : (t : ℕ) (b : Bool) → tally ((t == t) && b) ≡ tally b
own t b = grind (arith, nat_tests)

pub other : (t u : ℕ) (b : Bool) → t ≢ u → tally ((u == t) && b) ≡ 0
other t u b ne = grind (arith, nat_tests)

pub tally_more : (k s : ℕ) → tally (nat_lt k (s + 1)) ≡ tally (nat_lt k s) + tally (s == k)
tally_more k s = grind (arith, nat_tests)

rest_by_test : (q : ℕ × FromEmacs → Bool) (p : Pattern) (n : ℕ × FromEmacs) (mb : Mailbox) (m : ℕ × FromEmacs) (b : Bool) → (if b then Some n else first_accepted p mb) ≡ Some m → (first_accepted p mb ≡ Some m → count q mb ≡ count q (without_accepted p mb) + tally (q m)) → count q (n ∷ mb) ≡ count q (if b then mb else n ∷ without_accepted p mb) + tally (q m)
rest_by_test q p n mb m true e ih = let same : n ≡ m = cc in omega (arith, ap (λ x. tally (q x)) same)
rest_by_test q p n mb m false e ih = omega (arith, ih e)

-- the first that is accepted leaves the mailbox
pub count_rest : (q : ℕ × FromEmacs → Bool) (p : Pattern) (mb : Mailbox) (m : ℕ × FromEmacs) → first_accepted p mb ≡ Some m → count q mb ≡ count q (without_accepted p mb) + tally (q m)
count_rest q p [] m e = absurd (cc)
count_rest q p (n ∷ mb) m e = rest_by_test q p n mb m (accepted p n.1) e (count_rest q p mb m)
