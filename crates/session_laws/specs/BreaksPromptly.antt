-- An interrupt is taken at the thread's next loan.
use Rattle.std.specs.Prelude.{◌≡◌, ◌≤◌, ◌<◌, ◌⊎◌, ℕ, ◌+◌, ◌==◌, nat_lt, Bool, false, ◌&&◌, is_some, if◌then◌else◌, List, [], ◌∷◌, Option, Some, None}
use Rattle.rpc_messages.specs.declared.from_emacs.FromEmacs.{FromEmacs}
use Rattle.rpc_messages.specs.declared.from_emacs.FromEmacs.TheVariants as mail
use Rattle.term_model.specs.Breaks.{broken, may_open}
use Rattle.term_model.specs.Label.{Broke}
use Rattle.term_model.specs.Term.{split}
use Rattle.step_model.specs.Built.{Built}
use Rattle.step_model.specs.Rules.{Rules}
use Rattle.session_model.specs.declared.event.Entry.{Entry}
use Rattle.session_model.specs.declared.event.Event.{Event}
use Rattle.session_model.specs.declared.event.Event.TheVariants.{Arrive, Lend, Burst}
use Rattle.session_model.specs.Arriving.{named}
use Rattle.session_model.specs.Journal.{next, run_from}
use Rattle.session_model.specs.Legal.{AreLegal, IsLentTo, max_burst}
use Rattle.session_model.specs.Running.{lends}
use Rattle.session_model.specs.World.{Thread, World, thread_at}
use Rattle.session_laws.specs.Counting.{count, tally}

-- ---- counts of entries

-- the pending interrupts of a thread, none where it isn't live
abbrev pub pending_in : Option Thread → ℕ
pending_in (Some thread) = thread.interrupts
pending_in None = 0

abbrev pub pending : ℕ → World → ℕ
pending t w = pending_in (thread_at w t)

-- whether a message is an interrupt that is kept for this thread, which is live
abbrev pub interrupts_now : Built → ℕ → World → FromEmacs → Bool
interrupts_now built t w (mail.Interrupt name) = built.interrupts && (named w name == t) && is_some (thread_at w t)
interrupts_now built t w m = false

-- whether an event in a world is the arrival of an interrupt that is kept for thread t
abbrev pub interrupts_thread : Built → ℕ → World → Event → Bool
interrupts_thread built t w (Arrive m) = interrupts_now built t w m
interrupts_thread built t w event = false

-- whether an event in a world is a loan of thread t that takes an interrupt
abbrev pub takes_interrupt : ℕ → World → Event → Bool
takes_interrupt t w (Lend u) = (u == t) && nat_lt 0 (pending t w)
takes_interrupt t w event = false

-- in how many of these entries, from a world on, a test of the world and the event holds
abbrev pub counted_from : Rules → (World → Event → Bool) → World → List Entry → ℕ
counted_from rules test w [] = 0
counted_from rules test w (e ∷ j) = tally (test w e.event) + counted_from rules test (next rules w e).after j

-- the interrupts that arrived for thread t and were kept, and those that its loans took
abbrev pub arrived : Rules → ℕ → World → List Entry → ℕ
arrived rules t w j = counted_from rules (interrupts_thread rules.built t) w j

abbrev pub taken : Rules → ℕ → World → List Entry → ℕ
taken rules t w j = counted_from rules (takes_interrupt t) w j

abbrev pub is_loan_of : ℕ → Event → Bool
is_loan_of t (Lend u) = u == t
is_loan_of t event = false

abbrev pub is_burst_of : ℕ → Event → Bool
is_burst_of t (Burst u n) = u == t
is_burst_of t event = false

-- the loans of thread t among entries, and its bursts
abbrev pub loans : ℕ → List Entry → ℕ
loans t j = count (λ (e : Entry). is_loan_of t e.event) j

abbrev pub bursts_of : ℕ → List Entry → ℕ
bursts_of t j = count (λ (e : Entry). is_burst_of t e.event) j

-- the steps that an event has thread t make
abbrev pub steps_in : ℕ → Event → ℕ
steps_in t (Burst u n) = if u == t then n else 0
steps_in t event = 0

-- the steps that thread t makes in entries
abbrev pub steps_of : ℕ → List Entry → ℕ
steps_of t [] = 0
steps_of t (e ∷ j) = steps_in t e.event + steps_of t j

-- the thread is lent to no seat
abbrev pub IsNotLent : ℕ → World → Type 0
IsNotLent t w = (seat : ℕ) → IsLentTo seat (thread_at w t) → ⊥

-- ---- the law

-- a loan takes an interrupt of this thread, if it has one: it breaks the thread's term, and says so unless as many levels are open as there may be
pub record TakesInterrupt (most : ℕ) (w : World) (seat t : ℕ) (thread : Thread) : Type 0 where
  pub now : Thread
  pub is_now : thread_at (lends most w seat t).after t ≡ Some now
  pub broken_term : now.term ≡ broken most thread.term
  pub one_less : now.interrupts + 1 ≡ thread.interrupts
  pub says : ((lends most w seat t).labels ≡ Broke t ∷ []) ⊎ (may_open most (split thread.term).0 ≡ false)

-- from any world on, for any entries:
pub record BreaksPromptly (rules : Rules) (w : World) (j : List Entry) (t : ℕ) : Type 0 where
  -- what is pending of a live thread is what was pending and what arrived for it and was kept, less what its loans took
  pub pending_is : (thread : Thread) → thread_at (run_from rules w j).after t ≡ Some thread → thread.interrupts + taken rules t w j ≡ pending t w + arrived rules t w j
  -- without a loan of the thread nothing is taken, so an interrupt stays until the next loan, and that one takes it
  pub none_taken : loans t j ≡ 0 → taken rules t w j ≡ 0
  pub next_loan : (seat : ℕ) (thread : Thread) → thread_at (run_from rules w j).after t ≡ Some thread → 0 < thread.interrupts → TakesInterrupt rules.built.levels (run_from rules w j).after seat t thread
  -- where the entries are legal and don't lend the thread, it makes steps in one burst at most, and only if it was lent at first
  pub one_burst : AreLegal rules w j → loans t j ≡ 0 → (bursts_of t j ≤ 1) × (steps_of t j ≤ max_burst)
  pub none_unless_lent : AreLegal rules w j → loans t j ≡ 0 → IsNotLent t w → bursts_of t j ≡ 0
