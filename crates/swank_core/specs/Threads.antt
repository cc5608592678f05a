-- A live thread as it is kept, and the table of them.
use Rattle.server_rules.specs.Built.{built}
use Rattle.std.specs.Prelude.{◌≡◌, ℕ, ◌≤◌, ◌^◌, true, List, [], ◌∷◌, Option, Some, drop, slice_get, slice_set}
use Rattle.std.specs.Option.{option_map_or}
use Rattle.server_rules.specs.Simple.{are_simple}
use Rattle.session_model.specs.Running.{interrupted}
use Rattle.session_model.specs.World.{Thread, thread_in}
use Rattle.swank_core.specs.Kept.{by_number, found, AreRising}
use Rattle.swank_core.specs.declared.record.Record.{Record}
use Rattle.term_model.specs.Term.{At, plug}

abbrev pub number_of : Record → ℕ
number_of r = r.machine.thread

-- what the machine's stack and the rest make together
abbrev pub thread_of : Record → Thread
thread_of r = record {
  term = plug r.machine.stack.context (At r.machine.stack.redex);
  serial = r.machine.stack.serial;
  mailbox = r.mailbox;
  interrupts = r.interrupts;
  lent = r.lent;
}

-- the threads by number, where so many were made
abbrev pub threads_of : ℕ → List Record → List (Option Thread)
threads_of n rs = by_number number_of thread_of n rs

-- each thread's layers are such as the steps make that are built
abbrev pub AreSimple : List Record → Type 0
AreSimple [] = Unit {0}
AreSimple (r ∷ rs) = (are_simple r.machine.stack.context ≡ true) × AreSimple rs

pub record AreKept (n : ℕ) (rs : List Record) : Type 0 where
  pub few : n ≤ 2 ^ 63
  pub rising : AreRising number_of 0 n rs
  pub simple : AreSimple rs

-- the threads with this number or a later one begin at this place
pub record IsPlace (rs : List Record) (at t : ℕ) : Type 0 where
  pub late : (k : ℕ) (r : Record) → at ≤ k → slice_get rs k ≡ Some r → t ≤ number_of r
  pub found_there : (k : ℕ) → t ≤ k → found number_of thread_of (drop at rs) k ≡ found number_of thread_of rs k

-- the thread of number t stands at this place
pub record IsAt (rs : List Record) (at t : ℕ) : Type 0 where
  pub item : Record
  pub is : slice_get rs at ≡ Some item
  pub number : number_of item ≡ t

-- the thread of a number is changed, where it is live
abbrev pub changed : (Thread → Thread) → ℕ → List (Option Thread) → List (Option Thread)
changed change t threads = option_map_or (λ thread. slice_set threads t (Some (change thread))) (thread_in threads t) threads

-- a loan takes a pending interrupt
abbrev pub lent_to : ℕ → Thread → Thread
lent_to seat thread = record (interrupted built.levels thread.interrupts thread) { lent = Some seat }
