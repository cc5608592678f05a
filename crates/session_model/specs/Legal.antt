-- Which threads are ready, when a session is quiet, and which entry may follow a journal.
use Rattle.std.specs.Prelude.{◌≡◌, ◌≢◌, ℕ, zero, suc, ◌<◌, ◌≤◌, ◌^◌, nat_lt, Bool, true, false, ◌&&◌, ◌||◌, not, is_some, is_none, List, [], ◌∷◌, length, Option, Some, None, IsTrue}
use Rattle.std.specs.Option.{option_map_or}
use Rattle.rpc_messages.specs.declared.from_emacs.FromEmacs.{FromEmacs}
use Rattle.rpc_messages.specs.declared.from_emacs.FromEmacs.TheVariants as mail
use Rattle.rpc_messages.specs.declared.from_emacs.ThreadName.{ThreadName}
use Rattle.rpc_messages.specs.declared.from_emacs.ThreadName.TheVariants as name
use Rattle.mailboxes.specs.Mail.{first_accepted}
use Rattle.term_model.specs.declared.focus.Focus.{Focus}
use Rattle.term_model.specs.declared.focus.Focus.TheVariants as focus
use Rattle.term_model.specs.Term.{split}
use Rattle.step_model.specs.Image.{ImageState}
use Rattle.step_model.specs.Now.{Mailbox}
use Rattle.step_model.specs.Rules.{Rules}
use Rattle.session_model.specs.declared.event.Entry.{Entry}
use Rattle.session_model.specs.declared.event.Event.{Event}
use Rattle.session_model.specs.declared.event.Event.TheVariants.{Arrive, End, Lend, Burst, Drain}
use Rattle.session_model.specs.Journal.{next}
use Rattle.session_model.specs.Running.{steps_once}
use Rattle.session_model.specs.World.{Thread, World, start, thread_at}

-- whether a redex waits for what isn't there
abbrev pub waits_in_vain : Focus → Mailbox → Bool
waits_in_vain (focus.Wait p) mailbox = is_none (first_accepted p mailbox)
waits_in_vain _ mailbox = false

-- whether a thread could make a step
abbrev pub can_step : Thread → Bool
can_step thread = not (waits_in_vain (split thread.term).1 thread.mailbox)

-- whether a live thread is ready: it has a pending interrupt, or can make a step
abbrev pub is_active : Thread → Bool
is_active thread = nat_lt 0 thread.interrupts || can_step thread

abbrev pub is_lent : Thread → Bool
is_lent thread = is_some thread.lent

abbrev pub is_lendable : Thread → Bool
is_lendable thread = is_active thread && not (is_lent thread)

-- whether the thread of a number may be lent
abbrev pub is_ready : World → ℕ → Bool
is_ready w t = not w.closed && option_map_or is_lendable (thread_at w t) false

-- whether a thread is neither ready nor lent
abbrev pub is_idle : Option Thread → Bool
is_idle (Some thread) = not (is_active thread || is_lent thread)
is_idle None = true

abbrev pub are_idle : List (Option Thread) → Bool
are_idle [] = true
are_idle (thread ∷ threads) = is_idle thread && are_idle threads

-- whether no thread is ready or lent
abbrev pub is_quiet : World → Bool
is_quiet w = are_idle w.threads

-- whether a session that is closed or isn't lets this thread make a step: the thread is live and doesn't wait for what isn't there
abbrev pub goes_on : Bool → Option Thread → Bool
goes_on closed thread = not closed && option_map_or can_step thread false

-- whether the thread of a number can make a step
abbrev pub may_step : World → ℕ → Bool
may_step w t = goes_on w.closed (thread_at w t)

-- the thread can make so many steps, one after another
abbrev pub CanMake : Rules → ℕ → ℕ → World → Type 0
CanMake rules zero t w = Unit {0}
CanMake rules (suc n) t w = IsTrue (may_step w t) × CanMake rules n t (steps_once rules w t).after

-- the thread is lent to the seat
abbrev pub IsLentTo : ℕ → Option Thread → Type 0
IsLentTo seat None = ⊥
IsLentTo seat (Some thread) = thread.lent ≡ Some seat

-- a thread's number in a message is below 2^63
abbrev pub IsSmallName : ThreadName → Type 0
IsSmallName name.New = Unit {0}
IsSmallName name.Repl = Unit {0}
IsSmallName (name.Id t) = t < 2 ^ 63

-- how many octets the text of an unreadable message has at most
abbrev pub max_fault : ℕ
max_fault = 1000

-- what may arrive: its numbers are below 2^63, an answer names a thread that stands, and what is wrong with a packet is said briefly
abbrev pub MayArrive : FromEmacs → Type 0
MayArrive (mail.Rex form «package» thread id) = IsSmallName thread
MayArrive (mail.Interrupt thread) = IsSmallName thread
MayArrive (mail.ReturnString thread tag text) = (thread ≢ name.New) × IsSmallName thread × (tag < 2 ^ 63)
MayArrive (mail.Return thread tag value) = (thread ≢ name.New) × IsSmallName thread × (tag < 2 ^ 63)
MayArrive (mail.Unreadable packet text) = length text ≤ max_fault

abbrev pub AllMayArrive : List FromEmacs → Type 0
AllMayArrive [] = Unit {0}
AllMayArrive (m ∷ ms) = MayArrive m × AllMayArrive ms

-- how many steps a burst makes at most
abbrev pub max_burst : ℕ
max_burst = 256

-- neither the input nor the session is at its end
abbrev pub IsOpen : World → Type 0
IsOpen w = (w.ended ≡ false) × (w.closed ≡ false)

abbrev pub MayHappen : Rules → World → ℕ → Event → Type 0
MayHappen rules w seat (Arrive m) = IsOpen w × MayArrive m
MayHappen rules w seat End = IsOpen w
MayHappen rules w seat (Lend t) = IsTrue (is_ready w t)
MayHappen rules w seat (Burst t n) = IsLentTo seat (thread_at w t) × (0 < n) × (n ≤ max_burst) × CanMake rules n t w
MayHappen rules w seat (Drain k) = (0 < k) × (k ≡ length w.undrained)

-- the entry may come next
abbrev pub IsLegal : Rules → World → Entry → Type 0
IsLegal rules w e = MayHappen rules w e.seat e.event

-- each entry of the journal may come where it stands, from this world on
abbrev pub AreLegal : Rules → World → List Entry → Type 0
AreLegal rules w [] = Unit {0}
AreLegal rules w (e ∷ j) = IsLegal rules w e × AreLegal rules (next rules w e).after j

-- the journal is one of a session with this image
abbrev pub IsLegalFrom : Rules → ImageState → List Entry → Type 0
IsLegalFrom rules image j = AreLegal rules (start image) j
