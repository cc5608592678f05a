-- Each thread takes the messages that it accepts in the order of their arrival, each once.
use Rattle.std.specs.Prelude.{◌≡◌, ◌≤◌, ◌⊎◌, ℕ, ◌==◌, Bool, true, false, ◌&&◌, List, [], ◌∷◌, ◌++◌}
use Rattle.rpc_messages.specs.declared.from_emacs.FromEmacs.{FromEmacs}
use Rattle.rpc_messages.specs.declared.pattern.Pattern.{Pattern}
use Rattle.rpc_messages.specs.Waiting as waiting
use Rattle.term_model.specs.Label.{Label, Routed, Took, Swept}
use Rattle.step_model.specs.Image.{ImageState}
use Rattle.step_model.specs.Rules.{Rules}
use Rattle.session_model.specs.declared.event.Entry.{Entry}
use Rattle.session_model.specs.Journal.{labels}
use Rattle.session_laws.specs.Counting.{count}

-- x is an item of a list
abbrev pub Among : {X : Type 0} → X → List X → Type 0
Among x [] = ⊥
Among x (y ∷ ys) = (x ≡ y) ⊎ Among x ys

-- whether a label says that thread t took the message of place i, or swept it
abbrev pub takes : ℕ → ℕ → Label → Bool
takes t i (Took u j p) = (u == t) && (j == i)
takes t i (Swept u j) = (u == t) && (j == i)
takes t i l = false

-- the same of any thread
abbrev pub takes_any : ℕ → Label → Bool
takes_any i (Took u j p) = j == i
takes_any i (Swept u j) = j == i
takes_any i l = false

-- the message of place i was routed to thread t, by these labels, and thread t hasn't taken it
abbrev pub Waits : ℕ → ℕ → FromEmacs → List Label → Type 0
Waits t i m ls = Among (Routed t i m) ls × (count (takes t i) ls ≡ 0)

-- after these labels the message of place i waits for thread t, the pattern accepts it, and no message of a lower place that waits for
-- thread t is accepted
pub record IsLeast (t i : ℕ) (p : Pattern) (before : List Label) : Type 0 where
  pub message : FromEmacs
  pub waits : Waits t i message before
  pub accepted : waiting.accepted p message ≡ true
  pub least : (k : ℕ) (m : FromEmacs) → Waits t k m before → waiting.accepted p m ≡ true → i ≤ k

-- so it is at each taking among the labels that come after these
abbrev pub TakesLeast : List Label → List Label → Type 0
TakesLeast before [] = Unit {0}
TakesLeast before (Took t i p ∷ ls) = IsLeast t i p before × TakesLeast (before ++ Took t i p ∷ []) ls
TakesLeast before (l ∷ ls) = TakesLeast (before ++ l ∷ []) ls

-- each taking takes the accepted message of the least place, and no message is taken twice, by whatever threads
pub record TakesInOrder (rules : Rules) (image : ImageState) (j : List Entry) : Type 0 where
  pub least : TakesLeast [] (labels rules image j)
  pub once : (i : ℕ) → count (takes_any i) (labels rules image j) ≤ 1
