-- The cleanup of each protected form begins once, inner ones before outer ones.
use Rattle.std.specs.Prelude.{◌≡◌, ◌≢◌, ◌≤◌, ◌<◌, ◌⊎◌, ℕ, ◌==◌, Bool, false, ◌&&◌, List, [], ◌∷◌, Option, Some, None}
use Rattle.term_model.specs.declared.frame.Frame.{Frame}
use Rattle.term_model.specs.declared.frame.Frame.TheVariants as frame
use Rattle.term_model.specs.Label.{Label, Cleanup}
use Rattle.term_model.specs.Term.{Context, split}
use Rattle.step_model.specs.Image.{ImageState}
use Rattle.step_model.specs.Now.{Now}
use Rattle.step_model.specs.Rules.{Rules}
use Rattle.step_model.specs.AsBuilt.{step_as_built}
use Rattle.session_model.specs.declared.event.Entry.{Entry}
use Rattle.session_model.specs.Journal.{labels, run}
use Rattle.session_model.specs.World.{Thread, thread_at}
use Rattle.session_laws.specs.Counting.{count}

-- whether a label says that the cleanup of protected form k of thread t began
abbrev pub begins : ℕ → ℕ → Label → Bool
begins t k (Cleanup u j) = (u == t) && (j == k)
begins t k l = false

-- whether a layer is protected form k
abbrev pub protects : ℕ → Frame → Bool
protects k (frame.Protect j cleanup) = j == k
protects k l = false

-- protected form k stands so often in a context, and its cleanup began so often, by these labels
abbrev pub standing : ℕ → Context → ℕ
standing k c = count (protects k) c

abbrev pub begun : ℕ → ℕ → List Label → ℕ
begun t k ls = count (begins t k) ls

-- the serial of the innermost protected form
abbrev pub innermost_protected : Context → Option ℕ
innermost_protected [] = None
innermost_protected (frame.Protect k cleanup ∷ c) = Some k
innermost_protected (l ∷ c) = innermost_protected c

-- of the serials that a thread made, from 0 up, the cleanup of each began once, and of no other
pub record AllBegun (t : ℕ) (ls : List Label) : Type 0 where
  pub made : ℕ
  pub once : (k : ℕ) → k < made → begun t k ls ≡ 1
  pub none : (k : ℕ) → made ≤ k → begun t k ls ≡ 0

-- each protected form that a live thread made stands once and its cleanup hasn't begun, or it doesn't stand and its cleanup began once;
-- a serial that wasn't made has neither. Of a thread that has ended each cleanup began, once, and no cleanup of any thread began twice
pub record CleansOnce (rules : Rules) (image : ImageState) (j : List Entry) : Type 0 where
  pub made : (t : ℕ) (thread : Thread) → thread_at (run rules image j) t ≡ Some thread → (k : ℕ) → k < thread.serial
      → ((standing k (split thread.term).0 ≡ 1) × (begun t k (labels rules image j) ≡ 0)) ⊎ ((standing k (split thread.term).0 ≡ 0) × (begun t k (labels rules image j) ≡ 1))
  pub not_made : (t : ℕ) (thread : Thread) → thread_at (run rules image j) t ≡ Some thread → (k : ℕ) → thread.serial ≤ k
      → (standing k (split thread.term).0 ≡ 0) × (begun t k (labels rules image j) ≡ 0)
  pub ended : (t : ℕ) → thread_at (run rules image j) t ≡ None → AllBegun t (labels rules image j)
  pub at_most_once : (t k : ℕ) → begun t k (labels rules image j) ≤ 1

-- where a step begins the cleanup of a protected form, that was the innermost one before the step
abbrev pub CleansInnermost : Rules → Now → ℕ → Type 0
CleansInnermost rules n k = begun n.thread k (step_as_built rules.built rules n).labels ≢ 0 → innermost_protected n.context ≡ Some k
