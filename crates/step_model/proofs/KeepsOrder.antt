-- A list of moves keeps the order of marks.
use Rattle.std.proofs.Common.{◌≡◌, ℕ, ◌+◌, ◌<◌, ◌≤◌, List, [], ◌∷◌, arith}
use Rattle.std.proofs.lemmas.Bool.{ltb-true}
use Rattle.term_model.specs.Breaks.{max_levels}
use Rattle.term_model.specs.Label.{Label}
use Rattle.step_model.specs.AsBuilt.{step_as_built}
use Rattle.step_model.specs.Built.{Built}
use Rattle.step_model.specs.Marks.{Mark, Protected, Cleaning, Serving, Level, Asking, State, depth, state_of}
use Rattle.step_model.specs.Moves as move
use Rattle.step_model.specs.Moves.{Fits, Move, Path, Phase, after, before, go, stay}
use Rattle.step_model.specs.Now.{Mailbox, Now}
use Rattle.step_model.specs.Order.{AreSerials, IsNew, IsOrdered}
use Rattle.step_model.specs.Rules.{Rules}
use Rattle.step_model.specs.Step.{step}
use Rattle.step_model.proofs.Paths.{as_built_path, step_path}

-- a serial that is not below another is new among those that are
new_above : (k s : ℕ) (ms : List Mark) → s ≤ k → AreSerials s ms → IsNew k ms
new_above k s [] e h = tt
new_above k s (Protected j ∷ ms) e h = (λ (same : k ≡ j). omega (arith, h.0), new_above k s ms e h.2)
new_above k s (Cleaning j ∷ ms) e h = (λ (same : k ≡ j). omega (arith, h.0), new_above k s ms e h.2)
new_above k s (Serving i id ∷ ms) e h = new_above k s ms e h
new_above k s (Level n ∷ ms) e h = new_above k s ms e h
new_above k s (Asking kind tag ∷ ms) e h = new_above k s ms e h

higher : (s t : ℕ) (ms : List Mark) → s ≤ t → AreSerials s ms → AreSerials t ms
higher s t [] e h = tt
higher s t (Protected j ∷ ms) e h = (omega (arith, h.0), h.1, higher s t ms e h.2)
higher s t (Cleaning j ∷ ms) e h = (omega (arith, h.0), h.1, higher s t ms e h.2)
higher s t (Serving i id ∷ ms) e h = higher s t ms e h
higher s t (Level n ∷ ms) e h = higher s t ms e h
higher s t (Asking kind tag ∷ ms) e h = higher s t ms e h

move_keeps : (t : ℕ) (m : Move) (ms : List Mark) (s : ℕ) (mb : Mailbox) → Fits t m ms s mb → IsOrdered (before m ms s mb) → IsOrdered (after m ms s mb)
move_keeps t (move.Protects k) ms s mb e h =
    record { numbered = h.numbered; few = h.few; serials = (omega (arith, e), new_above k s ms (omega (arith, e)) h.serials, higher s (s + 1) ms (omega arith) h.serials) }
move_keeps t (move.Turns k) ms s mb e h = record { numbered = h.numbered; few = h.few; serials = h.serials }
move_keeps t (move.Cleaned k) ms s mb e h = record { numbered = h.numbered; few = h.few; serials = h.serials.2 }
move_keeps t (move.Asks kind tag text) ms s mb e h = record { numbered = h.numbered; few = h.few; serials = h.serials }
move_keeps t (move.Answered kind tag) ms s mb e h = record { numbered = h.numbered; few = h.few; serials = h.serials }
move_keeps t (move.Unasked kind tag) ms s mb e h = record { numbered = h.numbered; few = h.few; serials = h.serials }
move_keeps t (move.Begins i id p form name thread) ms s mb e h = record { numbered = h.numbered; few = h.few; serials = h.serials }
move_keeps t (move.Ends i id reply) ms s mb e h = record { numbered = h.numbered; few = h.few; serials = h.serials }
move_keeps t (move.Aborts i id) ms s mb e h = record { numbered = h.numbered; few = h.few; serials = h.serials }
move_keeps t (move.Hears i p m) ms s mb e h = record { numbered = h.numbered; few = h.few; serials = h.serials }
move_keeps t (move.Opens n m) ms s mb e h = let room : depth ms < max_levels = ltb-true (depth ms) max_levels e.1 in record { numbered = (e.0, h.numbered); few = omega arith; serials = h.serials }
move_keeps t (move.Closes n) ms s mb e h = let few : depth ms + 1 ≤ max_levels = h.few in record { numbered = h.numbered.1; few = omega arith; serials = h.serials }
move_keeps t (move.Announces n m) ms s mb e h = record { numbered = h.numbered; few = h.few; serials = h.serials }
move_keeps t (move.Writes w) ms s mb e h = record { numbered = h.numbered; few = h.few; serials = h.serials }
move_keeps t (move.Sweeps i id form name thread) ms s mb e h = record { numbered = h.numbered; few = h.few; serials = h.serials }

pub path_keeps : {t : ℕ} {from : State} {ls : List Label} {to : State} {ph : Phase} → Path t from ls to ph → IsOrdered from → IsOrdered to
path_keeps stay h = h
path_keeps {t = t} (go m ms s mb p e g) h = move_keeps t m ms s mb e (path_keeps p h)

pub step_orders : (rules : Rules) (n : Now) → IsOrdered (state_of n) → IsOrdered (state_of (step rules n))
step_orders rules n h = path_keeps (step_path rules n).1 h

pub as_built_orders : (built : Built) (rules : Rules) (n : Now) → IsOrdered (state_of n) → IsOrdered (state_of (step_as_built built rules n))
as_built_orders built rules n h = path_keeps (as_built_path built rules n).1 h
