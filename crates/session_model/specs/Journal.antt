-- The run of a journal: its entries happen one after another, on one thread of control.
use Rattle.std.specs.Prelude.{ℕ, ◌+◌, true, List, [], ◌∷◌, ◌++◌}
use Rattle.rpc_messages.specs.declared.from_emacs.FromEmacs.{FromEmacs}
use Rattle.rpc_messages.specs.declared.to_emacs.ToEmacs.{ToEmacs}
use Rattle.term_model.specs.Label.{Label}
use Rattle.step_model.specs.Image.{ImageState}
use Rattle.step_model.specs.Rules.{Rules}
use Rattle.session_model.specs.declared.event.Entry.{Entry}
use Rattle.session_model.specs.declared.event.Event.{Event}
use Rattle.session_model.specs.declared.event.Event.TheVariants.{Arrive, End, Lend, Burst, Drain}
use Rattle.session_model.specs.Arriving.{arrives_as_built}
use Rattle.session_model.specs.Running.{lends, bursts}
use Rattle.session_model.specs.World.{World, Happened, start, silent, then, messages_in}

-- all undrained outputs are handed out
abbrev pub drains : World → World
drains w = record w { drained = w.drained ++ w.undrained; undrained = [] }

-- what an event does and tells
abbrev pub happens : Rules → World → ℕ → Event → Happened
happens rules w seat (Arrive m) = arrives_as_built rules.built w m
happens rules w seat End = silent (record w { ended = true })
happens rules w seat (Lend t) = lends rules.built.levels w seat t
happens rules w seat (Burst t n) = bursts rules w t n
happens rules w seat (Drain k) = silent (drains w)

abbrev pub counted : Happened → Happened
counted h = record h { after = record h.after { places = h.after.places + 1 } }

-- the next entry of the journal
abbrev pub next : Rules → World → Entry → Happened
next rules w e = counted (happens rules w e.seat e.event)

-- the entries of a journal, from this world on
abbrev pub run_from : Rules → World → List Entry → Happened
run_from rules w [] = silent w
run_from rules w (e ∷ j) = then (next rules w e) (λ v. run_from rules v j)

-- the world after a journal
abbrev pub run : Rules → ImageState → List Entry → World
run rules image j = (run_from rules (start image) j).after

-- what a journal tells
abbrev pub labels : Rules → ImageState → List Entry → List Label
labels rules image j = (run_from rules (start image) j).labels

-- the messages to Emacs that it tells
abbrev pub outputs : Rules → ImageState → List Entry → List ToEmacs
outputs rules image j = messages_in (labels rules image j)

-- the messages that arrived, in front of others
abbrev pub arrived : Event → List FromEmacs → List FromEmacs
arrived (Arrive m) ms = m ∷ ms
arrived End ms = ms
arrived (Lend t) ms = ms
arrived (Burst t n) ms = ms
arrived (Drain k) ms = ms

-- the messages that arrived
abbrev pub arrivals : List Entry → List FromEmacs
arrivals [] = []
arrivals (e ∷ j) = arrived e.event (arrivals j)

-- the steps that an event makes
abbrev pub steps_of : Event → ℕ
steps_of (Arrive m) = 0
steps_of End = 0
steps_of (Lend t) = 0
steps_of (Burst t n) = n
steps_of (Drain k) = 0

-- the steps that the bursts of a journal make
abbrev pub steps_made : List Entry → ℕ
steps_made [] = 0
steps_made (e ∷ j) = steps_of e.event + steps_made j
