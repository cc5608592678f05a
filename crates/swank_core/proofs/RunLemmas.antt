-- The run of a journal with one entry more, and what an event leaves of the world beside the threads.
use Rattle.server_rules.specs.Built.{built}
use Rattle.std.proofs.Common.{◌≡◌, ℕ, ℤ, zero, suc, ◌+◌, Bool, true, false, List, [], ◌∷◌, ◌++◌, Option, Some, None, refl, sym, ap, ◌∙◌, arith, append_assoc, append-nil}
use Rattle.rpc_messages.specs.declared.from_emacs.FromEmacs.{FromEmacs}
use Rattle.rpc_messages.specs.declared.from_emacs.FromEmacs.TheVariants as mail
use Rattle.rpc_messages.specs.declared.from_emacs.ThreadName.{ThreadName}
use Rattle.rpc_messages.specs.declared.from_emacs.ThreadName.TheVariants as name
use Rattle.term_model.specs.Label.{messages_in}
use Rattle.step_model.specs.Image.{ImageState}
use Rattle.step_model.specs.Rules.{Rules}
use Rattle.session_model.specs.declared.event.Entry.{Entry}
use Rattle.session_model.specs.Arriving.{named, requests, requests_by, answers, interrupts, arrives, arrives_as_built}
use Rattle.session_model.specs.Journal.{next, run_from, run, steps_of, steps_made}
use Rattle.session_model.specs.Running.{broke_if, lends_thread, steps_once, steps}
use Rattle.session_model.specs.World.{Thread, World, Happened, repl, start, thread_at}
use Rattle.session_model.proofs.ArrivingLemmas.{arrived_either}

-- ---- one entry more

run_from_more : (rules : Rules) (w : World) (j : List Entry) (e : Entry) → (run_from rules w (j ++ e ∷ [])).after ≡ (next rules (run_from rules w j).after e).after
run_from_more rules w [] e = refl
run_from_more rules w (x ∷ j) e = run_from_more rules (next rules w x).after j e

pub run_more : (rules : Rules) (image : ImageState) (j : List Entry) (e : Entry) → run rules image (j ++ e ∷ []) ≡ (next rules (run rules image j) e).after
run_more rules image j e = run_from_more rules (start image) j e

pub steps_made_more : (j : List Entry) (e : Entry) → steps_made (j ++ e ∷ []) ≡ steps_made j + steps_of e.event
steps_made_more [] e = omega arith
steps_made_more (x ∷ j) e = omega (arith, steps_made_more j e)

-- ---- what stands beside the threads

-- what an arrival and a loan leave as it was, and how what they tell is written
pub record Aside (h : Happened) (w : World) : Type 0 where
  pub places : h.after.places ≡ w.places
  pub ended : h.after.ended ≡ w.ended
  pub closed : h.after.closed ≡ w.closed
  pub undrained : h.after.undrained ≡ w.undrained ++ messages_in h.labels

requests_aside : (w : World) (t : ℕ) (id : ℤ) (m : FromEmacs) (o : Option Thread) → Aside (requests w t id m o) w
requests_aside w t id m (Some thread) = record { places = refl; ended = refl; closed = refl; undrained = refl }
requests_aside w t id m None = record { places = refl; ended = refl; closed = refl; undrained = refl }

requests_by_aside : (w : World) (id : ℤ) (m : FromEmacs) (thread : ThreadName) → Aside (requests_by w id m thread) w
requests_by_aside w id m name.New = record { places = refl; ended = refl; closed = refl; undrained = refl }
requests_by_aside w id m name.Repl = requests_aside w repl id m (thread_at w repl)
requests_by_aside w id m (name.Id t) = requests_aside w t id m (thread_at w t)

answers_aside : (w : World) (t : ℕ) (m : FromEmacs) (o : Option Thread) → Aside (answers w t m o) w
answers_aside w t m (Some thread) = record { places = refl; ended = refl; closed = refl; undrained = refl }
answers_aside w t m None = record { places = refl; ended = refl; closed = refl; undrained = sym (append-nil w.undrained) }

interrupts_aside : (w : World) (t : ℕ) (o : Option Thread) → Aside (interrupts w t o) w
interrupts_aside w t (Some thread) = record { places = refl; ended = refl; closed = refl; undrained = sym (append-nil w.undrained) }
interrupts_aside w t None = record { places = refl; ended = refl; closed = refl; undrained = refl }

arrives_aside : (w : World) (m : FromEmacs) → Aside (arrives w m) w
arrives_aside w (mail.Rex form «package» thread id) = requests_by_aside w id (mail.Rex form «package» thread id) thread
arrives_aside w (mail.Interrupt thread) = interrupts_aside w (named w thread) (thread_at w (named w thread))
arrives_aside w (mail.ReturnString thread tag text) = answers_aside w (named w thread) (mail.ReturnString thread tag text) (thread_at w (named w thread))
arrives_aside w (mail.Return thread tag value) = answers_aside w (named w thread) (mail.Return thread tag value) (thread_at w (named w thread))
arrives_aside w (mail.Unreadable packet text) = record { places = refl; ended = refl; closed = refl; undrained = refl }

pub arrived_aside : (w : World) (m : FromEmacs) → Aside (arrives_as_built built w m) w
arrived_aside w m =
    arrived_either (λ h. Aside h w) built w m (record { places = refl; ended = refl; closed = refl; undrained = sym (append-nil w.undrained) }) (arrives_aside w m)

pub broke_says_nothing : (t n : ℕ) (may : Bool) → messages_in (broke_if t n may) ≡ []
broke_says_nothing t zero may = refl
broke_says_nothing t (suc n) true = refl
broke_says_nothing t (suc n) false = refl

pub lends_aside : (w : World) (seat t : ℕ) (o : Option Thread) → Aside (lends_thread built.levels w seat t o) w
lends_aside w seat t (Some thread) = record { places = refl; ended = refl; closed = refl; undrained = refl }
lends_aside w seat t None = record { places = refl; ended = refl; closed = refl; undrained = sym (append-nil w.undrained) }

-- ---- one step more

steps_more_after : (rules : Rules) (n t : ℕ) (w : World) → (steps rules (suc n) t w).after ≡ (steps_once rules (steps rules n t w).after t).after
steps_more_after rules zero t w = refl
steps_more_after rules (suc n) t w = steps_more_after rules n t (steps_once rules w t).after

steps_more_labels : (rules : Rules) (n t : ℕ) (w : World) → (steps rules (suc n) t w).labels ≡ (steps rules n t w).labels ++ (steps_once rules (steps rules n t w).after t).labels
steps_more_labels rules zero t w = append-nil (steps_once rules w t).labels
steps_more_labels rules (suc n) t w =
    let v : World = (steps_once rules w t).after in
    ap (λ ls. (steps_once rules w t).labels ++ ls) (steps_more_labels rules n t v)
    ∙ sym (append_assoc (steps_once rules w t).labels (steps rules n t v).labels (steps_once rules (steps rules n t v).after t).labels)

pub record StepsMore (rules : Rules) (n t : ℕ) (w : World) : Type 0 where
  pub after : (steps rules (suc n) t w).after ≡ (steps_once rules (steps rules n t w).after t).after
  pub labels : (steps rules (suc n) t w).labels ≡ (steps rules n t w).labels ++ (steps_once rules (steps rules n t w).after t).labels

pub steps_more : (rules : Rules) (n t : ℕ) (w : World) → StepsMore rules n t w
steps_more rules n t w = record { after = steps_more_after rules n t w; labels = steps_more_labels rules n t w }
