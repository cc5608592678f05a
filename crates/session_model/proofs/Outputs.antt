-- What a journal writes is drained or waits to be.
use Rattle.std.proofs.Common.{◌≡◌, ℕ, ℤ, zero, suc, Bool, true, false, List, [], ◌∷◌, ◌++◌, length, Option, Some, None, refl, sym, ap, ◌∙◌, append_assoc, append-nil}
use Rattle.rpc_messages.specs.declared.from_emacs.FromEmacs.{FromEmacs}
use Rattle.rpc_messages.specs.declared.from_emacs.FromEmacs.TheVariants as mail
use Rattle.rpc_messages.specs.declared.from_emacs.ThreadName.{ThreadName}
use Rattle.rpc_messages.specs.declared.from_emacs.ThreadName.TheVariants as name
use Rattle.rpc_messages.specs.declared.to_emacs.ToEmacs.{ToEmacs}
use Rattle.rpc_messages.specs.declared.to_emacs.ToEmacs.TheVariants as message
use Rattle.term_model.specs.Breaks.{may_open}
use Rattle.term_model.proofs.Messages.{messages_in-append}
use Rattle.term_model.specs.Term.{split}
use Rattle.term_model.specs.Label.{Label, Routed, Refused, Out}
use Rattle.step_model.specs.Image.{ImageState}
use Rattle.step_model.specs.Now.{Now}
use Rattle.step_model.specs.Rules.{Rules}
use Rattle.step_model.specs.AsBuilt.{step_as_built}
use Rattle.session_model.specs.declared.event.Entry.{Entry}
use Rattle.session_model.specs.declared.event.Event.{Event}
use Rattle.session_model.specs.declared.event.Event.TheVariants.{Arrive, End, Lend, Burst, Drain}
use Rattle.session_model.specs.Arriving.{named, not_found, requests, requests_by, answers, interrupts, arrives}
use Rattle.session_model.specs.Journal.{happens, next, run_from, run, outputs}
use Rattle.session_model.specs.Running.{broke_if, swept, lends_thread, now_of, settles, is_over, step_of, steps_once, steps, unlent, returns}
use Rattle.session_model.specs.World.{Thread, World, Happened, start, repl, thread_at, tells, silent, then, messages_in}
use Rattle.session_model.proofs.ArrivingLemmas.{arrived_either}

-- what was written so far
abbrev written : World → List ToEmacs
written w = w.drained ++ w.undrained

-- the event writes the messages that it tells, and nothing else
abbrev Writes : World → Happened → Type 0
Writes w h = written h.after ≡ written w ++ messages_in h.labels

tells_writes : (w : World) (ls : List Label) → Writes w (tells w ls)
tells_writes w ls = sym (append_assoc w.drained w.undrained (messages_in ls))

silent_writes : (w : World) → Writes w (silent w)
silent_writes w = sym (append-nil (written w))

then_writes : (w : World) (h : Happened) (further : World → Happened) → Writes w h → ((v : World) → Writes v (further v)) → Writes w (then h further)
then_writes w h further first second =
    let g : Happened = further h.after in
    second h.after ∙ ap (λ ms. ms ++ messages_in g.labels) first
    ∙ append_assoc (written w) (messages_in h.labels) (messages_in g.labels)
    ∙ ap (λ ms. written w ++ ms) (sym (messages_in-append h.labels g.labels))

requests_writes : (w : World) (t : ℕ) (id : ℤ) (m : FromEmacs) (o : Option Thread) → Writes w (requests w t id m o)
requests_writes w t id m (Some thread) = tells_writes w (Routed t w.places m ∷ [])
requests_writes w t id m None = tells_writes w (Refused w.places ∷ Out (message.InvalidRpc id (not_found t)) ∷ [])

requests_by_writes : (w : World) (id : ℤ) (m : FromEmacs) (thread : ThreadName) → Writes w (requests_by w id m thread)
requests_by_writes w id m name.New = tells_writes w (Routed (length w.threads) w.places m ∷ [])
requests_by_writes w id m name.Repl = requests_writes w repl id m (thread_at w repl)
requests_by_writes w id m (name.Id t) = requests_writes w t id m (thread_at w t)

answers_writes : (w : World) (t : ℕ) (m : FromEmacs) (o : Option Thread) → Writes w (answers w t m o)
answers_writes w t m (Some thread) = tells_writes w (Routed t w.places m ∷ [])
answers_writes w t m None = silent_writes w

interrupts_writes : (w : World) (t : ℕ) (o : Option Thread) → Writes w (interrupts w t o)
interrupts_writes w t (Some thread) = silent_writes w
interrupts_writes w t None = tells_writes w (Out (message.DebugCondition t (not_found t)) ∷ [])

arrives_writes : (w : World) (m : FromEmacs) → Writes w (arrives w m)
arrives_writes w (mail.Rex form «package» thread id) = requests_by_writes w id (mail.Rex form «package» thread id) thread
arrives_writes w (mail.Interrupt thread) = interrupts_writes w (named w thread) (thread_at w (named w thread))
arrives_writes w (mail.ReturnString thread tag text) = answers_writes w (named w thread) (mail.ReturnString thread tag text) (thread_at w (named w thread))
arrives_writes w (mail.Return thread tag value) = answers_writes w (named w thread) (mail.Return thread tag value) (thread_at w (named w thread))
arrives_writes w (mail.Unreadable packet text) = tells_writes w (Out (message.ReaderError packet text) ∷ [])

lends_writes : (most : ℕ) (w : World) (seat t : ℕ) (o : Option Thread) → Writes w (lends_thread most w seat t o)
lends_writes most w seat t (Some thread) = tells_writes w (broke_if t thread.interrupts (may_open most (split thread.term).0))
lends_writes most w seat t None = silent_writes w

settles_writes : (w : World) (t : ℕ) (thread : Thread) (n : Now) (over : Bool) → Writes w (settles w t thread n over)
settles_writes w t thread n true = tells_writes w (n.labels ++ swept t n.mailbox)
settles_writes w t thread n false = tells_writes w n.labels

step_of_writes : (rules : Rules) (w : World) (t : ℕ) (o : Option Thread) → Writes w (step_of rules w t o)
step_of_writes rules w t (Some thread) = let n : Now = step_as_built rules.built rules (now_of w t thread) in settles_writes w t thread n (is_over t n)
step_of_writes rules w t None = silent_writes w

steps_writes : (rules : Rules) (n t : ℕ) (w : World) → Writes w (steps rules n t w)
steps_writes rules zero t w = silent_writes w
steps_writes rules (suc n) t w =
    then_writes w (steps_once rules w t) (steps rules n t) (step_of_writes rules w t (thread_at w t)) (steps_writes rules n t)

unlent_writes : (w : World) (t : ℕ) (o : Option Thread) → Writes w (silent (unlent w t o))
unlent_writes w t (Some thread) = silent_writes w
unlent_writes w t None = silent_writes w

happens_writes : (rules : Rules) (w : World) (seat : ℕ) (e : Event) → Writes w (happens rules w seat e)
happens_writes rules w seat (Arrive m) = arrived_either (Writes w) rules.built w m (silent_writes w) (arrives_writes w m)
happens_writes rules w seat End = silent_writes w
happens_writes rules w seat (Lend t) = lends_writes rules.built.levels w seat t (thread_at w t)
happens_writes rules w seat (Burst t n) =
    then_writes w (steps rules n t w) (returns t) (steps_writes rules n t w) (λ v. unlent_writes v t (thread_at v t))
happens_writes rules w seat (Drain k) = refl

run_writes : (rules : Rules) (j : List Entry) (w : World) → Writes w (run_from rules w j)
run_writes rules [] w = silent_writes w
run_writes rules (e ∷ j) w =
    then_writes w (next rules w e) (λ v. run_from rules v j) (happens_writes rules w e.seat e.event) (run_writes rules j)

pub outputs_are_written : (rules : Rules) (image : ImageState) (j : List Entry) → outputs rules image j ≡ written (run rules image j)
outputs_are_written rules image j = sym (run_writes rules j (start image))
