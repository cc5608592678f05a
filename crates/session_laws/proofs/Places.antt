-- An event by itself leaves the count of entries.
use Rattle.std.proofs.Common.{◌≡◌, ℕ, ℤ, zero, suc, Bool, true, false, Option, Some, None, refl, ◌∙◌}
use Rattle.rpc_messages.specs.declared.from_emacs.FromEmacs.{FromEmacs}
use Rattle.rpc_messages.specs.declared.from_emacs.FromEmacs.TheVariants as mail
use Rattle.rpc_messages.specs.declared.from_emacs.ThreadName.{ThreadName}
use Rattle.rpc_messages.specs.declared.from_emacs.ThreadName.TheVariants as name
use Rattle.step_model.specs.Now.{Now}
use Rattle.step_model.specs.Rules.{Rules}
use Rattle.step_model.specs.AsBuilt.{step_as_built}
use Rattle.session_model.specs.declared.event.Event.{Event}
use Rattle.session_model.specs.declared.event.Event.TheVariants.{Arrive, End, Lend, Burst, Drain}
use Rattle.session_model.specs.Arriving.{answers, arrives, interrupts, named, requests, requests_by}
use Rattle.session_model.specs.Journal.{happens}
use Rattle.session_model.specs.Running.{is_over, lends_thread, now_of, settles, step_of, steps, steps_once, unlent}
use Rattle.session_model.specs.World.{Thread, World, repl, thread_at}
use Rattle.session_model.proofs.ArrivingLemmas.{arrived_either}

requests_places : (w : World) (t : ℕ) (id : ℤ) (m : FromEmacs) (o : Option Thread) → (requests w t id m o).after.places ≡ w.places
requests_places w t id m (Some thread) = refl
requests_places w t id m None = refl

requests_by_places : (w : World) (id : ℤ) (m : FromEmacs) (thread : ThreadName) → (requests_by w id m thread).after.places ≡ w.places
requests_by_places w id m name.New = refl
requests_by_places w id m name.Repl = requests_places w repl id m (thread_at w repl)
requests_by_places w id m (name.Id t) = requests_places w t id m (thread_at w t)

answers_places : (w : World) (t : ℕ) (m : FromEmacs) (o : Option Thread) → (answers w t m o).after.places ≡ w.places
answers_places w t m (Some thread) = refl
answers_places w t m None = refl

interrupts_places : (w : World) (t : ℕ) (o : Option Thread) → (interrupts w t o).after.places ≡ w.places
interrupts_places w t (Some thread) = refl
interrupts_places w t None = refl

arrives_places : (w : World) (m : FromEmacs) → (arrives w m).after.places ≡ w.places
arrives_places w (mail.Rex form p thread id) = requests_by_places w id (mail.Rex form p thread id) thread
arrives_places w (mail.Interrupt thread) = interrupts_places w (named w thread) (thread_at w (named w thread))
arrives_places w (mail.ReturnString thread tag text) = answers_places w (named w thread) (mail.ReturnString thread tag text) (thread_at w (named w thread))
arrives_places w (mail.Return thread tag value) = answers_places w (named w thread) (mail.Return thread tag value) (thread_at w (named w thread))
arrives_places w (mail.Unreadable packet text) = refl

lends_places : (most : ℕ) (w : World) (seat t : ℕ) (o : Option Thread) → (lends_thread most w seat t o).after.places ≡ w.places
lends_places most w seat t (Some thread) = refl
lends_places most w seat t None = refl

settles_places : (w : World) (t : ℕ) (thread : Thread) (n : Now) (over : Bool) → (settles w t thread n over).after.places ≡ w.places
settles_places w t thread n true = refl
settles_places w t thread n false = refl

step_places : (rules : Rules) (w : World) (t : ℕ) (o : Option Thread) → (step_of rules w t o).after.places ≡ w.places
step_places rules w t (Some thread) = let n : Now = step_as_built rules.built rules (now_of w t thread) in settles_places w t thread n (is_over t n)
step_places rules w t None = refl

steps_places : (rules : Rules) (n t : ℕ) (w : World) → (steps rules n t w).after.places ≡ w.places
steps_places rules zero t w = refl
steps_places rules (suc n) t w = steps_places rules n t (steps_once rules w t).after ∙ step_places rules w t (thread_at w t)

unlent_places : (w : World) (t : ℕ) (o : Option Thread) → (unlent w t o).places ≡ w.places
unlent_places w t (Some thread) = refl
unlent_places w t None = refl

pub happens_places : (rules : Rules) (w : World) (seat : ℕ) (e : Event) → (happens rules w seat e).after.places ≡ w.places
happens_places rules w seat (Arrive m) = arrived_either (λ h. h.after.places ≡ w.places) rules.built w m refl (arrives_places w m)
happens_places rules w seat End = refl
happens_places rules w seat (Lend t) = lends_places rules.built.levels w seat t (thread_at w t)
happens_places rules w seat (Burst t n) =
    let v : World = (steps rules n t w).after in unlent_places v t (thread_at v t) ∙ steps_places rules n t w
happens_places rules w seat (Drain k) = refl
