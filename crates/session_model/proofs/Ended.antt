-- Steps leave the end of the input as it was, and so do arrivals.
use Rattle.std.proofs.Common.{◌≡◌, ℕ, ℤ, zero, suc, Bool, true, false, Option, Some, None, refl, ◌∙◌}
use Rattle.rpc_messages.specs.declared.from_emacs.FromEmacs.{FromEmacs}
use Rattle.rpc_messages.specs.declared.from_emacs.FromEmacs.TheVariants as mail
use Rattle.rpc_messages.specs.declared.from_emacs.ThreadName.{ThreadName}
use Rattle.rpc_messages.specs.declared.from_emacs.ThreadName.TheVariants as name
use Rattle.step_model.specs.Built.{Built}
use Rattle.step_model.specs.Now.{Now}
use Rattle.step_model.specs.Rules.{Rules}
use Rattle.step_model.specs.AsBuilt.{step_as_built}
use Rattle.session_model.specs.Arriving.{named, requests, requests_by, answers, interrupts, arrives, arrives_as_built}
use Rattle.session_model.specs.Running.{lends_thread, now_of, settles, is_over, step_of, steps_once, steps, unlent, bursts}
use Rattle.session_model.specs.World.{Thread, World, repl, thread_at}
use Rattle.session_model.proofs.ArrivingLemmas.{arrived_either}

requests_ended : (w : World) (t : ℕ) (id : ℤ) (m : FromEmacs) (o : Option Thread) → (requests w t id m o).after.ended ≡ w.ended
requests_ended w t id m (Some thread) = refl
requests_ended w t id m None = refl

requests_by_ended : (w : World) (id : ℤ) (m : FromEmacs) (thread : ThreadName) → (requests_by w id m thread).after.ended ≡ w.ended
requests_by_ended w id m name.New = refl
requests_by_ended w id m name.Repl = requests_ended w repl id m (thread_at w repl)
requests_by_ended w id m (name.Id t) = requests_ended w t id m (thread_at w t)

answers_ended : (w : World) (t : ℕ) (m : FromEmacs) (o : Option Thread) → (answers w t m o).after.ended ≡ w.ended
answers_ended w t m (Some thread) = refl
answers_ended w t m None = refl

interrupts_ended : (w : World) (t : ℕ) (o : Option Thread) → (interrupts w t o).after.ended ≡ w.ended
interrupts_ended w t (Some thread) = refl
interrupts_ended w t None = refl

arrives_ended : (w : World) (m : FromEmacs) → (arrives w m).after.ended ≡ w.ended
arrives_ended w (mail.Rex form «package» thread id) = requests_by_ended w id (mail.Rex form «package» thread id) thread
arrives_ended w (mail.Interrupt thread) = interrupts_ended w (named w thread) (thread_at w (named w thread))
arrives_ended w (mail.ReturnString thread tag text) = answers_ended w (named w thread) (mail.ReturnString thread tag text) (thread_at w (named w thread))
arrives_ended w (mail.Return thread tag value) = answers_ended w (named w thread) (mail.Return thread tag value) (thread_at w (named w thread))
arrives_ended w (mail.Unreadable packet text) = refl

pub arrived_ended : (built : Built) (w : World) (m : FromEmacs) → (arrives_as_built built w m).after.ended ≡ w.ended
arrived_ended built w m = arrived_either (λ h. h.after.ended ≡ w.ended) built w m refl (arrives_ended w m)

pub lends_ended : (most : ℕ) (w : World) (seat t : ℕ) (o : Option Thread) → (lends_thread most w seat t o).after.ended ≡ w.ended
lends_ended most w seat t (Some thread) = refl
lends_ended most w seat t None = refl

settles_ended : (w : World) (t : ℕ) (thread : Thread) (n : Now) (over : Bool) → (settles w t thread n over).after.ended ≡ w.ended
settles_ended w t thread n true = refl
settles_ended w t thread n false = refl

step_ended : (rules : Rules) (w : World) (t : ℕ) (o : Option Thread) → (step_of rules w t o).after.ended ≡ w.ended
step_ended rules w t (Some thread) = let n : Now = step_as_built rules.built rules (now_of w t thread) in settles_ended w t thread n (is_over t n)
step_ended rules w t None = refl

steps_ended : (rules : Rules) (n t : ℕ) (w : World) → (steps rules n t w).after.ended ≡ w.ended
steps_ended rules zero t w = refl
steps_ended rules (suc n) t w = steps_ended rules n t (steps_once rules w t).after ∙ step_ended rules w t (thread_at w t)

unlent_ended : (w : World) (t : ℕ) (o : Option Thread) → (unlent w t o).ended ≡ w.ended
unlent_ended w t (Some thread) = refl
unlent_ended w t None = refl

pub bursts_ended : (rules : Rules) (w : World) (t n : ℕ) → (bursts rules w t n).after.ended ≡ w.ended
bursts_ended rules w t n =
    let v : World = (steps rules n t w).after in
    unlent_ended v t (thread_at v t) ∙ steps_ended rules n t w
