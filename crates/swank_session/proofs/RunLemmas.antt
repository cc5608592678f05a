-- What one entry more does to a run, and what it leaves as it was.
use Rattle.std.proofs.Common.{◌≡◌, ℕ, ℤ, zero, suc, ◌+◌, Bool, true, false, List, [], ◌∷◌, ◌++◌, Option, Some, None, refl, ap, ◌∙◌, append-nil, arith}
use Rattle.std.proofs.lemmas.Option.{none-some}
use Rattle.std.specs.Prelude.{slice_set}
use Rattle.rpc_messages.specs.declared.from_emacs.FromEmacs.{FromEmacs}
use Rattle.rpc_messages.specs.declared.from_emacs.FromEmacs.TheVariants as mail
use Rattle.rpc_messages.specs.declared.from_emacs.ThreadName.{ThreadName}
use Rattle.rpc_messages.specs.declared.from_emacs.ThreadName.TheVariants as name
use Rattle.term_model.specs.Breaks.{may_open}
use Rattle.term_model.specs.Label.{Label}
use Rattle.term_model.specs.Term.{split}
use Rattle.step_model.specs.Built.{Built}
use Rattle.step_model.specs.Image.{ImageState}
use Rattle.step_model.specs.Now.{Now}
use Rattle.step_model.specs.Rules.{Rules}
use Rattle.step_model.specs.AsBuilt.{step_as_built}
use Rattle.session_model.specs.declared.event.Entry.{Entry}
use Rattle.session_model.specs.declared.event.Event.{Event}
use Rattle.session_model.specs.declared.event.Event.TheVariants.{Arrive, End, Lend, Burst, Drain}
use Rattle.session_model.specs.Arriving.{named, requests, requests_by, answers, interrupts, arrives, arrives_as_built}
use Rattle.session_model.specs.Journal.{arrived, arrivals, next, run, run_from, steps_of, steps_made}
use Rattle.session_model.specs.Running.{broke_if, lends_thread, now_of, settles, is_over, step_of, steps_once, steps, unlent, bursts}
use Rattle.session_model.specs.World.{Thread, World, start, repl, thread_in, thread_at, messages_in}
use Rattle.session_model.proofs.ArrivingLemmas.{arrived_either}

-- ---- one entry more

run_from-last : (rules : Rules) (j : List Entry) (e : Entry) (w : World) → (run_from rules w (j ++ e ∷ [])).after ≡ (next rules (run_from rules w j).after e).after
run_from-last rules [] e w = refl
run_from-last rules (x ∷ j) e w = run_from-last rules j e (next rules w x).after

pub run-last : (rules : Rules) (image : ImageState) (j : List Entry) (e : Entry) → run rules image (j ++ e ∷ []) ≡ (next rules (run rules image j) e).after
run-last rules image j e = run_from-last rules j e (start image)

pub steps_made-last : (j : List Entry) (e : Entry) → steps_made (j ++ e ∷ []) ≡ steps_made j + steps_of e.event
steps_made-last [] e = plus_zero (steps_of e.event)
  where
    plus_zero : (n : ℕ) → n + 0 ≡ 0 + n
    plus_zero n = omega arith
steps_made-last (x ∷ j) e = ap (λ n. steps_of x.event + n) (steps_made-last j e) ∙ regroup (steps_of x.event) (steps_made j) (steps_of e.event)
  where
    regroup : (a b c : ℕ) → a + (b + c) ≡ a + b + c
    regroup a b c = omega arith

arrived-append : (e : Event) (a b : List FromEmacs) → arrived e (a ++ b) ≡ arrived e a ++ b
arrived-append (Arrive m) a b = refl
arrived-append End a b = refl
arrived-append (Lend t) a b = refl
arrived-append (Burst t n) a b = refl
arrived-append (Drain k) a b = refl

pub arrivals-last : (j : List Entry) (e : Entry) → arrivals (j ++ e ∷ []) ≡ arrivals j ++ arrived e.event []
arrivals-last [] e = refl
arrivals-last (x ∷ j) e = ap (arrived x.event) (arrivals-last j e) ∙ arrived-append x.event (arrivals j) (arrived e.event [])

-- ---- what was drained stays

requests_drained : (w : World) (t : ℕ) (id : ℤ) (m : FromEmacs) (o : Option Thread) → (requests w t id m o).after.drained ≡ w.drained
requests_drained w t id m (Some thread) = refl
requests_drained w t id m None = refl

requests_by_drained : (w : World) (id : ℤ) (m : FromEmacs) (thread : ThreadName) → (requests_by w id m thread).after.drained ≡ w.drained
requests_by_drained w id m name.New = refl
requests_by_drained w id m name.Repl = requests_drained w repl id m (thread_at w repl)
requests_by_drained w id m (name.Id t) = requests_drained w t id m (thread_at w t)

answers_drained : (w : World) (t : ℕ) (m : FromEmacs) (o : Option Thread) → (answers w t m o).after.drained ≡ w.drained
answers_drained w t m (Some thread) = refl
answers_drained w t m None = refl

interrupts_drained : (w : World) (t : ℕ) (o : Option Thread) → (interrupts w t o).after.drained ≡ w.drained
interrupts_drained w t (Some thread) = refl
interrupts_drained w t None = refl

arrives_drained : (w : World) (m : FromEmacs) → (arrives w m).after.drained ≡ w.drained
arrives_drained w (mail.Rex form «package» thread id) = requests_by_drained w id (mail.Rex form «package» thread id) thread
arrives_drained w (mail.Interrupt thread) = interrupts_drained w (named w thread) (thread_at w (named w thread))
arrives_drained w (mail.ReturnString thread tag text) = answers_drained w (named w thread) (mail.ReturnString thread tag text) (thread_at w (named w thread))
arrives_drained w (mail.Return thread tag value) = answers_drained w (named w thread) (mail.Return thread tag value) (thread_at w (named w thread))
arrives_drained w (mail.Unreadable packet text) = refl

pub arrived_drained : (built : Built) (w : World) (m : FromEmacs) → (arrives_as_built built w m).after.drained ≡ w.drained
arrived_drained built w m = arrived_either (λ h. h.after.drained ≡ w.drained) built w m refl (arrives_drained w m)

settles_drained : (w : World) (t : ℕ) (thread : Thread) (n : Now) (over : Bool) → (settles w t thread n over).after.drained ≡ w.drained
settles_drained w t thread n true = refl
settles_drained w t thread n false = refl

step_drained : (rules : Rules) (w : World) (t : ℕ) (o : Option Thread) → (step_of rules w t o).after.drained ≡ w.drained
step_drained rules w t (Some thread) = let n : Now = step_as_built rules.built rules (now_of w t thread) in settles_drained w t thread n (is_over t n)
step_drained rules w t None = refl

steps_drained : (rules : Rules) (n t : ℕ) (w : World) → (steps rules n t w).after.drained ≡ w.drained
steps_drained rules zero t w = refl
steps_drained rules (suc n) t w = steps_drained rules n t (steps_once rules w t).after ∙ step_drained rules w t (thread_at w t)

unlent_drained : (w : World) (t : ℕ) (o : Option Thread) → (unlent w t o).drained ≡ w.drained
unlent_drained w t (Some thread) = refl
unlent_drained w t None = refl

pub bursts_drained : (rules : Rules) (w : World) (t n : ℕ) → (bursts rules w t n).after.drained ≡ w.drained
bursts_drained rules w t n = let v : World = (steps rules n t w).after in unlent_drained v t (thread_at v t) ∙ steps_drained rules n t w

-- ---- a loan writes nothing

pub record Lends (v w : World) : Type 0 where
  pub drained : v.drained ≡ w.drained
  pub undrained : v.undrained ≡ w.undrained
  pub closed : v.closed ≡ w.closed

silent_break : (t n : ℕ) (b : Bool) → messages_in (broke_if t n b) ≡ []
silent_break t zero b = refl
silent_break t (suc n) true = refl
silent_break t (suc n) false = refl

pub lends_silent : (most : ℕ) (w : World) (seat t : ℕ) (o : Option Thread) → Lends (lends_thread most w seat t o).after w
lends_silent most w seat t (Some thread) =
    let told : List Label = broke_if t thread.interrupts (may_open most (split thread.term).0) in
    record { drained = refl; undrained = ap (λ ms. w.undrained ++ ms) (silent_break t thread.interrupts (may_open most (split thread.term).0)) ∙ append-nil w.undrained; closed = refl }
lends_silent most w seat t None = record { drained = refl; undrained = refl; closed = refl }

-- ---- no thread has the number 0

-- the first place stands empty
abbrev pub StartsEmpty : List (Option Thread) → Type 0
StartsEmpty (None ∷ threads) = Unit {0}
StartsEmpty _ = ⊥

set_empty : (threads : List (Option Thread)) (t : ℕ) (thread : Thread) (new : Option Thread) → thread_in threads t ≡ Some thread → StartsEmpty threads → StartsEmpty (slice_set threads t new)
set_empty (None ∷ threads) zero thread new is h = absurd (none-some thread is)
set_empty (None ∷ threads) (suc t) thread new is h = tt
set_empty (Some x ∷ threads) t thread new is h = absurd h
set_empty [] t thread new is h = absurd h

add_empty : (threads more : List (Option Thread)) → StartsEmpty threads → StartsEmpty (threads ++ more)
add_empty (None ∷ threads) more h = tt
add_empty (Some x ∷ threads) more h = absurd h
add_empty [] more h = absurd h

requests_empty : (w : World) (t : ℕ) (id : ℤ) (m : FromEmacs) (o : Option Thread) → thread_at w t ≡ o → StartsEmpty w.threads → StartsEmpty (requests w t id m o).after.threads
requests_empty w t id m (Some thread) is h = set_empty w.threads t thread _ is h
requests_empty w t id m None is h = h

requests_by_empty : (w : World) (id : ℤ) (m : FromEmacs) (thread : ThreadName) → StartsEmpty w.threads → StartsEmpty (requests_by w id m thread).after.threads
requests_by_empty w id m name.New h = add_empty w.threads _ h
requests_by_empty w id m name.Repl h = requests_empty w repl id m (thread_at w repl) refl h
requests_by_empty w id m (name.Id t) h = requests_empty w t id m (thread_at w t) refl h

answers_empty : (w : World) (t : ℕ) (m : FromEmacs) (o : Option Thread) → thread_at w t ≡ o → StartsEmpty w.threads → StartsEmpty (answers w t m o).after.threads
answers_empty w t m (Some thread) is h = set_empty w.threads t thread _ is h
answers_empty w t m None is h = h

interrupts_empty : (w : World) (t : ℕ) (o : Option Thread) → thread_at w t ≡ o → StartsEmpty w.threads → StartsEmpty (interrupts w t o).after.threads
interrupts_empty w t (Some thread) is h = set_empty w.threads t thread _ is h
interrupts_empty w t None is h = h

arrives_empty : (w : World) (m : FromEmacs) → StartsEmpty w.threads → StartsEmpty (arrives w m).after.threads
arrives_empty w (mail.Rex form «package» thread id) h = requests_by_empty w id (mail.Rex form «package» thread id) thread h
arrives_empty w (mail.Interrupt thread) h = interrupts_empty w (named w thread) (thread_at w (named w thread)) refl h
arrives_empty w (mail.ReturnString thread tag text) h = answers_empty w (named w thread) (mail.ReturnString thread tag text) (thread_at w (named w thread)) refl h
arrives_empty w (mail.Return thread tag value) h = answers_empty w (named w thread) (mail.Return thread tag value) (thread_at w (named w thread)) refl h
arrives_empty w (mail.Unreadable packet text) h = h

lends_empty : (most : ℕ) (w : World) (seat t : ℕ) (o : Option Thread) → thread_at w t ≡ o → StartsEmpty w.threads → StartsEmpty (lends_thread most w seat t o).after.threads
lends_empty most w seat t (Some thread) is h = set_empty w.threads t thread _ is h
lends_empty most w seat t None is h = h

settles_empty : (w : World) (t : ℕ) (thread : Thread) (n : Now) (over : Bool) → thread_at w t ≡ Some thread → StartsEmpty w.threads → StartsEmpty (settles w t thread n over).after.threads
settles_empty w t thread n true is h = set_empty w.threads t thread _ is h
settles_empty w t thread n false is h = set_empty w.threads t thread _ is h

step_empty : (rules : Rules) (w : World) (t : ℕ) (o : Option Thread) → thread_at w t ≡ o → StartsEmpty w.threads → StartsEmpty (step_of rules w t o).after.threads
step_empty rules w t (Some thread) is h = let n : Now = step_as_built rules.built rules (now_of w t thread) in settles_empty w t thread n (is_over t n) is h
step_empty rules w t None is h = h

steps_empty : (rules : Rules) (n t : ℕ) (w : World) → StartsEmpty w.threads → StartsEmpty (steps rules n t w).after.threads
steps_empty rules zero t w h = h
steps_empty rules (suc n) t w h = steps_empty rules n t (steps_once rules w t).after (step_empty rules w t (thread_at w t) refl h)

unlent_empty : (w : World) (t : ℕ) (o : Option Thread) → thread_at w t ≡ o → StartsEmpty w.threads → StartsEmpty (unlent w t o).threads
unlent_empty w t (Some thread) is h = set_empty w.threads t thread _ is h
unlent_empty w t None is h = h

next_empty : (rules : Rules) (w : World) (seat : ℕ) (e : Event) → StartsEmpty w.threads → StartsEmpty (next rules w (record { seat = seat; event = e })).after.threads
next_empty rules w seat (Arrive m) h = arrived_either (λ x. StartsEmpty x.after.threads) rules.built w m h (arrives_empty w m h)
next_empty rules w seat End h = h
next_empty rules w seat (Lend t) h = lends_empty rules.built.levels w seat t (thread_at w t) refl h
next_empty rules w seat (Burst t n) h = let v : World = (steps rules n t w).after in unlent_empty v t (thread_at v t) refl (steps_empty rules n t w h)
next_empty rules w seat (Drain k) h = h

run_from_empty : (rules : Rules) (j : List Entry) (w : World) → StartsEmpty w.threads → StartsEmpty (run_from rules w j).after.threads
run_from_empty rules [] w h = h
run_from_empty rules (e ∷ j) w h = run_from_empty rules j (next rules w e).after (next_empty rules w e.seat e.event h)

pub run_empty : (rules : Rules) (image : ImageState) (j : List Entry) → StartsEmpty (run rules image j).threads
run_empty rules image j = run_from_empty rules j (start image) tt
