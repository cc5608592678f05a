-- Steps of one thread, one after another, and what they do to a session's world.
use Rattle.std.proofs.Common.{◌≡◌, ℕ, zero, suc, ◌+◌, ◌-◌, ◌<◌, Bool, true, false, List, [], ◌∷◌, ◌++◌, Option, Some, None, refl, sym, ap, ◌∙◌, subst, arith, append_assoc, append-nil, add-one}
use Rattle.std.specs.Prelude.{if◌then◌else◌, slice_set}
use Rattle.std.proofs.lemmas.List.{set-set}
use Rattle.rpc_messages.specs.declared.from_emacs.FromEmacs.TheVariants as mail
use Rattle.rpc_messages.specs.declared.to_emacs.Returned.TheVariants as returned
use Rattle.rpc_messages.specs.declared.to_emacs.ToEmacs.{ToEmacs}
use Rattle.rpc_messages.specs.declared.to_emacs.ToEmacs.TheVariants as message
use Rattle.term_model.specs.Breaks.{max_levels}
use Rattle.term_model.specs.declared.focus.Focus.{Focus}
use Rattle.term_model.specs.Label.{Label, messages_in}
use Rattle.term_model.specs.Term.{Context, At, plug, split-plug}
use Rattle.term_model.proofs.Messages.{messages_in-append}
use Rattle.lisp_frames.specs.Stack.{StackState}
use Rattle.lisp_step.specs.Machine as machine
use Rattle.server_rules.specs.Beside.{Beside, beside}
use Rattle.server_rules.specs.Rules.{rules}
use Rattle.server_rules.specs.Simple.{are_simple}
use Rattle.step_model.specs.Image.{ImageState}
use Rattle.step_model.specs.Now.{Mailbox, Now}
use Rattle.step_model.specs.AsBuilt.{step_as_built}
use Rattle.session_model.specs.Arriving.{workers_without}
use Rattle.session_model.specs.Legal.{can_step, goes_on, may_step}
use Rattle.session_model.specs.Pipe.{burst_length}
use Rattle.session_model.specs.Running.{after_step, bursts, is_over, now_of, settles, step_of, steps, steps_once, swept, unlent, with_session}
use Rattle.session_model.specs.World.{Thread, World, Happened, live, thread_in, thread_at}
use Rattle.swank_core.specs.Bursts.{Shows, swept_from, moved, Steps, IsStep, Going, Runs, IsRun, IsBurst}
use Rattle.swank_core.specs.Threads.{number_of, thread_of}
use Rattle.swank_core.specs.declared.record.Record.{Record}
use Rattle.swank_core.proofs.RunLemmas.{steps_more, StepsMore}
use Rattle.swank_core.proofs.PlacedLemmas.{live_within, thread_set_same}

-- ---- one step

-- what stands beside a thread
abbrev beside_of : World → Beside
beside_of w = record { tag = w.tag; inspected = w.inspected; threads = live w; closed = w.closed }

-- what the next step reads, where the thread is taken apart
abbrev now_at : World → ℕ → Context × Focus → ℕ → Mailbox → ImageState → Now
now_at w t s serial mailbox image = record {
  thread = t;
  context = s.0;
  redex = s.1;
  serial = serial;
  mailbox = mailbox;
  image = image;
  tag = w.tag;
  inspected = w.inspected;
  threads = live w;
  most = max_levels;
  labels = [];
  over = false;
  closed = w.closed;
}

pub same_now : (w : World) (r : Record) (image : ImageState) → w.image ≡ image → now_of w (number_of r) (thread_of r) ≡ machine.now_of (number_of r) r.machine.stack r.mailbox image (beside_of w)
same_now w r image e =
    ap (λ s. now_at w (number_of r) s r.machine.stack.serial r.mailbox w.image) (split-plug r.machine.stack.context r.machine.stack.redex)
    ∙ ap (λ i. now_at w (number_of r) (r.machine.stack.context, r.machine.stack.redex) r.machine.stack.serial r.mailbox i) e

-- the messages that sweep a mailbox don't name the thread
swept_messages : (t u : ℕ) (mb : Mailbox) → messages_in (swept t mb) ≡ messages_in (swept u mb)
swept_messages t u [] = refl
swept_messages t u ((i, mail.Rex form «package» thread id) ∷ mb) = ap (λ ms. message.Return id returned.Abort ∷ ms) (swept_messages t u mb)
swept_messages t u ((i, mail.Interrupt thread) ∷ mb) = swept_messages t u mb
swept_messages t u ((i, mail.ReturnString thread tag text) ∷ mb) = swept_messages t u mb
swept_messages t u ((i, mail.Return thread tag value) ∷ mb) = swept_messages t u mb
swept_messages t u ((i, mail.Unreadable packet text) ∷ mb) = swept_messages t u mb

-- what the machine left after a step whose outcome is n
pub record Left (n : Now) (old new : Record) (image : ImageState) (before after : List ToEmacs) : Type 0 where
  pub stack : new.machine.stack ≡ machine.stack_of n
  pub mailbox : new.mailbox ≡ n.mailbox
  pub interrupts : new.interrupts ≡ old.interrupts
  pub lent : new.lent ≡ old.lent
  pub image_is : image ≡ n.image
  pub outs : after ≡ before ++ messages_in n.labels

after_is : (n : Now) (old new : Record) (image : ImageState) (before after : List ToEmacs) → Left n old new image before after → after_step (thread_of old) n ≡ thread_of new
after_is n old new image before after l =
    ap (λ (s : StackState). record { term = plug s.context (At s.redex); serial = s.serial; mailbox = n.mailbox; interrupts = old.interrupts; lent = old.lent }) (sym l.stack)
    ∙ ap (λ (mb : Mailbox). record { term = plug new.machine.stack.context (At new.machine.stack.redex); serial = new.machine.stack.serial; mailbox = mb; interrupts = old.interrupts; lent = old.lent }) (sym l.mailbox)
    ∙ ap (λ k. record { term = plug new.machine.stack.context (At new.machine.stack.redex); serial = new.machine.stack.serial; mailbox = new.mailbox; interrupts = k; lent = old.lent }) (sym l.interrupts)
    ∙ ap (λ (o : Option ℕ). record { term = plug new.machine.stack.context (At new.machine.stack.redex); serial = new.machine.stack.serial; mailbox = new.mailbox; interrupts = new.interrupts; lent = o }) (sym l.lent)

session_is : (w : World) (n : Now) → beside n ≡ beside_of w → with_session w n ≡ record w { image = n.image }
session_is w n e = ap (λ (b : Beside). record w { image = n.image; tag = b.tag; inspected = b.inspected; closed = b.closed }) e

settled : (w : World) (n : Now) (old new : Record) (image : ImageState) (before after : List ToEmacs) (over : Bool) → beside n ≡ beside_of w → Left n old new image before after
    → steps_once rules w (number_of old) ≡ settles w (number_of old) (thread_of old) n over → Steps w old before new image after over
settled w n old new image before after false e l is =
    let t = number_of old in
    let labels : (steps_once rules w t).labels ≡ n.labels = ap (λ (h : Happened). h.labels) is in
    record {
      world =
          ap (λ (h : Happened). h.after) is
          ∙ ap (λ (v : World). record v { threads = slice_set v.threads t (Some (after_step (thread_of old) n)); undrained = v.undrained ++ messages_in n.labels }) (session_is w n e)
          ∙ ap (λ (th : Thread). moved w t (Some th) n.image w.workers n.labels) (after_is n old new image before after l)
          ∙ ap (λ (i : ImageState). moved w t (Some (thread_of new)) i w.workers n.labels) (sym l.image_is)
          ∙ ap (moved w t (Some (thread_of new)) image w.workers) (sym labels);
      outs = l.outs ∙ ap (λ ls. before ++ messages_in ls) (sym labels);
    }
settled w n old new image before after true e l is =
    let t = number_of old in
    let labels : (steps_once rules w t).labels ≡ n.labels ++ swept t n.mailbox = ap (λ (h : Happened). h.labels) is in
    record {
      world =
          ap (λ (h : Happened). h.after) is
          ∙ ap (λ (v : World). record v { workers = workers_without t w.workers; threads = slice_set v.threads t None; undrained = v.undrained ++ messages_in (n.labels ++ swept t n.mailbox) }) (session_is w n e)
          ∙ ap (λ (i : ImageState). moved w t None i (workers_without t w.workers) (n.labels ++ swept t n.mailbox)) (sym l.image_is)
          ∙ ap (moved w t None image (workers_without t w.workers)) (sym labels);
      outs =
          ap (λ xs. xs ++ swept_from new.mailbox) l.outs
          ∙ append_assoc before (messages_in n.labels) (swept_from new.mailbox)
          ∙ ap (λ xs. before ++ (messages_in n.labels ++ xs)) (ap swept_from l.mailbox ∙ swept_messages 0 t n.mailbox)
          ∙ ap (λ xs. before ++ xs) (sym (messages_in-append n.labels (swept t n.mailbox)))
          ∙ ap (λ ls. before ++ messages_in ls) (sym labels);
    }

-- a step of the machine is a step of the world that shows its thread
pub one_step : ((n : Now) → are_simple n.context ≡ true → beside (step_as_built rules.built rules n) ≡ beside n) → (w : World) (old new : Record) (image later : ImageState) (before after : List ToEmacs) (over : Bool)
    → are_simple old.machine.stack.context ≡ true → Shows w old image
    → ((b : Beside) → Left (step_as_built rules.built rules (machine.now_of (number_of old) old.machine.stack old.mailbox image b)) old new later before after)
    → ((b : Beside) → over ≡ is_over (number_of old) (step_as_built rules.built rules (machine.now_of (number_of old) old.machine.stack old.mailbox image b)))
    → Steps w old before new later after over
one_step leaves w old new image later before after over simple s left is =
    let t = number_of old in
    let now : Now = machine.now_of t old.machine.stack old.mailbox image (beside_of w) in
    let n : Now = step_as_built rules.built rules now in
    settled w n old new later before after over (leaves now simple) (left (beside_of w))
    (ap (step_of rules w t) s.at
    ∙ ap (λ (x : Now). settles w t (thread_of old) (step_as_built rules.built rules x) (is_over t (step_as_built rules.built rules x))) (same_now w old image s.image_is)
    ∙ ap (settles w t (thread_of old) n) (sym (is (beside_of w))))

-- ---- one step after another

set_there : (threads : List (Option Thread)) (t : ℕ) (thread : Thread) → thread_in threads t ≡ Some thread → slice_set threads t (Some thread) ≡ threads
set_there [] t thread e = refl
set_there (x ∷ threads) zero thread e = ap (λ y. y ∷ threads) (is x e)
  where
    is : (x : Option Thread) → x ≡ Some thread → Some thread ≡ x
    is x e = sym e
set_there (x ∷ threads) (suc t) thread e = ap (λ ys. x ∷ ys) (set_there threads t thread e)

moved_same : (w : World) (t : ℕ) (thread : Thread) (image : ImageState) → thread_at w t ≡ Some thread → w.image ≡ image → moved w t (Some thread) image w.workers [] ≡ w
moved_same w t thread image at is =
    ap (λ (ts : List (Option Thread)). record w { image = image; threads = ts; undrained = w.undrained ++ [] }) (set_there w.threads t thread at)
    ∙ ap (λ (us : List ToEmacs). record w { image = image; undrained = us }) (append-nil w.undrained)
    ∙ ap (λ (i : ImageState). record w { image = i }) (sym is)

moved_twice : (w : World) (t : ℕ) (a b : Option Thread) (i j : ImageState) (ws vs : List ℕ) (k l : List Label) → moved (moved w t a i ws k) t b j vs l ≡ moved w t b j vs (k ++ l)
moved_twice w t a b i j ws vs k l =
    ap (λ (ts : List (Option Thread)). record w { image = j; threads = ts; workers = vs; undrained = w.undrained ++ messages_in k ++ messages_in l }) (set-set w.threads t a b)
    ∙ ap (λ (us : List ToEmacs). record w { image = j; threads = slice_set w.threads t b; workers = vs; undrained = us })
    (append_assoc w.undrained (messages_in k) (messages_in l) ∙ ap (λ us. w.undrained ++ us) (sym (messages_in-append k l)))

pub going_start : (w : World) (max : ℕ) (r : Record) (image : ImageState) (outs : List ToEmacs) → Shows w r image → Going w max 0 r outs r image outs
going_start w max r image outs s =
    let all : max - 0 ≡ max = omega arith in
    let same : burst_length rules (max - 0) (number_of r) w ≡ burst_length rules max (number_of r) w = ap (λ m. burst_length rules m (number_of r) w) all in
    record {
      world = sym (moved_same w (number_of r) (thread_of r) image s.at s.image_is);
      outs = sym (append-nil outs);
      left = omega (arith, same);
    }

pub going_shows : (w : World) (max n : ℕ) (old new : Record) (first image : ImageState) (before after : List ToEmacs) → number_of new ≡ number_of old → Shows w old first → Going w max n old before new image after
    → Shows (steps rules n (number_of old) w).after new image
going_shows w max n old new first image before after same s g =
    let t = number_of old in
    let ls : List Label = (steps rules n t w).labels in
    record {
      at =
          ap (λ (v : World). thread_in v.threads (number_of new)) g.world
          ∙ ap (thread_in (slice_set w.threads t (Some (thread_of new)))) same
          ∙ thread_set_same w.threads t (Some (thread_of new)) (live_within w.threads t (thread_of old) s.at);
      image_is = ap (λ (v : World). v.image) g.world;
      still = ap (λ (v : World). v.closed) g.world ∙ s.still;
    }

if_true : (b : Bool) (m n : ℕ) → b ≡ true → (if b then m else n) ≡ m
if_true true m n e = refl
if_true false m n e = absurd (cc)

if_false : (b : Bool) (m n : ℕ) → b ≡ false → (if b then m else n) ≡ n
if_false true m n e = absurd (cc)
if_false false m n e = refl

shown_steps : (w : World) (r : Record) (image : ImageState) → Shows w r image → may_step w (number_of r) ≡ can_step (thread_of r)
shown_steps w r image s = ap (λ o. goes_on w.closed o) s.at ∙ ap (λ b. goes_on b (Some (thread_of r))) s.still

-- one more of the steps that are left
one_left : (max n t : ℕ) (v : World) → n < max → may_step v t ≡ true → burst_length rules (max - n) t v ≡ suc (burst_length rules (max - suc n) t (steps_once rules v t).after)
one_left max n t v less may =
    let e : max - n ≡ suc (max - suc n) = omega arith in
    ap (λ m. burst_length rules m t v) e ∙ if_true (may_step v t) (suc (burst_length rules (max - suc n) t (steps_once rules v t).after)) 0 may

none_left : (m t : ℕ) (v : World) → may_step v t ≡ false → burst_length rules m t v ≡ 0
none_left zero t v e = refl
none_left (suc m) t v e = if_false (may_step v t) (suc (burst_length rules m t (steps_once rules v t).after)) 0 e

abbrev pub world_of : World → ℕ → Record → World
world_of w n old = (steps rules n (number_of old) w).after

further : (w : World) (n : ℕ) (old new : Record) (image later : ImageState) (thread : Option Thread) (workers : List ℕ) (before after last : List ToEmacs) (max : ℕ)
    → Going w max n old before new image after → IsStep (world_of w n old) (number_of old) after thread later workers last
    → ((steps rules (suc n) (number_of old) w).after ≡ moved w (number_of old) thread later workers (steps rules (suc n) (number_of old) w).labels)
    × (last ≡ before ++ messages_in (steps rules (suc n) (number_of old) w).labels)
further w n old new image later thread workers before after last max g s =
    let t = number_of old in
    let more : StepsMore rules n t w = steps_more rules n t w in
    let v : World = world_of w n old in
    let ls : List Label = (steps rules n t w).labels in
    let ks : List Label = (steps_once rules v t).labels in (
      more.after ∙ s.world ∙ ap (λ (u : World). moved u t thread later workers ks) g.world
          ∙ moved_twice w t (Some (thread_of new)) thread image later w.workers workers ls ks
          ∙ ap (moved w t thread later workers) (sym more.labels),
      s.outs ∙ ap (λ xs. xs ++ messages_in ks) g.outs ∙ append_assoc before (messages_in ls) (messages_in ks)
          ∙ ap (λ xs. before ++ xs) (sym (messages_in-append ls ks)) ∙ ap (λ xs. before ++ messages_in xs) (sym more.labels),
    )

stepped : (w : World) (n : ℕ) (old new last : Record) (image later : ImageState) (before after end : List ToEmacs) (max : ℕ) (over : Bool) → n < max → number_of new ≡ number_of old
    → (first : ImageState) → Shows w old first → can_step (thread_of new) ≡ true → Going w max n old before new image after
    → burst_length rules max (number_of old) w ≡ suc n + burst_length rules (max - suc n) (number_of old) (steps rules (suc n) (number_of old) w).after
stepped w n old new last image later before after end max over less same first s can g =
    let t = number_of old in
    let v : World = world_of w n old in
    let shows : Shows v new image = going_shows w max n old new first image before after same s g in
    let may : may_step v t ≡ true = ap (may_step v) (sym same) ∙ shown_steps v new image shows ∙ can in
    let more : StepsMore rules n t w = steps_more rules n t w in
    let one : burst_length rules (max - n) t v ≡ suc (burst_length rules (max - suc n) t (steps_once rules v t).after) = one_left max n t v less may in
    let rest : burst_length rules (max - suc n) t (steps rules (suc n) t w).after ≡ burst_length rules (max - suc n) t (steps_once rules v t).after = ap (burst_length rules (max - suc n) t) more.after in
    omega (arith, g.left, one, rest)

pub going_on : (w : World) (max n : ℕ) (old new last : Record) (first image later : ImageState) (before after end : List ToEmacs) → n < max → number_of new ≡ number_of old → Shows w old first
    → can_step (thread_of new) ≡ true → Going w max n old before new image after → Steps (world_of w n old) new after last later end false → Going w max (n + 1) old before last later end
going_on w max n old new last first image later before after end less same s can g step =
    let t = number_of old in
    let v : World = world_of w n old in
    let workers : v.workers ≡ w.workers = ap (λ (u : World). u.workers) g.world in
    let one : IsStep v t after (Some (thread_of last)) later w.workers end = subst (λ ws. IsStep v t after (Some (thread_of last)) later ws end) workers (subst (λ u. IsStep v u after (Some (thread_of last)) later v.workers end) same step) in
    let f = further w n old new image later (Some (thread_of last)) w.workers before after end max g one in
    subst (λ m. Going w max m old before last later end) (sym (add-one n)) (record {
      world = f.0;
      outs = f.1;
      left = stepped w n old new last image later before after end max false less same first s can g;
    })

pub going_over : (w : World) (max n : ℕ) (old new last : Record) (first image later : ImageState) (before after end : List ToEmacs) → n < max → number_of new ≡ number_of old → Shows w old first
    → can_step (thread_of new) ≡ true → Going w max n old before new image after → Steps (world_of w n old) new after last later end true → Runs w max old before last later end (n + 1) true
going_over w max n old new last first image later before after end less same s can g step =
    let t = number_of old in
    let v : World = world_of w n old in
    let workers : v.workers ≡ w.workers = ap (λ (u : World). u.workers) g.world in
    let one : IsStep v t after None later (workers_without t w.workers) (end ++ swept_from last.mailbox) =
    subst (λ ws. IsStep v t after None later (workers_without t ws) (end ++ swept_from last.mailbox)) workers
    (subst (λ u. IsStep v u after None later (workers_without u v.workers) (end ++ swept_from last.mailbox)) same step) in
    let f = further w n old new image later None (workers_without t w.workers) before after (end ++ swept_from last.mailbox) max g one in
    let u : World = (steps rules (suc n) t w).after in
    let gone : may_step u t ≡ false =
    ap (λ (x : World). goes_on x.closed (thread_in x.threads t)) f.0
    ∙ ap (goes_on w.closed) (thread_set_same w.threads t None (live_within w.threads t (thread_of old) s.at))
    ∙ ap (λ b. goes_on b None) s.still in
    let all : burst_length rules max t w ≡ suc n + burst_length rules (max - suc n) t u = stepped w n old new last image later before after end max true less same first s can g in
    let none : burst_length rules (max - suc n) t u ≡ 0 = none_left (max - suc n) t u gone in
    subst (λ m. IsRun w max t before None later (workers_without t w.workers) (end ++ swept_from last.mailbox) m) (sym (add-one n)) (record {
      many = omega (arith, all, none);
      world = f.0;
      outs = f.1;
    })

-- the thread waits for what isn't there
pub going_waits : (w : World) (max n : ℕ) (old new : Record) (first image : ImageState) (before after : List ToEmacs) → number_of new ≡ number_of old → Shows w old first
    → can_step (thread_of new) ≡ false → Going w max n old before new image after → Runs w max old before new image after n false
going_waits w max n old new first image before after same s cannot g =
    let t = number_of old in
    let v : World = world_of w n old in
    let may : may_step v t ≡ false = ap (may_step v) (sym same) ∙ shown_steps v new image (going_shows w max n old new first image before after same s g) ∙ cannot in
    let none : burst_length rules (max - n) t v ≡ 0 = none_left (max - n) t v may in
    record { many = omega (arith, g.left, none); world = g.world; outs = g.outs }

-- all steps were made
pub going_ends : (w : World) (max n : ℕ) (old new : Record) (image : ImageState) (before after : List ToEmacs) → n ≡ max → Going w max n old before new image after → Runs w max old before new image after n false
going_ends w max n old new image before after e g =
    let t = number_of old in
    let v : World = world_of w n old in
    let zero_left : max - n ≡ 0 = omega (arith, e) in
    let none : burst_length rules (max - n) t v ≡ 0 = ap (λ m. burst_length rules m t v) zero_left in
    record { many = omega (arith, g.left, none); world = g.world; outs = g.outs }

-- ---- the end of the loan

messages_end : (w : World) (t n : ℕ) → messages_in (bursts rules w t n).labels ≡ messages_in (steps rules n t w).labels
messages_end w t n = ap messages_in (append-nil (steps rules n t w).labels)

-- the thread goes on
pub burst_goes : (w : World) (max n : ℕ) (old new : Record) (first image : ImageState) (before after : List ToEmacs) (threads : List (Option Thread)) → Shows w old first
    → Runs w max old before new image after n false → threads ≡ slice_set w.threads (number_of old) (Some (record (thread_of new) { lent = None }))
    → IsBurst w max (number_of old) before threads image after n false
burst_goes w max n old new first image before after threads s r is =
    let t = number_of old in
    let v : World = (steps rules n t w).after in
    let ls : List Label = (steps rules n t w).labels in
    let back : Thread = record (thread_of new) { lent = None } in
    let at : thread_at v t ≡ Some (thread_of new) =
    ap (λ (u : World). thread_in u.threads t) r.world ∙ thread_set_same w.threads t (Some (thread_of new)) (live_within w.threads t (thread_of old) s.at) in
    record {
      many = r.many;
      outs = r.outs ∙ ap (λ ms. before ++ ms) (sym (messages_end w t n));
      world =
          ap (unlent v t) at
          ∙ ap (λ (u : World). record u { threads = slice_set u.threads t (Some back) }) r.world
          ∙ ap (λ (ts : List (Option Thread)). record w { image = image; threads = ts; undrained = w.undrained ++ messages_in ls }) (set-set w.threads t (Some (thread_of new)) (Some back) ∙ sym is)
          ∙ ap (λ (ms : List ToEmacs). record w { image = image; threads = threads; undrained = w.undrained ++ ms }) (sym (messages_end w t n));
    }

-- a worker ended
pub burst_over : (w : World) (max n : ℕ) (old new : Record) (first image : ImageState) (before after end : List ToEmacs) (threads : List (Option Thread)) → Shows w old first
    → Runs w max old before new image after n true → end ≡ after ++ swept_from new.mailbox → threads ≡ slice_set w.threads (number_of old) None
    → IsBurst w max (number_of old) before threads image end n true
burst_over w max n old new first image before after end threads s r swept_is is =
    let t = number_of old in
    let v : World = (steps rules n t w).after in
    let ls : List Label = (steps rules n t w).labels in
    let at : thread_at v t ≡ None =
    ap (λ (u : World). thread_in u.threads t) r.world ∙ thread_set_same w.threads t None (live_within w.threads t (thread_of old) s.at) in
    record {
      many = r.many;
      outs = swept_is ∙ r.outs ∙ ap (λ ms. before ++ ms) (sym (messages_end w t n));
      world =
          ap (unlent v t) at ∙ r.world
          ∙ ap (λ (ts : List (Option Thread)). record w { image = image; threads = ts; workers = workers_without t w.workers; undrained = w.undrained ++ messages_in ls }) (sym is)
          ∙ ap (λ (ms : List ToEmacs). record w { image = image; threads = threads; workers = workers_without t w.workers; undrained = w.undrained ++ ms }) (sym (messages_end w t n));
    }
