-- What a kept thread can do, and what a loan makes of it.
use Rattle.server_rules.specs.Built.{built}
use Rattle.std.proofs.Common.{◌≡◌, ◌⊎◌, inl, inr, ⊎_elim, ℕ, zero, suc, ◌-◌, ◌<◌, Bool, true, false, [], ◌∷◌, ◌++◌, Option, Some, refl, sym, ap, ◌∙◌, arith}
use Rattle.std.specs.Prelude.{is_some, not, find, if◌then◌else◌}
use Rattle.rpc_messages.specs.Waiting.{accepted}
use Rattle.rpc_messages.specs.declared.from_emacs.FromEmacs.{FromEmacs}
use Rattle.rpc_messages.specs.declared.pattern.Pattern.{Pattern}
use Rattle.mailboxes.specs.Mail.{first_accepted}
use Rattle.term_model.specs.declared.focus.Focus.{Focus}
use Rattle.term_model.specs.declared.focus.Focus.TheVariants as focus
use Rattle.term_model.specs.Breaks.{broken, broken_in}
use Rattle.term_model.specs.Term.{Context, At, plug, split-plug}
use Rattle.lisp_frames.specs.Stack.{StackState}
use Rattle.lisp_step.specs.Machine as machine
use Rattle.step_model.specs.Now.{Mailbox}
use Rattle.session_model.specs.Legal.{can_step, waits_in_vain}
use Rattle.session_model.specs.Running.{interrupted}
use Rattle.session_model.specs.World.{Thread}
use Rattle.swank_core.specs.Threads.{lent_to, thread_of}
use Rattle.swank_core.specs.declared.record.Record.{Record}

not_not : (b : Bool) → not (not b) ≡ b
not_not true = refl
not_not false = refl

-- a redex waits for something, or goes on whatever the mailbox holds
by_redex : (f : Focus) → ((p : Pattern) × (f ≡ focus.Wait p)) ⊎ ((mailbox : Mailbox) → waits_in_vain f mailbox ≡ false)
by_redex (focus.Given a) = inr (λ mailbox. refl)
by_redex (focus.Form a) = inr (λ mailbox. refl)
by_redex (focus.Loop a) = inr (λ mailbox. refl)
by_redex (focus.DoTimes a b c d) = inr (λ mailbox. refl)
by_redex (focus.DoList a b c d) = inr (λ mailbox. refl)
by_redex (focus.DefunAt a b c) = inr (λ mailbox. refl)
by_redex (focus.Apply a b) = inr (λ mailbox. refl)
by_redex (focus.Map a b c d) = inr (λ mailbox. refl)
by_redex (focus.Wait p) = inl (p, refl)
by_redex (focus.Break a) = inr (λ mailbox. refl)
by_redex focus.Abort = inr (λ mailbox. refl)
by_redex (focus.Signal a) = inr (λ mailbox. refl)
by_redex (focus.SignalPast a b c) = inr (λ mailbox. refl)
by_redex (focus.Enter a) = inr (λ mailbox. refl)
by_redex (focus.Warn a) = inr (λ mailbox. refl)
by_redex focus.Rpc = inr (λ mailbox. refl)
by_redex (focus.Forms a b) = inr (λ mailbox. refl)

not_waiting : (f : Focus) (mailbox : Mailbox) → ((p : Pattern) → f ≡ focus.Wait p → ⊥) → waits_in_vain f mailbox ≡ false
not_waiting f mailbox other =
    ⊎_elim (λ (w : (p : Pattern) × (f ≡ focus.Wait p)). absurd (other w.0 w.1)) (λ (on : (mailbox : Mailbox) → waits_in_vain f mailbox ≡ false). on mailbox) (by_redex f)

found_more : (q : ℕ × FromEmacs → Bool) (mailbox more : Mailbox) → is_some (find q mailbox) ≡ true → is_some (find q (mailbox ++ more)) ≡ true
found_more q [] more h = absurd (cc)
found_more q (entry ∷ mailbox) more h = either (q entry) h (found_more q mailbox more)
  where
    either : (b : Bool) → is_some (if b then Some entry else find q mailbox) ≡ true → (is_some (find q mailbox) ≡ true → is_some (find q (mailbox ++ more)) ≡ true)
        → is_some (if b then Some entry else find q (mailbox ++ more)) ≡ true
    either true h later = refl
    either false h later = later h

-- a thread that can make a step can make one with more messages
pub goes_on_with_more : (f : Focus) (mailbox more : Mailbox) → not (waits_in_vain f mailbox) ≡ true → not (waits_in_vain f (mailbox ++ more)) ≡ true
goes_on_with_more f mailbox more h =
    ⊎_elim
    (λ (w : (p : Pattern) × (f ≡ focus.Wait p)).
    let some : is_some (first_accepted w.0 mailbox) ≡ true = sym (not_not (is_some (first_accepted w.0 mailbox))) ∙ ap (λ g. not (waits_in_vain g mailbox)) (sym w.1) ∙ h in
    ap (λ g. not (waits_in_vain g (mailbox ++ more))) w.1 ∙ not_not (is_some (first_accepted w.0 (mailbox ++ more))) ∙ found_more (λ entry. accepted w.0 entry.1) mailbox more some)
    (λ (on : (mailbox : Mailbox) → waits_in_vain f mailbox ≡ false). ap not (on (mailbox ++ more)))
    (by_redex f)

-- a kept thread's redex and mailbox decide
step_by_redex : (r : Record) → can_step (thread_of r) ≡ not (waits_in_vain r.machine.stack.redex r.mailbox)
step_by_redex r = ap (λ (s : Context × Focus). not (waits_in_vain s.1 r.mailbox)) (split-plug r.machine.stack.context r.machine.stack.redex)

pub step_waiting : (r : Record) (p : Pattern) → r.machine.stack.redex ≡ focus.Wait p → is_some (first_accepted p r.mailbox) ≡ can_step (thread_of r)
step_waiting r p e = sym (step_by_redex r ∙ ap (λ f. not (waits_in_vain f r.mailbox)) e ∙ not_not (is_some (first_accepted p r.mailbox)))

pub step_otherwise : (r : Record) → ((p : Pattern) → r.machine.stack.redex ≡ focus.Wait p → ⊥) → true ≡ can_step (thread_of r)
step_otherwise r other = sym (step_by_redex r ∙ ap not (not_waiting r.machine.stack.redex r.mailbox other))

interrupted_some : (n : ℕ) (thread : Thread) → 0 < n → interrupted built.levels n thread ≡ record thread { term = broken built.levels thread.term; interrupts = n - 1 }
interrupted_some zero thread h = absurd (omega (arith, h))
interrupted_some (suc n) thread h = let e : n ≡ suc n - 1 = omega arith in ap (λ k. record thread { term = broken built.levels thread.term; interrupts = k }) e

interrupted_none : (n : ℕ) (thread : Thread) → n ≡ 0 → interrupted built.levels n thread ≡ thread
interrupted_none zero thread e = refl
interrupted_none (suc n) thread e = absurd (omega (arith, e))

-- a loan that takes an interrupt breaks the term
pub lends_broken : (old new : Record) (seat : ℕ) → 0 < old.interrupts → new.machine.stack ≡ machine.interrupted old.machine.stack → new.mailbox ≡ old.mailbox → new.interrupts ≡ old.interrupts - 1
    → new.lent ≡ Some seat → thread_of new ≡ lent_to seat (thread_of old)
lends_broken old new seat some stack mailbox interrupts lent =
    let c : Context = old.machine.stack.context in
    let f : Focus = old.machine.stack.redex in
    ap (λ (s : StackState). record { term = plug s.context (At s.redex); serial = s.serial; mailbox = new.mailbox; interrupts = new.interrupts; lent = new.lent }) stack
    ∙ ap (λ (mb : Mailbox). record { term = broken_in built.levels (c, f); serial = old.machine.stack.serial; mailbox = mb; interrupts = new.interrupts; lent = new.lent }) mailbox
    ∙ ap (λ k. record { term = broken_in built.levels (c, f); serial = old.machine.stack.serial; mailbox = old.mailbox; interrupts = k; lent = new.lent }) interrupts
    ∙ ap (λ (o : Option ℕ). record { term = broken_in built.levels (c, f); serial = old.machine.stack.serial; mailbox = old.mailbox; interrupts = old.interrupts - 1; lent = o }) lent
    ∙ ap (λ (s : Context × Focus). record { term = broken_in built.levels s; serial = old.machine.stack.serial; mailbox = old.mailbox; interrupts = old.interrupts - 1; lent = Some seat }) (sym (split-plug c f))
    ∙ ap (λ (th : Thread). record th { lent = Some seat }) (sym (interrupted_some old.interrupts (thread_of old) some))

pub lends_whole : (old : Record) (seat : ℕ) → old.interrupts ≡ 0 → record (thread_of old) { lent = Some seat } ≡ lent_to seat (thread_of old)
lends_whole old seat none = ap (λ (th : Thread). record th { lent = Some seat }) (sym (interrupted_none old.interrupts (thread_of old) none))
