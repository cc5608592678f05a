-- A step, fact by fact.
use Rattle.std.proofs.Common.{◌≡◌, ◌∙◌, ◌++◌, ℕ, Bool, true, false, List, [], ap, sym}
use Rattle.std.specs.Prelude.{Result, Ok, Err, IfOk, OnOk}
use Rattle.lisp_frames.specs.Stack.{StackState, with_redex}
use Rattle.rpc_messages.specs.declared.to_emacs.ToEmacs.{ToEmacs}
use Rattle.server_rules.specs.Beside.{Beside}
use Rattle.server_rules.specs.Rules.{rules}
use Rattle.server_rules.specs.Simple.{are_simple}
use Rattle.step_model.specs.Image.{ImageState}
use Rattle.step_model.specs.Now.{Mailbox}
use Rattle.step_model.specs.AsBuilt.{step_as_built}
use Rattle.term_model.specs.declared.focus.Focus.{Focus}
use Rattle.term_model.specs.declared.focus.Focus.TheVariants as focus
use Rattle.term_model.specs.Label.{messages_in}
use Rattle.lisp_step.specs.Machine.{now_of, stack_of}
use Rattle.lisp_step.specs.Rows.{Done, does, image_left, mail_left, task_of}
use Rattle.lisp_step.specs.declared.task.Task.{Task}
use Rattle.server_rules.proofs.StepSimple.{step_keeps}
use Rattle.lisp_step.proofs.RowLemmas.{After, after, left_with, stepped}

-- beside a thread of an empty session
alone : Beside
alone = record { tag = 0; inspected = []; threads = []; closed = false }

module _ (t : ℕ) (s : StackState) (mailbox : Mailbox) (image : ImageState) (simple : are_simple s.context ≡ true) where
  abbrev pub done : Done
  done = does image mailbox (with_redex focus.Abort s) (task_of s.redex)

  whole : (b : Beside) → after (step_as_built rules.built rules (now_of t s mailbox image b)) ≡ left_with done (mail_left mailbox (task_of s.redex)) (image_left image s.context (task_of s.redex))
  whole b = stepped t mailbox image b (with_redex focus.Abort s) s.redex simple

  pub stack-after : (b : Beside) → stack_of (step_as_built rules.built rules (now_of t s mailbox image b)) ≡ done.stack
  stack-after b = ap (λ (a : After). a.done.stack) (whole b)

  pub messages-after : (b : Beside) → messages_in (step_as_built rules.built rules (now_of t s mailbox image b)).labels ≡ done.messages
  messages-after b = ap (λ (a : After). a.done.messages) (whole b)

  pub over-after : (b : Beside) → (step_as_built rules.built rules (now_of t s mailbox image b)).over ≡ done.over
  over-after b = ap (λ (a : After). a.done.over) (whole b)

  pub mailbox-after : (b : Beside) → (step_as_built rules.built rules (now_of t s mailbox image b)).mailbox ≡ mail_left mailbox (task_of s.redex)
  mailbox-after b = ap (λ (a : After). a.mailbox) (whole b)

  pub image-after : (b : Beside) → (step_as_built rules.built rules (now_of t s mailbox image b)).image ≡ image_left image s.context (task_of s.redex)
  image-after b = ap (λ (a : After). a.image) (whole b)

  -- the redex was taken off, and asks for this
  pub record Taken (task : Task) (redex : Focus) (now : StackState) : Type 0 where
    pub asks : task ≡ task_of redex
    pub old : redex ≡ s.redex
    pub rest : now ≡ with_redex focus.Abort s

  same : (task : Task) (redex : Focus) (now : StackState) → Taken task redex now → does image mailbox now task ≡ done
  same task redex now k = ap (λ (x : StackState). does image mailbox x task) k.rest ∙ ap (λ (x : Task). does image mailbox (with_redex focus.Abort s) x) (k.asks ∙ ap task_of k.old)

  pub stack-clause : {A E : Type 0} (r : Result A E) (task : Task) (redex : Focus) (now new : StackState) → Taken task redex now
      → OnOk r (new ≡ (does image mailbox now task).stack) → OnOk r ((b : Beside) → new ≡ stack_of (step_as_built rules.built rules (now_of t s mailbox image b)))
  stack-clause (Ok a) task redex now new k e = λ b. e ∙ ap (λ (d : Done). d.stack) (same task redex now k) ∙ sym (stack-after b)
  stack-clause (Err x) task redex now new k e = tt

  pub outs-clause : {A E : Type 0} (r : Result A E) (task : Task) (redex : Focus) (now : StackState) (before after : List ToEmacs) → Taken task redex now
      → OnOk r (after ≡ before ++ (does image mailbox now task).messages)
      → OnOk r ((b : Beside) → after ≡ before ++ messages_in (step_as_built rules.built rules (now_of t s mailbox image b)).labels)
  outs-clause (Ok a) task redex now before after k e =
      λ b. e ∙ ap (λ ms. before ++ ms) (ap (λ (d : Done). d.messages) (same task redex now k) ∙ sym (messages-after b))
  outs-clause (Err x) task redex now before after k e = tt

  pub over-clause : {E : Type 0} (r : Result Bool E) (task : Task) (redex : Focus) (now : StackState) → Taken task redex now
      → IfOk r (λ over. over ≡ (does image mailbox now task).over) → IfOk r (λ over. (b : Beside) → over ≡ (step_as_built rules.built rules (now_of t s mailbox image b)).over)
  over-clause (Ok over) task redex now k e = λ b. e ∙ ap (λ (d : Done). d.over) (same task redex now k) ∙ sym (over-after b)
  over-clause (Err x) task redex now k e = tt

  pub mailbox-clause : {A E : Type 0} (r : Result A E) (task : Task) (redex : Focus) (now : StackState) (new : Mailbox) → Taken task redex now
      → OnOk r (new ≡ mail_left mailbox task) → OnOk r ((b : Beside) → new ≡ (step_as_built rules.built rules (now_of t s mailbox image b)).mailbox)
  mailbox-clause (Ok a) task redex now new k e = λ b. e ∙ ap (mail_left mailbox) (k.asks ∙ ap task_of k.old) ∙ sym (mailbox-after b)
  mailbox-clause (Err x) task redex now new k e = tt

  pub image-clause : {A E : Type 0} (r : Result A E) (task : Task) (redex : Focus) (now : StackState) (new : ImageState) → Taken task redex now
      → OnOk r (new ≡ image_left image now.context task) → OnOk r ((b : Beside) → new ≡ (step_as_built rules.built rules (now_of t s mailbox image b)).image)
  image-clause (Ok a) task redex now new k e =
      λ b. e ∙ ap (λ (x : StackState). image_left image x.context task) k.rest ∙ ap (image_left image s.context) (k.asks ∙ ap task_of k.old) ∙ sym (image-after b)
  image-clause (Err x) task redex now new k e = tt

  -- the layers stay simple
  pub simple-clause : {A E : Type 0} (r : Result A E) (task : Task) (redex : Focus) (now new : StackState) → Taken task redex now
      → OnOk r (new ≡ (does image mailbox now task).stack) → OnOk r (are_simple new.context ≡ true)
  simple-clause (Ok a) task redex now new k e =
      let here = now_of t s mailbox image alone in
      ap (λ (x : StackState). are_simple x.context) (e ∙ ap (λ (d : Done). d.stack) (same task redex now k) ∙ sym (stack-after alone)) ∙ (step_keeps here simple).simple
  simple-clause (Err x) task redex now new k e = tt
