-- Invoking a restart that isn't there any more answers NIL and does nothing else.
use Rattle.std.proofs.Common.{◌≡◌, ℤ, ◌⊎◌, ⊎_elim, Bool, true, false, ◌&&◌, [], ◌∷◌, Option, Some, None, refl, ap, ◌∙◌}
use Rattle.std.specs.Prelude.{◌||◌}
use Rattle.lisp_data.specs.declared.sexp.Sexp.TheVariants as form
use Rattle.term_model.specs.declared.focus.Focus.TheVariants as focus
use Rattle.term_model.specs.declared.frame.Frame.TheVariants as frame
use Rattle.term_model.specs.declared.kept.Outcome.{Outcome}
use Rattle.term_model.specs.declared.kept.Outcome.TheVariants as outcome
use Rattle.term_model.specs.Levels.{Level, current_level}
use Rattle.term_model.specs.Restarts.{restarts_of_level}
use Rattle.term_model.specs.Term.{Context}
use Rattle.step_model.specs.Now.{Now, puts}
use Rattle.step_model.specs.Perform.{gives_in}
use Rattle.step_model.specs.Requests.{asked, commanded, in_level, invokes_place, invokes_restart, is_number, item_at, nil_reply}
use Rattle.step_model.specs.Rules as rules_of
use Rattle.step_model.specs.Rules.{Rules}
use Rattle.step_model.specs.Stale.{IsStale}
use Rattle.step_model.specs.AsBuilt.{is_act_built, is_built, is_row_built}
use Rattle.step_model.specs.Built.{Built}
use Rattle.step_model.specs.Step.{announced_at, begun, carried_out, step}
use Rattle.step_model.specs.Table.{row}

stale_place : (n : Now) (level : Level) (i : ℤ) (b : Bool) → (b ≡ false) ⊎ (item_at (restarts_of_level level.around) i ≡ None) → invokes_place n level i b ≡ nil_reply
stale_place n level i true h = ⊎_elim (λ (e : true ≡ false). absurd (cc)) (λ e. ap (λ r. invokes_restart n r) e) h
stale_place n level i false h = refl

stale_level : (n : Now) (o : Option Level) (k i : ℤ) → IsStale o k i → in_level o (λ level. invokes_place n level i (is_number k level.number)) ≡ nil_reply
stale_level n None k i h = refl
stale_level n (Some level) k i h = stale_place n level i (is_number k level.number) h

row_is : (rules : Rules) (n : Now) (k i : ℤ) → rules.command (asked n) ≡ rules_of.InvokesNth k i → IsStale (current_level n.context) k i → row rules n focus.Rpc ≡ nil_reply
row_is rules n k i e h = ap (λ x. commanded n x) e ∙ stale_level n (current_level n.context) k i h

abbrev after_reply : Now → Now
after_reply n = puts (begun n) n.context (focus.Given (outcome.Reply (form.List [])))

-- a reply stays where it is given
replies : (n : Now) (c : Context) → gives_in n c (outcome.Reply (form.List [])) ≡ puts n c (focus.Given (outcome.Reply (form.List [])))
replies n [] = refl
replies n (frame.On p ∷ c) = refl
replies n (frame.Protect k cleanup ∷ c) = refl
replies n (frame.Cleanup k kept ∷ c) = refl
replies n (frame.Rex i id request ∷ c) = refl
replies n (frame.Sldb m condition again ∷ c) = refl
replies n (frame.Ask kind tag ∷ c) = refl

not_announced : (n : Now) (c : Context) (r : Outcome) → announced_at n c (focus.Given r) ≡ n
not_announced n [] r = refl
not_announced n (frame.On p ∷ c) r = refl
not_announced n (frame.Protect k cleanup ∷ c) r = refl
not_announced n (frame.Cleanup k kept ∷ c) r = refl
not_announced n (frame.Rex i id request ∷ c) r = refl
not_announced n (frame.Sldb m condition true ∷ c) r = refl
not_announced n (frame.Sldb m condition false ∷ c) r = refl
not_announced n (frame.Ask kind tag ∷ c) r = refl

or_true : (b : Bool) → (b || true) ≡ true
or_true true = refl
or_true false = refl

stale_row : (rules : Rules) (n : Now) (k i : ℤ) → n.redex ≡ focus.Rpc → rules.command (asked n) ≡ rules_of.InvokesNth k i → IsStale (current_level n.context) k i → row rules n n.redex ≡ nil_reply
stale_row rules n k i e c h = ap (λ f. row rules n f) e ∙ row_is rules n k i c h

-- the step of a stale restart
pub stale_step : (rules : Rules) (n : Now) (k i : ℤ) → n.redex ≡ focus.Rpc → rules.command (asked n) ≡ rules_of.InvokesNth k i → IsStale (current_level n.context) k i → step rules n ≡ after_reply n
stale_step rules n k i e c h =
    ap (λ a. carried_out n a) (stale_row rules n k i e c h)
    ∙ ap (λ m. announced_at m m.context m.redex) (replies (begun n) n.context)
    ∙ not_announced (after_reply n) n.context (outcome.Reply (form.List []))

-- it is built where its request's function is
pub stale_is_built : (built : Built) (rules : Rules) (n : Now) (k i : ℤ) → n.redex ≡ focus.Rpc → built.serves (asked n).form ≡ true → rules.command (asked n) ≡ rules_of.InvokesNth k i → IsStale (current_level n.context) k i → is_built built rules n ≡ true
stale_is_built built rules n k i e served c h =
    ap (λ f. is_row_built built n f && is_act_built built (row rules n n.redex)) e
    ∙ ap (λ b. b && is_act_built built (row rules n n.redex)) served
    ∙ ap (is_act_built built) (stale_row rules n k i e c h)
    ∙ or_true built.raises
