-- A restart of an older level does nothing.
use Rattle.std.proofs.Common.{◌≡◌, ℕ, ℤ, true, [], Some, refl, ap, ◌∙◌}
use Rattle.std.specs.Prelude.{unwrap_or}
use Rattle.lisp_data.specs.declared.sexp.Sexp.TheVariants as form
use Rattle.term_model.specs.declared.focus.Focus.TheVariants as focus
use Rattle.term_model.specs.declared.kept.Outcome.TheVariants as outcome
use Rattle.term_model.specs.Levels.{current_level}
use Rattle.term_model.specs.Term.{split}
use Rattle.step_model.proofs.AsBuiltLemmas.{built-step}
use Rattle.step_model.proofs.StaleLemmas.{stale_is_built, stale_step}
use Rattle.step_model.specs.Now.{Now, puts}
use Rattle.step_model.specs.Requests.{asked}
use Rattle.step_model.specs.Rules.{InvokesNth, Rules}
use Rattle.step_model.specs.Stale.{IsStale}
use Rattle.step_model.specs.AsBuilt.{limited, step_as_built}
use Rattle.step_model.specs.Step.{begun}
use Rattle.session_model.specs.Running.{is_over, now_of, settles, step_of, steps_once}
use Rattle.session_model.specs.World.{Thread, World, tells, thread_at, with_thread}
use Rattle.session_laws.specs.IgnoresStale.{IgnoresStale, IgnoresStaleRequests, InvokeByForm, answered_nil, invoke_nth}

-- what the step leaves
replied : Rules → World → ℕ → Thread → Now
replied rules w t thread = puts (begun (limited rules.built (now_of w t thread))) (split thread.term).0 (focus.Given (outcome.Reply (form.List [])))

settled : (rules : Rules) (w : World) (t : ℕ) (thread : Thread) → settles w t thread (replied rules w t thread) (is_over t (replied rules w t thread)) ≡ tells (with_thread w t (Some (answered_nil thread))) []
unfolding replied
settled rules w t thread = refl

stale_commands : (rules : Rules) (w : World) (t : ℕ) (thread : Thread) (level place : ℤ) → thread_at w t ≡ Some thread → (split thread.term).1 ≡ focus.Rpc
    → rules.built.serves (asked (now_of w t thread)).form ≡ true → rules.command (asked (now_of w t thread)) ≡ InvokesNth level place
    → IsStale (current_level (split thread.term).0) level place
    → steps_once rules w t ≡ tells (with_thread w t (Some (answered_nil thread))) []
unfolding replied
stale_commands rules w t thread level place at rpc served command stale =
    let e : step_as_built rules.built rules (now_of w t thread) ≡ replied rules w t thread =
    built-step rules.built rules (now_of w t thread) (stale_is_built rules.built rules (limited rules.built (now_of w t thread)) level place rpc served command stale)
    ∙ stale_step rules (limited rules.built (now_of w t thread)) level place rpc command stale in
    ap (step_of rules w t) at ∙ ap (λ n. settles w t thread n (is_over t n)) e ∙ settled rules w t thread

pub ignores_stale_requests : (rules : Rules) (w : World) → InvokeByForm rules → IgnoresStaleRequests rules w
ignores_stale_requests rules w by = record {
  stale = λ t thread level place at rpc is stale.
      let form : (asked (now_of w t thread)).form ≡ invoke_nth level place = ap (λ o. unwrap_or o (form.List [])) is in
      stale_commands rules w t thread level place at rpc
      (ap rules.built.serves form ∙ by.served level place)
      (by.says (asked (now_of w t thread)) level place form) stale;
}

pub ignores_stale : (rules : Rules) (w : World) → IgnoresStale rules w
ignores_stale rules w = record { stale = stale_commands rules w; by_form = ignores_stale_requests rules w }
