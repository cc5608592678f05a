use Rattle.std.proofs.Common.{rules, ◌≡◌, ◌∙◌, [], true, map, sym, subst, ap, ap₂, Ok, Err, Result, ok_or}
use Rattle.clap.specs.Faults.{fault_of, is_simple_and_free}
use Rattle.clap.specs.Simple.{app_of, is_simple, matches_of}
use Rattle.clap.specs.Kinds.{HasKind, Kinds}
use Rattle.session_model.specs.declared.limits.Limits.{Limits}
use Rattle.command_words.specs.declared.limits.WordsFault.{WordsFault}
use Rattle.command_words.specs.declared.limits.WordsFault.TheVariants.{Usage}
use Rattle.command_words.specs.Form.{has_form}
use Rattle.command_words.specs.Options.{pipe_app}
use Rattle.command_words.proofs.Forms.{no_form}
use Rattle.command_words.proofs.Judging.{matched, unmatched}
use Rattle.command_words.proofs.Reading.{is_free, is_plain}
use Rattle.command_words.proofs.limits.limits_in.Goals as goal

pub returns-then-not-is_form-clause-usage : goal.returns-then-not-is_form-clause-usage
returns-then-not-is_form-clause-usage c refused = no_form c.args.words.now (search rules)

pub returns-in-Ok-try_get_matches_from : goal.returns-in-Ok-try_get_matches_from
returns-in-Ok-try_get_matches_from c =
    let form : has_form c.args.words.now ≡ true = search rules in
    let words_are : map (λ s. s.now) c.as_slice.result.now ≡ c.args.words.now = search rules in
    let app_is : app_of c.in-Ok-pipe_command.command ≡ pipe_app = c.in-Ok-pipe_command.ensures in
    let free : fault_of pipe_app c.args.words.now ≡ [] =
    sym (ap₂ fault_of app_is words_are) ∙ c.in-Ok-try_get_matches_from.ensures.kinds (ap is_simple_and_free app_is ∙ is_free) in
    let rows = (c.in-Ok-try_get_matches_from.ensures.matches (ap is_simple app_is ∙ is_plain)).0 ∙ ap₂ matches_of app_is words_are in
    let read = matched c.args.words.now c.in-Ok-try_get_matches_from.matches c.numbers.result form free rows c.numbers.ensures in
    let answer : c.ok_or.result ≡ Ok read.limits = c.ok_or.ensures.value ∙ ap (λ r. ok_or r Usage) read.is in record {
      ok = rw answer read.asked;
      steps = rw answer read.steps;
      journal = rw answer read.journal;
      usage = λ refused. let bad : ◌≡◌ {A = Result Limits WordsFault} (Ok read.limits) (Err Usage) = sym answer ∙ refused in cc;
    }

pub returns-clause-usage : goal.returns-clause-usage
returns-clause-usage c refused =
    let form : has_form c.args.words.now ≡ true = search rules in
    let words_are : map (λ s. s.now) c.as_slice.result.now ≡ c.args.words.now = search rules in
    let app_is : app_of c.in-Ok-pipe_command.command ≡ pipe_app = c.in-Ok-pipe_command.ensures in
    let fails = subst (λ (k : Kinds). HasKind k c.in-Err.error) (ap₂ fault_of app_is words_are) (c.in-Err.ensures.kinds (ap is_simple_and_free app_is ∙ is_free)) in
    let usage : c.fault_of.result ≡ Usage = cc in
    unmatched c.args.words.now c.in-Err.error form fails (c.fault_of.ensures usage)
