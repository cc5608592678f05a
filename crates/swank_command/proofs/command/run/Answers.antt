use Rattle.std.proofs.Common.{◌∙◌, List, refl, subst, sym, ap, Err}
use Rattle.std.proofs.lemmas.List.Elements.{All-nil}
use Rattle.std.specs.Prelude.{All}
use Rattle.command_words.specs.Words.{limits_of}
use Rattle.server_laws.specs.Small.{FitsPacket}
use Rattle.session_model.specs.declared.event.Entry.{Entry}
use Rattle.session_model.specs.Journal.{outputs}
use Rattle.swank_command.specs.Ends.{status_of}
use Rattle.swank_session.specs.Causes.{IsStopped}
use Rattle.swank_session.specs.Promises.{IsRead}
use Rattle.swank_session.specs.declared.outcome.Status.TheVariants as status
use Rattle.server_rules.specs.Rules.{rules as the_rules}
use Rattle.swank_command.proofs.Idle.{due-none, read-none, scheduled-none, sent-none, taken-none, wanting, written-none}
use Rattle.swank_command.proofs.command.run.Goals as goal

pub returns-in-Err-clause-lawful : goal.returns-in-Err-clause-lawful
returns-in-Err-clause-lawful g c = c.each_journal_is_lawful.ensures the_rules c.args.image c.refuse.result.journal

pub returns-in-Err-clause-read : goal.returns-in-Err-clause-read
returns-in-Err-clause-read g c octets took =
    subst (λ (j : List Entry). IsRead c.refuse.result.status (g.S.Source.ended c.args.input.now) octets c.args.image j) (sym c.refuse.ensures.journal)
    (read-none c.refuse.result.status (g.S.Source.ended c.args.input.now) (g.S.Source.left c.args.input.now) octets c.args.image took)

pub returns-in-Err-clause-taken : goal.returns-in-Err-clause-taken
returns-in-Err-clause-taken g c octets took = c.refuse.ensures.taken ∙ taken-none (g.S.Source.left c.args.input.now) octets took

pub returns-in-Err-clause-written : goal.returns-in-Err-clause-written
returns-in-Err-clause-written g c octets wrote =
    rw (c.refuse.ensures.status, c.refuse.ensures.journal) (written-none c.in-Err.fault (g.K.Sink.written c.args.output.now) octets c.args.image wrote)

pub returns-in-Err-clause-sent : goal.returns-in-Err-clause-sent
returns-in-Err-clause-sent g c octets wrote = c.refuse.ensures.sent ∙ sent-none (g.K.Sink.written c.args.output.now) octets wrote

pub returns-in-Err-clause-framed : goal.returns-in-Err-clause-framed
returns-in-Err-clause-framed g c = subst (λ (j : List Entry). All FitsPacket (outputs the_rules c.args.image j)) (sym c.refuse.ensures.journal) (All-nil FitsPacket)

pub returns-in-Err-clause-long_names : goal.returns-in-Err-clause-long_names
returns-in-Err-clause-long_names g c limits asked long = (
  c.refuse.ensures.status ∙ ap status_of (wanting c.in-Err.fault (limits_of c.args.words.now) (λ e. c.in-Err.ensures.usage (ap Err e)) limits asked),
  c.refuse.ensures.journal,
  c.refuse.ensures.taken,
  c.refuse.ensures.sent,
  c.refuse.ensures.image,
  refl,
  refl,
)

pub returns-in-Err-clause-scheduled : goal.returns-in-Err-clause-scheduled
returns-in-Err-clause-scheduled g c limits asked octets took =
    rw (c.refuse.ensures.status, c.refuse.ensures.journal) (scheduled-none c.in-Err.fault (limits_of c.args.words.now) (λ e. c.in-Err.ensures.usage (ap Err e)) limits asked _)

pub returns-in-Err-clause-bad_header : goal.returns-in-Err-clause-bad_header
returns-in-Err-clause-bad_header g c limits asked octets took =
    rw c.refuse.ensures.status (due-none c.in-Err.fault (limits_of c.args.words.now) (λ e. c.in-Err.ensures.usage (ap Err e)) limits asked status.BadHeader IsStopped _ (λ e. cc) tt)

pub returns-in-Err-clause-truncated : goal.returns-in-Err-clause-truncated
returns-in-Err-clause-truncated g c limits asked octets took =
    rw c.refuse.ensures.status (due-none c.in-Err.fault (limits_of c.args.words.now) (λ e. c.in-Err.ensures.usage (ap Err e)) limits asked status.Truncated IsStopped _ (λ e. cc) tt)

pub returns-in-Err-clause-input_limit : goal.returns-in-Err-clause-input_limit
returns-in-Err-clause-input_limit g c limits asked octets took =
    rw c.refuse.ensures.status (due-none c.in-Err.fault (limits_of c.args.words.now) (λ e. c.in-Err.ensures.usage (ap Err e)) limits asked status.InputLimit IsStopped _ (λ e. cc) tt)
