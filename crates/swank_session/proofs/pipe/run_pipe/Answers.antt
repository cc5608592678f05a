use Rattle.std.proofs.Common.{◌∙◌, List, Err, refl, sym, ap, subst}
use Rattle.std.proofs.lemmas.Bool.{true≢false}
use Rattle.std.proofs.lemmas.List.Elements.{All-nil}
use Rattle.std.specs.Prelude.{All}
use Rattle.session_model.specs.declared.event.Entry.{Entry}
use Rattle.session_model.specs.Journal.{outputs, run}
use Rattle.server_laws.specs.Small.{FitsPacket, HasShortNames}
use Rattle.server_rules.specs.Rules.{rules}
use Rattle.swank_core.specs.Session.{Session}
use Rattle.swank_session.specs.declared.ends.Halt.TheVariants as halt
use Rattle.swank_session.specs.declared.outcome.Status.{Status}
use Rattle.swank_session.specs.declared.outcome.Status.TheVariants as status
use Rattle.swank_session.proofs.OutcomeLemmas.{Comes, alive-unless, comes}
use Rattle.swank_session.proofs.Summary.{Summary, summary-of, summary-none, is-framed, is-read, is-taken, is-written, is-sent, is-ended, is-scheduled, is-ok, is-bad, is-cut, is-long, is-spent, is-full, is-no_usage, read-fault, write-fault, is-complete}
use Rattle.swank_session.proofs.pipe.run_pipe.Given.{Over}
use Rattle.swank_session.proofs.pipe.run_pipe.Goals as goal

-- ---- a session that couldn't be opened

unopened : (g : Over) (c : goal.After-new g)
    → Summary c.args.image c.args.limits.now c.new.result (g.S.Source.left c.args.input.now) (g.S.Source.left c.args.input.now) 0 (g.S.Source.ended c.args.input.now) (g.K.Sink.written c.args.output.now) (g.K.Sink.written c.args.output.now) 0 status.NoMemory (Err halt.NoMemory)
unopened g c = summary-none c.args.image c.args.limits.now c.new.result (g.S.Source.left c.args.input.now) (g.S.Source.ended c.args.input.now) (g.K.Sink.written c.args.output.now) c.new.ensures

pub returns-in-Err-clause-lawful : goal.returns-in-Err-clause-lawful
returns-in-Err-clause-lawful g c = c.each_journal_is_lawful.ensures rules c.args.image c.new.result

pub returns-in-Err-clause-read : goal.returns-in-Err-clause-read
returns-in-Err-clause-read g c = is-read (unopened g c)

pub returns-in-Err-clause-taken : goal.returns-in-Err-clause-taken
returns-in-Err-clause-taken g c = is-taken (unopened g c)

pub returns-in-Err-clause-written : goal.returns-in-Err-clause-written
returns-in-Err-clause-written g c = is-written (unopened g c)

pub returns-in-Err-clause-sent : goal.returns-in-Err-clause-sent
returns-in-Err-clause-sent g c = is-sent (unopened g c)

pub returns-in-Err-clause-scheduled : goal.returns-in-Err-clause-scheduled
returns-in-Err-clause-scheduled g c = is-scheduled (unopened g c)

pub returns-in-Err-clause-framed : goal.returns-in-Err-clause-framed
returns-in-Err-clause-framed g c = subst (λ (j : List Entry). All FitsPacket (outputs rules c.args.image j)) (sym c.new.ensures) (All-nil FitsPacket)

pub returns-in-Err-clause-long_names : goal.returns-in-Err-clause-long_names
returns-in-Err-clause-long_names g c long = (refl, c.new.ensures, refl, refl, c.in-Err.ensures.err, refl, refl)

-- ---- one that was run

pub serve-end-requires-clause-names : goal.serve-end-requires-clause-names
serve-end-requires-clause-names g c = subst HasShortNames (sym (ap (λ (x : Session). x.opened) c.in-Ok.ensures.ok)) c.in-Ok.ensures.short

served : (g : Over) (c : goal.After-into_parts-image g)
    → Summary c.args.image c.args.limits.now c.into_parts-image.result.1 (g.S.Source.left c.args.input.now) (g.S.Source.left c.serve-end.new.input) c.serve-end.new.counts.taken (g.S.Source.ended c.serve-end.new.input)
    (g.K.Sink.written c.args.output.now) (g.K.Sink.written c.serve-end.new.output) c.serve-end.new.counts.sent c.status_for-status.result c.serve-end.result
served g c =
    summary-of c.args.image c.args.limits.now c.into_parts-image.result.1 (g.S.Source.left c.args.input.now) (g.S.Source.left c.serve-end.new.input) c.serve-end.new.counts.taken (g.S.Source.ended c.serve-end.new.input)
    (g.K.Sink.written c.args.output.now) (g.K.Sink.written c.serve-end.new.output) 0 c.serve-end.new.counts.sent c.status_for-status.result c.serve-end.result
    c.in-Ok.opened c.serve-end.new.core c.serve-end.ensures.completes c.in-Ok.ensures.ok refl c.into_parts-image.ensures.journal c.status_for-status.ensures

pub returns-in-Ok-clause-read : goal.returns-in-Ok-clause-read
returns-in-Ok-clause-read g c = is-read (served g c)

pub returns-in-Ok-clause-framed : goal.returns-in-Ok-clause-framed
returns-in-Ok-clause-framed g c = is-framed (served g c) c.in-Ok.ensures.short

pub returns-in-Ok-clause-long_names : goal.returns-in-Ok-clause-long_names
returns-in-Ok-clause-long_names g c long = absurd (true≢false (sym c.in-Ok.ensures.short ∙ long))

pub returns-in-Ok-clause-taken : goal.returns-in-Ok-clause-taken
returns-in-Ok-clause-taken g c = is-taken (served g c)

pub returns-in-Ok-clause-written : goal.returns-in-Ok-clause-written
returns-in-Ok-clause-written g c = is-written (served g c)

pub returns-in-Ok-clause-sent : goal.returns-in-Ok-clause-sent
returns-in-Ok-clause-sent g c = is-sent (served g c)

pub returns-in-Ok-clause-ended : goal.returns-in-Ok-clause-ended
returns-in-Ok-clause-ended g c = is-ended (served g c)

pub returns-in-Ok-clause-scheduled : goal.returns-in-Ok-clause-scheduled
returns-in-Ok-clause-scheduled g c = is-scheduled (served g c)

pub returns-in-Ok-clause-ok : goal.returns-in-Ok-clause-ok
returns-in-Ok-clause-ok g c = is-ok (served g c)

pub returns-in-Ok-clause-usage : goal.returns-in-Ok-clause-usage
returns-in-Ok-clause-usage g c = is-no_usage (served g c)

pub returns-in-Ok-clause-bad_header : goal.returns-in-Ok-clause-bad_header
returns-in-Ok-clause-bad_header g c = is-bad (served g c)

pub returns-in-Ok-clause-truncated : goal.returns-in-Ok-clause-truncated
returns-in-Ok-clause-truncated g c = is-cut (served g c)

pub returns-in-Ok-clause-input_limit : goal.returns-in-Ok-clause-input_limit
returns-in-Ok-clause-input_limit g c = is-long (served g c)

pub returns-in-Ok-clause-budget : goal.returns-in-Ok-clause-budget
returns-in-Ok-clause-budget g c = is-spent (served g c)

pub returns-in-Ok-clause-journal_full : goal.returns-in-Ok-clause-journal_full
returns-in-Ok-clause-journal_full g c = is-full (served g c)

pub returns-in-Ok-clause-image : goal.returns-in-Ok-clause-image
returns-in-Ok-clause-image g c some =
    let s : Session = c.serve-end.new.core in
    let k = c.serve-end.ensures.completes in
    let how : Comes s c.serve-end.result c.status_for-status.result = subst (λ (x : Status). Comes s c.serve-end.result x) (sym c.status_for-status.ensures) (comes s c.serve-end.result k.finishes) in
    c.into_parts-image.ensures.image (alive-unless s c.serve-end.result c.status_for-status.result how some)
    ∙ ap (λ i. (run rules i s.journal).image) (k.opened ∙ ap (λ (x : Session). x.opened) c.in-Ok.ensures.ok)
    ∙ ap (λ (j : List Entry). (run rules c.args.image j).image) (sym c.into_parts-image.ensures.journal)

pub returns-in-Ok-clause-read_fault : goal.returns-in-Ok-clause-read_fault
returns-in-Ok-clause-read_fault g c is = c.serve-end.ensures.read_fault (read-fault (served g c) is)

pub returns-in-Ok-clause-write_fault : goal.returns-in-Ok-clause-write_fault
returns-in-Ok-clause-write_fault g c is = c.serve-end.ensures.write_fault (write-fault (served g c) is)

pub returns-in-Ok-clause-complete : goal.returns-in-Ok-clause-complete
returns-in-Ok-clause-complete g c =
    is-complete (served g c) (g.S.Source.faults c.args.input.now) (g.S.Source.faults c.serve-end.new.input) (g.K.Sink.faults c.args.output.now) (g.K.Sink.faults c.serve-end.new.output)
    c.serve-end.ensures.read_fault c.serve-end.ensures.write_fault
