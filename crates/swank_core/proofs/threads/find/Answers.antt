use Rattle.std.proofs.Common.{◌<◌, length, ap, ◌∙◌, arith}
use Rattle.std.proofs.lemmas.Option.{get_or_from_slice_get, slice_get_within}
use Rattle.swank_core.specs.Threads.{number_of}
use Rattle.swank_core.proofs.TableLemmas.{missing}
use Rattle.swank_core.proofs.threads.find.Goals as goal
use Rattle.swank_core.proofs.threads.find.Goals.{else-at-records-via-then-at-records+else-records-at, else-at-records-via-else-at-records}

pub returns-clause-none : goal.returns-clause-none
returns-clause-none c =
    let rs = c.args.records.now in
    let at = c.place-at.result in
    elim c.else-at-records.branch [
      | else-at-records-via-then-at-records+else-records-at w ↦
          missing rs at c.args.t c.requires.ascending c.place-at.ensures.place
          (λ r e same. w.if-records-at.false (ap number_of (get_or_from_slice_get rs at r w.index-records-at.result e) ∙ same))
      | else-at-records-via-else-at-records w ↦
          missing rs at c.args.t c.requires.ascending c.place-at.ensures.place
          (λ r e same. let inside : at < length rs = slice_get_within rs at r e in absurd (omega (arith, inside, w.if-at-records.false)))
    ]
