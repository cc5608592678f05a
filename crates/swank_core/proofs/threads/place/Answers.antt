use Rattle.std.proofs.Common.{rules}
use Rattle.std.specs.Prelude.{ltb}
use Rattle.std.proofs.lemmas.List.Sorted.{IsPartitionPoint-from_clause, IsPartitionedBy-ltb}
use Rattle.swank_core.specs.Threads.{number_of}
use Rattle.swank_core.specs.declared.record.Record.{Record}
use Rattle.swank_core.proofs.TableLemmas.{place_is, numbers_rise}
use Rattle.swank_core.proofs.threads.place.Goals as goal

pub returns-clause-place : goal.returns-clause-place
returns-clause-place c =
    let rs = c.args.records.now in
    let parted = IsPartitionedBy-ltb number_of rs c.args.t (numbers_rise rs 0 c.requires.ascending) in
    let point = IsPartitionPoint-from_clause (λ (r : Record). ltb (number_of r) c.args.t) _ _ c.partition_point.ensures.partitioned parted (λ a r q k. search rules) in
    place_is rs c.partition_point.result c.args.t c.partition_point.ensures.bound point
