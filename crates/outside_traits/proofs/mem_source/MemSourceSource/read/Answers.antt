use Rattle.std.proofs.Common.{◌≡◌, ◌<◌, ◌+◌, ◌==◌, false, ap, length, min, take, drop, rules, arith}
use Rattle.std.proofs.lemmas.Grind.{common_steps}
use Rattle.std.proofs.lemmas.Bool.Decides.{nat_tests}
use Rattle.outside_traits.specs.MemSource.{IsAt, cut_by, filled, pieces_from}
use Rattle.outside_traits.specs.Faults.{raised}
use Rattle.outside_traits.proofs.PieceLemmas.{ReadsAt, reads_at}
use Rattle.outside_traits.proofs.mem_source.MemSourceSource.read.Goals as goal
use Rattle.outside_traits.proofs.mem_source.MemSourceSource.read.Goals.{After-copy_front-n}

reads : (c : After-copy_front-n) → ReadsAt c.self.inside.pieces c.args.self.now.pieces c.copy_front-n.new.buf (length c.args.buf.now) c.in-Some.at c.in-Some.from c.copy_front-n.result
reads c =
    let place : IsAt c.self.inside.pieces c.args.self.now.pieces c.in-Some.at c.in-Some.from = first_of (search rules, grind arith, grind (arith, c.in-Some.ensures.some)) in
    let count : c.copy_front-n.result ≡ min (length (drop c.in-Some.from c.index-pieces-at.result)) (length c.args.buf.now) = first_of (search rules, grind (arith, common_steps)) in
    let front : take c.copy_front-n.result c.copy_front-n.new.buf ≡ take c.copy_front-n.result (drop c.in-Some.from c.index-pieces-at.result) = first_of (search rules, grind (arith, common_steps)) in
    reads_at c.self.inside.pieces c.args.self.now.pieces c.index-pieces-at.result c.copy_front-n.new.buf (length c.args.buf.now) c.in-Some.at c.in-Some.from c.copy_front-n.result place (first_of (search rules, grind arith)) c.requires count front

pub returns-in-Some-clause-bytes : goal.returns-in-Some-clause-bytes
returns-in-Some-clause-bytes c = (reads (goal.at.returns-in-Some-clause-bytes c).After-copy_front-n).moves

pub returns-in-Some-clause-ended : goal.returns-in-Some-clause-ended
returns-in-Some-clause-ended c =
    let some : 0 < c.copy_front-n.result = (reads (goal.at.returns-in-Some-clause-ended c).After-copy_front-n).some in
    grind (arith, nat_tests)

pub returns-in-Some-clause-gives : goal.returns-in-Some-clause-gives
returns-in-Some-clause-gives c = (reads (goal.at.returns-in-Some-clause-gives c).After-copy_front-n).gives

pub returns-in-Some-clause-after : goal.returns-in-Some-clause-after
returns-in-Some-clause-after c =
    let read : ReadsAt c.self.inside.pieces c.args.self.now.pieces c.copy_front-n.new.buf (length c.args.buf.now) c.in-Some.at c.in-Some.from c.copy_front-n.result = reads (goal.at.returns-in-Some-clause-after c).After-copy_front-n in
    let pieces : pieces_from c.self.inside.pieces c.in-Some.at (c.in-Some.from + c.copy_front-n.result) ≡ filled (cut_by c.copy_front-n.result c.args.self.now.pieces) = read.after in
    let some : 0 < c.copy_front-n.result = read.some in
    let not_ended : false ≡ (c.copy_front-n.result == 0) = grind (arith, nat_tests) in
    let calls : c.next_fails.new.self ≡ record c.self.inside.calls { made = raised c.self.inside.calls.made } = first_of (search rules, grind (arith, common_steps)) in
    let were : c.self.inside.calls ≡ c.args.self.now.calls = ap (λ s. s.calls) c.self.view_is in
    first_of (cc, search rules, grind (arith, common_steps))
