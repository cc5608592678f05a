use Rattle.std.proofs.Common.{◌≡◌, ◌∙◌, ◌+◌, suc, sym, ap, take, arith, rules}
use Rattle.lisp_packages.specs.Made.{with_made, with_made_at}
use Rattle.lisp_packages.proofs.MadeLemmas.{with_made-take}
use Rattle.lisp_packages.proofs.packages.Packages.commit.Goals as goal

pub loop-n-preserved : goal.loop-n-preserved
loop-n-preserved c = record {
  so_far =
      let one : with_made_at c.loop-n.self c.args.made.now c.loop-n.n ≡ c.commit_one.new.self = search rules in
      let next : suc c.loop-n.n ≡ c.loop-n.n + 1 = omega arith in
      sym one ∙ ap (λ ps. with_made_at ps c.args.made.now c.loop-n.n) c.loop-n.invariant.so_far
      ∙ sym (with_made-take c.args.self.now c.args.made.now c.loop-n.n) ∙ ap (λ n. with_made c.args.self.now (take n c.args.made.now)) next;
  undone = search rules;
}
