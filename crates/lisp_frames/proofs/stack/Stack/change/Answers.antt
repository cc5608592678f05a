use Rattle.std.proofs.Common.{◌≡◌, ◌∙◌, ap, sym, arith}
use Rattle.lisp_frames.specs.Stack.{by_change, changed_at, with_context}
use Rattle.lisp_frames.proofs.ContextLemmas.{changed_at_zero}
use Rattle.lisp_frames.proofs.stack.Stack.change.Goals as goal

pub returns-in_default : goal.returns-in_default
returns-in_default c =
    let zero : c.args.n ≡ 0 = grind arith in
    let same : changed_at c.args.n (by_change c.args.change) c.args.self.now.context ≡ c.args.self.now.context
    = ap (λ m. changed_at m (by_change c.args.change) c.args.self.now.context) zero ∙ changed_at_zero (by_change c.args.change) c.args.self.now.context in
    ap (λ d. with_context d c.args.self.now) (sym same)
