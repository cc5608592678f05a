use Rattle.std.proofs.Common.{sym, ap, ◌∙◌, take, drop, length-drop}
use Rattle.std.proofs.Math.ListN.{drop_of_length-le}
use Rattle.std.proofs.Math.Seq.{take-length}
use Rattle.lisp_sequences.proofs.ListLemmas.{nthcdr-drop}
use Rattle.lisp_sequences.proofs.lists.nthcdr.Goals as goal

pub returns-then-n-items : goal.returns-then-n-items
returns-then-n-items c = sym (nthcdr-drop c.args.n c.args.items.now ∙ drop_of_length-le c.args.items.now c.if-n-items.true)

pub returns-else-n-items : goal.returns-else-n-items
returns-else-n-items c =
    let rest = drop c.args.n c.args.items.now in
    ap (λ n. take n rest) (sym (length-drop c.args.n c.args.items.now)) ∙ (take-length rest ∙ sym (nthcdr-drop c.args.n c.args.items.now))
