use Rattle.std.specs.Str.Iter.{chars_rest}
use Rattle.rpc_messages.proofs.CutLemmas.{Shows}
use Rattle.rpc_messages.proofs.cut_text.cut.Given as goal

abbrev pub invariant-loop-c : goal.invariant-loop-c
invariant-loop-c l = Shows l.text l.shown (chars_rest l.rest) l.count
