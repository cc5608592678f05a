use Rattle.std.proofs.Common.{◌≡◌, length, not}
use Rattle.std.specs.List.{list_all}
use Rattle.lisp_syntax.specs.Parts.{is_symbol}
use Rattle.lisp_syntax.proofs.clauses.are_compound.Given as goal

abbrev pub invariant-loop-rest : goal.invariant-loop-rest
invariant-loop-rest l = list_all (λ e. not (is_symbol e)) l.fn.forms ≡ list_all (λ e. not (is_symbol e)) l.rest

abbrev pub decreases-loop-rest : goal.decreases-loop-rest
decreases-loop-rest l = length l.rest
