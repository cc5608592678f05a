use Rattle.std.proofs.Common.{◌≡◌, length, is_some}
use Rattle.std.specs.List.{list_all}
use Rattle.lisp_syntax.specs.Table.{handler_clause_of}
use Rattle.lisp_syntax.proofs.clauses.are_handler_clauses.Given as goal

abbrev pub invariant-loop-rest : goal.invariant-loop-rest
invariant-loop-rest l = list_all (λ c. is_some (handler_clause_of c)) l.fn.items ≡ list_all (λ c. is_some (handler_clause_of c)) l.rest

abbrev pub decreases-loop-rest : goal.decreases-loop-rest
decreases-loop-rest l = length l.rest
