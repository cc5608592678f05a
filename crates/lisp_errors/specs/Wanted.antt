-- The names of what an argument should have been.
use Rattle.std.specs.Prelude.{ℕ, List, codes}
use Rattle.lisp_errors.specs.declared.wanted.Wanted.{Wanted}
use Rattle.lisp_errors.specs.declared.wanted.Wanted.TheVariants as wanted

-- the name that the message of a wrong kind gives
abbrev pub wanted_name : Wanted → List ℕ
wanted_name wanted.List = codes "LIST"
wanted_name wanted.Integer = codes "INTEGER"
wanted_name wanted.String = codes "STRING"
wanted_name wanted.Symbol = codes "SYMBOL"
wanted_name wanted.Index = codes "INDEX"
wanted_name wanted.Type = codes "TYPE"
wanted_name wanted.Condition = codes "CONDITION"
