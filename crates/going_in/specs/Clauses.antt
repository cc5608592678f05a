-- The one row whose subforms are none that it evaluates, but clauses.
use Rattle.std.specs.Prelude.{Bool, true, false}
use Rattle.syntax_trees.specs.declared.row.Bare.TheVariants as bare
use Rattle.syntax_trees.specs.declared.row.Row.{Row}
use Rattle.syntax_trees.specs.declared.row.Row.TheVariants as row

abbrev pub has_clauses : Row → Bool
has_clauses (row.Bare bare.Cond) = true
has_clauses _ = false
