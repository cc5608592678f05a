use Rattle.std.proofs.Common.{sym}
use Rattle.std.proofs.lemmas.List.{drop-drop}
use Rattle.syntax_trees.proofs.forms.Forms.rest.Goals as goal

pub returns-then-at-len : goal.returns-then-at-len
returns-then-at-len c = rw (← c.self.view_is) (sym (drop-drop 1 c.self.inside.at c.self.inside.row))
