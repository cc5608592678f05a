use Rattle.std.proofs.Common.{map}
use Rattle.lisp_syntax.specs.Fits.{written}
use Rattle.lisp_syntax.specs.Rows.{fitting}
use Rattle.lisp_syntax.proofs.Parses.{lead_bad, body_gives}
use Rattle.lisp_syntax.proofs.parser.+parse.Goals as goal

pub subtrees-returns-in-Err : goal.subtrees-returns-in-Err
subtrees-returns-in-Err t c = lead_bad (fitting c.args.row.now (map written c.args.lead.now) c.args.body.now) c.in-Err.fault c.in_ok-trees.trees c.in_ok-trees.ensures c.in-Err.ensures

pub subtrees-returns : goal.subtrees-returns
subtrees-returns t c = body_gives (fitting c.args.row.now (map written c.args.lead.now) c.args.body.now) c.body_sort.result c.in_ok-trees.trees c.in-Ok.trees c.body_trees.result c.in_ok-trees.ensures c.in-Ok.ensures c.body_sort.ensures c.body_trees.ensures
