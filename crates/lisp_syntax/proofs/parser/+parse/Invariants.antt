use Rattle.std.proofs.Common.{◌≡◌, ◌≤◌, ◌+◌, ◌*◌, length, map, max}
use Rattle.lisp_data.specs.Value.{depth_of}
use Rattle.lisp_syntax.specs.Fits.{after, over, written}
use Rattle.lisp_syntax.specs.Parsing.{each, item, parsed_item}
use Rattle.lisp_syntax.specs.declared.sort.Sort.TheVariants as sort
use Rattle.lisp_syntax.proofs.parser.+parse.Given as goal

-- what the whole gives is what is there, and behind it what the rest gives
abbrev pub invariant-lead_trees-loop-rest : goal.invariant-lead_trees-loop-rest
invariant-lead_trees-loop-rest l = record {
  whole : after l.fn.trees (each parsed_item (map (item sort.Form) (map written l.fn.forms))) ≡ after l.trees (each parsed_item (map (item sort.Form) (map written l.rest)));
  below : over (map written l.rest) ≤ over (map written l.fn.forms);
}

abbrev pub decreases-lead_trees-loop-rest : goal.decreases-lead_trees-loop-rest
decreases-lead_trees-loop-rest l = length l.rest

abbrev pub invariant-body_trees-loop-rest : goal.invariant-body_trees-loop-rest
invariant-body_trees-loop-rest l = record {
  whole : after l.fn.trees (each parsed_item (map (item l.fn.sort) l.fn.values)) ≡ after l.trees (each parsed_item (map (item l.fn.sort) l.rest));
  below : over l.rest ≤ over l.fn.values;
}

abbrev pub decreases-body_trees-loop-rest : goal.decreases-body_trees-loop-rest
decreases-body_trees-loop-rest l = length l.rest

-- how deep the forms are, and how many calls lie between the function and the parts of a form
abbrev pub decreases-tree_of : goal.decreases-tree_of
decreases-tree_of l = 4 * depth_of l.value.now + 3

abbrev pub decreases-subtrees : goal.decreases-subtrees
decreases-subtrees l = 4 * max (over (map written l.lead.now)) (over l.body.now) + 2

abbrev pub decreases-lead_tree : goal.decreases-lead_tree
decreases-lead_tree l = 4 * depth_of (written l.form) + 4

abbrev pub decreases-lead_trees : goal.decreases-lead_trees
decreases-lead_trees l = 4 * over (map written l.forms.now) + 1

abbrev pub decreases-body_trees : goal.decreases-body_trees
decreases-body_trees l = 4 * over l.values.now + 1
