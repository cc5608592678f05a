use Rattle.std.proofs.Common.{◌∙◌, sym, []}
use Rattle.lisp_data.specs.declared.value.Value.TheVariants as value
use Rattle.lisp_errors.proofs.LimitLemmas.{limited-none}
use Rattle.lisp_errors.proofs.naming.stating.Goals as goal

pub returns-in_ok-value_too_large-in-None : goal.returns-in_ok-value_too_large-in-None
returns-in_ok-value_too_large-in-None c =
    c.in_ok-value_too_large-in-None.ensures ∙ sym (limited-none c.args.kind c.args.current.now c.args.before.now c.args.value.now c.args.after.now (value.List []) (sym c.in_ok-message_naming.ensures ∙ c.in-None.is))
