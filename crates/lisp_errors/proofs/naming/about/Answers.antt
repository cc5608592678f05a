use Rattle.std.proofs.Common.{◌∙◌, sym}
use Rattle.lisp_errors.proofs.LimitLemmas.{limited-none}
use Rattle.lisp_errors.proofs.naming.about.Goals as goal

pub returns-in_ok-value_too_large-in-None : goal.returns-in_ok-value_too_large-in-None
returns-in_ok-value_too_large-in-None c =
    c.in_ok-value_too_large-in-None.ensures ∙ sym (limited-none c.args.kind c.args.current.now c.args.before.now c.args.value.now c.args.after.now c.args.value.now (sym c.in_ok-message_naming.ensures ∙ c.in-None.is))
