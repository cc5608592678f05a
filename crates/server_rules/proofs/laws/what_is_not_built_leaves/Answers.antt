use Rattle.server_rules.proofs.SimpleLemmas.{abort_exit-simple, messages-left}
use Rattle.server_rules.proofs.StepSimple.{abort_step, built_step, unbuilt_step}
use Rattle.server_rules.proofs.laws.what_is_not_built_leaves.Goals as goal

abbrev pub returns-clause-exit : goal.returns-clause-exit
returns-clause-exit c = λ d e. abort_exit-simple d e

abbrev pub returns-clause-built : goal.returns-clause-built
returns-clause-built c = λ n e b. built_step n e b

abbrev pub returns-clause-unbuilt : goal.returns-clause-unbuilt
returns-clause-unbuilt c = λ n e b. unbuilt_step n e b

abbrev pub returns-clause-abort : goal.returns-clause-abort
returns-clause-abort c = λ n e r. abort_step n e r

abbrev pub returns-clause-messages : goal.returns-clause-messages
returns-clause-messages c = λ t d. messages-left t d
