use Rattle.server_rules.proofs.NameLemmas.{all-known, machines-standard, operators-standard, ops-standard, others-standard, types-standard}
use Rattle.server_rules.proofs.laws.the_names_of_the_language_are_standard.Goals as goal

pub returns-clause-operator : goal.returns-clause-operator
returns-clause-operator c = operators-standard

pub returns-clause-one_step : goal.returns-clause-one_step
returns-clause-one_step c = ops-standard

pub returns-clause-machine : goal.returns-clause-machine
returns-clause-machine c = machines-standard

pub returns-clause-types : goal.returns-clause-types
returns-clause-types c = types-standard

pub returns-clause-other : goal.returns-clause-other
returns-clause-other c = others-standard

pub returns-clause-known : goal.returns-clause-known
returns-clause-known c = all-known
