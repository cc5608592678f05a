use Rattle.server_rules.proofs.SimpleLemmas.{no_levels}
use Rattle.server_rules.proofs.laws.no_level_is_opened.Goals as goal

abbrev pub returns-clause-levels : goal.returns-clause-levels
returns-clause-levels c = λ d e. no_levels d e
