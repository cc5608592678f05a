-- The table of steps of this server: the one table, with the answers of the functions of requests.
use Rattle.step_model.specs.Rules.{Rules}
use Rattle.swank_rpc.specs.Commands as command
use Rattle.swank_rpc.specs.Finishes as finish
use Rattle.server_rules.specs.Built.{built}

abbrev pub rules : Rules
rules = record { command = command.command; finish = finish.finish; built = built }
