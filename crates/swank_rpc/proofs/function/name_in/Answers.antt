use Rattle.std.proofs.Common.{rules, sym}
use Rattle.swank_rpc.proofs.NameLemmas.{name_in-none}
use Rattle.swank_rpc.proofs.function.name_in.Goals as goal

pub returns-in-None : goal.returns-in-None
returns-in-None c = sym (name_in-none c.args.token.now (search rules))
