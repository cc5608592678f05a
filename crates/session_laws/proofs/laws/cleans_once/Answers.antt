use Rattle.session_laws.proofs.CleansInnermost.{cleans_innermost}
use Rattle.session_laws.proofs.KeepsCleanups as cleanups
use Rattle.session_laws.proofs.laws.cleans_once.Goals as goal

pub returns : goal.returns
returns c = record { once = cleanups.cleans_once; innermost = cleans_innermost }
