use Rattle.std.proofs.Common.{◌≡◌, map, take}
use Rattle.std.specs.Prelude.{All}
use Rattle.rpc_messages.specs.Outgoing as outgoing
use Rattle.rpc_messages.specs.Plain.{HasTexts}
use Rattle.rpc_messages.proofs.to_emacs.restart_lines.Given as goal

abbrev pub invariant-loop-line : goal.invariant-loop-line
invariant-loop-line l = (l.items ≡ map outgoing.restart_form (take l.line-index l.lines)) × All HasTexts (take l.line-index l.lines)
