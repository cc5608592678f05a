use Rattle.server_info.proofs.server.machine.Goals as goal

pub returns : goal.returns
returns c = cc (c.in_ok-list.ensures, c.in_ok-symbol.ensures, c.in_ok-string.ensures)
