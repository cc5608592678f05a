use Rattle.server_info.proofs.server.encoding.Goals as goal

pub returns : goal.returns
returns c = cc (c.in_ok-list-2.ensures, c.in_ok-list.ensures, c.in_ok-symbol.ensures, c.in_ok-string.ensures)
