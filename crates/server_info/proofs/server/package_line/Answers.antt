use Rattle.server_info.proofs.server.package_line.Goals as goal

pub returns : goal.returns
returns c = cc (c.in_ok-list.ensures, c.in_ok-symbol.ensures, c.in_ok-symbol-2.ensures, c.in_ok-string.ensures, c.in_ok-string-2.ensures)
