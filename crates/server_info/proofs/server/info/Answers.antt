use Rattle.server_info.proofs.server.info.Goals as goal

pub returns : goal.returns
returns c = rw (
  c.in_ok-add-4.ensures,
  c.in_ok-add-3.ensures,
  c.in_ok-add-2.ensures,
  c.in_ok-add.ensures,
  c.in_ok-parts.ensures,
  c.in_ok-package.ensures,
  c.in_ok-string.ensures,
  c.nil.ensures,
  c.nil-2.ensures,
)
