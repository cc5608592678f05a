use Rattle.std.proofs.Common.{◌≡◌}
use Rattle.outside_traits.specs.MemSource.{pieces_from}
use Rattle.outside_traits.proofs.mem_source.first_octet.Given as goal

abbrev pub invariant-loop-i : goal.invariant-loop-i
invariant-loop-i l = pieces_from l.pieces l.i l.skipped ≡ pieces_from l.pieces l.at l.from
