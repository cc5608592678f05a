use Rattle.outside_traits.proofs.PieceLemmas.{octets_of-pieces_from}
use Rattle.outside_traits.proofs.mem_source.MemSource.new.Goals as goal

pub returns-clause-octets : goal.returns-clause-octets
returns-clause-octets c = octets_of-pieces_from c.args.pieces
