use Rattle.session_laws.proofs.Facts as facts
use Rattle.session_laws.proofs.Rooms as rooms
use Rattle.session_laws.proofs.laws.facts_hold.Goals as goal

pub returns : goal.returns
returns c = record { facts = facts.facts_hold; room = rooms.have_room }
