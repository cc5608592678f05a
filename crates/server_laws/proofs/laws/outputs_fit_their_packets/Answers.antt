use Rattle.server_laws.proofs.Fresh.{fresh_short}
use Rattle.server_laws.proofs.Payloads.{messages_small}
use Rattle.server_laws.proofs.Sessions.{outputs_fit}
use Rattle.server_laws.proofs.laws.outputs_fit_their_packets.Goals as goal

abbrev pub returns : goal.returns
returns c = record { fit = λ image j h small legal. outputs_fit image j h small legal; fresh = fresh_short; stream = λ octets messages are. messages_small are }
