use Rattle.std.proofs.Common.{◌≡◌, ◌++◌, length}
use Rattle.packet_framing.specs.Packets.{packets}
use Rattle.packet_framing.proofs.pieces.take_packets.Given as goal

-- the payloads taken and those that the decoder still holds are all of them
abbrev pub invariant-loop-payload : goal.invariant-loop-payload
invariant-loop-payload l = record {
  payloads : l.payloads ++ (packets l.decoder).payloads ≡ l.initial.payloads ++ (packets l.initial.decoder).payloads;
  rest : (packets l.decoder).rest ≡ (packets l.initial.decoder).rest;
}

abbrev pub decreases-loop-payload : goal.decreases-loop-payload
decreases-loop-payload l = length l.decoder
