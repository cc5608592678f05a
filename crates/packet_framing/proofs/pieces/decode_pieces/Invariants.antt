use Rattle.std.proofs.Common.{◌≡◌, take}
use Rattle.std.specs.List.{concat}
use Rattle.packet_framing.specs.Packets.{packets}
use Rattle.packet_framing.proofs.pieces.decode_pieces.Given as goal

-- what was given and what is kept are the packets of the pieces so far
abbrev pub invariant-loop-piece : goal.invariant-loop-piece
invariant-loop-piece l = record {
  payloads : l.payloads ≡ (packets (concat (take l.piece-index l.pieces))).payloads;
  rest : l.decoder ≡ (packets (concat (take l.piece-index l.pieces))).rest;
}
