use Rattle.std.proofs.Common.{◌≡◌, take}
use Rattle.packet_framing.specs.Frames.{frames}
use Rattle.outlet.proofs.texts.packets_of.Given as goal

abbrev pub invariant-loop-text : goal.invariant-loop-text
invariant-loop-text l = l.packets ≡ frames (take l.text-index l.texts)
