use Rattle.std.proofs.Common.{◌≡◌, ◌≤◌, map, length, take}
use Rattle.std.specs.Prelude.{All}
use Rattle.session_model.specs.Wire.{text_of}
use Rattle.swank_session.proofs.writing.texts_of.Given as goal

abbrev pub invariant-loop-m : goal.invariant-loop-m
invariant-loop-m l = record {
  texts : l.texts ≡ map text_of (take l.m-index l.messages);
  short : All (λ text. length text ≤ 0xFFFFFF) l.texts;
}
