-- A beginning of a legal journal is legal.
use Rattle.std.proofs.Common.{List, [], ◌∷◌, ◌++◌}
use Rattle.step_model.specs.Image.{ImageState}
use Rattle.step_model.specs.Rules.{Rules}
use Rattle.session_model.specs.declared.event.Entry.{Entry}
use Rattle.session_model.specs.Journal.{next}
use Rattle.session_model.specs.Legal.{AreLegal, IsLegalFrom}
use Rattle.session_model.specs.World.{World, start}

AreLegal-prefix : (rules : Rules) (j k : List Entry) (w : World) → AreLegal rules w (j ++ k) → AreLegal rules w j
AreLegal-prefix rules [] k w h = tt
AreLegal-prefix rules (e ∷ j) k w h = (h.0, AreLegal-prefix rules j k (next rules w e).after h.1)

pub prefix_is_legal : (rules : Rules) (image : ImageState) (j k : List Entry) → IsLegalFrom rules image (j ++ k) → IsLegalFrom rules image j
prefix_is_legal rules image j k h = AreLegal-prefix rules j k (start image) h
