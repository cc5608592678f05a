-- The layers that the rows make which are built: requests, and plain layers without restarts.
use Rattle.std.specs.Prelude.{Bool, true, false, ◌&&◌, [], ◌∷◌}
use Rattle.term_model.specs.declared.frame.Frame.{Frame}
use Rattle.term_model.specs.declared.frame.Frame.TheVariants as frame
use Rattle.term_model.specs.declared.plain.Plain.{Plain}
use Rattle.term_model.specs.declared.plain.Plain.TheVariants as plain
use Rattle.term_model.specs.Term.{Context}

abbrev pub has_no_restarts : Plain → Bool
has_no_restarts (plain.Restarts offers) = false
has_no_restarts _ = true

abbrev pub is_simple : Frame → Bool
is_simple (frame.On p) = has_no_restarts p
is_simple (frame.Rex i id form) = true
is_simple _ = false

-- whether all layers are
abbrev pub are_simple : Context → Bool
are_simple [] = true
are_simple (l ∷ c) = is_simple l && are_simple c
