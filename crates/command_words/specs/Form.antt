-- The words whose numbers the command reads: they are told apart by hand.
use Rattle.std.specs.Prelude.{ℕ, Bool, false, ◌&&◌, ◌||◌, List, [], ◌∷◌, codes}
use Rattle.std.specs.Str.{bytes_eq}
use Rattle.command_words.specs.Words.{is_number, journal_option, names_option, steps_option}

-- the two names, in either order
abbrev pub are_both : List ℕ → List ℕ → Bool
are_both name other =
    (bytes_eq name steps_option.name && bytes_eq other journal_option.name) || (bytes_eq name journal_option.name && bytes_eq other steps_option.name)

-- the form `pipe` with some of its options, each once and with a number
abbrev pub has_form : List (List ℕ) → Bool
has_form (form ∷ []) = bytes_eq form (codes "pipe")
has_form (form ∷ name ∷ number ∷ []) = bytes_eq form (codes "pipe") && (names_option (name, number) && is_number number)
has_form (form ∷ name ∷ number ∷ other ∷ further ∷ []) =
    bytes_eq form (codes "pipe") && (are_both name other && (is_number number && is_number further))
has_form words = false
