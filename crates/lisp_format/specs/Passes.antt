-- What the two passes over a control text tell: how long its text is, and the text.
use Rattle.std.specs.Prelude.{◌≡◌, ℕ, ◌+◌, Bool, false, List, [], ◌∷◌, length, encode_utf8, Result, Ok, Err, MatchResult}
use Rattle.lisp_data.specs.Sexp.{capped}
use Rattle.lisp_data.specs.declared.value.Value.{Value}
use Rattle.lisp_format.specs.Formatted.{shown, preceded, obeyed, text_from}
use Rattle.lisp_format.specs.declared.directive.Directive.{Directive}
use Rattle.lisp_format.specs.declared.fault.FormatFault.{FormatFault}
use Rattle.lisp_format.specs.declared.fault.FormatFault.TheVariants.{BadDirective, TooFewArguments, TooLong, NoMemory}
use Rattle.lisp_format.specs.declared.piece.Piece.{Piece}
use Rattle.lisp_format.specs.declared.piece.Piece.TheVariants.{Nothing, Character, Shown}
use Rattle.lisp_format.specs.declared.piece.Step.{Step}

-- what a piece adds
abbrev pub piece_text : List ℕ → Piece → List ℕ
piece_text current Nothing = []
piece_text current (Character c) = encode_utf8 c
piece_text current (Shown style value) = shown current style value.now

-- a character of a control text gives this piece, and the rest goes on so; or it has this fault
abbrev pub GoesOn : Bool → ℕ → List Value → Result Step FormatFault → Type 0
GoesOn after_tilde c values result =
    (current cs : List ℕ) →
    MatchResult result
    (λ s. preceded (piece_text current s.piece) (text_from current s.after_tilde cs s.left.now) ≡ text_from current after_tilde (c ∷ cs) values)
    (λ fault. text_from current after_tilde (c ∷ cs) values ≡ Err fault)

-- a directive gives this piece for these arguments, and the rest goes on so; or it has this fault
abbrev pub Obeys : Directive → List Value → Result Step FormatFault → Type 0
Obeys directive values result =
    (current : List ℕ) (rest : List Value → Result (List ℕ) FormatFault) →
    MatchResult result
    (λ s. (s.after_tilde ≡ false) × (preceded (piece_text current s.piece) (rest s.left.now) ≡ obeyed current directive rest values))
    (λ fault. obeyed current directive rest values ≡ Err fault)

-- how long a text is, after so many octets, as 64 bits hold it
abbrev pub reckoned : ℕ → Result (List ℕ) FormatFault → Result ℕ FormatFault
reckoned n (Ok text) = Ok (capped (n + length text))
reckoned n (Err fault) = Err fault

-- the text is written, or is not there, want of memory aside
abbrev pub Writes : Result (List ℕ) FormatFault → Result (List ℕ) FormatFault → Type 0
Writes (Ok text) answer = answer ≡ Ok text
Writes (Err NoMemory) answer = Unit {0}
Writes (Err BadDirective) answer = answer ≡ Err BadDirective
Writes (Err TooFewArguments) answer = answer ≡ Err TooFewArguments
Writes (Err TooLong) answer = answer ≡ Err TooLong
