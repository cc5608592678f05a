-- Pieces, and places in them.
use Rattle.std.proofs.Common.{◌≡◌, ℕ, suc, ◌+◌, ◌<◌, ◌≤◌, min, List, [], ◌∷◌, ◌++◌, length, get_or, take, drop, refl, sym, ap, ◌∙◌, subst, arith, add-one, drop-cons, length-append, length-drop}
use Rattle.std.specs.Prelude.{IfSome}
use Rattle.std.proofs.lemmas.List.{drop-drop, drop_all, drop-append-le, take-append-le}
use Rattle.std.proofs.lemmas.Option.{slice_get-get_or}
use Rattle.outside_traits.specs.Source.{Moves}
use Rattle.outside_traits.specs.MemSource.{octets_of, filled, cut_by, pieces_from, IsAt, count_given}

-- empty pieces add no octet
pub octets_of-filled : (pieces : List (List ℕ)) → octets_of (filled pieces) ≡ octets_of pieces
octets_of-filled [] = refl
octets_of-filled ([] ∷ pieces) = octets_of-filled pieces
octets_of-filled ((octet ∷ more) ∷ pieces) = ap (λ octets. octet ∷ more ++ octets) (octets_of-filled pieces)

filled-filled : (pieces : List (List ℕ)) → filled (filled pieces) ≡ filled pieces
filled-filled [] = refl
filled-filled ([] ∷ pieces) = filled-filled pieces
filled-filled ((octet ∷ more) ∷ pieces) = ap (λ rest. (octet ∷ more) ∷ rest) (filled-filled pieces)

filled-cons-filled : (piece : List ℕ) (pieces : List (List ℕ)) → filled (piece ∷ filled pieces) ≡ filled (piece ∷ pieces)
filled-cons-filled [] pieces = filled-filled pieces
filled-cons-filled (octet ∷ more) pieces = ap (λ rest. (octet ∷ more) ∷ rest) (filled-filled pieces)

filled-cons : (piece : List ℕ) (pieces : List (List ℕ)) → 0 < length piece → filled (piece ∷ pieces) ≡ piece ∷ filled pieces
filled-cons [] pieces some = absurd (omega arith)
filled-cons (octet ∷ more) pieces some = refl

cut_by-zero : (pieces : List (List ℕ)) → cut_by 0 pieces ≡ pieces
cut_by-zero [] = refl
cut_by-zero (piece ∷ pieces) = refl

pub octets_of-pieces_from : (pieces : List (List ℕ)) → octets_of (pieces_from pieces 0 0) ≡ octets_of pieces
octets_of-pieces_from pieces = ap (λ all. octets_of (filled all)) (cut_by-zero pieces) ∙ octets_of-filled pieces

-- the pieces from a place in a piece on, and those from the next piece on
pieces_from-at : (pieces : List (List ℕ)) (at from : ℕ) (piece : List ℕ) → at < length pieces → piece ≡ get_or pieces at piece
    → pieces_from pieces at from ≡ filled (drop from piece ∷ drop (suc at) pieces)
pieces_from-at pieces at from piece within is =
    ap (λ all. filled (cut_by from all)) (drop-cons pieces at piece within) ∙ ap (λ p. filled (drop from p ∷ drop (suc at) pieces)) (sym is)

-- a piece that was used up is passed over
pub pieces_from-next : (pieces : List (List ℕ)) (at from : ℕ) (piece : List ℕ) → at < length pieces → piece ≡ get_or pieces at piece → length piece ≤ from
    → pieces_from pieces (at + 1) 0 ≡ pieces_from pieces at from
pieces_from-next pieces at from piece within is past =
    ap (λ n. pieces_from pieces n 0) (add-one at)
    ∙ (ap filled (cut_by-zero (drop (suc at) pieces))
    ∙ sym (pieces_from-at pieces at from piece within is ∙ ap (λ p. filled (p ∷ drop (suc at) pieces)) (drop_all from piece past)))

-- what is left at a place that holds an octet, and how a read changes it
left_at : (pieces left : List (List ℕ)) (piece : List ℕ) (at from : ℕ) → IsAt pieces left at from → piece ≡ get_or pieces at piece
    → (from < length piece) × (left ≡ drop from piece ∷ filled (drop (suc at) pieces))
left_at pieces left piece at from place is =
    let inside : from < length piece = subst (λ p. from < length p) (sym is)
    (subst (λ o. IfSome o (λ p. from < length p)) (slice_get-get_or pieces at piece place.in_range) place.in_piece) in
    (inside, sym place.is ∙ (pieces_from-at pieces at from piece place.in_range is ∙ filled-cons (drop from piece) (drop (suc at) pieces) (omega (arith, length-drop from piece))))

pieces_from-on : (pieces left : List (List ℕ)) (piece : List ℕ) (at from n : ℕ) → IsAt pieces left at from → piece ≡ get_or pieces at piece
    → pieces_from pieces at (from + n) ≡ filled (cut_by n left)
pieces_from-on pieces left piece at from n place is =
    let rest : List (List ℕ) = drop (suc at) pieces in
    pieces_from-at pieces at (from + n) piece place.in_range is
    ∙ (ap (λ p. filled (p ∷ rest)) (sym (drop-drop n from piece))
    ∙ (sym (filled-cons-filled (drop n (drop from piece)) rest)
    ∙ ap (λ all. filled (cut_by n all)) (sym (left_at pieces left piece at from place is).1)))

-- the front of the first piece went to the front of the buffer
moves : (head buf : List ℕ) (rest : List (List ℕ)) (n : ℕ) → 0 < n → n ≤ length head → take n buf ≡ take n head
    → Moves (octets_of (head ∷ rest)) (octets_of (filled (cut_by n (head ∷ rest)))) buf n
moves head buf rest n some within front = record {
  within = omega (arith, length-append head (octets_of rest));
  front = front ∙ sym (take-append-le n head (octets_of rest) within);
  rest = octets_of-filled (drop n head ∷ rest) ∙ sym (drop-append-le n head (octets_of rest) within);
  at_end = (λ none. absurd (omega arith), λ none. absurd (omega (arith, ap length none, length-append head (octets_of rest))));
}

-- what a read at a place that holds an octet does
pub record ReadsAt (pieces left : List (List ℕ)) (buf : List ℕ) (room at from n : ℕ) : Type 0 where
  pub moves : Moves (octets_of left) (octets_of (pieces_from pieces at (from + n))) buf n
  pub some : 0 < n
  pub gives : n ≡ count_given room left
  pub after : pieces_from pieces at (from + n) ≡ filled (cut_by n left)

pub reads_at : (pieces left : List (List ℕ)) (piece buf : List ℕ) (room at from n : ℕ) → IsAt pieces left at from → piece ≡ get_or pieces at piece
    → 0 < room → n ≡ min (length (drop from piece)) room → take n buf ≡ take n (drop from piece)
    → ReadsAt pieces left buf room at from n
reads_at pieces left piece buf room at from n place is some count front =
    let rest : List (List ℕ) = filled (drop (suc at) pieces) in
    let here = left_at pieces left piece at from place is in
    let long : 0 < length (drop from piece) = omega (arith, here.0, length-drop from piece) in
    let after : pieces_from pieces at (from + n) ≡ filled (cut_by n left) = pieces_from-on pieces left piece at from n place is in
    record {
      moves = subst (λ new. Moves (octets_of left) (octets_of new) buf n) (sym after)
          (subst (λ old. Moves (octets_of old) (octets_of (filled (cut_by n old))) buf n) (sym here.1) (moves (drop from piece) buf rest n (omega arith) (omega arith) front));
      some = omega arith;
      gives = count ∙ ap (count_given room) (sym here.1);
      after = after;
    }
