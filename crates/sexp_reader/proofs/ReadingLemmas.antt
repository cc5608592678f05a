-- One character, and the others.
use Rattle.std.proofs.Common.{◌≡◌, ℕ, ◌+◌, List, [], ◌∷◌, length, refl, ap, ◌∙◌, arith}
use Rattle.std.specs.Prelude.{Ok, Err}
use Rattle.sexp_reader.specs.declared.state.Reader.{Reader}
use Rattle.sexp_reader.specs.declared.fault.ReadFault.{ReadFault}
use Rattle.sexp_reader.specs.declared.fault.ReadFault.TheVariants.{End, Unclosed, StrayClose, BadToken, TooDeep, NumberTooWide, TrailingText, NoMemory}
use Rattle.sexp_reader.specs.Answers.{Fails, ◌>>=◌}
use Rattle.sexp_reader.specs.Grammar.{place}
use Rattle.sexp_reader.specs.Reading.{run, step, finish}

pub run-cons : (text : List ℕ) (r : Reader) (c : ℕ) (cs : List ℕ) → run text r (c ∷ cs) ≡ (step r (place text (c ∷ cs)) c >>= λ s. run text s cs)
unfolding run
run-cons text r c cs = refl

pub run-nil : (text : List ℕ) (r : Reader) → run text r [] ≡ finish r
unfolding run
run-nil text r = refl

pub run-ok : (text : List ℕ) (r s : Reader) (c : ℕ) (cs : List ℕ) → step r (place text (c ∷ cs)) c ≡ Ok s → run text r (c ∷ cs) ≡ run text s cs
run-ok text r s c cs e = run-cons text r c cs ∙ ap (λ x. x >>= λ t. run text t cs) e

pub run-err : (text : List ℕ) (r : Reader) (c : ℕ) (cs : List ℕ) (fault : ReadFault) → step r (place text (c ∷ cs)) c ≡ Err fault → run text r (c ∷ cs) ≡ Err fault
run-err text r c cs fault e = run-cons text r c cs ∙ ap (λ x. x >>= λ s. run text s cs) e

-- a fault stops the run
pub fails-run : (text : List ℕ) (fault : ReadFault) (r : Reader) (c : ℕ) (cs : List ℕ) → Fails fault (step r (place text (c ∷ cs)) c) → Fails fault (run text r (c ∷ cs))
fails-run text End r c cs e = run-err text r c cs End e
fails-run text Unclosed r c cs e = run-err text r c cs Unclosed e
fails-run text StrayClose r c cs e = run-err text r c cs StrayClose e
fails-run text BadToken r c cs e = run-err text r c cs BadToken e
fails-run text TooDeep r c cs e = run-err text r c cs TooDeep e
fails-run text NumberTooWide r c cs e = run-err text r c cs NumberTooWide e
fails-run text TrailingText r c cs e = run-err text r c cs TrailingText e
fails-run text NoMemory r c cs e = tt

-- the place of a character is what stands before it
pub place_is : (at : ℕ) (text rest : List ℕ) → at + length rest ≡ length text → at ≡ place text rest
unfolding place
place_is at text rest e = omega arith
