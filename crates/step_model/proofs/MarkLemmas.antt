-- What keeps the marks of a context: going in, announcing, assigning a variable.
use Rattle.std.proofs.Common.{◌≡◌, ℕ, zero, suc, ◌+◌, Bool, true, false, List, [], ◌∷◌, ◌++◌, Option, Some, None, refl, ap}
use Rattle.std.specs.Prelude.{if◌then◌else◌}
use Rattle.lisp_data.specs.declared.symbol.Symbol.{Symbol}
use Rattle.lisp_data.specs.declared.value.Value.{Value}
use Rattle.term_model.specs.declared.found.Found.{Found}
use Rattle.term_model.specs.declared.found.Found.TheVariants.{Already, Here, Inside}
use Rattle.term_model.specs.declared.frame.Frame.{Frame}
use Rattle.term_model.specs.declared.frame.Frame.TheVariants as frame
use Rattle.term_model.specs.declared.plain.Plain.{Plain}
use Rattle.term_model.specs.declared.plain.Plain.TheVariants as plain
use Rattle.term_model.specs.Exit.{again, stir}
use Rattle.term_model.specs.GoingIn.{look}
use Rattle.term_model.specs.Room.{enter, levels, wrap}
use Rattle.lisp_data.specs.Same.{same_symbol}
use Rattle.term_model.specs.Search as sight
use Rattle.term_model.specs.Search.{Sight, changed, changed_by}
use Rattle.term_model.specs.Term.{Context}
use Rattle.term_model.specs.Variables.{dynamic_to, lexical_to, with_dynamic, with_lexical}
use Rattle.step_model.specs.Marks.{depth, mark_of, marks}

pub levels-depth : (c : Context) → levels c ≡ depth (marks c)
levels-depth [] = refl
levels-depth (frame.On p ∷ c) = levels-depth c
levels-depth (frame.Protect k cleanup ∷ c) = levels-depth c
levels-depth (frame.Cleanup k saved ∷ c) = levels-depth c
levels-depth (frame.Rex i id form ∷ c) = levels-depth c
levels-depth (frame.Sldb n condition told ∷ c) = ap (λ k. k + 1) (levels-depth c)
levels-depth (frame.Ask kind tag ∷ c) = levels-depth c

-- what goes in are plain layers
pub marks-enter : (space : ℕ) (c : Context) (found : Found) → marks c ≡ marks (enter space c found).around
marks-enter space c (Already v) = refl
marks-enter space c (Here f) = refl
marks-enter zero c (Inside p e) = refl
marks-enter (suc space) c (Inside p e) = marks-enter space (frame.On (plain.Form p) ∷ c) (look e)

pub marks-wrap : (space : ℕ) (c : Context) (ps : List Plain) (found : Found) → marks c ≡ marks (wrap space c ps found).around
marks-wrap space c [] found = marks-enter space c found
marks-wrap zero c (p ∷ []) (Already v) = refl
marks-wrap zero c (p ∷ ps) found = refl
marks-wrap (suc space) c (p ∷ ps) found = marks-wrap space (frame.On p ∷ c) ps found

pub marks-again : (c : Context) → marks c ≡ marks (again c)
marks-again [] = refl
marks-again (frame.Sldb n condition told ∷ c) = refl
marks-again (frame.On p ∷ c) = marks-again c
marks-again (frame.Protect k cleanup ∷ c) = ap (λ ms. mark_of (frame.Protect k cleanup) ++ ms) (marks-again c)
marks-again (frame.Cleanup k saved ∷ c) = ap (λ ms. mark_of (frame.Cleanup k saved) ++ ms) (marks-again c)
marks-again (frame.Rex i id form ∷ c) = ap (λ ms. mark_of (frame.Rex i id form) ++ ms) (marks-again c)
marks-again (frame.Ask kind tag ∷ c) = ap (λ ms. mark_of (frame.Ask kind tag) ++ ms) (marks-again c)

pub marks-stir : (b : Bool) (c : Context) → marks c ≡ marks (stir b c)
marks-stir true c = marks-again c
marks-stir false c = refl

-- a change of a plain layer
abbrev pub Plainly : Frame → Sight Frame → Type 0
Plainly l (sight.Here (frame.On p)) = mark_of l ≡ []
Plainly l (sight.Here _) = ⊥
Plainly l sight.Ends = Unit {0}
Plainly l sight.Past = Unit {0}

-- the context with the changed layer, if there is one, has the same marks
abbrev pub SameMarks : Context → Option Context → Type 0
SameMarks c (Some d) = marks c ≡ marks d
SameMarks c None = Unit {0}

same_further : (l : Frame) (c : Context) (o : Option Context) → SameMarks c o → SameMarks (l ∷ c) (changed_by l c sight.Past o)
same_further l c (Some d) h = ap (λ ms. mark_of l ++ ms) h
same_further l c None h = tt

same_by : (l : Frame) (c : Context) (s : Sight Frame) (o : Option Context) → Plainly l s → SameMarks c o → SameMarks (l ∷ c) (changed_by l c s o)
same_by l c (sight.Here (frame.On p)) o h g = ap (λ ms. ms ++ marks c) h
same_by l c sight.Ends o h g = tt
same_by l c sight.Past o h g = same_further l c o g
same_by l c (sight.Here _) o h g = absurd h

same_changed : (look : Frame → Sight Frame) (plainly : (l : Frame) → Plainly l (look l)) (c : Context) → SameMarks c (changed look c)
same_changed look plainly [] = tt
same_changed look plainly (l ∷ c) = same_by l c (look l) (changed look c) (plainly l) (same_changed look plainly c)

plainly_if : (b : Bool) (p q : Plain) → Plainly (frame.On q) (if b then sight.Here (frame.On p) else sight.Past)
plainly_if true p q = refl
plainly_if false p q = tt

lexical_plainly : (s : Symbol) (v : Value) (l : Frame) → Plainly l (lexical_to s v l)
lexical_plainly s v (frame.On (plain.Lexical x w)) = plainly_if (same_symbol x s) (plain.Lexical x v) (plain.Lexical x w)
lexical_plainly s v (frame.On p) = tt
lexical_plainly s v (frame.Protect k cleanup) = tt
lexical_plainly s v (frame.Cleanup k saved) = tt
lexical_plainly s v (frame.Rex i id form) = tt
lexical_plainly s v (frame.Sldb n condition told) = tt
lexical_plainly s v (frame.Ask kind tag) = tt

dynamic_plainly : (s : Symbol) (v : Value) (l : Frame) → Plainly l (dynamic_to s v l)
dynamic_plainly s v (frame.On (plain.Dynamic x w)) = plainly_if (same_symbol x s) (plain.Dynamic x v) (plain.Dynamic x w)
dynamic_plainly s v (frame.On p) = tt
dynamic_plainly s v (frame.Protect k cleanup) = tt
dynamic_plainly s v (frame.Cleanup k saved) = tt
dynamic_plainly s v (frame.Rex i id form) = tt
dynamic_plainly s v (frame.Sldb n condition told) = tt
dynamic_plainly s v (frame.Ask kind tag) = tt

-- assigning a variable
pub marks-with_lexical : (s : Symbol) (v : Value) (c : Context) → SameMarks c (with_lexical s v c)
marks-with_lexical s v c = same_changed (lexical_to s v) (lexical_plainly s v) c

pub marks-with_dynamic : (s : Symbol) (v : Value) (c : Context) → SameMarks c (with_dynamic s v c)
marks-with_dynamic s v c = same_changed (dynamic_to s v) (dynamic_plainly s v) c
