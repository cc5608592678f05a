-- What assigning and announcing leave as it was.
use Rattle.std.proofs.Common.{◌≡◌, suc, ◌+◌, ℕ, Bool, true, false, ◌&&◌, [], ◌∷◌, length, Option, Some, None, refl, ap}
use Rattle.std.specs.Prelude.{if◌then◌else◌, nat_lt}
use Rattle.lisp_data.specs.declared.symbol.Symbol.{Symbol}
use Rattle.lisp_data.specs.declared.value.Value.{Value}
use Rattle.term_model.specs.declared.frame.Frame.{Frame}
use Rattle.term_model.specs.declared.frame.Frame.TheVariants as frame
use Rattle.term_model.specs.declared.plain.Plain.{Plain}
use Rattle.term_model.specs.declared.plain.Plain.TheVariants as plain
use Rattle.term_model.specs.Breaks.{may_open, max_levels}
use Rattle.term_model.specs.Exit.{again, stir}
use Rattle.term_model.specs.Room.{levels}
use Rattle.lisp_data.specs.Same.{same_symbol}
use Rattle.term_model.specs.Search as sight
use Rattle.term_model.specs.Search.{Sight, changed, changed_by}
use Rattle.term_model.specs.Term.{Context}
use Rattle.term_model.specs.Variables.{dynamic_to, lexical_to, with_dynamic, with_lexical}
use Rattle.step_model.specs.Facts.{bare, bare_plain, bares}

pub bares-again : (c : Context) → bares (again c) ≡ bares c
bares-again [] = refl
bares-again (frame.Sldb n condition told ∷ c) = refl
bares-again (frame.On p ∷ c) = ap (λ d. bare (frame.On p) ∷ d) (bares-again c)
bares-again (frame.Protect k cleanup ∷ c) = ap (λ d. bare (frame.Protect k cleanup) ∷ d) (bares-again c)
bares-again (frame.Cleanup k kept ∷ c) = ap (λ d. bare (frame.Cleanup k kept) ∷ d) (bares-again c)
bares-again (frame.Rex i id form ∷ c) = ap (λ d. bare (frame.Rex i id form) ∷ d) (bares-again c)
bares-again (frame.Ask kind tag ∷ c) = ap (λ d. bare (frame.Ask kind tag) ∷ d) (bares-again c)

pub bares-stir : (b : Bool) (c : Context) → bares (stir b c) ≡ bares c
bares-stir true c = bares-again c
bares-stir false c = refl

pub length-bares : (c : Context) → length (bares c) ≡ length c
length-bares [] = refl
length-bares (l ∷ c) = ap suc (length-bares c)

pub levels-bares : (c : Context) → levels (bares c) ≡ levels c
levels-bares [] = refl
levels-bares (frame.Sldb n condition told ∷ c) = ap (λ k. k + 1) (levels-bares c)
levels-bares (frame.On p ∷ c) = levels-bares c
levels-bares (frame.Protect k cleanup ∷ c) = levels-bares c
levels-bares (frame.Cleanup k kept ∷ c) = levels-bares c
levels-bares (frame.Rex i id form ∷ c) = levels-bares c
levels-bares (frame.Ask kind tag ∷ c) = levels-bares c

pub may_open-bares : (most : ℕ) (c : Context) → may_open most (bares c) ≡ may_open most c
may_open-bares most c = ap (λ k. nat_lt k most && nat_lt k max_levels) (levels-bares c)

-- a changed layer that is bare the same
abbrev pub Barely : Frame → Sight Frame → Type 0
Barely l (sight.Here new) = bare new ≡ bare l
Barely l sight.Ends = Unit {0}
Barely l sight.Past = Unit {0}

abbrev pub SameBares : Context → Option Context → Type 0
SameBares c (Some d) = bares d ≡ bares c
SameBares c None = Unit {0}

same_further : (l : Frame) (c : Context) (o : Option Context) → SameBares c o → SameBares (l ∷ c) (changed_by l c sight.Past o)
same_further l c (Some d) h = ap (λ e. bare l ∷ e) h
same_further l c None h = tt

same_by : (l : Frame) (c : Context) (s : Sight Frame) (o : Option Context) → Barely l s → SameBares c o → SameBares (l ∷ c) (changed_by l c s o)
same_by l c (sight.Here new) o h g = ap (λ x. x ∷ bares c) h
same_by l c sight.Ends o h g = tt
same_by l c sight.Past o h g = same_further l c o g

same_changed : (look : Frame → Sight Frame) (barely : (l : Frame) → Barely l (look l)) (c : Context) → SameBares c (changed look c)
same_changed look barely [] = tt
same_changed look barely (l ∷ c) = same_by l c (look l) (changed look c) (barely l) (same_changed look barely c)

barely_if : (b : Bool) (p q : Plain) → bare_plain p ≡ bare_plain q → Barely (frame.On q) (if b then sight.Here (frame.On p) else sight.Past)
barely_if true p q e = ap (λ x. frame.On x) e
barely_if false p q e = tt

lexical_barely : (s : Symbol) (v : Value) (l : Frame) → Barely l (lexical_to s v l)
lexical_barely s v (frame.On (plain.Lexical x w)) = barely_if (same_symbol x s) (plain.Lexical x v) (plain.Lexical x w) refl
lexical_barely s v (frame.On p) = tt
lexical_barely s v (frame.Protect k cleanup) = tt
lexical_barely s v (frame.Cleanup k kept) = tt
lexical_barely s v (frame.Rex i id form) = tt
lexical_barely s v (frame.Sldb n condition told) = tt
lexical_barely s v (frame.Ask kind tag) = tt

dynamic_barely : (s : Symbol) (v : Value) (l : Frame) → Barely l (dynamic_to s v l)
dynamic_barely s v (frame.On (plain.Dynamic x w)) = barely_if (same_symbol x s) (plain.Dynamic x v) (plain.Dynamic x w) refl
dynamic_barely s v (frame.On p) = tt
dynamic_barely s v (frame.Protect k cleanup) = tt
dynamic_barely s v (frame.Cleanup k kept) = tt
dynamic_barely s v (frame.Rex i id form) = tt
dynamic_barely s v (frame.Sldb n condition told) = tt
dynamic_barely s v (frame.Ask kind tag) = tt

pub bares-with_lexical : (s : Symbol) (v : Value) (c : Context) → SameBares c (with_lexical s v c)
bares-with_lexical s v c = same_changed (lexical_to s v) (lexical_barely s v) c

pub bares-with_dynamic : (s : Symbol) (v : Value) (c : Context) → SameBares c (with_dynamic s v c)
bares-with_dynamic s v c = same_changed (dynamic_to s v) (dynamic_barely s v) c
