-- A thread's term: a tree in which each layer holds one term. The top of the thread is around all layers and is none itself.
use Rattle.std.specs.Prelude.{◌≡◌, List, [], ◌∷◌, ◌++◌, refl}
use Rattle.std.proofs.Common.{ap, ◌∙◌, append-nil}
use Rattle.term_model.specs.declared.focus.Focus.{Focus}
use Rattle.term_model.specs.declared.frame.Frame.{Frame}

-- a layer with the term inside it, or the redex
pub data Term : Type 0 where
  Within : Frame → Term → Term
  At : Focus → Term

-- what is around a redex, the innermost layer first
abbrev pub Context : Type 0
Context = List Frame

-- the term with this inside the context
abbrev pub plug : Context → Term → Term
plug [] t = t
plug (l ∷ c) t = plug c (Within l t)

-- going in from this context on
abbrev pub going_in : Context → Term → Context × Focus
going_in c (Within l t) = going_in (l ∷ c) t
going_in c (At f) = (c, f)

-- the redex of a term and what is around it
abbrev pub split : Term → Context × Focus
split t = going_in [] t

pub going_in-plug : (c d : Context) (t : Term) → going_in d (plug c t) ≡ going_in (c ++ d) t
going_in-plug [] d t = refl
going_in-plug (l ∷ c) d t = going_in-plug c d (Within l t)

pub plug-going_in : (c : Context) (t : Term) → plug (going_in c t).0 (At (going_in c t).1) ≡ plug c t
plug-going_in c (Within l t) = plug-going_in (l ∷ c) t
plug-going_in c (At f) = refl

-- the term is its redex in its context
pub plug-split : (t : Term) → plug (split t).0 (At (split t).1) ≡ t
plug-split t = plug-going_in [] t

-- going into a context finds it
pub split-plug : (c : Context) (f : Focus) → split (plug c (At f)) ≡ (c, f)
split-plug c f = going_in-plug c [] (At f) ∙ ap (λ d. (d, f)) (append-nil c)
