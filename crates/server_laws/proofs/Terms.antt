-- What holds of a thread: its layers are simple, and the replies in it are short; and, where what arrives is small, the ids of its requests
-- have 64 bits. What is small is a premise of that alone, so that the other facts hold of every journal.
use mir.Syntax.{w64}
use Rattle.std.proofs.Common.{◌≡◌, ℕ, zero, suc, Bool, true, false, List, [], ◌∷◌, Option, Some, None, refl}
use Rattle.std.specs.Prelude.{FitsSigned}
use Rattle.std.proofs.lemmas.Bool.{and_from, false≢true}
use Rattle.term_model.specs.declared.focus.Focus.{Focus}
use Rattle.term_model.specs.declared.focus.Focus.TheVariants as focus
use Rattle.term_model.specs.declared.found.Found.{Found}
use Rattle.term_model.specs.declared.found.Found.TheVariants.{Already, Here, Inside}
use Rattle.term_model.specs.declared.frame.Frame.{Frame}
use Rattle.term_model.specs.declared.frame.Frame.TheVariants as frame
use Rattle.term_model.specs.declared.kept.Outcome.{Outcome}
use Rattle.term_model.specs.declared.kept.Outcome.TheVariants as outcome
use Rattle.term_model.specs.declared.plain.Plain.{Plain}
use Rattle.term_model.specs.declared.plain.Plain.TheVariants as plain
use Rattle.term_model.specs.GoingIn.{look}
use Rattle.term_model.specs.Room.{Entered, enter, room, wrap}
use Rattle.term_model.specs.Term.{Context}
use Rattle.step_model.proofs.FitLemmas.{FoundFits, look_fits, plain_focus}
use Rattle.server_rules.specs.Going.{entered}
use Rattle.server_rules.specs.Simple.{are_simple, has_no_restarts}
use Rattle.server_laws.proofs.Messages.{IsShortReply}

abbrev pub OutcomeFits : Outcome → Type 0
OutcomeFits (outcome.Value v) = Unit {0}
OutcomeFits (outcome.Reply reply) = IsShortReply reply

abbrev pub RedexFits : Focus → Type 0
RedexFits (focus.Given o) = OutcomeFits o
RedexFits _ = Unit {0}

abbrev pub PlainFits : Plain → Type 0
PlainFits (plain.Before f) = RedexFits f
PlainFits (plain.Restarts offers) = ⊥
PlainFits _ = Unit {0}

abbrev pub PlainsFit : List Plain → Type 0
PlainsFit [] = Unit {0}
PlainsFit (p ∷ ps) = PlainFits p × PlainsFit ps

no_restarts : (p : Plain) → PlainFits p → has_no_restarts p ≡ true
no_restarts (plain.Restarts offers) h = absurd h
no_restarts p h = refl

no_outcome : (f : Focus) → plain_focus f ≡ true → RedexFits f
no_outcome (focus.Given o) h = absurd (false≢true h)
no_outcome f h = tt

abbrev OptionFits : Option Focus → Type 0
OptionFits None = Unit {0}
OptionFits (Some f) = RedexFits f

module _ (Small : Type 0) where
  abbrev pub LayerFits : Frame → Type 0
  LayerFits (frame.On p) = PlainFits p
  LayerFits (frame.Rex i id form) = Small → FitsSigned w64 id
  LayerFits _ = ⊥

  abbrev pub LayersFit : Context → Type 0
  LayersFit [] = Unit {0}
  LayersFit (l ∷ c) = LayerFits l × LayersFit c

  -- such layers are simple
  pub layers_simple : (c : Context) → LayersFit c → are_simple c ≡ true
  layers_simple [] h = refl
  layers_simple (frame.On p ∷ c) h = and_from (has_no_restarts p) (are_simple c) (no_restarts p h.0) (layers_simple c h.1)
  layers_simple (frame.Rex i id form ∷ c) h = layers_simple c h.1
  layers_simple (frame.Protect k cleanup ∷ c) h = absurd h.0
  layers_simple (frame.Cleanup k kept ∷ c) h = absurd h.0
  layers_simple (frame.Sldb n condition again ∷ c) h = absurd h.0
  layers_simple (frame.Ask kind tag ∷ c) h = absurd h.0

  pub record EnteredFits (e : Entered) : Type 0 where
    pub around : LayersFit e.around
    pub redex : OptionFits e.redex

  enter_fits : (space : ℕ) (c : Context) (found : Found) → LayersFit c → FoundFits found → EnteredFits (enter space c found)
  enter_fits space c (Already v) h k = record { around = h; redex = tt }
  enter_fits space c (Here f) h k = record { around = h; redex = no_outcome f k }
  enter_fits zero c (Inside p e) h k = record { around = h; redex = tt }
  enter_fits (suc space) c (Inside p e) h k = enter_fits space (frame.On (plain.Form p) ∷ c) (look e) (tt, h) (look_fits e)

  wrap_fits : (space : ℕ) (c : Context) (ps : List Plain) (found : Found) → LayersFit c → PlainsFit ps → FoundFits found → EnteredFits (wrap space c ps found)
  wrap_fits space c [] found h g k = enter_fits space c found h k
  wrap_fits zero c (p ∷ []) (Already v) h g k = record { around = (g.0, h); redex = tt }
  wrap_fits zero c (p ∷ ps) found h g k = record { around = h; redex = tt }
  wrap_fits (suc space) c (p ∷ ps) found h g k = wrap_fits space (frame.On p ∷ c) ps found (g.0, h) g.1 k

  pub entered_fits : (b : Bool) (c : Context) (ps : List Plain) (found : Found) → LayersFit c → PlainsFit ps → FoundFits found → EnteredFits (entered b c ps found)
  entered_fits true c ps found h g k = wrap_fits (room c) c ps found h g k
  entered_fits false c ps found h g k = record { around = h; redex = tt }
