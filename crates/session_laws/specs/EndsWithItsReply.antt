-- A request that ends by a value ends with the reply that stood inside its layer.
use Rattle.std.specs.Prelude.{◌≡◌, List, [], ◌∷◌}
use Rattle.rpc_messages.specs.declared.to_emacs.Returned.TheVariants as returned
use Rattle.term_model.specs.declared.focus.Focus.{Focus}
use Rattle.term_model.specs.declared.focus.Focus.TheVariants as focus
use Rattle.term_model.specs.declared.kept.Outcome.TheVariants as outcome
use Rattle.term_model.specs.Label.{Label, Ended}
use Rattle.step_model.specs.Now.{Now}
use Rattle.step_model.specs.Rules.{Rules}
use Rattle.step_model.specs.AsBuilt.{step_as_built}

-- where one of these labels ends a request with a reply, this redex is that reply
abbrev pub EndsOnly : Focus → List Label → Type 0
EndsOnly f [] = Unit {0}
EndsOnly f (Ended t i (returned.Ok reply) ∷ ls) = (f ≡ focus.Given (outcome.Reply reply)) × EndsOnly f ls
EndsOnly f (l ∷ ls) = EndsOnly f ls

-- a step that ends a request with a reply found that reply as its redex
abbrev pub EndsWithItsReply : Rules → Now → Type 0
EndsWithItsReply rules n = EndsOnly n.redex (step_as_built rules.built rules n).labels
