-- All laws of a journal, as one record.
use Rattle.std.specs.Prelude.{ℕ, List}
use Rattle.step_model.specs.Image.{ImageState}
use Rattle.step_model.specs.Now.{Now}
use Rattle.step_model.specs.Rules.{Rules}
use Rattle.session_model.specs.declared.event.Entry.{Entry}
use Rattle.session_model.specs.Legal.{IsLegalFrom}
use Rattle.session_model.specs.World.{World}
use Rattle.session_laws.specs.ActsAlone.{ActsAlone}
use Rattle.session_laws.specs.AnswersOnce.{AnswersOnce}
use Rattle.session_laws.specs.BreaksPromptly.{BreaksPromptly}
use Rattle.session_laws.specs.CleansOnce.{CleansInnermost, CleansOnce}
use Rattle.session_laws.specs.EndsWithItsReply.{EndsWithItsReply}
use Rattle.session_laws.specs.FactsHold.{FactsHold, HaveRoom}
use Rattle.session_laws.specs.IgnoresStale.{IgnoresStale}
use Rattle.session_laws.specs.LevelsNest.{LevelsNest}
use Rattle.session_laws.specs.Moments.{IsMoment}
use Rattle.session_laws.specs.TakesInOrder.{TakesInOrder}

-- a law of what has happened so far, at every moment of the journal; a law of one step, in every state; and a law of a stretch of entries,
-- from every world on
pub record IsLawful (rules : Rules) (image : ImageState) (j : List Entry) : Type 0 where
  pub takes_in_order : (m : List Entry) → IsMoment m j → TakesInOrder rules image m
  pub answers_once : (m : List Entry) → IsMoment m j → AnswersOnce rules image m
  pub levels_nest : (m : List Entry) → IsMoment m j → LevelsNest rules image m
  pub cleans_once : (m : List Entry) → IsMoment m j → CleansOnce rules image m
  pub facts_hold : (m : List Entry) → IsMoment m j → FactsHold rules image m
  -- of a legal journal
  pub have_room : IsLegalFrom rules image j → (m : List Entry) → IsMoment m j → HaveRoom rules image m
  -- of one step
  pub ends_with_its_reply : (n : Now) → EndsWithItsReply rules n
  pub cleans_innermost : (n : Now) (k : ℕ) → CleansInnermost rules n k
  pub ignores_stale : (w : World) → IgnoresStale rules w
  -- of one event
  pub acts_alone : (w : World) → ActsAlone rules w
  -- of a stretch
  pub breaks_promptly : (w : World) (stretch : List Entry) (t : ℕ) → BreaksPromptly rules w stretch t
