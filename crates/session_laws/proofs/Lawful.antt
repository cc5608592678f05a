-- All laws of a journal.
use Rattle.std.proofs.Common.{List, [], ◌∷◌, ◌++◌}
use Rattle.step_model.specs.Image.{ImageState}
use Rattle.step_model.specs.Rules.{Rules}
use Rattle.session_model.specs.declared.event.Entry.{Entry}
use Rattle.session_model.specs.Journal.{next, run, run_from}
use Rattle.session_model.specs.Legal.{AreLegal, IsLegalFrom}
use Rattle.session_model.specs.World.{World, start}
use Rattle.session_laws.specs.IsLawful.{IsLawful}
use Rattle.session_laws.specs.Moments.{IsMoment}
use Rattle.session_laws.proofs.ActingAlone as alone
use Rattle.session_laws.proofs.Answering as answering
use Rattle.session_laws.proofs.CleansInnermost as innermost
use Rattle.session_laws.proofs.EndsFacts as ends
use Rattle.session_laws.proofs.Facts as facts
use Rattle.session_laws.proofs.KeepsCleanups as cleanups
use Rattle.session_laws.proofs.KeepsLevels as levels
use Rattle.session_laws.proofs.KeepsTakings as takings
use Rattle.session_laws.proofs.MomentLemmas.{moment_is_legal}
use Rattle.session_laws.proofs.Prompt as prompt
use Rattle.session_laws.proofs.Rooms as rooms
use Rattle.session_laws.proofs.Stale as stale

legal_beginning : (rules : Rules) (a b : List Entry) (w : World) → AreLegal rules w (a ++ b) → AreLegal rules w a
legal_beginning rules [] b w h = tt
legal_beginning rules (e ∷ a) b w h = (h.0, legal_beginning rules a b (next rules w e).after h.1)

legal_rest : (rules : Rules) (a b : List Entry) (w : World) → AreLegal rules w (a ++ b) → AreLegal rules (run_from rules w a).after b
legal_rest rules [] b w h = h
legal_rest rules (e ∷ a) b w h = legal_rest rules a b (next rules w e).after h.1

-- a stretch of a legal journal is legal where it stands
pub stretch_is_legal : (rules : Rules) (image : ImageState) (past stretch rest : List Entry) → IsLegalFrom rules image (past ++ (stretch ++ rest)) → AreLegal rules (run rules image past) stretch
stretch_is_legal rules image past stretch rest h =
    legal_beginning rules stretch rest (run rules image past) (legal_rest rules past (stretch ++ rest) (start image) h)

-- a law of every journal holds at each moment, since a moment is a journal
at_moments : {I : List Entry → Type 0} (j : List Entry) → ((m : List Entry) → I m) → (m : List Entry) → IsMoment m j → I m
at_moments j each m is = each m

pub is_lawful : (rules : Rules) (image : ImageState) (j : List Entry) → IsLawful rules image j
is_lawful rules image j = record {
  takes_in_order = at_moments j (takings.takes_in_order rules image);
  answers_once = at_moments j (answering.answers_once rules image);
  levels_nest = at_moments j (levels.levels_nest rules image);
  cleans_once = at_moments j (cleanups.cleans_once rules image);
  facts_hold = at_moments j (facts.facts_hold rules image);
  have_room = λ legal m is. rooms.have_room rules image m (moment_is_legal rules image m j is legal);
  ends_with_its_reply = ends.step_ends_with_its_reply rules;
  cleans_innermost = innermost.cleans_innermost rules;
  ignores_stale = stale.ignores_stale rules;
  acts_alone = alone.acts_alone rules;
  breaks_promptly = prompt.breaks_promptly rules;
}
