-- Steps that a thread makes by itself: the term alone decides them, they change nothing but the term, and what they make stands within
-- the limit of layers. They tell nothing, and no layer is made or left that the laws look at.
use Rattle.std.specs.Prelude.{Bool, true, false, ◌&&◌, not, is_some, List, [], ◌∷◌, Option, Some, None}
use Rattle.std.specs.Option.{option_map_or}
use Rattle.rpc_messages.specs.declared.pattern.Pattern.TheVariants as pattern
use Rattle.term_model.specs.declared.end.End.{End}
use Rattle.term_model.specs.declared.end.End.TheVariants as end
use Rattle.term_model.specs.declared.focus.Focus.{Focus}
use Rattle.term_model.specs.declared.focus.Focus.TheVariants as focus
use Rattle.term_model.specs.declared.found.Found.{Found}
use Rattle.term_model.specs.declared.found.Found.TheVariants.{Already}
use Rattle.term_model.specs.declared.frame.Frame.TheVariants as frame
use Rattle.term_model.specs.declared.kept.Outcome.{Outcome}
use Rattle.term_model.specs.declared.kept.Outcome.TheVariants as outcome
use Rattle.term_model.specs.declared.plain.Plain.{Plain}
use Rattle.term_model.specs.Breaks.{max_levels}
use Rattle.term_model.specs.GoingIn.{resumed}
use Rattle.term_model.specs.Room.{Entered, is_within, room, wrap}
use Rattle.term_model.specs.Term.{Context}
use Rattle.term_model.specs.Variables.{with_lexical}
use Rattle.step_model.specs.Act as act
use Rattle.step_model.specs.Act.{Act}
use Rattle.step_model.specs.Facts.{waits}
use Rattle.step_model.specs.Image.{ImageState}
use Rattle.step_model.specs.Now.{Now}
use Rattle.step_model.specs.Perform.{outward, perform}
use Rattle.step_model.specs.Rules.{Rules}
use Rattle.step_model.specs.Step.{step}
use Rattle.step_model.specs.Table.{alone}

-- ---- a term alone

-- a context with its redex
abbrev pub Spot : Type 0
Spot = Context × Focus

abbrev pub spot_of : Now → Spot
spot_of n = (n.context, n.redex)

abbrev pub no_image : ImageState
no_image = record { packages = []; globals = []; specials = []; functions = [] }

-- a thread that has this term and nothing else
abbrev pub of_term : Context → Focus → Now
of_term c f = record {
  thread = 0;
  context = c;
  redex = f;
  serial = 0;
  mailbox = [];
  image = no_image;
  tag = 0;
  inspected = [];
  threads = [];
  labels = [];
  over = false;
  closed = false;
  most = max_levels;
}

-- ---- what an act needs

-- whether an end reads and changes nothing but the term
abbrev pub ends_in_term : End → Bool
ends_in_term (end.Goes ps found) = true
ends_in_term (end.Gives o) = true
ends_in_term (end.Raises condition) = false
ends_in_term (end.Resumes f) = true
ends_in_term (end.Passes o) = false
ends_in_term (end.Protects e cleanup) = false
ends_in_term (end.Asks kind text) = false
ends_in_term (end.Opens condition) = false
ends_in_term (end.Breaks o) = false
ends_in_term (end.Exits x) = false
ends_in_term (end.Takes p) = false
ends_in_term end.Closes = false

-- whether an act does
abbrev pub is_of_term : Context → Act → Bool
is_of_term c (act.Ends e) = ends_in_term e
is_of_term c (act.Outward a) = is_of_term (outward c) a
is_of_term c (act.Writes ws a) = false
is_of_term c (act.Changes image a) = false
is_of_term c (act.Inspects vs a) = false
is_of_term c (act.Assigns x v a) = option_map_or (λ d. is_of_term d a) (with_lexical x v c) false
is_of_term c (act.Sets x v a) = false

-- whether these markers and this form stand there within the limit of layers
abbrev pub have_room : Context → List Plain → Found → Bool
have_room c ps found = is_within c && is_some (Entered.redex (wrap (room c) c ps found))

abbrev pub resumed_has_room : Context → Option Found → Bool
resumed_has_room c (Some found) = have_room c [] found
resumed_has_room c None = true

-- whether an outcome does, with which a form that is directly around goes on
abbrev pub outcome_has_room : Context → Outcome → Bool
outcome_has_room (frame.On p ∷ c) (outcome.Value v) = resumed_has_room c (resumed p v)
outcome_has_room c o = true

abbrev pub found_has_room : Context → List Plain → Found → Bool
found_has_room c [] (Already v) = outcome_has_room c (outcome.Value v)
found_has_room c ps found = have_room c ps found

-- whether what an act makes that needs the term alone stands within the limit of layers
abbrev pub has_room : Context → Act → Bool
has_room c (act.Ends (end.Goes ps found)) = found_has_room c ps found
has_room c (act.Ends (end.Gives o)) = outcome_has_room c o
has_room c (act.Outward a) = has_room (outward c) a
has_room c (act.Assigns x v a) = option_map_or (λ d. has_room d a) (with_lexical x v c) true
has_room c a = true

-- ---- steps

-- whether the level directly around is to be announced again
abbrev pub is_announced : Context → Focus → Bool
is_announced (frame.Sldb k condition true ∷ c) (focus.Wait pattern.Rex) = true
is_announced c f = false

abbrev pub is_quiet : Now → Bool
is_quiet n = not (is_announced n.context n.redex)

-- whether a thread carries an act out by itself
abbrev pub is_local_act : Context → Focus → Act → Bool
is_local_act c f a = is_of_term c a && (has_room c a && is_quiet (perform (of_term c f) a))

-- whether a request is around a marker that holds an outcome, which together are the redex
abbrev pub is_marker_inside : Context → Bool
is_marker_inside [] = false
is_marker_inside (l ∷ c) = not (waits c)

-- whether a request is around the redex: neither the top nor a level holds it directly
abbrev pub is_inside : Context → Focus → Bool
is_inside c (focus.Given o) = is_marker_inside c
is_inside c f = not (waits c)

-- whether what a redex makes in its step has room, where the term alone decides it
abbrev pub step_has_room : Rules → Context → Focus → Bool
step_has_room rules c f = option_map_or (has_room c) (alone rules c f) true

-- whether a redex needs the term alone for its step
abbrev pub is_local : Rules → Context → Focus → Bool
is_local rules c f = is_inside c f && option_map_or (is_local_act c f) (alone rules c f) false

abbrev pub spot_if : Bool → Spot → Option Spot
spot_if true s = Some s
spot_if false s = None

-- what a step makes of the term where it needs nothing else, and None where it does
abbrev pub step_alone : Rules → Context → Focus → Option Spot
step_alone rules c f = spot_if (is_local rules c f) (spot_of (step rules (of_term c f)))
