-- Each row of the table fits where its redex stands.
use Rattle.std.proofs.Common.{◌≡◌, ℕ, ℤ, ◌≤◌, Bool, true, false, List, [], ◌∷◌, ◌++◌, Option, Some, None, Result, refl, sym, subst}
use Rattle.std.proofs.lemmas.Bool.{false≢true}
use Rattle.lisp_data.specs.declared.sexp.Sexp.{Sexp}
use Rattle.lisp_data.specs.declared.value.Value.{Value}
use Rattle.lisp_data.specs.declared.value.Value.TheViews.{out-Value}
use Rattle.lisp_data.specs.declared.value.Condition.{Condition}
use Rattle.rpc_messages.specs.declared.pattern.Pattern.TheVariants as pattern
use Rattle.sexp_reader.specs.declared.placed.Placed.{Placed}
use Rattle.lisp_syntax.specs.Parsing.{parsed}
use Rattle.syntax_trees.specs.Places.{row_of}
use Rattle.lisp_data.specs.Symbols.{value_of_symbol}
use Rattle.syntax_trees.specs.declared.ast.Ast.{Ast}
use Rattle.term_model.specs.declared.focus.Bound.{Bound}
use Rattle.term_model.specs.declared.focus.Focus.{Focus}
use Rattle.term_model.specs.declared.focus.Focus.TheVariants as focus
use Rattle.term_model.specs.declared.focus.Origin.{Origin}
use Rattle.term_model.specs.declared.frame.Frame.TheVariants as frame
use Rattle.term_model.specs.declared.kept.Outcome.{Outcome}
use Rattle.term_model.specs.declared.kept.Outcome.TheVariants as outcome
use Rattle.term_model.specs.declared.plain.Plain.{Plain}
use Rattle.term_model.specs.declared.plain.Plain.TheVariants as plain
use Rattle.term_model.specs.declared.question.Ask.{Ask}
use Rattle.term_model.specs.declared.restart.Restart.{Restart}
use Rattle.lisp_data.specs.Parts.{nil}
use Rattle.term_model.specs.GoingIn.{look}
use Rattle.term_model.specs.Handlers as how
use Rattle.term_model.specs.Handlers.{HandlerAt, How, behind, find_handler, in_force}
use Rattle.term_model.specs.Levels.{Called, Framed, Level, Served, Shown, current_level, frames, locals}
use Rattle.term_model.specs.Restarts.{first_named, invoking, restarts_of_level}
use Rattle.term_model.specs.Search.{layer_at}
use Rattle.term_model.specs.Term.{Context}
use Rattle.step_model.specs.Act.{Act}
use Rattle.step_model.specs.Decision.{decided}
use Rattle.step_model.specs.Facts.{FocusFits, HasHandlers, IsCall, LayerFits, LayersFit, RedexStands, bare_plain, bares, names_handlers, waits}
use Rattle.step_model.specs.Now.{Now, around}
use Rattle.step_model.specs.Requests as requests
use Rattle.step_model.specs.Roles.{Role, Definition, role_of}
use Rattle.step_model.specs.Rules as rules_of
use Rattle.step_model.specs.Rules.{Command, Finish, Rules}
use Rattle.step_model.specs.Table as table
use Rattle.step_model.proofs.FitLemmas.{FoundFits, PlainsFit, body_fits, look_fits}
use Rattle.step_model.proofs.PerformFits.{ActFits, PlaceIf, Wanted, known}
use Rattle.step_model.proofs.SearchFits.{CalledAt, ClauseFits, HandlerFits, LevelFits, MaybeCalled, call_takes_value, frame_called, further_handler_fits, handler_fits, level_fits, names_out}
use Rattle.step_model.proofs.TargetFits.{abort_fits, invoking_fits, top_fits}
use Rattle.step_model.proofs.FormFits.{call_row_fits, counts_row, form_by_row, lists_row}
use Rattle.step_model.proofs.FunctionFits.{Busy, There, exits_or_row, goes_in, made_row, maps_row, or_raise_row, or_refuse_row, prints_row, tree_row, value_row}

-- ---- requests

level_row : {w : Wanted} (n : Now) → Busy w n → (o : Option Level) (go : Level → Act) → ((level : Level) → o ≡ Some level → ActFits w (go level) (There n)) → ActFits w (requests.in_level o go) (There n)
level_row n place (Some level) go k = k level refl
level_row n place None go k = place

frame_row_in : {w : Wanted} (n : Now) → Busy w n → (o : Option Framed) (go : Framed → Act) → MaybeCalled o (There n) → ((f : Framed) → CalledAt f.shown f.layer (There n) → ActFits w (go f) (There n)) → ActFits w (requests.in_frame o go) (There n)
frame_row_in n place (Some f) go h k = k f h
frame_row_in n place None go h k = place

maybe_called : (o : Option Framed) (d e : Context) → ((s : Shown) (k : ℕ) → CalledAt s k d → CalledAt s k e) → MaybeCalled o d → MaybeCalled o e
maybe_called None d e h g = tt
maybe_called (Some f) d e h g = h f.shown f.layer g

frame_row : {w : Wanted} (n : Now) → Busy w n → (i : ℤ) (go : Framed → Act) → ((f : Framed) → CalledAt f.shown f.layer (There n) → ActFits w (go f) (There n)) → ActFits w (requests.with_frame n i go) (There n)
frame_row n place i go k =
    level_row n place (current_level n.context) _ (λ level e.
    frame_row_in n place (requests.item_at (frames level.around) i) go
    (maybe_called (requests.item_at (frames level.around) i) (bares level.around) (There n) (subst (λ o. LevelFits o (There n)) e (level_fits n.context)) (frame_called level.around i)) k)

-- what is done with a call
call_row : {w : Wanted} (n : Now) → Busy w n → (s : Shown) (k : ℕ) (a : Act) → CalledAt s k (There n) → ((1 ≤ k) × IsCall (layer_at k (There n)) → ActFits w a (There n)) → ActFits w (requests.if_call s a) (There n)
call_row n place (Called g vs) k a h go = go h
call_row n place (Served form) k a h go = place

copied_fit : (bs : List Bound) (d : Context) → waits d ≡ false → PlainsFit (requests.copied bs) d
copied_fit [] d e = tt
copied_fit (b ∷ bs) d e = one_more (requests.copied bs) b d e (copied_fit bs d e)
  where
    one_more : (ps : List Plain) (b : Bound) (d : Context) → waits d ≡ false → PlainsFit ps d → PlainsFit (ps ++ plain.Lexical b.variable b.value ∷ []) d
    one_more [] b d e h = (e, tt)
    one_more (p ∷ ps) b d e h = (h.0, one_more ps b (frame.On (bare_plain p) ∷ d) refl h.1)

evaluates_in_row : {w : Wanted} (n : Now) → Busy w n → (fs : List Placed) (kept : Sexp) (f : Framed) → ActFits w (requests.evaluates_in fs kept f) (There n)
evaluates_in_row n place fs kept f = (place, λ s. (place.busy s, (refl, copied_fit (locals f) _ refl)), refl)

evaluates_read_row : {w : Wanted} (n : Now) → Busy w n → (read : Result (List Placed) Condition) (kept : Sexp) (f : Framed) → ActFits w (requests.evaluates_read read kept f) (There n)
evaluates_read_row n place read kept f = or_raise_row (There n) place read _ (λ fs. evaluates_in_row n place fs kept f)

invokes_restart_row : {w : Wanted} (n : Now) → Busy w n → (r : Option Restart) → ActFits w (requests.invokes_restart n r) (There n)
invokes_restart_row n place r = exits_or_row (There n) place (invoking r [] n.context) requests.nil_reply (invoking_fits r [] n.context) place

invokes_place_row : {w : Wanted} (n : Now) → Busy w n → (level : Level) (i : ℤ) (b : Bool) → ActFits w (requests.invokes_place n level i b) (There n)
invokes_place_row n place level i true = invokes_restart_row n place (requests.item_at (restarts_of_level level.around) i)
invokes_place_row n place level i false = place

commanded_row : {w : Wanted} (n : Now) → Busy w n → (x : Command) → ActFits w (requests.commanded n x) (There n)
commanded_row n place (rules_of.Answers inspected reply) = place
commanded_row n place (rules_of.AnswersIn name reply) = place
commanded_row n place (rules_of.Refuses condition) = place
commanded_row n place (rules_of.Evaluates fs origin kept) = (place, λ s. (place.busy s, tt), refl)
commanded_row n place (rules_of.EvaluatesIn i read kept) = frame_row n place i (requests.evaluates_read read kept) (λ f h. evaluates_read_row n place read kept f)
commanded_row n place (rules_of.EvaluatesToReturn i read kept) =
    frame_row n place i _ (λ f h. call_row n place f.shown f.layer (requests.evaluates_read read kept f) h (λ c. evaluates_read_row n place read kept f))
commanded_row n place (rules_of.CallsAgain i) = frame_row n place i requests.calls_frame (λ f h. call_row n place f.shown f.layer _ h (λ c. (place.layers, c)))
commanded_row n place (rules_of.InvokesNth k i) =
    level_row n place (current_level n.context) _ (λ level e. invokes_place_row n place level i (requests.is_number k level.number))
commanded_row n place (rules_of.InvokesFirst name) =
    level_row n place (current_level n.context) _ (λ level e. invokes_restart_row n place (first_named name (restarts_of_level level.around)))
commanded_row n place rules_of.InvokesTop = (place.layers, top_fits (There n))
commanded_row n place rules_of.Closes = place

finished_row : {w : Wanted} (n : Now) → Busy w n → (v : Value) (x : Finish) → ActFits w (requests.finished n v x) (There n)
finished_row n place v (rules_of.Replies writings inspected reply) = place
finished_row n place v (rules_of.Fails condition) = place
finished_row n place v (rules_of.LeavesFrame i) =
    frame_row n place i (requests.leaves_frame v) (λ f h. call_row n place f.shown f.layer _ h (λ c. (place.layers, (c.0, call_takes_value (layer_at f.layer (There n)) c.1))))

pub placed_found_fits : (a : Ast) (x : Role) (o : Option Origin) (k : ℕ) → FoundFits (requests.placed_found a x o k)
placed_found_fits a (Definition g ps) (Some origin) k = refl
placed_found_fits a (Definition g ps) None k = look_fits a
placed_found_fits a x o k = look_fits a

pub before_forms_fit : (ps : List Placed) (o : Option Origin) (d : Context) → waits d ≡ false → PlainsFit (requests.before_forms ps o) d
before_forms_fit [] o d e = tt
before_forms_fit (p ∷ ps) o d e = (e, tt)

forms_row : {w : Wanted} (n : Now) → Busy w n → (fs : List Placed) (o : Option Origin) → ActFits w (requests.forms_row n fs o) (There n)
forms_row n place [] o = value_row (There n) place nil
forms_row n place (p ∷ ps) o =
    or_refuse_row (There n) place _ (requests.resolved n p ps o) (λ found.
    tree_row (There n) place n (parsed found.1) _ (λ e. (place, λ s. before_forms_fit ps o (There n) (place.busy s), placed_found_fits e (role_of (row_of e)) o p.at)))

-- ---- the table

handles_row : {w : Wanted} (n : Now) → Busy w n → (c : Condition) (p j : ℕ) (h : How) → (1 ≤ p) × (names_handlers p (There n) ≡ true) × HasHandlers (layer_at p (There n)) × ClauseFits h j (layer_at p (There n)) → ActFits w (table.handles c p j h) (There n)
handles_row n place c p j (how.Function g) h =
    (place, λ s. ((place.busy s, h.1), ((refl, names_out p (frame.On (plain.Before (focus.SignalPast c p j))) (There n) refl h.2 h.1), tt)), refl)
handles_row n place c p j how.Clause h = (place.layers, (h.0, h.3))

signals_row : {w : Wanted} (n : Now) → Busy w n → (c : Condition) (o : Option HandlerAt) → HandlerFits o (There n) → ActFits w (table.signals c o) (There n)
signals_row n place c None h = value_row (There n) place nil
signals_row n place c (Some x) h = handles_row n place c x.layer x.index x.how h

-- what was put off may stand in place of its layer
resumes : (g : Focus) (d : Context) → LayerFits (frame.On (plain.Before g)) d → FocusFits g d
resumes (focus.Wait pattern.Rex) d h = h
resumes (focus.SignalPast condition p j) d h = h
resumes focus.Abort d h = absurd h
resumes g d h = h

-- a marker but what was put off stands in a busy place
abbrev is_put_off : Plain → Bool
is_put_off (plain.Before g) = true
is_put_off _ = false

on_busy : (p : Plain) (d : Context) → is_put_off p ≡ false → LayerFits (frame.On (bare_plain p)) d → waits d ≡ false
on_busy (plain.Before g) d e h = absurd (false≢true (sym e))
on_busy (plain.Handling p j) d e h = h.0
on_busy p d e h = h

passed_on : {w : Wanted} (p : Plain) (c : Context) → is_put_off p ≡ false → PlaceIf w (bares (frame.On p ∷ c)) → PlaceIf w (bares c)
passed_on p c e place = record { layers = λ s. (place.layers s).1; busy = λ s. on_busy p (bares c) e (place.layers s).0 }

answered_on : {w : Wanted} (kind : Ask) (tag : ℕ) (c : Context) → PlaceIf w (bares (frame.Ask kind tag ∷ c)) → PlaceIf w (bares c)
answered_on kind tag c place = record { layers = λ s. (place.layers s).1; busy = λ s. (place.layers s).0 }

pub given_row_fits : {w : Wanted} (rules : Rules) (n : Now) (c : Context) (o : Outcome) → PlaceIf w (bares c) → w.passed o → ActFits w (decided n (table.given_row rules c o)) (bares c)
given_row_fits rules n (frame.On (plain.Before g) ∷ c) o place said = λ s. ((place.layers s).1, resumes g (bares c) (place.layers s).0)
given_row_fits rules n (frame.On (plain.Answer kept) ∷ c) (outcome.Value v) place said =
    finished_row (around n c) (passed_on (plain.Answer kept) c refl place) v (rules.finish (requests.asked (around n c)) kept v)
given_row_fits rules n (frame.On p ∷ c) o place said = passed_on p c refl place
given_row_fits rules n (frame.Ask kind tag ∷ c) (outcome.Value v) place said = made_row (bares c) (answered_on kind tag c place) (table.answered kind (out-Value v))
given_row_fits rules n (frame.Ask kind tag ∷ c) (outcome.Reply r) place said = answered_on kind tag c place
given_row_fits rules n [] o place said = (place, said)
given_row_fits rules n (frame.Protect k cleanup ∷ c) o place said = (place, said)
given_row_fits rules n (frame.Cleanup k kept ∷ c) o place said = (place, said)
given_row_fits rules n (frame.Rex i id form ∷ c) o place said = (place, said)
given_row_fits rules n (frame.Sldb m condition again ∷ c) o place said = (place, said)

defun_at_row : {w : Wanted} (n : Now) → Busy w n → (a : Ast) (x : Role) (origin : Origin) (k : ℕ) → ActFits w (table.defun_at n a x origin k) (There n)
defun_at_row n place a (Definition g ps) origin k = value_row (There n) place (value_of_symbol g)
defun_at_row n place a x origin k = goes_in (There n) place (look a) (look_fits a)

-- every redex but a wait and a leaving stands in a busy place
abbrev is_waiting : Focus → Bool
is_waiting (focus.Wait p) = true
is_waiting focus.Abort = true
is_waiting _ = false

busy_redex : (most : ℕ) (g : Focus) (d : Context) → is_waiting g ≡ false → RedexStands most g d → waits d ≡ false
busy_redex most (focus.Wait p) d e h = absurd (false≢true (sym e))
busy_redex most focus.Abort d e h = absurd (false≢true (sym e))
busy_redex most (focus.SignalPast condition p j) d e h = h.0
busy_redex most g d e h = h

busy_row : {w : Wanted} (rules : Rules) (n : Now) → Busy w n → (g : Focus) → is_waiting g ≡ false → ((o : Outcome) → g ≡ focus.Given o → w.passed o) → ActFits w (table.row rules n g) (There n)
busy_row rules n place (focus.Given o) e said = given_row_fits rules n n.context o place (said o refl)
busy_row rules n place (focus.Form p) e said = form_by_row n place p.row p
busy_row rules n place (focus.Loop es) e said = (place, λ s. (place.busy s, tt), body_fits es)
busy_row rules n place (focus.DoTimes x i count es) e said = counts_row n place x i count es (out-Value count)
busy_row rules n place (focus.DoList x i list es) e said = lists_row n place x i list es (out-Value list)
busy_row rules n place (focus.DefunAt a origin k) e said = defun_at_row n place a (role_of (row_of a)) origin k
busy_row rules n place (focus.Apply g vs) e said = call_row_fits n place g vs
busy_row rules n place (focus.Map g list next collected) e said = maps_row (There n) place g list next collected
busy_row rules n place (focus.Wait p) e said = absurd (false≢true (sym e))
busy_row rules n place (focus.Break o) e said = place
busy_row rules n place focus.Abort e said = absurd (false≢true (sym e))
busy_row rules n place (focus.Signal c) e said = signals_row n place c (find_handler c.kind (in_force n.context)) (handler_fits c.kind n.context)
busy_row rules n place (focus.SignalPast c p j) e said = signals_row n place c (find_handler c.kind (behind p j (in_force n.context))) (further_handler_fits c.kind p j n.context)
busy_row rules n place (focus.Enter c) e said = place
busy_row rules n place (focus.Warn c) e said = prints_row (There n) place (table.warning c) nil
busy_row rules n place focus.Rpc e said = commanded_row n place (rules.command (requests.asked n))
busy_row rules n place (focus.Forms fs origin) e said = forms_row n place fs origin

-- the row of a redex fits where the redex does
pub row_wanted : (w : Wanted) (rules : Rules) (n : Now) (g : Focus) → (w.sure → LayersFit (There n)) → (w.sure → RedexStands n.most g (There n)) → ((o : Outcome) → g ≡ focus.Given o → w.passed o) → ActFits w (table.row rules n g) (There n)
row_wanted w rules n (focus.Wait p) h e said = λ s. (h s, e s)
row_wanted w rules n focus.Abort h e said = (h, abort_fits n.context)
row_wanted w rules n g h e said = busy_row rules n (record { layers = h; busy = λ s. busy_redex n.most g (There n) refl (e s) }) g refl said

pub row_fits : (rules : Rules) (n : Now) (g : Focus) → LayersFit (There n) → RedexStands n.most g (There n) → ActFits known (table.row rules n g) (There n)
row_fits rules n g h e = row_wanted known rules n g (λ s. h) (λ s. e) (λ o is. tt)
