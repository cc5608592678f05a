-- A step of a thread whose layers are simple.
use Rattle.std.proofs.Common.{◌≡◌, Bool, true, false, List, [], ◌∷◌, Option, refl, sym, ap, ◌∙◌, subst}
use Rattle.std.specs.Prelude.{◌&&◌, not, Result, Ok, Err}
use Rattle.std.proofs.lemmas.Bool.{and_parts, false≢true, true≢false, not-true}
use Rattle.lisp_data.specs.declared.value.Value.{Value}
use Rattle.lisp_packages.specs.Naming.{in_named, valued}
use Rattle.lisp_packages.specs.declared.fault.NameFault.{NameFault}
use Rattle.lisp_packages.specs.declared.lisp_package.Package.{Package}
use Rattle.sexp_reader.specs.declared.placed.Placed.{Placed}
use Rattle.lisp_syntax.specs.Parsing.{parsed}
use Rattle.syntax_trees.specs.declared.ast.Ast.{Ast}
use Rattle.syntax_trees.specs.Places.{row_of}
use Rattle.term_model.specs.declared.focus.Focus.{Focus}
use Rattle.term_model.specs.declared.focus.Focus.TheVariants as focus
use Rattle.term_model.specs.declared.focus.Origin.{Origin}
use Rattle.term_model.specs.declared.frame.Frame.TheVariants as frame
use Rattle.term_model.specs.declared.kept.Leaving.{Leaving}
use Rattle.term_model.specs.declared.kept.Outcome.{Outcome}
use Rattle.term_model.specs.declared.kept.Outcome.TheVariants as outcome
use Rattle.term_model.specs.declared.plain.Plain.TheVariants as plain
use Rattle.term_model.specs.Term.{Context}
use Rattle.step_model.specs.Act.{Act, Goes}
use Rattle.step_model.specs.Decision.{decided}
use Rattle.step_model.specs.Functions.{with_tree}
use Rattle.step_model.specs.Kinds.{current, or_refuse}
use Rattle.step_model.specs.Now.{Now, around}
use Rattle.step_model.specs.Perform.{exits, perform}
use Rattle.step_model.specs.Roles.{role_of}
use Rattle.step_model.specs.Requests.{asked, before_forms, commanded, finished, forms_row, placed_found, resolved}
use Rattle.step_model.specs.AsBuilt.{act_if, is_built, is_raise, is_row_built, leaving, limited, step_as_built, step_or_leave}
use Rattle.step_model.specs.Step.{begun}
use Rattle.step_model.specs.Table.{given_row, row}
use Rattle.swank_rpc.specs.Commands.{Given, Replies, RepliesIn, Refuses, Evaluates, called, command_of}
use Rattle.swank_rpc.specs.Finishes.{Ended, ended, finish_of}
use Rattle.server_rules.specs.Built.{built, has_row}
use Rattle.server_rules.specs.Leaving.{left}
use Rattle.server_rules.specs.Rules.{rules}
use Rattle.server_rules.specs.Simple.{are_simple}
use Rattle.server_rules.proofs.ActsSimple.{IsSimpleAct, Keeps, perform_keeps}
use Rattle.server_rules.proofs.GoingSimple.{ArePlain}
use Rattle.server_rules.proofs.SimpleLemmas.{abort_exit-simple, exits_to_top, none_announced}

-- ---- rows

-- what a request's function says
commanded_simple : (n : Now) (g : Given) → is_raise (commanded n (command_of n.inspected g)) ≡ false → IsSimpleAct n.inspected (commanded n (command_of n.inspected g))
commanded_simple n (Replies reply) e = (refl, tt)
commanded_simple n (RepliesIn global reply) e = tt
commanded_simple n (Refuses condition) e = absurd (true≢false e)
commanded_simple n (Evaluates forms kept) e = (refl, tt)

-- what it says of its forms' value
finished_simple : (n : Now) (v : Value) (e : Ended) → is_raise (finished n v (finish_of n.inspected e)) ≡ false → IsSimpleAct n.inspected (finished n v (finish_of n.inspected e))
finished_simple n v (Ok e) r = (refl, tt)
finished_simple n v (Err condition) r = absurd (true≢false r)

before_plain : (ps : List Placed) (origin : Option Origin) → ArePlain (before_forms ps origin)
before_plain [] origin = tt
before_plain (p ∷ ps) origin = (refl, tt)

tree_simple : (n : Now) (tree : Result Ast Value) (p : Placed) (ps : List Placed) (origin : Option Origin) (vs : List Value)
    → is_raise (with_tree n tree (λ e. Goes (before_forms ps origin) (placed_found e (role_of (row_of e)) origin p.at))) ≡ false
    → IsSimpleAct vs (with_tree n tree (λ e. Goes (before_forms ps origin) (placed_found e (role_of (row_of e)) origin p.at)))
tree_simple n (Ok e) p ps origin vs r = before_plain ps origin
tree_simple n (Err bad) p ps origin vs r = absurd (true≢false r)

resolved_simple : (n : Now) (p : Placed) (ps : List Placed) (origin : Option Origin) (named : Result (List Package × Value) NameFault)
    → is_raise (or_refuse named (resolved n p ps origin)) ≡ false → IsSimpleAct n.inspected (or_refuse named (resolved n p ps origin))
resolved_simple n p ps origin (Ok found) r = tree_simple n (parsed found.1) p ps origin n.inspected r
resolved_simple n p ps origin (Err why) r = absurd (true≢false r)

forms_simple : (n : Now) (forms : List Placed) (origin : Option Origin) → is_raise (forms_row n forms origin) ≡ false → IsSimpleAct n.inspected (forms_row n forms origin)
forms_simple n [] origin r = tt
forms_simple n (p ∷ ps) origin r = resolved_simple n p ps origin (in_named n.image.packages (current n) (λ i. valued i p.form n.image.packages)) r

-- an outcome
given_simple : (n : Now) (c : Context) (o : Outcome) → has_row c (focus.Given o) ≡ true
    → is_raise (decided n (given_row rules c o)) ≡ false → IsSimpleAct n.inspected (decided n (given_row rules c o))
given_simple n [] o e r = absurd (false≢true e)
given_simple n (frame.On (plain.Answer kept) ∷ c) (outcome.Value v) e r =
    let a = asked (around n c) in finished_simple (around n c) v (ended a.form kept v a.current a.image) r
given_simple n (frame.On p ∷ c) o e r = tt
given_simple n (frame.Rex i id form ∷ c) o e r = tt
given_simple n (frame.Protect k cleanup ∷ c) o e r = absurd (false≢true e)
given_simple n (frame.Cleanup k kept ∷ c) o e r = absurd (false≢true e)
given_simple n (frame.Sldb k condition again ∷ c) o e r = absurd (false≢true e)
given_simple n (frame.Ask kind tag ∷ c) o e r = absurd (false≢true e)

-- a built row that doesn't raise
row_simple : (n : Now) (f : Focus) → are_simple n.context ≡ true → is_row_built built n f ≡ true → is_raise (row rules n f) ≡ false → IsSimpleAct n.inspected (row rules n f)
row_simple n (focus.Wait p) s e r = tt
row_simple n (focus.Forms forms origin) s e r = forms_simple n forms origin r
row_simple n focus.Abort s e r = abort_exit-simple n.context s
row_simple n (focus.Given o) s e r = given_simple n n.context o e r
row_simple n focus.Rpc s e r = let a = asked n in commanded_simple n (called a.form a.current a.image) r
row_simple n f s e r = absurd (false≢true e)

-- what is done
abbrev acts : Now → Act
acts n = act_if (is_built built rules n) n (row rules n n.redex)

act_simple : (n : Now) (b : Bool) → is_built built rules n ≡ b → are_simple n.context ≡ true → IsSimpleAct n.inspected (act_if b n (row rules n n.redex))
act_simple n true e s =
    let parts = and_parts (is_row_built built n n.redex) (not (is_raise (row rules n n.redex))) e in
    row_simple n n.redex s parts.0 (not-true (is_raise (row rules n n.redex)) parts.1)
act_simple n false e s = abort_exit-simple n.context s

-- ---- steps

performed : (n : Now) → n.most ≡ 0 → are_simple n.context ≡ true → Keeps n (perform (begun n) (acts n))
performed n z s =
    let k = perform_keeps (begun n) z (acts n) (act_simple n (is_built built rules n) refl s) s in
    record { simple = k.simple; beside = k.beside }

announced_same : (n : Now) → n.most ≡ 0 → are_simple n.context ≡ true → step_or_leave built rules n ≡ perform (begun n) (acts n)
announced_same n z s = none_announced (perform (begun n) (acts n)) (performed n z s).simple

-- a step keeps layers simple, and what stands beside the thread
pub step_keeps : (n : Now) → are_simple n.context ≡ true → Keeps n (step_as_built built rules n)
step_keeps n s =
    let m = limited built n in
    let k = subst (Keeps m) (sym (announced_same m refl s)) (performed m refl s) in
    record { simple = k.simple; beside = k.beside }

-- the step of a built row
pub built_step : (n : Now) → are_simple n.context ≡ true → is_built built rules (limited built n) ≡ true → step_as_built built rules n ≡ perform (begun (limited built n)) (row rules (limited built n) n.redex)
built_step n s e = let m = limited built n in announced_same m refl s ∙ ap (λ b. perform (begun m) (act_if b m (row rules m m.redex))) e

leaves : (n : Now) → are_simple n.context ≡ true → perform (begun n) (leaving n) ≡ left n
leaves n s = ap (λ (x : Leaving). exits (begun n) x.target x.bring) (abort_exit-simple n.context s) ∙ exits_to_top (begun n) s

-- the step of a row that isn't built, or that raises
pub unbuilt_step : (n : Now) → are_simple n.context ≡ true → is_built built rules (limited built n) ≡ false → step_as_built built rules n ≡ left (limited built n)
unbuilt_step n s e = let m = limited built n in announced_same m refl s ∙ ap (λ b. perform (begun m) (act_if b m (row rules m m.redex))) e ∙ leaves m s

-- the step of leaving
pub abort_step : (n : Now) → are_simple n.context ≡ true → n.redex ≡ focus.Abort → step_as_built built rules n ≡ left (limited built n)
abort_step n s e =
    let m = limited built n in
    announced_same m refl s
    ∙ ap (λ f. perform (begun m) (act_if (is_row_built built m f && not (is_raise (row rules m f))) m (row rules m f))) e
    ∙ leaves m s
