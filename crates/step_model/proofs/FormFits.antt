-- The rows of forms fit where their redex stands.
use Rattle.std.proofs.Common.{◌≡◌, ℕ, ℤ, pos, ◌-◌, Bool, true, false, List, [], ◌∷◌, Option, Some, None, Result, Ok, Err, refl}
use Rattle.std.specs.Prelude.{if◌then◌else◌, is_some, slice_get, int_lt}
use Rattle.lisp_data.specs.declared.symbol.Symbol.{Symbol}
use Rattle.lisp_data.specs.declared.value.Value.{Value}
use Rattle.lisp_data.specs.declared.value.Value as value
use Rattle.lisp_data.specs.declared.value.Value.TheOpen.{Value-F}
use Rattle.lisp_data.specs.declared.value.Value.TheViews.{out-Value}
use Rattle.lisp_data.specs.declared.value.Condition.{Condition}
use Rattle.lisp_data.specs.Symbols.{value_of_symbol}
use Rattle.syntax_trees.specs.declared.ast.Ast.{Ast}
use Rattle.syntax_trees.specs.declared.row.Bare.{Bare}
use Rattle.syntax_trees.specs.declared.row.Bare.TheVariants as bare
use Rattle.syntax_trees.specs.declared.row.Binding.{Binding}
use Rattle.syntax_trees.specs.declared.row.Designator.{Designator}
use Rattle.syntax_trees.specs.declared.row.Holder.{Holder}
use Rattle.syntax_trees.specs.declared.row.Holder.TheVariants as holder
use Rattle.syntax_trees.specs.declared.row.Named.{Named}
use Rattle.syntax_trees.specs.declared.row.Named.TheVariants as named
use Rattle.syntax_trees.specs.declared.row.Row.{Row}
use Rattle.syntax_trees.specs.declared.row.Row.TheVariants as row
use Rattle.term_model.specs.declared.found.Found.{Found}
use Rattle.term_model.specs.declared.frame.Frame.TheVariants as frame
use Rattle.term_model.specs.declared.plain.HandlerFunction.{HandlerFunction}
use Rattle.term_model.specs.declared.plain.Plain.{Plain}
use Rattle.term_model.specs.declared.plain.Plain.TheVariants as plain
use Rattle.lisp_data.specs.Parts.{nil, yes}
use Rattle.term_model.specs.GoingIn.{advanced, body, look}
use Rattle.term_model.specs.Progress.{Progress}
use Rattle.term_model.specs.Targets.{find_block, find_catch}
use Rattle.term_model.specs.Term.{Context}
use Rattle.term_model.specs.Variables.{lexical}
use Rattle.step_model.specs.Act as act
use Rattle.step_model.specs.Act.{Act}
use Rattle.step_model.specs.Decision.{Decision, decided}
use Rattle.step_model.specs.Facts.{LayerFits, bare_plain, waits}
use Rattle.step_model.specs.Forms as forms
use Rattle.step_model.specs.Functions as functions
use Rattle.step_model.specs.Image.{ImageState, global, is_special}
use Rattle.step_model.specs.Kinds as kinds
use Rattle.step_model.specs.Now.{Now}
use Rattle.step_model.specs.OneStep.{alone, formatted}
use Rattle.step_model.proofs.FitLemmas.{FoundFits, PlainsFit, advanced_fits, body_fits, cond_fits, look_fits}
use Rattle.step_model.proofs.PerformFits.{ActFits, PlaceIf, Wanted}
use Rattle.step_model.proofs.TargetFits.{ValueFits, block_fits, catch_fits}
use Rattle.step_model.proofs.FunctionFits.{Busy, There, applies_row, gives_or_row, goes_in, if_row, or_raise_row, or_refuse_row, value_row}

goes_on_row : {w : Wanted} (d : Context) → PlaceIf w d → (v : Value) (es : List Ast) (found : Found) → FoundFits found → ActFits w (forms.goes_on v es found) d
goes_on_row d place v [] found h = value_row d place v
goes_on_row d place v (e ∷ es) found h = goes_in d place found h

looks_row : {w : Wanted} (d : Context) → PlaceIf w d → (es : List Ast) → ActFits w (forms.looks es) d
looks_row d place [] = value_row d place nil
looks_row d place (e ∷ es) = goes_in d place (look e) (look_fits e)

looks_inside_row : {w : Wanted} (d : Context) → PlaceIf w d → (p : Plain) (es : List Ast) → (w.sure → LayerFits (frame.On (bare_plain p)) d) → ActFits w (forms.looks_inside p es) d
looks_inside_row d place p [] h = value_row d place nil
looks_inside_row d place p (e ∷ es) h = (place, λ s. (h s, tt), look_fits e)

runs_if_row : {w : Wanted} (d : Context) → PlaceIf w d → (b : Bool) (es : List Ast) → ActFits w (forms.runs_if b es) d
runs_if_row d place true es = goes_in d place (body es) (body_fits es)
runs_if_row d place false es = value_row d place nil

choice_row : {w : Wanted} (d : Context) → PlaceIf w d → (es : List Ast) (b : Bool) → ActFits w (forms.if_row es b) d
choice_row d place es true = looks_row d place es
choice_row d place es false = looks_row d place _

clause_row : {w : Wanted} (d : Context) → PlaceIf w d → (k : ℕ) (v : Value) (b : Bool) (cs : List Ast) → ActFits w (forms.clause_row k v b cs) d
clause_row d place k v true [] = value_row d place v
clause_row d place k v true (c ∷ cs) = goes_on_row d place v _ _ (body_fits _)
clause_row d place k v false [] = value_row d place nil
clause_row d place k v false (c ∷ cs) = goes_on_row d place nil cs _ (cond_fits _ cs)

cond_row : {w : Wanted} (d : Context) → PlaceIf w d → (p : Progress) (vs : List Value) → ActFits w (forms.cond_row p vs) d
cond_row d place p [] = value_row d place nil
cond_row d place p (v ∷ vs) = clause_row d place p.done v (kinds.is_true v) p.rest

and_row : {w : Wanted} (d : Context) → PlaceIf w d → (p : Progress) (vs : List Value) → ActFits w (forms.and_row p vs) d
and_row d place p [] = value_row d place yes
and_row d place p (v ∷ vs) = if_row d place (kinds.is_true v) _ _ (goes_on_row d place v p.rest (advanced p) (advanced_fits p)) (value_row d place v)

or_row : {w : Wanted} (d : Context) → PlaceIf w d → (p : Progress) (vs : List Value) → ActFits w (forms.or_row p vs) d
or_row d place p [] = value_row d place nil
or_row d place p (v ∷ vs) = if_row d place (kinds.is_true v) _ _ (value_row d place v) (goes_on_row d place v p.rest (advanced p) (advanced_fits p))

progn_row : {w : Wanted} (d : Context) → PlaceIf w d → (p : Progress) (vs : List Value) → ActFits w (forms.progn_row p vs) d
progn_row d place p [] = value_row d place nil
progn_row d place p (v ∷ vs) = goes_on_row d place v p.rest (body p.rest) (body_fits p.rest)

-- what a decision says of a thread fits
abbrev Fits : Wanted → Now → Decision → Type 0
Fits w n x = ActFits w (decided n x) (There n)

variable_row : {w : Wanted} (n : Now) → Busy w n → (x : Symbol) (o : Option Value) → Fits w n (forms.variable_row x o)
variable_row n place x (Some v) = value_row (There n) place v
variable_row n place x None = gives_or_row (There n) place (functions.value_now n x) (functions.unbound n x) place

assigns_row : (w : Wanted) (n : Now) (x : Symbol) (v : Value) (a : Act) (o : Option Value) → ActFits w a (There n) → Fits w n (forms.assigns_row x v a o)
assigns_row w n x v a (Some old) h = h
assigns_row w n x v a None h = h

setq_named_row : (w : Wanted) (n : Now) (c : Context) (v : Value) (a : Act) (o : Option Symbol) → ActFits w a (There n) → Fits w n (forms.setq_named c v a o)
setq_named_row w n c v a (Some x) h = assigns_row w n x v a (lexical x c) h
setq_named_row w n c v a None h = h

setq_row : {w : Wanted} (n : Now) → Busy w n → (c : Context) (xs : List Symbol) (p : Progress) (vs : List Value) → Fits w n (forms.setq_row c xs p vs)
setq_row n place c xs p [] = value_row (There n) place nil
setq_row n place c xs p (v ∷ vs) = setq_named_row _ n c v (forms.goes_on v p.rest (advanced p)) (slice_get xs (p.done - 1)) (goes_on_row (There n) place v p.rest (advanced p) (advanced_fits p))

binding_layer : (b : Bool) (x : Symbol) (v : Value) (d : Context) → waits d ≡ false → LayerFits (frame.On (bare_plain (if b then plain.Dynamic x v else plain.Lexical x v))) d
binding_layer true x v d e = e
binding_layer false x v d e = e

bindings_fit : (image : ImageState) (bs : List Binding) (vs : List Value) (d : Context) → waits d ≡ false → PlainsFit (forms.all_bindings image bs vs) d
bindings_fit image [] vs d e = tt
bindings_fit image (b ∷ bs) [] d e = tt
bindings_fit image (b ∷ bs) (v ∷ vs) d e =
    (binding_layer (is_special image b.variable) b.variable v d e, bindings_fit image bs vs (frame.On (bare_plain (forms.binding image b.variable v)) ∷ d) refl)

let_star_rest_fits : (p : Progress) (bs : List Binding) → FoundFits (forms.let_star_rest p bs)
let_star_rest_fits p [] = body_fits p.rest
let_star_rest_fits p (b ∷ bs) = advanced_fits p

let_star_row : {w : Wanted} (n : Now) → Busy w n → (p : Progress) (bs : List Binding) → Fits w n (forms.let_star_row p bs)
let_star_row n place p [] = goes_in (There n) place (body p.rest) (body_fits p.rest)
let_star_row n place p (b ∷ bs) = (place, λ s. (binding_layer (is_special n.image b.variable) b.variable _ (There n) (place.busy s), tt), let_star_rest_fits p bs)

throws_row : {w : Wanted} (n : Now) → Busy w n → (o : Option ℕ) (v : Value) (missing : Condition) → ValueFits o (There n) → ActFits w (forms.throws o v missing) (There n)
throws_row n place (Some target) v missing h = (place.layers, h v)
throws_row n place None v missing h = place

returns_row : {w : Wanted} (n : Now) → Busy w n → (name : Symbol) (v : Value) → Fits w n (forms.returns name v)
returns_row n place name v = throws_row n place (find_block name n.context) v _ (block_fits name n.context)

throw_row : {w : Wanted} (n : Now) → Busy w n → (tag v : Value) → Fits w n (forms.throw_row tag v)
throw_row n place tag v = throws_row n place (find_catch tag n.context) v _ (catch_fits tag n.context)

protects_row : {w : Wanted} (d : Context) → PlaceIf w d → (es : List Ast) → ActFits w (forms.protects_row es) d
protects_row d place [] = value_row d place nil
protects_row d place (e ∷ es) = place

turn_row : {w : Wanted} (d : Context) → PlaceIf w d → (x : Symbol) (i : ℤ) (count : Value) (es : List Ast) (b : Bool) → ActFits w (forms.turn_below x i count es b) d
turn_row d place x i count es true = (place, λ s. (place.busy s, (refl, tt)), body_fits es)
turn_row d place x i count es false = value_row d place nil

pub counts_row : {w : Wanted} (n : Now) → Busy w n → (x : Symbol) (i : ℤ) (count : Value) (es : List Ast) (v : Value-F Value Condition) → Fits w n (forms.counts_to x i count es v)
counts_row n place x i count es (Value-F.Int k) = turn_row (There n) place x i count es (int_lt i k)
counts_row n place x i count es v = place

turn_with_row : {w : Wanted} (d : Context) → PlaceIf w d → (x : Symbol) (i : ℕ) (list : Value) (es : List Ast) (o : Option Value) → ActFits w (forms.turn_with x i list es o) d
turn_with_row d place x i list es (Some v) = (place, λ s. (place.busy s, (refl, tt)), body_fits es)
turn_with_row d place x i list es None = value_row d place nil

pub lists_row : {w : Wanted} (n : Now) → Busy w n → (x : Symbol) (i : ℕ) (list : Value) (es : List Ast) (v : Value-F Value Condition) → Fits w n (forms.lists_in x i list es v)
lists_row n place x i list es (Value-F.List vs) = turn_with_row (There n) place x i list es (slice_get vs i)
lists_row n place x i list es v = place

dotimes_row : {w : Wanted} (n : Now) → Busy w n → (x : Symbol) (p : Progress) (vs : List Value) → Fits w n (forms.dotimes_row x p vs)
dotimes_row n place x p [] = (place, λ s. (place.busy s, tt), advanced_fits p)
dotimes_row n place x p (v ∷ vs) = counts_row n place x (pos 0) v p.rest (out-Value v)

dolist_row : {w : Wanted} (n : Now) → Busy w n → (x : Symbol) (p : Progress) (vs : List Value) → Fits w n (forms.dolist_row x p vs)
dolist_row n place x p [] = (place, λ s. (place.busy s, tt), advanced_fits p)
dolist_row n place x p (v ∷ vs) = lists_row n place x 0 v p.rest (out-Value v)

defvar_first_row : {w : Wanted} (n : Now) → Busy w n → (p : Progress) (x : Symbol) (es : List Ast) → ActFits w (forms.defvar_first p x n es) (There n)
defvar_first_row n place p x [] = value_row (There n) place (value_of_symbol x)
defvar_first_row n place p x (e ∷ es) = if_row (There n) place (is_some (global n.image x)) (forms.proclaims n x) (act.Goes [] (advanced p)) (value_row (There n) place (value_of_symbol x)) (goes_in (There n) place (advanced p) (advanced_fits p))

defvar_row : {w : Wanted} (n : Now) → Busy w n → (x : Symbol) (p : Progress) (vs : List Value) → ActFits w (forms.defvar_row x p n vs) (There n)
defvar_row n place x p [] = defvar_first_row n place p x p.rest
defvar_row n place x p (v ∷ vs) = value_row (There n) place (value_of_symbol x)

in_package_row : {w : Wanted} (n : Now) → Busy w n → (d : Designator) → ActFits w (forms.in_package_row n d) (There n)
in_package_row n place d = or_refuse_row (There n) place _ (forms.in_package n) (λ full. value_row (There n) place (value.Str full))

binds_handlers_row : {w : Wanted} (n : Now) → Busy w n → (es : List Ast) (o : Result (List HandlerFunction) Value) → ActFits w (forms.binds_handlers n es o) (There n)
binds_handlers_row n place es (Ok hs) = (place, λ s. (place.busy s, tt), body_fits es)
binds_handlers_row n place es (Err bad) = place

simple_restart_row : {w : Wanted} (n : Now) → Busy w n → (name : Symbol) (control : List ℕ) (vs : List Value) (es : List Ast) → ActFits w (forms.simple_restart n name control vs es) (There n)
simple_restart_row n place name control vs es = or_raise_row (There n) place (formatted (kinds.current n) control vs) _ (λ text. (place, λ s. (place.busy s, tt), body_fits es))

call_row_by : {w : Wanted} (n : Now) → Busy w n → (g : Symbol) (vs : List Value) (o : Option Value) → Fits w n (forms.call_row g vs o)
call_row_by n place g vs (Some v) = value_row (There n) place v
call_row_by n place g vs None = applies_row n place g vs

pub call_row_fits : {w : Wanted} (n : Now) → Busy w n → (g : Symbol) (vs : List Value) → Fits w n (forms.call g vs)
call_row_fits n place g vs = call_row_by n place g vs (alone g vs)

bare_row : {w : Wanted} (n : Now) → Busy w n → (b : Bare) (p : Progress) → Fits w n (forms.bare_row b p)
bare_row n place bare.If p = choice_row (There n) place p.rest _
bare_row n place bare.When p = runs_if_row (There n) place _ p.rest
bare_row n place bare.Unless p = if_row (There n) place (kinds.is_true (forms.first_value p.values)) _ _ (value_row (There n) place nil) (goes_in (There n) place (body p.rest) (body_fits p.rest))
bare_row n place bare.Cond p = cond_row (There n) place p p.values
bare_row n place bare.And p = and_row (There n) place p p.values
bare_row n place bare.Or p = or_row (There n) place p p.values
bare_row n place bare.Progn p = progn_row (There n) place p p.values
bare_row n place bare.Return p = returns_row n place forms.nil_name _
bare_row n place bare.Loop p = (place, λ s. (place.busy s, tt), refl)
bare_row n place bare.Catch p = (place, λ s. (place.busy s, tt), body_fits p.rest)
bare_row n place bare.Throw p = throw_row n place _ _
bare_row n place bare.UnwindProtect p = protects_row (There n) place p.rest
bare_row n place bare.HandlerCase p = looks_inside_row (There n) place _ p.rest place.busy
bare_row n place bare.IgnoreErrors p = (place, λ s. (place.busy s, tt), body_fits p.rest)
bare_row n place bare.RestartCase p = looks_inside_row (There n) place _ p.rest place.busy

named_row : {w : Wanted} (n : Now) → Busy w n → (k : Named) (name : Symbol) (p : Progress) → Fits w n (forms.named_row k name p)
named_row n place named.Block name p = (place, λ s. (place.busy s, tt), body_fits p.rest)
named_row n place named.ReturnFrom name p = returns_row n place name _
named_row n place named.Call g p = call_row_fits n place g p.values

held_row : {w : Wanted} (n : Now) → Busy w n → (h : Holder) (x : Symbol) (p : Progress) → Fits w n (forms.held_row h x p)
held_row n place holder.DoTimes x p = dotimes_row n place x p p.values
held_row n place holder.DoList x p = dolist_row n place x p p.values
held_row n place holder.Defvar x p = defvar_row n place x p p.values
held_row n place holder.Defparameter x p = value_row (There n) place (value_of_symbol x)

pub form_by_row : {w : Wanted} (n : Now) → Busy w n → (r : Row) (p : Progress) → Fits w n (forms.form_by n.context r p)
form_by_row n place (row.Literal v) p = value_row (There n) place v
form_by_row n place (row.Quote v) p = value_row (There n) place v
form_by_row n place (row.Function s) p = value_row (There n) place (value_of_symbol s)
form_by_row n place (row.Variable x) p = variable_row n place x (lexical x n.context)
form_by_row n place (row.Bare b) p = bare_row n place b p
form_by_row n place (row.Named k name) p = named_row n place k name p
form_by_row n place (row.Held h x) p = held_row n place h x p
form_by_row n place (row.Let bindings) p = (place, λ s. bindings_fit n.image bindings p.values (There n) (place.busy s), body_fits p.rest)
form_by_row n place (row.LetStar bindings) p = let_star_row n place p _
form_by_row n place (row.Setq xs) p = setq_row n place n.context xs p p.values
form_by_row n place (row.Defun g ps) p = value_row (There n) place (value_of_symbol g)
form_by_row n place (row.HandlerBind types) p = binds_handlers_row n place p.rest (forms.named_handlers types p.values)
form_by_row n place (row.WithSimpleRestart name control arguments) p = simple_restart_row n place name control p.values p.rest
form_by_row n place (row.InPackage d) p = in_package_row n place d
form_by_row n place (row.Defpackage d uses exports) p =
    or_refuse_row (There n) place (forms.with_package n.image.packages d uses exports) (forms.defines_package n (forms.name_in d)) (λ ps. (place, λ s. tt, tt))
form_by_row n place row.CondClause p = value_row (There n) place nil
form_by_row n place (row.HandlerClause kind x) p = value_row (There n) place nil
form_by_row n place (row.RestartClause name parameters report) p = value_row (There n) place nil
