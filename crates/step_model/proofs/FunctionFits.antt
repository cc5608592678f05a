-- The rows of functions fit where their redex stands.
use Rattle.std.proofs.Common.{◌≡◌, ℕ, Bool, true, false, List, [], ◌∷◌, ◌++◌, Option, Some, None, Result, Ok, Err, refl}
use Rattle.std.specs.Prelude.{codes, if◌then◌else◌, option_map, slice_get}
use Rattle.lisp_data.specs.declared.symbol.Symbol.{Symbol}
use Rattle.lisp_data.specs.declared.type_id.TypeId.{TypeId}
use Rattle.lisp_data.specs.declared.type_id.TypeId.TheVariants as type
use Rattle.lisp_data.specs.declared.value.Value.{Value}
use Rattle.lisp_data.specs.declared.value.Value as value
use Rattle.lisp_data.specs.declared.value.Value.TheOpen.{Value-F}
use Rattle.lisp_data.specs.declared.value.Value.TheViews.{out-Value}
use Rattle.lisp_data.specs.declared.value.Condition.{Condition}
use Rattle.lisp_errors.specs.Limits.{is_condition_too_large, is_too_large}
use Rattle.lisp_packages.specs.declared.fault.NameFault.{NameFault}
use Rattle.lisp_data.specs.Symbols.{cl, value_of_symbol}
use Rattle.lisp_syntax.specs.Parsing.{parsed}
use Rattle.syntax_trees.specs.declared.ast.Ast.{Ast}
use Rattle.term_model.specs.declared.found.Found.{Found}
use Rattle.term_model.specs.declared.frame.Frame.TheVariants as frame
use Rattle.term_model.specs.declared.kept.Leaving.{Leaving}
use Rattle.term_model.specs.declared.plain.Plain.{Plain}
use Rattle.term_model.specs.declared.plain.Plain.TheVariants as plain
use Rattle.lisp_data.specs.Parts.{nil, yes}
use Rattle.term_model.specs.Restarts.{find_restart, invoking}
use Rattle.term_model.specs.Term.{Context}
use Rattle.step_model.specs.declared.machine_function.MachineFunction.{MachineFunction}
use Rattle.step_model.specs.declared.machine_function.MachineFunction.TheVariants as f
use Rattle.step_model.specs.Act as act
use Rattle.step_model.specs.Act.{Act}
use Rattle.step_model.specs.Facts.{bare_plain, bares, waits}
use Rattle.step_model.specs.Functions as functions
use Rattle.step_model.specs.Image.{Function, function}
use Rattle.step_model.specs.Kinds as kinds
use Rattle.step_model.specs.MachineFunctions.{machine_function}
use Rattle.step_model.specs.Now.{Now}
use Rattle.step_model.specs.OneStep.{formatted, outcome}
use Rattle.step_model.proofs.FitLemmas.{FoundFits, PlainsFit, body_fits, look_fits}
use Rattle.step_model.proofs.PerformFits.{ActFits, PlaceIf, Wanted}
use Rattle.step_model.proofs.TargetFits.{LeavingFits, abort_fits, invoking_fits}

-- ---- parts that several rows share. `d` is the context without what assigning and announcing change

module _ {w : Wanted} (d : Context) (place : PlaceIf w d) where
  pub value_row : (v : Value) → ActFits w (kinds.gives_value v) d
  value_row v = (place, λ s. tt, tt)

  unless_row : (b : Bool) (a : Act) → ActFits w a d → ActFits w (kinds.unless_too_large b a) d
  unless_row true a h = place
  unless_row false a h = h

  pub made_row : (v : Value) → ActFits w (kinds.gives_made v) d
  made_row v = unless_row (is_too_large v) (kinds.gives_value v) (value_row v)

  pub prints_row : (text : List ℕ) (v : Value) → ActFits w (kinds.prints text v) d
  prints_row text v = unless_row _ (act.Writes (kinds.written_if text) (kinds.gives_value v)) (value_row v)

  or_wrong_row : {A : Type 0} (o : Option A) (refused : Act) (go : A → Act) → ActFits w refused d → ((x : A) → ActFits w (go x) d) → ActFits w (kinds.or_wrong o refused go) d
  or_wrong_row (Some x) refused go h k = k x
  or_wrong_row None refused go h k = h

  pub or_raise_row : {A : Type 0} (o : Result A Condition) (go : A → Act) → ((x : A) → ActFits w (go x) d) → ActFits w (kinds.or_raise o go) d
  or_raise_row (Ok x) go k = k x
  or_raise_row (Err c) go k = place

  pub or_refuse_row : {A : Type 0} (o : Result A NameFault) (go : A → Act) → ((x : A) → ActFits w (go x) d) → ActFits w (kinds.or_refuse o go) d
  or_refuse_row (Ok x) go k = k x
  or_refuse_row (Err c) go k = place

  pub if_row : (b : Bool) (a other : Act) → ActFits w a d → ActFits w other d → ActFits w (if b then a else other) d
  if_row true a other h g = h
  if_row false a other h g = g

  pub goes_in : (found : Found) → FoundFits found → ActFits w (act.Goes [] found) d
  goes_in found h = (place, λ s. tt, h)

  -- ---- calls

  spread_row : (n : Now) (go : List Value → Act) (v : Value) (vs : List Value) → ((ws : List Value) → ActFits w (go ws) d) → ActFits w (functions.spread n go v vs) d
  spread_row n go v [] k = or_wrong_row (kinds.list_of v) _ go place k
  spread_row n go v (w ∷ vs) k = spread_row n (λ items. go (v ∷ items)) w vs (λ items. k (v ∷ items))

  maps_item_row : (g : Symbol) (list : List Value) (next : ℕ) (collected : Option (List Value)) (o : Option Value) → ActFits w (functions.maps_item g list next collected o) d
  maps_item_row g list next collected (Some v) = (place, λ s. (place.busy s, tt), refl)
  maps_item_row g list next collected None = made_row (functions.collected_value list collected)

  pub maps_row : (g : Symbol) (list : List Value) (next : ℕ) (collected : Option (List Value)) → ActFits w (functions.maps g list next collected) d
  maps_row g list next collected = maps_item_row g list next collected (slice_get list next)

  pub tree_row : (n : Now) (o : Result Ast Value) (go : Ast → Act) → ((e : Ast) → ActFits w (go e) d) → ActFits w (functions.with_tree n o go) d
  tree_row n (Ok e) go k = k e
  tree_row n (Err bad) go k = place

  pub gives_or_row : (o : Option Value) (otherwise : Act) → ActFits w otherwise d → ActFits w (functions.gives_or o otherwise) d
  gives_or_row (Some v) otherwise h = value_row v
  gives_or_row None otherwise h = h

  symbol_value_row : (n : Now) (s : Symbol) (b : Bool) → ActFits w (functions.symbol_value n s b) d
  symbol_value_row n s true = value_row (value_of_symbol s)
  symbol_value_row n s false = gives_or_row (functions.value_now n s) (functions.unbound n s) place

  formats_row : (n : Now) (destination control : Value) (vs : List Value) (b : Bool) → ActFits w (functions.formats n destination control vs b) d
  formats_row n destination control vs true =
      or_wrong_row (kinds.string_of control) _ _ place (λ text. or_raise_row (formatted (kinds.current n) text vs) (functions.formats_to n destination) (λ t. if_row (kinds.is_true destination) _ _ (prints_row t nil) (value_row (value.Str t))))
  formats_row n destination control vs false = place

  made_condition_row : (n : Now) (datum : Value) (o : Option (Result Value Condition)) (go : Condition → Act) → ((c : Condition) → ActFits w (go c) d) → ActFits w (functions.made_condition n datum o go) d
  made_condition_row n datum (Some (Ok v)) go k = or_wrong_row (kinds.condition_of v) _ go place k
  made_condition_row n datum (Some (Err c)) go k = place
  made_condition_row n datum None go k = place

  datum_row_in : (n : Now) (kind : TypeId) (datum : Value) (vs : List Value) (go : Condition → Act) (x : Value-F Value Condition) → ((c : Condition) → ActFits w (go c) d) → ActFits w (functions.datum_condition n kind datum vs go x) d
  datum_row_in n kind datum vs go (Value-F.Str control) k =
      or_raise_row (formatted (kinds.current n) control vs) _ (λ text. unless_row (is_condition_too_large _) (go _) (k _))
  datum_row_in n kind datum vs go (Value-F.Sym s) k = if_row (functions.names_condition s) _ _ (made_condition_row n datum (outcome (kinds.current n) (cl (codes "MAKE-CONDITION")) (datum ∷ vs)) go k) place
  datum_row_in n kind datum vs go (Value-F.Cond c) k = k c
  datum_row_in n kind datum vs go (Value-F.Int z) k = place
  datum_row_in n kind datum vs go (Value-F.List items) k = place

  datum_row : (n : Now) (kind : TypeId) (datum : Value) (vs : List Value) (go : Condition → Act) → ((c : Condition) → ActFits w (go c) d) → ActFits w (functions.with_datum n kind datum vs go) d
  datum_row n kind datum vs go k = datum_row_in n kind datum vs go (out-Value datum) k

  pub exits_or_row : (o : Option Leaving) (otherwise : Act) → LeavingFits o d → ActFits w otherwise d → ActFits w (functions.exits_or o otherwise) d
  exits_or_row (Some x) otherwise h g = (place.layers, h)
  exits_or_row None otherwise h g = g

-- ---- rows of one thread

abbrev pub There : Now → Context
There n = bares n.context

abbrev pub Busy : Wanted → Now → Type 0
Busy w n = PlaceIf w (bares n.context)

invokes_row : {w : Wanted} (n : Now) → Busy w n → (name : Symbol) (vs : List Value) (otherwise : Act) → ActFits w otherwise (There n) → ActFits w (functions.invokes n name vs otherwise) (There n)
invokes_row n place name vs otherwise h = exits_or_row (There n) place (invoking (find_restart name n.context) vs n.context) otherwise (invoking_fits (find_restart name n.context) vs n.context) h

-- with what an argument has to be
symbol_row : {w : Wanted} (n : Now) → Busy w n → (v : Value) (go : Symbol → Act) → ((x : Symbol) → ActFits w (go x) (There n)) → ActFits w (kinds.with_symbol n v go) (There n)
symbol_row n place v go k = or_wrong_row (There n) place (kinds.symbol_of v) _ go place k

string_row : {w : Wanted} (n : Now) → Busy w n → (v : Value) (go : List ℕ → Act) → ((x : List ℕ) → ActFits w (go x) (There n)) → ActFits w (kinds.with_string n v go) (There n)
string_row n place v go k = or_wrong_row (There n) place (kinds.string_of v) _ go place k

list_row : {w : Wanted} (n : Now) → Busy w n → (v : Value) (go : List Value → Act) → ((x : List Value) → ActFits w (go x) (There n)) → ActFits w (kinds.with_list n v go) (There n)
list_row n place v go k = or_wrong_row (There n) place (kinds.list_of v) _ go place k

condition_row : {w : Wanted} (n : Now) → Busy w n → (v : Value) (go : Condition → Act) → ((x : Condition) → ActFits w (go x) (There n)) → ActFits w (kinds.with_condition n v go) (There n)
condition_row n place v go k = or_wrong_row (There n) place (kinds.condition_of v) _ go place k

designated_row : {w : Wanted} (n : Now) → Busy w n → (v : Value) (go : List ℕ → Act) → ((x : List ℕ) → ActFits w (go x) (There n)) → ActFits w (kinds.with_designated n v go) (There n)
designated_row n place v go k = or_wrong_row (There n) place (kinds.designated_in (out-Value v)) _ go place k

called_row : {w : Wanted} (n : Now) → Busy w n → (g : MachineFunction) (vs : List Value) → ActFits w (functions.called n g vs) (There n)
called_row n place f.Funcall (g ∷ vs) = symbol_row n place g _ (λ s. (place, λ s. tt, refl))
called_row n place f.Apply (g ∷ v ∷ vs) = symbol_row n place g _ (λ s. spread_row (There n) place n (functions.calls s) v vs (λ ws. (place, λ s. tt, refl)))
called_row n place f.Mapcar (g ∷ list ∷ []) = symbol_row n place g _ (λ s. list_row n place list _ (λ items. maps_row (There n) place s items 0 (Some [])))
called_row n place f.Mapc (g ∷ list ∷ []) = symbol_row n place g _ (λ s. list_row n place list _ (λ items. maps_row (There n) place s items 0 None))
called_row n place f.Eval (form ∷ []) = tree_row (There n) place n (parsed form) _ (λ e. (place, λ s. (place.busy s, tt), look_fits e))
called_row n place f.SymbolValue (v ∷ []) = symbol_row n place v _ (λ s. symbol_value_row (There n) place n s (functions.is_constant s))
called_row n place f.Set (v ∷ x ∷ []) = symbol_row n place v _ (λ s. value_row (There n) place x)
called_row n place f.Boundp (v ∷ []) = symbol_row n place v _ (λ s. (place, λ s. tt, tt))
called_row n place f.Fboundp (v ∷ []) = symbol_row n place v _ (λ s. (place, λ s. tt, tt))
called_row n place f.Intern (v ∷ []) = string_row n place v _ (λ name. or_refuse_row (There n) place _ (functions.named_value n) (λ found. value_row (There n) place (value_of_symbol found.1)))
called_row n place f.FindSymbol (v ∷ []) = string_row n place v _ (λ name. (place, λ s. tt, tt))
called_row n place f.Export (v ∷ []) = symbol_row n place v _ (λ s. or_refuse_row (There n) place _ (functions.packages_changed n) (λ ps. value_row (There n) place yes))
called_row n place f.UsePackage (v ∷ []) = designated_row n place v _ (λ name. or_refuse_row (There n) place _ (functions.packages_changed n) (λ ps. value_row (There n) place yes))
called_row n place f.Format (destination ∷ control ∷ vs) = formats_row (There n) place n destination control vs (functions.is_destination (out-Value destination))
called_row n place f.Princ (v ∷ []) = prints_row (There n) place _ v
called_row n place f.Prin1 (v ∷ []) = prints_row (There n) place _ v
called_row n place f.Print (v ∷ []) = prints_row (There n) place _ v
called_row n place f.WriteString (v ∷ []) = string_row n place v _ (λ text. prints_row (There n) place text v)
called_row n place f.WriteLine (v ∷ []) = string_row n place v _ (λ text. prints_row (There n) place (text ++ 10 ∷ []) v)
called_row n place f.Terpri [] = prints_row (There n) place (10 ∷ []) nil
called_row n place f.ReadLine [] = place
called_row n place f.YesOrNo [] = place
called_row n place f.YesOrNo (control ∷ vs) = string_row n place control _ (λ text. or_raise_row (There n) place (formatted (kinds.current n) text vs) _ (λ t. place))
called_row n place f.Signal (datum ∷ vs) = datum_row (There n) place n type.SimpleCondition datum vs functions.signalling (λ c. (place, λ s. tt, refl))
called_row n place f.Error (datum ∷ vs) = datum_row (There n) place n type.SimpleError datum vs act.Raises (λ c. place)
called_row n place f.Cerror (control ∷ datum ∷ vs) =
    string_row n place control _ (λ text. or_raise_row (There n) place (formatted (kinds.current n) text vs) _ (λ report.
    datum_row (There n) place n type.SimpleError datum vs (functions.continuable report) (λ c. (place, λ s. (place.busy s, (refl, tt)), refl))))
called_row n place f.Warn (datum ∷ vs) = datum_row (There n) place n type.SimpleWarning datum vs functions.warns (λ c. (place, λ s. (place.busy s, (refl, tt)), refl))
called_row n place f.Break [] = (place, λ s. (place.busy s, tt), refl)
called_row n place f.Break (datum ∷ vs) = datum_row (There n) place n type.SimpleCondition datum vs (functions.enters_inside functions.break_offer) (λ c. (place, λ s. (place.busy s, tt), refl))
called_row n place f.InvokeDebugger (v ∷ []) = condition_row n place v _ (λ c. (place, λ s. tt, refl))
called_row n place f.InvokeRestart (v ∷ vs) = symbol_row n place v _ (λ name. invokes_row n place name vs (functions.no_such_restart n name) place)
called_row n place f.FindRestart (v ∷ []) = symbol_row n place v _ (λ name. (place, λ s. tt, tt))
called_row n place f.ComputeRestarts [] = made_row (There n) place _
called_row n place f.Abort [] = (place.layers, abort_fits n.context)
called_row n place f.Continue [] = invokes_row n place _ [] (kinds.gives_value nil) (value_row (There n) place nil)
called_row n place f.MuffleWarning [] = invokes_row n place functions.muffle_warning [] (functions.no_such_restart n functions.muffle_warning) place
called_row n place g vs = place

-- ---- user functions

abbrev BoundFit : Option (List Plain) → Type 0
BoundFit None = Unit {0}
BoundFit (Some ps) = (d : Context) → waits d ≡ false → PlainsFit ps d

more_bound : (x : Symbol) (v : Value) (o : Option (List Plain)) → BoundFit o → BoundFit (option_map (λ ps. plain.Lexical x v ∷ ps) o)
more_bound x v None h = tt
more_bound x v (Some ps) h = λ d e. (e, h (frame.On (plain.Lexical x nil) ∷ d) refl)

rest_fit : (rest : Option Symbol) (vs : List Value) → BoundFit (functions.rest_bound rest vs)
rest_fit None [] = λ d e. tt
rest_fit None (v ∷ vs) = tt
rest_fit (Some x) vs = λ d e. (e, tt)

optional_fit : (xs : List Symbol) (rest : Option Symbol) (vs : List Value) → BoundFit (functions.optional_bound xs rest vs)
optional_fit [] rest vs = rest_fit rest vs
optional_fit (x ∷ xs) rest [] = more_bound x nil (functions.optional_bound xs rest []) (optional_fit xs rest [])
optional_fit (x ∷ xs) rest (v ∷ vs) = more_bound x v (functions.optional_bound xs rest vs) (optional_fit xs rest vs)

all_fit : (xs ys : List Symbol) (rest : Option Symbol) (vs : List Value) → BoundFit (functions.all_bound xs ys rest vs)
all_fit [] ys rest vs = optional_fit ys rest vs
all_fit (x ∷ xs) ys rest [] = tt
all_fit (x ∷ xs) ys rest (v ∷ vs) = more_bound x v (functions.all_bound xs ys rest vs) (all_fit xs ys rest vs)

-- markers that fit a busy place, with one more inside
blocked : (ps : List Plain) (g : Symbol) (d : Context) → waits d ≡ false → PlainsFit ps d → PlainsFit (ps ++ plain.Block g ∷ []) d
blocked [] g d e h = (e, tt)
blocked (p ∷ ps) g d e h = (h.0, blocked ps g (frame.On (bare_plain p) ∷ d) refl h.1)

enters_row : {w : Wanted} (n : Now) → Busy w n → (g : Symbol) (fn : Function) (vs : List Value) (bound : List Plain) → BoundFit (Some bound) → ActFits w (functions.enters_function g fn vs bound) (There n)
enters_row n place g fn vs bound h =
    let inner : Context = frame.On (plain.Call g vs) ∷ There n in
    unless_row (There n) place (functions.rest_too_large fn vs) _ (place, λ s. (place.busy s, blocked bound g inner refl (h inner refl)), body_fits fn.body)

calls_function_row : {w : Wanted} (n : Now) → Busy w n → (g : Symbol) (fn : Function) (vs : List Value) (o : Option (List Plain)) → BoundFit o → ActFits w (functions.calls_function n g fn vs o) (There n)
calls_function_row n place g fn vs (Some bound) h = enters_row n place g fn vs bound h
calls_function_row n place g fn vs None h = place

calls_user_row : {w : Wanted} (n : Now) → Busy w n → (g : Symbol) (vs : List Value) (o : Option Function) → ActFits w (functions.calls_user n g vs o) (There n)
calls_user_row n place g vs (Some fn) = calls_function_row n place g fn vs (functions.all_bound fn.required fn.optional fn.rest vs) (all_fit fn.required fn.optional fn.rest vs)
calls_user_row n place g vs None = place

applies_other_row : {w : Wanted} (n : Now) → Busy w n → (g : Symbol) (vs : List Value) (o : Option (Result Value Condition)) → ActFits w (functions.applies_other n g vs o) (There n)
applies_other_row n place g vs (Some outcome) = or_raise_row (There n) place outcome kinds.gives_value (λ v. value_row (There n) place v)
applies_other_row n place g vs None = calls_user_row n place g vs (function n.image g)

applies_by_row : {w : Wanted} (n : Now) → Busy w n → (g : Symbol) (vs : List Value) (o : Option MachineFunction) → ActFits w (functions.applies_by n g vs o) (There n)
applies_by_row n place g vs (Some m) = called_row n place m vs
applies_by_row n place g vs None = applies_other_row n place g vs (outcome (kinds.current n) g vs)

pub applies_row : {w : Wanted} (n : Now) → Busy w n → (g : Symbol) (vs : List Value) → ActFits w (functions.applies n g vs) (There n)
applies_row n place g vs = applies_by_row n place g vs (machine_function g)
