-- The rows of the functions that the machine itself runs, and of user functions (HyperSpec 3.1.2.1.2.3 and the entries of the functions).
use Rattle.std.specs.Prelude.{ℕ, ◌+◌, Bool, true, false, ◌||◌, ◌&&◌, if◌then◌else◌, is_some, List, [], ◌∷◌, ◌++◌, length, drop, map, Option, Some, None, option_map, option_and_then, Result, Ok, Err, codes, slice_get}
use Rattle.std.specs.Option.{option_or}
use Rattle.lisp_data.specs.declared.symbol.Symbol.{Symbol}
use Rattle.lisp_data.specs.declared.type_id.TypeId.{TypeId}
use Rattle.lisp_data.specs.declared.type_id.TypeId.TheVariants as type
use Rattle.lisp_data.specs.declared.value.Value.{Value}
use Rattle.lisp_data.specs.declared.value.Value as value
use Rattle.lisp_data.specs.declared.value.Value.TheOpen.{Value-F}
use Rattle.lisp_data.specs.declared.value.Value.TheViews.{out-Value}
use Rattle.lisp_data.specs.declared.value.Condition.{Condition}
use Rattle.lisp_errors.specs.Causes.{bad_form, no_restart, unbound_variable, undefined_function, wrong_number_of_arguments}
use Rattle.lisp_errors.specs.Limits.{is_condition_too_large, is_too_large}
use Rattle.lisp_errors.specs.Texts.{without_datum}
use Rattle.lisp_errors.specs.declared.wanted.Wanted.TheVariants as wanted
use Rattle.lisp_packages.specs.Changes.{export_at, intern_at, use_at}
use Rattle.lisp_packages.specs.Naming.{in_named}
use Rattle.lisp_packages.specs.Packages.{accessible, place_of}
use Rattle.lisp_packages.specs.declared.lisp_package.Package.{Package}
use Rattle.sexp_printer.specs.UserText.{user_text}
use Rattle.lisp_syntax.specs.Parsing.{parsed}
use Rattle.lisp_types.specs.Kinds.{is_kind, type_by_name}
use Rattle.lisp_data.specs.Symbols.{cl, is_keyword, is_nil, is_of_common_lisp, names, value_of_symbol}
use Rattle.syntax_trees.specs.declared.ast.Ast.{Ast}
use Rattle.term_model.specs.declared.focus.Focus.TheVariants as focus
use Rattle.term_model.specs.declared.found.Found.TheVariants.{Here}
use Rattle.term_model.specs.declared.kept.Outcome.TheVariants as outcome
use Rattle.term_model.specs.declared.kept.Leaving.{Leaving}
use Rattle.term_model.specs.declared.plain.Plain.{Plain}
use Rattle.term_model.specs.declared.plain.Plain.TheVariants as plain
use Rattle.term_model.specs.declared.question.Ask.TheVariants as question
use Rattle.term_model.specs.declared.restart.Action.TheVariants.{Give}
use Rattle.term_model.specs.declared.restart.Offer.{Offer}
use Rattle.lisp_data.specs.Parts.{nil, truth, yes}
use Rattle.term_model.specs.GoingIn.{body, look}
use Rattle.term_model.specs.Restarts.{abort_exit, find_restart, invoking, visible}
use Rattle.term_model.specs.Variables.{dynamic}
use Rattle.step_model.specs.declared.machine_function.MachineFunction.{MachineFunction}
use Rattle.step_model.specs.declared.machine_function.MachineFunction.TheVariants as f
use Rattle.step_model.specs.Act.{Act, Goes, Raises, Asks, Exits, Changes, Sets}
use Rattle.step_model.specs.Image.{Function, function, global, with_packages}
use Rattle.step_model.specs.Kinds.{current, gives_value, gives_made, prints, is_true, unless_too_large, wrong, with_symbol, with_string, with_list, with_condition, with_designated, or_raise, or_refuse}
use Rattle.step_model.specs.MachineFunctions.{machine_function, machine_name}
use Rattle.step_model.specs.Now.{Now}
use Rattle.step_model.specs.Perform.{continue}
use Rattle.step_model.specs.OneStep.{formatted, is_one_step, outcome}

-- ---- parts of rows

-- a call of a function
abbrev pub calls : Symbol → List Value → Act
calls g vs = Goes [] (Here (focus.Apply g vs))

-- a restart that gives NIL
abbrev pub giving_nil : Symbol → List ℕ → Offer
giving_nil name text = record { name = name; text = text; action = Give (outcome.Value nil) }

abbrev pub muffle_warning : Symbol
muffle_warning = cl (codes "MUFFLE-WARNING")

-- the last argument, which is a list, with the arguments before it in front of its items
abbrev pub spread : Now → (List Value → Act) → Value → List Value → Act
spread n act v [] = with_list n v act
spread n act v (w ∷ vs) = spread n (λ items. act (v ∷ items)) w vs

-- the call for the item at this place, or what the calls gave: their values, or the list itself
abbrev pub collected_value : List Value → Option (List Value) → Value
collected_value list (Some vs) = value.List vs
collected_value list None = value.List list

abbrev pub maps_item : Symbol → List Value → ℕ → Option (List Value) → Option Value → Act
maps_item g list next collected (Some v) = Goes (plain.Map g list (next + 1) collected ∷ []) (Here (focus.Apply g (v ∷ [])))
maps_item g list next collected None = gives_made (collected_value list collected)

abbrev pub maps : Symbol → List Value → ℕ → Option (List Value) → Act
maps g list next collected = maps_item g list next collected (slice_get list next)

-- the tree of a value that is a form
abbrev pub with_tree : Now → Result Ast Value → (Ast → Act) → Act
with_tree n (Ok e) act = act e
with_tree n (Err bad) act = Raises (bad_form (current n) bad)

-- T, NIL and keywords have themselves as values
abbrev pub is_constant : Symbol → Bool
is_constant s = is_keyword s || is_nil s || names s (codes "T")

-- the dynamic or global value of a symbol
abbrev pub value_now : Now → Symbol → Option Value
value_now n s = option_or (dynamic s n.context) (global n.image s)

abbrev pub gives_or : Option Value → Act → Act
gives_or (Some v) otherwise = gives_value v
gives_or None otherwise = otherwise

abbrev pub unbound : Now → Symbol → Act
unbound n s = Raises (unbound_variable (current n) (value_of_symbol s))

-- a constant's value is itself, whatever `set` was given for it
abbrev pub symbol_value : Now → Symbol → Bool → Act
symbol_value n s true = gives_value (value_of_symbol s)
symbol_value n s false = gives_or (value_now n s) (unbound n s)

-- the image with these packages, and a value
abbrev pub named_value : Now → List Package × Symbol → Act
named_value n found = Changes (with_packages n.image found.0) (gives_value (value_of_symbol found.1))

abbrev pub packages_changed : Now → List Package → Act
packages_changed n ps = Changes (with_packages n.image ps) (gives_value yes)

abbrev pub found_value : Option Symbol → Value
found_value (Some s) = value_of_symbol s
found_value None = nil

-- a text, to be given or to be written
abbrev pub formats_to : Now → Value → List ℕ → Act
formats_to n destination text = if is_true destination then prints text nil else gives_value (value.Str text)

-- NIL and T are the destinations
abbrev pub is_destination : Value-F Value Condition → Bool
is_destination (Value-F.List []) = true
is_destination (Value-F.Sym s) = names s (codes "T")
is_destination _ = false

abbrev pub formats : Now → Value → Value → List Value → Bool → Act
formats n destination control vs true = with_string n control (λ text. or_raise (formatted (current n) text vs) (formats_to n destination))
formats n destination control vs false = wrong n destination wanted.Symbol

-- ---- conditions

abbrev pub limited_condition : Condition → (Condition → Act) → Act
limited_condition c act = unless_too_large (is_condition_too_large c) (act c)

abbrev pub made_condition : Now → Value → Option (Result Value Condition) → (Condition → Act) → Act
made_condition n datum (Some (Ok v)) act = with_condition n v act
made_condition n datum (Some (Err c)) act = Raises c
made_condition n datum None act = wrong n datum wanted.Condition

-- whether a symbol names a type of conditions (HyperSpec 9.1.1)
abbrev pub is_condition_type : Option TypeId → Bool
is_condition_type (Some kind) = is_kind kind type.Condition
is_condition_type None = false

abbrev pub names_condition : Symbol → Bool
names_condition s = is_of_common_lisp s && is_condition_type (type_by_name s.name)

-- the condition of a datum and arguments: a control text makes one of this type, a symbol one of the type that it names, and a condition is
-- itself (HyperSpec 9.1.2.1). The datum is looked at before the arguments
abbrev pub datum_condition : Now → TypeId → Value → List Value → (Condition → Act) → Value-F Value Condition → Act
datum_condition n kind datum vs act (Value-F.Str control) =
    or_raise (formatted (current n) control vs) (λ text. limited_condition (without_datum kind text) act)
datum_condition n kind datum vs act (Value-F.Sym s) =
    if names_condition s then made_condition n datum (outcome (current n) (cl (codes "MAKE-CONDITION")) (datum ∷ vs)) act
    else wrong n datum wanted.Condition
datum_condition n kind datum vs act (Value-F.Cond c) = act c
datum_condition n kind datum vs act _ = wrong n datum wanted.Condition

abbrev pub with_datum : Now → TypeId → Value → List Value → (Condition → Act) → Act
with_datum n kind datum vs act = datum_condition n kind datum vs act (out-Value datum)

-- signalling
abbrev pub signalling : Condition → Act
signalling c = Goes [] (Here (focus.Signal c))

-- signalling inside a restart, and then this
abbrev pub signals_inside : Offer → Plain → Condition → Act
signals_inside offer after c = Goes (plain.Restarts (offer ∷ []) ∷ after ∷ []) (Here (focus.Signal c))

-- an error inside CONTINUE, and a warning inside MUFFLE-WARNING
abbrev pub continuable : List ℕ → Condition → Act
continuable report c = signals_inside (giving_nil continue report) (plain.Before (focus.Enter c)) c

abbrev pub warns : Condition → Act
warns c = signals_inside (giving_nil muffle_warning (codes "Skip warning.")) (plain.Before (focus.Warn c)) c

-- the debugger, inside a restart
abbrev pub enters_inside : Offer → Condition → Act
enters_inside offer c = Goes (plain.Restarts (offer ∷ []) ∷ []) (Here (focus.Enter c))

abbrev pub break_offer : Offer
break_offer = giving_nil continue (codes "Return from BREAK.")

-- an exit, or what is done where there is no target
abbrev pub exits_or : Option Leaving → Act → Act
exits_or (Some x) otherwise = Exits x
exits_or None otherwise = otherwise

-- the restart of a name with these arguments
abbrev pub invokes : Now → Symbol → List Value → Act → Act
invokes n name vs otherwise = exits_or (invoking (find_restart name n.context) vs n.context) otherwise

abbrev pub no_such_restart : Now → Symbol → Act
no_such_restart n name = Raises (no_restart (current n) (value_of_symbol name))

abbrev pub is_found : Now → Symbol → Value
is_found n name = if is_some (find_restart name n.context) then value_of_symbol name else nil

-- ---- the rows

-- what calling a function that the machine runs is, by its arguments
abbrev pub called : Now → MachineFunction → List Value → Act
-- the call
called n f.Funcall (g ∷ vs) = with_symbol n g (λ s. calls s vs)
called n f.Apply (g ∷ v ∷ vs) = with_symbol n g (λ s. spread n (calls s) v vs)
-- the call for the first item
called n f.Mapcar (g ∷ list ∷ []) = with_symbol n g (λ s. with_list n list (λ items. maps s items 0 (Some [])))
called n f.Mapc (g ∷ list ∷ []) = with_symbol n g (λ s. with_list n list (λ items. maps s items 0 None))
-- the form, without lexical variables
called n f.Eval (form ∷ []) = with_tree n (parsed form) (λ e. Goes (plain.Eval ∷ []) (look e))
-- the symbol's own, else the dynamic or global value
called n f.SymbolValue (v ∷ []) = with_symbol n v (λ s. symbol_value n s (is_constant s))
called n f.Set (v ∷ x ∷ []) = with_symbol n v (λ s. Sets s x (gives_value x))
called n f.Boundp (v ∷ []) = with_symbol n v (λ s. gives_value (truth (is_some (value_now n s) || is_constant s)))
called n f.Fboundp (v ∷ []) =
    with_symbol n v (λ s. gives_value (truth (is_some (function n.image s) || is_one_step s || is_some (machine_function s))))
-- the symbol of a name in the current package, made where there is none; or looked up
called n f.Intern (v ∷ []) =
    with_string n v (λ name. or_refuse (in_named n.image.packages (current n) (λ i. intern_at n.image.packages i name)) (named_value n))
called n f.FindSymbol (v ∷ []) =
    with_string n v (λ name. gives_value (found_value (option_and_then (λ i. accessible n.image.packages i name) (place_of n.image.packages (current n)))))
-- changes of the current package, which give T
called n f.Export (v ∷ []) =
    with_symbol n v (λ s. or_refuse (in_named n.image.packages (current n) (λ i. export_at n.image.packages i s)) (packages_changed n))
called n f.UsePackage (v ∷ []) =
    with_designated n v (λ name. or_refuse (in_named n.image.packages (current n) (λ i. in_named n.image.packages name (use_at n.image.packages i))) (packages_changed n))
-- the text, given or written
called n f.Format (destination ∷ control ∷ vs) = formats n destination control vs (is_destination (out-Value destination))
-- output, and the argument
called n f.Princ (v ∷ []) = prints (user_text (current n) false v) v
called n f.Prin1 (v ∷ []) = prints (user_text (current n) true v) v
called n f.Print (v ∷ []) = prints (10 ∷ user_text (current n) true v ++ 32 ∷ []) v
called n f.WriteString (v ∷ []) = with_string n v (λ text. prints text v)
called n f.WriteLine (v ∷ []) = with_string n v (λ text. prints (text ++ 10 ∷ []) v)
called n f.Terpri [] = prints (10 ∷ []) nil
-- questions
called n f.ReadLine [] = Asks question.String []
called n f.YesOrNo [] = Asks question.YesNo []
called n f.YesOrNo (control ∷ vs) = with_string n control (λ text. or_raise (formatted (current n) text vs) (Asks question.YesNo))
-- the search for handlers
called n f.Signal (datum ∷ vs) = with_datum n type.SimpleCondition datum vs signalling
called n f.Error (datum ∷ vs) = with_datum n type.SimpleError datum vs Raises
called n f.Cerror (control ∷ datum ∷ vs) =
    with_string n control (λ text. or_raise (formatted (current n) text vs) (λ report.
    with_datum n type.SimpleError datum vs (continuable report)))
called n f.Warn (datum ∷ vs) = with_datum n type.SimpleWarning datum vs warns
-- the debugger
called n f.Break [] = enters_inside break_offer (without_datum type.SimpleCondition (codes "Break"))
called n f.Break (datum ∷ vs) = with_datum n type.SimpleCondition datum vs (enters_inside break_offer)
called n f.InvokeDebugger (v ∷ []) = with_condition n v (λ c. Goes [] (Here (focus.Enter c)))
-- restarts
called n f.InvokeRestart (v ∷ vs) = with_symbol n v (λ name. invokes n name vs (no_such_restart n name))
called n f.FindRestart (v ∷ []) = with_symbol n v (λ name. gives_value (is_found n name))
called n f.ComputeRestarts [] = gives_made (value.List (map (λ r. value_of_symbol r.name) (visible n.context)))
called n f.Abort [] = Exits (abort_exit n.context)
called n f.Continue [] = invokes n continue [] (gives_value nil)
called n f.MuffleWarning [] = invokes n muffle_warning [] (no_such_restart n muffle_warning)
-- any other number of arguments
called n g vs = Raises (wrong_number_of_arguments (current n) (value_of_symbol (cl (machine_name g))))

-- ---- user functions

-- the bindings of optional parameters and of the one for the rest, None where there are too many arguments
abbrev pub rest_bound : Option Symbol → List Value → Option (List Plain)
rest_bound None [] = Some []
rest_bound None (v ∷ vs) = None
rest_bound (Some x) vs = Some (plain.Lexical x (value.List vs) ∷ [])

abbrev pub optional_bound : List Symbol → Option Symbol → List Value → Option (List Plain)
optional_bound [] rest vs = rest_bound rest vs
optional_bound (x ∷ xs) rest [] = option_map (λ ps. plain.Lexical x nil ∷ ps) (optional_bound xs rest [])
optional_bound (x ∷ xs) rest (v ∷ vs) = option_map (λ ps. plain.Lexical x v ∷ ps) (optional_bound xs rest vs)

-- the bindings of a function's parameters, None where the number of arguments is wrong (HyperSpec 3.4.1)
abbrev pub all_bound : List Symbol → List Symbol → Option Symbol → List Value → Option (List Plain)
all_bound [] optional rest vs = optional_bound optional rest vs
all_bound (x ∷ xs) optional rest [] = None
all_bound (x ∷ xs) optional rest (v ∷ vs) = option_map (λ ps. plain.Lexical x v ∷ ps) (all_bound xs optional rest vs)

-- whether the list for the rest is too large
abbrev pub rest_too_large : Function → List Value → Bool
rest_too_large fn vs = is_some fn.rest && is_too_large (value.List (drop (length fn.required + length fn.optional) vs))

-- the call: its parameters, and the body in a block of the function's name
abbrev pub enters_function : Symbol → Function → List Value → List Plain → Act
enters_function g fn vs bound = unless_too_large (rest_too_large fn vs) (Goes (plain.Call g vs ∷ bound ++ plain.Block g ∷ []) (body fn.body))

abbrev pub calls_function : Now → Symbol → Function → List Value → Option (List Plain) → Act
calls_function n g fn vs (Some bound) = enters_function g fn vs bound
calls_function n g fn vs None = Raises (wrong_number_of_arguments (current n) (value_of_symbol g))

abbrev pub calls_user : Now → Symbol → List Value → Option Function → Act
calls_user n g vs (Some fn) = calls_function n g fn vs (all_bound fn.required fn.optional fn.rest vs)
calls_user n g vs None = Raises (undefined_function (current n) (value_of_symbol g))

abbrev pub applies_other : Now → Symbol → List Value → Option (Result Value Condition) → Act
applies_other n g vs (Some outcome) = or_raise outcome gives_value
applies_other n g vs None = calls_user n g vs (function n.image g)

abbrev pub applies_by : Now → Symbol → List Value → Option MachineFunction → Act
applies_by n g vs (Some m) = called n m vs
applies_by n g vs None = applies_other n g vs (outcome (current n) g vs)

-- the call of a function whose arguments are values
abbrev pub applies : Now → Symbol → List Value → Act
applies n g vs = applies_by n g vs (machine_function g)
