-- The redexes that a thread has to step by itself, where what its step makes has room and a request is around it.
use Rattle.std.specs.Prelude.{ℕ, ◌-◌, slice_get, Bool, true, false, ◌&&◌, is_some, List, [], ◌∷◌, Option, Some, None, Result, Ok, Err}
use Rattle.lisp_data.specs.declared.symbol.Symbol.{Symbol}
use Rattle.lisp_data.specs.declared.value.Value.{Value}
use Rattle.lisp_data.specs.declared.value.Condition.{Condition}
use Rattle.syntax_trees.specs.declared.row.Bare.{Bare}
use Rattle.syntax_trees.specs.declared.row.Bare.TheVariants as bare
use Rattle.syntax_trees.specs.declared.row.Holder.{Holder}
use Rattle.syntax_trees.specs.declared.row.Holder.TheVariants as holder
use Rattle.syntax_trees.specs.declared.row.Named.{Named}
use Rattle.syntax_trees.specs.declared.row.Named.TheVariants as named
use Rattle.syntax_trees.specs.declared.row.Row.{Row}
use Rattle.syntax_trees.specs.declared.row.Row.TheVariants as row
use Rattle.term_model.specs.declared.focus.Focus.{Focus}
use Rattle.term_model.specs.declared.focus.Focus.TheVariants as focus
use Rattle.term_model.specs.declared.frame.Frame.TheVariants as frame
use Rattle.term_model.specs.declared.kept.Outcome.TheVariants as outcome
use Rattle.term_model.specs.declared.plain.Plain.{Plain}
use Rattle.term_model.specs.declared.plain.Plain.TheVariants as plain
use Rattle.term_model.specs.Progress.{Progress}
use Rattle.term_model.specs.Term.{Context}
use Rattle.term_model.specs.Variables.{lexical}
use Rattle.step_model.specs.Kinds.{integer_of, list_of}
use Rattle.step_model.specs.OneStep.{is_listed_function, outcome}

-- ---- functions

abbrev pub is_given : Option (Result Value Condition) → Bool
is_given (Some (Ok v)) = true
is_given (Some (Err condition)) = false
is_given None = false

-- a call of such a function that raises nothing
abbrev pub is_listed_call : List ℕ → Symbol → List Value → Bool
is_listed_call current g vs = is_listed_function g && is_given (outcome current g vs)

-- ---- forms

-- the first value, where there is one, is of a kind
abbrev pub is_none_or : (Value → Bool) → List Value → Bool
is_none_or test [] = true
is_none_or test (v ∷ vs) = test v

abbrev pub is_integer : Value → Bool
is_integer v = is_some (integer_of v)

abbrev pub is_list : Value → Bool
is_list v = is_some (list_of v)

abbrev pub is_listed_bare : Bare → Bool
is_listed_bare bare.If = true
is_listed_bare bare.When = true
is_listed_bare bare.Unless = true
is_listed_bare bare.Cond = true
is_listed_bare bare.And = true
is_listed_bare bare.Or = true
is_listed_bare bare.Progn = true
is_listed_bare bare.Loop = true
is_listed_bare bare.Return = false
is_listed_bare bare.Catch = false
is_listed_bare bare.Throw = false
is_listed_bare bare.UnwindProtect = false
is_listed_bare bare.HandlerCase = false
is_listed_bare bare.IgnoreErrors = false
is_listed_bare bare.RestartCase = false

abbrev pub is_listed_named : List ℕ → Named → Symbol → List Value → Bool
is_listed_named current named.Call g vs = is_listed_call current g vs
is_listed_named current named.Block name vs = false
is_listed_named current named.ReturnFrom name vs = false

-- a loop, whose count or list raises nothing
abbrev pub is_listed_held : Holder → List Value → Bool
is_listed_held holder.DoTimes vs = is_none_or is_integer vs
is_listed_held holder.DoList vs = is_none_or is_list vs
is_listed_held holder.Defvar vs = false
is_listed_held holder.Defparameter vs = false

-- a pair of `setq` on a lexical variable
abbrev pub is_lexical_in : Context → Option Symbol → Bool
is_lexical_in c (Some x) = is_some (lexical x c)
is_lexical_in c None = false

abbrev pub is_listed_setq : Context → List Symbol → Progress → List Value → Bool
is_listed_setq c names p [] = false
is_listed_setq c names p (v ∷ vs) = is_lexical_in c (slice_get names (p.done - 1))

abbrev pub is_listed_form : List ℕ → Context → Row → Progress → Bool
is_listed_form current c (row.Bare b) p = is_listed_bare b
is_listed_form current c (row.Named k g) p = is_listed_named current k g p.values
is_listed_form current c (row.Held h x) p = is_listed_held h p.values
is_listed_form current c (row.Variable x) p = is_some (lexical x c)
is_listed_form current c (row.Setq names) p = is_listed_setq c names p p.values
is_listed_form current c (row.Literal v) p = false
is_listed_form current c (row.Quote v) p = false
is_listed_form current c (row.Function s) p = false
is_listed_form current c (row.Let bindings) p = false
is_listed_form current c (row.LetStar bindings) p = false
is_listed_form current c (row.Defun name parameters) p = false
is_listed_form current c (row.HandlerBind kinds) p = false
is_listed_form current c (row.WithSimpleRestart name control arguments) p = false
is_listed_form current c (row.InPackage d) p = false
is_listed_form current c (row.Defpackage d uses exports) p = false
is_listed_form current c row.CondClause p = false
is_listed_form current c (row.HandlerClause kind x) p = false
is_listed_form current c (row.RestartClause name parameters report) p = false

-- ---- redexes

-- what a value stands in: a lexical binding, a block, a call of a user function, or a sequence, which goes on with what was put off
abbrev pub is_listed_plain : Plain → Bool
is_listed_plain (plain.Lexical x v) = true
is_listed_plain (plain.Block name) = true
is_listed_plain (plain.Call g vs) = true
is_listed_plain (plain.Before f) = true
is_listed_plain (plain.Form p) = false
is_listed_plain (plain.Map g list next collected) = false
is_listed_plain plain.Eval = false
is_listed_plain (plain.Dynamic x v) = false
is_listed_plain (plain.Catch v) = false
is_listed_plain (plain.Handlers cluster) = false
is_listed_plain (plain.Restarts offers) = false
is_listed_plain (plain.Handling n j) = false
is_listed_plain (plain.Answer kept) = false

abbrev pub is_listed_marker : Context → Bool
is_listed_marker (frame.On p ∷ c) = is_listed_plain p
is_listed_marker c = false

-- the listed redexes; a function is looked at in this current package
abbrev pub is_listed : List ℕ → Context → Focus → Bool
is_listed current c (focus.Given (outcome.Value v)) = is_listed_marker c
is_listed current c (focus.Given (outcome.Reply r)) = false
is_listed current c (focus.Form p) = is_listed_form current c p.row p
is_listed current c (focus.Loop es) = true
is_listed current c (focus.DoTimes x i count es) = is_integer count
is_listed current c (focus.DoList x i list es) = is_list list
is_listed current c (focus.Apply g vs) = is_listed_call current g vs
is_listed current c (focus.DefunAt definition origin at) = false
is_listed current c (focus.Map g list next collected) = false
is_listed current c (focus.Wait p) = false
is_listed current c (focus.Break o) = false
is_listed current c focus.Abort = false
is_listed current c (focus.Signal condition) = false
is_listed current c (focus.SignalPast condition p j) = false
is_listed current c (focus.Enter condition) = false
is_listed current c (focus.Warn condition) = false
is_listed current c focus.Rpc = false
is_listed current c (focus.Forms forms origin) = false
