-- What a node of a program is, by its row: a form, a function's definition, or a clause.
use Rattle.std.specs.Prelude.{ℕ, List, Option}
use Rattle.lisp_data.specs.declared.symbol.Symbol.{Symbol}
use Rattle.syntax_trees.specs.declared.row.Parameters.{Parameters}
use Rattle.syntax_trees.specs.declared.row.Row.{Row}
use Rattle.syntax_trees.specs.declared.row.Row.TheVariants as row

pub data Role : Type 0 where
  -- a form that gives no function its definition
  Form : Role
  -- the form that defines this function
  Definition : (name : Symbol) → Parameters → Role
  -- a clause of `cond`
  TestClause : Role
  -- a clause of `handler-case`, with its variable
  HandlerClause : Option Symbol → Role
  -- a clause of `restart-case`
  RestartClause : (name : Symbol) → (parameters : List Symbol) → (report : Option (List ℕ)) → Role

abbrev pub role_of : Row → Role
role_of (row.Literal v) = Form
role_of (row.Variable x) = Form
role_of (row.Quote v) = Form
role_of (row.Function s) = Form
role_of (row.Bare b) = Form
role_of (row.Named k name) = Form
role_of (row.Held h x) = Form
role_of (row.Let bindings) = Form
role_of (row.LetStar bindings) = Form
role_of (row.Setq names) = Form
role_of (row.HandlerBind kinds) = Form
role_of (row.WithSimpleRestart name control arguments) = Form
role_of (row.InPackage d) = Form
role_of (row.Defpackage d uses exports) = Form
role_of (row.Defun name parameters) = Definition name parameters
role_of row.CondClause = TestClause
role_of (row.HandlerClause kind x) = HandlerClause x
role_of (row.RestartClause name parameters report) = RestartClause name parameters report
