-- The names of the language are among the standard ones, by computation.
use Rattle.std.proofs.Common.{◌≡◌, refl, ℕ, true, List, map}
use Rattle.std.specs.Prelude.{Some}
use Rattle.std.specs.List.{list_all}
use Rattle.lisp_builtins.specs.Names as one_step
use Rattle.lisp_builtins.specs.declared.op.Op.{Op}
use Rattle.lisp_builtins.specs.declared.op.Op.TheVariants as op
use Rattle.lisp_data.specs.TypeNames as types
use Rattle.lisp_data.specs.declared.type_id.TypeId.{TypeId}
use Rattle.lisp_data.specs.declared.type_id.TypeId.TheVariants as type
use Rattle.lisp_packages.specs.Entries.{entry_of}
use Rattle.lisp_packages.specs.Fresh.{standard_entry, standard_names}
use Rattle.lisp_packages.proofs.StandardLemmas.{standard-found}
use Rattle.lisp_syntax.specs.Operators as operators
use Rattle.lisp_syntax.specs.Operators.{operator_named, operator_of}
use Rattle.lisp_syntax.specs.declared.operator.Operator.{Operator}
use Rattle.lisp_syntax.specs.declared.operator.Operator.TheVariants as operator
use Rattle.lisp_types.specs.Kinds.{type_by_name}
use Rattle.step_model.specs.MachineFunctions.{machine_function, machine_name}
use Rattle.step_model.specs.declared.machine_function.MachineFunction.{MachineFunction}
use Rattle.step_model.specs.declared.machine_function.MachineFunction.TheVariants as f
use Rattle.syntax_trees.specs.declared.row.Bare.TheVariants as bare
use Rattle.syntax_trees.specs.declared.row.Holder.TheVariants as holder
use Rattle.server_rules.specs.Standard.{AreStandard, IsStandard, is_known, other_names}

-- the name is among the standard ones
abbrev IsListed : List ℕ → Type 0
IsListed name = entry_of (map standard_entry standard_names) name ≡ Some (standard_entry name)

operator-listed : (o : Operator) → IsListed (operators.name_of o)
operator-listed operator.Quote = refl
operator-listed operator.Function = refl
operator-listed (operator.Bare bare.If) = refl
operator-listed (operator.Bare bare.When) = refl
operator-listed (operator.Bare bare.Unless) = refl
operator-listed (operator.Bare bare.Cond) = refl
operator-listed (operator.Bare bare.And) = refl
operator-listed (operator.Bare bare.Or) = refl
operator-listed (operator.Bare bare.Progn) = refl
operator-listed (operator.Bare bare.Return) = refl
operator-listed (operator.Bare bare.Loop) = refl
operator-listed (operator.Bare bare.Catch) = refl
operator-listed (operator.Bare bare.Throw) = refl
operator-listed (operator.Bare bare.UnwindProtect) = refl
operator-listed (operator.Bare bare.HandlerCase) = refl
operator-listed (operator.Bare bare.IgnoreErrors) = refl
operator-listed (operator.Bare bare.RestartCase) = refl
operator-listed operator.Block = refl
operator-listed operator.ReturnFrom = refl
operator-listed (operator.Held holder.DoTimes) = refl
operator-listed (operator.Held holder.DoList) = refl
operator-listed (operator.Held holder.Defvar) = refl
operator-listed (operator.Held holder.Defparameter) = refl
operator-listed operator.Let = refl
operator-listed operator.LetStar = refl
operator-listed operator.Setq = refl
operator-listed operator.Defun = refl
operator-listed operator.HandlerBind = refl
operator-listed operator.WithSimpleRestart = refl
operator-listed operator.InPackage = refl
operator-listed operator.Defpackage = refl

op-listed : (o : Op) → IsListed (one_step.name_of o)
op-listed op.Plus = refl
op-listed op.Times = refl
op-listed op.Minus = refl
op-listed op.Divide = refl
op-listed op.Floor = refl
op-listed op.Mod = refl
op-listed op.Truncate = refl
op-listed op.Rem = refl
op-listed op.Abs = refl
op-listed op.OnePlus = refl
op-listed op.OneMinus = refl
op-listed op.Min = refl
op-listed op.Max = refl
op-listed op.NumbersEqual = refl
op-listed op.Less = refl
op-listed op.Greater = refl
op-listed op.AtMost = refl
op-listed op.AtLeast = refl
op-listed op.NumbersDiffer = refl
op-listed op.Zerop = refl
op-listed op.Plusp = refl
op-listed op.Minusp = refl
op-listed op.Evenp = refl
op-listed op.Oddp = refl
op-listed op.Null = refl
op-listed op.Not = refl
op-listed op.Eq = refl
op-listed op.Eql = refl
op-listed op.Equal = refl
op-listed op.Atom = refl
op-listed op.Consp = refl
op-listed op.Listp = refl
op-listed op.Symbolp = refl
op-listed op.Stringp = refl
op-listed op.Integerp = refl
op-listed op.Keywordp = refl
op-listed op.List = refl
op-listed op.Append = refl
op-listed op.Cons = refl
op-listed op.Car = refl
op-listed op.Cdr = refl
op-listed op.First = refl
op-listed op.Rest = refl
op-listed op.Second = refl
op-listed op.Third = refl
op-listed op.Nth = refl
op-listed op.Nthcdr = refl
op-listed op.Last = refl
op-listed op.Reverse = refl
op-listed op.Length = refl
op-listed op.Member = refl
op-listed op.Assoc = refl
op-listed op.Subseq = refl
op-listed op.StringEqual = refl
op-listed op.StringUpcase = refl
op-listed op.StringDowncase = refl
op-listed op.PrincToString = refl
op-listed op.Prin1ToString = refl
op-listed op.SymbolName = refl
op-listed op.String = refl
op-listed op.TypeOf = refl
op-listed op.Typep = refl
op-listed op.Identity = refl
op-listed op.MakeCondition = refl

machine-listed : (g : MachineFunction) → IsListed (machine_name g)
machine-listed f.Funcall = refl
machine-listed f.Apply = refl
machine-listed f.Mapcar = refl
machine-listed f.Mapc = refl
machine-listed f.Eval = refl
machine-listed f.SymbolValue = refl
machine-listed f.Set = refl
machine-listed f.Boundp = refl
machine-listed f.Fboundp = refl
machine-listed f.Intern = refl
machine-listed f.FindSymbol = refl
machine-listed f.Export = refl
machine-listed f.UsePackage = refl
machine-listed f.Format = refl
machine-listed f.Princ = refl
machine-listed f.Prin1 = refl
machine-listed f.Print = refl
machine-listed f.WriteString = refl
machine-listed f.WriteLine = refl
machine-listed f.Terpri = refl
machine-listed f.ReadLine = refl
machine-listed f.YesOrNo = refl
machine-listed f.Signal = refl
machine-listed f.Error = refl
machine-listed f.Cerror = refl
machine-listed f.Warn = refl
machine-listed f.Break = refl
machine-listed f.InvokeDebugger = refl
machine-listed f.InvokeRestart = refl
machine-listed f.FindRestart = refl
machine-listed f.ComputeRestarts = refl
machine-listed f.Abort = refl
machine-listed f.Continue = refl
machine-listed f.MuffleWarning = refl

type-listed : (t : TypeId) → IsListed (types.name_of t)
type-listed type.T = refl
type-listed type.Condition = refl
type-listed type.SeriousCondition = refl
type-listed type.SimpleCondition = refl
type-listed type.Warning = refl
type-listed type.Error = refl
type-listed type.StorageCondition = refl
type-listed type.SimpleError = refl
type-listed type.SimpleWarning = refl
type-listed type.StyleWarning = refl
type-listed type.ArithmeticError = refl
type-listed type.CellError = refl
type-listed type.ControlError = refl
type-listed type.ProgramError = refl
type-listed type.TypeError = refl
type-listed type.DivisionByZero = refl
type-listed type.UnboundVariable = refl
type-listed type.UndefinedFunction = refl
type-listed type.List = refl
type-listed type.Symbol = refl
type-listed type.String = refl
type-listed type.Number = refl
type-listed type.Cons = refl
type-listed type.Null = refl
type-listed type.Keyword = refl
type-listed type.Integer = refl

pub operators-standard : (o : Operator) → IsStandard (operators.name_of o)
operators-standard o = standard-found (operators.name_of o) (operator-listed o)

pub ops-standard : (o : Op) → IsStandard (one_step.name_of o)
ops-standard o = standard-found (one_step.name_of o) (op-listed o)

pub machines-standard : (g : MachineFunction) → IsStandard (machine_name g)
machines-standard g = standard-found (machine_name g) (machine-listed g)

pub types-standard : (t : TypeId) → IsStandard (types.name_of t)
types-standard t = standard-found (types.name_of t) (type-listed t)

pub others-standard : AreStandard other_names
others-standard = (standard-found _ refl, (standard-found _ refl, (standard-found _ refl, (standard-found _ refl, (standard-found _ refl, (standard-found _ refl, tt))))))

pub all-known : list_all is_known standard_names ≡ true
unfolding operator_named operator_of machine_function type_by_name
all-known = refl
