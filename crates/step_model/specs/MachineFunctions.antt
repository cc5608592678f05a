-- The names of the functions that the machine itself runs.
use Rattle.std.specs.Prelude.{ℕ, if◌then◌else◌, List, Option, None, codes, find}
use Rattle.std.specs.Str.{bytes_eq}
use Rattle.lisp_data.specs.declared.symbol.Symbol.{Symbol}
use Rattle.lisp_data.specs.Symbols.{is_of_common_lisp}
use Rattle.step_model.specs.declared.machine_function.MachineFunction.{MachineFunction}
use Rattle.step_model.specs.declared.machine_function.MachineFunction.TheVariants as f
use Rattle.step_model.specs.declared.machine_function.TheConstants.{MACHINE_FUNCTIONS}

-- the name of the function's symbol
abbrev pub machine_name : MachineFunction → List ℕ
machine_name f.Funcall = codes "FUNCALL"
machine_name f.Apply = codes "APPLY"
machine_name f.Mapcar = codes "MAPCAR"
machine_name f.Mapc = codes "MAPC"
machine_name f.Eval = codes "EVAL"
machine_name f.SymbolValue = codes "SYMBOL-VALUE"
machine_name f.Set = codes "SET"
machine_name f.Boundp = codes "BOUNDP"
machine_name f.Fboundp = codes "FBOUNDP"
machine_name f.Intern = codes "INTERN"
machine_name f.FindSymbol = codes "FIND-SYMBOL"
machine_name f.Export = codes "EXPORT"
machine_name f.UsePackage = codes "USE-PACKAGE"
machine_name f.Format = codes "FORMAT"
machine_name f.Princ = codes "PRINC"
machine_name f.Prin1 = codes "PRIN1"
machine_name f.Print = codes "PRINT"
machine_name f.WriteString = codes "WRITE-STRING"
machine_name f.WriteLine = codes "WRITE-LINE"
machine_name f.Terpri = codes "TERPRI"
machine_name f.ReadLine = codes "READ-LINE"
machine_name f.YesOrNo = codes "Y-OR-N-P"
machine_name f.Signal = codes "SIGNAL"
machine_name f.Error = codes "ERROR"
machine_name f.Cerror = codes "CERROR"
machine_name f.Warn = codes "WARN"
machine_name f.Break = codes "BREAK"
machine_name f.InvokeDebugger = codes "INVOKE-DEBUGGER"
machine_name f.InvokeRestart = codes "INVOKE-RESTART"
machine_name f.FindRestart = codes "FIND-RESTART"
machine_name f.ComputeRestarts = codes "COMPUTE-RESTARTS"
machine_name f.Abort = codes "ABORT"
machine_name f.Continue = codes "CONTINUE"
machine_name f.MuffleWarning = codes "MUFFLE-WARNING"

abbrev pub machine_named : List ℕ → Option MachineFunction
machine_named name = find (λ m. bytes_eq (machine_name m) name) MACHINE_FUNCTIONS

-- the function that a symbol names
unfoldable pub machine_function : Symbol → Option MachineFunction
machine_function s = if is_of_common_lisp s then machine_named s.name else None
