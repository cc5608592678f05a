-- The messages to Emacs whose forms are plain, so that what is printed of them is read back.
use mir.Syntax.{w64}
use Rattle.std.specs.Prelude.{◌-◌, All, FitsSigned}
use Rattle.std.specs.Str.{IsUtf8}
use Rattle.sexp_printer.specs.Plain.{IsPlain}
use Rattle.sexp_reader.specs.Grammar.{max_open}
use Rattle.rpc_messages.specs.declared.to_emacs.FrameLine.{FrameLine}
use Rattle.rpc_messages.specs.declared.to_emacs.RestartLine.{RestartLine}
use Rattle.rpc_messages.specs.declared.to_emacs.Returned.TheVariants as returned
use Rattle.rpc_messages.specs.declared.to_emacs.ToEmacs.{ToEmacs}
use Rattle.rpc_messages.specs.declared.to_emacs.ToEmacs.TheVariants.{Return, InvalidRpc, ReaderError, WriteString, ReadString, ReadAborted, YesNo, NewPackage, Debug, DebugActivate, DebugReturn, DebugCondition}

-- what a request returns is plain within the two lists that its message puts around it. Nothing is asked of any other message
abbrev pub ReturnsPlain : ToEmacs → Type 0
ReturnsPlain (Return id (returned.Ok value)) = IsPlain (max_open - 2) value
ReturnsPlain _ = Unit {0}

-- the texts of a restart's line are UTF-8
pub record HasTexts (line : RestartLine) : Type 0 where
  pub name : IsUtf8 line.name
  pub text : IsUtf8 line.text

-- so is that of a frame's line
pub record HasText (line : FrameLine) : Type 0 where
  pub text : IsUtf8 line.text

-- the texts of a message are UTF-8 and its ids have 64 bits, as in each message that the program has
abbrev pub IsSound : ToEmacs → Type 0
IsSound (Return id result) = FitsSigned w64 id
IsSound (InvalidRpc id text) = FitsSigned w64 id × IsUtf8 text
IsSound (ReaderError packet text) = IsUtf8 packet × IsUtf8 text
IsSound (WriteString text repl_result) = IsUtf8 text
IsSound (ReadString thread tag) = Unit {0}
IsSound (ReadAborted thread tag) = Unit {0}
IsSound (YesNo thread tag text) = IsUtf8 text
IsSound (NewPackage name prompt) = IsUtf8 name × IsUtf8 prompt
IsSound (Debug thread level text type_line restarts frames continuations) =
    IsUtf8 text × IsUtf8 type_line × All HasTexts restarts × All HasText frames × All (FitsSigned w64) continuations
IsSound (DebugActivate thread level) = Unit {0}
IsSound (DebugReturn thread level) = Unit {0}
IsSound (DebugCondition thread text) = IsUtf8 text
