-- How a level of the debugger is announced to Emacs.
use Rattle.std.specs.Prelude.{ℕ, ◌+◌, ◌==◌, true, if◌then◌else◌, List, [], ◌∷◌, ◌++◌, map, take, codes}
use Rattle.lisp_data.specs.declared.value.Value as value
use Rattle.lisp_data.specs.declared.value.Condition.{Condition}
use Rattle.lisp_data.specs.TypeNames.{name_of}
use Rattle.rpc_messages.specs.Cut.{cut}
use Rattle.rpc_messages.specs.declared.to_emacs.FrameLine.{FrameLine}
use Rattle.rpc_messages.specs.declared.to_emacs.RestartLine.{RestartLine}
use Rattle.rpc_messages.specs.declared.to_emacs.ToEmacs.{ToEmacs}
use Rattle.rpc_messages.specs.declared.to_emacs.ToEmacs.TheVariants as message
use Rattle.sexp_printer.specs.Printed.{shown}
use Rattle.sexp_printer.specs.UserText.{user_text}
use Rattle.lisp_data.specs.Symbols.{value_of_symbol}
use Rattle.term_model.specs.declared.restart.Restart.{Restart}
use Rattle.term_model.specs.Label.{Label, Out}
use Rattle.term_model.specs.Levels.{Framed, Shown, Called, Served, frames, pending_ids}
use Rattle.term_model.specs.Restarts.{restarts_of_level}
use Rattle.term_model.specs.Term.{Context}
use Rattle.step_model.specs.CurrentPackage.{current_package}
use Rattle.step_model.specs.Image.{ImageState}
use Rattle.step_model.specs.Now.{Now}

-- the text of a frame: the list of a call's function and arguments, or a request's form
abbrev pub frame_text : List ℕ → Shown → List ℕ
frame_text current (Called f vs) = user_text current true (value.List (value_of_symbol f ∷ vs))
frame_text current (Served form) = shown form

-- the lines of frames, the first of which has this number
abbrev pub frame_lines : List ℕ → ℕ → List Framed → List FrameLine
frame_lines current n [] = []
frame_lines current n (f ∷ fs) = (record { number = n; text = cut (frame_text current f.shown) }) ∷ frame_lines current (n + 1) fs

-- the name of a restart: that of the top has a star before it
abbrev pub restart_name : Restart → List ℕ
restart_name r = if r.at == 0 then codes "*" ++ r.name.name else r.name.name

abbrev pub restart_line : Restart → RestartLine
restart_line r = record { name = cut (restart_name r); text = cut r.text }

abbrev pub type_line : Condition → List ℕ
type_line condition = codes "   [Condition of type " ++ name_of condition.kind ++ codes "]"

-- how many frames a level lists
abbrev pub max_frames : ℕ
max_frames = 20

-- the announcement of level n of thread t on a condition, with what is around the level
unfoldable pub debug_message : ImageState → ℕ → ℕ → Condition → Context → ToEmacs
debug_message image t n condition c = message.Debug t n (cut condition.message) (type_line condition)
    (map restart_line (restarts_of_level c)) (frame_lines (current_package image c) 0 (take max_frames (frames c))) (pending_ids c)

-- what announcing it writes
abbrev pub announcement : Now → ℕ → Condition → Context → List Label
announcement n k condition c = Out (debug_message n.image n.thread k condition c) ∷ Out (message.DebugActivate n.thread k) ∷ []
