-- What Emacs is told of a level of the debugger that a type error opens: `(swank:interactive-eval "(car 1)")` for a new worker.
use Rattle.std.specs.Prelude.{[], ◌∷◌, codes, pos, true}
use Rattle.lisp_data.specs.declared.sexp.Sexp.{Sexp}
use Rattle.lisp_data.specs.declared.sexp.Sexp.TheVariants as form
use Rattle.lisp_data.specs.declared.type_id.TypeId.TheVariants.{TypeError}
use Rattle.lisp_data.specs.declared.value.Condition.{Condition}
use Rattle.lisp_data.specs.declared.value.Value.TheVariants as value
use Rattle.rpc_messages.specs.declared.to_emacs.ToEmacs.{ToEmacs}
use Rattle.rpc_messages.specs.declared.to_emacs.ToEmacs.TheVariants.{Debug}
use Rattle.step_model.specs.CurrentPackage.{package_variable, user_package}
use Rattle.swank_rpc.specs.Kept.{kept}
use Rattle.term_model.specs.declared.frame.Frame.TheVariants.{On, Rex}
use Rattle.term_model.specs.declared.plain.Plain.TheVariants.{Answer, Dynamic}
use Rattle.term_model.specs.Term.{Context}
use Rattle.worked_sessions.specs.Entries.{call}

-- the condition of `(car 1)`
abbrev pub error : Condition
error = record { kind = TypeError; message = codes "The value 1 is not of type LIST."; datum = value.Int (pos 1) }

abbrev pub asked : Sexp
asked = call (codes "SWANK:INTERACTIVE-EVAL") (form.Str (codes "(car 1)") ∷ [])

-- what is around the level: the layer that makes the reply, the binding of the package, and the request
abbrev pub around : Context
around = On (Answer (kept true user_package)) ∷ On (Dynamic package_variable (value.Str user_package)) ∷ Rex 0 (pos 1) asked ∷ []

-- the condition and its type; the one restart; the one frame; the id of the pending request
abbrev pub announcement : ToEmacs
announcement = Debug 2 1 (codes "The value 1 is not of type LIST.") (codes "   [Condition of type TYPE-ERROR]")
    ((record { name = codes "*ABORT"; text = codes "Return to SLIME's top level." }) ∷ [])
    ((record { number = 0; text = codes "(SWANK:INTERACTIVE-EVAL \"(car 1)\")" }) ∷ [])
    (pos 1 ∷ [])
