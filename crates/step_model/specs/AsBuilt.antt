-- One step of a thread as far as the program can do it: the step of the table, or, where that isn't built, leaving by the innermost
-- visible ABORT.
use Rattle.std.specs.Prelude.{Bool, true, false, ◌&&◌, ◌||◌, not}
use Rattle.term_model.specs.declared.end.End.TheVariants as end
use Rattle.term_model.specs.declared.focus.Focus.{Focus}
use Rattle.term_model.specs.declared.focus.Focus.TheVariants as focus
use Rattle.term_model.specs.Breaks.{max_levels}
use Rattle.term_model.specs.Restarts.{abort_exit}
use Rattle.step_model.specs.Act.{Act, Ends, Exits, Outward, Writes, Changes, Inspects, Assigns, Sets}
use Rattle.step_model.specs.Built.{Built}
use Rattle.step_model.specs.Now.{Now}
use Rattle.step_model.specs.Requests.{asked}
use Rattle.step_model.specs.Rules.{Rules}
use Rattle.step_model.specs.Step.{carried_out}
use Rattle.step_model.specs.Table.{row}

-- whether the row of this redex of a thread is built, apart from raising
abbrev pub is_row_built : Built → Now → Focus → Bool
is_row_built built n focus.Rpc = built.serves (asked n).form
is_row_built built n f = built.has_row n.context f

-- whether an act ends in raising a condition
abbrev pub is_raise : Act → Bool
is_raise (Ends (end.Raises condition)) = true
is_raise (Outward act) = is_raise act
is_raise (Writes ws act) = is_raise act
is_raise (Changes image act) = is_raise act
is_raise (Inspects vs act) = is_raise act
is_raise (Assigns s v act) = is_raise act
is_raise (Sets s v act) = is_raise act
is_raise _ = false

-- whether an act is carried out, as far as raising goes
abbrev pub is_act_built : Built → Act → Bool
is_act_built built act = built.raises || not (is_raise act)

-- whether the step of a thread is built
abbrev pub is_built : Built → Rules → Now → Bool
is_built built rules n = is_row_built built n n.redex && is_act_built built (row rules n n.redex)

-- leaving by the innermost visible ABORT
abbrev pub leaving : Now → Act
leaving n = Exits (abort_exit n.context)

-- this act where it is built, else leaving
abbrev pub act_if : Bool → Now → Act → Act
act_if true n act = act
act_if false n act = leaving n

-- a thread for which as many levels are opened as are built
abbrev pub limited : Built → Now → Now
limited built n = record n { most = built.levels }

-- the step of a thread, or leaving
abbrev pub step_or_leave : Built → Rules → Now → Now
step_or_leave built rules n = carried_out n (act_if (is_built built rules n) n (row rules n n.redex))

-- one step, as far as it is built
abbrev pub step_as_built : Built → Rules → Now → Now
step_as_built built rules n = step_or_leave built rules (limited built n)

-- all of the table
abbrev pub all_built : Built
all_built = record { has_row = λ c f. true; serves = λ form. true; raises = true; levels = max_levels; interrupts = true }
