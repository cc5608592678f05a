-- What the fault of a control text raises where a form or a function asked for its text.
use Rattle.lisp_data.specs.declared.value.Condition.{Condition}
use Rattle.lisp_errors.specs.Causes.{bad_directive, too_few_arguments}
use Rattle.lisp_errors.specs.Limits.{value_too_large}
use Rattle.lisp_format.specs.declared.fault.FormatFault.{FormatFault}
use Rattle.lisp_format.specs.declared.fault.FormatFault.TheVariants as fault

-- the condition of a fault. Want of memory is no answer of a definition
abbrev pub cause_of : FormatFault → Condition
cause_of fault.BadDirective = bad_directive
cause_of fault.TooFewArguments = too_few_arguments
cause_of fault.TooLong = value_too_large
cause_of fault.NoMemory = value_too_large
