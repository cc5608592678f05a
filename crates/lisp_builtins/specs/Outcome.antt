-- The outcome of a one-step function for its arguments: what the table says, within the limits.
use Rattle.std.specs.Prelude.{ℕ, List, Result, Ok}
use Rattle.lisp_data.specs.declared.value.Value.{Value}
use Rattle.lisp_data.specs.declared.value.Value.TheVariants as value
use Rattle.lisp_data.specs.declared.value.Condition.{Condition}
use Rattle.lisp_builtins.specs.Answers.{within_limits}
use Rattle.lisp_builtins.specs.Conditions.{of_new_condition}
use Rattle.lisp_builtins.specs.Lists.{of_one_list, of_index_and_list, of_value_and_list, of_lists, of_one_sequence, of_sequence_and_bounds}
use Rattle.lisp_builtins.specs.Numbers.{of_integers, of_some_integers, of_two_integers, of_one_integer}
use Rattle.lisp_builtins.specs.Signatures.{signature_of}
use Rattle.lisp_builtins.specs.Texts.{of_one_name, of_two_names, of_one_symbol}
use Rattle.lisp_builtins.specs.Values.{of_one_value, of_two_values}
use Rattle.lisp_builtins.specs.declared.op.Op.{Op}
use Rattle.lisp_builtins.specs.declared.signature.Signature.{Signature}
use Rattle.lisp_builtins.specs.declared.signature.Signature.TheVariants as signature

-- what a function of this signature answers, were there no limits
abbrev pub answer_of : Signature → Op → List ℕ → List Value → Result Value Condition
answer_of (signature.Integers f) op current args = of_integers f current args
answer_of (signature.SomeIntegers f) op current args = of_some_integers f op current args
answer_of (signature.TwoIntegers f) op current args = of_two_integers f op current args
answer_of (signature.OneInteger f) op current args = of_one_integer f op current args
answer_of (signature.OneValue f) op current args = of_one_value f op current args
answer_of (signature.TwoValues f) op current args = of_two_values f op current args
answer_of signature.Values op current args = Ok (value.List args)
answer_of signature.Lists op current args = of_lists current args
answer_of (signature.ValueAndList f) op current args = of_value_and_list f op current args
answer_of (signature.IndexAndList f) op current args = of_index_and_list f op current args
answer_of (signature.OneList f) op current args = of_one_list f op current args
answer_of signature.OneSequence op current args = of_one_sequence op current args
answer_of signature.SequenceAndBounds op current args = of_sequence_and_bounds op current args
answer_of (signature.OneName f) op current args = of_one_name f op current args
answer_of signature.TwoNames op current args = of_two_names op current args
answer_of signature.OneSymbol op current args = of_one_symbol op current args
answer_of signature.NewCondition op current args = of_new_condition op current args

-- the value of a one-step function for these arguments, or the condition that it raises; the last argument is the full name of the
-- current package
unfoldable pub outcome : Op → List Value → List ℕ → Result Value Condition
outcome op args current = within_limits (answer_of (signature_of op) op current args)
