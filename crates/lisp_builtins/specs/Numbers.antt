-- The functions of integers (HyperSpec 12.2).
use Rattle.std.specs.Prelude.{ℕ, ℤ, pos, int_lt, Bool, true, false, not, List, [], ◌∷◌, Option, Some, None, Result, Ok, Err}
use Rattle.std.specs.List.{find}
use Rattle.std.specs.Ordering.{int_eq}
use Rattle.lisp_data.specs.Parts.{truth}
use Rattle.lisp_data.specs.declared.value.Value.{Value}
use Rattle.lisp_data.specs.declared.value.Value.TheVariants as value
use Rattle.lisp_data.specs.declared.value.Value.TheOpen.{Value-F}
use Rattle.lisp_data.specs.declared.value.Value.TheViews.{out-Value}
use Rattle.lisp_data.specs.declared.value.Condition.{Condition}
use Rattle.lisp_errors.specs.Causes.{integer_out_of_range, division_by_zero, inexact_quotient}
use Rattle.lisp_errors.specs.declared.wanted.Wanted.TheVariants as wanted
use Rattle.lisp_numbers.specs.declared.computed.Computed.{Computed}
use Rattle.lisp_numbers.specs.declared.computed.Computed.TheVariants as computed
use Rattle.lisp_numbers.specs.Range.{sum_of, product_of, difference_of, absolute_of, successor_of, predecessor_of}
use Rattle.lisp_numbers.specs.Division.{quotient_of, floor_of, mod_of, truncate_of, rem_of}
use Rattle.lisp_numbers.specs.Order.{neighbours_hold, least_of, greatest_of, is_even}
use Rattle.lisp_builtins.specs.Answers.{refused_number, refused_kind}
use Rattle.lisp_builtins.specs.declared.op.Op.{Op}
use Rattle.lisp_builtins.specs.declared.signature.Total.{Total}
use Rattle.lisp_builtins.specs.declared.signature.Total.TheVariants as total
use Rattle.lisp_builtins.specs.declared.signature.Several.{Several}
use Rattle.lisp_builtins.specs.declared.signature.Several.TheVariants as several
use Rattle.lisp_builtins.specs.declared.signature.Pair.{Pair}
use Rattle.lisp_builtins.specs.declared.signature.Pair.TheVariants as pair
use Rattle.lisp_builtins.specs.declared.signature.Single.{Single}
use Rattle.lisp_builtins.specs.declared.signature.Single.TheVariants as single

-- the answer of arithmetic
abbrev pub computed_answer : Computed → Result Value Condition
computed_answer (computed.Number n) = Ok (value.Int n)
computed_answer computed.OutOfRange = Err integer_out_of_range
computed_answer computed.ZeroDivisor = Err division_by_zero
computed_answer computed.Inexact = Err inexact_quotient

abbrev pub is_integer_at : Value-F Value Condition → Bool
is_integer_at (Value-F.Int n) = true
is_integer_at _ = false

-- whether a value is an integer
abbrev pub is_integer : Value → Bool
is_integer v = is_integer_at (out-Value v)

abbrev pub with_integer : Value-F Value Condition → List ℤ → List ℤ
with_integer (Value-F.Int n) ns = n ∷ ns
with_integer _ ns = ns

-- the integers among values
abbrev pub integers_in : List Value → List ℤ
integers_in [] = []
integers_in (v ∷ vs) = with_integer (out-Value v) (integers_in vs)

-- the first value that is no integer
abbrev pub first_other : List Value → Option Value
first_other vs = find (λ v. not (is_integer v)) vs

-- an answer that needs integers alone, where no other value stands among the arguments
abbrev pub unless_other : List ℕ → Option Value → Result Value Condition → Result Value Condition
unless_other current (Some v) answer = refused_kind current v wanted.Integer
unless_other current None answer = answer

abbrev pub total_of : Total → List ℤ → Computed
total_of total.Sum ns = sum_of ns
total_of total.Product ns = product_of ns

-- `+` and `*`
abbrev pub of_integers : Total → List ℕ → List Value → Result Value Condition
of_integers f current args = unless_other current (first_other args) (computed_answer (total_of f (integers_in args)))

abbrev pub several_of : Several → Op → List ℕ → List ℤ → Result Value Condition
several_of f op current [] = refused_number current op
several_of several.Difference op current (n ∷ ns) = computed_answer (difference_of n ns)
several_of several.Least op current (n ∷ ns) = Ok (value.Int (least_of n ns))
several_of several.Greatest op current (n ∷ ns) = Ok (value.Int (greatest_of n ns))
several_of (several.Compare relation) op current (n ∷ ns) = Ok (truth (neighbours_hold relation n ns))

-- `-`, `min`, `max` and the comparisons: one integer or more
abbrev pub of_some_integers : Several → Op → List ℕ → List Value → Result Value Condition
of_some_integers f op current args = unless_other current (first_other args) (several_of f op current (integers_in args))

abbrev pub pair_of : Pair → ℤ → ℤ → Result Value Condition
pair_of pair.Quotient a b = computed_answer (quotient_of a b)
pair_of pair.Floor a b = computed_answer (floor_of a b)
pair_of pair.Modulo a b = computed_answer (mod_of a b)
pair_of pair.Truncate a b = computed_answer (truncate_of a b)
pair_of pair.Remainder a b = computed_answer (rem_of a b)
pair_of pair.Differ a b = Ok (truth (not (int_eq a b)))

abbrev pub of_pair_at : Pair → List ℕ → Value → Value → Value-F Value Condition → Value-F Value Condition → Result Value Condition
of_pair_at f current a b (Value-F.Int m) (Value-F.Int n) = pair_of f m n
of_pair_at f current a b (Value-F.Int m) _ = refused_kind current b wanted.Integer
of_pair_at f current a b _ _ = refused_kind current a wanted.Integer

-- `/`, `floor`, `mod`, `truncate`, `rem` and `/=`: two integers
abbrev pub of_two_integers : Pair → Op → List ℕ → List Value → Result Value Condition
of_two_integers f op current (a ∷ b ∷ []) = of_pair_at f current a b (out-Value a) (out-Value b)
of_two_integers f op current _ = refused_number current op

abbrev pub single_of : Single → ℤ → Result Value Condition
single_of single.Absolute n = computed_answer (absolute_of n)
single_of single.Successor n = computed_answer (successor_of n)
single_of single.Predecessor n = computed_answer (predecessor_of n)
single_of single.IsZero n = Ok (truth (int_eq n (pos 0)))
single_of single.IsPositive n = Ok (truth (int_lt (pos 0) n))
single_of single.IsNegative n = Ok (truth (int_lt n (pos 0)))
single_of single.IsEven n = Ok (truth (is_even n))
single_of single.IsOdd n = Ok (truth (not (is_even n)))

abbrev pub of_single_at : Single → List ℕ → Value → Value-F Value Condition → Result Value Condition
of_single_at f current v (Value-F.Int n) = single_of f n
of_single_at f current v _ = refused_kind current v wanted.Integer

-- `abs`, `1+`, `1-` and the tests of one integer
abbrev pub of_one_integer : Single → Op → List ℕ → List Value → Result Value Condition
of_one_integer f op current (v ∷ []) = of_single_at f current v (out-Value v)
of_one_integer f op current _ = refused_number current op
