-- The functions of lists and of sequences (HyperSpec 14.2 and 17.3).
use Rattle.std.specs.Prelude.{ℕ, nat_le, ℤ, pos, negsuc, not, ◌&&◌, List, [], ◌∷◌, length, reverse, Option, Some, None, Result, Ok, Err, if◌then◌else◌}
use Rattle.std.specs.List.{find}
use Rattle.lisp_data.specs.declared.value.Value.{Value}
use Rattle.lisp_data.specs.declared.value.Value.TheVariants as value
use Rattle.lisp_data.specs.declared.value.Value.TheOpen.{Value-F}
use Rattle.lisp_data.specs.declared.value.Value.TheViews.{out-Value}
use Rattle.lisp_data.specs.declared.value.Condition.{Condition}
use Rattle.lisp_errors.specs.Causes.{wrong_kind}
use Rattle.lisp_errors.specs.declared.wanted.Wanted.TheVariants as wanted
use Rattle.lisp_numbers.specs.Range.{ranged}
use Rattle.lisp_sequences.specs.Lists.{nth, nthcdr, last, append, member, assoc, subseq}
use Rattle.lisp_sequences.specs.Strings.{string_length, substring}
use Rattle.lisp_builtins.specs.Answers.{refused_number, refused_kind, and_then}
use Rattle.lisp_builtins.specs.Numbers.{computed_answer}
use Rattle.lisp_builtins.specs.Values.{is_list}
use Rattle.lisp_builtins.specs.declared.lists.Bounds.{Bounds}
use Rattle.lisp_builtins.specs.declared.op.Op.{Op}
use Rattle.lisp_builtins.specs.declared.signature.Part.{Part}
use Rattle.lisp_builtins.specs.declared.signature.Part.TheVariants as part
use Rattle.lisp_builtins.specs.declared.signature.Behind.{Behind}
use Rattle.lisp_builtins.specs.declared.signature.Behind.TheVariants as behind
use Rattle.lisp_builtins.specs.declared.signature.Joining.{Joining}
use Rattle.lisp_builtins.specs.declared.signature.Joining.TheVariants as joining

abbrev pub part_of : Part → List Value → Value
part_of (part.Item n) xs = nth n xs
part_of part.Rest xs = value.List (nthcdr 1 xs)
part_of part.Last xs = value.List (last xs)
part_of part.Reverse xs = value.List (reverse xs)

abbrev pub of_list_at : Part → List ℕ → Value → Value-F Value Condition → Result Value Condition
of_list_at f current v (Value-F.List xs) = Ok (part_of f xs)
of_list_at f current v _ = refused_kind current v wanted.List

-- `car`, `cdr`, `first`, `rest`, `second`, `third`, `last` and `reverse`
abbrev pub of_one_list : Part → Op → List ℕ → List Value → Result Value Condition
of_one_list f op current (v ∷ []) = of_list_at f current v (out-Value v)
of_one_list f op current _ = refused_number current op

abbrev pub behind_of : Behind → List ℕ → Value → ℤ → List Value → Result Value Condition
behind_of behind.Item current v (pos n) xs = Ok (nth n xs)
behind_of behind.Rest current v (pos n) xs = Ok (value.List (nthcdr n xs))
behind_of f current v (negsuc n) xs = refused_kind current v wanted.Index

abbrev pub of_index_at : Behind → List ℕ → Value → Value → Value-F Value Condition → Value-F Value Condition → Result Value Condition
of_index_at f current n v (Value-F.Int at) (Value-F.List xs) = behind_of f current n at xs
of_index_at f current n v (Value-F.Int at) _ = refused_kind current v wanted.List
of_index_at f current n v _ _ = refused_kind current n wanted.Integer

-- `nth` and `nthcdr`: a number below 0 is no index, and past the end stands NIL
abbrev pub of_index_and_list : Behind → Op → List ℕ → List Value → Result Value Condition
of_index_and_list f op current (n ∷ v ∷ []) = of_index_at f current n v (out-Value n) (out-Value v)
of_index_and_list f op current _ = refused_number current op

abbrev pub joined_of : Joining → Value → List Value → Value
joined_of joining.Cons x xs = value.List (x ∷ xs)
joined_of joining.Member x xs = value.List (member x xs)
joined_of joining.Assoc x xs = assoc x xs

abbrev pub of_joining_at : Joining → List ℕ → Value → Value → Value-F Value Condition → Result Value Condition
of_joining_at f current x v (Value-F.List xs) = Ok (joined_of f x xs)
of_joining_at f current x v _ = refused_kind current v wanted.List

-- `cons`, `member` and `assoc`
abbrev pub of_value_and_list : Joining → Op → List ℕ → List Value → Result Value Condition
of_value_and_list f op current (x ∷ v ∷ []) = of_joining_at f current x v (out-Value v)
of_value_and_list f op current _ = refused_number current op

abbrev pub unless_no_list : List ℕ → Option Value → Result Value Condition → Result Value Condition
unless_no_list current (Some v) answer = refused_kind current v wanted.List
unless_no_list current None answer = answer

-- `append`
abbrev pub of_lists : List ℕ → List Value → Result Value Condition
of_lists current args = unless_no_list current (find (λ v. not (is_list v)) args) (Ok (value.List (append args)))

abbrev pub of_length_at : List ℕ → Value → Value-F Value Condition → Result Value Condition
of_length_at current v (Value-F.List xs) = computed_answer (ranged (pos (length xs)))
of_length_at current v (Value-F.Str text) = computed_answer (ranged (pos (string_length text)))
of_length_at current v _ = refused_kind current v wanted.List

-- `length`: the items of a list, the characters of a string
abbrev pub of_one_sequence : Op → List ℕ → List Value → Result Value Condition
of_one_sequence op current (v ∷ []) = of_length_at current v (out-Value v)
of_one_sequence op current _ = refused_number current op

abbrev pub integer_at : List ℕ → Value → Value-F Value Condition → Result ℤ Condition
integer_at current v (Value-F.Int n) = Ok n
integer_at current v _ = Err (wrong_kind current v wanted.Integer)

-- a place between two others, both among them
abbrev pub place_of : ℤ → ℕ → ℕ → Option ℕ
place_of (pos n) low high = if nat_le low n && nat_le n high then Some n else None
place_of (negsuc n) low high = None

abbrev pub index_of : List ℕ → Value → Option ℕ → Result ℕ Condition
index_of current v (Some n) = Ok n
index_of current v None = Err (wrong_kind current v wanted.Index)

-- where a part begins and ends, of so many: the kinds are looked at first; the end is the whole's where none is given
abbrev pub bounds_of : List ℕ → Value → Option Value → ℕ → Result Bounds Condition
bounds_of current from None count =
    and_then (integer_at current from (out-Value from)) (λ n.
    and_then (index_of current from (place_of n 0 count)) (λ a.
    Ok (record { from = a; to = count })))
bounds_of current from (Some to) count =
    and_then (integer_at current from (out-Value from)) (λ n.
    and_then (integer_at current to (out-Value to)) (λ m.
    and_then (index_of current from (place_of n 0 count)) (λ a.
    and_then (index_of current to (place_of m a count)) (λ b.
    Ok (record { from = a; to = b })))))

abbrev pub of_sequence_at : List ℕ → Value → (ℕ → Result Bounds Condition) → Value-F Value Condition → Result Value Condition
of_sequence_at current s bounds (Value-F.List xs) = and_then (bounds (length xs)) (λ b. Ok (value.List (subseq b.from b.to xs)))
of_sequence_at current s bounds (Value-F.Str text) = and_then (bounds (string_length text)) (λ b. Ok (value.Str (substring b.from b.to text)))
of_sequence_at current s bounds _ = refused_kind current s wanted.List

-- `subseq`
abbrev pub of_sequence_and_bounds : Op → List ℕ → List Value → Result Value Condition
of_sequence_and_bounds op current (s ∷ from ∷ []) = of_sequence_at current s (bounds_of current from None) (out-Value s)
of_sequence_and_bounds op current (s ∷ from ∷ to ∷ []) = of_sequence_at current s (bounds_of current from (Some to)) (out-Value s)
of_sequence_and_bounds op current _ = refused_number current op
