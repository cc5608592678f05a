-- A listed function that raises nothing gives the same value in every package, so a thread calls it by itself.
use Rattle.std.proofs.Common.{◌≡◌, ◌∙◌, ap, refl, sym, subst, ℕ, ℤ, Bool, true, false, List, [], ◌∷◌, codes, Option, Some, None, Result, Ok, Err}
use Rattle.std.specs.Prelude.{◌||◌, option_map}
use Rattle.std.specs.List.{list_any}
use Rattle.std.specs.Str.{bytes_eq}
use Rattle.std.proofs.lemmas.Bool.{and_parts, false≢true}
use Rattle.std.proofs.lemmas.Slice.Eq.{bytes_eq-Decides}
use Rattle.lisp_builtins.specs.Answers.{within_limits}
use Rattle.lisp_builtins.specs.Lists.{of_list_at, of_one_list}
use Rattle.lisp_builtins.specs.Names.{op_of}
use Rattle.lisp_builtins.specs.Numbers.{computed_answer, first_other, integers_in, of_integers, of_one_integer, of_single_at, of_some_integers, several_of, total_of, unless_other}
use Rattle.lisp_builtins.specs.Outcome as builtins
use Rattle.lisp_builtins.specs.Values.{of_one_value, of_two_values}
use Rattle.lisp_builtins.specs.declared.op.Op.{Op}
use Rattle.lisp_builtins.specs.declared.op.Op.TheVariants as op
use Rattle.lisp_builtins.specs.declared.signature.Any.TheVariants as any
use Rattle.lisp_builtins.specs.declared.signature.Both.TheVariants as both
use Rattle.lisp_builtins.specs.declared.signature.Part.{Part}
use Rattle.lisp_builtins.specs.declared.signature.Part.TheVariants as part
use Rattle.lisp_builtins.specs.declared.signature.Several.{Several}
use Rattle.lisp_builtins.specs.declared.signature.Several.TheVariants as several
use Rattle.lisp_builtins.specs.declared.signature.Single.{Single}
use Rattle.lisp_builtins.specs.declared.signature.Single.TheVariants as single
use Rattle.lisp_builtins.specs.declared.signature.Total.{Total}
use Rattle.lisp_builtins.specs.declared.signature.Total.TheVariants as total
use Rattle.lisp_numbers.specs.declared.order.Relation.TheVariants as relation
use Rattle.lisp_data.specs.Symbols.{cl, is_of_common_lisp, names}
use Rattle.lisp_data.specs.declared.symbol.Symbol.{Symbol}
use Rattle.lisp_data.specs.declared.value.Value.{Value}
use Rattle.lisp_data.specs.declared.value.Value.TheOpen.{Value-F}
use Rattle.lisp_data.specs.declared.value.Value.TheViews.{out-Value}
use Rattle.lisp_data.specs.declared.value.Condition.{Condition}
use Rattle.lisp_errors.specs.Limits.{is_too_large, value_too_large}
use Rattle.step_model.specs.CurrentPackage.{user_package}
use Rattle.step_model.proofs.MachineFunctionLemmas.{symbol-from}
use Rattle.step_model.specs.OneStep.{alone, is_listed_function, listed_functions, outcome, value_given, value_if}

-- ---- answers in two packages

abbrev Answer : Type 0
Answer = Result Value Condition

-- the second answer is the value that the first one is
abbrev Agree : Answer → Answer → Type 0
Agree a b = (v : Value) → a ≡ Ok v → b ≡ Ok v

no_value : (c : Condition) (b : Answer) → Agree (Err c) b
no_value c b v e = absurd (cc)

same_answer : (a : Answer) → Agree a a
same_answer a v e = e

within : (a b : Answer) → Agree a b → Agree (within_limits a) (within_limits b)
within (Ok x) b g v e = ap within_limits (g x refl) ∙ e
within (Err c) b g v e = absurd (cc)

-- ---- each signature of a listed function

unless_agree : (p q : List ℕ) (o : Option Value) (a b : Answer) → Agree a b → Agree (unless_other p o a) (unless_other q o b)
unless_agree p q (Some w) a b g = no_value _ _
unless_agree p q None a b g = g

integers_agree : (f : Total) (p q : List ℕ) (vs : List Value) → Agree (of_integers f p vs) (of_integers f q vs)
integers_agree f p q vs = unless_agree p q (first_other vs) _ _ (same_answer (computed_answer (total_of f (integers_in vs))))

several_agree : (f : Several) (o : Op) (p q : List ℕ) (ns : List ℤ) → Agree (several_of f o p ns) (several_of f o q ns)
several_agree f o p q [] = no_value _ _
several_agree several.Difference o p q (n ∷ ns) = same_answer _
several_agree several.Least o p q (n ∷ ns) = same_answer _
several_agree several.Greatest o p q (n ∷ ns) = same_answer _
several_agree (several.Compare relation) o p q (n ∷ ns) = same_answer _

some_agree : (f : Several) (o : Op) (p q : List ℕ) (vs : List Value) → Agree (of_some_integers f o p vs) (of_some_integers f o q vs)
some_agree f o p q vs = unless_agree p q (first_other vs) _ _ (several_agree f o p q (integers_in vs))

single_agree : (f : Single) (p q : List ℕ) (v : Value) (x : Value-F Value Condition) → Agree (of_single_at f p v x) (of_single_at f q v x)
single_agree f p q v (Value-F.Int n) = same_answer _
single_agree f p q v (Value-F.Str t) = no_value _ _
single_agree f p q v (Value-F.Sym s) = no_value _ _
single_agree f p q v (Value-F.List xs) = no_value _ _
single_agree f p q v (Value-F.Cond c) = no_value _ _

one_agree : (f : Single) (o : Op) (p q : List ℕ) (vs : List Value) → Agree (of_one_integer f o p vs) (of_one_integer f o q vs)
one_agree f o p q (v ∷ []) = single_agree f p q v (out-Value v)
one_agree f o p q [] = no_value _ _
one_agree f o p q (v ∷ w ∷ vs) = no_value _ _

nil_agree : (o : Op) (p q : List ℕ) (vs : List Value) → Agree (of_one_value any.IsNil o p vs) (of_one_value any.IsNil o q vs)
nil_agree o p q (v ∷ []) = same_answer _
nil_agree o p q [] = no_value _ _
nil_agree o p q (v ∷ w ∷ vs) = no_value _ _

same_agree : (o : Op) (p q : List ℕ) (vs : List Value) → Agree (of_two_values both.AreSame o p vs) (of_two_values both.AreSame o q vs)
same_agree o p q (v ∷ w ∷ []) = same_answer _
same_agree o p q [] = no_value _ _
same_agree o p q (v ∷ []) = no_value _ _
same_agree o p q (v ∷ w ∷ x ∷ vs) = no_value _ _

list_agree : (f : Part) (p q : List ℕ) (v : Value) (x : Value-F Value Condition) → Agree (of_list_at f p v x) (of_list_at f q v x)
list_agree f p q v (Value-F.List xs) = same_answer _
list_agree f p q v (Value-F.Int n) = no_value _ _
list_agree f p q v (Value-F.Str t) = no_value _ _
list_agree f p q v (Value-F.Sym s) = no_value _ _
list_agree f p q v (Value-F.Cond c) = no_value _ _

part_agree : (f : Part) (o : Op) (p q : List ℕ) (vs : List Value) → Agree (of_one_list f o p vs) (of_one_list f o q vs)
part_agree f o p q (v ∷ []) = list_agree f p q v (out-Value v)
part_agree f o p q [] = no_value _ _
part_agree f o p q (v ∷ w ∷ vs) = no_value _ _

-- ---- each listed function

abbrev Alike : Op → Type 0
Alike o = (p q : List ℕ) (vs : List Value) → Agree (builtins.outcome o vs p) (builtins.outcome o vs q)

plus : Alike op.Plus
unfolding builtins.outcome
plus p q vs = within _ _ (integers_agree total.Sum p q vs)

minus : Alike op.Minus
unfolding builtins.outcome
minus p q vs = within _ _ (some_agree several.Difference op.Minus p q vs)

times : Alike op.Times
unfolding builtins.outcome
times p q vs = within _ _ (integers_agree total.Product p q vs)

one_plus : Alike op.OnePlus
unfolding builtins.outcome
one_plus p q vs = within _ _ (one_agree single.Successor op.OnePlus p q vs)

one_minus : Alike op.OneMinus
unfolding builtins.outcome
one_minus p q vs = within _ _ (one_agree single.Predecessor op.OneMinus p q vs)

equal : Alike op.NumbersEqual
unfolding builtins.outcome
equal p q vs = within _ _ (some_agree (several.Compare relation.Equal) op.NumbersEqual p q vs)

less : Alike op.Less
unfolding builtins.outcome
less p q vs = within _ _ (some_agree (several.Compare relation.Less) op.Less p q vs)

greater : Alike op.Greater
unfolding builtins.outcome
greater p q vs = within _ _ (some_agree (several.Compare relation.Greater) op.Greater p q vs)

at_most : Alike op.AtMost
unfolding builtins.outcome
at_most p q vs = within _ _ (some_agree (several.Compare relation.AtMost) op.AtMost p q vs)

at_least : Alike op.AtLeast
unfolding builtins.outcome
at_least p q vs = within _ _ (some_agree (several.Compare relation.AtLeast) op.AtLeast p q vs)

is_null : Alike op.Null
unfolding builtins.outcome
is_null p q vs = within _ _ (nil_agree op.Null p q vs)

is_not : Alike op.Not
unfolding builtins.outcome
is_not p q vs = within _ _ (nil_agree op.Not p q vs)

is_eq : Alike op.Eq
unfolding builtins.outcome
is_eq p q vs = within _ _ (same_agree op.Eq p q vs)

car : Alike op.Car
unfolding builtins.outcome
car p q vs = within _ _ (part_agree (part.Item 0) op.Car p q vs)

cdr : Alike op.Cdr
unfolding builtins.outcome
cdr p q vs = within _ _ (part_agree part.Rest op.Cdr p q vs)

-- ---- a symbol that is listed

-- the value of a symbol's function doesn't depend on the package
abbrev IsSteady : Symbol → Type 0
IsSteady g = (p q : List ℕ) (vs : List Value) (v : Value) → outcome p g vs ≡ Some (Ok v) → outcome q g vs ≡ Some (Ok v)

steady : (g : Symbol) (o : Op) → op_of g ≡ Some o → Alike o → IsSteady g
steady g o is alike p q vs v e =
    let at : (current : List ℕ) → outcome current g vs ≡ Some (builtins.outcome o vs current) = λ current. ap (option_map (λ (x : Op). builtins.outcome x vs current)) is in
    at q ∙ ap Some (alike p q vs v (inside _ v (sym (at p) ∙ e)))
  where
    inside : (a : Answer) (v : Value) → Some a ≡ Some (Ok v) → a ≡ Ok v
    inside a v e = cc

-- every name in a list has such a function
abbrev AreSteady : List (List ℕ) → Type 0
AreSteady [] = Unit {0}
AreSteady (name ∷ more) = IsSteady (cl name) × AreSteady more

all_steady : AreSteady listed_functions
all_steady = (
  steady (cl (codes "+")) op.Plus refl plus,
  (
    steady (cl (codes "-")) op.Minus refl minus,
    (
      steady (cl (codes "*")) op.Times refl times,
      (
        steady (cl (codes "1+")) op.OnePlus refl one_plus,
        (
          steady (cl (codes "1-")) op.OneMinus refl one_minus,
          (
            steady (cl (codes "=")) op.NumbersEqual refl equal,
            (
              steady (cl (codes "<")) op.Less refl less,
              (
                steady (cl (codes ">")) op.Greater refl greater,
                (
                  steady (cl (codes "<=")) op.AtMost refl at_most,
                  (
                    steady (cl (codes ">=")) op.AtLeast refl at_least,
                    (
                      steady (cl (codes "NULL")) op.Null refl is_null,
                      (
                        steady (cl (codes "NOT")) op.Not refl is_not,
                        (
                          steady (cl (codes "EQ")) op.Eq refl is_eq,
                          (
                            steady (cl (codes "CAR")) op.Car refl car,
                            (
                              steady (cl (codes "CDR")) op.Cdr refl cdr,
                              tt,
                            ),
                          ),
                        ),
                      ),
                    ),
                  ),
                ),
              ),
            ),
          ),
        ),
      ),
    ),
  ),
)

-- a symbol of that name is that of COMMON-LISP
named_is : (g : Symbol) (name : List ℕ) → names g name ≡ true → g ≡ cl name
named_is g name h =
    let both = and_parts (is_of_common_lisp g) (bytes_eq g.name name) h in
    symbol-from g (codes "COMMON-LISP") name ((bytes_eq-Decides g.home (codes "COMMON-LISP")).0 both.0) ((bytes_eq-Decides g.name name).0 both.1)

steady_if : (g : Symbol) (name : List ℕ) (more : List (List ℕ)) (b : Bool) → names g name ≡ b → (b || list_any (names g) more) ≡ true → IsSteady (cl name) → (list_any (names g) more ≡ true → IsSteady g) → IsSteady g
steady_if g name more true is h first rest = subst IsSteady (sym (named_is g name is)) first
steady_if g name more false is h first rest = rest h

named_steady : (g : Symbol) (list : List (List ℕ)) → AreSteady list → list_any (names g) list ≡ true → IsSteady g
named_steady g [] all h = absurd (false≢true h)
named_steady g (name ∷ more) all h = steady_if g name more (names g name) refl h all.0 (named_steady g more all.1)

alone_if : (g : Symbol) (vs : List Value) (v : Value) (b : Bool) → is_listed_function g ≡ b → b ≡ true → outcome user_package g vs ≡ Some (Ok v) → alone g vs ≡ Some v
alone_if g vs v b is h e = ap (λ x. value_if x (value_given (outcome user_package g vs))) (is ∙ h) ∙ ap value_given e

-- a listed function that raises nothing in some package gives its value by itself
pub listed_alone : (current : List ℕ) (g : Symbol) (vs : List Value) (v : Value) → is_listed_function g ≡ true → outcome current g vs ≡ Some (Ok v) → alone g vs ≡ Some v
listed_alone current g vs v h e = alone_if g vs v (is_listed_function g) refl h (named_steady g listed_functions all_steady h current user_package vs v e)
