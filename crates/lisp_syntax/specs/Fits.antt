-- What the code's answers say of what is read.
use Rattle.std.specs.Prelude.{◌≡◌, ℕ, ◌≤◌, Bool, true, false, ◌++◌, map, List, Option, Some, None, Result, Ok, Err}
use Rattle.std.specs.Borrow.{Bor}
use Rattle.lisp_data.specs.Sexp.{depth_over}
use Rattle.lisp_data.specs.Value.{depth_of}
use Rattle.lisp_data.specs.declared.value.Value.{Value}
use Rattle.lisp_syntax.specs.declared.fit.Fit.{Fit}
use Rattle.lisp_syntax.specs.declared.fit.Misfit.{Misfit}
use Rattle.lisp_syntax.specs.declared.fit.Misfit.TheVariants as misfit
use Rattle.lisp_syntax.specs.declared.fault.ParseFault.{ParseFault}
use Rattle.lisp_syntax.specs.declared.fault.ParseFault.TheVariants as fault
use Rattle.syntax_trees.specs.declared.ast.Ast.{Ast}
use Rattle.lisp_syntax.specs.Parsing.{parsed_item, tree_of}
use Rattle.lisp_syntax.specs.Rows.{Fitting, fitting}
use Rattle.lisp_data.specs.Parts.{nil}

-- what was read is there, and nothing where it is said that nothing fits
abbrev pub Finds : {X : Type 0} → Result X Misfit → Option X → Type 0
Finds (Ok x) found = found ≡ Some x
Finds (Err misfit.NoRow) found = found ≡ None
Finds (Err misfit.NoMemory) found = Unit {0}

-- the same of what is seen in another way
abbrev pub FindsAs : {X Y : Type 0} → (X → Y) → Result X Misfit → Option Y → Type 0
FindsAs seen (Ok x) found = found ≡ Some (seen x)
FindsAs seen (Err misfit.NoRow) found = found ≡ None
FindsAs seen (Err misfit.NoMemory) found = Unit {0}

-- the test holds, and doesn't where it is said that nothing fits
abbrev pub Passes : {X : Type 0} → Result X Misfit → Bool → Type 0
Passes (Ok x) holds = holds ≡ true
Passes (Err misfit.NoRow) holds = holds ≡ false
Passes (Err misfit.NoMemory) holds = Unit {0}

-- a subform that is lent, or NIL where none is written
abbrev pub written : Option (Bor Value) → Value
written (Some e) = e.now
written None = nil

abbrev pub fitting_of : Fit → Fitting
fitting_of f = fitting f.row (map written f.lead) f.body.now

-- the answer is what the definition gives, unless memory is wanting
abbrev pub Gives : {X : Type 0} → Result X ParseFault → Result X Value → Type 0
Gives (Ok x) given = given ≡ Ok x
Gives (Err (fault.Syntax v)) given = given ≡ Err v
Gives (Err fault.NoMemory) given = Unit {0}

-- an item and its subform, and lists of them
abbrev pub bound : {A : Type 0} → A × Option (Bor Value) → A × Value
bound b = (b.0, written b.1)

abbrev pub listed : {A : Type 0} → List A × List (Option (Bor Value)) → List A × List Value
listed l = (l.0, map written l.1)

-- the row whose tree a value has, unless it is itself the bad form
abbrev pub Plants : Result Fit ParseFault → Result Ast Value → Type 0
Plants (Ok fit) given = given ≡ tree_of parsed_item (fitting_of fit)
Plants (Err (fault.Syntax v)) given = given ≡ Err v
Plants (Err fault.NoMemory) given = Unit {0}

-- how deep a list of these items is
abbrev pub over : List Value → ℕ
over items = depth_over (map depth_of items)

-- the subforms are less deep than a form of this depth
abbrev pub IsBelow : ℕ → Fitting → Type 0
IsBelow n f = (over f.lead ≤ n) × (over f.body ≤ n)

-- the trees, and behind them those that there are
abbrev pub after : {A : Type 0} → List A → Result (List A) Value → Result (List A) Value
after xs (Ok ys) = Ok (xs ++ ys)
after xs (Err u) = Err u
