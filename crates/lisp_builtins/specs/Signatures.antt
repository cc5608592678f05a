-- The table of the one-step functions: what each takes, and what it makes of that. The chapters of the HyperSpec that a row comes
-- from: 12.2 for integers, 14.2 for lists, 17.3 for sequences, 16.2 for strings, 10.2 for symbols, 4.4 for types, 5.3 for
-- equality, 22.4 for printing, 9.2 for conditions.
use Rattle.lisp_builtins.specs.declared.op.Op.{Op}
use Rattle.lisp_builtins.specs.declared.op.Op.TheVariants as op
use Rattle.lisp_builtins.specs.declared.signature.Signature.{Signature}
use Rattle.lisp_builtins.specs.declared.signature.Signature.TheVariants as signature
use Rattle.lisp_builtins.specs.declared.signature.Total.TheVariants as total
use Rattle.lisp_builtins.specs.declared.signature.Several.TheVariants as several
use Rattle.lisp_builtins.specs.declared.signature.Pair.TheVariants as pair
use Rattle.lisp_builtins.specs.declared.signature.Single.TheVariants as single
use Rattle.lisp_builtins.specs.declared.signature.Any.TheVariants as any
use Rattle.lisp_builtins.specs.declared.signature.Both.TheVariants as both
use Rattle.lisp_builtins.specs.declared.signature.Joining.TheVariants as joining
use Rattle.lisp_builtins.specs.declared.signature.Behind.TheVariants as behind
use Rattle.lisp_builtins.specs.declared.signature.Part.TheVariants as part
use Rattle.lisp_builtins.specs.declared.signature.Naming.TheVariants as naming
use Rattle.lisp_numbers.specs.declared.order.Relation.TheVariants as relation

-- what a function takes, and what it makes of that
abbrev pub signature_of : Op → Signature
signature_of op.Plus = signature.Integers total.Sum
signature_of op.Times = signature.Integers total.Product
signature_of op.Minus = signature.SomeIntegers several.Difference
signature_of op.Divide = signature.TwoIntegers pair.Quotient
signature_of op.Floor = signature.TwoIntegers pair.Floor
signature_of op.Mod = signature.TwoIntegers pair.Modulo
signature_of op.Truncate = signature.TwoIntegers pair.Truncate
signature_of op.Rem = signature.TwoIntegers pair.Remainder
signature_of op.Abs = signature.OneInteger single.Absolute
signature_of op.OnePlus = signature.OneInteger single.Successor
signature_of op.OneMinus = signature.OneInteger single.Predecessor
signature_of op.Min = signature.SomeIntegers several.Least
signature_of op.Max = signature.SomeIntegers several.Greatest
signature_of op.NumbersEqual = signature.SomeIntegers (several.Compare relation.Equal)
signature_of op.Less = signature.SomeIntegers (several.Compare relation.Less)
signature_of op.Greater = signature.SomeIntegers (several.Compare relation.Greater)
signature_of op.AtMost = signature.SomeIntegers (several.Compare relation.AtMost)
signature_of op.AtLeast = signature.SomeIntegers (several.Compare relation.AtLeast)
signature_of op.NumbersDiffer = signature.TwoIntegers pair.Differ
signature_of op.Zerop = signature.OneInteger single.IsZero
signature_of op.Plusp = signature.OneInteger single.IsPositive
signature_of op.Minusp = signature.OneInteger single.IsNegative
signature_of op.Evenp = signature.OneInteger single.IsEven
signature_of op.Oddp = signature.OneInteger single.IsOdd
signature_of op.Null = signature.OneValue any.IsNil
signature_of op.Not = signature.OneValue any.IsNil
signature_of op.Eq = signature.TwoValues both.AreSame
signature_of op.Eql = signature.TwoValues both.AreSame
signature_of op.Equal = signature.TwoValues both.AreSame
signature_of op.Atom = signature.OneValue any.IsAtom
signature_of op.Consp = signature.OneValue any.IsCons
signature_of op.Listp = signature.OneValue any.IsList
signature_of op.Symbolp = signature.OneValue any.IsSymbol
signature_of op.Stringp = signature.OneValue any.IsString
signature_of op.Integerp = signature.OneValue any.IsInteger
signature_of op.Keywordp = signature.OneValue any.IsKeyword
signature_of op.List = signature.Values
signature_of op.Append = signature.Lists
signature_of op.Cons = signature.ValueAndList joining.Cons
signature_of op.Car = signature.OneList (part.Item 0)
signature_of op.Cdr = signature.OneList part.Rest
signature_of op.First = signature.OneList (part.Item 0)
signature_of op.Rest = signature.OneList part.Rest
signature_of op.Second = signature.OneList (part.Item 1)
signature_of op.Third = signature.OneList (part.Item 2)
signature_of op.Nth = signature.IndexAndList behind.Item
signature_of op.Nthcdr = signature.IndexAndList behind.Rest
signature_of op.Last = signature.OneList part.Last
signature_of op.Reverse = signature.OneList part.Reverse
signature_of op.Length = signature.OneSequence
signature_of op.Member = signature.ValueAndList joining.Member
signature_of op.Assoc = signature.ValueAndList joining.Assoc
signature_of op.Subseq = signature.SequenceAndBounds
signature_of op.StringEqual = signature.TwoNames
signature_of op.StringUpcase = signature.OneName naming.Upcase
signature_of op.StringDowncase = signature.OneName naming.Downcase
signature_of op.PrincToString = signature.OneValue any.Princ
signature_of op.Prin1ToString = signature.OneValue any.Prin1
signature_of op.SymbolName = signature.OneSymbol
signature_of op.String = signature.OneName naming.Itself
signature_of op.TypeOf = signature.OneValue any.TypeOf
signature_of op.Typep = signature.TwoValues both.IsOfType
signature_of op.Identity = signature.OneValue any.Identity
signature_of op.MakeCondition = signature.NewCondition
