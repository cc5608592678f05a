-- Each one-step function is found by its symbol, and by no other.
use Rattle.std.proofs.Common.{◌≡◌, ◌∙◌, ◌↔◌, ap, refl, sym, ℕ, Bool, true, false, List, [], ◌∷◌, codes}
use Rattle.std.specs.Prelude.{Option, Some, None, if◌then◌else◌}
use Rattle.std.specs.List.{find}
use Rattle.std.specs.Str.{bytes_eq}
use Rattle.std.proofs.lemmas.Slice.Eq.{bytes_eq-Decides}
use Rattle.lisp_data.specs.Symbols.{cl, is_of_common_lisp}
use Rattle.lisp_data.specs.declared.symbol.Symbol.{Symbol}
use Rattle.lisp_builtins.specs.declared.op.TheConstants.{ALL}
use Rattle.lisp_builtins.specs.declared.op.Op.{Op}
use Rattle.lisp_builtins.specs.declared.op.Op.TheVariants as op
use Rattle.lisp_builtins.specs.Names.{name_of, op_of}

op-found : (o : Op) → op_of (cl (name_of o)) ≡ Some o
op-found op.Plus = refl
op-found op.Times = refl
op-found op.Minus = refl
op-found op.Divide = refl
op-found op.Floor = refl
op-found op.Mod = refl
op-found op.Truncate = refl
op-found op.Rem = refl
op-found op.Abs = refl
op-found op.OnePlus = refl
op-found op.OneMinus = refl
op-found op.Min = refl
op-found op.Max = refl
op-found op.NumbersEqual = refl
op-found op.Less = refl
op-found op.Greater = refl
op-found op.AtMost = refl
op-found op.AtLeast = refl
op-found op.NumbersDiffer = refl
op-found op.Zerop = refl
op-found op.Plusp = refl
op-found op.Minusp = refl
op-found op.Evenp = refl
op-found op.Oddp = refl
op-found op.Null = refl
op-found op.Not = refl
op-found op.Eq = refl
op-found op.Eql = refl
op-found op.Equal = refl
op-found op.Atom = refl
op-found op.Consp = refl
op-found op.Listp = refl
op-found op.Symbolp = refl
op-found op.Stringp = refl
op-found op.Integerp = refl
op-found op.Keywordp = refl
op-found op.List = refl
op-found op.Append = refl
op-found op.Cons = refl
op-found op.Car = refl
op-found op.Cdr = refl
op-found op.First = refl
op-found op.Rest = refl
op-found op.Second = refl
op-found op.Third = refl
op-found op.Nth = refl
op-found op.Nthcdr = refl
op-found op.Last = refl
op-found op.Reverse = refl
op-found op.Length = refl
op-found op.Member = refl
op-found op.Assoc = refl
op-found op.Subseq = refl
op-found op.StringEqual = refl
op-found op.StringUpcase = refl
op-found op.StringDowncase = refl
op-found op.PrincToString = refl
op-found op.Prin1ToString = refl
op-found op.SymbolName = refl
op-found op.String = refl
op-found op.TypeOf = refl
op-found op.Typep = refl
op-found op.Identity = refl
op-found op.MakeCondition = refl

-- what is found passes the test
found-at : (p : Op → Bool) (a b : Op) (t : Bool) (o : Option Op) → p a ≡ t → (o ≡ Some b → p b ≡ true) → (if t then Some a else o) ≡ Some b → p b ≡ true
found-at p a b true o is more e = let same : a ≡ b = cc in ap p (sym same) ∙ is
found-at p a b false o is more e = more e

found : (p : Op → Bool) (os : List Op) (o : Op) → find p os ≡ Some o → p o ≡ true
found p [] o e = absurd (cc)
found p (a ∷ os) o e = found-at p a o (p a) (find p os) refl (found p os o) e

symbol-from : (s : Symbol) (home name : List ℕ) → s.home ≡ home → s.name ≡ name → s ≡ record { home = home; name = name }
symbol-from s home name first second = ap (λ (h : List ℕ). let t : Symbol = record { home = h; name = s.name } in t) first ∙ ap (λ (n : List ℕ). let t : Symbol = record { home = home; name = n } in t) second

op-back : (s : Symbol) (o : Op) (home : Bool) → is_of_common_lisp s ≡ home → (if home then find (λ p. bytes_eq (name_of p) s.name) ALL else None) ≡ Some o → s ≡ cl (name_of o)
op-back s o true is e =
    symbol-from s (codes "COMMON-LISP") (name_of o) ((bytes_eq-Decides s.home (codes "COMMON-LISP")).0 is)
    (sym ((bytes_eq-Decides (name_of o) s.name).0 (found (λ p. bytes_eq (name_of p) s.name) ALL o e)))
op-back s o false is e = absurd (cc)

pub ops-iff : (s : Symbol) (o : Op) → (op_of s ≡ Some o) ↔ (s ≡ cl (name_of o))
ops-iff s o = (op-back s o (is_of_common_lisp s) refl, λ e. ap op_of e ∙ op-found o)
