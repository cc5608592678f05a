-- Why a call is refused.
use Rattle.std.specs.Prelude.{◌≡◌, Option, None, Some, Result, Ok, Err, ⊤}
use Rattle.lisp_packages.specs.declared.fault.NameFault.{NameFault}
use Rattle.lisp_packages.specs.declared.fault.NameFault.TheVariants.{NoPackage, NotExternal, Clash, NoMemory}

-- the refusal of an answer
abbrev pub refusal_of : {X : Type 0} → Result X NameFault → Option NameFault
refusal_of (Ok x) = None
refusal_of (Err why) = Some why

-- the fault is want of memory, or this refusal
abbrev pub IsFault : NameFault → Option NameFault → Type 0
IsFault NoMemory refusal = ⊤
IsFault (NoPackage text) refusal = refusal ≡ Some (NoPackage text)
IsFault (NotExternal name home) refusal = refusal ≡ Some (NotExternal name home)
IsFault Clash refusal = refusal ≡ Some Clash

-- the fault is want of memory, or the one that the answer names
abbrev pub IsCause : {X : Type 0} → NameFault → Result X NameFault → Type 0
IsCause why answer = IsFault why (refusal_of answer)
