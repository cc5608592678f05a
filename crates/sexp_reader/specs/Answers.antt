-- What a call answers, where it may also want memory.
use Rattle.std.specs.Prelude.{◌≡◌, ◌⊎◌, Result, Ok, Err}
use Rattle.sexp_reader.specs.declared.fault.ReadFault.{ReadFault}
use Rattle.sexp_reader.specs.declared.fault.ReadFault.TheVariants.{NoMemory}

-- the answer is this one, unless memory is wanting
abbrev pub Answers : {A : Type 0} → Result A ReadFault → Result A ReadFault → Type 0
Answers wanted answer = (answer ≡ wanted) ⊎ (answer ≡ Err NoMemory)

-- a fault that was answered is what reading gives, unless it is want of memory
abbrev pub Fails : {A : Type 0} → ReadFault → Result A ReadFault → Type 0
Fails NoMemory read = Unit {0}
Fails fault read = read ≡ Err fault

-- what was answered, or the view of it, is what reading gives, unless memory is wanting
abbrev pub Gives : {A B : Type 0} → (A → B) → Result A ReadFault → Result B ReadFault → Type 0
Gives view (Ok x) read = read ≡ Ok (view x)
Gives view (Err fault) read = Fails fault read

-- the one after the other
infixl 10 ◌>>=◌
abbrev pub ◌>>=◌ : {A B : Type 0} → Result A ReadFault → (A → Result B ReadFault) → Result B ReadFault
(Ok x) >>= f = f x
(Err fault) >>= f = Err fault
