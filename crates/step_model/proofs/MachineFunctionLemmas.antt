-- Each function that the machine runs is found by its symbol, and by no other.
use Rattle.std.proofs.Common.{◌≡◌, ◌∙◌, ◌↔◌, ap, refl, sym, ℕ, Bool, true, false, List, [], ◌∷◌, codes}
use Rattle.std.specs.Prelude.{Option, Some, None, find, if◌then◌else◌}
use Rattle.std.specs.Str.{bytes_eq}
use Rattle.std.proofs.lemmas.Slice.Eq.{bytes_eq-Decides}
use Rattle.lisp_data.specs.Symbols.{cl, is_of_common_lisp}
use Rattle.lisp_data.specs.declared.symbol.Symbol.{Symbol}
use Rattle.step_model.specs.declared.machine_function.MachineFunction.{MachineFunction}
use Rattle.step_model.specs.declared.machine_function.MachineFunction.TheVariants as f
use Rattle.step_model.specs.declared.machine_function.TheConstants.{MACHINE_FUNCTIONS}
use Rattle.step_model.specs.MachineFunctions.{machine_function, machine_name, machine_named}

by-its-symbol : (g : MachineFunction) → machine_function (cl (machine_name g)) ≡ Some g
unfolding machine_function
by-its-symbol f.Funcall = refl
by-its-symbol f.Apply = refl
by-its-symbol f.Mapcar = refl
by-its-symbol f.Mapc = refl
by-its-symbol f.Eval = refl
by-its-symbol f.SymbolValue = refl
by-its-symbol f.Set = refl
by-its-symbol f.Boundp = refl
by-its-symbol f.Fboundp = refl
by-its-symbol f.Intern = refl
by-its-symbol f.FindSymbol = refl
by-its-symbol f.Export = refl
by-its-symbol f.UsePackage = refl
by-its-symbol f.Format = refl
by-its-symbol f.Princ = refl
by-its-symbol f.Prin1 = refl
by-its-symbol f.Print = refl
by-its-symbol f.WriteString = refl
by-its-symbol f.WriteLine = refl
by-its-symbol f.Terpri = refl
by-its-symbol f.ReadLine = refl
by-its-symbol f.YesOrNo = refl
by-its-symbol f.Signal = refl
by-its-symbol f.Error = refl
by-its-symbol f.Cerror = refl
by-its-symbol f.Warn = refl
by-its-symbol f.Break = refl
by-its-symbol f.InvokeDebugger = refl
by-its-symbol f.InvokeRestart = refl
by-its-symbol f.FindRestart = refl
by-its-symbol f.ComputeRestarts = refl
by-its-symbol f.Abort = refl
by-its-symbol f.Continue = refl
by-its-symbol f.MuffleWarning = refl

-- what is found passes the test
found-at : (p : MachineFunction → Bool) (a b : MachineFunction) (t : Bool) (o : Option MachineFunction) → p a ≡ t → (o ≡ Some b → p b ≡ true) → (if t then Some a else o) ≡ Some b → p b ≡ true
found-at p a b true o is more e = let same : a ≡ b = cc in ap p (sym same) ∙ is
found-at p a b false o is more e = more e

found : (p : MachineFunction → Bool) (gs : List MachineFunction) (g : MachineFunction) → find p gs ≡ Some g → p g ≡ true
found p [] g e = absurd (cc)
found p (a ∷ gs) g e = found-at p a g (p a) (find p gs) refl (found p gs g) e

pub symbol-from : (s : Symbol) (home name : List ℕ) → s.home ≡ home → s.name ≡ name → s ≡ record { home = home; name = name }
symbol-from s home name first second = ap (λ (h : List ℕ). let t : Symbol = record { home = h; name = s.name } in t) first ∙ ap (λ (n : List ℕ). let t : Symbol = record { home = home; name = n } in t) second

back-at : (s : Symbol) (g : MachineFunction) (home : Bool) → is_of_common_lisp s ≡ home → (if home then machine_named s.name else None) ≡ Some g → s ≡ cl (machine_name g)
back-at s g true is e =
    symbol-from s (codes "COMMON-LISP") (machine_name g) ((bytes_eq-Decides s.home (codes "COMMON-LISP")).0 is)
    (sym ((bytes_eq-Decides (machine_name g) s.name).0 (found (λ m. bytes_eq (machine_name m) s.name) MACHINE_FUNCTIONS g e)))
back-at s g false is e = absurd (cc)

back : (s : Symbol) (g : MachineFunction) → machine_function s ≡ Some g → s ≡ cl (machine_name g)
unfolding machine_function
back s g e = back-at s g (is_of_common_lisp s) refl e

pub machine-functions-iff : (s : Symbol) (g : MachineFunction) → (machine_function s ≡ Some g) ↔ (s ≡ cl (machine_name g))
machine-functions-iff s g = (back s g, λ e. ap machine_function e ∙ by-its-symbol g)
