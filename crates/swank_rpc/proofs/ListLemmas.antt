-- The names of packages, as far as they were listed.
use Rattle.std.proofs.Common.{◌≡◌, ◌∙◌, ℕ, zero, suc, ◌≤◌, List, [], ◌∷◌, ◌++◌, map, take, refl, ap, sym, arith}
use Rattle.std.specs.Prelude.{Some, None, option_map, slice_get}
use Rattle.lisp_data.specs.declared.sexp.Sexp.{Sexp}
use Rattle.lisp_data.specs.declared.sexp.Sexp.TheVariants as form
use Rattle.lisp_packages.specs.declared.lisp_package.Package.{Package}
use Rattle.rpc_messages.specs.Cut.{cut}

-- the names of some packages, each cut
abbrev pub cut_names : List Package → List Sexp
cut_names ps = map (λ p. form.Str (cut p.name)) ps

pub more-names : (ps : List Package) (n : ℕ) (name : List ℕ) → Some name ≡ option_map (λ p. p.name) (slice_get ps n) → cut_names (take (suc n) ps) ≡ cut_names (take n ps) ++ form.Str (cut name) ∷ []
more-names [] n name e = absurd (cc)
more-names (p ∷ ps) zero name e = let same : name ≡ p.name = cc in ap (λ (x : List ℕ). form.Str (cut x) ∷ []) (sym same)
more-names (p ∷ ps) (suc n) name e = ap (λ l. form.Str (cut p.name) ∷ l) (more-names ps n name e)

take-none : {A : Type 0} (n : ℕ) → take {A = A} n [] ≡ []
take-none zero = refl
take-none (suc n) = refl

pub no-more-names : (ps : List Package) (m n : ℕ) → None ≡ option_map (λ p. p.name) (slice_get ps n) → n ≤ m → take m ps ≡ take n ps
no-more-names [] m n e h = take-none m ∙ sym (take-none n)
no-more-names (p ∷ ps) m zero e h = absurd (cc)
no-more-names (p ∷ ps) zero (suc n) e h = absurd (omega arith)
no-more-names (p ∷ ps) (suc m) (suc n) e h = ap (λ l. p ∷ l) (no-more-names ps m n e (omega arith))
