-- How the values of a list's items come one after another.
use Rattle.std.proofs.Common.{◌≡◌, ℕ, zero, suc, ◌+◌, ◌<◌, ◌≤◌, length, drop, map, get_or, subst, arith, List, [], ◌∷◌, ◌++◌, Ok, Err, refl, sym, ap, ◌∙◌, append_assoc}
use Rattle.lisp_data.specs.declared.value.Value.{Value}
use Rattle.lisp_data.specs.declared.value.Value.TheVariants as value
use Rattle.lisp_packages.specs.declared.lisp_package.Package.{Package}
use Rattle.lisp_packages.specs.declared.fault.NameFault.{NameFault}
use Rattle.lisp_packages.specs.Naming.{AllValued, Valued, Named, value_before, value_then, in_turn, list_valued, symbol_valued, named, valued, value_step}
use Rattle.lisp_packages.specs.Causes.{IsFault, refusal_of}
use Rattle.lisp_packages.specs.declared.fault.NameFault.TheVariants.{NoPackage, NotExternal, Clash, NoMemory}
use Rattle.lisp_data.specs.declared.sexp.Sexp.{Sexp}
use Rattle.lisp_data.specs.declared.sexp.Sexp.TheOpen.{Sexp-F}
use Rattle.lisp_data.specs.declared.sexp.Sexp.TheFolds.{fold-roll-Sexp}
use Rattle.lisp_data.specs.declared.sexp.Sexp.TheVariants as sexp
use Rattle.lisp_data.specs.declared.sexp.Sexp.TheVariants.{rolls-Sym, rolls-List}

-- several values in front of others
abbrev pub values_before : List Value → AllValued → AllValued
values_before before (Ok (ps, values)) = Ok (ps, before ++ values)
values_before before (Err why) = Err why

pub values_before-push : (before : List Value) (v : Value) (r : AllValued) → values_before before (value_before v r) ≡ values_before (before ++ v ∷ []) r
values_before-push before v (Ok (ps, values)) = ap (λ vs. Ok (ps, vs)) (sym (append_assoc before (v ∷ []) values))
values_before-push before v (Err why) = refl

pub values_before-none : (r : AllValued) → values_before [] r ≡ r
values_before-none (Ok (ps, values)) = refl
values_before-none (Err why) = refl

-- one more value
pub values_before-step : (before : List Value) (first : Valued) (rest : List Package → AllValued) (ps : List Package) (v : Value) (whole : AllValued)
    → values_before before (value_then first rest) ≡ whole → first ≡ Ok (ps, v) → values_before (before ++ v ∷ []) (rest ps) ≡ whole
values_before-step before first rest ps v whole h p = sym (values_before-push before v (rest ps)) ∙ sym (ap (λ f. values_before before (value_then f rest)) p) ∙ h

-- a refusal is that of the whole
pub values_before-refused : (before : List Value) (first : Valued) (rest : List Package → AllValued) (why : NameFault) (whole : AllValued)
    → values_before before (value_then first rest) ≡ whole → first ≡ Err why → whole ≡ Err why
values_before-refused before first rest why whole h p = sym h ∙ ap (λ f. values_before before (value_then f rest)) p

-- a refusal of a token is that of its value
pub refusal_of-symbol_valued : (answer : Named) → refusal_of (symbol_valued answer) ≡ refusal_of answer
refusal_of-symbol_valued (Ok x) = refl
refusal_of-symbol_valued (Err why) = refl

-- a refusal of an item is that of the list
pub refused-list : (why : NameFault) (before : List Value) (first : Valued) (rest : List Package → AllValued) (whole : AllValued)
    → values_before before (value_then first rest) ≡ whole → IsFault why (refusal_of first) → IsFault why (refusal_of (list_valued whole))
refused-list why before (Err other) rest whole e h = subst (λ (r : AllValued). IsFault why (refusal_of (list_valued r))) e h
refused-list NoMemory before (Ok x) rest whole e h = tt
refused-list (NoPackage text) before (Ok x) rest whole e h = absurd (cc)
refused-list (NotExternal name home) before (Ok x) rest whole e h = absurd (cc)
refused-list Clash before (Ok x) rest whole e h = absurd (cc)

-- the item at an index, and those behind it
pub in_turn-drop : (f : Sexp → List Package → Valued) (items : List Sexp) (n : ℕ) (d : Sexp) (ps : List Package) → n < length items
    → in_turn (map f (drop n items)) ps ≡ value_then (f (get_or items n d) ps) (in_turn (map f (drop (n + 1) items)))
in_turn-drop f items n d ps h = let next : n + 1 ≡ suc n = omega arith in step items n h ∙ ap (λ i. value_then (f (get_or items n d) ps) (in_turn (map f (drop i items)))) (sym next)
  where
    step : (items : List Sexp) (n : ℕ) → n < length items → in_turn (map f (drop n items)) ps ≡ value_then (f (get_or items n d) ps) (in_turn (map f (drop (suc n) items)))
    step [] n h = absurd (omega arith)
    step (x ∷ items) zero h = refl
    step (x ∷ items) (suc n) h = step items n (omega arith)

drop-past : {X : Type 0} (xs : List X) (n : ℕ) → length xs ≤ n → drop n xs ≡ []
drop-past [] zero h = refl
drop-past [] (suc n) h = refl
drop-past (x ∷ xs) zero h = absurd (omega arith)
drop-past (x ∷ xs) (suc n) h = drop-past xs n (omega arith)

append-none : {X : Type 0} (xs : List X) → xs ++ [] ≡ xs
append-none [] = refl
append-none (x ∷ xs) = ap (λ r. x ∷ r) (append-none xs)

-- with no item left, the values are those of the list
pub all-valued : (f : Sexp → List Package → Valued) (items : List Sexp) (n : ℕ) (values : List Value) (ps : List Package) (whole : AllValued) → length items ≤ n
    → values_before values (in_turn (map f (drop n items)) ps) ≡ whole → list_valued whole ≡ Ok (ps, value.List values)
all-valued f items n values ps whole past h =
    ap list_valued (sym h ∙ ap (λ xs. values_before values (in_turn (map f xs) ps)) (drop-past items n past)) ∙ ap (λ vs. Ok (ps, value.List vs)) (append-none values)

-- the value of a token, and of a list
pub valued-sym : (current : ℕ) (form : Sexp) (token : List ℕ) (ps : List Package) → form ≡ sexp.Sym token → valued current form ps ≡ symbol_valued (named ps current token)
valued-sym current form token ps e = ap (λ x. valued current x ps) (e ∙ sym (rolls-Sym token)) ∙ ap (λ f. f ps) (fold-roll-Sexp (List Package → Valued) (value_step current) (Sexp-F.Sym token))

pub valued-list : (current : ℕ) (form : Sexp) (items : List Sexp) (ps : List Package) → form ≡ sexp.List items → valued current form ps ≡ list_valued (in_turn (map (valued current) items) ps)
valued-list current form items ps e = ap (λ x. valued current x ps) (e ∙ sym (rolls-List items)) ∙ ap (λ f. f ps) (fold-roll-Sexp (List Package → Valued) (value_step current) (Sexp-F.List items))
