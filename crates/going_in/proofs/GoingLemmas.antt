-- Steps of going into the parts that are left.
use Rattle.std.proofs.Common.{ℕ, zero, suc, true, false, ◌≡◌, ◌+◌, ◌-◌, ◌<◌, ◌≤◌, length, drop, List, [], ◌∷◌, ◌++◌, Option, Some, None, ap, sym, ◌∙◌, refl, arith}
use Rattle.lisp_data.specs.declared.value.Value.{Value}
use Rattle.syntax_trees.specs.declared.ast.Ast.{Ast}
use Rattle.syntax_trees.specs.Places.{forms_of}
use Rattle.syntax_trees.specs.declared.row.Bare.TheVariants as bare
use Rattle.syntax_trees.specs.declared.row.Row.{Row}
use Rattle.syntax_trees.specs.declared.row.Row.TheVariants as row
use Rattle.term_model.specs.declared.found.Found.TheVariants.{Here, Inside}
use Rattle.lisp_data.specs.Parts.{nil}
use Rattle.term_model.specs.GoingIn.{body, cond, first_part, found, look, needs, part, ready, tested, value_in}
use Rattle.term_model.specs.Progress.{progress}
use Rattle.going_in.specs.Clauses.{has_clauses}

-- a part that is a value
pub found_value : (k : ℕ) (r : Row) (parts : ℕ) (vs ws : List Value) (es : List Ast) (x : Ast) (o : Option Value) (v : Value) → 0 < k → length es ≤ parts →
    es ≡ x ∷ drop 1 es → ws ≡ vs ++ v ∷ [] → o ≡ value_in x → o ≡ Some v →
    found (k - 1) r (parts - length (drop 1 es)) ws (drop 1 es) ≡ found k r (parts - length es) vs es
found_value k r parts vs ws [] x o v p l h w i s = absurd (cc)
found_value zero r parts vs ws (y ∷ ys) x o v p l h w i s = elim p [ ]
found_value (suc k) r parts vs ws (y ∷ ys) x o v p l h w i s =
    let less : suc k - 1 ≡ k = omega arith in
    let place : parts - length ys ≡ parts - length (y ∷ ys) + 1 = omega arith in
    let same : y ≡ x = cc in
    let value : value_in y ≡ Some v = ap value_in same ∙ sym i ∙ s in
    ap (λ j. found j r (parts - length ys) ws ys) less
    ∙ ap (λ us. found k r (parts - length ys) us ys) w
    ∙ ap (λ d. found k r d (vs ++ v ∷ []) ys) place
    ∙ sym (ap (λ o. part o (λ w. found k r (parts - length (y ∷ ys) + 1) (vs ++ w ∷ []) ys) (Inside (progress r (parts - length (y ∷ ys) + 1) vs ys) y)) value)

-- a part that is none
pub found_form : (k : ℕ) (r : Row) (parts : ℕ) (vs : List Value) (es : List Ast) (x : Ast) (o : Option Value) → 0 < k → length es ≤ parts →
    es ≡ x ∷ drop 1 es → o ≡ value_in x → o ≡ None →
    Inside (progress r (parts - length (drop 1 es)) vs (drop 1 es)) x ≡ found k r (parts - length es) vs es
found_form k r parts vs [] x o p l h i s = absurd (cc)
found_form zero r parts vs (y ∷ ys) x o p l h i s = elim p [ ]
found_form (suc k) r parts vs (y ∷ ys) x o p l h i s =
    let place : parts - length ys ≡ parts - length (y ∷ ys) + 1 = omega arith in
    let same : y ≡ x = cc in
    let none : value_in y ≡ None = ap value_in same ∙ sym i ∙ s in
    ap (λ d. Inside (progress r d vs ys) x) place
    ∙ ap (λ z. Inside (progress r (parts - length (y ∷ ys) + 1) vs ys) z) (sym same)
    ∙ sym (ap (λ o. part o (λ w. found k r (parts - length (y ∷ ys) + 1) (vs ++ w ∷ []) ys) (Inside (progress r (parts - length (y ∷ ys) + 1) vs ys) y)) none)

-- no part is left
pub found_end : (k : ℕ) (r : Row) (d : ℕ) (vs : List Value) (es : List Ast) → es ≡ [] → ready r d vs es ≡ found k r d vs es
found_end zero r d vs es e = refl
found_end (suc k) r d vs [] e = refl
found_end (suc k) r d vs (y ∷ ys) e = absurd (cc)

-- no part is wanted
pub found_none : (k : ℕ) (r : Row) (d : ℕ) (vs : List Value) (es : List Ast) → k ≡ 0 → ready r d vs es ≡ found k r d vs es
found_none k r d vs es z = sym (ap (λ j. found j r d vs es) z)

-- the clauses of `cond`
pub clauses_of_cond : (r : Row) → has_clauses r ≡ true → r ≡ row.Bare bare.Cond
clauses_of_cond (row.Bare bare.Cond) e = refl
clauses_of_cond r e = absurd (cc)

pub first_clause : (r : Row) (es : List Ast) → has_clauses r ≡ true → cond 0 es ≡ first_part r es
first_clause r es e = sym (ap (λ q. first_part q es) (clauses_of_cond r e))

-- and the parts of every other row
pub first_of_others : (r : Row) (es : List Ast) → has_clauses r ≡ false → found (needs r (length es)) r 0 [] es ≡ first_part r es
first_of_others (row.Bare bare.Cond) es e = absurd (cc)
first_of_others r es e = refl

-- a body of several forms, and of one
pub body_more : (es : List Ast) → 1 < length es → found 1 (row.Bare bare.Progn) 0 [] es ≡ body es
body_more [] l = absurd (omega arith)
body_more (e ∷ []) l = absurd (omega arith)
body_more (e ∷ f ∷ es) l = refl

pub body_one : (es : List Ast) (e : Ast) → length es ≤ 1 → es ≡ e ∷ drop 1 es → look e ≡ body es
body_one [] e l h = absurd (cc)
body_one (x ∷ []) e l h = let same : x ≡ e = cc in ap look (sym same)
body_one (x ∷ y ∷ es) e l h = absurd (omega arith)

-- the test of a clause: none, a value, or a form
pub tested_none : (d : ℕ) (cs es : List Ast) → es ≡ [] → ready (row.Bare bare.Cond) d (nil ∷ []) cs ≡ tested d cs es
tested_none d cs es e = ap (tested d cs) (sym e)

pub tested_value : (d : ℕ) (cs es : List Ast) (x : Ast) (o : Option Value) (v : Value) → es ≡ x ∷ drop 1 es → o ≡ value_in x → o ≡ Some v →
    ready (row.Bare bare.Cond) d (v ∷ []) cs ≡ tested d cs es
tested_value d cs es x o v h i s =
    sym (ap (tested d cs) h ∙ ap (λ o. part o (λ v. ready (row.Bare bare.Cond) d (v ∷ []) cs) (Inside (progress (row.Bare bare.Cond) d [] cs) x)) (sym i ∙ s))

pub tested_form : (d : ℕ) (cs es : List Ast) (x : Ast) (o : Option Value) → es ≡ x ∷ drop 1 es → o ≡ value_in x → o ≡ None →
    Inside (progress (row.Bare bare.Cond) d [] cs) x ≡ tested d cs es
tested_form d cs es x o h i s =
    sym (ap (tested d cs) h ∙ ap (λ o. part o (λ v. ready (row.Bare bare.Cond) d (v ∷ []) cs) (Inside (progress (row.Bare bare.Cond) d [] cs) x)) (sym i ∙ s))

pub cond_clause : (d : ℕ) (cs : List Ast) (x : Ast) → cs ≡ x ∷ drop 1 cs → tested d cs (forms_of x) ≡ cond d cs
cond_clause d [] x h = absurd (cc)
cond_clause d (c ∷ cs) x h = let same : c ≡ x = cc in ap (λ y. tested d (c ∷ cs) (forms_of y)) (sym same)
