-- Clauses, bindings, assignments and handlers are read exactly where they fit.
use Rattle.std.proofs.Common.{◌≡◌, Bool, true, ◌&&◌, List, [], ◌∷◌, ◌++◌, refl, sym, ap, subst, ◌∙◌, is_some}
use Rattle.std.specs.Prelude.{Option, Some, None, option_map, option_and_then}
use Rattle.std.specs.List.{list_all}
use Rattle.std.proofs.lemmas.Bool.{and_parts}
use Rattle.lisp_data.specs.declared.symbol.Symbol.{Symbol}
use Rattle.lisp_data.specs.declared.type_id.TypeId.{TypeId}
use Rattle.lisp_data.specs.declared.value.Value.{Value}
use Rattle.lisp_data.specs.declared.value.Value as value
use Rattle.lisp_data.specs.Parts.{nil, value_items}
use Rattle.syntax_trees.specs.declared.row.Init.{Init}
use Rattle.syntax_trees.specs.declared.row.Init.TheVariants as init
use Rattle.syntax_trees.specs.declared.row.Binding.{Binding}
use Rattle.syntax_trees.specs.declared.row.Row.{Row}
use Rattle.syntax_trees.specs.declared.row.Row.TheVariants as row
use Rattle.lisp_syntax.specs.declared.sort.Sort.{Sort}
use Rattle.lisp_syntax.specs.declared.sort.Sort.TheVariants as sort
use Rattle.lisp_syntax.specs.Parts.{Each, readable_of, restart_name_of, condition_type_of, type_form, at_most_one_of, at_most_one_form, variables_of, variables_form, report_of, report_forms}
use Rattle.lisp_syntax.specs.Rows.{Fitting, fitting, form_of, row_form, binding_form, handler_form, assignment_forms, spread, EachWith, IsBinding, IsAssigned, IsHandled, IsClause, FitsClause}
use Rattle.lisp_syntax.specs.Table.{cond_clause_in, cond_clause_of, handler_clause_with, handler_clause_in, handler_clause_of, restart_clause_with, restart_clause_in, restart_clause_of, joins, each_with, bound_by, binding_in, binding_at, binding_of, assigned, assignments_of, handled, handler_in, handler_of}
use Rattle.lisp_syntax.proofs.Options.{Exact, mapped, chained, joined, some-same, both-whole}
use Rattle.lisp_syntax.proofs.Words.{list-back, list-whole, symbol-no-list, readable-exact, restart-name-exact, type-exact}
use Rattle.lisp_syntax.proofs.Lists.{at-most-one-exact, variables-exact, report-back, report-fits, report-whole}

-- ---- clauses

abbrev Fits : Sort → Fitting → Type 0
Fits s f = IsClause s f.row f.lead f.body

-- the clause has the form and fits
abbrev Made : Sort → Value → Fitting → Type 0
Made s v f = (form_of f ≡ v) × Fits s f

cond-made : (items : List Value) (f : Fitting) → cond_clause_in items ≡ Some f → Made sort.CondClause (value.List items) f
cond-made [] f e = absurd (cc)
cond-made (test ∷ body) f e = subst (Made sort.CondClause (value.List (test ∷ body))) (some-same (fitting row.CondClause [] (test ∷ body)) f e) (refl, tt)

cond-whole : (r : Row) (lead body : List Value) → IsClause sort.CondClause r lead body → cond_clause_of (row_form r lead body) ≡ Some (fitting r lead body)
unfolding cond_clause_of
cond-whole row.CondClause [] (test ∷ body) f = ap (option_and_then cond_clause_in) (list-whole (test ∷ body))
cond-whole _ _ _ f = absurd f

pub cond-exact : Exact cond_clause_of form_of (Fits sort.CondClause)
unfolding cond_clause_of
cond-exact = record {
  back = λ v f e. (let c = chained cond_clause_in (value_items v) f e in (cond-made c.x f c.is).0 ∙ list-back v c.x c.was);
  fits = λ v f e. (let c = chained cond_clause_in (value_items v) f e in (cond-made c.x f c.is).1);
  whole = λ f p. cond-whole f.row f.lead f.body p;
}

handler-made : (items : List Value) (f : Fitting) → handler_clause_in items ≡ Some f → Made sort.HandlerClause (value.List items) f
handler-made [] f e = absurd (cc)
handler-made (t ∷ []) f e = absurd (cc)
handler-made (t ∷ vs ∷ body) f e =
    let j = joined (handler_clause_with body) (condition_type_of t) (at_most_one_of vs) f e in
    subst (Made sort.HandlerClause (value.List (t ∷ vs ∷ body))) j.is (
      ap (λ x. value.List (x ∷ at_most_one_form j.y ∷ body)) (type-exact.back t j.x j.first) ∙ ap (λ x. value.List (t ∷ x ∷ body)) (at-most-one-exact.back vs j.y j.second),
      (type-exact.fits t j.x j.first, at-most-one-exact.fits vs j.y j.second),
    )

handler-whole : (r : Row) (lead body : List Value) → IsClause sort.HandlerClause r lead body → handler_clause_of (row_form r lead body) ≡ Some (fitting r lead body)
unfolding handler_clause_of
handler-whole (row.HandlerClause t v) [] body f =
    ap (option_and_then handler_clause_in) (list-whole (type_form t ∷ at_most_one_form v ∷ body))
    ∙ both-whole (handler_clause_with body) (condition_type_of (type_form t)) (at_most_one_of (at_most_one_form v)) t v (type-exact.whole t f.0) (at-most-one-exact.whole v f.1)
handler-whole _ _ _ f = absurd f

pub handler-clause-exact : Exact handler_clause_of form_of (Fits sort.HandlerClause)
unfolding handler_clause_of
handler-clause-exact = record {
  back = λ v f e. (let c = chained handler_clause_in (value_items v) f e in (handler-made c.x f c.is).0 ∙ list-back v c.x c.was);
  fits = λ v f e. (let c = chained handler_clause_in (value_items v) f e in (handler-made c.x f c.is).1);
  whole = λ f p. handler-whole f.row f.lead f.body p;
}

restart-made : (items : List Value) (f : Fitting) → restart_clause_in items ≡ Some f → Made sort.RestartClause (value.List items) f
restart-made [] f e = absurd (cc)
restart-made (n ∷ []) f e = absurd (cc)
restart-made (n ∷ vs ∷ forms) f e =
    let j = joined (restart_clause_with forms) (restart_name_of n) (variables_of vs) f e in
    subst (Made sort.RestartClause (value.List (n ∷ vs ∷ forms))) j.is (
      ap (λ x. value.List (x ∷ variables_form j.y ∷ report_forms (report_of forms).0 ++ (report_of forms).1)) (restart-name-exact.back n j.x j.first)
          ∙ (ap (λ x. value.List (n ∷ x ∷ report_forms (report_of forms).0 ++ (report_of forms).1)) (variables-exact.back vs j.y j.second)
          ∙ ap (λ xs. value.List (n ∷ vs ∷ xs)) (report-back forms)),
      (restart-name-exact.fits n j.x j.first, variables-exact.fits vs j.y j.second, report-fits forms),
    )

restart-whole : (r : Row) (lead body : List Value) → IsClause sort.RestartClause r lead body → restart_clause_of (row_form r lead body) ≡ Some (fitting r lead body)
unfolding restart_clause_of
restart-whole (row.RestartClause n vs report) [] body f =
    let forms = report_forms report ++ body in
    ap (option_and_then restart_clause_in) (list-whole (value.Sym n ∷ variables_form vs ∷ forms))
    ∙ (both-whole (restart_clause_with forms) (restart_name_of (value.Sym n)) (variables_of (variables_form vs)) n vs (restart-name-exact.whole n f.0) (variables-exact.whole vs f.1)
    ∙ ap (λ r. Some (fitting (row.RestartClause n vs r.0) [] r.1)) (report-whole report body f.2))
restart-whole _ _ _ f = absurd f

pub restart-clause-exact : Exact restart_clause_of form_of (Fits sort.RestartClause)
unfolding restart_clause_of
restart-clause-exact = record {
  back = λ v f e. (let c = chained restart_clause_in (value_items v) f e in (restart-made c.x f c.is).0 ∙ list-back v c.x c.was);
  fits = λ v f e. (let c = chained restart_clause_in (value_items v) f e in (restart-made c.x f c.is).1);
  whole = λ f p. restart-whole f.row f.lead f.body p;
}

-- ---- all clauses

record Got {A : Type 0} (o : Option A) : Type 0 where
  item : A
  is : o ≡ Some item

got : {A : Type 0} (o : Option A) → is_some o ≡ true → Got o
got None e = absurd (cc)
got (Some x) e = record { item = x; is = refl }

clause-fits : (s : Sort) (read : Value → Option Fitting) → Exact read form_of (Fits s) → (v : Value) → is_some (read v) ≡ true → FitsClause s v
clause-fits s read x v e =
    let g = got (read v) e in
    record { clause = g.item; form = x.back v g.item g.is; fits = x.fits v g.item g.is }

clause-whole : (s : Sort) (read : Value → Option Fitting) → Exact read form_of (Fits s) → (v : Value) → FitsClause s v → is_some (read v) ≡ true
clause-whole s read x v c = ap is_some (ap read (sym c.form) ∙ x.whole c.clause c.fits)

pub clauses-fit : (s : Sort) (read : Value → Option Fitting) → Exact read form_of (Fits s) → (vs : List Value) → list_all (λ c. is_some (read c)) vs ≡ true → Each (FitsClause s) vs
clauses-fit s read x [] e = tt
clauses-fit s read x (v ∷ vs) e =
    let p = and_parts (is_some (read v)) (list_all (λ c. is_some (read c)) vs) e in
    (clause-fits s read x v p.0, clauses-fit s read x vs p.1)

pub both-true : (a b : Bool) → a ≡ true → b ≡ true → (a && b) ≡ true
both-true a b p q = ap (λ c. c && b) p ∙ q

pub clauses-whole : (s : Sort) (read : Value → Option Fitting) → Exact read form_of (Fits s) → (vs : List Value) → Each (FitsClause s) vs → list_all (λ c. is_some (read c)) vs ≡ true
clauses-whole s read x [] f = refl
clauses-whole s read x (v ∷ vs) f = both-true (is_some (read v)) (list_all (λ c. is_some (read c)) vs) (clause-whole s read x v f.0) (clauses-whole s read x vs f.1)

-- ---- items that bring a subform each

abbrev pub With : {A B : Type 0} → (A → Value → B) → A × Value → B
With f p = f p.0 p.1

with-back : {A : Type 0} (read : Value → Option (A × Value)) (form : A → Value → Value) (P : A → Value → Type 0) → Exact read (With form) (λ p. P p.0 p.1) → (xs : List Value) (ys : List A × List Value) → each_with read xs ≡ Some ys → (spread form ys.0 ys.1 ≡ xs) × EachWith P ys.0 ys.1
with-back read form P x [] ys e = subst (λ zs. (spread form zs.0 zs.1 ≡ []) × EachWith P zs.0 zs.1) (some-same ([], []) ys e) (refl, tt)
with-back read form P x (v ∷ vs) ys e =
    let j = joined joins (read v) (each_with read vs) ys e in
    let more = with-back read form P x vs j.y j.second in
    subst (λ zs. (spread form zs.0 zs.1 ≡ v ∷ vs) × EachWith P zs.0 zs.1) j.is (
      ap (λ w. w ∷ spread form j.y.0 j.y.1) (x.back v j.x j.first) ∙ ap (λ ws. v ∷ ws) more.0,
      (x.fits v j.x j.first, more.1),
    )

with-whole : {A : Type 0} (read : Value → Option (A × Value)) (form : A → Value → Value) (P : A → Value → Type 0) → Exact read (With form) (λ p. P p.0 p.1) → (bs : List A) (es : List Value) → EachWith P bs es → each_with read (spread form bs es) ≡ Some (bs, es)
with-whole read form P x [] [] f = refl
with-whole read form P x [] (e ∷ es) f = absurd f
with-whole read form P x (a ∷ bs) [] f = absurd f
with-whole read form P x (a ∷ bs) (e ∷ es) f =
    both-whole joins (read (form a e)) (each_with read (spread form bs es)) (a, e) (bs, es) (x.whole (a, e) f.0) (with-whole read form P x bs es f.1)

pub with-exact : {A : Type 0} (read : Value → Option (A × Value)) (form : A → Value → Value) (P : A → Value → Type 0) → Exact read (With form) (λ p. P p.0 p.1) → Exact (each_with read) (λ ys. spread form ys.0 ys.1) (λ ys. EachWith P ys.0 ys.1)
with-exact read form P x = record {
  back = λ xs ys e. (with-back read form P x xs ys e).0;
  fits = λ xs ys e. (with-back read form P x xs ys e).1;
  whole = λ ys f. with-whole read form P x ys.0 ys.1 f;
}

-- ---- bindings

abbrev Bound : Value → Binding × Value → Type 0
Bound v p = (binding_form p.0 p.1 ≡ v) × IsBinding p.0 p.1

binding-in-made : (items : List Value) (p : Binding × Value) → binding_in items ≡ Some p → Bound (value.List items) p
binding-in-made [] p e = absurd (cc)
binding-in-made (v ∷ []) p e =
    let m = mapped (bound_by init.Empty nil) (readable_of v) p e in
    subst (Bound (value.List (v ∷ []))) m.is (ap (λ x. value.List (x ∷ [])) (readable-exact.back v m.x m.was), (readable-exact.fits v m.x m.was, refl))
binding-in-made (v ∷ f ∷ []) p e =
    let m = mapped (bound_by init.Form f) (readable_of v) p e in
    subst (Bound (value.List (v ∷ f ∷ []))) m.is (ap (λ x. value.List (x ∷ f ∷ [])) (readable-exact.back v m.x m.was), (readable-exact.fits v m.x m.was, tt))
binding-in-made (v ∷ f ∷ g ∷ more) p e = absurd (cc)

binding-at-made : (v : Value) (o : Option (List Value)) → value_items v ≡ o → (p : Binding × Value) → binding_at v o ≡ Some p → Bound v p
binding-at-made v None is p e =
    let m = mapped (bound_by init.Bare nil) (readable_of v) p e in
    subst (Bound v) m.is (readable-exact.back v m.x m.was, (readable-exact.fits v m.x m.was, refl))
binding-at-made v (Some items) is p e =
    let b = binding-in-made items p e in
    (b.0 ∙ list-back v items is, b.1)

binding-whole : (s : Symbol) (i : Init) (e : Value) → IsBinding (record { variable = s; init = i }) e → binding_of (binding_form (record { variable = s; init = i }) e) ≡ Some (bound_by i e s)
unfolding binding_of
binding-whole s init.Bare e f =
    ap (binding_at (value.Sym s)) (symbol-no-list s)
    ∙ (ap (option_map (bound_by init.Bare nil)) (readable-exact.whole s f.0)
    ∙ ap (λ x. Some (bound_by init.Bare x s)) (sym f.1))
binding-whole s init.Empty e f =
    ap (binding_at (value.List (value.Sym s ∷ []))) (list-whole (value.Sym s ∷ []))
    ∙ (ap (option_map (bound_by init.Empty nil)) (readable-exact.whole s f.0)
    ∙ ap (λ x. Some (bound_by init.Empty x s)) (sym f.1))
binding-whole s init.Form e f =
    ap (binding_at (value.List (value.Sym s ∷ e ∷ []))) (list-whole (value.Sym s ∷ e ∷ []))
    ∙ ap (option_map (bound_by init.Form e)) (readable-exact.whole s f.0)

pub binding-exact : Exact binding_of (With binding_form) (λ p. IsBinding p.0 p.1)
unfolding binding_of
binding-exact = record {
  back = λ v p e. (binding-at-made v (value_items v) refl p e).0;
  fits = λ v p e. (binding-at-made v (value_items v) refl p e).1;
  whole = λ p f. binding-whole p.0.variable p.0.init p.1 f;
}

-- ---- handlers

abbrev Handled : Value → TypeId × Value → Type 0
Handled v p = (handler_form p.0 p.1 ≡ v) × IsHandled p.0 p.1

handler-in-made : (items : List Value) (p : TypeId × Value) → handler_in items ≡ Some p → Handled (value.List items) p
handler-in-made [] p e = absurd (cc)
handler-in-made (t ∷ []) p e = absurd (cc)
handler-in-made (t ∷ f ∷ []) p e =
    let m = mapped (handled f) (condition_type_of t) p e in
    subst (Handled (value.List (t ∷ f ∷ []))) m.is (ap (λ x. value.List (x ∷ f ∷ [])) (type-exact.back t m.x m.was), type-exact.fits t m.x m.was)
handler-in-made (t ∷ f ∷ g ∷ more) p e = absurd (cc)

pub handler-exact : Exact handler_of (With handler_form) (λ p. IsHandled p.0 p.1)
unfolding handler_of
handler-exact = record {
  back = λ v p e. (let c = chained handler_in (value_items v) p e in (handler-in-made c.x p c.is).0 ∙ list-back v c.x c.was);
  fits = λ v p e. (let c = chained handler_in (value_items v) p e in (handler-in-made c.x p c.is).1);
  whole = λ p f. ap (option_and_then handler_in) (list-whole (type_form p.0 ∷ p.1 ∷ [])) ∙ ap (option_map (handled p.1)) (type-exact.whole p.0 f);
}

-- ---- assignments

assignments-made : (xs : List Value) (ys : List Symbol × List Value) → assignments_of xs ≡ Some ys → (assignment_forms ys.0 ys.1 ≡ xs) × EachWith IsAssigned ys.0 ys.1
assignments-made [] ys e = subst (λ zs. (assignment_forms zs.0 zs.1 ≡ []) × EachWith IsAssigned zs.0 zs.1) (some-same ([], []) ys e) (refl, tt)
assignments-made (v ∷ []) ys e = absurd (cc)
assignments-made (v ∷ f ∷ more) ys e =
    let j = joined joins (option_map (assigned f) (readable_of v)) (assignments_of more) ys e in
    let m = mapped (assigned f) (readable_of v) j.x j.first in
    let rest = assignments-made more j.y j.second in
    let here : (assignment_forms (m.x ∷ j.y.0) (f ∷ j.y.1) ≡ v ∷ f ∷ more) × EachWith IsAssigned (m.x ∷ j.y.0) (f ∷ j.y.1) = (
      ap (λ w. w ∷ f ∷ assignment_forms j.y.0 j.y.1) (readable-exact.back v m.x m.was) ∙ ap (λ ws. v ∷ f ∷ ws) rest.0,
      (readable-exact.fits v m.x m.was, rest.1),
    ) in
    subst (λ zs. (assignment_forms zs.0 zs.1 ≡ v ∷ f ∷ more) × EachWith IsAssigned zs.0 zs.1) (ap (λ x. joins x j.y) m.is ∙ j.is) here

assignments-whole : (vs : List Symbol) (es : List Value) → EachWith IsAssigned vs es → assignments_of (assignment_forms vs es) ≡ Some (vs, es)
assignments-whole [] [] f = refl
assignments-whole [] (e ∷ es) f = absurd f
assignments-whole (v ∷ vs) [] f = absurd f
assignments-whole (v ∷ vs) (e ∷ es) f =
    both-whole joins (option_map (assigned e) (readable_of (value.Sym v))) (assignments_of (assignment_forms vs es)) (v, e) (vs, es) (ap (option_map (assigned e)) (readable-exact.whole v f.0)) (assignments-whole vs es f.1)

pub assignments-exact : Exact assignments_of (λ ys. assignment_forms ys.0 ys.1) (λ ys. EachWith IsAssigned ys.0 ys.1)
assignments-exact = record {
  back = λ xs ys e. (assignments-made xs ys e).0;
  fits = λ xs ys e. (assignments-made xs ys e).1;
  whole = λ ys f. assignments-whole ys.0 ys.1 f;
}
