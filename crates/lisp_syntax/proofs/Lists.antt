-- Lists of parts, reports, parameters and designators are read exactly where they fit.
use Rattle.std.proofs.Common.{◌≡◌, ℕ, Bool, true, false, List, [], ◌∷◌, ◌++◌, map, refl, sym, ap, subst, ◌∙◌, append_assoc}
use Rattle.std.specs.Prelude.{Option, Some, None, option_map, option_and_then, if◌then◌else◌, codes}
use Rattle.std.specs.Str.{bytes_eq}
use Rattle.std.proofs.lemmas.Bool.{and_parts}
use Rattle.lisp_data.specs.declared.symbol.Symbol.{Symbol}
use Rattle.lisp_data.specs.declared.value.Value.{Value}
use Rattle.lisp_data.specs.declared.value.Value as value
use Rattle.lisp_data.specs.declared.value.Value.TheOpen.{Value-F}
use Rattle.lisp_data.specs.declared.value.Value.TheViews.{out-Value}
use Rattle.lisp_data.specs.declared.value.Condition.{Condition}
use Rattle.lisp_data.specs.Parts.{value_items, value_text}
use Rattle.lisp_data.specs.Symbols.{cl, keyword, is_of_common_lisp, value_of_symbol}
use Rattle.syntax_trees.specs.declared.row.Parameters.{Parameters}
use Rattle.syntax_trees.specs.declared.row.Designator.{Designator}
use Rattle.syntax_trees.specs.declared.row.Designator.TheVariants as designator
use Rattle.lisp_syntax.specs.Parts.{Each, Given, each_of, optional, symbol_in, symbol_of, variable_of, is_key, at_most_one_in, at_most_one_of, at_most_one_form, variables_of, variables_form, reported, report_of, report_forms, IsReported, is_parameter, parameter_in, parameter_of, marks_in, marks, led_by, leading, listed_parameters, rest_of, optionals_of, parameters_of, marked, rest_marked, parameter_forms, IsParameter, AreParameters, designator_at, designator_of, designator_form, option_in, option_of, only_option, options_of, options_forms}
use Rattle.lisp_syntax.specs.Rows.{IsVariable}
use Rattle.lisp_syntax.proofs.Options.{Exact, mapped, chained, joined, chosen, some-same, each-exact, choose, pass, both-whole}
use Rattle.lisp_syntax.proofs.Levels.{from-symbol, out-symbol}
use Rattle.lisp_syntax.proofs.Words.{same-bytes, bytes-same, symbol-from, list-back, list-whole, string-back, string-whole, variable-exact, symbol-exact, symbol-no-text, key-back, key-is}

-- what is read of the items of a list is read of the list
pub listed-exact : {A : Type 0} (read : List Value → Option A) (form : A → List Value) (Fits : A → Type 0) → Exact read form Fits → Exact (λ v. option_and_then read (value_items v)) (λ a. value.List (form a)) Fits
listed-exact read form Fits x = record {
  back = λ v a e. (let c = chained read (value_items v) a e in ap value.List (x.back c.x a c.is) ∙ list-back v c.x c.was);
  fits = λ v a e. (let c = chained read (value_items v) a e in x.fits c.x a c.is);
  whole = λ a f. ap (option_and_then read) (list-whole (form a)) ∙ x.whole a f;
}

-- ---- variables

most-back : (items : List Value) (o : Option Symbol) → at_most_one_in items ≡ Some o → map value.Sym (optional o) ≡ items
most-back [] o e = ap (λ p. map value.Sym (optional p)) (sym (some-same None o e))
most-back (v ∷ []) o e =
    let m = mapped Some (variable_of v) o e in
    ap (λ p. map value.Sym (optional p)) (sym m.is) ∙ ap (λ x. x ∷ []) (variable-exact.back v m.x m.was)
most-back (v ∷ w ∷ more) o e = absurd (cc)

most-fits : (items : List Value) (o : Option Symbol) → at_most_one_in items ≡ Some o → Given IsVariable o
most-fits [] o e = subst (Given IsVariable) (some-same None o e) tt
most-fits (v ∷ []) o e =
    let m = mapped Some (variable_of v) o e in
    subst (Given IsVariable) m.is (variable-exact.fits v m.x m.was)
most-fits (v ∷ w ∷ more) o e = absurd (cc)

most-whole : (o : Option Symbol) → Given IsVariable o → at_most_one_in (map value.Sym (optional o)) ≡ Some o
most-whole None f = refl
most-whole (Some s) f = ap (option_map Some) (variable-exact.whole s f)

pub at-most-one-exact : Exact at_most_one_of at_most_one_form (Given IsVariable)
unfolding at_most_one_of
at-most-one-exact = listed-exact at_most_one_in (λ o. map value.Sym (optional o)) (Given IsVariable) (record { back = most-back; fits = most-fits; whole = most-whole })

pub variables-exact : Exact variables_of variables_form (Each IsVariable)
unfolding variables_of
variables-exact = listed-exact (each_of variable_of) (map value.Sym) (Each IsVariable) (each-exact variable_of value.Sym IsVariable variable-exact)

-- ---- reports

reported-back : (key text : Value) (body : List Value) (o : Option (List ℕ)) → (if is_key (codes "REPORT") key then value_text text else None) ≡ o → report_forms (reported (key ∷ text ∷ body) body o).0 ++ (reported (key ∷ text ∷ body) body o).1 ≡ key ∷ text ∷ body
reported-back key text body None is = refl
reported-back key text body (Some t) is =
    let c = chosen (is_key (codes "REPORT") key) (value_text text) t is in
    ap (λ x. x ∷ value.Str t ∷ body) (key-back (codes "REPORT") key c.test) ∙ ap (λ x. key ∷ x ∷ body) (string-back text t c.is)

pub report-back : (forms : List Value) → report_forms (report_of forms).0 ++ (report_of forms).1 ≡ forms
unfolding report_of
report-back [] = refl
report-back (key ∷ []) = refl
report-back (key ∷ text ∷ body) = reported-back key text body (if is_key (codes "REPORT") key then value_text text else None) refl

reported-fits : (key text : Value) (body : List Value) (o : Option (List ℕ)) → (report_of (key ∷ text ∷ body) ≡ reported (key ∷ text ∷ body) body o) → IsReported (reported (key ∷ text ∷ body) body o).0 (reported (key ∷ text ∷ body) body o).1
reported-fits key text body (Some t) is = tt
reported-fits key text body None is = ap (λ r. r.0) is

pub report-fits : (forms : List Value) → IsReported (report_of forms).0 (report_of forms).1
unfolding report_of
report-fits [] = refl
report-fits (key ∷ []) = refl
report-fits (key ∷ text ∷ body) = reported-fits key text body (if is_key (codes "REPORT") key then value_text text else None) refl

reported-none : (forms body : List Value) (o : Option (List ℕ)) → (reported forms body o).0 ≡ None → reported forms body o ≡ (None, forms)
reported-none forms body None e = refl
reported-none forms body (Some t) e = absurd (cc)

none-whole : (body : List Value) → (report_of body).0 ≡ None → report_of body ≡ (None, body)
unfolding report_of
none-whole [] e = refl
none-whole (key ∷ []) e = refl
none-whole (key ∷ text ∷ body) e = reported-none (key ∷ text ∷ body) body (if is_key (codes "REPORT") key then value_text text else None) e

some-whole : (t : List ℕ) (body : List Value) → report_of (value.Sym (keyword (codes "REPORT")) ∷ value.Str t ∷ body) ≡ (Some t, body)
unfolding report_of
some-whole t body =
    let key = value.Sym (keyword (codes "REPORT")) in
    ap (reported (key ∷ value.Str t ∷ body) body) (choose (is_key (codes "REPORT") key) (value_text (value.Str t)) None (key-is (codes "REPORT") (codes "REPORT")) ∙ string-whole t)

pub report-whole : (o : Option (List ℕ)) (body : List Value) → IsReported o body → report_of (report_forms o ++ body) ≡ (o, body)
report-whole None body f = none-whole body f
report-whole (Some t) body f = some-whole t body

-- ---- parameters

parameter-at : (v : Value) (o : Option Symbol) → symbol_of v ≡ o → (s : Symbol) → parameter_in o ≡ Some s → value_of_symbol s ≡ v
parameter-at v None is s e = absurd (cc)
parameter-at v (Some t) is s e =
    let c = chosen (is_parameter t) (Some t) s e in
    ap value_of_symbol (sym (some-same t s c.is)) ∙ symbol-exact.back v t is

parameter-fits-at : (o : Option Symbol) (s : Symbol) → parameter_in o ≡ Some s → IsParameter s
parameter-fits-at None s e = absurd (cc)
parameter-fits-at (Some t) s e =
    let c = chosen (is_parameter t) (Some t) s e in
    ap is_parameter (sym (some-same t s c.is)) ∙ c.test

parameter-exact : Exact parameter_of value_of_symbol IsParameter
unfolding parameter_of
parameter-exact = record {
  back = λ v s e. parameter-at v (symbol_of v) refl s e;
  fits = λ v s e. parameter-fits-at (symbol_of v) s e;
  whole = λ s f. ap parameter_in (symbol-exact.whole s tt) ∙ choose (is_parameter s) (Some s) None f;
}

marks-at : (marker : List ℕ) (v : Value) (o : Value-F Value Condition) → out-Value v ≡ o → marks_in marker o ≡ true → value.Sym (cl marker) ≡ v
marks-at marker v (Value-F.Sym s) is e =
    let p = and_parts (is_of_common_lisp s) (bytes_eq s.name marker) e in
    sym (from-symbol v s is ∙ ap value.Sym (symbol-from s (codes "COMMON-LISP") marker (same-bytes s.home (codes "COMMON-LISP") p.0) (same-bytes s.name marker p.1)))
marks-at marker v _ is e = absurd (cc)

marks-back : (marker : List ℕ) (v : Value) → marks marker v ≡ true → value.Sym (cl marker) ≡ v
unfolding marks
marks-back marker v e = marks-at marker v (out-Value v) refl e

marks-is : (marker name : List ℕ) → marks marker (value.Sym (cl name)) ≡ bytes_eq name marker
unfolding marks
marks-is marker name = ap (marks_in marker) (out-symbol (cl name))

no-parameter : (name : List ℕ) → symbol_in (Value-F.Sym (cl name)) ≡ Some (cl name) → is_parameter (cl name) ≡ false → parameter_of (value.Sym (cl name)) ≡ None
unfolding parameter_of symbol_of
no-parameter name is e = ap (λ o. parameter_in (symbol_in o)) (out-symbol (cl name)) ∙ (ap parameter_in is ∙ pass (is_parameter (cl name)) (Some (cl name)) None e)

leading-at : (x : Value) (o : Option Symbol) → parameter_of x ≡ o → (xs : List Value) → map value_of_symbol (leading xs).0 ++ (leading xs).1 ≡ xs → map value_of_symbol (led_by x o xs (leading xs)).0 ++ (led_by x o xs (leading xs)).1 ≡ x ∷ xs
leading-at x None is xs e = refl
leading-at x (Some s) is xs e = ap (λ v. v ∷ (map value_of_symbol (leading xs).0 ++ (leading xs).1)) (parameter-exact.back x s is) ∙ ap (λ vs. x ∷ vs) e

leading-back : (xs : List Value) → map value_of_symbol (leading xs).0 ++ (leading xs).1 ≡ xs
leading-back [] = refl
leading-back (x ∷ xs) = leading-at x (parameter_of x) refl xs (leading-back xs)

leading-fits-at : (x : Value) (o : Option Symbol) → parameter_of x ≡ o → (xs : List Value) → Each IsParameter (leading xs).0 → Each IsParameter (led_by x o xs (leading xs)).0
leading-fits-at x None is xs f = tt
leading-fits-at x (Some s) is xs f = (parameter-exact.fits x s is, f)

leading-fits : (xs : List Value) → Each IsParameter (leading xs).0
leading-fits [] = tt
leading-fits (x ∷ xs) = leading-fits-at x (parameter_of x) refl xs (leading-fits xs)

leading-whole : (ps : List Symbol) (rest : List Value) → Each IsParameter ps → leading rest ≡ ([], rest) → leading (map value_of_symbol ps ++ rest) ≡ (ps, rest)
leading-whole [] rest f stops = stops
leading-whole (p ∷ ps) rest f stops =
    let v = value_of_symbol p in
    let xs = map value_of_symbol ps ++ rest in
    ap (λ o. led_by v o xs (leading xs)) (parameter-exact.whole p f.0)
    ∙ ap (λ (l : List Symbol × List Value). let r : List Symbol × List Value = (p ∷ l.0, l.1) in r) (leading-whole ps rest f.1 stops)

marker-stops : (name : List ℕ) (xs : List Value) → parameter_of (value.Sym (cl name)) ≡ None → leading (value.Sym (cl name) ∷ xs) ≡ ([], value.Sym (cl name) ∷ xs)
marker-stops name xs e = ap (λ o. led_by (value.Sym (cl name)) o xs (leading xs)) e

rest-stops : (r : Option Symbol) → leading (rest_marked r) ≡ ([], rest_marked r)
rest-stops None = refl
rest-stops (Some s) = marker-stops (codes "&REST") (value_of_symbol s ∷ []) (no-parameter (codes "&REST") refl refl)

optionals-stop : (o : Option (List Symbol)) (r : Option Symbol) → leading (marked (codes "&OPTIONAL") o ++ rest_marked r) ≡ ([], marked (codes "&OPTIONAL") o ++ rest_marked r)
optionals-stop None r = rest-stops r
optionals-stop (Some ps) r = marker-stops (codes "&OPTIONAL") (map value_of_symbol ps ++ rest_marked r) (no-parameter (codes "&OPTIONAL") refl refl)

rest-back : (items : List Value) (r : Option Symbol) → rest_of items ≡ Some r → rest_marked r ≡ items
rest-back [] r e = ap rest_marked (sym (some-same None r e))
rest-back (m ∷ []) r e = absurd (cc)
rest-back (m ∷ p ∷ []) r e =
    let c = chosen (marks (codes "&REST") m) (option_map Some (parameter_of p)) r e in
    let q = mapped Some (parameter_of p) r c.is in
    ap rest_marked (sym q.is)
    ∙ (ap (λ x. x ∷ value_of_symbol q.x ∷ []) (marks-back (codes "&REST") m c.test)
    ∙ ap (λ x. m ∷ x ∷ []) (parameter-exact.back p q.x q.was))
rest-back (m ∷ p ∷ q ∷ more) r e = absurd (cc)

rest-fits : (items : List Value) (r : Option Symbol) → rest_of items ≡ Some r → Given IsParameter r
rest-fits [] r e = subst (Given IsParameter) (some-same None r e) tt
rest-fits (m ∷ []) r e = absurd (cc)
rest-fits (m ∷ p ∷ []) r e =
    let c = chosen (marks (codes "&REST") m) (option_map Some (parameter_of p)) r e in
    let q = mapped Some (parameter_of p) r c.is in
    subst (Given IsParameter) q.is (parameter-exact.fits p q.x q.was)
rest-fits (m ∷ p ∷ q ∷ more) r e = absurd (cc)

rest-whole : (r : Option Symbol) → Given IsParameter r → rest_of (rest_marked r) ≡ Some r
rest-whole None f = refl
rest-whole (Some s) f =
    choose (marks (codes "&REST") (value.Sym (cl (codes "&REST")))) (option_map Some (parameter_of (value_of_symbol s))) None (marks-is (codes "&REST") (codes "&REST"))
    ∙ ap (option_map Some) (parameter-exact.whole s f)

optionals-at : (m : Value) (more : List Value) (b : Bool) → marks (codes "&OPTIONAL") m ≡ b → (o : Option (List Symbol) × List Value) → (if b then (Some (leading more).0, (leading more).1) else (None, m ∷ more)) ≡ o → (marked (codes "&OPTIONAL") o.0 ++ o.1 ≡ m ∷ more) × Given (Each IsParameter) o.0
optionals-at m more true is o e =
    let made : marked (codes "&OPTIONAL") (Some (leading more).0) ++ (leading more).1 ≡ m ∷ more = ap (λ v. v ∷ (map value_of_symbol (leading more).0 ++ (leading more).1)) (marks-back (codes "&OPTIONAL") m is) ∙ ap (λ vs. m ∷ vs) (leading-back more) in
    subst (λ (p : Option (List Symbol) × List Value). (marked (codes "&OPTIONAL") p.0 ++ p.1 ≡ m ∷ more) × Given (Each IsParameter) p.0) e (made, leading-fits more)
optionals-at m more false is o e = subst (λ (p : Option (List Symbol) × List Value). (marked (codes "&OPTIONAL") p.0 ++ p.1 ≡ m ∷ more) × Given (Each IsParameter) p.0) e (refl, tt)

optionals-back : (xs : List Value) → (marked (codes "&OPTIONAL") (optionals_of xs).0 ++ (optionals_of xs).1 ≡ xs) × Given (Each IsParameter) (optionals_of xs).0
optionals-back [] = (refl, tt)
optionals-back (m ∷ more) = optionals-at m more (marks (codes "&OPTIONAL") m) refl (optionals_of (m ∷ more)) refl

pair-if : (b : Bool) (x y : Option (List Symbol) × List Value) → b ≡ true → (if b then x else y) ≡ x
pair-if b x y e = ap (λ c. if c then x else y) e

pair-else : (b : Bool) (x y : Option (List Symbol) × List Value) → b ≡ false → (if b then x else y) ≡ y
pair-else b x y e = ap (λ c. if c then x else y) e

optionals-whole : (o : Option (List Symbol)) (r : Option Symbol) → Given (Each IsParameter) o → optionals_of (marked (codes "&OPTIONAL") o ++ rest_marked r) ≡ (o, rest_marked r)
optionals-whole None None f = refl
optionals-whole None (Some s) f =
    let m = value.Sym (cl (codes "&REST")) in
    let more = value_of_symbol s ∷ [] in
    pair-else (marks (codes "&OPTIONAL") m) (Some (leading more).0, (leading more).1) (None, m ∷ more) (marks-is (codes "&OPTIONAL") (codes "&REST"))
optionals-whole (Some ps) r f =
    let m = value.Sym (cl (codes "&OPTIONAL")) in
    let more = map value_of_symbol ps ++ rest_marked r in
    pair-if (marks (codes "&OPTIONAL") m) (Some (leading more).0, (leading more).1) (None, m ∷ more) (marks-is (codes "&OPTIONAL") (codes "&OPTIONAL"))
    ∙ ap (λ (l : List Symbol × List Value). let p : Option (List Symbol) × List Value = (Some l.0, l.1) in p) (leading-whole ps (rest_marked r) f (rest-stops r))

abbrev ends : List Symbol × List Value → Option Parameters
ends l = option_map (listed_parameters l.0 (optionals_of l.1).0) (rest_of (optionals_of l.1).1)

abbrev ends_so : List Symbol → Option (List Symbol) × List Value → Option Parameters
ends_so required o = option_map (listed_parameters required o.0) (rest_of o.1)

parameters-back : (items : List Value) (p : Parameters) → parameters_of items ≡ Some p → parameter_forms p ≡ items
unfolding parameters_of
parameters-back items p e =
    let l = leading items in
    let o = optionals_of l.1 in
    let m = mapped (listed_parameters l.0 o.0) (rest_of o.1) p e in
    ap parameter_forms (sym m.is)
    ∙ (append_assoc (map value_of_symbol l.0) (marked (codes "&OPTIONAL") o.0) (rest_marked m.x)
    ∙ (ap (λ xs. map value_of_symbol l.0 ++ (marked (codes "&OPTIONAL") o.0 ++ xs)) (rest-back o.1 m.x m.was)
    ∙ (ap (λ xs. map value_of_symbol l.0 ++ xs) (optionals-back l.1).0
    ∙ leading-back items)))

parameters-fits : (items : List Value) (p : Parameters) → parameters_of items ≡ Some p → AreParameters p
unfolding parameters_of
parameters-fits items p e =
    let l = leading items in
    let o = optionals_of l.1 in
    let m = mapped (listed_parameters l.0 o.0) (rest_of o.1) p e in
    subst AreParameters m.is (leading-fits items, (optionals-back l.1).1, rest-fits o.1 m.x m.was)

parameters-whole : (p : Parameters) → AreParameters p → parameters_of (parameter_forms p) ≡ Some p
unfolding parameters_of
parameters-whole p f =
    let behind = marked (codes "&OPTIONAL") p.optional ++ rest_marked p.rest in
    let led : leading (parameter_forms p) ≡ (p.required, behind) = ap leading (append_assoc (map value_of_symbol p.required) (marked (codes "&OPTIONAL") p.optional) (rest_marked p.rest)) ∙ leading-whole p.required behind f.0 (optionals-stop p.optional p.rest) in
    ap ends led
    ∙ (ap (ends_so p.required) (optionals-whole p.optional p.rest f.1)
    ∙ ap (option_map (listed_parameters p.required p.optional)) (rest-whole p.rest f.2))

pub parameters-exact : Exact parameters_of parameter_forms AreParameters
parameters-exact = record { back = parameters-back; fits = parameters-fits; whole = parameters-whole }

-- ---- packages

designator-at-back : (v : Value) (o : Option (List ℕ)) → value_text v ≡ o → (d : Designator) → designator_at v o ≡ Some d → designator_form d ≡ v
designator-at-back v (Some text) is d e = ap designator_form (sym (some-same (designator.Str text) d e)) ∙ string-back v text is
designator-at-back v None is d e =
    let m = mapped designator.Sym (symbol_of v) d e in
    ap designator_form (sym m.is) ∙ symbol-exact.back v m.x m.was

designator-whole : (d : Designator) → Unit {0} → designator_of (designator_form d) ≡ Some d
unfolding designator_of
designator-whole (designator.Str text) f = ap (designator_at (value.Str text)) (string-whole text)
designator-whole (designator.Sym s) f = ap (designator_at (value_of_symbol s)) (symbol-no-text s) ∙ ap (option_map designator.Sym) (symbol-exact.whole s tt)

abbrev pub Any : {A : Type 0} → A → Type 0
Any a = Unit {0}

pub designator-exact : Exact designator_of designator_form Any
unfolding designator_of
designator-exact = record { back = λ v d e. designator-at-back v (value_text v) refl d e; fits = λ v d e. tt; whole = designator-whole }

any-each : {A : Type 0} (xs : List A) → Each Any xs
any-each [] = tt
any-each (x ∷ xs) = (tt, any-each xs)

abbrev option_items : List ℕ → List Designator → List Value
option_items key ds = value.Sym (keyword key) ∷ map designator_form ds

option-in-back : (key : List ℕ) (items : List Value) (ds : List Designator) → option_in key items ≡ Some ds → option_items key ds ≡ items
option-in-back key [] ds e = absurd (cc)
option-in-back key (k ∷ items) ds e =
    let c = chosen (is_key key k) (each_of designator_of items) ds e in
    ap (λ x. x ∷ map designator_form ds) (key-back key k c.test) ∙ ap (λ xs. k ∷ xs) ((each-exact designator_of designator_form Any designator-exact).back items ds c.is)

option-exact : (key : List ℕ) → Exact (option_of key) (λ ds. value.List (option_items key ds)) Any
unfolding option_of
option-exact key = listed-exact (option_in key) (option_items key) Any (record {
  back = option-in-back key;
  fits = λ items ds e. tt;
  whole = λ ds f. choose (is_key key (value.Sym (keyword key))) (each_of designator_of (map designator_form ds)) None (key-is key key ∙ bytes-same key) ∙ (each-exact designator_of designator_form Any designator-exact).whole ds (any-each ds);
})

abbrev Written : Type 0
Written = Option (List Designator) × Option (List Designator)

only-back : (v : Value) (uses exports : Option (List Designator)) → option_of (codes "USE") v ≡ uses → option_of (codes "EXPORT") v ≡ exports → (o : Written) → only_option uses exports ≡ Some o → options_forms o ≡ v ∷ []
only-back v (Some us) exports first second o e = ap options_forms (sym (some-same (Some us, None) o e)) ∙ ap (λ x. x ∷ []) ((option-exact (codes "USE")).back v us first)
only-back v None (Some es) first second o e = ap options_forms (sym (some-same (None, Some es) o e)) ∙ ap (λ x. x ∷ []) ((option-exact (codes "EXPORT")).back v es second)
only-back v None None first second o e = absurd (cc)

options-back : (items : List Value) (o : Written) → options_of items ≡ Some o → options_forms o ≡ items
unfolding options_of
options-back [] o e = ap options_forms (sym (some-same (None, None) o e))
options-back (v ∷ []) o e = only-back v (option_of (codes "USE") v) (option_of (codes "EXPORT") v) refl refl o e
options-back (u ∷ x ∷ []) o e =
    let j = joined (λ us es. (Some us, Some es)) (option_of (codes "USE") u) (option_of (codes "EXPORT") x) o e in
    ap options_forms (sym j.is)
    ∙ (ap (λ z. z ∷ value.List (option_items (codes "EXPORT") j.y) ∷ []) ((option-exact (codes "USE")).back u j.x j.first)
    ∙ ap (λ z. u ∷ z ∷ []) ((option-exact (codes "EXPORT")).back x j.y j.second))
options-back (u ∷ x ∷ y ∷ more) o e = absurd (cc)

other-key : (ds : List Designator) → option_of (codes "USE") (value.List (option_items (codes "EXPORT") ds)) ≡ None
unfolding option_of
other-key ds =
    ap (option_and_then (option_in (codes "USE"))) (list-whole (option_items (codes "EXPORT") ds))
    ∙ pass (is_key (codes "USE") (value.Sym (keyword (codes "EXPORT")))) (each_of designator_of (map designator_form ds)) None (key-is (codes "USE") (codes "EXPORT"))

options-whole : (o : Written) → Unit {0} → options_of (options_forms o) ≡ Some o
unfolding options_of
options-whole (None, None) f = refl
options-whole (Some us, None) f =
    let v = value.List (option_items (codes "USE") us) in
    ap (λ p. only_option p (option_of (codes "EXPORT") v)) ((option-exact (codes "USE")).whole us tt)
options-whole (None, Some es) f =
    let v = value.List (option_items (codes "EXPORT") es) in
    ap (λ p. only_option p (option_of (codes "EXPORT") v)) (other-key es)
    ∙ ap (only_option None) ((option-exact (codes "EXPORT")).whole es tt)
options-whole (Some us, Some es) f =
    both-whole (λ x y. (Some x, Some y)) (option_of (codes "USE") (value.List (option_items (codes "USE") us))) (option_of (codes "EXPORT") (value.List (option_items (codes "EXPORT") es))) us es ((option-exact (codes "USE")).whole us tt) ((option-exact (codes "EXPORT")).whole es tt)

pub options-exact : Exact options_of options_forms Any
options-exact = record { back = options-back; fits = λ items o e. tt; whole = options-whole }
