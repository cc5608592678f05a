-- Each listed redex is local, where what its step makes has room and a request is around it.
use Rattle.std.proofs.Common.{◌≡◌, ℕ, ℤ, pos, zero, suc, ◌+◌, ◌-◌, Bool, true, false, ◌&&◌, List, [], ◌∷◌, ◌++◌, Option, Some, None, refl, sym, ap, ◌∙◌}
use Rattle.std.specs.Prelude.{not, if◌then◌else◌, drop, length, slice_get, is_some, option_map, option_and_then, Result, Ok, Err, int_lt}
use Rattle.std.specs.Option.{option_map_or}
use Rattle.std.proofs.lemmas.Bool.{false≢true}
use Rattle.lisp_data.specs.Parts.{nil}
use Rattle.lisp_data.specs.Same.{same_symbol}
use Rattle.lisp_data.specs.declared.symbol.Symbol.{Symbol}
use Rattle.lisp_data.specs.declared.value.Value.{Value}
use Rattle.lisp_data.specs.declared.value.Value.TheOpen.{Value-F}
use Rattle.lisp_data.specs.declared.value.Value.TheViews.{out-Value}
use Rattle.lisp_data.specs.declared.value.Condition.{Condition}
use Rattle.rpc_messages.specs.declared.pattern.Pattern.TheVariants as pattern
use Rattle.syntax_trees.specs.Places.{forms_of}
use Rattle.syntax_trees.specs.declared.ast.Ast.{Ast}
use Rattle.syntax_trees.specs.declared.row.Bare.{Bare}
use Rattle.syntax_trees.specs.declared.row.Bare.TheVariants as bare
use Rattle.syntax_trees.specs.declared.row.Holder.{Holder}
use Rattle.syntax_trees.specs.declared.row.Holder.TheVariants as holder
use Rattle.syntax_trees.specs.declared.row.Named.{Named}
use Rattle.syntax_trees.specs.declared.row.Named.TheVariants as named
use Rattle.syntax_trees.specs.declared.row.Row.{Row}
use Rattle.syntax_trees.specs.declared.row.Row.TheVariants as row
use Rattle.term_model.specs.declared.end.End.TheVariants as end
use Rattle.term_model.specs.declared.focus.Focus.{Focus}
use Rattle.term_model.specs.declared.focus.Focus.TheVariants as focus
use Rattle.term_model.specs.declared.found.Found.{Found}
use Rattle.term_model.specs.declared.found.Found.TheVariants.{Already, Here, Inside}
use Rattle.term_model.specs.declared.frame.Frame.{Frame}
use Rattle.term_model.specs.declared.frame.Frame.TheVariants as frame
use Rattle.term_model.specs.declared.kept.Outcome.{Outcome}
use Rattle.term_model.specs.declared.kept.Outcome.TheVariants as outcome
use Rattle.term_model.specs.declared.plain.Plain.{Plain}
use Rattle.term_model.specs.declared.plain.Plain.TheVariants as plain
use Rattle.term_model.specs.GoingIn.{advanced, body, cond, found, look, needs, part, resumed, value_in}
use Rattle.term_model.specs.Progress.{Progress, progress}
use Rattle.term_model.specs.Room.{Entered, enter, is_within, room, wrap}
use Rattle.term_model.specs.Search as sight
use Rattle.term_model.specs.Search.{Sight, changed, changed_by, nearest, seen}
use Rattle.term_model.specs.Term.{Context}
use Rattle.term_model.specs.Variables.{lexical, with_lexical}
use Rattle.step_model.specs.Act as act
use Rattle.step_model.specs.Act.{Act}
use Rattle.step_model.specs.Decision.{Decision, Alone, Beyond, decided_alone}
use Rattle.step_model.specs.Facts.{bares, waits}
use Rattle.step_model.specs.Forms as forms
use Rattle.step_model.specs.Kinds as kinds
use Rattle.step_model.specs.Kinds.{gives_value, integer_in, list_in}
use Rattle.step_model.specs.Listed.{is_given, is_integer, is_lexical_in, is_list, is_listed, is_listed_bare, is_listed_call, is_listed_form, is_listed_held, is_listed_marker, is_listed_named, is_listed_plain, is_listed_setq, is_none_or}
use Rattle.step_model.specs.Local.{Spot, has_room, is_announced, is_inside, is_local, is_local_act, is_of_term, is_quiet, of_term, step_has_room}
use Rattle.step_model.specs.Perform.{perform}
use Rattle.step_model.specs.OneStep.{alone, is_listed_function, outcome}
use Rattle.step_model.specs.Rules.{Rules}
use Rattle.step_model.specs.Table.{decide, given_row}
use Rattle.step_model.proofs.BareLemmas.{SameBares, bares-with_lexical}
use Rattle.step_model.proofs.OneStepLemmas.{listed_alone}
use Rattle.step_model.proofs.LocalLemmas.{act_made, act_spot, entered_alone, given_to, gives_alone, goes_alone, lays_alone, lays_alone_if, performed_alone}

-- ---- a lexical variable that has a value can be assigned

further_with : (l : Frame) (c : Context) (o : Option Context) → is_some o ≡ true → is_some (changed_by l c sight.Past o) ≡ true
further_with l c (Some d) h = refl
further_with l c None h = absurd (false≢true h)

here_with : (b : Bool) (w : Value) (l m : Frame) (c : Context) (o : Option Value) (p : Option Context) → (is_some o ≡ true → is_some p ≡ true) → is_some (seen (if b then sight.Here w else sight.Past) o) ≡ true → is_some (changed_by l c (if b then sight.Here m else sight.Past) p) ≡ true
here_with true w l m c o p go h = refl
here_with false w l m c o p go h = further_with l c p (go h)

lexical_with : (x : Symbol) (v : Value) (c : Context) → is_some (lexical x c) ≡ true → is_some (with_lexical x v c) ≡ true
lexical_with x v [] h = absurd (false≢true h)
lexical_with x v (frame.On (plain.Lexical y w) ∷ c) h =
    here_with (same_symbol y x) w (frame.On (plain.Lexical y w)) (frame.On (plain.Lexical y v)) c (lexical x c) (with_lexical x v c) (λ g. lexical_with x v c g) h
lexical_with x v (frame.On (plain.Call f vs) ∷ c) h = absurd (false≢true h)
lexical_with x v (frame.On plain.Eval ∷ c) h = absurd (false≢true h)
lexical_with x v (frame.Rex i id form ∷ c) h = absurd (false≢true h)
lexical_with x v (frame.On p ∷ c) h = further_with (frame.On p) c (with_lexical x v c) (lexical_with x v c h)
lexical_with x v (frame.Protect k cleanup ∷ c) h = further_with (frame.Protect k cleanup) c (with_lexical x v c) (lexical_with x v c h)
lexical_with x v (frame.Cleanup k kept ∷ c) h = further_with (frame.Cleanup k kept) c (with_lexical x v c) (lexical_with x v c h)
lexical_with x v (frame.Sldb n condition again ∷ c) h = further_with (frame.Sldb n condition again) c (with_lexical x v c) (lexical_with x v c h)
lexical_with x v (frame.Ask kind tag ∷ c) h = further_with (frame.Ask kind tag) c (with_lexical x v c) (lexical_with x v c h)

-- ---- the acts of listed forms: a form or a value in place of the redex, after an assignment maybe

abbrev goes_in : Context → Act → Bool
goes_in c (act.Ends (end.Goes ps found)) = true
goes_in c (act.Assigns x v a) = option_map_or (λ d. goes_in d a) (with_lexical x v c) false
goes_in c _ = false

abbrev Goes : Context → Decision → Type 0
Goes c (Alone a) = goes_in c a ≡ true
Goes c (Beyond g) = ⊥

if_goes : (c : Context) (b : Bool) (x y : Act) → goes_in c x ≡ true → goes_in c y ≡ true → goes_in c (if b then x else y) ≡ true
if_goes c true x y h g = h
if_goes c false x y h g = g

looks_goes : (c : Context) (es : List Ast) → goes_in c (forms.looks es) ≡ true
looks_goes c [] = refl
looks_goes c (e ∷ es) = refl

runs_if_goes : (c : Context) (b : Bool) (es : List Ast) → goes_in c (forms.runs_if b es) ≡ true
runs_if_goes c true es = refl
runs_if_goes c false es = refl

goes_on_goes : (c : Context) (v : Value) (es : List Ast) (x : Found) → goes_in c (forms.goes_on v es x) ≡ true
goes_on_goes c v [] x = refl
goes_on_goes c v (e ∷ es) x = refl

choice_goes : (c : Context) (es : List Ast) (b : Bool) → goes_in c (forms.if_row es b) ≡ true
choice_goes c es true = looks_goes c es
choice_goes c es false = looks_goes c (drop 1 es)

clause_goes : (c : Context) (k : ℕ) (v : Value) (b : Bool) (cs : List Ast) → goes_in c (forms.clause_row k v b cs) ≡ true
clause_goes c k v true [] = refl
clause_goes c k v true (x ∷ cs) = goes_on_goes c v (drop 1 (forms_of x)) (body (drop 1 (forms_of x)))
clause_goes c k v false [] = refl
clause_goes c k v false (x ∷ cs) = goes_on_goes c nil cs (cond (k + 1) cs)

cond_goes : (c : Context) (p : Progress) (vs : List Value) → goes_in c (forms.cond_row p vs) ≡ true
cond_goes c p [] = refl
cond_goes c p (v ∷ vs) = clause_goes c p.done v (kinds.is_true v) p.rest

and_goes : (c : Context) (p : Progress) (vs : List Value) → goes_in c (forms.and_row p vs) ≡ true
and_goes c p [] = refl
and_goes c p (v ∷ vs) = if_goes c (kinds.is_true v) _ _ (goes_on_goes c v p.rest (advanced p)) refl

or_goes : (c : Context) (p : Progress) (vs : List Value) → goes_in c (forms.or_row p vs) ≡ true
or_goes c p [] = refl
or_goes c p (v ∷ vs) = if_goes c (kinds.is_true v) _ _ refl (goes_on_goes c v p.rest (advanced p))

progn_goes : (c : Context) (p : Progress) (vs : List Value) → goes_in c (forms.progn_row p vs) ≡ true
progn_goes c p [] = refl
progn_goes c p (v ∷ vs) = goes_on_goes c v p.rest (body p.rest)

bare_goes : (c : Context) (b : Bare) (p : Progress) → is_listed_bare b ≡ true → Goes c (forms.bare_row b p)
bare_goes c bare.If p h = choice_goes c p.rest (kinds.is_true (forms.first_value p.values))
bare_goes c bare.When p h = runs_if_goes c (kinds.is_true (forms.first_value p.values)) p.rest
bare_goes c bare.Unless p h = if_goes c (kinds.is_true (forms.first_value p.values)) _ _ refl refl
bare_goes c bare.Cond p h = cond_goes c p p.values
bare_goes c bare.And p h = and_goes c p p.values
bare_goes c bare.Or p h = or_goes c p p.values
bare_goes c bare.Progn p h = progn_goes c p p.values
bare_goes c bare.Loop p h = refl
bare_goes c b p h = absurd (false≢true h)

variable_goes : (c : Context) (x : Symbol) (o : Option Value) → is_some o ≡ true → Goes c (forms.variable_row x o)
variable_goes c x (Some v) h = refl
variable_goes c x None h = absurd (false≢true h)

assigned_goes : (a : Act) (o : Option Context) → ((d : Context) → goes_in d a ≡ true) → is_some o ≡ true → option_map_or (λ d. goes_in d a) o false ≡ true
assigned_goes a (Some d) go h = go d
assigned_goes a None go h = absurd (false≢true h)

assigns_goes : (c : Context) (x : Symbol) (v : Value) (a : Act) (o : Option Value) → ((d : Context) → goes_in d a ≡ true) → is_some (with_lexical x v c) ≡ true → is_some o ≡ true → Goes c (forms.assigns_row x v a o)
assigns_goes c x v a (Some old) go g h = assigned_goes a (with_lexical x v c) go g
assigns_goes c x v a None go g h = absurd (false≢true h)

setq_named_goes : (c : Context) (v : Value) (a : Act) (o : Option Symbol) → ((d : Context) → goes_in d a ≡ true) → is_lexical_in c o ≡ true → Goes c (forms.setq_named c v a o)
setq_named_goes c v a (Some x) go h = assigns_goes c x v a (lexical x c) go (lexical_with x v c h) h
setq_named_goes c v a None go h = absurd (false≢true h)

setq_goes : (c : Context) (xs : List Symbol) (p : Progress) (vs : List Value) → is_listed_setq c xs p vs ≡ true → Goes c (forms.setq_row c xs p vs)
setq_goes c xs p [] h = absurd (false≢true h)
setq_goes c xs p (v ∷ vs) h = setq_named_goes c v (forms.goes_on v p.rest (advanced p)) (slice_get xs (p.done - 1)) (λ d. goes_on_goes d v p.rest (advanced p)) h

turn_goes : (c : Context) (x : Symbol) (i : ℤ) (count : Value) (es : List Ast) (b : Bool) → goes_in c (forms.turn_below x i count es b) ≡ true
turn_goes c x i count es true = refl
turn_goes c x i count es false = refl

counts_goes : (c : Context) (x : Symbol) (i : ℤ) (count : Value) (es : List Ast) (y : Value-F Value Condition) → is_some (integer_in y) ≡ true → Goes c (forms.counts_to x i count es y)
counts_goes c x i count es (Value-F.Int k) h = turn_goes c x i count es (int_lt i k)
counts_goes c x i count es (Value-F.Str text) h = absurd (false≢true h)
counts_goes c x i count es (Value-F.Sym s) h = absurd (false≢true h)
counts_goes c x i count es (Value-F.List vs) h = absurd (false≢true h)
counts_goes c x i count es (Value-F.Cond condition) h = absurd (false≢true h)

turn_with_goes : (c : Context) (x : Symbol) (i : ℕ) (list : Value) (es : List Ast) (o : Option Value) → goes_in c (forms.turn_with x i list es o) ≡ true
turn_with_goes c x i list es (Some v) = refl
turn_with_goes c x i list es None = refl

lists_goes : (c : Context) (x : Symbol) (i : ℕ) (list : Value) (es : List Ast) (y : Value-F Value Condition) → is_some (list_in y) ≡ true → Goes c (forms.lists_in x i list es y)
lists_goes c x i list es (Value-F.List vs) h = turn_with_goes c x i list es (slice_get vs i)
lists_goes c x i list es (Value-F.Int k) h = absurd (false≢true h)
lists_goes c x i list es (Value-F.Str text) h = absurd (false≢true h)
lists_goes c x i list es (Value-F.Sym s) h = absurd (false≢true h)
lists_goes c x i list es (Value-F.Cond condition) h = absurd (false≢true h)

dotimes_goes : (c : Context) (x : Symbol) (p : Progress) (vs : List Value) → is_none_or is_integer vs ≡ true → Goes c (forms.dotimes_row x p vs)
dotimes_goes c x p [] h = refl
dotimes_goes c x p (v ∷ vs) h = counts_goes c x (pos 0) v p.rest (out-Value v) h

dolist_goes : (c : Context) (x : Symbol) (p : Progress) (vs : List Value) → is_none_or is_list vs ≡ true → Goes c (forms.dolist_row x p vs)
dolist_goes c x p [] h = refl
dolist_goes c x p (v ∷ vs) h = lists_goes c x 0 v p.rest (out-Value v) h

held_goes : (c : Context) (k : Holder) (x : Symbol) (p : Progress) → is_listed_held k p.values ≡ true → Goes c (forms.held_row k x p)
held_goes c holder.DoTimes x p h = dotimes_goes c x p p.values h
held_goes c holder.DoList x p h = dolist_goes c x p p.values h
held_goes c holder.Defvar x p h = absurd (false≢true h)
held_goes c holder.Defparameter x p h = absurd (false≢true h)

-- ---- calls

and_left : (a b : Bool) → (a && b) ≡ true → a ≡ true
and_left true b h = refl
and_left false b h = absurd (false≢true h)

and_right : (a b : Bool) → (a && b) ≡ true → b ≡ true
and_right true b h = h
and_right false b h = absurd (false≢true h)

given_is : (o : Option (Result Value Condition)) → is_given o ≡ true → (v : Value) × (o ≡ Some (Ok v))
given_is (Some (Ok v)) h = (v, refl)
given_is (Some (Err condition)) h = absurd (false≢true h)
given_is None h = absurd (false≢true h)

called_goes : (c : Context) (g : Symbol) (vs : List Value) (v : Value) (o : Option Value) → o ≡ Some v → Goes c (forms.call_row g vs o)
called_goes c g vs v (Some w) h = refl
called_goes c g vs v None h = absurd (cc)

call_goes : (current : List ℕ) (c : Context) (g : Symbol) (vs : List Value) → is_listed_call current g vs ≡ true → Goes c (forms.call g vs)
call_goes current c g vs h =
    let v = given_is (outcome current g vs) (and_right (is_listed_function g) (is_given (outcome current g vs)) h) in
    called_goes c g vs v.0 (alone g vs) (listed_alone current g vs v.0 (and_left (is_listed_function g) (is_given (outcome current g vs)) h) v.1)

named_goes : (current : List ℕ) (c : Context) (k : Named) (g : Symbol) (p : Progress) → is_listed_named current k g p.values ≡ true → Goes c (forms.named_row k g p)
named_goes current c named.Call g p h = call_goes current c g p.values h
named_goes current c named.Block g p h = absurd (false≢true h)
named_goes current c named.ReturnFrom g p h = absurd (false≢true h)

form_goes : (current : List ℕ) (c : Context) (r : Row) (p : Progress) → is_listed_form current c r p ≡ true → Goes c (forms.form_by c r p)
form_goes current c (row.Bare b) p h = bare_goes c b p h
form_goes current c (row.Named k g) p h = named_goes current c k g p h
form_goes current c (row.Held k x) p h = held_goes c k x p h
form_goes current c (row.Variable x) p h = variable_goes c x (lexical x c) h
form_goes current c (row.Setq xs) p h = setq_goes c xs p p.values h
form_goes current c r p h = absurd (false≢true h)

-- ---- nothing is announced

-- inside a request no level is announced
request_quiet : (c : Context) (f : Focus) → waits c ≡ false → is_announced c f ≡ false
request_quiet (frame.Sldb k condition true ∷ c) (focus.Wait pattern.Rex) h = absurd (false≢true (sym h))
request_quiet c f h = refl

enter_inside : (space : ℕ) (c : Context) (x : Found) → waits c ≡ false → waits (enter space c x).around ≡ false
enter_inside space c (Already v) h = h
enter_inside space c (Here f) h = h
enter_inside zero c (Inside p e) h = h
enter_inside (suc space) c (Inside p e) h = enter_inside space (frame.On (plain.Form p) ∷ c) (look e) refl

wrap_inside : (space : ℕ) (c : Context) (ps : List Plain) (x : Found) → waits c ≡ false → waits (wrap space c ps x).around ≡ false
wrap_inside space c [] x h = enter_inside space c x h
wrap_inside zero c (p ∷ []) (Already v) h = refl
wrap_inside zero c (p ∷ ps) x h = h
wrap_inside (suc space) c (p ∷ ps) x h = wrap_inside space (frame.On p ∷ c) ps x refl

-- what is found is no wait
abbrev is_wait : Focus → Bool
is_wait (focus.Wait p) = true
is_wait f = false

abbrev NoWait : Found → Type 0
NoWait (Already v) = Unit {0}
NoWait (Here f) = is_wait f ≡ false
NoWait (Inside p e) = Unit {0}

no_wait_quiet : (c : Context) (f : Focus) → is_wait f ≡ false → is_announced c f ≡ false
no_wait_quiet (frame.Sldb k condition true ∷ c) (focus.Wait pattern.Rex) h = absurd (false≢true (sym h))
no_wait_quiet c f h = refl

part_no_wait : (o : Option Value) (go : Value → Found) (x : Found) → ((v : Value) → NoWait (go v)) → NoWait x → NoWait (part o go x)
part_no_wait (Some v) go x h g = h v
part_no_wait None go x h g = g

found_no_wait : (k : ℕ) (r : Row) (d : ℕ) (vs : List Value) (es : List Ast) → NoWait (found k r d vs es)
found_no_wait zero r d vs es = refl
found_no_wait (suc k) r d vs [] = refl
found_no_wait (suc k) r d vs (e ∷ es) =
    part_no_wait (value_in e) (λ v. found k r (d + 1) (vs ++ v ∷ []) es) (Inside (progress r (d + 1) vs es) e) (λ v. found_no_wait k r (d + 1) (vs ++ v ∷ []) es) tt

abbrev ResumesNoWait : Option Found → Type 0
ResumesNoWait (Some x) = NoWait x
ResumesNoWait None = Unit {0}

resumed_no_wait : (p : Plain) (v : Value) → ResumesNoWait (resumed p v)
resumed_no_wait (plain.Form p) v = found_no_wait (needs p.row (p.done + length p.rest) - p.done) p.row p.done (p.values ++ v ∷ []) p.rest
resumed_no_wait (plain.Map f list next collected) v = refl
resumed_no_wait p v = tt

-- what an act makes tells nothing
abbrev Quiet : Option Spot → Type 0
Quiet (Some s) = is_announced s.0 s.1 ≡ false
Quiet None = Unit {0}

entered_quiet : (c : Context) (o : Option Focus) → ((f : Focus) → is_announced c f ≡ false) → Quiet (option_map (λ f. (c, f)) o)
entered_quiet c (Some f) h = h f
entered_quiet c None h = tt

enter_quiet : (space : ℕ) (c : Context) (x : Found) → NoWait x → Quiet (entered_alone (enter space c x))
enter_quiet space c (Already v) h = no_wait_quiet c (focus.Given (outcome.Value v)) refl
enter_quiet space c (Here f) h = no_wait_quiet c f h
enter_quiet zero c (Inside p e) h = tt
enter_quiet (suc space) c (Inside p e) h =
    let x = enter space (frame.On (plain.Form p) ∷ c) (look e) in
    entered_quiet x.around x.redex (λ f. request_quiet x.around f (enter_inside space (frame.On (plain.Form p) ∷ c) (look e) refl))

lays_quiet_if : (b : Bool) (e : Entered) → Quiet (entered_alone e) → Quiet (lays_alone_if b e)
lays_quiet_if true e h = h
lays_quiet_if false e h = tt

lays_quiet : (c : Context) (ps : List Plain) (x : Found) → waits c ≡ false → Quiet (lays_alone c ps x)
lays_quiet c ps x h =
    let e = wrap (room c) c ps x in
    lays_quiet_if (is_within c) e (entered_quiet e.around e.redex (λ f. request_quiet e.around f (wrap_inside (room c) c ps x h)))

given_quiet : (p : Plain) (c : Context) (v : Value) (o : Option Found) → ResumesNoWait o → Quiet (given_to p c v o)
given_quiet p c v (Some x) h = lays_quiet_if (is_within c) (enter (room c) c x) (enter_quiet (room c) c x h)
given_quiet p c v None h = refl

gives_quiet : (c : Context) (o : Outcome) → Quiet (gives_alone c o)
gives_quiet (frame.On p ∷ c) (outcome.Value v) = given_quiet p c v (resumed p v) (resumed_no_wait p v)
gives_quiet c o = no_wait_quiet c (focus.Given o) refl

goes_quiet : (c : Context) (ps : List Plain) (x : Found) → waits c ≡ false → Quiet (goes_alone c ps x)
goes_quiet c [] (Already v) h = gives_quiet c (outcome.Value v)
goes_quiet c [] (Here f) h = lays_quiet c [] (Here f) h
goes_quiet c [] (Inside p e) h = lays_quiet c [] (Inside p e) h
goes_quiet c (p ∷ ps) x h = lays_quiet c (p ∷ ps) x h

-- an assignment leaves what is directly around
waits-bares : (c : Context) → waits (bares c) ≡ waits c
waits-bares [] = refl
waits-bares (frame.On p ∷ c) = refl
waits-bares (frame.Protect k cleanup ∷ c) = refl
waits-bares (frame.Cleanup k kept ∷ c) = refl
waits-bares (frame.Rex i id form ∷ c) = refl
waits-bares (frame.Sldb n condition again ∷ c) = refl
waits-bares (frame.Ask kind tag ∷ c) = refl

assigned_quiet : (c : Context) (a : Act) (o : Option Context) → SameBares c o → waits c ≡ false → ((d : Context) → goes_in d a ≡ true → waits d ≡ false → Quiet (performed_alone d a)) → option_map_or (λ d. goes_in d a) o false ≡ true → Quiet (option_and_then (λ d. performed_alone d a) o)
assigned_quiet c a (Some d) same h go g = go d g (sym (waits-bares d) ∙ ap waits same ∙ waits-bares c ∙ h)
assigned_quiet c a None same h go g = tt

going_quiet : (c : Context) (a : Act) → goes_in c a ≡ true → waits c ≡ false → Quiet (performed_alone c a)
going_quiet c (act.Ends (end.Goes ps x)) g h = goes_quiet c ps x h
going_quiet c (act.Assigns x v a) g h = assigned_quiet c a (with_lexical x v c) (bares-with_lexical x v c) h (λ d. going_quiet d a) g
going_quiet c a g h = absurd (false≢true g)

-- such an act needs the term alone
assigned_of_term : (a : Act) (o : Option Context) → ((d : Context) → goes_in d a ≡ true → is_of_term d a ≡ true) → option_map_or (λ d. goes_in d a) o false ≡ true → option_map_or (λ d. is_of_term d a) o false ≡ true
assigned_of_term a (Some d) go h = go d h
assigned_of_term a None go h = absurd (false≢true h)

going_of_term : (c : Context) (a : Act) → goes_in c a ≡ true → is_of_term c a ≡ true
going_of_term c (act.Ends (end.Goes ps x)) h = refl
going_of_term c (act.Assigns x v a) h = assigned_of_term a (with_lexical x v c) (λ d. going_of_term d a) h
going_of_term c a h = absurd (false≢true h)

-- ---- the listed redexes are local

both : (a b : Bool) → a ≡ true → b ≡ true → (a && b) ≡ true
both a b h g = ap (λ x. x && b) h ∙ g

quiet_at : (c : Context) (f : Focus) (a : Act) (o : Option Spot) → performed_alone c a ≡ o → is_some o ≡ true → Quiet o → is_quiet (perform (of_term c f) a) ≡ true
quiet_at c f a (Some s) e h q = ap is_quiet (act_spot (of_term c f) a s e) ∙ ap not q
quiet_at c f a None e h q = absurd (false≢true h)

act_local : (c : Context) (f : Focus) (a : Act) → is_of_term c a ≡ true → has_room c a ≡ true → Quiet (performed_alone c a) → is_local_act c f a ≡ true
act_local c f a h g q =
    both (is_of_term c a) _ h (both (has_room c a) _ g (quiet_at c f a (performed_alone c a) refl (act_made c a h g) q))

abbrev IsLocal : Context → Focus → Decision → Type 0
IsLocal c f x = option_map_or (has_room c) (decided_alone x) true ≡ true → option_map_or (is_local_act c f) (decided_alone x) false ≡ true

going_local : (c : Context) (f : Focus) (x : Decision) → Goes c x → waits c ≡ false → IsLocal c f x
going_local c f (Alone a) h g r = act_local c f a (going_of_term c a h) r (going_quiet c a h g)
going_local c f (Beyond more) h g r = absurd h

-- a value in a marker
plain_local : (rules : Rules) (p : Plain) (c : Context) (v : Value) → is_listed_plain p ≡ true → waits c ≡ false → IsLocal (frame.On p ∷ c) (focus.Given (outcome.Value v)) (given_row rules (frame.On p ∷ c) (outcome.Value v))
plain_local rules (plain.Before g) c v h i r = act_local (frame.On (plain.Before g) ∷ c) (focus.Given (outcome.Value v)) (act.Outward (act.Resumes g)) refl r (request_quiet c g i)
plain_local rules (plain.Lexical x w) c v h i r = act_local (frame.On (plain.Lexical x w) ∷ c) (focus.Given (outcome.Value v)) (act.Outward (act.Gives (outcome.Value v))) refl r (gives_quiet c (outcome.Value v))
plain_local rules (plain.Block name) c v h i r = act_local (frame.On (plain.Block name) ∷ c) (focus.Given (outcome.Value v)) (act.Outward (act.Gives (outcome.Value v))) refl r (gives_quiet c (outcome.Value v))
plain_local rules (plain.Call g vs) c v h i r = act_local (frame.On (plain.Call g vs) ∷ c) (focus.Given (outcome.Value v)) (act.Outward (act.Gives (outcome.Value v))) refl r (gives_quiet c (outcome.Value v))
plain_local rules p c v h i r = absurd (false≢true h)

not_waits : (b : Bool) → not b ≡ true → b ≡ false
not_waits false h = refl
not_waits true h = absurd (false≢true h)

marker_local : (rules : Rules) (c : Context) (v : Value) → is_listed_marker c ≡ true → is_inside c (focus.Given (outcome.Value v)) ≡ true → IsLocal c (focus.Given (outcome.Value v)) (given_row rules c (outcome.Value v))
marker_local rules (frame.On p ∷ c) v h i = plain_local rules p c v h (not_waits (waits c) i)
marker_local rules c v h i = absurd (false≢true h)

-- another redex than an outcome
inner_local : (rules : Rules) (current : List ℕ) (c : Context) (f : Focus) → Goes c (decide rules c f) → not (waits c) ≡ true → IsLocal c f (decide rules c f)
inner_local rules current c f h i = going_local c f (decide rules c f) h (not_waits (waits c) i)

decided_listed : (rules : Rules) (current : List ℕ) (c : Context) (f : Focus) → is_listed current c f ≡ true → is_inside c f ≡ true → IsLocal c f (decide rules c f)
decided_listed rules current c (focus.Given (outcome.Value v)) h i = marker_local rules c v h i
decided_listed rules current c (focus.Form p) h i = inner_local rules current c (focus.Form p) (form_goes current c p.row p h) i
decided_listed rules current c (focus.Loop es) h i = inner_local rules current c (focus.Loop es) refl i
decided_listed rules current c (focus.DoTimes x k count es) h i = inner_local rules current c (focus.DoTimes x k count es) (counts_goes c x k count es (out-Value count) h) i
decided_listed rules current c (focus.DoList x k list es) h i = inner_local rules current c (focus.DoList x k list es) (lists_goes c x k list es (out-Value list) h) i
decided_listed rules current c (focus.Apply g vs) h i = inner_local rules current c (focus.Apply g vs) (call_goes current c g vs h) i
decided_listed rules current c f h i = absurd (false≢true h)

pub listed_local : (rules : Rules) (current : List ℕ) (c : Context) (f : Focus) → is_listed current c f ≡ true → is_inside c f ≡ true → step_has_room rules c f ≡ true → is_local rules c f ≡ true
listed_local rules current c f h i r = both (is_inside c f) _ i (decided_listed rules current c f h i r)
