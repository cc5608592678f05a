-- With many layers left there is room for what the step of a listed redex makes, where its forms are shallow.
use Rattle.std.proofs.Common.{◌≡◌, ℕ, ℤ, pos, zero, suc, ◌+◌, ◌-◌, ◌≤◌, Bool, true, false, ◌&&◌, List, [], ◌∷◌, ◌++◌, length, Option, Some, None, refl, sym, ap, ◌∙◌, arith}
use Rattle.std.specs.Prelude.{if◌then◌else◌, drop, slice_get, is_some, int_lt, option_map}
use Rattle.std.specs.List.{list_all}
use Rattle.std.specs.Option.{option_map_or}
use Rattle.std.proofs.lemmas.Bool.{false≢true, le-leb}
use Rattle.lisp_data.specs.Parts.{nil, yes}
use Rattle.lisp_data.specs.declared.symbol.Symbol.{Symbol}
use Rattle.lisp_data.specs.declared.value.Value.{Value}
use Rattle.lisp_data.specs.declared.value.Value.TheOpen.{Value-F}
use Rattle.lisp_data.specs.declared.value.Value.TheViews.{out-Value}
use Rattle.lisp_data.specs.declared.value.Condition.{Condition}
use Rattle.syntax_trees.specs.Places.{forms_of, row_of}
use Rattle.syntax_trees.specs.declared.ast.Ast.{Ast}
use Rattle.syntax_trees.specs.declared.row.Bare.{Bare}
use Rattle.syntax_trees.specs.declared.row.Bare.TheVariants as bare
use Rattle.syntax_trees.specs.declared.row.Holder.{Holder}
use Rattle.syntax_trees.specs.declared.row.Holder.TheVariants as holder
use Rattle.syntax_trees.specs.declared.row.Named.{Named}
use Rattle.syntax_trees.specs.declared.row.Named.TheVariants as named
use Rattle.syntax_trees.specs.declared.row.Row.{Row}
use Rattle.syntax_trees.specs.declared.row.Row.TheVariants as row
use Rattle.term_model.specs.declared.end.End.TheVariants as end
use Rattle.term_model.specs.declared.focus.Focus.{Focus}
use Rattle.term_model.specs.declared.focus.Focus.TheVariants as focus
use Rattle.term_model.specs.declared.found.Found.{Found}
use Rattle.term_model.specs.declared.found.Found.TheVariants.{Already, Here, Inside}
use Rattle.term_model.specs.declared.frame.Frame.{Frame}
use Rattle.term_model.specs.declared.frame.Frame.TheVariants as frame
use Rattle.term_model.specs.declared.kept.Outcome.TheVariants as outcome
use Rattle.term_model.specs.declared.plain.Plain.{Plain}
use Rattle.term_model.specs.declared.plain.Plain.TheVariants as plain
use Rattle.term_model.specs.GoingIn.{advanced, body, cond, continued, first_part, found, look, needs, part, ready, resumed, tested, value_in}
use Rattle.term_model.specs.Progress.{Progress, progress}
use Rattle.term_model.specs.Room.{Entered, enter, is_within, layers, levels, limit, room, wrap}
use Rattle.term_model.specs.Term.{Context}
use Rattle.term_model.specs.Variables.{lexical, with_lexical}
use Rattle.step_model.specs.Act as act
use Rattle.step_model.specs.Act.{Act}
use Rattle.step_model.specs.Decision.{Decision, Alone, Beyond, decided_alone}
use Rattle.step_model.specs.Facts.{bare, bares}
use Rattle.step_model.specs.Forms as forms
use Rattle.step_model.specs.Kinds as kinds
use Rattle.step_model.specs.Listed.{is_listed, is_listed_bare, is_listed_form, is_listed_marker, is_listed_named, is_listed_plain}
use Rattle.step_model.specs.Local.{found_has_room, has_room, have_room, outcome_has_room, resumed_has_room, step_has_room}
use Rattle.step_model.specs.OneStep.{alone}
use Rattle.step_model.specs.Rules.{Rules}
use Rattle.step_model.specs.Shallow.{are_shallow, has_shallow_forms, is_layer_shallow, is_redex_shallow, is_shallow, layers_left}
use Rattle.step_model.specs.Table.{decide, given_row}
use Rattle.step_model.proofs.BareLemmas.{SameBares, bares-with_lexical, length-bares, levels-bares}

-- ---- shallow forms

and_left : (a b : Bool) → (a && b) ≡ true → a ≡ true
and_left true b h = refl
and_left false b h = absurd (false≢true h)

and_right : (a b : Bool) → (a && b) ≡ true → b ≡ true
and_right true b h = h
and_right false b h = absurd (false≢true h)

both : (a b : Bool) → a ≡ true → b ≡ true → (a && b) ≡ true
both a b h g = ap (λ x. x && b) h ∙ g

all_more : (test more : Ast → Bool) → ((a : Ast) → test a ≡ true → more a ≡ true) → (es : List Ast) → list_all test es ≡ true → list_all more es ≡ true
all_more test more go [] h = refl
all_more test more go (e ∷ es) h =
    both (more e) (list_all more es) (go e (and_left (test e) (list_all test es) h)) (all_more test more go es (and_right (test e) (list_all test es) h))

shallow_more : (k : ℕ) (a : Ast) → is_shallow k a ≡ true → is_shallow (suc k) a ≡ true
shallow_more zero a h = absurd (false≢true h)
shallow_more (suc k) a h = all_more (is_shallow k) (is_shallow (suc k)) (λ b. shallow_more k b) (forms_of a) h

are_more : (k : ℕ) (es : List Ast) → are_shallow k es ≡ true → are_shallow (suc k) es ≡ true
are_more k es h = all_more (is_shallow k) (is_shallow (suc k)) (λ b. shallow_more k b) es h

inner_shallow : (k : ℕ) (a : Ast) → is_shallow k a ≡ true → are_shallow k (forms_of a) ≡ true
inner_shallow zero a h = absurd (false≢true h)
inner_shallow (suc k) a h = are_more k (forms_of a) h

rest_shallow : (k : ℕ) (e : Ast) (es : List Ast) → are_shallow k (e ∷ es) ≡ true → are_shallow k es ≡ true
rest_shallow k e es h = and_right (is_shallow k e) (are_shallow k es) h

first_shallow : (k : ℕ) (e : Ast) (es : List Ast) → are_shallow k (e ∷ es) ≡ true → is_shallow k e ≡ true
first_shallow k e es h = and_left (is_shallow k e) (are_shallow k es) h

drop_shallow : (k : ℕ) (es : List Ast) → are_shallow k es ≡ true → are_shallow k (drop 1 es) ≡ true
drop_shallow k [] h = refl
drop_shallow k (e ∷ es) h = rest_shallow k e es h

-- ---- what is found in them

abbrev FoundShallow : ℕ → Found → Type 0
FoundShallow k (Already v) = Unit {0}
FoundShallow k (Here f) = Unit {0}
FoundShallow k (Inside p e) = is_shallow k e ≡ true

found_more : (k : ℕ) (x : Found) → FoundShallow k x → FoundShallow (suc k) x
found_more k (Already v) h = tt
found_more k (Here f) h = tt
found_more k (Inside p e) h = shallow_more k e h

part_shallow : (k : ℕ) (o : Option Value) (go : Value → Found) (x : Found) → ((v : Value) → FoundShallow k (go v)) → FoundShallow k x → FoundShallow k (part o go x)
part_shallow k (Some v) go x h g = h v
part_shallow k None go x h g = g

found_shallow : (k n : ℕ) (r : Row) (d : ℕ) (vs : List Value) (es : List Ast) → are_shallow k es ≡ true → FoundShallow k (found n r d vs es)
found_shallow k zero r d vs es h = tt
found_shallow k (suc n) r d vs [] h = tt
found_shallow k (suc n) r d vs (e ∷ es) h =
    part_shallow k (value_in e) (λ v. found n r (d + 1) (vs ++ v ∷ []) es) (Inside (progress r (d + 1) vs es) e)
    (λ v. found_shallow k n r (d + 1) (vs ++ v ∷ []) es (rest_shallow k e es h)) (first_shallow k e es h)

tested_shallow : (k d : ℕ) (clauses es : List Ast) → are_shallow k es ≡ true → FoundShallow k (tested d clauses es)
tested_shallow k d clauses [] h = tt
tested_shallow k d clauses (test ∷ es) h =
    part_shallow k (value_in test) (λ v. ready (row.Bare bare.Cond) d (v ∷ []) clauses) (Inside (progress (row.Bare bare.Cond) d [] clauses) test) (λ v. tt) (first_shallow k test es h)

cond_shallow : (k d : ℕ) (es : List Ast) → are_shallow k es ≡ true → FoundShallow k (cond d es)
cond_shallow k d [] h = tt
cond_shallow k d (clause ∷ es) h = tested_shallow k d (clause ∷ es) (forms_of clause) (inner_shallow k clause (first_shallow k clause es h))

parts_shallow : (k : ℕ) (r : Row) (es : List Ast) → are_shallow k es ≡ true → FoundShallow k (first_part r es)
parts_shallow k (row.Bare bare.Cond) es h = cond_shallow k 0 es h
parts_shallow k r es h = found_shallow k (needs r (length es)) r 0 [] es h

look_inside : (k : ℕ) (a : Ast) → is_shallow (suc k) a ≡ true → FoundShallow k (look a)
look_inside k a h = part_shallow k (value_in a) Already (first_part (row_of a) (forms_of a)) (λ v. tt) (parts_shallow k (row_of a) (forms_of a) h)

look_shallow : (k : ℕ) (a : Ast) → is_shallow k a ≡ true → FoundShallow k (look a)
look_shallow zero a h = absurd (false≢true h)
look_shallow (suc k) a h = found_more k (look a) (look_inside k a h)

body_shallow : (k : ℕ) (es : List Ast) → are_shallow k es ≡ true → FoundShallow k (body es)
body_shallow k [] h = tt
body_shallow k (e ∷ []) h = look_shallow k e (first_shallow k e [] h)
body_shallow k (e ∷ f ∷ es) h = found_shallow k 1 (row.Bare bare.Progn) 0 [] (e ∷ f ∷ es) h

advanced_shallow : (k : ℕ) (p : Progress) → are_shallow k p.rest ≡ true → FoundShallow k (advanced p)
advanced_shallow k p h = found_shallow k 1 p.row p.done [] p.rest h

-- ---- room for it

enter_finds : (k space : ℕ) (c : Context) (x : Found) → k ≤ space → FoundShallow k x → is_some (Entered.redex (enter space c x)) ≡ true
enter_finds k space c (Already v) g h = refl
enter_finds k space c (Here f) g h = refl
enter_finds zero space c (Inside p e) g h = absurd (false≢true h)
enter_finds (suc k) zero c (Inside p e) g h = absurd (omega (arith, g))
enter_finds (suc k) (suc space) c (Inside p e) g h = enter_finds k space (frame.On (plain.Form p) ∷ c) (look e) (omega (arith, g)) (look_inside k e h)

wrap_finds : (k space : ℕ) (c : Context) (ps : List Plain) (x : Found) → length ps + k ≤ space → FoundShallow k x → is_some (Entered.redex (wrap space c ps x)) ≡ true
wrap_finds k space c [] x g h = enter_finds k space c x (omega (arith, g)) h
wrap_finds k zero c (p ∷ ps) x g h = absurd (omega (arith, g))
wrap_finds k (suc space) c (p ∷ ps) x g h = wrap_finds k space (frame.On p ∷ c) ps x (omega (arith, g)) h

-- so many layers are left, and the forms that layers go into are shallow
record Ample (k : ℕ) (c : Context) : Type 0 where
  many : layers c + k + 2 ≤ limit (levels c)
  shallow : list_all (is_layer_shallow k) c ≡ true

laid_room : (k : ℕ) (c : Context) (ps : List Plain) (x : Found) → layers c + k + 2 ≤ limit (levels c) → length ps ≤ 2 → FoundShallow k x → have_room c ps x ≡ true
laid_room k c ps x m g h =
    both (is_within c) (is_some (Entered.redex (wrap (room c) c ps x))) (le-leb (layers c) (limit (levels c)) (omega (arith, m))) (wrap_finds k (room c) c ps x (omega (arith, m, g)) h)

resumed_room : (k : ℕ) (p : Plain) (c : Context) (v : Value) → layers c + k + 2 ≤ limit (levels c) → is_layer_shallow k (frame.On p) ≡ true → resumed_has_room c (resumed p v) ≡ true
resumed_room k (plain.Form p) c v m h = laid_room k c [] (continued p v) m (omega arith) (found_shallow k (needs p.row (p.done + length p.rest) - p.done) p.row p.done (p.values ++ v ∷ []) p.rest h)
resumed_room k (plain.Map f list next collected) c v m h = laid_room k c [] (Here (focus.Map f list next (option_map (λ vs. vs ++ v ∷ []) collected))) m (omega arith) tt
resumed_room k p c v m h = refl

outcome_room : (k : ℕ) (c : Context) (v : Value) → Ample k c → outcome_has_room c (outcome.Value v) ≡ true
outcome_room k (frame.On p ∷ c) v a = resumed_room k p c v (omega (arith, a.many)) (and_left (is_layer_shallow k (frame.On p)) (list_all (is_layer_shallow k) c) a.shallow)
outcome_room k c v a = refl

goes_room : (k : ℕ) (c : Context) (ps : List Plain) (x : Found) → Ample k c → length ps ≤ 2 → FoundShallow k x → found_has_room c ps x ≡ true
goes_room k c [] (Already v) a g h = outcome_room k c v a
goes_room k c [] (Here f) a g h = laid_room k c [] (Here f) a.many g h
goes_room k c [] (Inside p e) a g h = laid_room k c [] (Inside p e) a.many g h
goes_room k c (p ∷ ps) x a g h = laid_room k c (p ∷ ps) x a.many g h

-- an assignment leaves as many layers, with the same forms
layer-bare : (k : ℕ) (l : Frame) → is_layer_shallow k (bare l) ≡ is_layer_shallow k l
layer-bare k (frame.On (plain.Lexical x v)) = refl
layer-bare k (frame.On (plain.Dynamic x v)) = refl
layer-bare k (frame.On p) = refl
layer-bare k (frame.Protect serial cleanup) = refl
layer-bare k (frame.Cleanup serial kept) = refl
layer-bare k (frame.Rex i id form) = refl
layer-bare k (frame.Sldb n condition again) = refl
layer-bare k (frame.Ask kind tag) = refl

layers-bares : (k : ℕ) (c : Context) → list_all (is_layer_shallow k) (bares c) ≡ list_all (is_layer_shallow k) c
layers-bares k [] = refl
layers-bares k (l ∷ c) = ap (λ b. b && list_all (is_layer_shallow k) (bares c)) (layer-bare k l) ∙ ap (λ b. is_layer_shallow k l && b) (layers-bares k c)

ample_same : (k : ℕ) (c d : Context) → bares d ≡ bares c → Ample k c → Ample k d
ample_same k c d same a =
    let long : length d ≡ length c = sym (length-bares d) ∙ ap length same ∙ length-bares c in
    let open_levels : levels d ≡ levels c = sym (levels-bares d) ∙ ap levels same ∙ levels-bares c in
    record {
      many = omega (arith, a.many, long, ap limit open_levels);
      shallow = sym (layers-bares k d) ∙ ap (list_all (is_layer_shallow k)) same ∙ layers-bares k c ∙ a.shallow;
    }

-- ---- the acts of listed redexes

abbrev ActSmall : ℕ → Act → Type 0
ActSmall k (act.Ends (end.Goes ps x)) = (length ps ≤ 2) × FoundShallow k x
ActSmall k (act.Assigns x v a) = ActSmall k a
ActSmall k (act.Ends (end.Gives o)) = ⊥
ActSmall k (act.Outward a) = ⊥
ActSmall k a = Unit {0}

assigned_room : (k : ℕ) (c : Context) (a : Act) (o : Option Context) → SameBares c o → Ample k c → ((d : Context) → Ample k d → has_room d a ≡ true) → option_map_or (λ d. has_room d a) o true ≡ true
assigned_room k c a (Some d) same ample go = go d (ample_same k c d same ample)
assigned_room k c a None same ample go = refl

act_room : (k : ℕ) (c : Context) (a : Act) → Ample k c → ActSmall k a → has_room c a ≡ true
act_room k c (act.Ends (end.Goes ps x)) ample s = goes_room k c ps x ample s.0 s.1
act_room k c (act.Assigns x v a) ample s = assigned_room k c a (with_lexical x v c) (bares-with_lexical x v c) ample (λ d h. act_room k d a h s)
act_room k c (act.Ends (end.Gives o)) ample s = absurd s
act_room k c (act.Outward a) ample s = absurd s
act_room k c a ample s = refl

abbrev Small : ℕ → Decision → Type 0
Small k (Alone a) = ActSmall k a
Small k (Beyond g) = Unit {0}

none_small : (k : ℕ) (v : Value) → ActSmall k (kinds.gives_value v)
none_small k v = (omega arith, tt)

in_small : (k : ℕ) (x : Found) → FoundShallow k x → ActSmall k (act.Goes [] x)
in_small k x h = (omega arith, h)

if_small : (k : ℕ) (b : Bool) (x y : Act) → ActSmall k x → ActSmall k y → ActSmall k (if b then x else y)
if_small k true x y h g = h
if_small k false x y h g = g

goes_on_small : (k : ℕ) (v : Value) (es : List Ast) (x : Found) → FoundShallow k x → ActSmall k (forms.goes_on v es x)
goes_on_small k v [] x h = none_small k v
goes_on_small k v (e ∷ es) x h = in_small k x h

looks_small : (k : ℕ) (es : List Ast) → are_shallow k es ≡ true → ActSmall k (forms.looks es)
looks_small k [] h = none_small k nil
looks_small k (e ∷ es) h = in_small k (look e) (look_shallow k e (first_shallow k e es h))

choice_small : (k : ℕ) (es : List Ast) (b : Bool) → are_shallow k es ≡ true → ActSmall k (forms.if_row es b)
choice_small k es true h = looks_small k es h
choice_small k es false h = looks_small k (drop 1 es) (drop_shallow k es h)

runs_if_small : (k : ℕ) (b : Bool) (es : List Ast) → are_shallow k es ≡ true → ActSmall k (forms.runs_if b es)
runs_if_small k true es h = in_small k (body es) (body_shallow k es h)
runs_if_small k false es h = none_small k nil

clause_small : (k d : ℕ) (v : Value) (b : Bool) (cs : List Ast) → are_shallow k cs ≡ true → ActSmall k (forms.clause_row d v b cs)
clause_small k d v true [] h = none_small k v
clause_small k d v true (x ∷ cs) h =
    let es = drop 1 (forms_of x) in goes_on_small k v es (body es) (body_shallow k es (drop_shallow k (forms_of x) (inner_shallow k x (first_shallow k x cs h))))
clause_small k d v false [] h = none_small k nil
clause_small k d v false (x ∷ cs) h = goes_on_small k nil cs (cond (d + 1) cs) (cond_shallow k (d + 1) cs (rest_shallow k x cs h))

cond_small : (k : ℕ) (p : Progress) (vs : List Value) → are_shallow k p.rest ≡ true → ActSmall k (forms.cond_row p vs)
cond_small k p [] h = none_small k nil
cond_small k p (v ∷ vs) h = clause_small k p.done v (kinds.is_true v) p.rest h

and_small : (k : ℕ) (p : Progress) (vs : List Value) → are_shallow k p.rest ≡ true → ActSmall k (forms.and_row p vs)
and_small k p [] h = none_small k yes
and_small k p (v ∷ vs) h = if_small k (kinds.is_true v) _ _ (goes_on_small k v p.rest (advanced p) (advanced_shallow k p h)) (none_small k v)

or_small : (k : ℕ) (p : Progress) (vs : List Value) → are_shallow k p.rest ≡ true → ActSmall k (forms.or_row p vs)
or_small k p [] h = none_small k nil
or_small k p (v ∷ vs) h = if_small k (kinds.is_true v) _ _ (none_small k v) (goes_on_small k v p.rest (advanced p) (advanced_shallow k p h))

progn_small : (k : ℕ) (p : Progress) (vs : List Value) → are_shallow k p.rest ≡ true → ActSmall k (forms.progn_row p vs)
progn_small k p [] h = none_small k nil
progn_small k p (v ∷ vs) h = goes_on_small k v p.rest (body p.rest) (body_shallow k p.rest h)

bare_small : (k : ℕ) (b : Bare) (p : Progress) → is_listed_bare b ≡ true → are_shallow k p.rest ≡ true → Small k (forms.bare_row b p)
bare_small k bare.If p l h = choice_small k p.rest (kinds.is_true (forms.first_value p.values)) h
bare_small k bare.When p l h = runs_if_small k (kinds.is_true (forms.first_value p.values)) p.rest h
bare_small k bare.Unless p l h = if_small k (kinds.is_true (forms.first_value p.values)) _ _ (none_small k nil) (in_small k (body p.rest) (body_shallow k p.rest h))
bare_small k bare.Cond p l h = cond_small k p p.values h
bare_small k bare.And p l h = and_small k p p.values h
bare_small k bare.Or p l h = or_small k p p.values h
bare_small k bare.Progn p l h = progn_small k p p.values h
bare_small k bare.Loop p l h = (omega arith, tt)
bare_small k b p l h = absurd (false≢true l)

variable_small : (k : ℕ) (x : Symbol) (o : Option Value) → Small k (forms.variable_row x o)
variable_small k x (Some v) = none_small k v
variable_small k x None = tt

assigns_small : (k : ℕ) (x : Symbol) (v : Value) (a : Act) (o : Option Value) → ActSmall k a → Small k (forms.assigns_row x v a o)
assigns_small k x v a (Some old) s = s
assigns_small k x v a None s = tt

setq_named_small : (k : ℕ) (c : Context) (v : Value) (a : Act) (o : Option Symbol) → ActSmall k a → Small k (forms.setq_named c v a o)
setq_named_small k c v a (Some x) s = assigns_small k x v a (lexical x c) s
setq_named_small k c v a None s = s

setq_small : (k : ℕ) (c : Context) (xs : List Symbol) (p : Progress) (vs : List Value) → are_shallow k p.rest ≡ true → Small k (forms.setq_row c xs p vs)
setq_small k c xs p [] h = none_small k nil
setq_small k c xs p (v ∷ vs) h = setq_named_small k c v (forms.goes_on v p.rest (advanced p)) (slice_get xs (p.done - 1)) (goes_on_small k v p.rest (advanced p) (advanced_shallow k p h))

turn_small : (k : ℕ) (x : Symbol) (i : ℤ) (count : Value) (es : List Ast) (b : Bool) → are_shallow k es ≡ true → ActSmall k (forms.turn_below x i count es b)
turn_small k x i count es true h = (omega arith, body_shallow k es h)
turn_small k x i count es false h = none_small k nil

counts_small : (k : ℕ) (x : Symbol) (i : ℤ) (count : Value) (es : List Ast) (y : Value-F Value Condition) → are_shallow k es ≡ true → Small k (forms.counts_to x i count es y)
counts_small k x i count es (Value-F.Int n) h = turn_small k x i count es (int_lt i n) h
counts_small k x i count es y h = tt

turn_with_small : (k : ℕ) (x : Symbol) (i : ℕ) (list : Value) (es : List Ast) (o : Option Value) → are_shallow k es ≡ true → ActSmall k (forms.turn_with x i list es o)
turn_with_small k x i list es (Some v) h = (omega arith, body_shallow k es h)
turn_with_small k x i list es None h = none_small k nil

lists_small : (k : ℕ) (x : Symbol) (i : ℕ) (list : Value) (es : List Ast) (y : Value-F Value Condition) → are_shallow k es ≡ true → Small k (forms.lists_in x i list es y)
lists_small k x i list es (Value-F.List vs) h = turn_with_small k x i list es (slice_get vs i) h
lists_small k x i list es y h = tt

dotimes_small : (k : ℕ) (x : Symbol) (p : Progress) (vs : List Value) → are_shallow k p.rest ≡ true → Small k (forms.dotimes_row x p vs)
dotimes_small k x p [] h = (omega arith, advanced_shallow k p h)
dotimes_small k x p (v ∷ vs) h = counts_small k x (pos 0) v p.rest (out-Value v) h

dolist_small : (k : ℕ) (x : Symbol) (p : Progress) (vs : List Value) → are_shallow k p.rest ≡ true → Small k (forms.dolist_row x p vs)
dolist_small k x p [] h = (omega arith, advanced_shallow k p h)
dolist_small k x p (v ∷ vs) h = lists_small k x 0 v p.rest (out-Value v) h

held_small : (k : ℕ) (m : Holder) (x : Symbol) (p : Progress) → are_shallow k p.rest ≡ true → Small k (forms.held_row m x p)
held_small k holder.DoTimes x p h = dotimes_small k x p p.values h
held_small k holder.DoList x p h = dolist_small k x p p.values h
held_small k holder.Defvar x p h = tt
held_small k holder.Defparameter x p h = tt

call_small : (k : ℕ) (g : Symbol) (vs : List Value) (o : Option Value) → Small k (forms.call_row g vs o)
call_small k g vs (Some v) = none_small k v
call_small k g vs None = tt

named_small : (k : ℕ) (current : List ℕ) (m : Named) (g : Symbol) (p : Progress) → is_listed_named current m g p.values ≡ true → Small k (forms.named_row m g p)
named_small k current named.Call g p l = call_small k g p.values (alone g p.values)
named_small k current named.Block g p l = absurd (false≢true l)
named_small k current named.ReturnFrom g p l = absurd (false≢true l)

form_small : (k : ℕ) (current : List ℕ) (c : Context) (r : Row) (p : Progress) → is_listed_form current c r p ≡ true → are_shallow k p.rest ≡ true → Small k (forms.form_by c r p)
form_small k current c (row.Bare b) p l h = bare_small k b p l h
form_small k current c (row.Named m g) p l h = named_small k current m g p l
form_small k current c (row.Held m x) p l h = held_small k m x p h
form_small k current c (row.Variable x) p l h = variable_small k x (lexical x c)
form_small k current c (row.Setq xs) p l h = setq_small k c xs p p.values h
form_small k current c r p l h = absurd (false≢true l)

-- ---- the listed redexes have room

abbrev HasRoomFor : Context → Decision → Type 0
HasRoomFor c x = option_map_or (has_room c) (decided_alone x) true ≡ true

small_room : (k : ℕ) (c : Context) (x : Decision) → Ample k c → Small k x → HasRoomFor c x
small_room k c (Alone a) ample s = act_room k c a ample s
small_room k c (Beyond g) ample s = refl

marker_room : (k : ℕ) (rules : Rules) (p : Plain) (c : Context) (v : Value) → is_listed_plain p ≡ true → Ample k c → HasRoomFor (frame.On p ∷ c) (given_row rules (frame.On p ∷ c) (outcome.Value v))
marker_room k rules (plain.Before f) c v l ample = refl
marker_room k rules (plain.Lexical x w) c v l ample = outcome_room k c v ample
marker_room k rules (plain.Block name) c v l ample = outcome_room k c v ample
marker_room k rules (plain.Call g vs) c v l ample = outcome_room k c v ample
marker_room k rules p c v l ample = absurd (false≢true l)

given_room : (k : ℕ) (rules : Rules) (c : Context) (v : Value) → is_listed_marker c ≡ true → k + 2 ≤ room c + 1 → list_all (is_layer_shallow k) c ≡ true → HasRoomFor c (given_row rules c (outcome.Value v))
given_room k rules (frame.On p ∷ c) v l m h =
    marker_room k rules p c v l (record { many = omega (arith, m); shallow = and_right (is_layer_shallow k (frame.On p)) (list_all (is_layer_shallow k) c) h })
given_room k rules c v l m h = absurd (false≢true l)

decided_room : (k : ℕ) (rules : Rules) (current : List ℕ) (c : Context) (f : Focus) → is_listed current c f ≡ true → 1 ≤ k → k + 2 ≤ layers_left c f → list_all (is_layer_shallow k) c ≡ true → is_redex_shallow k f ≡ true → HasRoomFor c (decide rules c f)
decided_room k rules current c (focus.Given (outcome.Value v)) l q m h g = given_room k rules c v l m h
decided_room k rules current c (focus.Form p) l q m h g = small_room k c (decide rules c (focus.Form p)) (record { many = omega (arith, q, m); shallow = h }) (form_small k current c p.row p l g)
decided_room k rules current c (focus.Loop es) l q m h g = small_room k c (decide rules c (focus.Loop es)) (record { many = omega (arith, q, m); shallow = h }) (omega arith, body_shallow k es g)
decided_room k rules current c (focus.DoTimes x i count es) l q m h g = small_room k c (decide rules c (focus.DoTimes x i count es)) (record { many = omega (arith, q, m); shallow = h }) (counts_small k x i count es (out-Value count) g)
decided_room k rules current c (focus.DoList x i list es) l q m h g = small_room k c (decide rules c (focus.DoList x i list es)) (record { many = omega (arith, q, m); shallow = h }) (lists_small k x i list es (out-Value list) g)
decided_room k rules current c (focus.Apply s vs) l q m h g = small_room k c (decide rules c (focus.Apply s vs)) (record { many = omega (arith, q, m); shallow = h }) (call_small k s vs (alone s vs))
decided_room k rules current c f l q m h g = absurd (false≢true l)

pub listed_room : (k : ℕ) (rules : Rules) (current : List ℕ) (c : Context) (f : Focus) → is_listed current c f ≡ true → 1 ≤ k → k + 2 ≤ layers_left c f → has_shallow_forms k c f ≡ true → step_has_room rules c f ≡ true
listed_room k rules current c f l q m h =
    decided_room k rules current c f l q m (and_left (list_all (is_layer_shallow k) c) (is_redex_shallow k f) h) (and_right (list_all (is_layer_shallow k) c) (is_redex_shallow k f) h)
