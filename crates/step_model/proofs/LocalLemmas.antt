-- A step that a thread makes by itself is the step.
use Rattle.std.proofs.Common.{◌≡◌, Bool, true, false, ◌&&◌, List, [], ◌∷◌, Option, Some, None, refl, sym, ap, ◌∙◌, subst}
use Rattle.std.specs.Prelude.{not, is_some, option_map, option_and_then}
use Rattle.std.specs.Option.{option_map_or}
use Rattle.std.proofs.lemmas.Bool.{false≢true}
use Rattle.lisp_data.specs.declared.symbol.Symbol.{Symbol}
use Rattle.lisp_data.specs.declared.value.Value.{Value}
use Rattle.rpc_messages.specs.declared.pattern.Pattern.TheVariants as pattern
use Rattle.term_model.specs.declared.end.End.TheVariants as end
use Rattle.term_model.specs.declared.focus.Focus.{Focus}
use Rattle.term_model.specs.declared.focus.Focus.TheVariants as focus
use Rattle.term_model.specs.declared.found.Found.{Found}
use Rattle.term_model.specs.declared.found.Found.TheVariants.{Already, Here, Inside}
use Rattle.term_model.specs.declared.frame.Frame.TheVariants as frame
use Rattle.term_model.specs.declared.kept.Outcome.{Outcome}
use Rattle.term_model.specs.declared.kept.Outcome.TheVariants as outcome
use Rattle.term_model.specs.declared.plain.Plain.{Plain}
use Rattle.term_model.specs.GoingIn.{resumed}
use Rattle.term_model.specs.Room.{Entered, is_within, room, wrap}
use Rattle.term_model.specs.Term.{Context}
use Rattle.term_model.specs.Variables.{with_lexical}
use Rattle.step_model.specs.Act as act
use Rattle.step_model.specs.Act.{Act}
use Rattle.step_model.specs.Local.{Spot, found_has_room, has_room, have_room, is_announced, is_inside, is_local, is_local_act, is_of_term, is_quiet, of_term, outcome_has_room, resumed_has_room, spot_if, spot_of, step_alone}
use Rattle.step_model.specs.Now.{Now, around, puts}
use Rattle.step_model.specs.Perform.{assigns_or, given, gives_in, goes, laid, lays, lays_if, outward, perform}
use Rattle.step_model.specs.Rules.{Rules}
use Rattle.step_model.specs.Step.{announced_at, begun, step}
use Rattle.step_model.specs.Decision.{Decision, Alone, Beyond, decided, decided_alone}
use Rattle.step_model.specs.Table.{alone, decide}
use Rattle.step_model.specs.Table as table

-- ---- what an act makes of the term, None where it needs or changes more

abbrev pub entered_alone : Entered → Option Spot
entered_alone e = option_map (λ f. (e.around, f)) e.redex

abbrev pub lays_alone_if : Bool → Entered → Option Spot
lays_alone_if true e = entered_alone e
lays_alone_if false e = None

abbrev pub lays_alone : Context → List Plain → Found → Option Spot
lays_alone c ps found = lays_alone_if (is_within c) (wrap (room c) c ps found)

abbrev pub given_to : Plain → Context → Value → Option Found → Option Spot
given_to p c v (Some found) = lays_alone c [] found
given_to p c v None = Some (frame.On p ∷ c, focus.Given (outcome.Value v))

abbrev pub gives_alone : Context → Outcome → Option Spot
gives_alone (frame.On p ∷ c) (outcome.Value v) = given_to p c v (resumed p v)
gives_alone c o = Some (c, focus.Given o)

abbrev pub goes_alone : Context → List Plain → Found → Option Spot
goes_alone c [] (Already v) = gives_alone c (outcome.Value v)
goes_alone c ps found = lays_alone c ps found

abbrev pub performed_alone : Context → Act → Option Spot
performed_alone c (act.Ends (end.Goes ps found)) = goes_alone c ps found
performed_alone c (act.Ends (end.Gives o)) = gives_alone c o
performed_alone c (act.Ends (end.Resumes f)) = Some (c, f)
performed_alone c (act.Outward a) = performed_alone (outward c) a
performed_alone c (act.Assigns x v a) = option_and_then (λ d. performed_alone d a) (with_lexical x v c)
performed_alone c _ = None

-- what the term alone gives, where it gives something, is what the thread comes to
abbrev Gets : Option Spot → Now → Now → Type 0
Gets None n m = Unit {0}
Gets (Some s) n m = m ≡ puts n s.0 s.1

laid_alone : (n : Now) (e : Entered) → Gets (entered_alone e) n (laid (around n e.around) e.redex)
laid_alone n e = by (e.around) (e.redex)
  where
    by : (c : Context) (o : Option Focus) → Gets (option_map (λ f. (c, f)) o) n (laid (around n c) o)
    by c None = tt
    by c (Some f) = refl

lays_if_alone : (n : Now) (c : Context) (b : Bool) (ps : List Plain) (found : Found) → Gets (lays_alone_if b (wrap (room c) c ps found)) n (lays_if b (around n c) ps found)
lays_if_alone n c true ps found = laid_alone n (wrap (room c) c ps found)
lays_if_alone n c false ps found = tt

lays_is : (n : Now) (c : Context) (ps : List Plain) (found : Found) → Gets (lays_alone c ps found) n (lays (around n c) ps found)
lays_is n c ps found = lays_if_alone n c (is_within c) ps found

given_is : (n : Now) (p : Plain) (c : Context) (v : Value) (o : Option Found) → Gets (given_to p c v o) n (given n p c v o)
given_is n p c v (Some found) = lays_is n c [] found
given_is n p c v None = refl

gives_in_is : (n : Now) (c : Context) (o : Outcome) → Gets (gives_alone c o) n (gives_in n c o)
gives_in_is n (frame.On p ∷ c) (outcome.Value v) = given_is n p c v (resumed p v)
gives_in_is n c o = refl

goes_is : (n : Now) (ps : List Plain) (found : Found) → Gets (goes_alone n.context ps found) n (goes n ps found)
goes_is n [] (Already v) = gives_in_is n n.context (outcome.Value v)
goes_is n [] (Here f) = lays_is n n.context [] (Here f)
goes_is n [] (Inside p e) = lays_is n n.context [] (Inside p e)
goes_is n (p ∷ ps) found = lays_is n n.context (p ∷ ps) found

-- the same from another context of the same thread
gets_around : (o : Option Spot) (n : Now) (c : Context) (m : Now) → Gets o (around n c) m → Gets o n m
gets_around None n c m h = tt
gets_around (Some s) n c m h = h

assigned_is : (n : Now) (x : Symbol) (v : Value) (a : Act) (o : Option Context) → ((m : Now) → Gets (performed_alone m.context a) m (perform m a)) → Gets (option_and_then (λ d. performed_alone d a) o) n (perform (assigns_or n x v o) a)
assigned_is n x v a None go = tt
assigned_is n x v a (Some d) go = gets_around (performed_alone d a) n d (perform (around n d) a) (go (around n d))

performed_is : (n : Now) (a : Act) → Gets (performed_alone n.context a) n (perform n a)
performed_is n (act.Ends (end.Goes ps found)) = goes_is n ps found
performed_is n (act.Ends (end.Gives o)) = gives_in_is n n.context o
performed_is n (act.Ends (end.Resumes f)) = refl
performed_is n (act.Outward a) =
    gets_around (performed_alone (outward n.context) a) n (outward n.context) (perform (around n (outward n.context)) a) (performed_is (around n (outward n.context)) a)
performed_is n (act.Assigns x v a) = assigned_is n x v a (with_lexical x v n.context) (λ m. performed_is m a)
performed_is n a = tt

-- the thread once the act is carried out
pub act_spot : (n : Now) (a : Act) (s : Spot) → performed_alone n.context a ≡ Some s → perform n a ≡ puts n s.0 s.1
act_spot n a s e = subst (λ o. Gets o n (perform n a)) e (performed_is n a)

and_first : (a b : Bool) → (a && b) ≡ true → a ≡ true
and_first true b e = refl
and_first false b e = absurd (false≢true e)

announced_not : (n : Now) (c : Context) (f : Focus) → is_announced c f ≡ false → announced_at n c f ≡ n
announced_not n (frame.Sldb k condition true ∷ c) (focus.Wait pattern.Rex) e = absurd (false≢true (sym e))
announced_not n c f e = refl

-- what the term alone decides is decided
decided_is : (n : Now) (x : Decision) (a : Act) → decided_alone x ≡ Some a → decided n x ≡ a
decided_is n (Alone b) a e = cc
decided_is n (Beyond g) a e = absurd (cc)

-- the step of an act that the term alone decides
acted : (rules : Rules) (n : Now) (a : Act) (s : Spot) → alone rules n.context n.redex ≡ Some a → performed_alone n.context a ≡ Some s → is_announced s.0 s.1 ≡ false → step rules n ≡ puts (begun n) s.0 s.1
acted rules n a s is e quiet =
    let row_is : table.row rules n n.redex ≡ a = decided_is n (decide rules n.context n.redex) a is in
    let done : perform (begun n) a ≡ puts (begun n) s.0 s.1 = act_spot (begun n) a s e in
    ap (λ x. announced_at x x.context x.redex) (ap (λ x. perform (begun n) x) row_is ∙ done)
    ∙ announced_not (puts (begun n) s.0 s.1) s.0 s.1 quiet

-- ---- what has room is made

entered_made : (c : Context) (o : Option Focus) → is_some o ≡ true → is_some {T = Spot} (option_map (λ f. (c, f)) o) ≡ true
entered_made c (Some f) h = refl
entered_made c None h = absurd (false≢true h)

made_if : (b : Bool) (e : Entered) → (b && is_some (Entered.redex e)) ≡ true → is_some (lays_alone_if b e) ≡ true
made_if true e h = entered_made e.around e.redex h
made_if false e h = absurd (false≢true h)

lays_made : (c : Context) (ps : List Plain) (found : Found) → have_room c ps found ≡ true → is_some (lays_alone c ps found) ≡ true
lays_made c ps found h = made_if (is_within c) (wrap (room c) c ps found) h

given_made : (p : Plain) (c : Context) (v : Value) (o : Option Found) → resumed_has_room c o ≡ true → is_some (given_to p c v o) ≡ true
given_made p c v (Some found) h = lays_made c [] found h
given_made p c v None h = refl

outcome_made : (c : Context) (o : Outcome) → outcome_has_room c o ≡ true → is_some (gives_alone c o) ≡ true
outcome_made (frame.On p ∷ c) (outcome.Value v) h = given_made p c v (resumed p v) h
outcome_made c o h = refl

found_made : (c : Context) (ps : List Plain) (found : Found) → found_has_room c ps found ≡ true → is_some (goes_alone c ps found) ≡ true
found_made c [] (Already v) h = outcome_made c (outcome.Value v) h
found_made c [] (Here f) h = lays_made c [] (Here f) h
found_made c [] (Inside p e) h = lays_made c [] (Inside p e) h
found_made c (p ∷ ps) found h = lays_made c (p ∷ ps) found h

assigned_made : (a : Act) (o : Option Context) → ((d : Context) → is_of_term d a ≡ true → has_room d a ≡ true → is_some (performed_alone d a) ≡ true) → option_map_or (λ d. is_of_term d a) o false ≡ true → option_map_or (λ d. has_room d a) o true ≡ true → is_some (option_and_then (λ d. performed_alone d a) o) ≡ true
assigned_made a None go h g = absurd (false≢true h)
assigned_made a (Some d) go h g = go d h g

pub act_made : (c : Context) (a : Act) → is_of_term c a ≡ true → has_room c a ≡ true → is_some (performed_alone c a) ≡ true
act_made c (act.Ends (end.Goes ps found)) h g = found_made c ps found g
act_made c (act.Ends (end.Gives o)) h g = outcome_made c o g
act_made c (act.Ends (end.Resumes f)) h g = refl
act_made c (act.Outward a) h g = act_made (outward c) a h g
act_made c (act.Assigns x v a) h g = assigned_made a (with_lexical x v c) (λ d. act_made d a) h g
act_made c a h g = absurd (false≢true h)

-- ---- a local step

of_some : {A : Type 0} → (o : Option A) → is_some o ≡ true → (x : A) × (o ≡ Some x)
of_some (Some x) h = (x, refl)
of_some None h = absurd (false≢true h)

and_second : (a b : Bool) → (a && b) ≡ true → b ≡ true
and_second true b e = e
and_second false b e = absurd (false≢true e)

decided_local : {A : Type 0} → (test : A → Bool) (o : Option A) → option_map_or test o false ≡ true → (x : A) × (o ≡ Some x) × (test x ≡ true)
decided_local test (Some x) h = (x, refl, h)
decided_local test None h = absurd (false≢true h)

not_true : (b : Bool) → not b ≡ true → b ≡ false
not_true false h = refl
not_true true h = absurd (false≢true h)

-- what the act of a local redex makes of the term, which tells nothing
record Made (c : Context) (a : Act) : Type 0 where
  spot : Spot
  made : performed_alone c a ≡ Some spot
  quiet : is_announced spot.0 spot.1 ≡ false

made_of : (c : Context) (f : Focus) (a : Act) → is_local_act c f a ≡ true → Made c a
made_of c f a h =
    let more = and_second (is_of_term c a) (has_room c a && is_quiet (perform (of_term c f) a)) h in
    let s = of_some (performed_alone c a) (act_made c a (and_first (is_of_term c a) _ h) (and_first (has_room c a) _ more)) in
    let done : perform (of_term c f) a ≡ puts (of_term c f) s.0.0 s.0.1 = act_spot (of_term c f) a s.0 s.1 in
    record {
      spot = s.0;
      made = s.1;
      quiet = not_true (is_announced s.0.0 s.0.1) (sym (ap is_quiet done) ∙ and_second (has_room c a) (is_quiet (perform (of_term c f) a)) more);
    }

spot_if_is : (b : Bool) (s t : Spot) → spot_if b s ≡ Some t → (b ≡ true) × (s ≡ t)
spot_if_is true s t h = (refl, cc)
spot_if_is false s t h = absurd (cc)

-- a step that the thread makes by itself changes the term alone, as the table says
pub local_step : (rules : Rules) (n : Now) (s : Spot) → step_alone rules n.context n.redex ≡ Some s → step rules n ≡ puts (begun n) s.0 s.1
local_step rules n s h =
    let c = n.context in
    let f = n.redex in
    let is = spot_if_is (is_local rules c f) (spot_of (step rules (of_term c f))) s h in
    let x = decided_local (is_local_act c f) (alone rules c f) (and_second (is_inside c f) (option_map_or (is_local_act c f) (alone rules c f) false) is.0) in
    let m = made_of c f x.0 x.2 in
    let here : step rules (of_term c f) ≡ puts (of_term c f) m.spot.0 m.spot.1 = acted rules (of_term c f) x.0 m.spot x.1 m.made m.quiet in
    acted rules n x.0 m.spot x.1 m.made m.quiet ∙ ap (λ t. puts (begun n) t.0 t.1) (sym (ap spot_of here) ∙ is.1)
