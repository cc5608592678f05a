-- Each act keeps the facts, where it fits its place.
use Rattle.std.proofs.Common.{◌≡◌, ℕ, ℤ, Bool, true, false, List, [], ◌∷◌, map, Option, Some, None, refl, sym, subst}
use Rattle.std.specs.Prelude.{if◌then◌else◌, slice_get}
use Rattle.std.proofs.lemmas.Bool.{false≢true}
use Rattle.lisp_data.specs.declared.sexp.Sexp.{Sexp}
use Rattle.lisp_data.specs.declared.symbol.Symbol.{Symbol}
use Rattle.lisp_data.specs.declared.value.Value.{Value}
use Rattle.mailboxes.specs.Mail.{first_accepted}
use Rattle.rpc_messages.specs.Waiting.{accepted}
use Rattle.rpc_messages.specs.declared.from_emacs.FromEmacs.{FromEmacs}
use Rattle.rpc_messages.specs.declared.from_emacs.FromEmacs.TheVariants as mail
use Rattle.rpc_messages.specs.declared.from_emacs.ThreadName.{ThreadName}
use Rattle.rpc_messages.specs.declared.pattern.Pattern.{Pattern}
use Rattle.rpc_messages.specs.declared.pattern.Pattern.TheVariants as pattern
use Rattle.syntax_trees.specs.declared.ast.Ast.{Ast}
use Rattle.syntax_trees.specs.Places.{forms_of, row_of}
use Rattle.term_model.specs.declared.end.End.{End}
use Rattle.term_model.specs.declared.end.End.TheVariants as end
use Rattle.term_model.specs.declared.focus.Focus.TheVariants as focus
use Rattle.term_model.specs.declared.found.Found.{Found}
use Rattle.term_model.specs.declared.frame.Frame.{Frame}
use Rattle.term_model.specs.declared.frame.Frame.TheVariants as frame
use Rattle.term_model.specs.declared.kept.Bring.{Bring}
use Rattle.term_model.specs.declared.kept.Bring.TheVariants as bring
use Rattle.term_model.specs.declared.kept.Outcome.{Outcome}
use Rattle.term_model.specs.declared.plain.Cluster.TheVariants.{Clauses}
use Rattle.term_model.specs.declared.plain.Plain.{Plain}
use Rattle.term_model.specs.declared.plain.Plain.TheVariants as plain
use Rattle.term_model.specs.declared.question.Ask.{Ask}
use Rattle.term_model.specs.declared.question.Ask.TheVariants as question
use Rattle.term_model.specs.declared.restart.Action.{Action}
use Rattle.term_model.specs.declared.restart.Action.TheVariants.{Give, Run}
use Rattle.term_model.specs.declared.restart.Offer.{Offer}
use Rattle.term_model.specs.Exit.{stir}
use Rattle.lisp_data.specs.Parts.{nil}
use Rattle.term_model.specs.GoingIn.{resumed}
use Rattle.term_model.specs.Search.{layer_at}
use Rattle.term_model.specs.Term.{Context}
use Rattle.term_model.specs.Variables.{with_dynamic, with_lexical}
use Rattle.step_model.specs.Act as act
use Rattle.step_model.specs.Act.{Act}
use Rattle.step_model.specs.CurrentPackage.{binds_package, bound_package}
use Rattle.step_model.specs.Facts.{FocusFits, IsSound, LayersFit, TargetFits, bares, waits}
use Rattle.step_model.specs.Now.{Mailbox, Now, around, tells}
use Rattle.step_model.specs.Perform.{after_leaving, assigns, assigns_or, awaited, clause_bound, condition_bound, exhausted, interrupted, lays, offering, opens, outward, package_bound, parameters_bound, perform, sets, sets_or, written}
use Rattle.step_model.specs.Roles.{Role, HandlerClause, RestartClause, role_of}
use Rattle.step_model.proofs.BareLemmas.{SameBares, bares-stir, bares-with_dynamic, bares-with_lexical}
use Rattle.step_model.proofs.Carrying.{Asked, Carries, Lands, Property, carries, is_answer, is_other, landing, left_by, of_action, of_call, of_clause, of_handler, of_offer, of_target}
use Rattle.step_model.proofs.FitLemmas.{FoundFits, OptionFits, Place, PlainsFit, Sound, body_fits, exhausted_place, lays_fits, look_fits, opens_fits, redex_stands, resumed_fits}
use Rattle.step_model.proofs.TargetFits.{LeavesWell, TodoFits, abort_fits, leaves_well}

-- what a law knows of a thread, and what it asks of an outcome that a row passes on
pub record Wanted : Type 1 where
  -- that the facts hold of the thread's term
  pub sure : Type 0
  pub passed : Outcome → Type 0

-- where the facts hold
abbrev pub known : Wanted
known = record { sure = Unit {0}; passed = λ o. Unit {0} }

-- a place inside a request, where the facts hold
pub record PlaceIf (w : Wanted) (d : Context) : Type 0 where
  pub layers : w.sure → LayersFit d
  pub busy : w.sure → waits d ≡ false

pub placed : {d : Context} → PlaceIf known d → Place d
placed h = record { layers = h.layers tt; busy = h.busy tt }

-- what an end asks of its place
abbrev pub EndFits : Wanted → End → Context → Type 0
EndFits w (end.Goes ps found) d = PlaceIf w d × (w.sure → PlainsFit ps d) × FoundFits found
EndFits w (end.Gives o) d = PlaceIf w d
EndFits w (end.Raises condition) d = PlaceIf w d
EndFits w (end.Resumes f) d = w.sure → LayersFit d × FocusFits f d
EndFits w (end.Passes o) d = PlaceIf w d × w.passed o
EndFits w (end.Protects e cleanup) d = PlaceIf w d
EndFits w (end.Asks kind text) d = PlaceIf w d
EndFits w (end.Opens condition) d = PlaceIf w d
EndFits w (end.Breaks o) d = PlaceIf w d
EndFits w (end.Exits x) d = (w.sure → LayersFit d) × TargetFits x.target x.bring d
EndFits w (end.Takes p) d = w.sure → LayersFit d × FocusFits (focus.Wait p) d
EndFits w end.Closes d = PlaceIf w d

-- what an act asks of its place
abbrev pub ActFits : Wanted → Act → Context → Type 0
ActFits w (act.Ends e) d = EndFits w e d
ActFits w (act.Outward a) d = ActFits w a (outward d)
ActFits w (act.Writes ws a) d = ActFits w a d
ActFits w (act.Changes image a) d = ActFits w a d
ActFits w (act.Inspects vs a) d = ActFits w a d
ActFits w (act.Assigns x v a) d = ActFits w a d
ActFits w (act.Sets x v a) d = ActFits w a d

-- ---- bindings

pub parameters_fit : (xs : List Symbol) (vs : List Value) (d : Context) → waits d ≡ false → PlainsFit (parameters_bound xs vs) d
parameters_fit [] vs d e = tt
parameters_fit (x ∷ xs) [] d e = (e, parameters_fit xs [] (frame.On (plain.Lexical x nil) ∷ d) refl)
parameters_fit (x ∷ xs) (v ∷ vs) d e = (e, parameters_fit xs vs (frame.On (plain.Lexical x nil) ∷ d) refl)

condition_fits : (x : Option Symbol) (vs : List Value) (d : Context) → waits d ≡ false → PlainsFit (condition_bound x vs) d
condition_fits None vs d e = tt
condition_fits (Some x) vs d e = (e, tt)

package_fits : (b : Bool) (v : Value) (d : Context) → waits d ≡ false → PlainsFit (package_bound b v) d
package_fits true v d e = (e, tt)
package_fits false v d e = tt

-- ---- a property of threads that open so many levels

abbrev At : ℕ → Now → Type 0
At k n = (n.most ≡ k) × Place (bares n.context)

abbrev facts : ℕ → Property
facts k = record {
  inner = At k;
  passing = At k;
  stands = At k;
  holds = At k;
  done = λ n. IsSound k n.context n.redex;
  markers = λ ps n. PlainsFit ps (bares n.context);
  form = FoundFits;
  outcome = λ o. Unit {0};
  passed = λ o. Unit {0};
  exit = λ target b n. (n.most ≡ k) × LayersFit (bares n.context) × TargetFits target b (bares n.context);
  waiting = λ q n. (n.most ≡ k) × LayersFit (bares n.context) × FocusFits (focus.Wait q) (bares n.context);
}

-- ---- exits

clause_bound_fit : (r : Role) (vs : List Value) (d : Context) → waits d ≡ false → PlainsFit (clause_bound r vs) d
clause_bound_fit (HandlerClause x) vs d e = condition_fits x vs d e
clause_bound_fit (RestartClause name parameters report) vs d e = parameters_fit parameters vs d e
clause_bound_fit r vs d e = tt

module _ (k : ℕ) (n : Now) where
  clause_lands : (clause : Ast) (vs : List Value) → At k n → Lands (facts k) (of_clause clause vs) n
  clause_lands clause vs h = (h, clause_bound_fit (role_of (row_of clause)) vs (bares n.context) h.1.busy, body_fits (forms_of clause))

  handler_lands : (clause : Option Ast) (vs : List Value) → At k n → Lands (facts k) (of_handler clause vs) n
  handler_lands None vs h = (h, tt)
  handler_lands (Some clause) vs h = clause_lands clause vs h

  action_lands : (action : Action) (vs : List Value) → At k n → Lands (facts k) (of_action action vs) n
  action_lands (Give o) vs h = (h, tt)
  action_lands (Run clause) vs h = clause_lands clause vs h

  offer_lands : (offer : Option Offer) (vs : List Value) → At k n → Lands (facts k) (of_offer offer vs) n
  offer_lands None vs h = (h, tt)
  offer_lands (Some offer) vs h = action_lands offer.action vs h

  target_lands : (target : Option Frame) (i : ℕ) (vs : List Value) → At k n → Lands (facts k) (of_target target i vs) n
  target_lands (Some (frame.On (plain.Handlers (Clauses clauses)))) i vs h = handler_lands (slice_get clauses i) vs h
  target_lands (Some (frame.On (plain.Restarts offers))) i vs h = offer_lands (slice_get offers i) vs h
  target_lands target i vs h = (h, tt)

  call_lands : (target : Option Frame) → At k n → Lands (facts k) (of_call target) n
  call_lands (Some (frame.On (plain.Call g vs))) h = (h, tt, refl)
  call_lands target h = (h, tt)

  lands_fit : (b : Bring) (target : Option Frame) (todo : Option (List Ast)) → n.most ≡ k → LayersFit (bares n.context) → TodoFits b todo (bares n.context) → Lands (facts k) (landing b target todo) n
  lands_fit b target (Some cleanup) m h e = ((m, record { layers = h; busy = e }), tt, body_fits cleanup)
  lands_fit (bring.Value v) target None m h e = ((m, record { layers = h; busy = e }), tt)
  lands_fit (bring.Reply r) target None m h e = ((m, record { layers = h; busy = e }), tt)
  lands_fit (bring.Clause i vs) target None m h e = target_lands target i vs (m, record { layers = h; busy = e })
  lands_fit bring.Call target None m h e = call_lands target (m, record { layers = h; busy = e })
  lands_fit bring.Nothing target None m h e = record { layers = h; redex = e }

exits_fit : (k : ℕ) (n : Now) (target : ℕ) (b : Bring) → (facts k).exit target b n → Lands (facts k) (landing b (layer_at target n.context) (left_by n target b).todo) (after_leaving n (left_by n target b))
exits_fit k n target b h =
    let left = left_by n target b in
    let well : LeavesWell n.thread target b n.context = leaves_well n.thread target b n.context h.1 h.2 in
    let same : bares left.around ≡ bares (stir left.stirred left.around) = sym (bares-stir left.stirred left.around) in
    lands_fit k (after_leaving n left) b (layer_at target n.context) left.todo h.0 (subst LayersFit same well.layers) (subst (λ d. TodoFits b left.todo d) same well.todo)

-- ---- messages

accepted_if : (p : Pattern) (x : ℕ × FromEmacs) (mb : Mailbox) (m : ℕ × FromEmacs) (b : Bool) → accepted p x.1 ≡ b → (if b then Some x else first_accepted p mb) ≡ Some m → (first_accepted p mb ≡ Some m → accepted p m.1 ≡ true) → accepted p m.1 ≡ true
accepted_if p x mb m true is e go = let same : x ≡ m = cc in subst (λ (y : ℕ × FromEmacs). accepted p y.1 ≡ true) same is
accepted_if p x mb m false is e go = go e

pub first_is_accepted : (p : Pattern) (mb : Mailbox) (m : ℕ × FromEmacs) → first_accepted p mb ≡ Some m → accepted p m.1 ≡ true
first_is_accepted p [] m e = absurd (cc)
first_is_accepted p (x ∷ mb) m e = accepted_if p x mb m (accepted p x.1) refl e (first_is_accepted p mb m)

-- a request is taken where one is awaited, an answer elsewhere, and no other message anywhere
pub request_awaited : (q : Pattern) (form : Sexp) (package' : Option (List ℕ)) (thread : ThreadName) (id : ℤ) (d : Context) → accepted q (mail.Rex form package' thread id) ≡ true → FocusFits (focus.Wait q) d → waits d ≡ true
request_awaited pattern.Rex form package' thread id d a h = h
request_awaited (pattern.StringFor tag) form package' thread id d a h = absurd (false≢true a)
request_awaited (pattern.ValueFor tag) form package' thread id d a h = absurd (false≢true a)

answer_awaited : (q : Pattern) (m : FromEmacs) (d : Context) → accepted q m ≡ true → is_answer m ≡ true → FocusFits (focus.Wait q) d → waits d ≡ false
answer_awaited (pattern.StringFor tag) m d a e h = h
answer_awaited (pattern.ValueFor tag) m d a e h = h
answer_awaited pattern.Rex (mail.ReturnString thread tag text) d a e h = absurd (false≢true a)
answer_awaited pattern.Rex (mail.Return thread tag form) d a e h = absurd (false≢true a)
answer_awaited pattern.Rex m d a e h = absurd (false≢true e)

pub none_awaited : (q : Pattern) (m : FromEmacs) → accepted q m ≡ true → is_other m ≡ true → ⊥
none_awaited pattern.Rex (mail.Interrupt thread) a e = false≢true a
none_awaited (pattern.StringFor tag) (mail.Interrupt thread) a e = false≢true a
none_awaited (pattern.ValueFor tag) (mail.Interrupt thread) a e = false≢true a
none_awaited pattern.Rex (mail.Unreadable packet text) a e = false≢true a
none_awaited (pattern.StringFor tag) (mail.Unreadable packet text) a e = false≢true a
none_awaited (pattern.ValueFor tag) (mail.Unreadable packet text) a e = false≢true a
none_awaited q m a e = false≢true e

-- ---- acts

still : (k : ℕ) (n m : Now) → n.most ≡ k → Sound n m → IsSound k m.context m.redex
still k n m e h = subst (λ j. IsSound j m.context m.redex) e h

resumed_place : (k : ℕ) (n : Now) (q : Plain) (c : Context) (o : Option Found) (found : Found) → o ≡ Some found → OptionFits q o → At k (around n (frame.On q ∷ c)) → At k (around n c) × FoundFits found
resumed_place k n q c o found e f h =
    let g : OptionFits q (Some found) = subst (OptionFits q) e f in ((h.0, record { layers = h.1.layers.1; busy = g.1 (bares c) h.1.layers.0 }), g.0)

awaited_fits : (kind : Ask) (tag : ℕ) (d : Context) → waits d ≡ false → FocusFits (focus.Wait (awaited kind tag)) d
awaited_fits question.String tag d e = e
awaited_fits question.YesNo tag d e = e

carries_facts : (k : ℕ) → Carries (facts k)
carries_facts k = record {
  passes = λ n h. h;
  redex = λ n h. h;
  place = λ n h. h;
  value = λ v. tt;
  bare = λ n. tt;
  whole = body_fits;
  part = look_fits;
  gives = λ n o h. record { layers = h.0.1.layers; redex = h.0.1.busy };
  lays = λ n ps found h. still k n (lays n ps found) h.0.0 (lays_fits n ps found h.0.1 h.1 h.2);
  resumes = λ n q c v found e h. resumed_place k n q c (resumed q v) found e (resumed_fits q v) h;
  exits = exits_fit k;
  aborts = λ n h. (h.0, h.1.layers, abort_fits n.context);
  debugs = λ n condition e h. still k n (opens n condition) h.0 (opens_fits n condition h.1);
  breaks = λ n o e h g. still k n (opens (offering n o) interrupted) h.0 (opens_fits (offering n o) interrupted (record { layers = (h.1.busy, h.1.layers); busy = refl }));
  exhausts = λ n h. still k n (exhausted n) h.0 (exhausted_place n h.1);
  turns = λ n i cleanup c o h g. (h.0, record { layers = h.1.layers; busy = refl });
  keeps = λ n i c o h. ((h.0, record { layers = h.1.layers.1; busy = h.1.layers.0 }), tt);
  leaves = λ n i c target b h. (h.0, h.1.layers.1, h.1.layers.0.1);
  replies = λ n at id form c r h g e. record { layers = h.1.layers.1; redex = h.1.layers.0 };
  protects = λ n space cleanup e h. (h.0, record { layers = (h.1.busy, h.1.layers); busy = refl });
  protects_value = λ n v cleanup h. record { layers = (h.1.busy, h.1.layers); redex = refl };
  asks = λ n space kind text e h. record { layers = (h.1.busy, h.1.layers); redex = awaited_fits kind n.tag (frame.Ask kind n.tag ∷ bares n.context) refl };
  closes = λ n h. record { layers = h.1.layers; redex = h.1.busy };
  waits = λ n q h. record { layers = h.1; redex = redex_stands k (focus.Wait q) (bares n.context) h.2 };
  begins = λ n q i form package' thread id e h.
      let d : Context = frame.Rex i id form ∷ bares n.context in
      let awaited = request_awaited q form package' thread id (bares n.context) (first_is_accepted q n.mailbox (i, mail.Rex form package' thread id) e) h.2 in
      ((h.0, record { layers = (awaited, h.1); busy = refl }), package_fits (binds_package form) (bound_package n.image package') d refl, refl);
  answers = λ n q i m e a h. (h.0, record { layers = h.1; busy = answer_awaited q m (bares n.context) (first_is_accepted q n.mailbox (i, m) e) a h.2 });
  hears = λ n q i m e a h. absurd (none_awaited q m (first_is_accepted q n.mailbox (i, m) e) a);
}

end_asks : (n : Now) (e : End) → EndFits known e (bares n.context) → Asked (facts n.most) e n
end_asks n (end.Goes ps found) h = ((refl, placed h.0), h.1 tt, h.2)
end_asks n (end.Gives o) h = ((refl, placed h), tt)
end_asks n (end.Raises condition) h = ((refl, placed h), (h.busy tt, tt), refl)
end_asks n (end.Resumes f) h = record { layers = (h tt).0; redex = redex_stands n.most f (bares n.context) (h tt).1 }
end_asks n (end.Passes o) h = ((refl, placed h.0), tt, tt)
end_asks n (end.Protects e cleanup) h = (refl, placed h)
end_asks n (end.Asks kind text) h = (refl, placed h)
end_asks n (end.Opens condition) h = (refl, placed h)
end_asks n (end.Breaks o) h = ((refl, placed h), tt)
end_asks n (end.Exits x) h = (refl, h.0 tt, h.1)
end_asks n (end.Takes p) h = (refl, (h tt).0, (h tt).1)
end_asks n end.Closes h = (refl, placed h)

-- the place after an assignment
pub sets_same : (n : Now) (x : Symbol) (v : Value) (o : Option Context) → SameBares n.context o → bares (sets_or n x v o).context ≡ bares n.context
sets_same n x v (Some c) e = e
sets_same n x v None e = refl

pub assigns_same : (n : Now) (x : Symbol) (v : Value) (o : Option Context) → SameBares n.context o → bares (assigns_or n x v o).context ≡ bares n.context
assigns_same n x v (Some c) e = e
assigns_same n x v None e = sets_same n x v (with_dynamic x v n.context) (bares-with_dynamic x v n.context)

-- assigning changes no number of levels
sets_most : (n : Now) (x : Symbol) (v : Value) (o : Option Context) → (sets_or n x v o).most ≡ n.most
sets_most n x v (Some c) = refl
sets_most n x v None = refl

assigns_most : (n : Now) (x : Symbol) (v : Value) (o : Option Context) → (assigns_or n x v o).most ≡ n.most
assigns_most n x v (Some c) = refl
assigns_most n x v None = sets_most n x v (with_dynamic x v n.context)

pub bares-outward : (c : Context) → bares (outward c) ≡ outward (bares c)
bares-outward [] = refl
bares-outward (frame.On p ∷ c) = refl
bares-outward (frame.Protect k cleanup ∷ c) = refl
bares-outward (frame.Cleanup k kept ∷ c) = refl
bares-outward (frame.Rex i id form ∷ c) = refl
bares-outward (frame.Sldb m condition again ∷ c) = refl
bares-outward (frame.Ask kind tag ∷ c) = refl

pub perform_fits : (n : Now) (a : Act) → ActFits known a (bares n.context) → Sound n (perform n a)
perform_fits n (act.Ends e) h = carries (facts n.most) (carries_facts n.most) n e (end_asks n e h)
perform_fits n (act.Outward a) h = perform_fits (around n (outward n.context)) a (subst (λ d. ActFits known a d) (sym (bares-outward n.context)) h)
perform_fits n (act.Writes ws a) h = perform_fits (tells n (map written ws)) a h
perform_fits n (act.Changes image a) h = perform_fits (record n { image = image }) a h
perform_fits n (act.Inspects vs a) h = perform_fits (record n { inspected = vs }) a h
perform_fits n (act.Assigns x v a) h =
    let m = perform (assigns n x v) a in
    subst (λ k. IsSound k m.context m.redex) (assigns_most n x v (with_lexical x v n.context)) (perform_fits (assigns n x v) a (subst (λ d. ActFits known a d) (sym (assigns_same n x v (with_lexical x v n.context) (bares-with_lexical x v n.context))) h))
perform_fits n (act.Sets x v a) h =
    let m = perform (sets n x v) a in
    subst (λ k. IsSound k m.context m.redex) (sets_most n x v (with_dynamic x v n.context)) (perform_fits (sets n x v) a (subst (λ d. ActFits known a d) (sym (sets_same n x v (with_dynamic x v n.context) (bares-with_dynamic x v n.context))) h))
