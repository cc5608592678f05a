-- A step is of its thread, and says that it is over only at the top.
use Rattle.std.proofs.Common.{◌≡◌, ℕ, Bool, true, false, List, [], ◌∷◌, map, Option, Some, None, refl, sym, ◌∙◌}
use Rattle.lisp_data.specs.declared.symbol.Symbol.{Symbol}
use Rattle.lisp_data.specs.declared.value.Value.{Value}
use Rattle.rpc_messages.specs.declared.pattern.Pattern.TheVariants as pattern
use Rattle.term_model.specs.declared.end.End.{End}
use Rattle.term_model.specs.declared.focus.Focus.{Focus}
use Rattle.term_model.specs.declared.focus.Focus.TheVariants as focus
use Rattle.term_model.specs.declared.found.Found.{Found}
use Rattle.term_model.specs.declared.frame.Frame.{Frame}
use Rattle.term_model.specs.declared.frame.Frame.TheVariants as frame
use Rattle.term_model.specs.declared.plain.Plain.{Plain}
use Rattle.term_model.specs.Breaks.{may_open}
use Rattle.term_model.specs.Exit.{stir}
use Rattle.term_model.specs.Room.{is_within, room, wrap}
use Rattle.term_model.specs.Search.{layer_at}
use Rattle.term_model.specs.Term.{Context}
use Rattle.term_model.specs.Variables.{with_dynamic, with_lexical}
use Rattle.step_model.specs.Act as act
use Rattle.step_model.specs.Act.{Act}
use Rattle.step_model.specs.Now.{Now, around, tells}
use Rattle.step_model.specs.Perform.{carried, after_leaving, assigns, assigns_or, cut_off, exhausted_if, is_top, laid, lays, lays_if, outward, perform, sets, sets_or, written}
use Rattle.step_model.specs.Rules.{Rules}
use Rattle.step_model.proofs.AsBuiltLemmas.{either_way}
use Rattle.step_model.proofs.Carrying.{Carries, Free, carries, free, free_asks, free_lands, landing, left_by}
use Rattle.step_model.specs.AsBuilt.{leaving, limited, step_as_built}
use Rattle.step_model.specs.Step as the_step
use Rattle.step_model.specs.Table.{row}
use Rattle.step_model.specs.Step.{announced_at}

-- a step of thread t that isn't over
abbrev GoesOn : ℕ → Now → Type 0
GoesOn t n = (n.thread ≡ t) × (n.over ≡ false)

-- a step of thread t that is over at the top alone
abbrev pub IsOf : ℕ → Now → Type 0
IsOf t n = (n.thread ≡ t) × (n.over ≡ true → n.context ≡ [])

not_both : (b : Bool) → b ≡ false → b ≡ true → ⊥
not_both true e f = absurd (cc)
not_both false e f = absurd (cc)

goes_on : {t u : ℕ} {b : Bool} {c : Context} → (u ≡ t) × (b ≡ false) → (u ≡ t) × (b ≡ true → c ≡ [])
goes_on {b = b} h = (h.0, λ e. absurd (not_both b h.1 e))

exhausted_on : (t : ℕ) (n : Now) (b : Bool) → GoesOn t n → GoesOn t (exhausted_if b n)
exhausted_on t n true h = h
exhausted_on t n false h = h

laid_on : (t : ℕ) (n : Now) (o : Option Focus) → GoesOn t n → GoesOn t (laid n o)
laid_on t n (Some f) h = h
laid_on t n None h = exhausted_on t n (may_open n.most n.context) h

lays_if_on : (t : ℕ) (n : Now) (b : Bool) (ps : List Plain) (found : Found) → GoesOn t n → GoesOn t (lays_if b n ps found)
lays_if_on t n true ps found h = let e = wrap (room n.context) n.context ps found in laid_on t (around n e.around) e.redex h
lays_if_on t n false ps found h = exhausted_on t (around n (cut_off n.context)) (may_open n.most (cut_off n.context)) h

lays_on : (t : ℕ) (n : Now) (ps : List Plain) (found : Found) → GoesOn t n → GoesOn t (lays n ps found)
lays_on t n ps found h = lays_if_on t n (is_within n.context) ps found h

top : (c : Context) → is_top c ≡ true → c ≡ []
top [] e = refl
top (l ∷ c) e = absurd (cc)

abbrev of_thread : ℕ → Free
of_thread t = record { calm = GoesOn t; stands = GoesOn t; done = IsOf t; passed = λ o. Unit {0} }

carries_on : (t : ℕ) → Carries (free (of_thread t))
carries_on t = record {
  passes = λ n h. h;
  redex = λ n h. h;
  place = λ n h. h;
  value = λ v. tt;
  bare = λ n. tt;
  whole = λ es. tt;
  part = λ e. tt;
  gives = λ n o h. goes_on h.0;
  lays = λ n ps found h. goes_on (lays_on t n ps found h.0);
  resumes = λ n q c v found e h. (h, tt);
  exits = λ n target b h.
      let left = left_by n target b in
      free_lands (of_thread t) (after_leaving n left) (landing b (layer_at target n.context) left.todo) h (h.0, top (stir left.stirred left.around));
  aborts = λ n h. h;
  debugs = λ n condition e h. goes_on h;
  breaks = λ n o e h g. goes_on h;
  exhausts = λ n h. goes_on (exhausted_on t n (may_open n.most n.context) h);
  turns = λ n i cleanup c o h g. h;
  keeps = λ n i c o h. (h, tt);
  leaves = λ n i c target b h. h;
  replies = λ n at id form c r h g e. (h.0, top c);
  protects = λ n space cleanup e h. h;
  protects_value = λ n v cleanup h. goes_on h;
  asks = λ n space kind text e h. goes_on h;
  closes = λ n h. goes_on h;
  waits = λ n q h. goes_on h;
  begins = λ n q i form package' thread id e h. (h, tt, tt);
  answers = λ n q i m e a h. h;
  hears = λ n q i m e a h. goes_on h;
}

end_of : (t : ℕ) (n : Now) (e : End) → GoesOn t n → IsOf t (carried n e)
end_of t n e h = carries (free (of_thread t)) (carries_on t) n e (free_asks (of_thread t) n e (λ g. g) (λ f g. goes_on g) (λ o is. tt) h)

sets_on : (t : ℕ) (n : Now) (x : Symbol) (v : Value) (o : Option Context) → GoesOn t n → GoesOn t (sets_or n x v o)
sets_on t n x v (Some c) h = h
sets_on t n x v None h = h

assigns_on : (t : ℕ) (n : Now) (x : Symbol) (v : Value) (o : Option Context) → GoesOn t n → GoesOn t (assigns_or n x v o)
assigns_on t n x v (Some c) h = h
assigns_on t n x v None h = sets_on t n x v (with_dynamic x v n.context) h

perform_of : (t : ℕ) (n : Now) (a : Act) → GoesOn t n → IsOf t (perform n a)
perform_of t n (act.Ends e) h = end_of t n e h
perform_of t n (act.Outward a) h = perform_of t (around n (outward n.context)) a h
perform_of t n (act.Writes ws a) h = perform_of t (tells n (map written ws)) a h
perform_of t n (act.Changes image a) h = perform_of t (record n { image = image }) a h
perform_of t n (act.Inspects vs a) h = perform_of t (record n { inspected = vs }) a h
perform_of t n (act.Assigns x v a) h = perform_of t (assigns n x v) a (assigns_on t n x v (with_lexical x v n.context) h)
perform_of t n (act.Sets x v a) h = perform_of t (sets n x v) a (sets_on t n x v (with_dynamic x v n.context) h)

no_layer : (l : Frame) (c : Context) → l ∷ c ≡ [] → ⊥
no_layer l c e = absurd (cc)

announced_of : (t : ℕ) (n : Now) (c : Context) (f : Focus) → n.context ≡ c → IsOf t n → IsOf t (announced_at n c f)
announced_of t n (frame.Sldb m condition true ∷ c) (focus.Wait pattern.Rex) e h =
    (h.0, λ over. absurd (no_layer (frame.Sldb m condition true) c (sym e ∙ h.1 over)))
announced_of t n c f e h = h

carried_of_thread : (n : Now) (a : Act) → IsOf n.thread (the_step.carried_out n a)
carried_of_thread n a =
    let d = perform (the_step.begun n) a in
    announced_of n.thread d d.context d.redex refl (perform_of n.thread (the_step.begun n) a (refl, refl))

pub step_of_thread : (rules : Rules) (n : Now) → IsOf n.thread (step_as_built rules.built rules n)
step_of_thread rules n =
    let m = limited rules.built n in
    either_way (IsOf n.thread) rules.built rules n (carried_of_thread m (row rules m m.redex)) (carried_of_thread m (leaving n))
