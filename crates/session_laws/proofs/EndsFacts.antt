-- Only a step on a reply ends a request with a reply, and with that one.
use Rattle.std.proofs.Common.{◌≡◌, ℕ, zero, suc, ◌+◌, Bool, true, false, List, [], ◌∷◌, ◌++◌, map, Option, Some, None, subst}
use Rattle.lisp_data.specs.declared.symbol.Symbol.{Symbol}
use Rattle.lisp_data.specs.declared.value.Value.{Value}
use Rattle.lisp_data.specs.declared.value.Condition.{Condition}
use Rattle.rpc_messages.specs.declared.pattern.Pattern.{Pattern}
use Rattle.rpc_messages.specs.declared.pattern.Pattern.TheVariants as pattern
use Rattle.term_model.specs.declared.end.End.{End}
use Rattle.term_model.specs.declared.end.End.TheVariants as end
use Rattle.term_model.specs.declared.focus.Focus.{Focus}
use Rattle.term_model.specs.declared.focus.Focus.TheVariants as focus
use Rattle.term_model.specs.declared.found.Found.{Found}
use Rattle.term_model.specs.declared.frame.Frame.{Frame}
use Rattle.term_model.specs.declared.frame.Frame.TheVariants as frame
use Rattle.term_model.specs.declared.kept.Bring.{Bring}
use Rattle.term_model.specs.declared.kept.Outcome.{Outcome}
use Rattle.term_model.specs.declared.kept.Saved.{Saved}
use Rattle.term_model.specs.declared.kept.Saved.TheVariants as saved
use Rattle.term_model.specs.declared.plain.Plain.{Plain}
use Rattle.term_model.specs.declared.question.Ask.TheVariants as question
use Rattle.rpc_messages.specs.declared.to_emacs.Returned.TheVariants as returned
use Rattle.rpc_messages.specs.declared.to_emacs.ToEmacs.TheVariants as message
use Rattle.lisp_errors.specs.Causes.{stack_exhausted}
use Rattle.step_model.specs.Announcing.{announcement}
use Rattle.session_laws.specs.EndsWithItsReply.{EndsOnly, EndsWithItsReply}
use Rattle.term_model.specs.Breaks.{may_open}
use Rattle.term_model.specs.Exit.{distance, dropped, leave}
use Rattle.term_model.specs.Label.{Label, Routed, Took, Ended, Swept, Refused, Out, Opened, Closed, Cleanup, Broke}
use Rattle.term_model.specs.Room.{is_within, levels, room, wrap}
use Rattle.term_model.specs.Search.{layer_at}
use Rattle.term_model.specs.Term.{Context}
use Rattle.term_model.specs.Variables.{with_dynamic, with_lexical}
use Rattle.step_model.specs.Act as act
use Rattle.step_model.specs.Act.{Act}
use Rattle.step_model.specs.Facts.{bares}
use Rattle.step_model.specs.Now.{Now, around, tells}
use Rattle.step_model.specs.Perform.{offering, carried, asking, interrupted, opens, after_leaving, assigns, assigns_or, cut_off, exhausted_if, laid, lays, lays_if, outward, perform, sets, sets_or, took, written}
use Rattle.step_model.specs.Rules.{Rules, Writing, Output, NewPackage}
use Rattle.step_model.proofs.AsBuiltLemmas.{either_way}
use Rattle.step_model.proofs.Carrying.{Carries, Free, carries, free, free_asks, free_lands, landing, left_by}
use Rattle.step_model.proofs.PerformFits.{ActFits, EndFits, Wanted}
use Rattle.step_model.proofs.RowFits.{row_wanted}
use Rattle.step_model.proofs.TargetFits.{abort_fits}
use Rattle.step_model.specs.AsBuilt.{leaving, limited}
use Rattle.step_model.specs.Step as the_step
use Rattle.step_model.specs.Table.{row}
use Rattle.step_model.specs.Step.{announced_at}

-- a request ends with a reply only where this redex is that reply
abbrev Says : Focus → Now → Type 0
Says g n = EndsOnly g n.labels

more : (g : Focus) (a b : List Label) → EndsOnly g a → EndsOnly g b → EndsOnly g (a ++ b)
more g [] b h k = k
more g (Ended t i (returned.Ok reply) ∷ a) b h k = (h.0, more g a b h.1 k)
more g (Ended t i returned.Abort ∷ a) b h k = more g a b h k
more g (Routed t i m ∷ a) b h k = more g a b h k
more g (Took t i p ∷ a) b h k = more g a b h k
more g (Swept t i ∷ a) b h k = more g a b h k
more g (Refused i ∷ a) b h k = more g a b h k
more g (Out m ∷ a) b h k = more g a b h k
more g (Opened t m ∷ a) b h k = more g a b h k
more g (Closed t m ∷ a) b h k = more g a b h k
more g (Cleanup t m ∷ a) b h k = more g a b h k
more g (Broke t ∷ a) b h k = more g a b h k

dropped_says : (g : Focus) (t : ℕ) (l : Frame) → EndsOnly g (dropped t l)
dropped_says g t (frame.On p) = tt
dropped_says g t (frame.Protect k cleanup) = tt
dropped_says g t (frame.Cleanup k kept) = tt
dropped_says g t (frame.Rex i id form) = tt
dropped_says g t (frame.Sldb m condition again) = tt
dropped_says g t (frame.Ask question.String tag) = tt
dropped_says g t (frame.Ask question.YesNo tag) = tt

leave_says : (g : Focus) (t : ℕ) (exit : Saved) (d : ℕ) (c : Context) → EndsOnly g (leave t exit d c).labels
leave_says g t exit zero c = tt
leave_says g t exit (suc d) [] = tt
leave_says g t exit (suc d) (frame.Protect k cleanup ∷ c) = tt
leave_says g t exit (suc d) (frame.On p ∷ c) = leave_says g t exit d c
leave_says g t exit (suc d) (frame.Cleanup k kept ∷ c) = leave_says g t exit d c
leave_says g t exit (suc d) (frame.Rex i id form ∷ c) = leave_says g t exit d c
leave_says g t exit (suc d) (frame.Sldb m condition again ∷ c) = leave_says g t exit d c
leave_says g t exit (suc d) (frame.Ask kind tag ∷ c) = more g (dropped t (frame.Ask kind tag)) (leave t exit d c).labels (dropped_says g t (frame.Ask kind tag)) (leave_says g t exit d c)

written_says : (g : Focus) (ws : List Writing) → EndsOnly g (map written ws)
written_says g [] = tt
written_says g (Output text repl_result ∷ ws) = written_says g ws
written_says g (NewPackage name prompt ∷ ws) = written_says g ws

opens_says : (g : Focus) (n : Now) (condition : Condition) → Says g n → Says g (opens n condition)
opens_says g n condition h = more g n.labels (Opened n.thread (levels n.context + 1) ∷ announcement n (levels n.context + 1) condition n.context) h tt

exhausted_says : (g : Focus) (n : Now) (b : Bool) → Says g n → Says g (exhausted_if b n)
exhausted_says g n true h = opens_says g n stack_exhausted h
exhausted_says g n false h = h

laid_says : (g : Focus) (n : Now) (o : Option Focus) → Says g n → Says g (laid n o)
laid_says g n (Some f) h = h
laid_says g n None h = exhausted_says g n (may_open n.most n.context) h

lays_if_says : (g : Focus) (n : Now) (b : Bool) (ps : List Plain) (found : Found) → Says g n → Says g (lays_if b n ps found)
lays_if_says g n true ps found h = let e = wrap (room n.context) n.context ps found in laid_says g (around n e.around) e.redex h
lays_if_says g n false ps found h = exhausted_says g (around n (cut_off n.context)) (may_open n.most (cut_off n.context)) h

lays_says : (g : Focus) (n : Now) (ps : List Plain) (found : Found) → Says g n → Says g (lays n ps found)
lays_says g n ps found h = lays_if_says g n (is_within n.context) ps found h

abbrev says : Focus → Free
says g = record { calm = Says g; stands = Says g; done = Says g; passed = λ o. g ≡ focus.Given o }

left_says : (g : Focus) (n : Now) (target : ℕ) (b : Bring) → Says g n → Says g (after_leaving n (left_by n target b))
left_says g n target b h = more g n.labels (left_by n target b).labels h (leave_says g n.thread (saved.Exit target b) (distance target n.context) n.context)

took_says : (g : Focus) (n : Now) (p : Pattern) (i : ℕ) → Says g n → Says g (took n p i)
took_says g n p i h = more g n.labels (Took n.thread i p ∷ []) h tt

carries_says : (g : Focus) → Carries (free (says g))
carries_says g = record {
  passes = λ n h. h;
  redex = λ n h. h;
  place = λ n h. h;
  value = λ v. tt;
  bare = λ n. tt;
  whole = λ es. tt;
  part = λ e. tt;
  gives = λ n o h. h.0;
  lays = λ n ps found h. lays_says g n ps found h.0;
  resumes = λ n q c v found e h. (h, tt);
  exits = λ n target b h.
      let left = left_says g n target b h in
      free_lands (says g) (after_leaving n (left_by n target b)) (landing b (layer_at target n.context) (left_by n target b).todo) left left;
  aborts = λ n h. h;
  debugs = λ n condition e h. opens_says g n condition h;
  breaks = λ n o e h f. opens_says g (offering n o) interrupted h;
  exhausts = λ n h. exhausted_says g n (may_open n.most n.context) h;
  turns = λ n i cleanup c o h f. more g n.labels (Cleanup n.thread i ∷ []) h tt;
  keeps = λ n i c o h. (h, tt);
  leaves = λ n i c target b h. h;
  replies = λ n at id form c r h f e. more g n.labels (Ended n.thread at (returned.Ok r) ∷ Out (message.Return id (returned.Ok r)) ∷ []) h (e, tt);
  protects = λ n space cleanup e h. h;
  protects_value = λ n v cleanup h. h;
  asks = λ n space kind text e h. more g n.labels (Out (asking kind n.thread n.tag text) ∷ []) h tt;
  closes = λ n h. h;
  waits = λ n q h. h;
  begins = λ n q i form package' thread id e h. (took_says g n q i h, tt, tt);
  answers = λ n q i m e a h. took_says g n q i h;
  hears = λ n q i m e a h. took_says g n q i h;
}

sets_says : (g : Focus) (n : Now) (x : Symbol) (v : Value) (o : Option Context) → Says g n → Says g (sets_or n x v o)
sets_says g n x v (Some c) h = h
sets_says g n x v None h = h

assigns_says : (g : Focus) (n : Now) (x : Symbol) (v : Value) (o : Option Context) → Says g n → Says g (assigns_or n x v o)
assigns_says g n x v (Some c) h = h
assigns_says g n x v None h = sets_says g n x v (with_dynamic x v n.context) h

-- what is asked of a row: it passes on no outcome but this redex
abbrev saying : Focus → Wanted
saying g = record { sure = ⊥; passed = λ o. g ≡ focus.Given o }

-- what an act asks but for its place
passed_on : (g : Focus) (d : Context) (e : End) (o : Outcome) → EndFits (saying g) e d → e ≡ end.Passes o → g ≡ focus.Given o
passed_on g d e o f is = let k : EndFits (saying g) (end.Passes o) d = subst (λ x. EndFits (saying g) x d) is f in k.1

end_says : (g : Focus) (n : Now) (d : Context) (e : End) → EndFits (saying g) e d → Says g n → Says g (carried n e)
end_says g n d e f h = carries (free (says g)) (carries_says g) n e (free_asks (says g) n e (λ k. k) (λ x k. k) (λ o is. passed_on g d e o f is) h)

perform_says : (g : Focus) (n : Now) (d : Context) (a : Act) → ActFits (saying g) a d → Says g n → Says g (perform n a)
perform_says g n d (act.Ends e) f h = end_says g n d e f h
perform_says g n d (act.Outward a) f h = perform_says g (around n (outward n.context)) (outward d) a f h
perform_says g n d (act.Writes ws a) f h = perform_says g (tells n (map written ws)) d a f (more g n.labels (map written ws) h (written_says g ws))
perform_says g n d (act.Changes image a) f h = perform_says g (record n { image = image }) d a f h
perform_says g n d (act.Inspects vs a) f h = perform_says g (record n { inspected = vs }) d a f h
perform_says g n d (act.Assigns x v a) f h = perform_says g (assigns n x v) d a f (assigns_says g n x v (with_lexical x v n.context) h)
perform_says g n d (act.Sets x v a) f h = perform_says g (sets n x v) d a f (sets_says g n x v (with_dynamic x v n.context) h)

announced_says : (g : Focus) (n : Now) (c : Context) (f : Focus) → Says g n → Says g (announced_at n c f)
announced_says g n (frame.Sldb m condition true ∷ c) (focus.Wait pattern.Rex) h = more g n.labels (announcement n m condition c) h tt
announced_says g n c f h = h

carried_says : (n : Now) (d : Context) (a : Act) → ActFits (saying n.redex) a d → Says n.redex (the_step.carried_out n a)
carried_says n d a f =
    let m = perform (the_step.begun n) a in
    announced_says n.redex m m.context m.redex (perform_says n.redex (the_step.begun n) d a f tt)

pub step_ends_with_its_reply : (rules : Rules) (n : Now) → EndsWithItsReply rules n
step_ends_with_its_reply rules n =
    let m = limited rules.built n in
    let w = saying m.redex in
    either_way (Says n.redex) rules.built rules n
    (carried_says m (bares m.context) (row rules m m.redex) (row_wanted w rules m m.redex (λ s. absurd s) (λ s. absurd s) (λ o is. is)))
    (carried_says m (bares m.context) (leaving m) (λ s. absurd s, abort_fits m.context))
