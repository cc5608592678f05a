-- The acts that the built rows give keep layers simple, and leave what stands beside the thread.
use Rattle.std.proofs.Common.{◌≡◌, ℕ, Bool, true, false, List, [], ◌∷◌, refl, sym, ap, ◌∙◌, subst}
use Rattle.std.proofs.lemmas.Bool.{false≢true}
use Rattle.lisp_data.specs.declared.value.Value.{Value}
use Rattle.term_model.specs.declared.end.End.{End}
use Rattle.term_model.specs.declared.end.End.TheVariants as end
use Rattle.term_model.specs.declared.found.Found.{Found}
use Rattle.term_model.specs.declared.frame.Frame.TheVariants as frame
use Rattle.term_model.specs.declared.kept.Bring.{Bring}
use Rattle.term_model.specs.declared.kept.Bring.TheVariants as bring
use Rattle.term_model.specs.declared.kept.Leaving.{Leaving}
use Rattle.term_model.specs.declared.plain.Plain.{Plain}
use Rattle.term_model.specs.Breaks.{may_open}
use Rattle.term_model.specs.Exit.{stir}
use Rattle.term_model.specs.Restarts.{nothing_at}
use Rattle.term_model.specs.Room.{is_within}
use Rattle.term_model.specs.Search.{layer_at}
use Rattle.term_model.specs.Term.{Context}
use Rattle.step_model.specs.Act as act
use Rattle.step_model.specs.Act.{Act}
use Rattle.step_model.specs.CurrentPackage.{binds_package, bound_package}
use Rattle.step_model.specs.Now.{Now, around, tells}
use Rattle.step_model.specs.Perform.{after_leaving, carried, lays, outward, package_bound, perform}
use Rattle.step_model.proofs.Carrying.{Asked, Carries, Lands, Property, carries, landing, left_by}
use Rattle.server_rules.specs.Beside.{Beside, beside}
use Rattle.server_rules.specs.Going.{entered}
use Rattle.server_rules.specs.Simple.{are_simple}
use Rattle.server_rules.proofs.GoingSimple.{ArePlain, entered_simple, lays-simple}
use Rattle.server_rules.proofs.SimpleLemmas.{abort_exit-simple, leaves_to_top, may_open-none, simple_rest, stir-none}

-- ends that make no layers but simple ones
abbrev pub IsSimpleEnd : End → Type 0
IsSimpleEnd (end.Goes ps found) = ArePlain ps
IsSimpleEnd (end.Gives o) = Unit {0}
IsSimpleEnd (end.Resumes f) = Unit {0}
IsSimpleEnd (end.Passes o) = Unit {0}
IsSimpleEnd (end.Exits x) = x ≡ nothing_at 0
IsSimpleEnd (end.Takes p) = Unit {0}
IsSimpleEnd _ = ⊥

-- acts that make no layers but simple ones, with what is inspected kept as it is
abbrev pub IsSimpleAct : List Value → Act → Type 0
IsSimpleAct vs (act.Ends e) = IsSimpleEnd e
IsSimpleAct vs (act.Outward a) = IsSimpleAct vs a
IsSimpleAct vs (act.Writes ws a) = IsSimpleAct vs a
IsSimpleAct vs (act.Changes image a) = IsSimpleAct vs a
IsSimpleAct vs (act.Inspects ws a) = (ws ≡ vs) × IsSimpleAct vs a
IsSimpleAct vs _ = ⊥

-- what an act leaves
pub record Keeps (n m : Now) : Type 0 where
  pub simple : are_simple m.context ≡ true
  pub beside : beside m ≡ beside n

-- ---- a property of threads whose layers are simple

abbrev At : Beside → Now → Type 0
At b n = (n.most ≡ 0) × (are_simple n.context ≡ true) × (beside n ≡ b)

abbrev pub leaving_to : ℕ → Bring → Leaving
leaving_to target x = record { target = target; bring = x }

abbrev simple : Beside → Property
simple b = record {
  inner = λ n. ⊥;
  passing = At b;
  stands = At b;
  holds = At b;
  done = λ n. (are_simple n.context ≡ true) × (beside n ≡ b);
  markers = λ ps n. ArePlain ps;
  form = λ found. Unit {0};
  outcome = λ o. Unit {0};
  passed = λ o. Unit {0};
  exit = λ target x n. At b n × (leaving_to target x ≡ nothing_at 0);
  waiting = λ q n. At b n;
}

lays_simple : (b : Beside) (n : Now) (ps : List Plain) (found : Found) → At b n → ArePlain ps → (simple b).done (lays n ps found)
lays_simple b n ps found h g =
    let x = entered (is_within n.context) n.context ps found in
    subst (simple b).done (sym (lays-simple n h.0 ps found h.1)) (entered_simple (is_within n.context) n.context ps found h.1 g, h.2)

-- where an exit comes to
abbrev LandsBy : Beside → Now → Leaving → Type 0
LandsBy b n x = Lands (simple b) (landing x.bring (layer_at x.target n.context) (left_by n x.target x.bring).todo) (after_leaving n (left_by n x.target x.bring))

lands_at_top : (b : Beside) (n : Now) → At b n → LandsBy b n (nothing_at 0)
lands_at_top b n h =
    let left = left_by n 0 bring.Nothing in
    let all = leaves_to_top n h.1 in
    subst (λ todo. Lands (simple b) (landing bring.Nothing (layer_at 0 n.context) todo) (after_leaving n left)) (sym all.todo)
    (ap are_simple (ap (stir left.stirred) all.around ∙ stir-none left.stirred), h.2)

package_plain : (b : Bool) (v : Value) → ArePlain (package_bound b v)
package_plain true v = (refl, tt)
package_plain false v = tt

simple_has : (b : Beside) → Carries (simple b)
simple_has b = record {
  passes = λ n h. absurd h;
  redex = λ n h. h;
  place = λ n h. h;
  value = λ v. tt;
  bare = λ n. tt;
  whole = λ es. tt;
  part = λ e. tt;
  gives = λ n o h. (h.0.1, h.0.2);
  lays = λ n ps found h. lays_simple b n ps found h.0 h.1;
  resumes = λ n q c v found e h. ((h.0, simple_rest (frame.On q) c h.1, h.2), tt);
  exits = λ n target x h. subst (LandsBy b n) (sym h.1) (lands_at_top b n h.0);
  aborts = λ n h. (h, abort_exit-simple n.context h.1);
  debugs = λ n condition e h. absurd h;
  breaks = λ n o e h g. absurd (false≢true (sym (ap (λ k. may_open k n.context) h.0 ∙ may_open-none n.context) ∙ e));
  exhausts = λ n h. absurd h;
  turns = λ n i cleanup c o h g. absurd (false≢true h.1);
  keeps = λ n i c o h. absurd (false≢true h.1);
  leaves = λ n i c target x h. absurd (false≢true h.1);
  replies = λ n at id form c r h g e. (h.1, h.2);
  protects = λ n space cleanup e h. absurd h;
  protects_value = λ n v cleanup h. absurd h;
  asks = λ n space kind text e h. absurd h;
  closes = λ n h. absurd h;
  waits = λ n q h. (h.1, h.2);
  begins = λ n q i form package' thread id e h. (h, package_plain (binds_package form) (bound_package n.image package'), tt);
  answers = λ n q i m e a h. h;
  hears = λ n q i m e a h. (h.1, h.2);
}

outward_simple : (c : Context) → are_simple c ≡ true → are_simple (outward c) ≡ true
outward_simple [] e = e
outward_simple (frame.On p ∷ c) e = simple_rest (frame.On p) c e
outward_simple (frame.Rex i id form ∷ c) e = e
outward_simple (frame.Protect k cleanup ∷ c) e = e
outward_simple (frame.Cleanup k kept ∷ c) e = e
outward_simple (frame.Sldb k condition again ∷ c) e = e
outward_simple (frame.Ask kind tag ∷ c) e = absurd (false≢true e)

end_asks : (b : Beside) (n : Now) (e : End) → IsSimpleEnd e → At b n → Asked (simple b) e n
end_asks b n (end.Goes ps found) h t = (t, h, tt)
end_asks b n (end.Gives o) h t = (t, tt)
end_asks b n (end.Resumes f) h t = (t.1, t.2)
end_asks b n (end.Passes o) h t = (t, tt, tt)
end_asks b n (end.Exits x) h t = (t, h)
end_asks b n (end.Takes p) h t = t
end_asks b n e h t = absurd h

end_keeps : (n : Now) → n.most ≡ 0 → (a : End) → IsSimpleEnd a → are_simple n.context ≡ true → Keeps n (carried n a)
end_keeps n z a h e = let k = carries (simple (beside n)) (simple_has (beside n)) n a (end_asks (beside n) n a h (z, e, refl)) in record { simple = k.0; beside = k.1 }

pub perform_keeps : (n : Now) → n.most ≡ 0 → (a : Act) → IsSimpleAct n.inspected a → are_simple n.context ≡ true → Keeps n (perform n a)
perform_keeps n z (act.Ends a) h e = end_keeps n z a h e
perform_keeps n z (act.Outward a) h e =
    let k = perform_keeps (around n (outward n.context)) z a h (outward_simple n.context e) in record { simple = k.simple; beside = k.beside }
perform_keeps n z (act.Writes ws a) h e = let k = perform_keeps (tells n _) z a h e in record { simple = k.simple; beside = k.beside }
perform_keeps n z (act.Changes image a) h e = let k = perform_keeps (record n { image = image }) z a h e in record { simple = k.simple; beside = k.beside }
perform_keeps n z (act.Inspects ws a) h e =
    let k = perform_keeps (record n { inspected = ws }) z a (subst (λ vs. IsSimpleAct vs a) (sym h.0) h.1) e in
    record { simple = k.simple; beside = k.beside ∙ ap (λ vs. beside (record n { inspected = vs })) h.0 }
perform_keeps n z (act.Assigns x v a) h e = absurd h
perform_keeps n z (act.Sets x v a) h e = absurd h
