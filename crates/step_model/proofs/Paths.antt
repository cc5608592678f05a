-- Each step is a list of moves.
use Rattle.std.proofs.Common.{◌≡◌, ℕ, zero, suc, ◌+◌, Bool, true, false, List, [], ◌∷◌, ◌++◌, map, Option, Some, None, refl, sym, ap, ◌∙◌, subst, append_assoc, append-nil}
use Rattle.std.specs.Prelude.{nat_lt}
use Rattle.std.proofs.lemmas.Bool.{and_parts}
use Rattle.lisp_data.specs.declared.symbol.Symbol.{Symbol}
use Rattle.lisp_data.specs.declared.value.Value.{Value}
use Rattle.lisp_data.specs.declared.value.Condition.{Condition}
use Rattle.lisp_errors.specs.Causes.{stack_exhausted}
use Rattle.mailboxes.specs.Mail.{first_accepted}
use Rattle.rpc_messages.specs.declared.from_emacs.FromEmacs.{FromEmacs}
use Rattle.rpc_messages.specs.declared.pattern.Pattern.{Pattern}
use Rattle.rpc_messages.specs.declared.pattern.Pattern.TheVariants as pattern
use Rattle.syntax_trees.specs.declared.ast.Ast.{Ast}
use Rattle.term_model.specs.declared.end.End.{End}
use Rattle.term_model.specs.declared.focus.Focus.{Focus}
use Rattle.term_model.specs.declared.focus.Focus.TheVariants as focus
use Rattle.term_model.specs.declared.found.Found.{Found}
use Rattle.term_model.specs.declared.frame.Frame.TheVariants as frame
use Rattle.term_model.specs.declared.kept.Bring.{Bring}
use Rattle.term_model.specs.declared.kept.Saved.{Saved}
use Rattle.term_model.specs.declared.kept.Saved.TheVariants as saved
use Rattle.term_model.specs.declared.plain.Plain.{Plain}
use Rattle.term_model.specs.Breaks.{may_open, max_levels}
use Rattle.term_model.specs.Exit.{Left, distance, dropped, leave, stir}
use Rattle.term_model.specs.Label.{Label}
use Rattle.term_model.specs.Room.{is_within, levels, room, wrap}
use Rattle.term_model.specs.Search.{layer_at}
use Rattle.term_model.specs.Term.{Context}
use Rattle.term_model.specs.Variables.{with_dynamic, with_lexical}
use Rattle.step_model.specs.Act as act
use Rattle.step_model.specs.Act.{Act}
use Rattle.step_model.specs.Announcing.{debug_message}
use Rattle.step_model.specs.Image.{ImageState}
use Rattle.step_model.specs.Marks.{State, marks, state_of}
use Rattle.step_model.specs.Moves as move
use Rattle.step_model.specs.Moves.{At, Comes, Path, Phase, Calm, Made, Turned, announced_level, go, is_request, stay}
use Rattle.step_model.specs.Now.{Now, around, tells}
use Rattle.step_model.specs.Perform.{after_leaving, assigns, assigns_or, cut_off, exhausted_if, interrupted, laid, lays, lays_if, offering, opens, outward, perform, sets, sets_or, took, written, carried}
use Rattle.step_model.specs.Rules.{Rules, Writing}
use Rattle.step_model.specs.Step as the_step
use Rattle.step_model.specs.Step.{announced_at}
use Rattle.step_model.specs.AsBuilt.{leaving, limited, step_as_built}
use Rattle.step_model.specs.Built.{Built}
use Rattle.step_model.specs.Table.{row}
use Rattle.step_model.proofs.AsBuiltLemmas.{either_way}
use Rattle.step_model.proofs.Carrying.{Carries, Free, carries, free, free_asks, free_lands, landing, left_by, no_request, other_request, protecting}
use Rattle.step_model.proofs.MarkLemmas.{SameMarks, levels-depth, marks-stir, marks-with_dynamic, marks-with_lexical, marks-wrap}

-- a context with the same marks
same : {ph : Phase} (s : State) (n : Now) (c : Context) → marks n.context ≡ marks c → At s n ph → At s (around n c) ph
same {ph = ph} s n c e p = subst (λ ms. Path n.thread s n.labels (record { marks = ms; serial = n.serial; mailbox = n.mailbox }) ph) e p

announces : (image : ImageState) (t n : ℕ) (condition : Condition) (c : Context) → announced_level (debug_message image t n condition c) ≡ Some (t, n)
unfolding debug_message
announces image t n condition c = refl

opens_path : {ph : Phase} (s : State) (n : Now) (condition : Condition) → may_open n.most n.context ≡ true → At s n ph → At s (opens n condition) ph
opens_path s n condition e p =
    go (move.Opens (levels n.context + 1) (debug_message n.image n.thread (levels n.context + 1) condition n.context)) (marks n.context) n.serial n.mailbox p
    (ap (λ k. k + 1) (levels-depth n.context), sym (ap (λ k. nat_lt k max_levels) (levels-depth n.context)) ∙ (and_parts (nat_lt (levels n.context) n.most) (nat_lt (levels n.context) max_levels) e).1, announces n.image n.thread (levels n.context + 1) condition n.context) tt

exhausted_path : {ph : Phase} (s : State) (n : Now) (b : Bool) → may_open n.most n.context ≡ b → At s n ph → At s (exhausted_if b n) ph
exhausted_path s n true e p = opens_path s n stack_exhausted e p
exhausted_path s n false e p = p

laid_path : {ph : Phase} (s : State) (n : Now) (o : Option Focus) → At s n ph → At s (laid n o) ph
laid_path s n (Some f) p = p
laid_path s n None p = exhausted_path s n (may_open n.most n.context) refl p

-- what tells nothing
quietly : {ph : Phase} (s : State) (n : Now) (x : State) → Path n.thread s (n.labels ++ []) x ph → Path n.thread s n.labels x ph
quietly {ph = ph} s n x h = subst (λ l. Path n.thread s l x ph) (append-nil n.labels) h

cut_off_path : {ph : Phase} (s : State) (n : Now) (c : Context) → At s (around n c) ph → At s (around n (cut_off c)) ph
cut_off_path s n [] h = h
cut_off_path s n (frame.On p ∷ c) h = h
cut_off_path s n (frame.Cleanup k kept ∷ c) h = quietly s n _ (go (move.Cleaned k) (marks c) n.serial n.mailbox h tt tt)
cut_off_path s n (frame.Protect k cleanup ∷ c) h = h
cut_off_path s n (frame.Rex i id form ∷ c) h = h
cut_off_path s n (frame.Sldb m condition again ∷ c) h = h
cut_off_path s n (frame.Ask kind tag ∷ c) h = h

lays_if_path : {ph : Phase} (s : State) (n : Now) (b : Bool) (ps : List Plain) (found : Found) → At s n ph → At s (lays_if b n ps found) ph
lays_if_path s n true ps found p =
    let e = wrap (room n.context) n.context ps found in
    laid_path s (around n e.around) e.redex (same s n e.around (marks-wrap (room n.context) n.context ps found) p)
lays_if_path s n false ps found p = exhausted_path s (around n (cut_off n.context)) (may_open n.most (cut_off n.context)) refl (cut_off_path s n n.context p)

lays_path : {ph : Phase} (s : State) (n : Now) (ps : List Plain) (found : Found) → At s n ph → At s (lays n ps found) ph
lays_path s n ps found p = lays_if_path s n (is_within n.context) ps found p

-- ---- exits

-- what an exit leaves
abbrev Leaves : State → Now → Left → Type 0
Leaves s n left = (ph : Phase) × Path n.thread s (n.labels ++ left.labels) (record { marks = marks left.around; serial = n.serial; mailbox = n.mailbox }) ph

regroup : (s : State) (n : Now) (more : List Label) (left : Left) → Leaves s (tells n more) left → (ph : Phase) × Path n.thread s (n.labels ++ (more ++ left.labels)) (record { marks = marks left.around; serial = n.serial; mailbox = n.mailbox }) ph
regroup s n more left h =
    (h.0, subst (λ l. Path n.thread s l (record { marks = marks left.around; serial = n.serial; mailbox = n.mailbox }) h.0) (append_assoc n.labels more left.labels) h.1)

nothing_told : {ph : Phase} (s : State) (n : Now) (c : Context) → At s (around n c) ph → Path n.thread s (n.labels ++ []) (record { marks = marks c; serial = n.serial; mailbox = n.mailbox }) ph
nothing_told {ph = ph} s n c h = subst (λ l. Path n.thread s l (record { marks = marks c; serial = n.serial; mailbox = n.mailbox }) ph) (sym (append-nil n.labels)) h

-- an exit drops marks, inner first, and turns the first protected form that it meets
leave_path : (s : State) (n : Now) (exit : Saved) (d : ℕ) (c : Context) → At s (around n c) Calm → Leaves s n (leave n.thread exit d c)
leave_path s n exit zero c h = (Calm, nothing_told s n c h)
leave_path s n exit (suc d) [] h = (Calm, nothing_told s n [] h)
leave_path s n exit (suc d) (frame.Protect k cleanup ∷ c) h = (Turned k, go (move.Turns k) (marks c) n.serial n.mailbox h tt refl)
leave_path s n exit (suc d) (frame.On p ∷ c) h = leave_path s n exit d c h
leave_path s n exit (suc d) (frame.Cleanup k kept ∷ c) h =
    leave_path s n exit d c (subst (λ l. Path n.thread s l (record { marks = marks c; serial = n.serial; mailbox = n.mailbox }) Calm) (append-nil n.labels) (go (move.Cleaned k) (marks c) n.serial n.mailbox h tt tt))
leave_path s n exit (suc d) (frame.Rex i id form ∷ c) h =
    regroup s n (dropped n.thread (frame.Rex i id form)) (leave n.thread exit d c)
    (leave_path s (tells n (dropped n.thread (frame.Rex i id form))) exit d c (go (move.Aborts i id) (marks c) n.serial n.mailbox h tt tt))
leave_path s n exit (suc d) (frame.Sldb m condition again ∷ c) h =
    regroup s n (dropped n.thread (frame.Sldb m condition again)) (leave n.thread exit d c)
    (leave_path s (tells n (dropped n.thread (frame.Sldb m condition again))) exit d c (go (move.Closes m) (marks c) n.serial n.mailbox h tt tt))
leave_path s n exit (suc d) (frame.Ask kind tag ∷ c) h =
    regroup s n (dropped n.thread (frame.Ask kind tag)) (leave n.thread exit d c)
    (leave_path s (tells n (dropped n.thread (frame.Ask kind tag))) exit d c (go (move.Unasked kind tag) (marks c) n.serial n.mailbox h tt tt))

-- what is told where a cleanup is over or left, and where another message than a request is taken
cleaned_path : (s : State) (n : Now) (i : ℕ) (c : Context) (kept : Saved) → At s (around n (frame.Cleanup i kept ∷ c)) Calm → At s (around n c) Calm
cleaned_path s n i c kept h = quietly s n _ (go (move.Cleaned i) (marks c) n.serial n.mailbox h tt tt)

protecting_path : (s : State) (n : Now) (cleanup : List Ast) → At s n Calm → Comes s (protecting n cleanup)
protecting_path s n cleanup h = (Made, quietly s n _ (go (move.Protects n.serial) (marks n.context) n.serial n.mailbox h refl refl))

heard_path : (s : State) (n : Now) (q : Pattern) (i : ℕ) (m : FromEmacs) → first_accepted q n.mailbox ≡ Some (i, m) → is_request m ≡ false → At s n Calm → Comes s (took n q i)
heard_path s n q i m e r h = (Calm, go (move.Hears i q m) (marks n.context) n.serial n.mailbox h (e, r) tt)

left_path : (s : State) (n : Now) (target : ℕ) (b : Bring) → At s n Calm → Comes s (after_leaving n (left_by n target b))
left_path s n target b h =
    let left = left_by n target b in
    let l : Leaves s n left = leave_path s n (saved.Exit target b) (distance target n.context) n.context h in
    (l.0, same s (tells (around n left.around) left.labels) (stir left.stirred left.around) (marks-stir left.stirred left.around) l.1)

-- ---- acts

abbrev paths : State → Free
paths s = record { calm = λ n. At s n Calm; stands = Comes s; done = Comes s; passed = λ o. Unit {0} }

carries_path : (s : State) → Carries (free (paths s))
carries_path s = record {
  passes = λ n h. h;
  redex = λ n h. (Calm, h);
  place = λ n h. h;
  value = λ v. tt;
  bare = λ n. tt;
  whole = λ es. tt;
  part = λ e. tt;
  gives = λ n o h. h.0;
  lays = λ n ps found h. (h.0.0, lays_path s n ps found h.0.1);
  resumes = λ n q c v found e h. (h, tt);
  exits = λ n target b h.
      let left = left_path s n target b h in
      free_lands (paths s) (after_leaving n (left_by n target b)) (landing b (layer_at target n.context) (left_by n target b).todo) left left;
  aborts = λ n h. h;
  debugs = λ n condition e h. (Calm, opens_path s n condition e h);
  breaks = λ n o e h g. (Calm, opens_path s (offering n o) interrupted e h);
  exhausts = λ n h. (Calm, exhausted_path s n (may_open n.most n.context) refl h);
  turns = λ n i cleanup c o h g. (Turned i, go (move.Turns i) (marks c) n.serial n.mailbox h tt refl);
  keeps = λ n i c o h. ((Calm, cleaned_path s n i c (saved.Kept o) h), tt);
  leaves = λ n i c target b h. cleaned_path s n i c (saved.Exit target b) h;
  replies = λ n at id form c r h g e. (Calm, go (move.Ends at id r) (marks c) n.serial n.mailbox h tt tt);
  protects = λ n space cleanup e h. protecting_path s n cleanup h;
  protects_value = λ n v cleanup h. protecting_path s n cleanup h;
  asks = λ n space kind text e h. (Calm, go (move.Asks kind n.tag text) (marks n.context) n.serial n.mailbox h tt tt);
  closes = λ n h. (Calm, h);
  waits = λ n q h. (Calm, h);
  begins = λ n q i form package' thread id e h. ((Calm, go (move.Begins i id q form package' thread) (marks n.context) n.serial n.mailbox h e tt), tt, tt);
  answers = λ n q i m e a h. heard_path s n q i m e (no_request m a) h;
  hears = λ n q i m e a h. heard_path s n q i m e (other_request m a) h;
}

end_path : (s : State) (n : Now) (e : End) → At s n Calm → Comes s (carried n e)
end_path s n e h = carries (free (paths s)) (carries_path s) n e (free_asks (paths s) n e (λ g. (Calm, g)) (λ f g. (Calm, g)) (λ o is. tt) h)

outward_path : {ph : Phase} (s : State) (n : Now) (c : Context) → At s (around n c) ph → At s (around n (outward c)) ph
outward_path s n [] h = h
outward_path s n (frame.On p ∷ c) h = h
outward_path s n (frame.Protect k cleanup ∷ c) h = h
outward_path s n (frame.Cleanup k kept ∷ c) h = h
outward_path s n (frame.Rex i id form ∷ c) h = h
outward_path s n (frame.Sldb m condition again ∷ c) h = h
outward_path s n (frame.Ask kind tag ∷ c) h = quietly s n _ (go (move.Answered kind tag) (marks c) n.serial n.mailbox h tt tt)

writes_path : {ph : Phase} (s : State) (n : Now) (ws : List Writing) → At s n ph → At s (tells n (map written ws)) ph
writes_path {ph = ph} s n [] h = subst (λ l. Path n.thread s l (state_of n) ph) (sym (append-nil n.labels)) h
writes_path {ph = ph} s n (w ∷ ws) h =
    subst (λ l. Path n.thread s l (state_of n) ph) (append_assoc n.labels (written w ∷ []) (map written ws))
    (writes_path s (tells n (written w ∷ [])) ws (go (move.Writes w) (marks n.context) n.serial n.mailbox h tt tt))

sets_path : {ph : Phase} (s : State) (n : Now) (x : Symbol) (v : Value) (o : Option Context) → SameMarks n.context o → At s n ph → At s (sets_or n x v o) ph
sets_path s n x v (Some c) e h = same s n c e h
sets_path s n x v None e h = h

assigns_path : {ph : Phase} (s : State) (n : Now) (x : Symbol) (v : Value) (o : Option Context) → SameMarks n.context o → At s n ph → At s (assigns_or n x v o) ph
assigns_path s n x v (Some c) e h = same s n c e h
assigns_path s n x v None e h = sets_path s n x v (with_dynamic x v n.context) (marks-with_dynamic x v n.context) h

pub perform_path : (s : State) (n : Now) (a : Act) → At s n Calm → Comes s (perform n a)
perform_path s n (act.Ends e) h = end_path s n e h
perform_path s n (act.Outward a) h = perform_path s (around n (outward n.context)) a (outward_path s n n.context h)
perform_path s n (act.Writes ws a) h = perform_path s (tells n (map written ws)) a (writes_path s n ws h)
perform_path s n (act.Changes image a) h = perform_path s (record n { image = image }) a h
perform_path s n (act.Inspects vs a) h = perform_path s (record n { inspected = vs }) a h
perform_path s n (act.Assigns x v a) h = perform_path s (assigns n x v) a (assigns_path s n x v (with_lexical x v n.context) (marks-with_lexical x v n.context) h)
perform_path s n (act.Sets x v a) h = perform_path s (sets n x v) a (sets_path s n x v (with_dynamic x v n.context) (marks-with_dynamic x v n.context) h)

announced_path : {ph : Phase} (s : State) (n : Now) (c : Context) (f : Focus) → n.context ≡ c → At s n ph → At s (announced_at n c f) ph
announced_path {ph = ph} s n (frame.Sldb m condition true ∷ c) (focus.Wait pattern.Rex) e h =
    go (move.Announces m (debug_message n.image n.thread m condition c)) (marks c) n.serial n.mailbox
    (subst (λ x. Path n.thread s n.labels (record { marks = marks x; serial = n.serial; mailbox = n.mailbox }) ph) e h) (announces n.image n.thread m condition c) tt
announced_path s n c f e h = h

-- what is carried out is a list of moves
carried_path : (n : Now) (a : Act) → Comes (state_of n) (the_step.carried_out n a)
carried_path n a =
    let d = perform (the_step.begun n) a in
    let p : Comes (state_of n) d = perform_path (state_of n) (the_step.begun n) a stay in
    (p.0, announced_path (state_of n) d d.context d.redex refl p.1)

-- one step is
pub step_path : (rules : Rules) (n : Now) → Comes (state_of n) (the_step.step rules n)
step_path rules n = carried_path n (row rules n n.redex)

pub as_built_path : (built : Built) (rules : Rules) (n : Now) → Comes (state_of n) (step_as_built built rules n)
as_built_path built rules n = either_way (Comes (state_of n)) built rules n (step_path rules (limited built n)) (carried_path (limited built n) (leaving n))
