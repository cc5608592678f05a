-- Contexts of requests and of plain layers without restarts: no level is open, nothing is announced, and the visible ABORT is the top's.
use Rattle.std.proofs.Common.{◌≡◌, ℕ, zero, suc, ◌+◌, ◌≤◌, Bool, true, false, ◌&&◌, List, [], ◌∷◌, ◌++◌, length, Option, None, refl, ap, ◌∙◌, arith}
use Rattle.std.specs.Prelude.{nat_lt}
use Rattle.std.proofs.lemmas.Bool.{and_parts, false≢true, le-ltb}
use Rattle.rpc_messages.specs.declared.pattern.Pattern.TheVariants as pattern
use Rattle.rpc_messages.specs.declared.to_emacs.Returned.TheVariants as returned
use Rattle.rpc_messages.specs.declared.to_emacs.ToEmacs.TheVariants as message
use Rattle.term_model.specs.declared.focus.Focus.{Focus}
use Rattle.term_model.specs.declared.focus.Focus.TheVariants as focus
use Rattle.term_model.specs.declared.frame.Frame.{Frame}
use Rattle.term_model.specs.declared.frame.Frame.TheVariants as frame
use Rattle.term_model.specs.declared.kept.Bring.TheVariants as bring
use Rattle.term_model.specs.declared.kept.Saved.{Saved}
use Rattle.term_model.specs.declared.kept.Saved.TheVariants as saved
use Rattle.term_model.specs.declared.plain.Plain.{Plain}
use Rattle.term_model.specs.declared.plain.Plain.TheVariants as plain
use Rattle.term_model.specs.declared.restart.Restart.{Restart}
use Rattle.term_model.specs.Breaks.{broken_at, max_levels, may_open}
use Rattle.term_model.specs.Exit.{Left, distance, dropped, leave, stir}
use Rattle.term_model.specs.Label.{Label, messages_in}
use Rattle.term_model.specs.Restarts.{abort, abort_exit, first_named, invoking, nothing_at, offered, or_to_top, top_restart, visible}
use Rattle.term_model.specs.Room.{levels}
use Rattle.term_model.specs.Search.{layer_at}
use Rattle.term_model.specs.Term.{Context}
use Rattle.step_model.proofs.Carrying.{left_by}
use Rattle.step_model.specs.Now.{Now, around, puts, tells}
use Rattle.step_model.specs.Perform.{after_leaving, brings, cut_off, exhausted, exhausted_if, exits, lands}
use Rattle.step_model.specs.Step.{announced, announced_at}
use Rattle.server_rules.specs.Leaving.{aborts, left_all}
use Rattle.server_rules.specs.Simple.{are_simple, has_no_restarts, is_simple}

-- what is around a simple context's innermost layer
pub simple_rest : (l : Frame) (c : Context) → are_simple (l ∷ c) ≡ true → are_simple c ≡ true
simple_rest l c e = (and_parts (is_simple l) (are_simple c) e).1

pub simple_first : (l : Frame) (c : Context) → are_simple (l ∷ c) ≡ true → is_simple l ≡ true
simple_first l c e = (and_parts (is_simple l) (are_simple c) e).0

-- ---- levels

-- no level may be opened
pub may_open-none : (c : Context) → may_open 0 c ≡ false
may_open-none c = ap (λ b. b && nat_lt (levels c) max_levels) (le-ltb (levels c) 0 (omega arith))

-- an interrupt leaves by ABORT
pub broken-leaves : (c : Context) (f : Focus) → broken_at (may_open 0 c) c f ≡ (c, focus.Abort)
broken-leaves c f = ap (λ b. broken_at b c f) (may_open-none c)

-- where there is no room for a layer the redex is leaving
pub exhausted-leaves : (n : Now) → n.most ≡ 0 → exhausted n ≡ puts n n.context focus.Abort
exhausted-leaves n z = ap (λ k. exhausted_if (may_open k n.context) n) z ∙ ap (λ b. exhausted_if b n) (may_open-none n.context)

pub no_levels : (c : Context) → are_simple c ≡ true → levels c ≡ 0
no_levels [] e = refl
no_levels (frame.On p ∷ c) e = no_levels c (simple_rest (frame.On p) c e)
no_levels (frame.Rex i id form ∷ c) e = no_levels c e
no_levels (frame.Protect k cleanup ∷ c) e = absurd (false≢true e)
no_levels (frame.Cleanup k kept ∷ c) e = absurd (false≢true e)
no_levels (frame.Sldb n condition again ∷ c) e = absurd (false≢true e)
no_levels (frame.Ask kind tag ∷ c) e = absurd (false≢true e)

announced_simple : (n : Now) (c : Context) (f : Focus) → are_simple c ≡ true → announced_at n c f ≡ n
announced_simple n [] f e = refl
announced_simple n (frame.On p ∷ c) f e = refl
announced_simple n (frame.Rex i id form ∷ c) f e = refl
announced_simple n (frame.Protect k cleanup ∷ c) f e = refl
announced_simple n (frame.Cleanup k kept ∷ c) f e = refl
announced_simple n (frame.Sldb k condition again ∷ c) f e = absurd (false≢true e)
announced_simple n (frame.Ask kind tag ∷ c) f e = refl

-- nothing is announced
pub none_announced : (n : Now) → are_simple n.context ≡ true → announced n ≡ n
none_announced n e = announced_simple n n.context n.redex e

-- no cleanup is past the limit
pub cut_off-simple : (c : Context) → are_simple c ≡ true → cut_off c ≡ c
cut_off-simple [] e = refl
cut_off-simple (frame.On p ∷ c) e = refl
cut_off-simple (frame.Rex i id form ∷ c) e = refl
cut_off-simple (frame.Protect k cleanup ∷ c) e = refl
cut_off-simple (frame.Cleanup k kept ∷ c) e = absurd (false≢true e)
cut_off-simple (frame.Sldb n condition again ∷ c) e = refl
cut_off-simple (frame.Ask kind tag ∷ c) e = refl

-- ---- leaving

offers_none : (n : ℕ) (p : Plain) (c : Context) → has_no_restarts p ≡ true → offered n (frame.On p) c ≡ []
offers_none n (plain.Restarts offers) c e = absurd (false≢true e)
offers_none n p c e = refl

requests_offer_none : (n i : ℕ) (id : _) (form : _) (c : Context) → are_simple c ≡ true → offered n (frame.Rex i id form) c ≡ []
requests_offer_none n i id form [] e = refl
requests_offer_none n i id form (frame.On p ∷ c) e = refl
requests_offer_none n i id form (frame.Rex j other f ∷ c) e = refl
requests_offer_none n i id form (frame.Protect k cleanup ∷ c) e = refl
requests_offer_none n i id form (frame.Cleanup k kept ∷ c) e = refl
requests_offer_none n i id form (frame.Sldb k condition again ∷ c) e = absurd (false≢true e)
requests_offer_none n i id form (frame.Ask kind tag ∷ c) e = refl

-- the one restart that is visible is the top's
pub visible-simple : (c : Context) → are_simple c ≡ true → visible c ≡ top_restart ∷ []
visible-simple [] e = refl
visible-simple (frame.On p ∷ c) e =
    ap (λ rs. rs ++ visible c) (offers_none (length c + 1) p c (simple_first (frame.On p) c e)) ∙ visible-simple c (simple_rest (frame.On p) c e)
visible-simple (frame.Rex i id form ∷ c) e = ap (λ rs. rs ++ visible c) (requests_offer_none (length c + 1) i id form c e) ∙ visible-simple c e
visible-simple (frame.Protect k cleanup ∷ c) e = absurd (false≢true e)
visible-simple (frame.Cleanup k kept ∷ c) e = absurd (false≢true e)
visible-simple (frame.Sldb n condition again ∷ c) e = absurd (false≢true e)
visible-simple (frame.Ask kind tag ∷ c) e = absurd (false≢true e)

-- leaving by ABORT goes to the top
pub abort_exit-simple : (c : Context) → are_simple c ≡ true → abort_exit c ≡ nothing_at 0
abort_exit-simple c e = ap (λ (rs : List Restart). or_to_top (invoking (first_named abort rs) [] c)) (visible-simple c e)

-- an exit past all layers
pub record LeavesAll (t : ℕ) (l : Left) (c : Context) : Type 0 where
  pub around : l.around ≡ []
  pub labels : l.labels ≡ left_all t c
  pub todo : l.todo ≡ None

leaves_all : (t : ℕ) (exit : Saved) (d : ℕ) (c : Context) → length c ≤ d → are_simple c ≡ true → LeavesAll t (leave t exit d c) c
leaves_all t exit zero [] h e = record { around = refl; labels = refl; todo = refl }
leaves_all t exit (suc d) [] h e = record { around = refl; labels = refl; todo = refl }
leaves_all t exit zero (l ∷ c) h e = absurd (omega (arith, h))
leaves_all t exit (suc d) (frame.On p ∷ c) h e =
    let all = leaves_all t exit d c (omega (arith, h)) (simple_rest (frame.On p) c e) in
    record { around = all.around; labels = all.labels; todo = all.todo }
leaves_all t exit (suc d) (frame.Rex i id form ∷ c) h e =
    let all = leaves_all t exit d c (omega (arith, h)) e in
    record { around = all.around; labels = ap (λ ls. dropped t (frame.Rex i id form) ++ ls) all.labels; todo = all.todo }
leaves_all t exit (suc d) (frame.Protect k cleanup ∷ c) h e = absurd (false≢true e)
leaves_all t exit (suc d) (frame.Cleanup k kept ∷ c) h e = absurd (false≢true e)
leaves_all t exit (suc d) (frame.Sldb n condition again ∷ c) h e = absurd (false≢true e)
leaves_all t exit (suc d) (frame.Ask kind tag ∷ c) h e = absurd (false≢true e)

to_top : (c : Context) → length c ≤ distance 0 c
to_top c = omega arith

pub stir-none : (b : Bool) → stir b [] ≡ []
stir-none true = refl
stir-none false = refl

-- the thread once an exit brought nothing to its top
abbrev at_top : Now → List Label → Now
at_top n ls = record (puts (tells n ls) [] (focus.Wait pattern.Rex)) { over = true }

arrives : (n : Now) (l : Left) (target : Option Frame) → LeavesAll n.thread l n.context
    → lands (after_leaving n l) bring.Nothing target l.todo ≡ at_top n (left_all n.thread n.context)
arrives n l target all =
    ap (λ todo. lands (after_leaving n l) bring.Nothing target todo) all.todo
    ∙ ap (λ c. brings (tells (around n c) l.labels) bring.Nothing target) (ap (stir l.stirred) all.around ∙ stir-none l.stirred)
    ∙ ap (at_top n) all.labels

pub leaves_to_top : (n : Now) → are_simple n.context ≡ true → LeavesAll n.thread (left_by n 0 bring.Nothing) n.context
leaves_to_top n e = leaves_all n.thread (saved.Exit 0 bring.Nothing) (distance 0 n.context) n.context (to_top n.context) e

-- the exit to the top
pub exits_to_top : (n : Now) → are_simple n.context ≡ true
    → exits n 0 bring.Nothing ≡ record (puts (tells n (left_all n.thread n.context)) [] (focus.Wait pattern.Rex)) { over = true }
exits_to_top n e = arrives n (left_by n 0 bring.Nothing) (layer_at 0 n.context) (leaves_to_top n e)

-- what it writes
pub messages-left : (t : ℕ) (c : Context) → messages_in (left_all t c) ≡ aborts c
messages-left t [] = refl
messages-left t (frame.On p ∷ c) = messages-left t c
messages-left t (frame.Rex i id form ∷ c) = ap (λ ms. message.Return id returned.Abort ∷ ms) (messages-left t c)
messages-left t (frame.Protect k cleanup ∷ c) = messages-left t c
messages-left t (frame.Cleanup k kept ∷ c) = messages-left t c
messages-left t (frame.Sldb n condition again ∷ c) = messages-left t c
messages-left t (frame.Ask kind tag ∷ c) = messages-left t c
