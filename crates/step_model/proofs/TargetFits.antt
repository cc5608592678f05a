-- Where exits lead: what an exit leaves fits, and the targets that searches find fit.
use Rattle.std.proofs.Common.{◌≡◌, ◌≢◌, inl, inr, ⊎_elim, ℕ, zero, suc, ◌+◌, ◌-◌, ◌<◌, ◌≤◌, Bool, true, false, List, [], ◌∷◌, length, Option, Some, None, refl, sym, ap, ◌∙◌, subst, arith}
use Rattle.std.specs.Prelude.{if◌then◌else◌, ◌==◌, nat_lt, option_map, slice_get}
use Rattle.std.proofs.lemmas.Bool.{false≢true, eq-eqb, eqb-true, ltb-false, ltb-true}
use Rattle.lisp_data.specs.declared.symbol.Symbol.{Symbol}
use Rattle.lisp_data.specs.declared.value.Value.{Value}
use Rattle.syntax_trees.specs.declared.ast.Ast.{Ast}
use Rattle.term_model.specs.declared.frame.Frame.{Frame}
use Rattle.term_model.specs.declared.frame.Frame.TheVariants as frame
use Rattle.term_model.specs.declared.kept.Bring.{Bring}
use Rattle.term_model.specs.declared.kept.Bring.TheVariants as bring
use Rattle.term_model.specs.declared.kept.Leaving.{Leaving}
use Rattle.term_model.specs.declared.kept.Outcome.TheVariants as outcome
use Rattle.term_model.specs.declared.kept.Saved.TheVariants as saved
use Rattle.term_model.specs.declared.plain.Plain.TheVariants as plain
use Rattle.term_model.specs.declared.restart.Action.{Action}
use Rattle.term_model.specs.declared.restart.Action.TheVariants.{Give, Run}
use Rattle.term_model.specs.declared.restart.Offer.{Offer}
use Rattle.term_model.specs.declared.restart.Restart.{Restart}
use Rattle.term_model.specs.Exit.{distance, leave}
use Rattle.term_model.specs.Restarts.{abort, abort_exit, by_action, by_layer, by_offer, find_restart, invoked, invoking, or_to_top}
use Rattle.term_model.specs.Search as sight
use Rattle.term_model.specs.Search.{Sight, layer_at, nearest, seen}
use Rattle.term_model.specs.Targets.{block_in, catch_in, find_block, find_catch}
use Rattle.lisp_data.specs.Same.{same_symbol, same_value}
use Rattle.term_model.specs.Term.{Context}
use Rattle.step_model.specs.Facts.{HasClause, IsCall, IsRequest, LayerFits, LayersFit, TakesValue, TargetFits, bare, bares, is_clause, is_run, waits}
use Rattle.step_model.proofs.BareLemmas.{length-bares}

-- ---- layers by their numbers

pick : (P : Option Frame → Type 0) (x : Bool) (l : Frame) (o : Option Frame) → (P (Some l) → ⊥) → P (if x then Some l else o) → P o
pick P true l o never h = absurd (never h)
pick P false l o never h = h

if_true : (x : Bool) (l : Frame) (o : Option Frame) → x ≡ true → (if x then Some l else o) ≡ Some l
if_true true l o e = refl
if_true false l o e = absurd (false≢true e)

if_false : (x : Bool) (l : Frame) (o : Option Frame) → (x ≡ true → ⊥) → (if x then Some l else o) ≡ o
if_false true l o e = absurd (e refl)
if_false false l o e = refl

pub layer_here : (target : ℕ) (l : Frame) (c : Context) → target ≡ length c + 1 → layer_at target (l ∷ c) ≡ Some l
layer_here target l c e = if_true (target == length c + 1) l (layer_at target c) (eq-eqb target (length c + 1) e)

pub layer_past : (target : ℕ) (l : Frame) (c : Context) → target ≢ length c + 1 → layer_at target (l ∷ c) ≡ layer_at target c
layer_past target l c ne = if_false (target == length c + 1) l (layer_at target c) (λ e. ne (eqb-true target (length c + 1) e))

pub layer_none : (target : ℕ) (c : Context) → length c < target → layer_at target c ≡ None
layer_none target [] h = refl
layer_none target (l ∷ c) h = layer_past target l c (λ e. omega arith) ∙ layer_none target c (omega arith)

map_if : (x : Bool) (l : Frame) (o : Option Frame) → (if x then Some (bare l) else option_map bare o) ≡ option_map bare (if x then Some l else o)
map_if true l o = refl
map_if false l o = refl

pub layer_at-bares : (target : ℕ) (c : Context) → layer_at target (bares c) ≡ option_map bare (layer_at target c)
layer_at-bares target [] = refl
layer_at-bares target (l ∷ c) =
    ap (λ k. if target == k + 1 then Some (bare l) else layer_at target (bares c)) (length-bares c)
    ∙ ap (λ o. if target == length c + 1 then Some (bare l) else o) (layer_at-bares target c)
    ∙ map_if (target == length c + 1) l (layer_at target c)

-- ---- targets further out and further in

-- a layer that is no target of any exit
record NoTarget (l : Frame) : Type 0 where
  no_value : TakesValue (Some l) → ⊥
  no_clauses : (i : ℕ) → HasClause i (Some l) → ⊥
  no_call : IsCall (Some l) → ⊥
  no_request : IsRequest (Some l) → ⊥

no_protected : (k : ℕ) (cleanup : List Ast) → NoTarget (frame.Protect k cleanup)
no_protected k cleanup = record { no_value = λ h. h; no_clauses = λ i h. h; no_call = λ h. h; no_request = λ h. h }

target_not : (target : ℕ) (b : Bring) (l : Frame) (d : Context) → NoTarget l → TargetFits target b (l ∷ d) → TargetFits target b d
target_not target (bring.Value v) l d none h = (h.0, pick TakesValue (target == length d + 1) l (layer_at target d) none.no_value h.1)
target_not target (bring.Reply r) l d none h = (h.0, pick TakesValue (target == length d + 1) l (layer_at target d) none.no_value h.1)
target_not target (bring.Clause i vs) l d none h = (h.0, pick (HasClause i) (target == length d + 1) l (layer_at target d) (none.no_clauses i) h.1)
target_not target bring.Call l d none h = (h.0, pick IsCall (target == length d + 1) l (layer_at target d) none.no_call h.1)
target_not target bring.Nothing l d none h =
    ⊎_elim (λ e. inl e) (λ r. inr (r.0, pick IsRequest (target == length d + 1) l (layer_at target d) none.no_request r.1)) h

-- the layers at the target are the same in two contexts
target_same : (target : ℕ) (b : Bring) (c d : Context) → layer_at target c ≡ layer_at target d → TargetFits target b c → TargetFits target b d
target_same target (bring.Value v) c d e h = (h.0, subst TakesValue e h.1)
target_same target (bring.Reply r) c d e h = (h.0, subst TakesValue e h.1)
target_same target (bring.Clause i vs) c d e h = (h.0, subst (HasClause i) e h.1)
target_same target bring.Call c d e h = (h.0, subst IsCall e h.1)
target_same target bring.Nothing c d e h = ⊎_elim (λ z. inl z) (λ r. inr (r.0, subst IsRequest e r.1)) h

pub target_past : (target : ℕ) (b : Bring) (l : Frame) (d : Context) → target ≢ length d + 1 → TargetFits target b (l ∷ d) → TargetFits target b d
target_past target b l d ne h = target_same target b (l ∷ d) d (layer_past target l d ne) h

-- no target is past the context
beyond : (target : ℕ) (b : Bring) (d : Context) → target ≡ length d + 1 → TargetFits target b d → ⊥
beyond target (bring.Value v) d e h = subst TakesValue (layer_none target d (omega arith)) h.1
beyond target (bring.Reply r) d e h = subst TakesValue (layer_none target d (omega arith)) h.1
beyond target (bring.Clause i vs) d e h = subst (HasClause i) (layer_none target d (omega arith)) h.1
beyond target bring.Call d e h = subst IsCall (layer_none target d (omega arith)) h.1
beyond target bring.Nothing d e h = ⊎_elim (λ (z : target ≡ 0). absurd (omega arith)) (λ r. subst IsRequest (layer_none target d (omega arith)) r.1) h

pub target_out : (target : ℕ) (b : Bring) (l : Frame) (d : Context) → TargetFits target b d → TargetFits target b (l ∷ d)
target_out target b l d h = target_same target b d (l ∷ d) (sym (layer_past target l d (λ e. beyond target b d e h))) h

-- ---- what an exit leaves

abbrev pub brings_nothing : Bring → Bool
brings_nothing bring.Nothing = true
brings_nothing _ = false

-- an exit that goes past this many layers: where it has arrived the place is one for what it brings
abbrev Leads : ℕ → ℕ → Bring → Context → Type 0
Leads zero target b c = waits (bares c) ≡ brings_nothing b
Leads (suc d) target b c = TargetFits target b (bares c)

busy_value : (l : Frame) (d : Context) → TakesValue (Some (bare l)) → LayerFits (bare l) d → waits d ≡ false
busy_value (frame.On (plain.Catch v)) d t h = h
busy_value (frame.On (plain.Block name)) d t h = h
busy_value (frame.On (plain.Restarts offers)) d t h = h
busy_value (frame.On (plain.Call g vs)) d t h = h
busy_value (frame.On p) d t h = absurd t
busy_value (frame.Protect k cleanup) d t h = absurd t
busy_value (frame.Cleanup k kept) d t h = absurd t
busy_value (frame.Rex i id form) d t h = absurd t
busy_value (frame.Sldb n condition told) d t h = absurd t
busy_value (frame.Ask kind tag) d t h = absurd t

busy_clauses : (i : ℕ) (l : Frame) (d : Context) → HasClause i (Some (bare l)) → LayerFits (bare l) d → waits d ≡ false
busy_clauses i (frame.On (plain.Handlers cluster)) d t h = h
busy_clauses i (frame.On (plain.Restarts offers)) d t h = h
busy_clauses i (frame.On p) d t h = absurd t
busy_clauses i (frame.Protect k cleanup) d t h = absurd t
busy_clauses i (frame.Cleanup k kept) d t h = absurd t
busy_clauses i (frame.Rex at id form) d t h = absurd t
busy_clauses i (frame.Sldb n condition told) d t h = absurd t
busy_clauses i (frame.Ask kind tag) d t h = absurd t

busy_call : (l : Frame) (d : Context) → IsCall (Some (bare l)) → LayerFits (bare l) d → waits d ≡ false
busy_call (frame.On (plain.Call g vs)) d t h = h
busy_call (frame.On p) d t h = absurd t
busy_call (frame.Protect k cleanup) d t h = absurd t
busy_call (frame.Cleanup k kept) d t h = absurd t
busy_call (frame.Rex i id form) d t h = absurd t
busy_call (frame.Sldb n condition told) d t h = absurd t
busy_call (frame.Ask kind tag) d t h = absurd t

waits_request : (l : Frame) (d : Context) → IsRequest (Some (bare l)) → LayerFits (bare l) d → waits d ≡ true
waits_request (frame.Rex i id form) d t h = h
waits_request (frame.On p) d t h = absurd t
waits_request (frame.Protect k cleanup) d t h = absurd t
waits_request (frame.Cleanup k kept) d t h = absurd t
waits_request (frame.Sldb n condition told) d t h = absurd t
waits_request (frame.Ask kind tag) d t h = absurd t

at_top : (c : Context) → length c ≡ 0 → waits (bares c) ≡ true
at_top [] e = refl
at_top (l ∷ c) e = absurd (omega arith)

-- the exit has come past its target
arrives : (target : ℕ) (b : Bring) (l : Frame) (c : Context) → target - 1 ≡ length c → LayerFits (bare l) (bares c) → TargetFits target b (bare l ∷ bares c) → waits (bares c) ≡ brings_nothing b
arrives target (bring.Value v) l c e h g = busy_value l (bares c) (subst TakesValue (layer_here target (bare l) (bares c) (omega (arith, g.0, length-bares c))) g.1) h
arrives target (bring.Reply r) l c e h g = busy_value l (bares c) (subst TakesValue (layer_here target (bare l) (bares c) (omega (arith, g.0, length-bares c))) g.1) h
arrives target (bring.Clause i vs) l c e h g = busy_clauses i l (bares c) (subst (HasClause i) (layer_here target (bare l) (bares c) (omega (arith, g.0, length-bares c))) g.1) h
arrives target bring.Call l c e h g = busy_call l (bares c) (subst IsCall (layer_here target (bare l) (bares c) (omega (arith, g.0, length-bares c))) g.1) h
arrives target bring.Nothing l c e h g =
    ⊎_elim (λ (z : target ≡ 0). at_top c (omega arith))
    (λ (r : (1 ≤ target) × IsRequest (layer_at target (bare l ∷ bares c))). waits_request l (bares c) (subst IsRequest (layer_here target (bare l) (bares c) (omega (arith, r.0, length-bares c))) r.1) h) g

leads_next : (target d : ℕ) (b : Bring) (l : Frame) (c : Context) → suc d + (target - 1) ≡ suc (length c) → LayerFits (bare l) (bares c) → TargetFits target b (bare l ∷ bares c) → Leads d target b c
leads_next target zero b l c e h g = arrives target b l c (omega arith) h g
leads_next target (suc d) b l c e h g = target_past target b (bare l) (bares c) (λ same. omega (arith, length-bares c)) g

leads_first : (target d : ℕ) (b : Bring) (c : Context) → d + (target - 1) ≡ length c → TargetFits target b (bares c) → Leads d target b c
leads_first target (suc d) b c e g = g
leads_first target zero (bring.Value v) c e g = absurd (beyond target (bring.Value v) (bares c) (omega (arith, g.0, length-bares c)) g)
leads_first target zero (bring.Reply r) c e g = absurd (beyond target (bring.Reply r) (bares c) (omega (arith, g.0, length-bares c)) g)
leads_first target zero (bring.Clause i vs) c e g = absurd (beyond target (bring.Clause i vs) (bares c) (omega (arith, g.0, length-bares c)) g)
leads_first target zero bring.Call c e g = absurd (beyond target bring.Call (bares c) (omega (arith, g.0, length-bares c)) g)
leads_first target zero bring.Nothing c e g =
    ⊎_elim (λ (z : target ≡ 0). at_top c (omega arith))
    (λ (r : (1 ≤ target) × IsRequest (layer_at target (bares c))). absurd (beyond target bring.Nothing (bares c) (omega (arith, r.0, length-bares c)) (inr r))) g

leave_layers : (t target d : ℕ) (b : Bring) (c : Context) → d + (target - 1) ≡ length c → LayersFit (bares c) → Leads d target b c → LayersFit (bares (leave t (saved.Exit target b) d c).around)
leave_layers t target zero b c e h g = h
leave_layers t target (suc d) b [] e h g = tt
leave_layers t target (suc d) b (frame.Protect k cleanup ∷ c) e h g = ((h.0, target_not target b (frame.Protect k cleanup) (bares c) (no_protected k cleanup) g), h.1)
leave_layers t target (suc d) b (frame.On p ∷ c) e h g = leave_layers t target d b c (omega arith) h.1 (leads_next target d b (frame.On p) c e h.0 g)
leave_layers t target (suc d) b (frame.Cleanup k kept ∷ c) e h g = leave_layers t target d b c (omega arith) h.1 (leads_next target d b (frame.Cleanup k kept) c e h.0 g)
leave_layers t target (suc d) b (frame.Rex i id form ∷ c) e h g = leave_layers t target d b c (omega arith) h.1 (leads_next target d b (frame.Rex i id form) c e h.0 g)
leave_layers t target (suc d) b (frame.Sldb m condition told ∷ c) e h g = leave_layers t target d b c (omega arith) h.1 (leads_next target d b (frame.Sldb m condition told) c e h.0 g)
leave_layers t target (suc d) b (frame.Ask kind tag ∷ c) e h g = leave_layers t target d b c (omega arith) h.1 (leads_next target d b (frame.Ask kind tag) c e h.0 g)

-- the place where a cleanup runs is busy; where none does, the place is one for what the exit brings
abbrev pub TodoFits : Bring → Option (List Ast) → Context → Type 0
TodoFits b None d = waits d ≡ brings_nothing b
TodoFits b (Some cleanup) d = waits d ≡ false

leave_todo : (t target d : ℕ) (b : Bring) (c : Context) → d + (target - 1) ≡ length c → LayersFit (bares c) → Leads d target b c → TodoFits b (leave t (saved.Exit target b) d c).todo (bares (leave t (saved.Exit target b) d c).around)
leave_todo t target zero b c e h g = g
leave_todo t target (suc d) b [] e h g = absurd (omega arith)
leave_todo t target (suc d) b (frame.Protect k cleanup ∷ c) e h g = refl
leave_todo t target (suc d) b (frame.On p ∷ c) e h g = leave_todo t target d b c (omega arith) h.1 (leads_next target d b (frame.On p) c e h.0 g)
leave_todo t target (suc d) b (frame.Cleanup k kept ∷ c) e h g = leave_todo t target d b c (omega arith) h.1 (leads_next target d b (frame.Cleanup k kept) c e h.0 g)
leave_todo t target (suc d) b (frame.Rex i id form ∷ c) e h g = leave_todo t target d b c (omega arith) h.1 (leads_next target d b (frame.Rex i id form) c e h.0 g)
leave_todo t target (suc d) b (frame.Sldb m condition told ∷ c) e h g = leave_todo t target d b c (omega arith) h.1 (leads_next target d b (frame.Sldb m condition told) c e h.0 g)
leave_todo t target (suc d) b (frame.Ask kind tag ∷ c) e h g = leave_todo t target d b c (omega arith) h.1 (leads_next target d b (frame.Ask kind tag) c e h.0 g)

not_more_by : (a b : ℕ) (x : Bool) → nat_lt b a ≡ x → (b < a → ⊥) → a ≤ b
not_more_by a b true e never = absurd (never (ltb-true b a e))
not_more_by a b false e never = ltb-false b a e

not_more : (a b : ℕ) → (b < a → ⊥) → a ≤ b
not_more a b never = not_more_by a b (nat_lt b a) refl never

pub inside_context : (target : ℕ) (b : Bring) (c : Context) → TargetFits target b (bares c) → target - 1 ≤ length c
inside_context target b c g = not_more (target - 1) (length c) (λ more. far target b c more g)
  where
    far : (target : ℕ) (b : Bring) (c : Context) → length c < target - 1 → TargetFits target b (bares c) → ⊥
    far target (bring.Value v) c more h = subst TakesValue (layer_none target (bares c) (omega (arith, length-bares c))) h.1
    far target (bring.Reply r) c more h = subst TakesValue (layer_none target (bares c) (omega (arith, length-bares c))) h.1
    far target (bring.Clause i vs) c more h = subst (HasClause i) (layer_none target (bares c) (omega (arith, length-bares c))) h.1
    far target bring.Call c more h = subst IsCall (layer_none target (bares c) (omega (arith, length-bares c))) h.1
    far target bring.Nothing c more h = ⊎_elim (λ (z : target ≡ 0). absurd (omega arith)) (λ r. subst IsRequest (layer_none target (bares c) (omega (arith, length-bares c))) r.1) h

-- what an exit leaves, and where
pub record LeavesWell (t target : ℕ) (b : Bring) (c : Context) : Type 0 where
  pub layers : LayersFit (bares (leave t (saved.Exit target b) (distance target c) c).around)
  pub todo : TodoFits b (leave t (saved.Exit target b) (distance target c) c).todo (bares (leave t (saved.Exit target b) (distance target c) c).around)

pub leaves_well : (t target : ℕ) (b : Bring) (c : Context) → LayersFit (bares c) → TargetFits target b (bares c) → LeavesWell t target b c
leaves_well t target b c h g =
    let d = distance target c in
    let e : d + (target - 1) ≡ length c = omega (arith, inside_context target b c g) in
    record { layers = leave_layers t target d b c e h (leads_first target d b c e g); todo = leave_todo t target d b c e h (leads_first target d b c e g) }

-- ---- blocks and catches

abbrev pub ValueFits : Option ℕ → Context → Type 0
ValueFits None d = Unit {0}
ValueFits (Some target) d = (v : Value) → TargetFits target (bring.Value v) d

value_out : (o : Option ℕ) (l : Frame) (d : Context) → ValueFits o d → ValueFits o (l ∷ d)
value_out None l d h = tt
value_out (Some target) l d h = λ v. target_out target (bring.Value v) l d (h v)

-- what a layer that is found tells
abbrev Tells : (ℕ → Frame → Sight ℕ) → Type 0
Tells look = (n : ℕ) (l : Frame) (m : ℕ) → look n l ≡ sight.Here m → (m ≡ n) × TakesValue (Some (bare l))

seen_fits : (look : ℕ → Frame → Sight ℕ) → Tells look → (l : Frame) (c : Context) (s : Sight ℕ) (o : Option ℕ) → look (length c + 1) l ≡ s → ValueFits o (bares c) → ValueFits (seen s o) (bares (l ∷ c))
seen_fits look tells l c (sight.Here m) o e h =
    let t = tells (length c + 1) l m e in
    λ v. (omega (arith, t.0), subst TakesValue (sym (layer_here m (bare l) (bares c) (omega (arith, t.0, length-bares c)))) t.1)
seen_fits look tells l c sight.Ends o e h = tt
seen_fits look tells l c sight.Past o e h = value_out o (bare l) (bares c) h

nearest_fits : (look : ℕ → Frame → Sight ℕ) → Tells look → (c : Context) → ValueFits (nearest look c) (bares c)
nearest_fits look tells [] = tt
nearest_fits look tells (l ∷ c) = seen_fits look tells l c (look (length c + 1) l) (nearest look c) refl (nearest_fits look tells c)

here_if : (b : Bool) (n m : ℕ) → (if b then sight.Here n else sight.Past) ≡ sight.Here m → m ≡ n
here_if true n m e = cc
here_if false n m e = absurd (cc)

block_tells : (name : Symbol) → Tells (block_in name)
block_tells name n (frame.On (plain.Block x)) m e = (here_if (same_symbol x name) n m e, tt)
block_tells name n (frame.On p) m e = absurd (cc)
block_tells name n (frame.Protect k cleanup) m e = absurd (cc)
block_tells name n (frame.Cleanup k kept) m e = absurd (cc)
block_tells name n (frame.Rex i id form) m e = absurd (cc)
block_tells name n (frame.Sldb k condition told) m e = absurd (cc)
block_tells name n (frame.Ask kind tag) m e = absurd (cc)

catch_tells : (tag : Value) → Tells (catch_in tag)
catch_tells tag n (frame.On (plain.Catch v)) m e = (here_if (same_value v tag) n m e, tt)
catch_tells tag n (frame.On p) m e = absurd (cc)
catch_tells tag n (frame.Protect k cleanup) m e = absurd (cc)
catch_tells tag n (frame.Cleanup k kept) m e = absurd (cc)
catch_tells tag n (frame.Rex i id form) m e = absurd (cc)
catch_tells tag n (frame.Sldb k condition told) m e = absurd (cc)
catch_tells tag n (frame.Ask kind t) m e = absurd (cc)

pub block_fits : (name : Symbol) (c : Context) → ValueFits (find_block name c) (bares c)
block_fits name c = nearest_fits (block_in name) (block_tells name) c

pub catch_fits : (tag : Value) (c : Context) → ValueFits (find_catch tag c) (bares c)
catch_fits tag c = nearest_fits (catch_in tag) (catch_tells tag) c

-- ---- restarts

abbrev pub LeavingFits : Option Leaving → Context → Type 0
LeavingFits None d = Unit {0}
LeavingFits (Some x) d = TargetFits x.target x.bring d

restarts_at : (n : ℕ) (offers : List Offer) (c : Context) → layer_at n c ≡ Some (frame.On (plain.Restarts offers)) → layer_at n (bares c) ≡ Some (frame.On (plain.Restarts offers))
restarts_at n offers c e = layer_at-bares n c ∙ ap (option_map bare) e

action_fits : (n i : ℕ) (vs : List Value) (a : Action) (offers : List Offer) (c : Context) → 1 ≤ n → layer_at n c ≡ Some (frame.On (plain.Restarts offers)) → is_clause (slice_get offers i) ≡ is_run a → LeavingFits (Some (by_action n i vs a)) (bares c)
action_fits n i vs (Give (outcome.Value v)) offers c h e g = (h, subst TakesValue (sym (restarts_at n offers c e)) tt)
action_fits n i vs (Give (outcome.Reply r)) offers c h e g = (h, subst TakesValue (sym (restarts_at n offers c e)) tt)
action_fits n i vs (Run clause) offers c h e g = (h, subst (HasClause i) (sym (restarts_at n offers c e)) g)

offer_fits : (n i : ℕ) (vs : List Value) (o : Option Offer) (offers : List Offer) (c : Context) → 1 ≤ n → layer_at n c ≡ Some (frame.On (plain.Restarts offers)) → slice_get offers i ≡ o → LeavingFits (by_offer n i vs o) (bares c)
offer_fits n i vs None offers c h e g = tt
offer_fits n i vs (Some offer) offers c h e g = action_fits n i vs offer.action offers c h e (ap is_clause g)

layer_fits : (n i : ℕ) (vs : List Value) (o : Option Frame) (c : Context) → 1 ≤ n → layer_at n c ≡ o → LeavingFits (by_layer n i vs o) (bares c)
layer_fits n i vs (Some (frame.On (plain.Restarts offers))) c h e = offer_fits n i vs (slice_get offers i) offers c h e refl
layer_fits n i vs (Some (frame.Rex at id form)) c h e = inr (h, subst IsRequest (sym (layer_at-bares n c ∙ ap (option_map bare) e)) tt)
layer_fits n i vs (Some (frame.On p)) c h e = tt
layer_fits n i vs (Some (frame.Protect k cleanup)) c h e = tt
layer_fits n i vs (Some (frame.Cleanup k kept)) c h e = tt
layer_fits n i vs (Some (frame.Sldb k condition told)) c h e = tt
layer_fits n i vs (Some (frame.Ask kind tag)) c h e = tt
layer_fits n i vs None c h e = tt

pub top_fits : (d : Context) → TargetFits 0 bring.Nothing d
top_fits d = inl refl

pub invoked_fits : (n i : ℕ) (vs : List Value) (c : Context) → LeavingFits (invoked n i vs c) (bares c)
invoked_fits zero i vs c = top_fits (bares c)
invoked_fits (suc n) i vs c = layer_fits (suc n) i vs (layer_at (suc n) c) c (omega arith) refl

pub invoking_fits : (r : Option Restart) (vs : List Value) (c : Context) → LeavingFits (invoking r vs c) (bares c)
invoking_fits None vs c = tt
invoking_fits (Some r) vs c = invoked_fits r.at r.number vs c

or_to_top_fits : (o : Option Leaving) (d : Context) → LeavingFits o d → TargetFits (or_to_top o).target (or_to_top o).bring d
or_to_top_fits (Some x) d h = h
or_to_top_fits None d h = top_fits d

pub abort_fits : (c : Context) → TargetFits (abort_exit c).target (abort_exit c).bring (bares c)
abort_fits c = or_to_top_fits (invoking (find_restart abort c) [] c) (bares c) (invoking_fits (find_restart abort c) [] c)
