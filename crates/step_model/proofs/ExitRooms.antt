-- Exits stay within the limit of layers.
use Rattle.std.proofs.Common.{◌≡◌, ◌≢◌, ⊎_elim, ℕ, zero, suc, ◌+◌, ◌-◌, ◌≤◌, Bool, true, false, List, [], ◌∷◌, length, Option, Some, None, refl, sym, ap, ◌∙◌, subst, arith}
use Rattle.std.specs.Prelude.{option_map, slice_get}
use Rattle.std.proofs.lemmas.Bool.{false≢true}
use Rattle.lisp_data.specs.declared.value.Value.{Value}
use Rattle.syntax_trees.specs.declared.ast.Ast.{Ast}
use Rattle.term_model.specs.declared.focus.Focus.{Focus}
use Rattle.term_model.specs.declared.focus.Focus.TheVariants as focus
use Rattle.term_model.specs.declared.frame.Frame.{Frame}
use Rattle.term_model.specs.declared.frame.Frame.TheVariants as frame
use Rattle.term_model.specs.declared.kept.Bring.{Bring}
use Rattle.term_model.specs.declared.kept.Bring.TheVariants as bring
use Rattle.term_model.specs.declared.kept.Saved.TheVariants as saved
use Rattle.term_model.specs.declared.plain.Cluster.TheVariants.{Clauses}
use Rattle.term_model.specs.declared.plain.Plain.TheVariants as plain
use Rattle.term_model.specs.declared.restart.Action.{Action}
use Rattle.term_model.specs.declared.restart.Action.TheVariants.{Give, Run}
use Rattle.term_model.specs.declared.restart.Offer.{Offer}
use Rattle.term_model.specs.Exit.{distance, leave, stir}
use Rattle.term_model.specs.Room.{layers, levels, limit}
use Rattle.term_model.specs.Search.{layer_at}
use Rattle.term_model.specs.Term.{Context}
use Rattle.step_model.specs.Facts.{FocusFits, HasClause, IsCall, IsRequest, TakesValue, TargetFits, bare, bares}
use Rattle.step_model.specs.Now.{Now}
use Rattle.step_model.specs.Perform.{after_leaving}
use Rattle.step_model.specs.Rooms.{BrokenRoom, LayerRoom, LayersRoom, extra, is_giving, is_offering, number_if}
use Rattle.step_model.proofs.BareLemmas.{bares-stir, length-bares}
use Rattle.step_model.proofs.Carrying.{Lands, Property, landing, left_by, nothing, of_action, of_bring, of_call, of_handler, of_offer, of_target}
use Rattle.step_model.proofs.FitLemmas.{Place}
use Rattle.step_model.proofs.RoomLemmas.{Inner, Roomy, cushion, limit-least}
use Rattle.step_model.proofs.TargetFits.{inside_context, layer_at-bares, layer_here, layer_none, layer_past, target_past}

-- how far past the limit any context may be
abbrev pub most : Context → ℕ
most [] = 1
most (l ∷ c) = 1 + number_if 1 (is_offering l)

abbrev pub Bounded : Context → Type 0
Bounded d = layers d ≤ limit (levels d) + most d

two_of_one : (b : Bool) → number_if 2 b ≤ 1 + number_if 1 b
two_of_one true = omega arith
two_of_one false = omega arith

extra_most : (d : Context) → extra d ≤ most d
extra_most [] = omega arith
extra_most (l ∷ d) = two_of_one (is_offering l)

one_most : (d : Context) → 1 ≤ most d
one_most [] = omega arith
one_most (l ∷ d) = omega arith

at_most_one : (b : Bool) → number_if 1 b ≤ 1
at_most_one true = omega arith
at_most_one false = omega arith

bounded_next : (l : Frame) (d : Context) → LayerRoom l d → Bounded (l ∷ d) → Bounded d
bounded_next (frame.Sldb n condition again) d h g = omega (arith, extra_most d)
bounded_next (frame.On p) d h g = omega (arith, one_most d, at_most_one (is_offering (frame.On p)))
bounded_next (frame.Protect k cleanup) d h g = omega (arith, one_most d)
bounded_next (frame.Cleanup k kept) d h g = omega (arith, one_most d)
bounded_next (frame.Rex i id form) d h g = omega (arith, one_most d)
bounded_next (frame.Ask kind tag) d h g = omega (arith, one_most d)

pub redex_bounded : (f : Focus) (d : Context) → BrokenRoom f d → Bounded d
redex_bounded (focus.Given o) d h = omega (arith, one_most d)
redex_bounded (focus.Break o) d h = omega (arith, one_most d)
redex_bounded focus.Abort d h = omega (arith, one_most d)
redex_bounded f d h = let g : layers d ≤ limit (levels d) = h in omega (arith, one_most d)

-- ---- coming past a target

abbrev pub spare : Option Frame → ℕ
spare None = 0
spare (Some l) = number_if 1 (is_offering l)

few_spare : (o : Option Frame) → spare o ≤ 1
few_spare None = omega arith
few_spare (Some l) = at_most_one (is_offering l)

abbrev is_level : Frame → Bool
is_level (frame.Sldb n condition again) = true
is_level _ = false

past_layer : (l : Frame) (d : Context) → is_level l ≡ false → Bounded (l ∷ d) → layers d ≤ limit (levels d) + spare (Some l)
past_layer (frame.Sldb n condition again) d e g = absurd (false≢true (sym e))
past_layer (frame.On p) d e g = omega arith
past_layer (frame.Protect k cleanup) d e g = omega arith
past_layer (frame.Cleanup k kept) d e g = omega arith
past_layer (frame.Rex i id form) d e g = omega arith
past_layer (frame.Ask kind tag) d e g = omega arith

no_level_value : (l : Frame) → TakesValue (Some l) → is_level l ≡ false
no_level_value (frame.Sldb n condition again) h = absurd h
no_level_value (frame.On p) h = refl
no_level_value (frame.Protect k cleanup) h = refl
no_level_value (frame.Cleanup k kept) h = refl
no_level_value (frame.Rex i id form) h = refl
no_level_value (frame.Ask kind tag) h = refl

no_level_clauses : (i : ℕ) (l : Frame) → HasClause i (Some l) → is_level l ≡ false
no_level_clauses i (frame.Sldb n condition again) h = absurd h
no_level_clauses i (frame.On p) h = refl
no_level_clauses i (frame.Protect k cleanup) h = refl
no_level_clauses i (frame.Cleanup k kept) h = refl
no_level_clauses i (frame.Rex at id form) h = refl
no_level_clauses i (frame.Ask kind tag) h = refl

no_level_call : (l : Frame) → IsCall (Some l) → is_level l ≡ false
no_level_call (frame.Sldb n condition again) h = absurd h
no_level_call (frame.On p) h = refl
no_level_call (frame.Protect k cleanup) h = refl
no_level_call (frame.Cleanup k kept) h = refl
no_level_call (frame.Rex i id form) h = refl
no_level_call (frame.Ask kind tag) h = refl

no_level_request : (l : Frame) → IsRequest (Some l) → is_level l ≡ false
no_level_request (frame.Sldb n condition again) h = absurd h
no_level_request (frame.On p) h = refl
no_level_request (frame.Protect k cleanup) h = refl
no_level_request (frame.Cleanup k kept) h = refl
no_level_request (frame.Rex i id form) h = refl
no_level_request (frame.Ask kind tag) h = refl

-- the exit has come past its target: the place is within the limit, but for the restart of an interrupt
past_target : (target : ℕ) (l : Frame) (d : Context) (o : Option Frame) → target ≡ length d + 1 → layer_at target (l ∷ d) ≡ o → is_level l ≡ false → Bounded (l ∷ d) → layers d ≤ limit (levels d) + spare o
past_target target l d o e is level g = subst (λ x. layers d ≤ limit (levels d) + spare x) (sym (layer_here target l d e) ∙ is) (past_layer l d level g)

alone_layers : (d : Context) → length d ≡ 0 → layers d ≤ limit (levels d)
alone_layers d e = omega (arith, limit-least (levels d))

arrives_room : (target : ℕ) (b : Bring) (l : Frame) (d : Context) (o : Option Frame) → target - 1 ≡ length d → layer_at target (l ∷ d) ≡ o → TargetFits target b (l ∷ d) → Bounded (l ∷ d) → layers d ≤ limit (levels d) + spare o
arrives_room target (bring.Value v) l d o e is h g =
    let at : target ≡ length d + 1 = omega (arith, h.0) in past_target target l d o at is (no_level_value l (subst TakesValue (layer_here target l d at) h.1)) g
arrives_room target (bring.Reply r) l d o e is h g =
    let at : target ≡ length d + 1 = omega (arith, h.0) in past_target target l d o at is (no_level_value l (subst TakesValue (layer_here target l d at) h.1)) g
arrives_room target (bring.Clause i vs) l d o e is h g =
    let at : target ≡ length d + 1 = omega (arith, h.0) in past_target target l d o at is (no_level_clauses i l (subst (HasClause i) (layer_here target l d at) h.1)) g
arrives_room target bring.Call l d o e is h g =
    let at : target ≡ length d + 1 = omega (arith, h.0) in past_target target l d o at is (no_level_call l (subst IsCall (layer_here target l d at) h.1)) g
arrives_room target bring.Nothing l d o e is h g =
    ⊎_elim
    (λ (z : target ≡ 0). let none : length d ≡ 0 = omega arith in let k : layers d ≤ limit (levels d) = alone_layers d none in omega arith)
    (λ (r : (1 ≤ target) × IsRequest (layer_at target (l ∷ d))). let at : target ≡ length d + 1 = omega (arith, r.0) in past_target target l d o at is (no_level_request l (subst IsRequest (layer_here target l d at) r.1)) g)
    h

-- an exit that goes past this many layers to a target whose layer is `o`
abbrev LeadsRoom : ℕ → ℕ → Bring → Option Frame → Context → Type 0
LeadsRoom zero target b o c = layers (bares c) ≤ limit (levels (bares c)) + spare o
LeadsRoom (suc d) target b o c = (layer_at target (bares c) ≡ o) × TargetFits target b (bares c)

leads_room_next : (target d : ℕ) (b : Bring) (o : Option Frame) (l : Frame) (c : Context) → suc d + (target - 1) ≡ suc (length c) → (layer_at target (bare l ∷ bares c) ≡ o) × TargetFits target b (bare l ∷ bares c) → Bounded (bare l ∷ bares c) → LeadsRoom d target b o c
leads_room_next target zero b o l c e h g = arrives_room target b (bare l) (bares c) o (omega (arith, length-bares c)) h.0 h.1 g
leads_room_next target (suc d) b o l c e h g =
    let ne : target ≢ length (bares c) + 1 = λ (same : target ≡ length (bares c) + 1). omega (arith, length-bares c) in
    (sym (layer_past target (bare l) (bares c) ne) ∙ h.0, target_past target b (bare l) (bares c) ne h.1)

abbrev TodoRoom : Option (List Ast) → Option Frame → Context → Type 0
TodoRoom None o d = layers d ≤ limit (levels d) + spare o
TodoRoom (Some cleanup) o d = layers d ≤ limit (levels d) + cushion d

record LeftRoom (left : Context) (next : Option (List Ast)) (o : Option Frame) : Type 0 where
  rooms : LayersRoom (bares left)
  todo : TodoRoom next o (bares left)

leave_room : (t target d : ℕ) (b : Bring) (o : Option Frame) (c : Context) → d + (target - 1) ≡ length c → LayersRoom (bares c) → Bounded (bares c) → LeadsRoom d target b o c → LeftRoom (leave t (saved.Exit target b) d c).around (leave t (saved.Exit target b) d c).todo o
leave_room t target zero b o c e h g k = record { rooms = h; todo = k }
leave_room t target (suc d) b o [] e h g k = absurd (omega arith)
leave_room t target (suc d) b o (frame.Protect n cleanup ∷ c) e h g k = record { rooms = (tt, h.1); todo = omega arith }
leave_room t target (suc d) b o (frame.On p ∷ c) e h g k =
    leave_room t target d b o c (omega arith) h.1 (bounded_next (bare (frame.On p)) (bares c) h.0 g) (leads_room_next target d b o (frame.On p) c e k g)
leave_room t target (suc d) b o (frame.Cleanup n kept ∷ c) e h g k =
    leave_room t target d b o c (omega arith) h.1 (bounded_next (frame.Cleanup n kept) (bares c) h.0 g) (leads_room_next target d b o (frame.Cleanup n kept) c e k g)
leave_room t target (suc d) b o (frame.Rex i id form ∷ c) e h g k =
    leave_room t target d b o c (omega arith) h.1 (bounded_next (frame.Rex i id form) (bares c) h.0 g) (leads_room_next target d b o (frame.Rex i id form) c e k g)
leave_room t target (suc d) b o (frame.Sldb m condition again ∷ c) e h g k =
    leave_room t target d b o c (omega arith) h.1 (bounded_next (frame.Sldb m condition false) (bares c) h.0 g) (leads_room_next target d b o (frame.Sldb m condition again) c e k g)
leave_room t target (suc d) b o (frame.Ask kind tag ∷ c) e h g k =
    leave_room t target d b o c (omega arith) h.1 (bounded_next (frame.Ask kind tag) (bares c) h.0 g) (leads_room_next target d b o (frame.Ask kind tag) c e k g)

-- ---- a property of threads whose layers are within their limit

-- such layers, as far past the limit as this
abbrev Past : ℕ → Now → Type 0
Past k n = LayersRoom (bares n.context) × (layers (bares n.context) ≤ limit (levels (bares n.context)) + k)

abbrev pub rooms : Property
rooms = record {
  inner = λ n. Place (bares n.context) × Inner (bares n.context);
  passing = λ n. Place (bares n.context) × Past 1 n;
  stands = λ n. Past (cushion (bares n.context)) n;
  holds = Past 1;
  done = Roomy;
  markers = λ ps n. Unit {0};
  form = λ found. Unit {0};
  outcome = λ o. Unit {0};
  passed = λ o. Unit {0};
  exit = λ target b n. LayersRoom (bares n.context) × Bounded (bares n.context) × TargetFits target b (bares n.context);
  waiting = λ q n. FocusFits (focus.Wait q) (bares n.context) × Inner (bares n.context);
}

-- ---- landing

handler_lands : (n : Now) (clause : Option Ast) (vs : List Value) → Past 0 n → Lands rooms (of_handler clause vs) n
handler_lands n None vs h = ((h.0, omega (arith, h.1)), tt)
handler_lands n (Some clause) vs h = ((h.0, omega (arith, h.1)), tt, tt)

action_lands : (n : Now) (a : Action) (vs : List Value) → Past (number_if 1 (is_giving a)) n → Lands rooms (of_action a vs) n
action_lands n (Give o) vs h = (h, tt)
action_lands n (Run clause) vs h = ((h.0, omega (arith, h.1)), tt, tt)

abbrev offer_spare : Option Offer → ℕ
offer_spare None = 1
offer_spare (Some offer) = number_if 1 (is_giving offer.action)

offer_lands : (n : Now) (o : Option Offer) (vs : List Value) → Past (offer_spare o) n → Lands rooms (of_offer o vs) n
offer_lands n None vs h = (h, tt)
offer_lands n (Some offer) vs h = action_lands n offer.action vs h

-- the offer that is chosen from a layer
chosen : (offers : List Offer) (i : ℕ) → spare (Some (frame.On (plain.Restarts offers))) ≤ offer_spare (slice_get offers i)
chosen [] i = omega arith
chosen (o ∷ []) zero = omega arith
chosen (o ∷ []) (suc i) = at_most_one (is_giving o.action)
chosen (o ∷ p ∷ os) i = omega arith

-- NIL takes the target's place
nil_lands : (n : Now) (raw : Option Frame) → Past (spare (option_map bare raw)) n → Lands rooms nothing n
nil_lands n raw h = ((h.0, omega (arith, h.1, few_spare (option_map bare raw))), tt)

target_lands : (n : Now) (raw : Option Frame) (i : ℕ) (vs : List Value) → Past (spare (option_map bare raw)) n → Lands rooms (of_target raw i vs) n
target_lands n (Some (frame.On (plain.Handlers (Clauses clauses)))) i vs h = handler_lands n (slice_get clauses i) vs h
target_lands n (Some (frame.On (plain.Restarts offers))) i vs h = offer_lands n (slice_get offers i) vs (h.0, omega (arith, h.1, chosen offers i))
target_lands n raw i vs h = nil_lands n raw h

call_lands : (n : Now) (raw : Option Frame) → Past (spare (option_map bare raw)) n → Lands rooms (of_call raw) n
call_lands n (Some (frame.On (plain.Call f vs))) h = ((h.0, omega (arith, h.1)), tt, tt)
call_lands n raw h = nil_lands n raw h

request_spare : (o : Option Frame) → IsRequest o → spare o ≡ 0
request_spare None h = refl
request_spare (Some (frame.Rex i id form)) h = refl
request_spare (Some (frame.On p)) h = absurd h
request_spare (Some (frame.Protect k cleanup)) h = absurd h
request_spare (Some (frame.Cleanup k kept)) h = absurd h
request_spare (Some (frame.Sldb n condition again)) h = absurd h
request_spare (Some (frame.Ask kind tag)) h = absurd h

layer_at-0 : (d : Context) → layer_at 0 d ≡ None
layer_at-0 [] = refl
layer_at-0 (l ∷ d) = layer_past 0 l d (λ (e : 0 ≡ length d + 1). omega arith) ∙ layer_at-0 d

-- an exit with nothing leads to no restart
abbrev NothingSpare : Bring → Option Frame → Type 0
NothingSpare bring.Nothing o = spare o ≡ 0
NothingSpare _ o = Unit {0}

nothing_spare : (target : ℕ) (b : Bring) (d : Context) → TargetFits target b d → NothingSpare b (layer_at target d)
nothing_spare target bring.Nothing d h =
    ⊎_elim (λ (z : target ≡ 0). ap (λ x. spare (layer_at x d)) z ∙ ap spare (layer_at-0 d)) (λ (r : (1 ≤ target) × IsRequest (layer_at target d)). request_spare (layer_at target d) r.1) h
nothing_spare target (bring.Value v) d h = tt
nothing_spare target (bring.Reply r) d h = tt
nothing_spare target (bring.Clause i vs) d h = tt
nothing_spare target bring.Call d h = tt

brings_lands : (n : Now) (b : Bring) (raw : Option Frame) → NothingSpare b (option_map bare raw) → Past (spare (option_map bare raw)) n → Lands rooms (of_bring b raw) n
brings_lands n (bring.Value v) raw e h = nil_lands n raw h
brings_lands n (bring.Reply r) raw e h = nil_lands n raw h
brings_lands n (bring.Clause i vs) raw e h = target_lands n raw i vs h
brings_lands n bring.Call raw e h = call_lands n raw h
brings_lands n bring.Nothing raw e h = record { layers = h.0; redex = omega (arith, e, h.1) }

lands_there : (n : Now) (b : Bring) (raw : Option Frame) (todo : Option (List Ast)) → NothingSpare b (option_map bare raw) → LayersRoom (bares n.context) → TodoRoom todo (option_map bare raw) (bares n.context) → Lands rooms (landing b raw todo) n
lands_there n b raw (Some cleanup) e h g = ((h, g), tt, tt)
lands_there n b raw None e h g = brings_lands n b raw e (h, g)

leads_room_first : (target d : ℕ) (b : Bring) (c : Context) → d + (target - 1) ≡ length c → TargetFits target b (bares c) → LeadsRoom d target b (layer_at target (bares c)) c
leads_room_first target (suc d) b c e g = (refl, g)
leads_room_first target zero b c e g = top target b c e g
  where
    beyond_room : (target : ℕ) (c : Context) → target ≡ length (bares c) + 1 → layer_at target (bares c) ≡ None
    beyond_room target c e = layer_none target (bares c) (omega arith)

    top : (target : ℕ) (b : Bring) (c : Context) → zero + (target - 1) ≡ length c → TargetFits target b (bares c) → layers (bares c) ≤ limit (levels (bares c)) + spare (layer_at target (bares c))
    top target (bring.Value v) c e g = absurd (subst TakesValue (beyond_room target c (omega (arith, g.0, length-bares c))) g.1)
    top target (bring.Reply r) c e g = absurd (subst TakesValue (beyond_room target c (omega (arith, g.0, length-bares c))) g.1)
    top target (bring.Clause i vs) c e g = absurd (subst (HasClause i) (beyond_room target c (omega (arith, g.0, length-bares c))) g.1)
    top target bring.Call c e g = absurd (subst IsCall (beyond_room target c (omega (arith, g.0, length-bares c))) g.1)
    top target bring.Nothing c e g =
        ⊎_elim
        (λ (z : target ≡ 0). let none : length (bares c) ≡ 0 = omega (arith, length-bares c) in let k : layers (bares c) ≤ limit (levels (bares c)) = alone_layers (bares c) none in omega arith)
        (λ (r : (1 ≤ target) × IsRequest (layer_at target (bares c))). absurd (subst IsRequest (beyond_room target c (omega (arith, r.0, length-bares c))) r.1)) g

pub exits_lands : (n : Now) (target : ℕ) (b : Bring) → rooms.exit target b n → Lands rooms (landing b (layer_at target n.context) (left_by n target b).todo) (after_leaving n (left_by n target b))
exits_lands n target b x =
    let k = x.2 in
    let d = distance target n.context in
    let e : d + (target - 1) ≡ length n.context = omega (arith, inside_context target b n.context k) in
    let o = layer_at target (bares n.context) in
    let left = leave n.thread (saved.Exit target b) d n.context in
    let r : LeftRoom left.around left.todo o = leave_room n.thread target d b o n.context e x.0 x.1 (leads_room_first target d b n.context e k) in
    let same : bares left.around ≡ bares (stir left.stirred left.around) = sym (bares-stir left.stirred left.around) in
    let raw : o ≡ option_map bare (layer_at target n.context) = layer_at-bares target n.context in
    lands_there (after_leaving n left) b (layer_at target n.context) left.todo
    (subst (λ x. NothingSpare b x) raw (nothing_spare target b (bares n.context) k))
    (subst LayersRoom same r.rooms)
    (subst (λ x. TodoRoom left.todo x (bares (stir left.stirred left.around))) raw (subst (λ x. TodoRoom left.todo o x) same r.todo))
