-- The layers of a term stay within their limit.
use Rattle.std.proofs.Common.{◌≡◌, ℕ, zero, suc, ◌+◌, ◌<◌, ◌≤◌, Bool, true, false, List, [], ◌∷◌, Option, Some, None, refl, ap, arith}
use Rattle.std.proofs.lemmas.Bool.{leb-true, leb-false}
use Rattle.lisp_data.specs.declared.value.Condition.{Condition}
use Rattle.lisp_errors.specs.Causes.{stack_exhausted}
use Rattle.term_model.specs.declared.focus.Focus.{Focus}
use Rattle.term_model.specs.declared.focus.Focus.TheVariants as focus
use Rattle.term_model.specs.declared.found.Found.{Found}
use Rattle.term_model.specs.declared.found.Found.TheVariants.{Already, Here, Inside}
use Rattle.term_model.specs.declared.frame.Frame.TheVariants as frame
use Rattle.term_model.specs.declared.plain.Plain.{Plain}
use Rattle.term_model.specs.declared.plain.Plain.TheVariants as plain
use Rattle.term_model.specs.Breaks.{may_open}
use Rattle.term_model.specs.GoingIn.{look}
use Rattle.term_model.specs.Room.{enter, is_within, layers, levels, limit, room, wrap}
use Rattle.term_model.specs.Term.{Context}
use Rattle.step_model.specs.Facts.{bares}
use Rattle.step_model.specs.Now.{Now, around}
use Rattle.step_model.specs.Perform.{cut_off, exhausted_if, laid, lays, lays_if, opens}
use Rattle.step_model.specs.Rooms.{HasRoom, LayersRoom, RedexRoom, extra, is_offering, number_if}
use Rattle.step_model.proofs.BareLemmas.{length-bares, levels-bares}

pub limit-more : (k : ℕ) → limit (k + 1) ≡ limit k + 500
unfolding limit
limit-more k = omega arith

pub limit-least : (k : ℕ) → 20000 ≤ limit k
unfolding limit
limit-least k = omega arith

abbrev pub Roomy : Now → Type 0
Roomy n = HasRoom n.context n.redex

-- a context whose layers are within the limit
pub record Inner (d : Context) : Type 0 where
  pub rooms : LayersRoom d
  pub within : layers d ≤ limit (levels d)

-- any redex may stand there
pub any_redex : (f : Focus) (d : Context) → layers d ≤ limit (levels d) → RedexRoom f d
any_redex (focus.Given o) d h = omega arith
any_redex f d h = h

abbrev RedexFits : Option Focus → Context → Type 0
RedexFits None d = layers d ≤ limit (levels d)
RedexFits (Some f) d = RedexRoom f d

record Spotted (c : Context) (o : Option Focus) : Type 0 where
  rooms : LayersRoom (bares c)
  redex : RedexFits o (bares c)

enter_spot : (space : ℕ) (c : Context) (found : Found) → LayersRoom (bares c) → layers (bares c) + space ≤ limit (levels (bares c)) → Spotted (enter space c found).around (enter space c found).redex
enter_spot space c (Already v) h g = record { rooms = h; redex = omega arith }
enter_spot space c (Here f) h g = record { rooms = h; redex = any_redex f (bares c) (omega arith) }
enter_spot zero c (Inside p e) h g = record { rooms = h; redex = omega arith }
enter_spot (suc space) c (Inside p e) h g = enter_spot space (frame.On (plain.Form p) ∷ c) (look e) (tt, h) (omega arith)

wrap_spot : (space : ℕ) (c : Context) (ps : List Plain) (found : Found) → LayersRoom (bares c) → layers (bares c) + space ≤ limit (levels (bares c)) → Spotted (wrap space c ps found).around (wrap space c ps found).redex
wrap_spot space c [] found h g = enter_spot space c found h g
wrap_spot zero c (p ∷ []) (Already v) h g = record { rooms = (tt, h); redex = omega arith }
wrap_spot zero c (p ∷ ps) found h g = record { rooms = h; redex = omega arith }
wrap_spot (suc space) c (p ∷ ps) found h g = wrap_spot space (frame.On p ∷ c) ps found (tt, h) (omega arith)

pub opens_room : (n : Now) (condition : Condition) → LayersRoom (bares n.context) → layers (bares n.context) ≤ limit (levels (bares n.context)) + extra (bares n.context) → Roomy (opens n condition)
opens_room n condition h g = record { layers = (g, h); redex = omega (arith, limit-more (levels (bares n.context)), few (bares n.context)) }
  where
    few_if : (b : Bool) → number_if 2 b ≤ 2
    few_if true = omega arith
    few_if false = omega arith

    few : (d : Context) → extra d ≤ 2
    few [] = omega arith
    few (l ∷ d) = few_if (is_offering l)

pub exhausted_room : (n : Now) (b : Bool) → Inner (bares n.context) → Roomy (exhausted_if b n)
exhausted_room n true i = opens_room n stack_exhausted i.rooms (omega (arith, i.within))
exhausted_room n false i = record { layers = i.rooms; redex = omega (arith, i.within) }

laid_room : (n : Now) (c : Context) (o : Option Focus) → Spotted c o → Roomy (laid (around n c) o)
laid_room n c (Some f) s = record { layers = s.rooms; redex = s.redex }
laid_room n c None s = exhausted_room (around n c) (may_open n.most c) (record { rooms = s.rooms; within = s.redex })

-- how far past the limit a place may be where something is laid: a cleanup's
abbrev pub cushion : Context → ℕ
cushion (frame.Cleanup k kept ∷ c) = 1
cushion _ = 0

same_within : (c : Context) → layers (bares c) ≡ layers c
same_within c = ap (λ k. k + 1) (length-bares c)

is_within-true : (c : Context) → is_within c ≡ true → layers (bares c) ≤ limit (levels (bares c))
is_within-true c e =
    let h : layers c ≤ limit (levels c) = leb-true (layers c) (limit (levels c)) e in
    omega (arith, same_within c, ap limit (levels-bares c))

is_within-false : (c : Context) → is_within c ≡ false → limit (levels (bares c)) < layers (bares c)
is_within-false c e =
    let h : limit (levels c) < layers c = leb-false (layers c) (limit (levels c)) e in
    omega (arith, same_within c, ap limit (levels-bares c))

cut_inner : (c : Context) → LayersRoom (bares c) → limit (levels (bares c)) < layers (bares c) → layers (bares c) ≤ limit (levels (bares c)) + cushion (bares c) → Inner (bares (cut_off c))
cut_inner (frame.Cleanup k kept ∷ c) h over most = record { rooms = h.1; within = omega arith }
cut_inner [] h over most = absurd (omega arith)
cut_inner (frame.On p ∷ c) h over most = absurd (omega arith)
cut_inner (frame.Protect k cleanup ∷ c) h over most = absurd (omega arith)
cut_inner (frame.Rex i id form ∷ c) h over most = absurd (omega arith)
cut_inner (frame.Sldb n condition again ∷ c) h over most = absurd (omega arith)
cut_inner (frame.Ask kind tag ∷ c) h over most = absurd (omega arith)

space_is : (c : Context) → layers (bares c) ≤ limit (levels (bares c)) → layers (bares c) + room c ≤ limit (levels (bares c))
space_is c h = omega (arith, same_within c, ap limit (levels-bares c))

lays_if_room : (n : Now) (b : Bool) (ps : List Plain) (found : Found) → is_within n.context ≡ b → LayersRoom (bares n.context) → layers (bares n.context) ≤ limit (levels (bares n.context)) + cushion (bares n.context) → Roomy (lays_if b n ps found)
lays_if_room n true ps found e h g =
    let w = wrap (room n.context) n.context ps found in
    laid_room n w.around w.redex (wrap_spot (room n.context) n.context ps found h (space_is n.context (is_within-true n.context e)))
lays_if_room n false ps found e h g =
    exhausted_room (around n (cut_off n.context)) (may_open n.most (cut_off n.context)) (cut_inner n.context h (is_within-false n.context e) g)

pub lays_room : (n : Now) (ps : List Plain) (found : Found) → LayersRoom (bares n.context) → layers (bares n.context) ≤ limit (levels (bares n.context)) + cushion (bares n.context) → Roomy (lays n ps found)
lays_room n ps found h g = lays_if_room n (is_within n.context) ps found refl h g

pub few_cushion : (d : Context) → cushion d ≤ 1
few_cushion [] = omega arith
few_cushion (frame.Cleanup k kept ∷ d) = omega arith
few_cushion (frame.On p ∷ d) = omega arith
few_cushion (frame.Protect k cleanup ∷ d) = omega arith
few_cushion (frame.Rex i id form ∷ d) = omega arith
few_cushion (frame.Sldb n condition again ∷ d) = omega arith
few_cushion (frame.Ask kind tag ∷ d) = omega arith
