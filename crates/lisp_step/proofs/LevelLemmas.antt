-- Layers without an open level: going in opens none, and nothing is announced.
use Rattle.std.proofs.Common.{◌≡◌, ℕ, zero, suc, List, [], ◌∷◌, refl, arith}
use Rattle.step_model.specs.Now.{Now}
use Rattle.step_model.specs.Step.{announced, announced_at}
use Rattle.term_model.specs.declared.focus.Focus.{Focus}
use Rattle.term_model.specs.declared.found.Found.{Found}
use Rattle.term_model.specs.declared.found.Found.TheVariants.{Already, Here, Inside}
use Rattle.term_model.specs.declared.frame.Frame.TheVariants as frame
use Rattle.term_model.specs.declared.plain.Plain.{Plain}
use Rattle.term_model.specs.declared.plain.Plain.TheVariants as plain
use Rattle.term_model.specs.GoingIn.{look}
use Rattle.term_model.specs.Room.{enter, levels, wrap}
use Rattle.term_model.specs.Term.{Context}

pub enter-levels : (space : ℕ) (c : Context) (found : Found) → levels (enter space c found).around ≡ levels c
enter-levels space c (Already v) = refl
enter-levels space c (Here f) = refl
enter-levels zero c (Inside p e) = refl
enter-levels (suc space) c (Inside p e) = enter-levels space (frame.On (plain.Form p) ∷ c) (look e)

pub wrap-levels : (space : ℕ) (c : Context) (ps : List Plain) (found : Found) → levels (wrap space c ps found).around ≡ levels c
wrap-levels space c [] found = enter-levels space c found
wrap-levels zero c (p ∷ []) (Already v) = refl
wrap-levels zero c (p ∷ []) (Here f) = refl
wrap-levels zero c (p ∷ []) (Inside q e) = refl
wrap-levels zero c (p ∷ q ∷ ps) found = refl
wrap-levels (suc space) c (p ∷ ps) found = wrap-levels space (frame.On p ∷ c) ps found

announced-in : (n : Now) (c : Context) (f : Focus) → levels c ≡ 0 → announced_at n c f ≡ n
announced-in n [] f e = refl
announced-in n (frame.On p ∷ c) f e = refl
announced-in n (frame.Rex i id form ∷ c) f e = refl
announced-in n (frame.Protect k cleanup ∷ c) f e = refl
announced-in n (frame.Cleanup k kept ∷ c) f e = refl
announced-in n (frame.Sldb k condition again ∷ c) f e = absurd (omega (arith, e))
announced-in n (frame.Ask kind tag ∷ c) f e = refl

pub announced-none : (n : Now) → levels n.context ≡ 0 → announced n ≡ n
announced-none n e = announced-in n n.context n.redex e
