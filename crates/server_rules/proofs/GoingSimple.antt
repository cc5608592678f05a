-- Going in and giving make simple layers only.
use Rattle.std.proofs.Common.{◌≡◌, ℕ, zero, suc, Bool, true, false, List, [], ◌∷◌, Option, Some, None, refl, ap, ◌∙◌}
use Rattle.std.proofs.lemmas.Bool.{and_from}
use Rattle.term_model.specs.declared.focus.Focus.{Focus}
use Rattle.term_model.specs.declared.focus.Focus.TheVariants as focus
use Rattle.term_model.specs.declared.found.Found.{Found}
use Rattle.term_model.specs.declared.found.Found.TheVariants.{Already, Here, Inside}
use Rattle.term_model.specs.declared.frame.Frame.TheVariants as frame
use Rattle.term_model.specs.declared.plain.Plain.{Plain}
use Rattle.term_model.specs.declared.plain.Plain.TheVariants as plain
use Rattle.term_model.specs.GoingIn.{found, look}
use Rattle.term_model.specs.Room.{enter, is_within, room, wrap}
use Rattle.term_model.specs.Term.{Context}
use Rattle.step_model.specs.Now.{Now, around, puts}
use Rattle.step_model.specs.Perform.{cut_off, laid, lays, lays_if}
use Rattle.server_rules.specs.Going.{entered, laid_in}
use Rattle.server_rules.specs.Simple.{are_simple, has_no_restarts}
use Rattle.server_rules.proofs.SimpleLemmas.{cut_off-simple, exhausted-leaves}

-- none of these markers offers one
abbrev pub ArePlain : List Plain → Type 0
ArePlain [] = Unit {0}
ArePlain (p ∷ ps) = (has_no_restarts p ≡ true) × ArePlain ps

-- a plain layer more
pub one_more : (p : Plain) (c : Context) → has_no_restarts p ≡ true → are_simple c ≡ true → are_simple (frame.On p ∷ c) ≡ true
one_more p c h e = and_from (has_no_restarts p) (are_simple c) h e

-- ---- layers

enter_simple : (space : ℕ) (c : Context) (found : Found) → are_simple c ≡ true → are_simple (enter space c found).around ≡ true
enter_simple space c (Already v) e = e
enter_simple space c (Here f) e = e
enter_simple zero c (Inside p a) e = e
enter_simple (suc space) c (Inside p a) e = enter_simple space (frame.On (plain.Form p) ∷ c) (look a) (one_more (plain.Form p) c refl e)

wrap_simple : (space : ℕ) (c : Context) (ps : List Plain) (found : Found) → are_simple c ≡ true → ArePlain ps → are_simple (wrap space c ps found).around ≡ true
wrap_simple space c [] found e g = enter_simple space c found e
wrap_simple zero c (p ∷ []) (Already v) e g = one_more p c g.0 e
wrap_simple zero c (p ∷ ps) found e g = e
wrap_simple (suc space) c (p ∷ ps) found e g = wrap_simple space (frame.On p ∷ c) ps found (one_more p c g.0 e) g.1

pub entered_simple : (b : Bool) (c : Context) (ps : List Plain) (found : Found) → are_simple c ≡ true → ArePlain ps → are_simple (entered b c ps found).around ≡ true
entered_simple true c ps found e g = wrap_simple (room c) c ps found e g
entered_simple false c ps found e g = e

laid-in : (n : Now) → n.most ≡ 0 → (c : Context) (o : Option Focus) → laid (around n c) o ≡ laid_in n (record { around = c; redex = o })
laid-in n z c (Some f) = refl
laid-in n z c None = exhausted-leaves (around n c) z

lays_if-simple : (b : Bool) (n : Now) → n.most ≡ 0 → (ps : List Plain) (found : Found) → are_simple n.context ≡ true → lays_if b n ps found ≡ laid_in n (entered b n.context ps found)
lays_if-simple true n z ps found e = let w = wrap (room n.context) n.context ps found in laid-in n z w.around w.redex
lays_if-simple false n z ps found e = exhausted-leaves (around n (cut_off n.context)) z ∙ ap (λ c. puts n c focus.Abort) (cut_off-simple n.context e)

-- markers and a form go inside as far as there is room; where there is none the redex is leaving
pub lays-simple : (n : Now) → n.most ≡ 0 → (ps : List Plain) (found : Found) → are_simple n.context ≡ true → lays n ps found ≡ laid_in n (entered (is_within n.context) n.context ps found)
lays-simple n z ps found e = lays_if-simple (is_within n.context) n z ps found e
