-- What going in, giving and opening leave fits.
use Rattle.std.proofs.Common.{◌≡◌, ℕ, zero, suc, ◌+◌, ◌-◌, Bool, true, false, List, [], ◌∷◌, ◌++◌, length, Option, Some, None, refl, ◌∙◌}
use Rattle.std.proofs.lemmas.Bool.{false≢true}
use Rattle.lisp_data.specs.declared.value.Value.{Value}
use Rattle.lisp_data.specs.declared.value.Condition.{Condition}
use Rattle.lisp_errors.specs.Causes.{stack_exhausted}
use Rattle.syntax_trees.specs.Places.{forms_of, row_of}
use Rattle.syntax_trees.specs.declared.ast.Ast.{Ast}
use Rattle.syntax_trees.specs.declared.row.Bare.TheVariants as bare
use Rattle.syntax_trees.specs.declared.row.Row.{Row}
use Rattle.syntax_trees.specs.declared.row.Row.TheVariants as row
use Rattle.term_model.specs.declared.focus.Focus.{Focus}
use Rattle.term_model.specs.declared.focus.Focus.TheVariants as focus
use Rattle.term_model.specs.declared.found.Found.{Found}
use Rattle.term_model.specs.declared.found.Found.TheVariants.{Already, Here, Inside}
use Rattle.term_model.specs.declared.frame.Frame.TheVariants as frame
use Rattle.term_model.specs.declared.kept.Saved.TheVariants as saved
use Rattle.term_model.specs.declared.plain.Plain.{Plain}
use Rattle.term_model.specs.declared.plain.Plain.TheVariants as plain
use Rattle.term_model.specs.Breaks.{may_open}
use Rattle.term_model.specs.GoingIn.{advanced, body, cond, continued, first_part, found, look, needs, part, resumed, tested, value_in}
use Rattle.term_model.specs.Progress.{Progress, progress}
use Rattle.term_model.specs.Room.{enter, is_within, room, wrap}
use Rattle.term_model.specs.Term.{Context}
use Rattle.step_model.specs.Facts.{FocusFits, IsSound, RedexStands, LayerFits, LayersFit, bare_plain, bares, waits}
use Rattle.step_model.proofs.BareLemmas.{may_open-bares}
use Rattle.step_model.specs.Now.{Now, around}
use Rattle.step_model.specs.Perform.{cut_off, exhausted_if, laid, lays, lays_if, opens}

abbrev pub Sound : Now → Now → Type 0
Sound n m = IsSound n.most m.context m.redex

-- what may stand there but leaving may be a thread's redex
pub redex_stands : (most : ℕ) (f : Focus) (d : Context) → FocusFits f d → RedexStands most f d
redex_stands most focus.Abort d h = absurd h
redex_stands most f d h = h

-- a place inside a request, in a context without what assigning and announcing change
pub record Place (d : Context) : Type 0 where
  pub layers : LayersFit d
  pub busy : waits d ≡ false

-- redexes but outcomes, and layers, that fit every such place
abbrev pub plain_focus : Focus → Bool
plain_focus (focus.Given o) = false
plain_focus (focus.Wait p) = false
plain_focus (focus.SignalPast condition p j) = false
plain_focus focus.Abort = false
plain_focus _ = true

abbrev pub plain_layer : Plain → Bool
plain_layer (plain.Before f) = plain_focus f
plain_layer (plain.Handling p j) = false
plain_layer _ = true

abbrev pub FoundFits : Found → Type 0
FoundFits (Here f) = plain_focus f ≡ true
FoundFits (Already v) = Unit {0}
FoundFits (Inside p e) = Unit {0}

pub focus_fits : (f : Focus) (d : Context) → plain_focus f ≡ true → waits d ≡ false → FocusFits f d
focus_fits (focus.Given o) d e w = absurd (false≢true e)
focus_fits (focus.Wait p) d e w = absurd (false≢true e)
focus_fits (focus.SignalPast condition p j) d e w = absurd (false≢true e)
focus_fits focus.Abort d e w = absurd (false≢true e)
focus_fits f d e w = w

before_fits : (f : Focus) (d : Context) → plain_focus f ≡ true → waits d ≡ false → LayerFits (frame.On (plain.Before f)) d
before_fits (focus.Given o) d e w = absurd (false≢true e)
before_fits (focus.Wait p) d e w = absurd (false≢true e)
before_fits (focus.SignalPast condition p j) d e w = absurd (false≢true e)
before_fits focus.Abort d e w = absurd (false≢true e)
before_fits f d e w = w

-- a layer of a form may stand in a busy place
pub busy_on : (p : Plain) (d : Context) → plain_layer p ≡ true → waits d ≡ false → LayerFits (frame.On (bare_plain p)) d
busy_on (plain.Before f) d h e = before_fits f d h e
busy_on (plain.Handling p j) d h e = absurd (false≢true h)
busy_on p d h e = e

-- inside a layer that isn't a level a place is busy
pub inside : (p : Plain) (d : Context) → plain_layer p ≡ true → Place d → Place (frame.On (bare_plain p) ∷ d)
inside p d h place = record { layers = (busy_on p d h place.busy, place.layers); busy = refl }

-- ---- going into forms

part_fits : (o : Option Value) (go : Value → Found) (inside : Found) → FoundFits inside → ((v : Value) → FoundFits (go v)) → FoundFits (part o go inside)
part_fits None go inside h k = h
part_fits (Some v) go inside h k = k v

pub found_fits : (k : ℕ) (r : Row) (n : ℕ) (vs : List Value) (es : List Ast) → FoundFits (found k r n vs es)
found_fits zero r n vs es = refl
found_fits (suc k) r n vs [] = refl
found_fits (suc k) r n vs (e ∷ es) =
    part_fits (value_in e) (λ v. found k r (n + 1) (vs ++ v ∷ []) es) (Inside (progress r (n + 1) vs es) e) tt (λ v. found_fits k r (n + 1) (vs ++ v ∷ []) es)

tested_fits : (n : ℕ) (cs es : List Ast) → FoundFits (tested n cs es)
tested_fits n cs [] = refl
tested_fits n cs (e ∷ es) = part_fits (value_in e) _ (Inside (progress (row.Bare bare.Cond) n [] cs) e) tt (λ v. refl)

pub cond_fits : (n : ℕ) (cs : List Ast) → FoundFits (cond n cs)
cond_fits n [] = refl
cond_fits n (c ∷ cs) = tested_fits n (c ∷ cs) (forms_of c)

first_part_fits : (r : Row) (es : List Ast) → FoundFits (first_part r es)
first_part_fits (row.Bare bare.Cond) es = cond_fits 0 es
first_part_fits r es = found_fits (needs r (length es)) r 0 [] es

pub look_fits : (a : Ast) → FoundFits (look a)
look_fits a = part_fits (value_in a) Already (first_part (row_of a) (forms_of a)) (first_part_fits (row_of a) (forms_of a)) (λ v. tt)

pub body_fits : (es : List Ast) → FoundFits (body es)
body_fits [] = tt
body_fits (e ∷ []) = look_fits e
body_fits (e ∷ f ∷ es) = found_fits 1 (row.Bare bare.Progn) 0 [] (e ∷ f ∷ es)

pub advanced_fits : (p : Progress) → FoundFits (advanced p)
advanced_fits p = found_fits 1 p.row p.done [] p.rest

continued_fits : (p : Progress) (v : Value) → FoundFits (continued p v)
continued_fits p v = found_fits (needs p.row (p.done + length p.rest) - p.done) p.row p.done (p.values ++ v ∷ []) p.rest

-- ---- layers

abbrev pub RedexFits : Option Focus → Context → Type 0
RedexFits None d = Unit {0}
RedexFits (Some f) d = FocusFits f d

-- these markers may stand one inside another
abbrev pub PlainsFit : List Plain → Context → Type 0
PlainsFit [] d = Unit {0}
PlainsFit (p ∷ ps) d = LayerFits (frame.On (bare_plain p)) d × PlainsFit ps (frame.On (bare_plain p) ∷ d)

marked : (p : Plain) (d : Context) → LayerFits (frame.On (bare_plain p)) d → Place d → Place (frame.On (bare_plain p) ∷ d)
marked p d h place = record { layers = (h, place.layers); busy = refl }

enter_place : (space : ℕ) (c : Context) (found : Found) → Place (bares c) → FoundFits found → Place (bares (enter space c found).around)
enter_place space c (Already v) place h = place
enter_place space c (Here f) place h = place
enter_place zero c (Inside p e) place h = place
enter_place (suc space) c (Inside p e) place h = enter_place space (frame.On (plain.Form p) ∷ c) (look e) (inside (plain.Form p) (bares c) refl place) (look_fits e)

enter_redex : (space : ℕ) (c : Context) (found : Found) → Place (bares c) → FoundFits found → RedexFits (enter space c found).redex (bares (enter space c found).around)
enter_redex space c (Already v) place h = place.busy
enter_redex space c (Here f) place h = focus_fits f (bares c) h place.busy
enter_redex zero c (Inside p e) place h = tt
enter_redex (suc space) c (Inside p e) place h = enter_redex space (frame.On (plain.Form p) ∷ c) (look e) (inside (plain.Form p) (bares c) refl place) (look_fits e)

wrap_place : (space : ℕ) (c : Context) (ps : List Plain) (found : Found) → Place (bares c) → PlainsFit ps (bares c) → FoundFits found → Place (bares (wrap space c ps found).around)
wrap_place space c [] found place g h = enter_place space c found place h
wrap_place zero c (p ∷ []) (Already v) place g h = marked p (bares c) g.0 place
wrap_place zero c (p ∷ ps) found place g h = place
wrap_place (suc space) c (p ∷ ps) found place g h = wrap_place space (frame.On p ∷ c) ps found (marked p (bares c) g.0 place) g.1 h

wrap_redex : (space : ℕ) (c : Context) (ps : List Plain) (found : Found) → Place (bares c) → PlainsFit ps (bares c) → FoundFits found → RedexFits (wrap space c ps found).redex (bares (wrap space c ps found).around)
wrap_redex space c [] found place g h = enter_redex space c found place h
wrap_redex zero c (p ∷ []) (Already v) place g h = refl
wrap_redex zero c (p ∷ ps) found place g h = tt
wrap_redex (suc space) c (p ∷ ps) found place g h = wrap_redex space (frame.On p ∷ c) ps found (marked p (bares c) g.0 place) g.1 h

pub opens_fits : (n : Now) (condition : Condition) → Place (bares n.context) → Sound n (opens n condition)
opens_fits n condition place = record { layers = (place.busy, place.layers); redex = refl }

exhausted_fits : (n : Now) (b : Bool) → may_open n.most n.context ≡ b → Place (bares n.context) → Sound n (exhausted_if b n)
exhausted_fits n true e place = opens_fits n stack_exhausted place
exhausted_fits n false e place = record { layers = place.layers; redex = may_open-bares n.most n.context ∙ e }

pub exhausted_place : (n : Now) → Place (bares n.context) → Sound n (exhausted_if (may_open n.most n.context) n)
exhausted_place n place = exhausted_fits n (may_open n.most n.context) refl place

laid_fits : (n : Now) (o : Option Focus) → Place (bares n.context) → RedexFits o (bares n.context) → Sound n (laid n o)
laid_fits n (Some f) place h = record { layers = place.layers; redex = redex_stands n.most f (bares n.context) h }
laid_fits n None place h = exhausted_place n place

-- what a cleanup that is past the limit stands in is busy
cut_place : (c : Context) → Place (bares c) → Place (bares (cut_off c))
cut_place (frame.Cleanup k (saved.Kept o) ∷ c) place = record { layers = place.layers.1; busy = place.layers.0 }
cut_place (frame.Cleanup k (saved.Exit target b) ∷ c) place = record { layers = place.layers.1; busy = place.layers.0.0 }
cut_place [] place = place
cut_place (frame.On p ∷ c) place = place
cut_place (frame.Protect k cleanup ∷ c) place = place
cut_place (frame.Rex i id form ∷ c) place = place
cut_place (frame.Sldb n condition again ∷ c) place = place
cut_place (frame.Ask kind tag ∷ c) place = place

lays_if_fits : (n : Now) (b : Bool) (ps : List Plain) (found : Found) → Place (bares n.context) → PlainsFit ps (bares n.context) → FoundFits found → Sound n (lays_if b n ps found)
lays_if_fits n true ps found place g h =
    let e = wrap (room n.context) n.context ps found in
    laid_fits (around n e.around) e.redex (wrap_place (room n.context) n.context ps found place g h) (wrap_redex (room n.context) n.context ps found place g h)
lays_if_fits n false ps found place g h = exhausted_place (around n (cut_off n.context)) (cut_place n.context place)

pub lays_fits : (n : Now) (ps : List Plain) (found : Found) → Place (bares n.context) → PlainsFit ps (bares n.context) → FoundFits found → Sound n (lays n ps found)
lays_fits n ps found place g h = lays_if_fits n (is_within n.context) ps found place g h

-- ---- giving

-- what a layer becomes with its value
abbrev pub OptionFits : Plain → Option Found → Type 0
OptionFits p None = Unit {0}
OptionFits p (Some found) = FoundFits found × ((d : Context) → LayerFits (frame.On (bare_plain p)) d → waits d ≡ false)

pub resumed_fits : (p : Plain) (v : Value) → OptionFits p (resumed p v)
resumed_fits (plain.Form p) v = (continued_fits p v, λ d h. h)
resumed_fits (plain.Map g list next collected) v = (refl, λ d h. h)
resumed_fits p v = tt
