-- A step and a break keep what holds of every term.
use Rattle.std.proofs.Common.{◌≡◌, ℕ, Bool, true, false, ◌∷◌, refl, sym, ◌∙◌, subst}
use Rattle.std.proofs.lemmas.Bool.{false≢true}
use Rattle.rpc_messages.specs.declared.pattern.Pattern.TheVariants as pattern
use Rattle.term_model.specs.declared.focus.Focus.{Focus}
use Rattle.term_model.specs.declared.focus.Focus.TheVariants as focus
use Rattle.term_model.specs.declared.frame.Frame.TheVariants as frame
use Rattle.term_model.specs.declared.plain.Plain.TheVariants as plain
use Rattle.term_model.specs.Breaks.{broken_at, may_open}
use Rattle.term_model.specs.Term.{Context}
use Rattle.step_model.specs.Act.{Act}
use Rattle.step_model.specs.AsBuilt.{leaving, limited, step_as_built}
use Rattle.step_model.specs.Built.{Built}
use Rattle.step_model.specs.Facts.{IsSound, RedexStands, LayerFits, LayersFit, bares}
use Rattle.step_model.specs.Marks.{marks}
use Rattle.step_model.specs.Now.{Now}
use Rattle.step_model.specs.Perform.{perform}
use Rattle.step_model.specs.Rules.{Rules}
use Rattle.step_model.specs.Step.{announced_at, begun, carried_out, step}
use Rattle.step_model.specs.Table.{row}
use Rattle.step_model.proofs.AsBuiltLemmas.{either_way}
use Rattle.step_model.proofs.BareLemmas.{may_open-bares}
use Rattle.step_model.proofs.FitLemmas.{Sound}
use Rattle.step_model.proofs.PerformFits.{ActFits, known, perform_fits}
use Rattle.step_model.proofs.RowFits.{row_fits}
use Rattle.step_model.proofs.TargetFits.{abort_fits}

announced_fits : (most : ℕ) (n : Now) (c : Context) (f : Focus) → n.context ≡ c → n.redex ≡ f → IsSound most n.context n.redex → IsSound most (announced_at n c f).context (announced_at n c f).redex
announced_fits most n (frame.Sldb m condition true ∷ c) (focus.Wait pattern.Rex) e g h =
    record { layers = subst (λ x. LayersFit (bares x)) e h.layers; redex = refl }
announced_fits most n c f e g h = h

carried_fits : (n : Now) (a : Act) → ActFits known a (bares n.context) → Sound n (carried_out n a)
carried_fits n a h =
    let d = perform (begun n) a in
    announced_fits n.most d d.context d.redex refl refl (perform_fits (begun n) a h)

-- a step keeps the facts
pub step_keeps : (rules : Rules) (n : Now) → IsSound n.most n.context n.redex → Sound n (step rules n)
step_keeps rules n h = carried_fits n (row rules n n.redex) (row_fits rules n n.redex h.layers h.redex)

pub as_built_keeps : (built : Built) (rules : Rules) (n : Now) → IsSound built.levels n.context n.redex → Sound (limited built n) (step_as_built built rules n)
as_built_keeps built rules n h =
    let m = limited built n in
    either_way (Sound m) built rules n (step_keeps rules m h) (carried_fits m (leaving n) (λ s. h.layers, abort_fits n.context))

-- ---- breaks

put_off_fits : (most : ℕ) (f : Focus) (d : Context) → may_open most d ≡ true → RedexStands most f d → LayerFits (frame.On (plain.Before f)) d
put_off_fits most (focus.Wait pattern.Rex) d g h = h
put_off_fits most (focus.SignalPast condition p j) d g h = h
put_off_fits most focus.Abort d g h = absurd (false≢true (sym h ∙ g))
put_off_fits most f d g h = h

broken_fits : (most : ℕ) (b : Bool) (c : Context) (f : Focus) → may_open most c ≡ b → IsSound most c f → IsSound most (broken_at b c f).0 (broken_at b c f).1
broken_fits most true c (focus.Given o) e h = record { layers = h.layers; redex = h.redex }
broken_fits most false c f e h = record { layers = h.layers; redex = may_open-bares most c ∙ e }
broken_fits most true c f e h = record { layers = (put_off_fits most f (bares c) (may_open-bares most c ∙ e) h.redex, h.layers); redex = refl }

pub break_keeps : (most : ℕ) (c : Context) (f : Focus) → IsSound most c f → IsSound most (broken_at (may_open most c) c f).0 (broken_at (may_open most c) c f).1
break_keeps most c f h = broken_fits most (may_open most c) c f refl h

marks_broken_if : (b : Bool) (c : Context) (f : Focus) → marks (broken_at b c f).0 ≡ marks c
marks_broken_if true c (focus.Given o) = refl
marks_broken_if false c f = refl
marks_broken_if true c f = refl

-- a break adds a plain layer at most
pub marks-broken : (most : ℕ) (c : Context) (f : Focus) → marks (broken_at (may_open most c) c f).0 ≡ marks c
marks-broken most c f = marks_broken_if (may_open most c) c f
