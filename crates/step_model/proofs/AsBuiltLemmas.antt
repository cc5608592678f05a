-- What holds of the whole step, and of leaving, holds of a step as far as it is built.
use Rattle.std.proofs.Common.{◌≡◌, Bool, true, false, ◌&&◌, refl, ap}
use Rattle.term_model.specs.declared.focus.Focus.{Focus}
use Rattle.term_model.specs.declared.focus.Focus.TheVariants as focus
use Rattle.step_model.specs.Act.{Act}
use Rattle.step_model.specs.AsBuilt.{act_if, all_built, is_act_built, is_built, is_row_built, leaving, limited, step_as_built}
use Rattle.step_model.specs.Built.{Built}
use Rattle.step_model.specs.Now.{Now}
use Rattle.step_model.specs.Rules.{Rules}
use Rattle.step_model.specs.Step.{carried_out, step}
use Rattle.step_model.specs.Table.{row}

if_either : (P : Now → Type 0) (b : Bool) (n : Now) (a : Act) → P (carried_out n a) → P (carried_out n (leaving n)) → P (carried_out n (act_if b n a))
if_either P true n a h g = h
if_either P false n a h g = g

-- what holds after the whole step and after leaving holds after the step as far as it is built
pub either_way : (P : Now → Type 0) (built : Built) (rules : Rules) (n : Now) → P (step rules (limited built n)) → P (carried_out (limited built n) (leaving n)) → P (step_as_built built rules n)
either_way P built rules n h g = let m = limited built n in if_either P (is_built built rules m) m (row rules m m.redex) h g

-- where the step is built, it is the whole one
pub built-step : (built : Built) (rules : Rules) (n : Now) → is_built built rules (limited built n) ≡ true → step_as_built built rules n ≡ step rules (limited built n)
built-step built rules n e = let m = limited built n in ap (λ b. carried_out m (act_if b m (row rules m m.redex))) e

-- where it isn't, the thread leaves
pub unbuilt-step : (built : Built) (rules : Rules) (n : Now) → is_built built rules (limited built n) ≡ false → step_as_built built rules n ≡ carried_out (limited built n) (leaving n)
unbuilt-step built rules n e = let m = limited built n in ap (λ b. carried_out m (act_if b m (row rules m m.redex))) e

row_all_built : (n : Now) (f : Focus) → is_row_built all_built n f ≡ true
row_all_built n focus.Rpc = refl
row_all_built n f = refl

-- with all of the table built each step is the whole one, with all levels
pub all-built : (rules : Rules) (n : Now) → step_as_built all_built rules n ≡ step rules (limited all_built n)
all-built rules n =
    let m = limited all_built n in
    built-step all_built rules n (ap (λ b. b && is_act_built all_built (row rules m m.redex)) (row_all_built m m.redex))
