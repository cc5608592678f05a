-- One step of a thread.
use Rattle.std.specs.Prelude.{true, false, [], ◌∷◌}
use Rattle.rpc_messages.specs.declared.pattern.Pattern.TheVariants as pattern
use Rattle.term_model.specs.declared.focus.Focus.{Focus}
use Rattle.term_model.specs.declared.focus.Focus.TheVariants as focus
use Rattle.term_model.specs.declared.frame.Frame.TheVariants as frame
use Rattle.term_model.specs.Term.{Context}
use Rattle.step_model.specs.Act.{Act}
use Rattle.step_model.specs.Announcing.{announcement}
use Rattle.step_model.specs.Now.{Now, puts, tells}
use Rattle.step_model.specs.Perform.{perform}
use Rattle.step_model.specs.Rules.{Rules}
use Rattle.step_model.specs.Table.{row}

-- a level that waits again after something inside it was dropped is announced again
abbrev pub announced_at : Now → Context → Focus → Now
announced_at n (frame.Sldb k condition true ∷ c) (focus.Wait pattern.Rex) =
    tells (puts n (frame.Sldb k condition false ∷ c) (focus.Wait pattern.Rex)) (announcement n k condition c)
announced_at n c f = n

abbrev pub announced : Now → Now
announced n = announced_at n n.context n.redex

-- before a step nothing is told
abbrev pub begun : Now → Now
begun n = record n { labels = []; over = false }

-- the thread once this act was carried out
abbrev pub carried_out : Now → Act → Now
carried_out n act = announced (perform (begun n) act)

-- one step: the act of the redex's row is carried out
abbrev pub step : Rules → Now → Now
step rules n = carried_out n (row rules n n.redex)
