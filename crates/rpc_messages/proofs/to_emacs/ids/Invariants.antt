use mir.Syntax.{w64}
use Rattle.std.proofs.Common.{◌≡◌, map, take}
use Rattle.std.specs.Prelude.{All, FitsSigned}
use Rattle.lisp_data.specs.declared.sexp.Sexp.TheVariants as form
use Rattle.rpc_messages.proofs.to_emacs.ids.Given as goal

abbrev pub invariant-loop-id : goal.invariant-loop-id
invariant-loop-id l = (l.items ≡ map form.Int (take l.id-index l.ids)) × All (FitsSigned w64) (take l.id-index l.ids)
