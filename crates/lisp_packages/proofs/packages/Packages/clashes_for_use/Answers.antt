use Rattle.std.proofs.Common.{◌≡◌, true, false, slice_get, rules}
use Rattle.std.specs.List.{list_any}
use Rattle.std.specs.Option.{option_map_or}
use Rattle.lisp_packages.specs.Changes.{entry_clashes}
use Rattle.lisp_packages.specs.Packages.{own_at}
use Rattle.lisp_packages.proofs.LoopLemmas.{any-found, any-next}
use Rattle.lisp_packages.proofs.packages.Packages.clashes_for_use.Goals as goal

pub returns-then-clashes_for_entry : goal.returns-then-clashes_for_entry
returns-then-clashes_for_entry c =
    let found : option_map_or (entry_clashes c.args.self.now c.args.place) (slice_get (own_at c.args.self.now c.args.used) c.loop-n.n) false ≡ true = search rules in
    any-found (entry_clashes c.args.self.now c.args.place) (own_at c.args.self.now c.args.used) c.loop-n.n (list_any (entry_clashes c.args.self.now c.args.place) (own_at c.args.self.now c.args.used)) c.loop-n.invariant found

pub loop-n-preserved : goal.loop-n-preserved
loop-n-preserved c =
    let other : option_map_or (entry_clashes c.args.self.now c.args.place) (slice_get (own_at c.args.self.now c.args.used) c.loop-n.n) false ≡ false = search rules in
    any-next (entry_clashes c.args.self.now c.args.place) (own_at c.args.self.now c.args.used) c.loop-n.n (list_any (entry_clashes c.args.self.now c.args.place) (own_at c.args.self.now c.args.used)) c.loop-n.invariant other
