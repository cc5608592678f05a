use Rattle.std.proofs.Common.{◌≡◌, ◌+◌, ◌≤◌, List, length, Option, false, sym, ap, ◌∙◌, subst, arith}
use Rattle.std.specs.Prelude.{drop, find, IfSome, ◌<◌, ◌^◌}
use Rattle.std.specs.Option.{option_map_or}
use Rattle.session_model.specs.Legal.{is_lendable}
use Rattle.session_model.specs.Pipe.{numbers}
use Rattle.session_model.specs.World.{Thread, thread_in}
use Rattle.swank_core.specs.Kept.{first}
use Rattle.swank_core.specs.Threads.{number_of, thread_of, IsPlace}
use Rattle.swank_core.specs.declared.record.Record.{Record}
use Rattle.swank_core.proofs.TableLemmas.{first_is, first_small, kept_ascending, long_as, none_above}
use Rattle.swank_core.proofs.threads.Threads.next_lendable.Goals as goal

pub returns-in_err-from-clause-least : goal.returns-in_err-from-clause-least
returns-in_err-from-clause-least c =
    let i = c.self.inside in
    let long : length c.args.self.now ≡ i.next = long_as i.next 0 i.records.items c.args.self.now c.self.view_is in
    let past : length c.args.self.now ≤ c.args.after + 1 = omega (arith, long, c.self.invariant.few, c.in_err-from.ensures) in
    c.from_residual.ensures ∙ sym (none_above is_lendable c.args.self.now (length c.args.self.now) (c.args.after + 1) past)

pub place-requires : goal.place-requires
place-requires c = record { ascending = kept_ascending c.self.inside.next c.self.inside.records.items c.as_slice-records.result.now c.self.invariant c.as_slice-records.ensures.value }

pub returns-clause-least : goal.returns-clause-least
returns-clause-least c =
    let i = c.self.inside in
    let from = c.in_ok-from.from in
    let at = c.place.result in
    let p = subst (λ (rs : List Record). IsPlace rs at from) c.as_slice-records.ensures.value c.place.ensures.place in
    let next : from ≡ c.args.after + 1 = omega (arith, c.in_ok-from.ensures) in
    c.first_lendable.ensures
    ∙ ap (λ (rs : List Record). first number_of thread_of is_lendable (drop at rs)) c.as_slice-records.ensures.value
    ∙ first_is is_lendable i.next i.records.items from at c.self.invariant p
    ∙ ap (λ (threads : List (Option Thread)). find (λ t. option_map_or is_lendable (thread_in threads t) false) (numbers (length threads) from)) c.self.view_is
    ∙ ap (λ k. find (λ t. option_map_or is_lendable (thread_in c.args.self.now t) false) (numbers (length c.args.self.now) k)) next

pub returns-clause-small : goal.returns-clause-small
returns-clause-small c =
    let i = c.self.inside in
    let from = c.in_ok-from.from in
    let at = c.place.result in
    let p = subst (λ (rs : List Record). IsPlace rs at from) c.as_slice-records.ensures.value c.place.ensures.place in
    subst (λ o. IfSome o (λ t. t < 2 ^ 63)) (sym (c.first_lendable.ensures ∙ ap (λ (rs : List Record). first number_of thread_of is_lendable (drop at rs)) c.as_slice-records.ensures.value))
    (first_small is_lendable i.next i.records.items from at c.self.invariant p)
