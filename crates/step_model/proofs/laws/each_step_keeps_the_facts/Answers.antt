use Rattle.std.proofs.Common.{refl, arith}
use Rattle.step_model.proofs.KeepsFacts.{as_built_keeps, step_keeps}
use Rattle.step_model.proofs.KeepsOrder.{as_built_orders, step_orders}
use Rattle.step_model.proofs.KeepsRoom.{as_built_rooms, step_rooms}
use Rattle.step_model.proofs.RoomLemmas.{limit-least}
use Rattle.step_model.proofs.laws.each_step_keeps_the_facts.Goals as goal

abbrev pub returns : goal.returns
returns c = record {
  first = λ most. record { layers = tt; redex = refl };
  layers = λ rules n h. step_keeps rules n h;
  layers_as_built = λ built rules n h. as_built_keeps built rules n h;
  order = λ rules n h. step_orders rules n h;
  order_as_built = λ built rules n h. as_built_orders built rules n h;
  first_room = record { layers = tt; redex = omega (arith, limit-least 0) };
  room = λ rules n s h. step_rooms rules n s h;
  room_as_built = λ built rules n s h. as_built_rooms built rules n s h;
}
