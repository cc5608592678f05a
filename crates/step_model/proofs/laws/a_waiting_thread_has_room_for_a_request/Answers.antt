use Rattle.step_model.specs.Facts.{bares}
use Rattle.step_model.proofs.KeepsRoom.{waiting_room, weaker}
use Rattle.step_model.proofs.laws.a_waiting_thread_has_room_for_a_request.Goals as goal

abbrev pub returns : goal.returns
returns c = record { unbroken = λ d f h. record { layers = h.layers; redex = weaker f (bares d) h.redex }; request = λ most d s h. waiting_room most d s h }
