-- What a thread does touches that thread alone.
use Rattle.std.proofs.Common.{refl}
use Rattle.step_model.specs.Rules.{Rules}
use Rattle.session_model.specs.World.{World}
use Rattle.session_laws.specs.ActsAlone.{ActsAlone}
use Rattle.session_laws.proofs.Alone.{burst_alone, lend_alone}
use Rattle.session_laws.proofs.Receiving.{arrival_received}

pub acts_alone : (rules : Rules) (w : World) → ActsAlone rules w
acts_alone rules w = record {
  burst = λ seat t n. burst_alone rules w t n;
  lend = λ seat t. lend_alone rules.built.levels w seat t;
  arrive = λ seat m. arrival_received rules.built w m;
  end = λ seat. refl;
  drain = λ seat k. refl;
}
