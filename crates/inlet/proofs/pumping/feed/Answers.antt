use Rattle.std.proofs.Common.{◌≤◌, length, take, arith, length-take}
use Rattle.std.proofs.lemmas.Grind.{common_steps}
use Rattle.inlet.proofs.PumpLemmas.{gave-read}
use Rattle.inlet.proofs.pumping.feed.Goals as goal

pub returns-in-Err-feed-clause-feeds : goal.returns-in-Err-feed-clause-feeds
returns-in-Err-feed-clause-feeds g c =
    let most : c.in-Ok.n ≤ 4096 = grind (arith, common_steps, c.in-Ok.ensures.bound) in
    let within : c.in-Ok.n ≤ length c.read.new.buf = grind (arith, common_steps, c.in-Ok.ensures.bound) in
    let whole = length-take c.in-Ok.n c.read.new.buf in record {
      octets = take c.in-Ok.n c.read.new.buf;
      small = omega (arith, whole);
      source = gave-read _ _ _ _ c.in-Ok.ensures.bytes;
      count = omega (arith, whole);
      keeps = c.in-Err-feed.ensures.err;
    }
