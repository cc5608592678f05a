use Rattle.std.specs.Str.Parse.{ExplainsUnsignedError, HasUnsignedDigitsIfOk, ParsesUnsigned}
use Rattle.command_words.proofs.Numbers.{number_read}
use Rattle.command_words.proofs.limits.number.Goals as goal

pub returns : goal.returns
returns c n is readable =
    number_read (λ bs r. ParsesUnsigned 64 10 bs r × ExplainsUnsignedError 10 bs r × HasUnsignedDigitsIfOk bs r) n c.get_one.result (c.get_one.ensures.value n is) (λ x g. g.0) readable
