use Rattle.std.specs.Prelude.{◌≡◌, map, take}
use Rattle.command_words.proofs.limits.texts.Given as goal

abbrev pub invariant-loop-word : goal.invariant-loop-word
invariant-loop-word l = map (λ s. s.now) l.texts.items ≡ take l.word-index l.words
