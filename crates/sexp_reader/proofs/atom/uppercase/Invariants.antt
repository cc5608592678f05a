use Rattle.std.proofs.Common.{◌≡◌, ◌++◌, length, encode_utf8_all}
use Rattle.sexp_reader.specs.Tokens.{uppercase}
use Rattle.sexp_reader.proofs.atom.uppercase.Given as goal

-- the text so far and what is still to come are the whole
abbrev pub invariant-loop-rest : goal.invariant-loop-rest
invariant-loop-rest l = l.text ++ encode_utf8_all (uppercase l.rest) ≡ encode_utf8_all (uppercase l.token)

abbrev pub decreases-loop-rest : goal.decreases-loop-rest
decreases-loop-rest l = length l.rest
