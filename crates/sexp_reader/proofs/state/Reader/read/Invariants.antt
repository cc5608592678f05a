use Rattle.std.proofs.Common.{◌≡◌, ◌+◌, ◌<◌, ◌^◌, chars, length, IsUtf8}
use Rattle.std.specs.Str.Iter.{chars_rest}
use Rattle.sexp_reader.specs.Reading.{run}
use Rattle.sexp_reader.proofs.state.Reader.read.Given as goal

-- reading on from here gives what reading the whole text does, and the place is that of the next character
abbrev pub invariant-loop-c : goal.invariant-loop-c
invariant-loop-c l = record {
  utf8 : IsUtf8 (chars_rest l.rest);
  same : run (chars l.fn.text) l.self (chars (chars_rest l.rest)) ≡ run (chars l.fn.text) l.fn.self (chars l.fn.text);
  short : length (chars l.fn.text) < 2 ^ 64;
  place : l.at + length (chars (chars_rest l.rest)) ≡ length (chars l.fn.text);
}
