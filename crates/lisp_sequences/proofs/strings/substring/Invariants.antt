use Rattle.std.proofs.Common.{◌≡◌, ◌++◌, chars, IsUtf8}
use Rattle.std.specs.Prelude.{encode_utf8_all}
use Rattle.std.specs.Str.Iter.{chars_rest}
use Rattle.lisp_sequences.specs.Lists.{subseq}
use Rattle.lisp_sequences.proofs.strings.substring.Given as goal

-- what is added, and what is still to come, is the whole
abbrev pub invariant-loop-c : goal.invariant-loop-c
invariant-loop-c l = record {
  utf8 : IsUtf8 (chars_rest l.rest);
  whole : l.out ++ encode_utf8_all (subseq l.before l.until (chars (chars_rest l.rest))) ≡ encode_utf8_all (subseq l.fn.from l.fn.to (chars l.fn.text));
}
