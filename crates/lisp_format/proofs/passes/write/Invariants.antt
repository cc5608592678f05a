use Rattle.std.proofs.Common.{◌≡◌, false, chars, IsUtf8}
use Rattle.std.specs.Str.Iter.{chars_rest}
use Rattle.lisp_format.specs.Formatted.{preceded, text_from}
use Rattle.lisp_format.proofs.passes.write.Given as goal

-- what is written, and what is still to come, is the whole
abbrev pub invariant-loop-c : goal.invariant-loop-c
invariant-loop-c l = record {
  utf8 : IsUtf8 (chars_rest l.rest);
  whole : preceded l.out (text_from l.current l.after_tilde (chars (chars_rest l.rest)) l.left) ≡ text_from l.current false (chars l.fn.control) l.fn.args;
}
