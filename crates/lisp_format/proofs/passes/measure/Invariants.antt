use Rattle.std.proofs.Common.{◌≡◌, ◌-◌, ◌^◌, ◌≤◌, false, chars, IsUtf8}
use Rattle.std.specs.Str.Iter.{chars_rest}
use Rattle.lisp_format.specs.Formatted.{text_from}
use Rattle.lisp_format.specs.Passes.{reckoned}
use Rattle.lisp_format.proofs.passes.measure.Given as goal

-- the total and what is still to come are the whole
abbrev pub invariant-loop-c : goal.invariant-loop-c
invariant-loop-c l = record {
  utf8 : IsUtf8 (chars_rest l.rest);
  whole : reckoned l.total (text_from l.current l.after_tilde (chars (chars_rest l.rest)) l.left) ≡ reckoned 0 (text_from l.current false (chars l.fn.control) l.fn.args);
  fits : l.total ≤ 2 ^ 64 - 1;
}
