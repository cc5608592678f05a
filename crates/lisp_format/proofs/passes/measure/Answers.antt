use Rattle.std.proofs.Common.{◌-◌, ◌^◌, ◌+◌, chars, sym, ap, ◌∙◌, arith}
use Rattle.std.proofs.lemmas.Str.{chars_past_char, IsUtf8-past_char}
use Rattle.std.specs.Prelude.{min}
use Rattle.std.specs.Str.Iter.{chars_rest}
use Rattle.lisp_format.specs.Formatted.{text_from}
use Rattle.lisp_format.specs.Passes.{piece_text, reckoned}
use Rattle.lisp_format.proofs.FormatLemmas.{reckoned_preceded}
use Rattle.lisp_format.proofs.passes.measure.Goals as goal

pub returns-in-Err : goal.returns-in-Err
returns-in-Err c =
    let current = c.args.current.now in
    let later = chars (chars_rest c.next.new.self) in
    let first = ap (λ l. text_from current c.loop-c.after_tilde l c.loop-c.left.now) (chars_past_char _ _ _ c.loop-c.invariant.utf8 c.in-Some.ensures.steps.0) in
    sym (ap (λ r. reckoned c.loop-c.total r) (first ∙ c.in-Err.ensures current later)) ∙ c.loop-c.invariant.whole

pub loop-c-preserved : goal.loop-c-preserved
loop-c-preserved c =
    let current = c.args.current.now in
    let later = chars (chars_rest c.next.new.self) in
    let total = c.loop-c.total in
    let piece = piece_text current c.in-Ok.next.piece in
    let rest = text_from current c.in-Ok.next.after_tilde later c.in-Ok.next.left.now in
    let step = c.in-Some.ensures.steps.0 in
    let utf8 = c.loop-c.invariant.utf8 in
    let first = ap (λ l. text_from current c.loop-c.after_tilde l c.loop-c.left.now) (chars_past_char _ _ _ utf8 step) in
    record {
      utf8 = IsUtf8-past_char _ _ _ utf8 step;
      whole =
          ap (λ n. reckoned n rest) (c.saturating_add-total.ensures ∙ ap (λ n. min (total + n) (2 ^ 64 - 1)) c.piece_length.ensures)
          ∙ (reckoned_preceded total piece rest
          ∙ (ap (λ r. reckoned total r) (c.in-Ok.ensures current later ∙ sym first) ∙ c.loop-c.invariant.whole));
      fits = omega arith;
    }
