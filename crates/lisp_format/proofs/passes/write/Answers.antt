use Rattle.std.proofs.Common.{chars, sym, ap, ◌∙◌}
use Rattle.std.proofs.lemmas.Str.{chars_past_char, IsUtf8-past_char}
use Rattle.std.specs.Str.Iter.{chars_rest}
use Rattle.lisp_format.specs.Formatted.{preceded, text_from}
use Rattle.lisp_format.specs.Passes.{piece_text}
use Rattle.lisp_format.proofs.FormatLemmas.{preceded_twice, writes-fault}
use Rattle.lisp_format.proofs.passes.write.Goals as goal

pub returns-in-Err : goal.returns-in-Err
returns-in-Err c =
    let current = c.args.current.now in
    let later = chars (chars_rest c.next.new.self) in
    let first = ap (λ l. text_from current c.loop-c.after_tilde l c.loop-c.left.now) (chars_past_char _ _ _ c.loop-c.invariant.utf8 c.in-Some.ensures.steps.0) in
    writes-fault c.in-Err.fault _ (sym c.loop-c.invariant.whole ∙ ap (λ r. preceded c.loop-c.out r) (first ∙ c.in-Err.ensures current later))

pub loop-c-preserved : goal.loop-c-preserved
loop-c-preserved c =
    let current = c.args.current.now in
    let later = chars (chars_rest c.next.new.self) in
    let piece = piece_text current c.in-Ok.next.piece in
    let rest = text_from current c.in-Ok.next.after_tilde later c.in-Ok.next.left.now in
    let step = c.in-Some.ensures.steps.0 in
    let utf8 = c.loop-c.invariant.utf8 in
    let first = ap (λ l. text_from current c.loop-c.after_tilde l c.loop-c.left.now) (chars_past_char _ _ _ utf8 step) in
    record {
      utf8 = IsUtf8-past_char _ _ _ utf8 step;
      whole =
          ap (λ o. preceded o rest) c.in_ok-write_piece.ensures
          ∙ (preceded_twice c.loop-c.out piece rest
          ∙ (ap (λ r. preceded c.loop-c.out r) (c.in-Ok.ensures current later ∙ sym first) ∙ c.loop-c.invariant.whole));
    }
