use Rattle.std.proofs.Common.{◌++◌, chars, sym, ap, ◌∙◌}
use Rattle.std.specs.Prelude.{encode_utf8_all}
use Rattle.std.proofs.lemmas.List.{nil_from_length, append-nil}
use Rattle.std.proofs.lemmas.Str.{chars-nil, chars_past_char, IsUtf8-past_char}
use Rattle.std.specs.Str.Iter.{chars_rest}
use Rattle.lisp_sequences.specs.Lists.{subseq}
use Rattle.lisp_sequences.proofs.StringLemmas.{substring-step, subseq-none}
use Rattle.lisp_sequences.proofs.strings.substring.Goals as goal

pub loop-c-preserved : goal.loop-c-preserved
loop-c-preserved c =
    let step = c.in-Some.ensures.steps.0 in
    let utf8 = c.loop-c.invariant.utf8 in record {
      utf8 = IsUtf8-past_char _ _ _ utf8 step;
      whole = substring-step c.loop-c.out c.push_if.new.out c.loop-c.before c.loop-c.until c.saturating_sub-before.result c.saturating_sub-until.result c.in-Some.c c.is_within.result (chars (chars_rest c.loop-c.rest)) (chars (chars_rest c.next.new.self)) _
          (chars_past_char _ _ _ utf8 step) c.in_ok-push_if.ensures c.is_within.ensures c.saturating_sub-before.ensures c.saturating_sub-until.ensures c.loop-c.invariant.whole;
    }

pub returns : goal.returns
returns c =
    let none = ap chars (nil_from_length _ c.in_default.ensures.steps.0.0) ∙ chars-nil in
    sym (append-nil c.loop-c.out) ∙ (ap (λ l. c.loop-c.out ++ l) (sym (ap (λ l. encode_utf8_all (subseq c.loop-c.before c.loop-c.until l)) none ∙ subseq-none c.loop-c.before c.loop-c.until)) ∙ c.loop-c.invariant.whole)
