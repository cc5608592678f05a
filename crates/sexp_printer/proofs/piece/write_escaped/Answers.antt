use Rattle.std.proofs.Common.{◌++◌, chars, flat_map, sym, ap, ◌∙◌, append_assoc}
use Rattle.std.specs.Prelude.{encode_utf8_all}
use Rattle.std.proofs.lemmas.List.{nil_from_length, append-nil}
use Rattle.std.proofs.lemmas.Str.{chars-nil, chars_past_char, IsUtf8-past_char, encodes-append}
use Rattle.std.specs.Str.Iter.{chars_rest}
use Rattle.sexp_printer.specs.Printed.{escaped}
use Rattle.sexp_printer.proofs.piece.write_escaped.Goals as goal

pub loop-c-preserved : goal.loop-c-preserved
loop-c-preserved c =
    let step = c.in-Some.ensures.steps.0 in
    let utf8 = c.loop-c.invariant.0 in
    let later = chars (chars_rest c.next.new.self) in
    let out = c.loop-c.out in (
      IsUtf8-past_char _ _ _ utf8 step,
      ap (λ o. o ++ encode_utf8_all (flat_map escaped later)) c.in_ok-write_character.ensures ∙ (append_assoc out (encode_utf8_all (escaped c.in-Some.c)) (encode_utf8_all (flat_map escaped later))
          ∙ (ap (λ l. out ++ l) (sym (encodes-append (escaped c.in-Some.c) (flat_map escaped later)))
          ∙ (ap (λ l. out ++ encode_utf8_all (flat_map escaped l)) (sym (chars_past_char _ _ _ utf8 step)) ∙ c.loop-c.invariant.1))),
    )

pub returns : goal.returns
returns c =
    let none = ap chars (nil_from_length _ c.in_default.ensures.steps.0.0) ∙ chars-nil in
    sym (append-nil c.loop-c.out) ∙ (ap (λ l. c.loop-c.out ++ encode_utf8_all (flat_map escaped l)) (sym none) ∙ c.loop-c.invariant.1)
