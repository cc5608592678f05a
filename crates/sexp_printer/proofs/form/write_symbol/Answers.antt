use Rattle.std.proofs.Common.{◌∷◌, ◌++◌, [], chars, map, sym, ap, ◌∙◌, append_assoc}
use Rattle.std.specs.Prelude.{encode_utf8, encode_utf8_all}
use Rattle.std.proofs.lemmas.List.{nil_from_length, append-nil}
use Rattle.std.proofs.lemmas.Str.{chars-nil, chars_past_char, IsUtf8-past_char, encodes-append}
use Rattle.std.specs.Str.Iter.{chars_rest}
use Rattle.sexp_printer.specs.Case.{change_of}
use Rattle.sexp_printer.proofs.form.write_symbol.Goals as goal

pub loop-c-preserved : goal.loop-c-preserved
loop-c-preserved c =
    let step = c.in-Some.ensures.steps.0 in
    let utf8 = c.loop-c.invariant.0 in
    let later = chars (chars_rest c.next.new.self) in
    let out = c.loop-c.out in
    let change = change_of c.args.case in (
      IsUtf8-past_char _ _ _ utf8 step,
      ap (λ o. o ++ encode_utf8_all (map change later)) (c.in_ok-push.ensures.ok ∙ ap (λ l. out ++ l) (ap encode_utf8 c.in_case.ensures ∙ sym (append-nil _))) ∙ (append_assoc out (encode_utf8_all (change c.in-Some.c ∷ [])) (encode_utf8_all (map change later))
          ∙ (ap (λ l. out ++ l) (sym (encodes-append (change c.in-Some.c ∷ []) (map change later)))
          ∙ (ap (λ l. out ++ encode_utf8_all (map change l)) (sym (chars_past_char _ _ _ utf8 step)) ∙ c.loop-c.invariant.1))),
    )

pub returns : goal.returns
returns c =
    let none = ap chars (nil_from_length _ c.in_default.ensures.steps.0.0) ∙ chars-nil in
    sym (append-nil c.loop-c.out) ∙ (ap (λ l. c.loop-c.out ++ encode_utf8_all (map (change_of c.args.case) l)) (sym none) ∙ c.loop-c.invariant.1)
