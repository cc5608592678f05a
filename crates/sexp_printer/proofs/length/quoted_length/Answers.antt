use Rattle.std.proofs.Common.{◌≡◌, ℕ, ◌≤◌, ◌+◌, ◌-◌, ◌^◌, chars, flat_map, length, sym, ap, ◌∙◌, arith, length-append}
use Rattle.std.specs.Prelude.{encode_utf8_all, min}
use Rattle.std.proofs.lemmas.List.{nil_from_length}
use Rattle.std.proofs.lemmas.Str.{chars-nil, chars_past_char, IsUtf8-past_char, encodes-append}
use Rattle.std.specs.Str.Iter.{chars_rest}
use Rattle.lisp_data.specs.Sexp.{capped}
use Rattle.sexp_printer.specs.Printed.{escaped}
use Rattle.sexp_printer.proofs.length.quoted_length.Goals as goal

-- what is cut off at one sum is cut off at the next
absorbs : (t e o : ℕ) → capped (min (t + e) (2 ^ 64 - 1) + o) ≡ capped (t + (e + o))
absorbs t e o = omega arith

settled : (t : ℕ) → t ≤ 2 ^ 64 - 1 → t ≡ capped (t + 0)
settled t h = omega arith

pub loop-c-preserved : goal.loop-c-preserved
loop-c-preserved c =
    let step = c.in-Some.ensures.steps.0 in
    let utf8 = c.loop-c.invariant.utf8 in
    let later = chars (chars_rest c.next.new.self) in
    let first = encode_utf8_all (escaped c.in-Some.c) in
    let others = encode_utf8_all (flat_map escaped later) in
    let total = c.loop-c.total in
    let split : length (encode_utf8_all (flat_map escaped (chars (chars_rest c.loop-c.rest)))) ≡ length first + length others =
    ap (λ l. length (encode_utf8_all (flat_map escaped l))) (chars_past_char _ _ _ utf8 step) ∙ (ap length (encodes-append (escaped c.in-Some.c) (flat_map escaped later)) ∙ length-append first others) in
    record {
      utf8 = IsUtf8-past_char _ _ _ utf8 step;
      whole =
          ap (λ n. capped (n + length others)) (c.saturating_add-total.ensures ∙ ap (λ n. min (total + n) (2 ^ 64 - 1)) c.escaped_length.ensures)
          ∙ (absorbs total (length first) (length others)
          ∙ (ap (λ n. capped (total + n)) (sym split) ∙ c.loop-c.invariant.whole));
      fits = omega arith;
    }

pub returns : goal.returns
returns c =
    let none = ap chars (nil_from_length _ c.in_default.ensures.steps.0.0) ∙ chars-nil in
    let ended = ap (λ l. length (encode_utf8_all (flat_map escaped l))) none in
    settled c.loop-c.total c.loop-c.invariant.fits ∙ (ap (λ n. capped (c.loop-c.total + n)) (sym ended) ∙ c.loop-c.invariant.whole)
