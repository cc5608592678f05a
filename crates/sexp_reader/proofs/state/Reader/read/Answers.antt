use Rattle.std.proofs.Common.{◌≡◌, ◌+◌, ◌∷◌, ◌≤◌, ◌<◌, ◌^◌, rules, chars, length, sym, ap, ◌∙◌, subst, arith}
use Rattle.std.proofs.lemmas.List.{nil_from_length}
use Rattle.std.proofs.lemmas.Result.{err_from_is_err_and}
use Rattle.std.proofs.lemmas.Str.{chars-nil, chars_past_char, IsUtf8-past_char}
use Rattle.std.specs.Str.Iter.{chars_rest}
use Rattle.std.specs.Prelude.{Ok}
use Rattle.sexp_reader.specs.Answers.{Fails}
use Rattle.sexp_reader.specs.Reading.{run, step}
use Rattle.sexp_reader.proofs.ReadingLemmas.{run-nil, run-ok, fails-run, place_is}
use Rattle.sexp_reader.proofs.TextLemmas.{length-chars}
use Rattle.sexp_reader.proofs.state.Reader.read.Goals as goal

pub loop-c-init : goal.loop-c-init
loop-c-init c =
    let bound : length (chars c.args.text.now) ≤ length c.args.text.now = length-chars c.args.text.now c.utf8.text in
    record {
      utf8 = search rules;
      same = search rules;
      short = omega arith;
      place = search rules;
    }

pub overflow_add-at : goal.overflow_add-at
overflow_add-at c =
    let later = chars (chars_rest c.next.new.self) in
    let next = chars_past_char _ _ _ c.loop-c.invariant.utf8 c.in-Some.ensures.steps.0 in
    let place : c.loop-c.at + length (c.in-Some.c ∷ later) ≡ length (chars c.args.text.now) =
    ap (λ l. c.loop-c.at + length l) (sym next) ∙ c.loop-c.invariant.place in
    let short : length (chars c.args.text.now) < 2 ^ 64 = c.loop-c.invariant.short in
    omega arith

pub loop-c-preserved : goal.loop-c-preserved
loop-c-preserved c =
    let later = chars (chars_rest c.next.new.self) in
    let taken = c.in-Some.ensures.steps.0 in
    let utf8 = c.loop-c.invariant.utf8 in
    let next = chars_past_char _ _ _ utf8 taken in
    let place : c.loop-c.at + length (c.in-Some.c ∷ later) ≡ length (chars c.args.text.now) =
    ap (λ l. c.loop-c.at + length l) (sym next) ∙ c.loop-c.invariant.place in
    let at = place_is c.loop-c.at (chars c.args.text.now) (c.in-Some.c ∷ later) place in
    let moved = subst (λ n. step c.loop-c.self n c.in-Some.c ≡ Ok c.step.new.self) at c.in_ok-step.ensures in
    record {
      utf8 = IsUtf8-past_char _ _ _ utf8 taken;
      same = sym (run-ok (chars c.args.text.now) c.loop-c.self c.step.new.self c.in-Some.c later moved)
          ∙ ap (run (chars c.args.text.now) c.loop-c.self) (sym next) ∙ c.loop-c.invariant.same;
      short = c.loop-c.invariant.short;
      place = omega arith;
    }

pub returns-in_err-step : goal.returns-in_err-step
returns-in_err-step c =
    let later = chars (chars_rest c.next.new.self) in
    let taken = c.in-Some.ensures.steps.0 in
    let utf8 = c.loop-c.invariant.utf8 in
    let next = chars_past_char _ _ _ utf8 taken in
    let place : c.loop-c.at + length (c.in-Some.c ∷ later) ≡ length (chars c.args.text.now) =
    ap (λ l. c.loop-c.at + length l) (sym next) ∙ c.loop-c.invariant.place in
    let at = place_is c.loop-c.at (chars c.args.text.now) (c.in-Some.c ∷ later) place in
    let p = err_from_is_err_and c.from_residual.result c.from_residual.ensures.1 in
    let fault = c.in_err-step.field-0.0 in
    let failed = subst (λ n. Fails fault (step c.loop-c.self n c.in-Some.c)) at c.in_err-step.ensures in
    rw (p.1, p.2) (subst (Fails fault) (ap (run (chars c.args.text.now) c.loop-c.self) (sym next) ∙ c.loop-c.invariant.same)
    (fails-run (chars c.args.text.now) fault c.loop-c.self c.in-Some.c later failed))

pub returns : goal.returns
returns c =
    let none = ap chars (nil_from_length _ c.in_default.ensures.steps.0.0) ∙ chars-nil in
    sym c.loop-c.invariant.same ∙ ap (run _ c.loop-c.self) none ∙ run-nil _ c.loop-c.self
