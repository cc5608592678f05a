use Rattle.std.proofs.Common.{◌≢◌, sym, ap, ◌∙◌, refl, Err}
use Rattle.lisp_format.specs.Formatted.{formatted}
use Rattle.lisp_format.specs.declared.fault.FormatFault.TheVariants.{BadDirective, TooFewArguments, TooLong, NoMemory}
use Rattle.lisp_format.proofs.FormatLemmas.{exact, formatted-fault, formatted-long, formatted-short, told-text, told-refusal}
use Rattle.lisp_format.proofs.format_text.Goals as goal

pub returns-then-length-ge-MAX_WEIGHT-clause-bad_directive : goal.returns-then-length-ge-MAX_WEIGHT-clause-bad_directive
returns-then-length-ge-MAX_WEIGHT-clause-bad_directive c =
    exact (Err TooLong) TooLong BadDirective (formatted c.args.package.now c.args.control.now c.args.args.now) refl (ap (λ t. formatted c.args.package.now t c.args.args.now) (sym c.as_str-text.ensures.value) ∙ formatted-long c.args.package.now c.as_str-text.result.now c.args.args.now c.in-Ok.length c.in-Ok.ensures c.if-length-ge-MAX_WEIGHT.true)

pub returns-then-length-ge-MAX_WEIGHT-clause-too_few : goal.returns-then-length-ge-MAX_WEIGHT-clause-too_few
returns-then-length-ge-MAX_WEIGHT-clause-too_few c =
    exact (Err TooLong) TooLong TooFewArguments (formatted c.args.package.now c.args.control.now c.args.args.now) refl (ap (λ t. formatted c.args.package.now t c.args.args.now) (sym c.as_str-text.ensures.value) ∙ formatted-long c.args.package.now c.as_str-text.result.now c.args.args.now c.in-Ok.length c.in-Ok.ensures c.if-length-ge-MAX_WEIGHT.true)

pub returns-then-length-ge-MAX_WEIGHT-clause-too_long : goal.returns-then-length-ge-MAX_WEIGHT-clause-too_long
returns-then-length-ge-MAX_WEIGHT-clause-too_long c =
    exact (Err TooLong) TooLong TooLong (formatted c.args.package.now c.args.control.now c.args.args.now) refl (ap (λ t. formatted c.args.package.now t c.args.args.now) (sym c.as_str-text.ensures.value) ∙ formatted-long c.args.package.now c.as_str-text.result.now c.args.args.now c.in-Ok.length c.in-Ok.ensures c.if-length-ge-MAX_WEIGHT.true)

pub returns-in-Err-clause-bad_directive : goal.returns-in-Err-clause-bad_directive
returns-in-Err-clause-bad_directive c =
    exact (Err c.in-Err.fault) c.in-Err.fault BadDirective (formatted c.args.package.now c.args.control.now c.args.args.now) refl (ap (λ t. formatted c.args.package.now t c.args.args.now) (sym c.as_str-text.ensures.value) ∙ formatted-fault c.args.package.now c.as_str-text.result.now c.args.args.now c.in-Err.fault c.in-Err.ensures)

pub returns-in-Err-clause-too_few : goal.returns-in-Err-clause-too_few
returns-in-Err-clause-too_few c =
    exact (Err c.in-Err.fault) c.in-Err.fault TooFewArguments (formatted c.args.package.now c.args.control.now c.args.args.now) refl (ap (λ t. formatted c.args.package.now t c.args.args.now) (sym c.as_str-text.ensures.value) ∙ formatted-fault c.args.package.now c.as_str-text.result.now c.args.args.now c.in-Err.fault c.in-Err.ensures)

pub returns-in-Err-clause-too_long : goal.returns-in-Err-clause-too_long
returns-in-Err-clause-too_long c =
    exact (Err c.in-Err.fault) c.in-Err.fault TooLong (formatted c.args.package.now c.args.control.now c.args.args.now) refl (ap (λ t. formatted c.args.package.now t c.args.args.now) (sym c.as_str-text.ensures.value) ∙ formatted-fault c.args.package.now c.as_str-text.result.now c.args.args.now c.in-Err.fault c.in-Err.ensures)

pub returns-else-length-ge-MAX_WEIGHT-clause-text : goal.returns-else-length-ge-MAX_WEIGHT-clause-text
returns-else-length-ge-MAX_WEIGHT-clause-text c =
    told-text c.write.result _ _ c.write.ensures (ap (λ t. formatted c.args.package.now t c.args.args.now) (sym c.as_str-text.ensures.value) ∙ formatted-short c.args.package.now c.as_str-text.result.now c.args.args.now c.in-Ok.length c.in-Ok.ensures c.if-length-ge-MAX_WEIGHT.false)

pub returns-else-length-ge-MAX_WEIGHT-clause-bad_directive : goal.returns-else-length-ge-MAX_WEIGHT-clause-bad_directive
returns-else-length-ge-MAX_WEIGHT-clause-bad_directive c =
    let other : BadDirective ≢ NoMemory = λ e. cc in
    told-refusal c.write.result _ _ c.in-Ok.length BadDirective other c.in-Ok.ensures c.write.ensures (ap (λ t. formatted c.args.package.now t c.args.args.now) (sym c.as_str-text.ensures.value) ∙ formatted-short c.args.package.now c.as_str-text.result.now c.args.args.now c.in-Ok.length c.in-Ok.ensures c.if-length-ge-MAX_WEIGHT.false)

pub returns-else-length-ge-MAX_WEIGHT-clause-too_few : goal.returns-else-length-ge-MAX_WEIGHT-clause-too_few
returns-else-length-ge-MAX_WEIGHT-clause-too_few c =
    let other : TooFewArguments ≢ NoMemory = λ e. cc in
    told-refusal c.write.result _ _ c.in-Ok.length TooFewArguments other c.in-Ok.ensures c.write.ensures (ap (λ t. formatted c.args.package.now t c.args.args.now) (sym c.as_str-text.ensures.value) ∙ formatted-short c.args.package.now c.as_str-text.result.now c.args.args.now c.in-Ok.length c.in-Ok.ensures c.if-length-ge-MAX_WEIGHT.false)

pub returns-else-length-ge-MAX_WEIGHT-clause-too_long : goal.returns-else-length-ge-MAX_WEIGHT-clause-too_long
returns-else-length-ge-MAX_WEIGHT-clause-too_long c =
    let other : TooLong ≢ NoMemory = λ e. cc in
    told-refusal c.write.result _ _ c.in-Ok.length TooLong other c.in-Ok.ensures c.write.ensures (ap (λ t. formatted c.args.package.now t c.args.args.now) (sym c.as_str-text.ensures.value) ∙ formatted-short c.args.package.now c.as_str-text.result.now c.args.args.now c.in-Ok.length c.in-Ok.ensures c.if-length-ge-MAX_WEIGHT.false)
