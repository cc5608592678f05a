-- What a plain layer does with an outcome that is neither put off nor waits for a value.
use Rattle.std.proofs.Common.{◌≡◌, refl}
use Rattle.lisp_data.specs.declared.sexp.Sexp.{Sexp}
use Rattle.term_model.specs.declared.focus.Focus.{Focus}
use Rattle.term_model.specs.declared.plain.Plain.{Plain}
use Rattle.term_model.specs.declared.plain.Plain.TheVariants as plain
use Rattle.lisp_step.specs.declared.task.Part.TheVariants as part
use Rattle.lisp_step.specs.Rows.{part_of}

pub part-other : (p : Plain) → ((f : Focus) → p ≡ plain.Before f → ⊥) → ((kept : Sexp) → p ≡ plain.Answer kept → ⊥) → part.Other ≡ part_of p
part-other (plain.Before f) b a = absurd (b f refl)
part-other (plain.Answer kept) b a = absurd (a kept refl)
part-other p b a = refl
