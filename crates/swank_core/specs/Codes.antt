-- How terms are told apart: by the redex and what is around it.
use Rattle.std.specs.Prelude.{List}
use Rattle.std.specs.Coded.{Coded, code_by, coded×}
use Rattle.term_model.specs.declared.focus.Focus.{Focus}
use Rattle.term_model.specs.declared.frame.Frame.{Frame}
use Rattle.term_model.specs.Term.{Term, At, plug, plug-split, split}

abbrev pub term_code : Coded (List Frame) → Coded Focus → Coded Term
term_code context redex = code_by (List Frame × Focus) (coded× context redex) split (λ s. plug s.0 (At s.1)) plug-split
