-- What the rows neither read nor change that are built.
use Rattle.std.specs.Prelude.{ℕ, Bool, List}
use Rattle.lisp_data.specs.declared.value.Value.{Value}
use Rattle.step_model.specs.Now.{Now}

pub record Beside : Type 0 where
  -- the tag of the session's next question
  pub tag : ℕ
  -- what is inspected, and behind it the values kept before
  pub inspected : List Value
  -- the numbers of the live threads
  pub threads : List ℕ
  -- whether the session was closed
  pub closed : Bool

abbrev pub beside : Now → Beside
beside n = record { tag = n.tag; inspected = n.inspected; threads = n.threads; closed = n.closed }
