-- What a row of the table says: an act that the thread's term alone decides, or one for which it looks at more.
use Rattle.std.specs.Prelude.{Option, Some, None}
use Rattle.step_model.specs.Act.{Act}
use Rattle.step_model.specs.Now.{Now}

pub data Decision : Type 0 where
  Alone : Act → Decision
  Beyond : (Now → Act) → Decision

-- the act of a thread
abbrev pub decided : Now → Decision → Act
decided n (Alone act) = act
decided n (Beyond act) = act n

-- the act, where the term alone decides it
abbrev pub decided_alone : Decision → Option Act
decided_alone (Alone act) = Some act
decided_alone (Beyond act) = None
