-- What the machine does with an answer.
use Rattle.std.specs.Prelude.{None}
use Rattle.term_model.specs.declared.kept.Outcome.TheVariants as outcome
use Rattle.step_model.specs.Act.{Act, Gives, Raises}
use Rattle.step_model.specs.Requests.{evaluates}
use Rattle.swank_rpc.specs.declared.answer.Answer.{Answer}
use Rattle.swank_rpc.specs.declared.answer.Answer.TheVariants as answer

-- the act of an answer: the reply stands in place of the redex, the condition is raised there, or the forms stand in the layer that makes
-- the reply
abbrev pub act_of : Answer → Act
act_of (answer.Value reply) = Gives (outcome.Reply reply)
act_of (answer.Raised condition) = Raises condition
act_of (answer.Run forms kept) = evaluates forms None kept
