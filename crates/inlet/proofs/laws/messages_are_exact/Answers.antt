use Rattle.packet_framing.specs.Packets.{packets}
use Rattle.inlet.proofs.MessageLemmas.{IsExact, one_message, one_list}
use Rattle.inlet.proofs.laws.messages_are_exact.Goals as goal
use Rattle.inlet.proofs.laws.messages_are_exact.Goals.{After-reading_is_exact}

exact : After-reading_is_exact → IsExact
exact c = record {
  one_form = c.reading_is_exact.ensures.one_form;
  one_fault = c.reading_is_exact.ensures.one_fault;
  not_both = c.reading_is_exact.ensures.not_both;
}

pub returns-clause-payload : goal.returns-clause-payload
returns-clause-payload c = one_message (exact c)

pub returns-clause-stream : goal.returns-clause-stream
returns-clause-stream c = λ octets. one_list (exact c) (packets octets).payloads
