use Rattle.server_laws.proofs.StaleRequests.{request_text, stale_requests}
use Rattle.server_laws.proofs.laws.stale_requests_do_nothing.Goals as goal

pub returns : goal.returns
returns c = record { text = request_text; stale = stale_requests }
