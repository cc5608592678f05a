use Rattle.session_laws.proofs.Lawful.{stretch_is_legal}
use Rattle.session_laws.proofs.Prompt as prompt
use Rattle.session_laws.proofs.laws.breaks_promptly.Goals as goal

pub returns : goal.returns
returns c = record { prompt = prompt.breaks_promptly; stretches = stretch_is_legal }
