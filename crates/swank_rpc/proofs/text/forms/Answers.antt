use Rattle.swank_rpc.proofs.TextLemmas.{gives-forms}
use Rattle.swank_rpc.proofs.text.forms.Goals as goal

pub returns : goal.returns
returns c = gives-forms c.args.text.now c.read_all.result c.read_all.ensures.read c.read_all.ensures.refused
