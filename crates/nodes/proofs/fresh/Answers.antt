-- `nodes::fresh` meets its contract. Assumes nothing.
use Rattle.nodes.proofs.Blank.{blank}
use Rattle.nodes.proofs.fresh.Goals as goal

pub returns : goal.returns
returns c = blank 256
