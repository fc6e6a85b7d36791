-- `snapshot::node::reach` is called with a level less each time. Assumes nothing.
use Rattle.snapshot.proofs.node.+reach.Given as goal

abbrev pub decreases-reach : goal.decreases-reach
decreases-reach l = l.levels
