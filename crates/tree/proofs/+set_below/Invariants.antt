-- `tree::set_below` is called with a level less each time. Assumes nothing.
use Rattle.tree.proofs.+set_below.Given as goal

abbrev pub decreases-set_below : goal.decreases-set_below
decreases-set_below l = l.levels
