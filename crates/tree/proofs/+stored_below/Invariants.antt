-- `tree::stored_below` is called with a level less each time. Assumes nothing.
use Rattle.tree.proofs.+stored_below.Given as goal

abbrev pub decreases-stored_below : goal.decreases-stored_below
decreases-stored_below l = l.levels
