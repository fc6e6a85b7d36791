-- `tree::stored_below` meets its contract: what is counted on both sides fits. Assumes nothing.
use Rattle.tree.proofs.Cases.{stored_fits}
use Rattle.tree.proofs.+stored_below.Goals as goal

pub overflow_add-result : goal.overflow_add-result
overflow_add-result t c = search stored_fits
