-- `printed::print_run` meets its contract. Assumes nothing.
use borrow.Author.Rules.{rules}
use Rattle.printed.proofs.Fits.{stands_whole}
use Rattle.printed.proofs.print_run.Goals as goal

pub returns : goal.returns
returns c = record { result_after = search rules; value = stands_whole _ _ c.put_run.ensures.few (search rules) }
