-- `selected_place` meets its contract: the table's entry. Assumes nothing.
use Rattle.container.proofs.Table.{entry_at}
use Rattle.container.proofs.select.selected_place.Goals as goal

pub returns : goal.returns
returns c = entry_at c.args.byte c.args.position c.requires.0 c.requires.1
