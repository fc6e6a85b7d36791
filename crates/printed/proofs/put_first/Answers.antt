-- `printed::put_first` meets its contract. Assumes nothing.
use Rattle.definitions.specs.Printed.{first_line}
use Rattle.buffer.proofs.Writes.{next}
use Rattle.printed.proofs.put_first.Goals as goal

pub returns : goal.returns
unfolding first_line
returns c =
    next _ _ _ c.put_all.ensures (next _ _ _ c.put_number.ensures (next _ _ _ c.put_all-2.ensures (next _ _ _ c.put_number-2.ensures
    (next _ _ _ c.put_all-3.ensures (next _ _ _ c.put_number-3.ensures c.put.ensures)))))
