-- `printed::put_last` meets its contract. Assumes nothing.
use Rattle.definitions.specs.Printed.{last_line}
use Rattle.buffer.proofs.Writes.{next}
use Rattle.printed.proofs.put_last.Goals as goal

pub returns : goal.returns
unfolding last_line
returns c = next _ _ _ c.put_all.ensures (next _ _ _ c.put_number.ensures (next _ _ _ c.put_all-2.ensures (next _ _ _ c.put_number-2.ensures c.put.ensures)))
