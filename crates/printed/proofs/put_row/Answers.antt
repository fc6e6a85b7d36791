-- `printed::put_row` meets its contract. Assumes nothing.
use Rattle.buffer.proofs.Writes.{next, said}
use Rattle.printed.proofs.Cases.{row_parts}
use Rattle.printed.proofs.put_row.Goals as goal

pub returns : goal.returns
returns c =
    said _ (row_parts _ c.args.row.now c.from.ensures c.from-2.ensures)
    (next _ _ _ c.put.ensures (next _ _ _ c.put_decimal.ensures (next _ _ _ c.put-2.ensures (next _ _ _ c.put_action.ensures (next _ _ _ c.put-3.ensures
    (next _ _ _ c.put_decimal-2.ensures (next _ _ _ c.put-4.ensures (next _ _ _ c.put_answer.ensures (next _ _ _ c.put_depth.ensures c.put-5.ensures)))))))))
