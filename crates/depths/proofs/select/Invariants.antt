-- `depths::select` meets its contract. The loop's invariant: the stations below s have their depths. Assumes nothing.
use Rattle.depths.specs.Rows.{rows, selected}
use Rattle.depths.proofs.Fill.{Filled}
use Rattle.depths.proofs.select.Given as goal

abbrev pub invariant-loop-s : goal.invariant-loop-s
invariant-loop-s l = Filled l.initial.depths l.depths l.to (selected l.set (rows l.initial.depths l.a) (rows l.initial.depths l.b)) l.s
