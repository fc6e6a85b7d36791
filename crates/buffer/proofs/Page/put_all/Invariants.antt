-- The bytes before this one are written. Assumes nothing.
use lib.ListN.{take}
use Rattle.buffer.specs.Writes.{Writes}
use Rattle.buffer.proofs.Page.put_all.Given as goal

abbrev pub invariant-loop-x : goal.invariant-loop-x
invariant-loop-x l = Writes l.initial.self l.self (take l.x-index l.xs)
