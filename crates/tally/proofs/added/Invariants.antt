-- `tally::added` meets its contract: the numbers before place i are added. Assumes nothing.
use Rattle.tally.proofs.Cases.{Added}
use Rattle.tally.proofs.added.Given as goal

abbrev pub invariant-loop-i : goal.invariant-loop-i
invariant-loop-i l = Added l.i l.tally l.one l.both
