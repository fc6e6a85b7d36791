-- `run::may_ask` meets its contract. Assumes nothing.
use Prim.Native.Nat.{◌-◌}
use lib.ListN.{length}
use Rattle.run.proofs.Looked.{Looked}
use Rattle.run.proofs.may_ask.Given as goal

abbrev pub invariant-loop-from : goal.invariant-loop-from
invariant-loop-from l = Looked l.schedule l.from

abbrev pub decreases-loop-from : goal.decreases-loop-from
decreases-loop-from l = length l.schedule - l.from
