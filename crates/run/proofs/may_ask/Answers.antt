-- `run::may_ask` meets its contract. Assumes nothing.
use native.Mathlib.Omega.{arith}
use Rattle.run.proofs.Looked.{looked_more, looked_all}
use Rattle.run.proofs.may_ask.Goals as goal

pub returns-else-schedule-gt259 : goal.returns-else-schedule-gt259
returns-else-schedule-gt259 c = λ e. (looked_all _ _ c.loop-from.invariant c.loop-from-test.false, omega arith)

pub returns-else-schedule-from-eq6 : goal.returns-else-schedule-from-eq6
returns-else-schedule-from-eq6 c = λ e. (looked_all _ _ (looked_more _ _ c.loop-from.invariant c.if-schedule-from-eq6.false) (omega arith), omega arith)
