-- `state::whole` meets its contract. Assumes nothing.
use native.Mathlib.Omega.{arith}
use Rattle.run.proofs.Ended.{enough_all}
use Rattle.state.proofs.whole.Goals as goal

pub bounds-schedule-0 : goal.bounds-schedule-0
bounds-schedule-0 c = omega (arith, c.requires.0.header)

pub report-requires-else-schedule-eq1-clause-enough : goal.report-requires-else-schedule-eq1-clause-enough
report-requires-else-schedule-eq1-clause-enough c = enough_all _ c.if-schedule-eq1.false (omega arith) (omega arith) (omega arith)
