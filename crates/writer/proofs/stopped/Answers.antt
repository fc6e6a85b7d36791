-- `writer::stopped` meets its contract. Assumes nothing.
use Rattle.writer.proofs.Cases.{halted, unhalted}
use Rattle.writer.proofs.stopped.Goals as goal

pub returns-then-r-eq0 : goal.returns-then-r-eq0
returns-then-r-eq0 c = rw c.from.ensures (halted _ c.if-r-eq0.true)

pub returns-else-r-eq0 : goal.returns-else-r-eq0
returns-else-r-eq0 c = unhalted _ c.if-r-eq0.false
