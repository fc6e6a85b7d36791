-- `snapshot::frame::put_stack`: i entries are written. Assumes nothing.
use Rattle.buffer.specs.Writes.{Writes}
use Rattle.frames.specs.View.{held_stack}
use Rattle.snapshot.specs.Layout.{padded}
use Rattle.snapshot.proofs.frame.put_stack.Given as goal

abbrev pub invariant-loop-i : goal.invariant-loop-i
invariant-loop-i l = Writes l.initial.out l.out (padded l.i (held_stack l.stack))
