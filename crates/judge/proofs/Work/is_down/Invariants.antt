-- `judge::Work::is_down`: what its loop keeps true.
use Rattle.judge.specs.Standing.{held}
use Rattle.judge.proofs.Table.{DownFrom}
use Rattle.judge.proofs.Work.is_down.Given as goal

abbrev pub invariant-loop-i : goal.invariant-loop-i
invariant-loop-i l = DownFrom (held l.self) l.mask l.i
