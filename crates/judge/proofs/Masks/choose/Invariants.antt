-- `judge::Masks::choose`: what its loop keeps true.
use Rattle.judge.specs.Standing.{held}
use Rattle.judge.proofs.Table.{Lower, Left}
use Rattle.judge.proofs.Masks.choose.Given as goal

abbrev pub invariant-loop-i : goal.invariant-loop-i
invariant-loop-i l = Lower (held l.self.work) l.mask l.i × Left (held l.self.work) l.mask l.i l.some
