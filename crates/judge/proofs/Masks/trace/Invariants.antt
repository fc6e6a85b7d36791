-- `judge::Masks::trace`: what its loop keeps true.
use Rattle.judge.specs.Standing.{held}
use Rattle.judge.proofs.Walk.{Traced}
use Rattle.judge.proofs.Masks.trace.Given as goal

abbrev pub invariant-loop-p : goal.invariant-loop-p
invariant-loop-p l = Traced (held l.self.work) l.mask l.p l.order
