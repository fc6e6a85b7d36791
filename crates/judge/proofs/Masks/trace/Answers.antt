-- `judge::Masks::trace` meets its contract. Assumes nothing.
use native.Mathlib.Omega.{arith}
use Rattle.judge.specs.Standing.{held}
use Rattle.judge.proofs.Table.{masks_few}
use Rattle.judge.proofs.Walk.{trace_go}
use Rattle.judge.proofs.Masks.trace.Goals as goal

pub bounds : goal.bounds
bounds c = let w = c.args.self.now.work in omega (arith, masks_few c.loop-p.mask w.count w.sound.few c.loop-p.invariant.low)

pub unreachable-requires : goal.unreachable-requires
unreachable-requires c = let w = c.args.self.now.work in
    trace_go (held w) w.sound c.loop-p.mask c.loop-p.p c.loop-p.order c.args.self.now.next c.loop-p.invariant c.loop-p-test.true c.requires.filled c.in_default.not-Go
