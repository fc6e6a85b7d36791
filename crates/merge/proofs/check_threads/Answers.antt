-- `merge::check_threads` meets its contract. Assumes nothing.
use mathlib.Core.Bool.{true, false}
use native.Mathlib.Omega.{arith}
use Rattle.container.specs.Choice.{ite}
use Rattle.merge.proofs.Cases.{foreign_none, foreign_more, foreign_all}
use Rattle.merge.proofs.check_threads.Goals as goal

pub loop-record-init : goal.loop-record-init
loop-record-init c = foreign_none _ _

pub loop-record-preserved : goal.loop-record-preserved
loop-record-preserved c = let i = foreign_more c.args.f c.args.s.now _ _ c.loop-record.invariant in
    let e = c.records-record-items.ensures.first c.loop-record.record-index c.loop-record-test.true in rw (← e) at i

pub returns-then-other : goal.returns-then-other
unfolding ite
returns-then-other c =
    foreign_all _ _ c.loop-record.other true (omega (arith, c.records-record-items.ensures.many)) (omega (arith, c.records-record-items.ensures.many)) c.loop-record.invariant c.if-other.true

pub returns : goal.returns
unfolding ite
returns c = foreign_all _ _ c.loop-record.other false (omega (arith, c.records-record-items.ensures.many)) (omega (arith, c.records-record-items.ensures.many)) c.loop-record.invariant c.if-other.false
