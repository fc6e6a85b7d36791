-- `judge::Work::state` meets its contract. Assumes nothing.
use Rattle.judge.specs.Standing.{held}
use Rattle.judge.proofs.Cases.{held_is, state_start, state_skip, state_step}
use Rattle.judge.proofs.Work.state.Goals as goal
use Rattle.judge.proofs.Work.state.Goals.{then-contains, else-contains}

pub loop-i-init : goal.loop-i-init
loop-i-init c = state_start (held c.args.self.now) c.args.mask

pub loop-i-preserved : goal.loop-i-preserved
loop-i-preserved c =
    let w = c.args.self.now in
    let i = c.loop-i.i in
    elim c.if-contains.branch [
      | then-contains b ↦ rw b.set-is (state_step (held w) c.args.mask i c.loop-i.set c.loop-i.invariant c.contains.ensures b.applied-set.result b.if-contains.true
          (rw (held_is w.count w.ops i c.loop-i-test.true) b.applied-set.ensures))
      | else-contains b ↦ rw b.set-is (state_skip (held w) c.args.mask i c.loop-i.set c.loop-i.invariant c.contains.ensures b.if-contains.false)
    ]
