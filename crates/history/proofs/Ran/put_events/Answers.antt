-- `history::Ran::put_events` meets its contract. Assumes nothing.
use mathlib.Core.Path.{◌∙◌}
use native.Mathlib.Omega.{arith}
use borrow.Author.Rules.{rules}
use Rattle.history.proofs.Loop.{holds_none, at_start, at_past, at_other, at_ahead, at_low, at_end, page_all}
use Rattle.history.proofs.Ran.put_events.Goals as goal
use Rattle.history.proofs.Ran.put_events.Goals.{then-action-ne0, else-action-ne0+then-m-self+then-self-m+then-not-step_ahead}
use Rattle.history.proofs.Ran.put_events.Goals.{else-action-ne0+else-m-self, else-m-self-via-else-m-self, else-m-self-via-then-m-self+else-self-m}
use Rattle.history.proofs.Ran.put_events.Goals.{else-m-self-via-then-m-self+then-self-m+else-not-step_ahead}

pub loop-k-init : goal.loop-k-init
loop-k-init c = (search rules, holds_none _ _)

pub put_finish-requires : goal.put_finish-requires
put_finish-requires c =
    at_low _ _ _ c.args.self.now.told _ c.loop-k-test.true c.loop-k.invariant.1 c.if-action-ne0.false c.step_ahead.ensures c.if-m-self.true c.if-self-m.true c.if-not-step_ahead.true

pub loop-k-preserved : goal.loop-k-preserved
loop-k-preserved c =
    let i = c.loop-k.invariant in
    elim c.if-action-ne0.branch [
      | then-action-ne0 w ↦ rw (w.out-is, w.m-is) (w.put_all.ensures.0 ∙ i.0, at_start _ _ _ c.args.self.now.told _ c.loop-k-test.true i.1 w.if-action-ne0.true w.put_all.ensures.1)
      | else-action-ne0+then-m-self+then-self-m+then-not-step_ahead w ↦ rw (w.out-is, w.m-is) (
        w.put_finish.ensures.0 ∙ i.0,
        at_end _ _ _ c.args.self.now.told _ c.loop-k-test.true i.1 w.if-action-ne0.false w.step_ahead.ensures w.if-m-self.true w.if-self-m.true w.if-not-step_ahead.true w.put_finish.ensures.1,
      )
      | else-action-ne0+else-m-self w ↦ rw (w.out-is, w.m-is) (
        i.0,
        elim w.else-m-self.branch [
          | else-m-self-via-then-m-self+then-self-m+else-not-step_ahead v ↦
              at_ahead _ _ _ c.args.self.now.told _ c.loop-k-test.true i.1 w.if-action-ne0.false v.step_ahead.ensures v.if-not-step_ahead.false
          | else-m-self-via-then-m-self+else-self-m v ↦ at_other _ _ _ c.args.self.now.told _ c.loop-k-test.true i.1 w.if-action-ne0.false v.if-m-self.true v.if-self-m.false
          | else-m-self-via-else-m-self v ↦ at_past _ _ _ c.args.self.now.told _ c.loop-k-test.true i.1 w.if-action-ne0.false v.if-m-self.false
        ],
      )
    ]

pub returns : goal.returns
returns c = (c.loop-k.invariant.0, page_all _ c.args.self.now.told.version _ _ _ c.args.self.now.told.done (omega arith) c.loop-k.invariant.1.page)
