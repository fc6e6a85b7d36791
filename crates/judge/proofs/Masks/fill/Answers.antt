-- `judge::Masks::fill` meets its contract. Assumes nothing.
use Prim.Native.Nat.{◌-◌}
use native.Mathlib.Omega.{arith}
use lib.ListN.{length-set}
use mathlib.Core.Path.{◌∙◌}
use Rattle.judge.specs.Standing.{held}
use Rattle.judge.proofs.Table.{fill_step, fill_skip, masks_few}
use Rattle.judge.proofs.Masks.fill.Goals as goal

pub choose-requires-clause-filled : goal.choose-requires-clause-filled
choose-requires-clause-filled c = λ M h. c.loop-m.invariant.filled M (omega arith)

pub bounds-self-m : goal.bounds-self-m
bounds-self-m c = omega (arith, masks_few (c.loop-m.m - 1) c.args.self.now.work.count c.args.self.now.work.sound.few (omega arith))

pub loop-m-preserved-then-is_down : goal.loop-m-preserved-then-is_down
loop-m-preserved-then-is_down c =
    let low = masks_few (c.loop-m.m - 1) c.args.self.now.work.count c.args.self.now.work.sound.few (omega arith) in
    record {
      work = c.loop-m.invariant.work;
      long = length-set c.loop-m.self.next _ _ ∙ c.loop-m.invariant.long;
      filled = fill_step (held c.loop-m.self.work) c.loop-m.self.next (c.loop-m.m - 1) c.choose.result (omega (arith, c.loop-m.invariant.long))
          (λ M h. c.loop-m.invariant.filled M (omega arith)) c.choose.ensures;
    }

pub loop-m-preserved : goal.loop-m-preserved
loop-m-preserved c = record {
  work = c.loop-m.invariant.work;
  long = c.loop-m.invariant.long;
  filled = fill_skip (held c.loop-m.self.work) c.loop-m.self.next (c.loop-m.m - 1) c.is_down.ensures c.if-is_down.false (λ M h. c.loop-m.invariant.filled M (omega arith));
}

pub returns : goal.returns
returns c = record { filled = λ M h. c.loop-m.invariant.filled M (omega arith); work = c.loop-m.invariant.work }
