-- `depths::copy` meets its contract. Assumes nothing.
use Prim.Native.Nat.{◌+◌, ◌<◌}
use lib.ListN.{length}
use native.Mathlib.Omega.{arith}
use Rattle.depths.proofs.Fill.{copied, cleared}
use Rattle.depths.proofs.copy.Goals as goal

pub returns-then-max-depths : goal.returns-then-max-depths
returns-then-max-depths c h = let q = c.copy_within.ensures.by_index in copied _ _ _ _ c.index-row.ensures c.index-at.ensures (omega arith) q.0 q.1 q.2

-- the depths of node `from` are not lent
pub returns-then-at-depths : goal.returns-then-at-depths
returns-then-at-depths c h =
    let past : length c.args.depths.now < c.index-row.result + 64 = omega (arith, c.max.ensures) in
    cleared _ _ _ h.0 c.index-row.ensures c.index-at.ensures (omega arith) past c.if-at-depths.true (c.fill.ensures.after (λ y e. e))
