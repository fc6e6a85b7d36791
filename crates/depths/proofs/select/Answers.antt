-- `depths::select` meets its contract. The loop's invariant: the stations below s have their depths. Assumes nothing.
use native.Mathlib.Omega.{arith}
use mathlib.Core.Path.{◌∙◌}
use Rattle.depths.proofs.Fill.{filled, chosen, chosen_in, chosen_out}
use Rattle.depths.proofs.select.Goals as goal
use Rattle.depths.proofs.select.Goals.{then-contains, else-contains}

pub loop-s-preserved : goal.loop-s-preserved
loop-s-preserved c =
    let f = c.loop-s.invariant in
    rw c.index-in-loop-s.ensures (
    filled f _ (omega arith) (omega arith) (c.depth_at.ensures ∙ elim c.if-contains.branch [
      | then-contains w ↦ chosen_in _ _ _ f c.contains.ensures w.if-contains.true w.from-is
      | else-contains w ↦ chosen_out _ _ _ f c.contains.ensures w.if-contains.false w.from-is
    ])
    )

pub returns-after-loop-s : goal.returns-after-loop-s
returns-after-loop-s c h = chosen _ _ _ c.loop-s.invariant (omega arith) (omega arith)

-- its depths are not lent
pub returns-else-index-depths : goal.returns-else-index-depths
returns-else-index-depths c h = absurd (omega (arith, h.1, c.index.ensures))
