-- `depths::set_depth` meets its contract: where there is no such station, it writes nothing. Assumes nothing.
use native.Mathlib.Omega.{arith}
use Rattle.depths.proofs.Fill.{set_in, set_out}
use Rattle.depths.proofs.set_depth.Goals as goal
use Rattle.depths.proofs.set_depth.Goals.{else-s-lt64-via-then-s-lt64+else-index-depths, else-s-lt64-via-else-s-lt64}

pub returns-then-index-depths : goal.returns-then-index-depths
returns-then-index-depths c h = rw c.index-then-index-depths.ensures (set_in _ _ _ _ (omega arith) c.if-s-lt64.true)

pub returns-else-s-lt64 : goal.returns-else-s-lt64
returns-else-s-lt64 c h = elim c.else-s-lt64.branch [
  | else-s-lt64-via-then-s-lt64+else-index-depths w ↦ absurd (omega (arith, h.1, w.index.ensures, w.if-s-lt64.true, w.if-index-depths.false))
  | else-s-lt64-via-else-s-lt64 w ↦ set_out _ _ _ _ w.if-s-lt64.false
]
