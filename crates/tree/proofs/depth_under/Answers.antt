-- `tree::depth_under` meets its contract. Assumes nothing.
use native.Mathlib.Omega.{arith}
use Rattle.nodes.specs.Table.{table}
use Rattle.depths.specs.Rows.{rows, full}
use Rattle.tree.proofs.Cases.{way_down, way_end, way_out}
use Rattle.tree.proofs.depth_under.Goals as goal
use Rattle.tree.proofs.depth_under.Goals.{else-loop-test, then-loop-test+then-not-is_route}

pub loop-preserved : goal.loop-preserved
loop-preserved c = way_down _ _ (full (table _) (rows _)) _ _ (omega arith) c.node_at-n.ensures c.is_route.ensures c.if-not-is_route.false c.child_for-y.ensures c.loop.invariant

pub returns : goal.returns
returns c = elim c.loop-test.branch [
  | else-loop-test w ↦ way_out _ (full (table _) (rows _)) _ _ (omega arith) c.loop.invariant c.depth_at.ensures
  | then-loop-test+then-not-is_route w ↦ way_end _ (full (table _) (rows _)) _ _ w.node_at-n.ensures w.is_route.ensures w.if-not-is_route.true c.loop.invariant c.depth_at.ensures
]
