-- `tree::depth_under` meets its contract. The loop's invariant: the way from y with the steps that are left ends where the way from x does.
-- Assumes nothing.
use mathlib.Core.Path.{◌≡◌}
use Prim.Native.Nat.{◌-◌}
use Rattle.nodes.specs.Table.{table}
use Rattle.depths.specs.Rows.{rows, full}
use Rattle.tree.specs.Below.{depth_under}
use Rattle.tree.proofs.depth_under.Given as goal

abbrev pub invariant-loop : goal.invariant-loop
invariant-loop l = depth_under (l.levels - l.counter) (full (table l.nodes) (rows l.depths)) l.y l.s ≡ depth_under l.levels (full (table l.nodes) (rows l.depths)) l.x l.s
