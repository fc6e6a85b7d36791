-- `snapshot::node::put_depths`: the depths of the stations below s are written. Assumes nothing.
use mathlib.Core.List.{[], ◌∷◌}
use Prim.Native.Nat.{◌≤◌, ◌-◌}
use Rattle.container.specs.Depths.{container}
use Rattle.buffer.specs.Writes.{Writes}
use Rattle.depths.specs.Rows.{rows}
use Rattle.snapshot.specs.Layout.{each, depth_bytes}
use Rattle.snapshot.proofs.node.put_depths.Given as goal

abbrev pub invariant-loop-s : goal.invariant-loop-s
invariant-loop-s l = (l.s ≤ 64) × Writes l.initial.out l.out (each (depth_bytes (l.version ∷ []) (container l.c (rows l.depths l.x))) l.s)

abbrev pub decreases-loop-s : goal.decreases-loop-s
decreases-loop-s l = 64 - l.s
