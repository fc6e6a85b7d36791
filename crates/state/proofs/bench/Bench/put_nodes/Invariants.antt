-- `state::bench::Bench::put_nodes`: x nodes are written. Assumes nothing.
use mathlib.Core.List.{[], ◌∷◌}
use Rattle.buffer.specs.Writes.{Writes}
use Rattle.nodes.specs.Stores.{stores}
use Rattle.snapshot.specs.Layout.{each, node_bytes}
use Rattle.state.specs.Bench.{nodes_in}
use Rattle.state.proofs.bench.Bench.put_nodes.Given as goal

abbrev pub invariant-loop-x : goal.invariant-loop-x
invariant-loop-x l = Writes l.initial.out l.out (each (λ y. node_bytes (l.self.version ∷ []) (stores l.ranges y) (nodes_in l.self y)) l.x)
