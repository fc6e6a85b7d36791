-- `state::bench::Bench::put_nodes` meets its contract. Assumes nothing.
use Rattle.nodes.specs.Table.{table}
use Rattle.depths.specs.Rows.{rows}
use Rattle.buffer.proofs.Writes.{next, said}
use Rattle.state.proofs.Cases.{each_more, node_at}
use Rattle.state.proofs.bench.Bench.put_nodes.Goals as goal

pub loop-x-preserved : goal.loop-x-preserved
loop-x-preserved c =
    let g = c.args in
    said _ (each_more _ _ (node_at g.self.now.version (table g.self.now.nodes.now) (rows g.self.now.depths.now) c.loop-x.x c.result_at-range.ensures))
    (next _ _ _ c.loop-x.invariant c.put_node.ensures)
