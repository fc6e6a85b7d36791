-- `snapshot::node::put_node` meets its contract. Assumes nothing.
use borrow.Author.Rules.{rules}
use Rattle.nodes.specs.Table.{table}
use Rattle.depths.specs.Rows.{rows}
use Rattle.buffer.proofs.Writes.{next, said}
use Rattle.snapshot.proofs.NodeCases.{node_parts}
use Rattle.snapshot.proofs.node.put_node.Goals as goal

pub returns : goal.returns
returns c =
    let g = c.args in
    said _ (node_parts g.version g.range (table g.nodes.now) (rows g.depths.now) g.x c.node_at-n.ensures (search rules) c.holding-held.ensures)
    (next _ _ _ c.put.ensures (next _ _ _ c.put_shared.ensures (next _ _ _ c.put_fields.ensures (next _ _ _ c.put_zeros.ensures c.put_depths.ensures))))
