-- `snapshot::node::put_fields` meets its contract. Assumes nothing.
use Rattle.buffer.proofs.Writes.{next, said}
use Rattle.snapshot.proofs.NodeCases.{fields_neighbour, fields_range}
use Rattle.snapshot.proofs.node.put_fields.Goals as goal

pub returns-in-Neighbour : goal.returns-in-Neighbour
returns-in-Neighbour c =
    said _ (fields_neighbour _ c.in-Neighbour.is)
    (next _ _ _ c.put_base-in-Neighbour.ensures (next _ _ _ c.put_zeros-in-Neighbour.ensures (next _ _ _ c.put_all-in-Neighbour.ensures c.put_zeros-in-Neighbour-2.ensures)))

pub returns-in-Range : goal.returns-in-Range
returns-in-Range c = said _ (fields_range _ c.in-Range.is) (next _ _ _ c.put_base-in-Range.ensures (next _ _ _ c.put_zeros-in-Range.ensures c.put_all-in-Range.ensures))
