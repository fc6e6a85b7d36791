-- The nodes of what is listed, their containers with their depths.
use Rattle.definitions.specs.Nodes.{Nodes}
use Rattle.depths.specs.Rows.{rows, full}
use Rattle.nodes.specs.Table.{table}
use Rattle.listing.specs.declared.Tree.{Tree}

abbrev pub nodes_of : Tree → Nodes
nodes_of t = full (table t.nodes.now) (rows t.depths.now)
