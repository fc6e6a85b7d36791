-- How an array holds the node table: node j of the bench is its j-th.
use Rattle.std.specs.Prelude.{List, get_or}
use Rattle.definitions.specs.declared.Node.{Node}
use Rattle.definitions.specs.Nodes.{Shapes, shape, empty_base}

unfoldable pub table : List Node → Shapes
table nodes j = get_or nodes j (shape empty_base)
