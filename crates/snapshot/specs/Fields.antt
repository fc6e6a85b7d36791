-- The bytes of a node's fields, as the code has them: of what a step reads of a node, without its depths.
use Rattle.std.specs.Prelude.{List, ◌++◌, ℕ}
use Rattle.definitions.specs.Nodes.{Entry, entry}
use Rattle.definitions.specs.Run.{bytes_of}
use Rattle.definitions.specs.declared.Node.{Node}
use Rattle.snapshot.specs.Layout.{zeros, link_bytes, route_bytes, base_bytes, own_bytes}

abbrev pub plain : Node → Entry
plain n = entry n (λ _. 0)

-- the first sixteen of a base
abbrev pub based : Node → List ℕ
based n = zeros 6 ++ (link_bytes n.parent ++ bytes_of 8 n.container)

-- 32 bytes; they are the same whatever the depths
abbrev pub field_bytes : Entry → List ℕ
field_bytes e = route_bytes e.kind e ++ (base_bytes e.kind e ++ own_bytes e.kind e)
