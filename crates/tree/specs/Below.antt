-- The walks of the tree over what a step reads of the nodes: the set and the stored count. And the way of one station down to a base.
use Rattle.std.specs.Prelude.{ℕ, zero, suc, ◌+◌}
use Rattle.container.specs.Choice.{ite}
use Rattle.container.specs.Container.{union, cut, below, from, size}
use Rattle.definitions.specs.Nodes.{Nodes, Shapes, shape, child_for, is_route}

unfoldable pub set_below : ℕ → Shapes → ℕ → ℕ → ℕ
set_below zero n x range = cut (n x).container range
set_below (suc k) n x range =
    ite (is_route (n x).kind)
    (union (set_below k n (n x).left (below (n x).key range)) (set_below k n (n x).right (from (n x).key range)))
    (cut (n x).container range)

unfoldable pub count_below : ℕ → Shapes → ℕ → ℕ → ℕ
count_below zero n x range = size (cut (n x).container range)
count_below (suc k) n x range =
    ite (is_route (n x).kind)
    (count_below k n (n x).left (below (n x).key range) + count_below k n (n x).right (from (n x).key range))
    (size (cut (n x).container range))

-- the depth that station s has where it leads to from x, with at most k steps down
unfoldable pub depth_under : ℕ → Nodes → ℕ → ℕ → ℕ
depth_under zero n x s = (n x).container.depth s
depth_under (suc k) n x s = ite (is_route (n x).kind) (depth_under k n (child_for s (shape (n x))) s) ((n x).container.depth s)
