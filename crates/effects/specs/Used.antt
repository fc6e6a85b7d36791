-- What an effect does, in parts: the counts of used node numbers and of shown stores, the nodes without their depths, and the depths by
-- themselves.
use Rattle.std.specs.Prelude.{ℕ, ◌+◌, ◌≡◌, Bool, cond, Option, Some}
use Rattle.container.specs.Choice.{upd}
use Rattle.container.specs.Container.{insert, remove, upper_half, lower_half}
use Rattle.container.specs.Depths.{container}
use Rattle.depths.specs.Rows.{Rows, Holds, full, changed, selected}
use Rattle.definitions.specs.Nodes.{Shapes, Stores, shape, new_base, new_route, new_range}
use Rattle.definitions.specs.Bench.{store}
use Rattle.definitions.specs.Effects.{hang, perform}
use Rattle.definitions.specs.declared.Stop.{Stop}
use Rattle.definitions.specs.declared.Spot.{Spot}
use Rattle.definitions.specs.declared.Kind.{Kind}
use Rattle.definitions.specs.declared.Kind.TheVariants.{Normal}
use Rattle.definitions.specs.declared.Node.{Node}
use Rattle.definitions.specs.declared.Content.{Content}
use Rattle.definitions.specs.declared.Content.TheVariants.{Of, With, Without}
use Rattle.definitions.specs.declared.Effect.{Effect}
use Rattle.definitions.specs.declared.Effect.TheVariants.{Quiet, Mark, Settle, Invalid, Swing, Raise, Lower, Base, Fork, Commit, Ask, Fill}

-- the numbers used after an effect: the new nodes' numbers follow those used before
abbrev pub used_after : ℕ → Effect → ℕ
used_after u Quiet = u
used_after u (Mark r l) = u
used_after u (Settle m v) = u
used_after u (Invalid r) = u
used_after u (Swing v x) = u
used_after u Raise = u
used_after u Lower = u
used_after u (Base v x k p c m) = x + 1
used_after u (Fork v x l r k y) = x + 3
used_after u (Commit m x p n g o) = x + 1
used_after u (Ask v x p y l h k new) = x + 1
used_after u (Fill k c) = u

-- the stores shown after an effect: a new one's number follows those shown before
abbrev pub shown_after : ℕ → Effect → ℕ
shown_after j Quiet = j
shown_after j (Mark r l) = j
shown_after j (Settle m v) = j
shown_after j (Invalid r) = j
shown_after j (Swing v x) = j
shown_after j Raise = j
shown_after j Lower = j
shown_after j (Base v x k p c m) = j
shown_after j (Fork v x l r k y) = j
shown_after j (Commit m x p n g o) = j
shown_after j (Ask v x p y l h k new) = cond new (k + 1) j
shown_after j (Fill k c) = j

-- ---- the nodes without their depths

-- a new base
abbrev pub base_shape : Kind → Option ℕ → ℕ → ℕ → Node
base_shape k p c m = shape (new_base k p (container c (λ _. 0)) m)

-- a new range base
abbrev pub range_shape : Option ℕ → ℕ → ℕ → ℕ → ℕ → Node
range_shape p c l h k = shape (new_range p (container c (λ _. 0)) l h k)

-- the set of a new base's container
abbrev pub set_of : Content → Shapes → ℕ
set_of (Of y) t = (t y).container
set_of (With y s d) t = insert (t y).container s
set_of (Without y s) t = remove (t y).container s

-- a route and its two bases, with the halves of the set c
abbrev pub fork_shapes : ℕ → ℕ → ℕ → ℕ → ℕ → Shapes → Shapes
fork_shapes x l r k c t = upd (upd (upd t x (new_route k l r)) l (base_shape Normal (Some x) (lower_half c) 0)) r (base_shape Normal (Some x) (upper_half c) 0)

-- node x is put at the spot v: the table t with root o becomes t' with root y, whatever the depths, the numbers used, the stores and the stop
abbrev pub Hung : Shapes → ℕ → Spot → ℕ → Shapes → ℕ → Type 0
Hung t o v x t' y = (d : Rows) (u : ℕ) (k : Stores) (j : ℕ) (z : Stop) → store (full t' d) y u k j z ≡ hang v x (store (full t d) o u k j z)

-- ---- the depths

-- those of a new base
abbrev pub depths_of : Content → Rows → ℕ → ℕ
depths_of (Of y) d = d y
depths_of (With y s v) d = changed (d y) s v
depths_of (Without y s) d = d y

-- n numbers hold the depths of the nodes that an effect makes
abbrev pub within : Effect → ℕ → Type 0
within Quiet n = Unit {0}
within (Mark r l) n = Unit {0}
within (Settle m v) n = Unit {0}
within (Invalid r) n = Unit {0}
within (Swing v x) n = Unit {0}
within Raise n = Unit {0}
within Lower n = Unit {0}
within (Base v x k p c m) n = Holds n (x + 1)
within (Fork v x l r k y) n = Holds n (x + 1) × (Holds n (l + 1) × Holds n (r + 1))
within (Commit m x p b g o) n = Holds n (x + 1)
within (Ask v x p y l h k new) n = Holds n (x + 1)
within (Fill k c) n = Unit {0}

-- after an effect: t is the table before it
abbrev pub deepened : Effect → Shapes → Rows → Rows
deepened Quiet t d = d
deepened (Mark r l) t d = d
deepened (Settle m v) t d = d
deepened (Invalid r) t d = d
deepened (Swing v x) t d = d
deepened Raise t d = d
deepened Lower t d = d
deepened (Base v x k p c m) t d = upd d x (depths_of c d)
deepened (Fork v x l r k y) t d = upd (upd (upd d x (d y)) l (d y)) r (d y)
deepened (Commit m x p n g o) t d = upd d x (selected (t m).container (d m) (d n))
deepened (Ask v x p y l h k new) t d = upd d x (d y)
deepened (Fill k c) t d = d

-- ---- both: the effect e takes the table t with root o and the stores k to t' with root y and k', whatever the depths and the stop, which it
-- leaves
pub record Applied (t : Shapes) (o u : ℕ) (k : Stores) (j : ℕ) (e : Effect) (t' : Shapes) (y : ℕ) (k' : Stores) : Type 0 where
  pub stored : (d : Rows) (z : Stop) → store (full t' (deepened e t d)) y (used_after u e) k' (shown_after j e) z ≡ perform e (store (full t d) o u k j z)

-- whatever the stores, which stay as they are
abbrev pub Applies : Shapes → ℕ → ℕ → Effect → Shapes → ℕ → Type 0
Applies t o u e t' y = (k : Stores) (j : ℕ) → Applied t o u k j e t' y k

-- the same of a new range base, whether its store is a new one or not
abbrev pub Asks : Shapes → ℕ → Spot → ℕ → Option ℕ → ℕ → ℕ → ℕ → ℕ → Shapes → ℕ → Type 0
Asks t o v x p b l h i t' y = (u : ℕ) (new : Bool) → Applies t o u (Ask v x p b l h i new) t' y
