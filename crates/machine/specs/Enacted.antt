-- What a step writes, on the nodes and stores and on the depths that are lent; and the depth that a lookup finds.
use Rattle.std.specs.Prelude.{ℕ, ◌≡◌, List, length}
use Rattle.definitions.specs.Nodes.{Shapes, Stores}
use Rattle.definitions.specs.declared.Answer.{Answer}
use Rattle.definitions.specs.declared.Answer.TheVariants.{No, Yes, At, Lacking, Blocked, Lost, NeighbourBlocked, StoodDown, Stopped}
use Rattle.definitions.specs.declared.Effect.{Effect}
use Rattle.depths.specs.Rows.{Rows, rows}
use Rattle.effects.specs.Used.{within, deepened, Applied}

-- a lookup's find at station s, else 0
abbrev pub depth_by : Answer → Rows → ℕ → ℕ
depth_by No d s = 0
depth_by Yes d s = 0
depth_by (At x) d s = d x s
depth_by Lacking d s = 0
depth_by Blocked d s = 0
depth_by Lost d s = 0
depth_by NeighbourBlocked d s = 0
depth_by StoodDown d s = 0
depth_by Stopped d s = 0

-- the depths l become l' by the effect e on the nodes t, where those of the new nodes are lent
pub record Followed (t : Shapes) (l : List ℕ) (e : Effect) (l' : List ℕ) : Type 0 where
  pub rows : within e (length l) → rows l' ≡ deepened e t (rows l)

-- the same, and the nodes t with root o and u numbers used become t' with root r, the stores k with j shown become k'
pub record Enacted (t : Shapes) (l : List ℕ) (o u : ℕ) (k : Stores) (j : ℕ) (e : Effect) (t' : Shapes) (l' : List ℕ) (r : ℕ) (k' : Stores) : Type 0 where
  pub nodes : Applied t o u k j e t' r k'
  pub depths : Followed t l e l'

-- whatever the stores, which stay as they are
abbrev pub Enacts : Shapes → List ℕ → ℕ → ℕ → Effect → Shapes → List ℕ → ℕ → Type 0
Enacts t l o u e t' l' r = (k : Stores) (j : ℕ) → Enacted t l o u k j e t' l' r k
