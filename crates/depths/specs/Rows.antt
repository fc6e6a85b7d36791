-- How numbers hold the depths: 64 a node.
use Rattle.std.specs.Prelude.{ℕ, ◌+◌, ◌*◌, ◌%◌, ◌≡◌, ◌≤◌, cond, List, ltb, get_or}
use Rattle.container.specs.Choice.{ite, upd}
use Rattle.container.specs.Container.{has}
use Rattle.definitions.specs.Nodes.{Nodes, Shapes, entry}

-- depths, by node and station
abbrev pub Rows : Type 0
Rows = ℕ → ℕ → ℕ

-- the depth of station m in node j
unfoldable pub rows : List ℕ → Rows
rows c j m = cond (ltb m 64) (get_or c (j * 64 + m) 0) 0

-- n numbers hold the depths of whole nodes, and of those below u
abbrev pub Holds : ℕ → ℕ → Type 0
Holds n u = (n % 64 ≡ 0) × (u * 64 ≤ n)

-- a row with one depth changed
abbrev pub changed : (ℕ → ℕ) → ℕ → ℕ → ℕ → ℕ
changed r s d = ite (ltb s 64) (upd r s d) r

-- the depths of one row at the stations of a set, of another elsewhere
abbrev pub selected : ℕ → (ℕ → ℕ) → (ℕ → ℕ) → ℕ → ℕ
selected set a b s = ite (has set s) (a s) (b s)

-- the node table, its containers with their depths
abbrev pub full : Shapes → Rows → Nodes
full t d x = entry (t x) (d x)
