-- Words for a measure of routes: their marks, and the steps that a lookup can make over them (Walks.antt).
use mathlib.Core.Path.{◌≡◌}
use mathlib.Core.Bool.{Bool, cond}
use Prim.Native.Nat.{ℕ, ◌+◌, ◌<◌, ◌≤◌}
use Rattle.definitions.specs.declared.Kind.TheVariants.{Route}
use Rattle.definitions.specs.Nodes.{Nodes}
use Rattle.definitions.specs.Bench.{Store}

-- of the routes of a store: each has a mark from 1 to top, and of two routes the one with the greater number has the greater mark
pub record Ruler (top : ℕ) (mark : Nodes → ℕ → ℕ) (s : Store) : Type 0 where
  pub first : (x : ℕ) → x < s.used → (s.nodes x).kind ≡ Route → 1 ≤ mark s.nodes x
  pub more : (r x : ℕ) → r < x → x < s.used → (s.nodes r).kind ≡ Route → (s.nodes x).kind ≡ Route → mark s.nodes r < mark s.nodes x
  pub most : (x : ℕ) → x < s.used → (s.nodes x).kind ≡ Route → mark s.nodes x ≤ top

-- a mark is read off the kinds of the nodes up to its own
abbrev pub Local : (Nodes → ℕ → ℕ) → Type 0
Local mark = (n n' : Nodes) (x : ℕ) → ((y : ℕ) → y ≤ x → (n' y).kind ≡ (n y).kind) → mark n' x ≡ mark n x

-- the steps that these marks allow
abbrev pub steps : ℕ → Bool → ℕ
steps top on = cond on (top + 3) (top + 1)
