-- What `reach` leaves, one law for each way out; k is the levels left, n the node x, w what was known before. Assumes nothing.
use Rattle.std.specs.Prelude.{Some}
use mathlib.Core.Path.{◌≡◌, refl, ◌∙◌}
use mathlib.Core.Bool.{Bool, true, false}
use Prim.Native.Nat.{ℕ, zero, suc, ◌-◌}
use native.Mathlib.Numerals.{sub-one}
use Rattle.container.specs.Choice.{ite, upd}
use Rattle.container.specs.Container.{below, from}
use Rattle.definitions.specs.Nodes.{Shapes, Stores, is_route}
use Rattle.definitions.specs.declared.Node.{Node}
use Rattle.snapshot.specs.Layout.{reached_below}

module _ (k : ℕ) (t : Shapes) (x range : ℕ) (w : Stores) where
  pub reached_end : {v : Stores} → k ≡ 0 → v ≡ upd w x (Some range) → v ≡ reached_below k t x range w
  unfolding reached_below
  reached_end z e = e ∙ rw z

pub reached_base : (k : ℕ) (t : Shapes) (x range : ℕ) (w : Stores) {n : Node} {c : Bool} {v : Stores} → (k ≡ 0 → ⊥) → v ≡ upd w x (Some range)
    → n ≡ t x → c ≡ is_route n.kind → c ≡ false → v ≡ reached_below k t x range w
unfolding reached_below ite
reached_base zero t x range w z e f g h = absurd (z refl)
reached_base (suc k) t x range w z e f g h = e ∙ rw (← f, ← g, h)

pub reached_route : (k : ℕ) (t : Shapes) (x range : ℕ) (w : Stores) {n : Node} {c : Bool} {low high : ℕ} {v a b : Stores} → (k ≡ 0 → ⊥) → v ≡ upd w x (Some range)
    → n ≡ t x → c ≡ is_route n.kind → c ≡ true → low ≡ below n.key range → high ≡ from n.key range → a ≡ reached_below (k - 1) t n.left low v
    → b ≡ reached_below (k - 1) t n.right high a → b ≡ reached_below k t x range w
unfolding reached_below ite
reached_route zero t x range w z e f g h i j p q = absurd (z refl)
reached_route (suc k) t x range w z e f g h i j p q = q ∙ rw (p, e, i, j, sub-one (suc k), ← f, ← g, h)

pub ruleset reached_cases = (reached_end, reached_base, reached_route)
