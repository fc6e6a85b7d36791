-- What the walks return, one law for each way out. Assumes nothing.
use mathlib.Core.Path.{◌≡◌, refl, sym, ap, ◌∙◌}
use mathlib.Core.Bool.{Bool, true, false}
use Prim.Native.Nat.{ℕ, zero, suc, ◌+◌, ◌-◌, ◌^◌, ◌≤◌, ◌<◌}
use native.Mathlib.Omega.{arith}
use native.Mathlib.Numerals.{sub-one}
use Rattle.container.specs.Choice.{ite}
use Rattle.container.specs.Container.{union, cut, below, from, size}
use Rattle.definitions.specs.Nodes.{Nodes, Shapes, shape, child_for, is_route}
use Rattle.definitions.specs.declared.Node.{Node}
use Rattle.definitions.proofs.Counted.{below_le}
use Rattle.depths.specs.Rows.{full}
use Rattle.tree.specs.Below.{set_below, count_below, depth_under}
use Rattle.tree.proofs.Held.{held_stored}

-- ---- the set; n is node x, and k the levels left

pub set_end : (k : ℕ) (t : Shapes) (x range : ℕ) {n : Node} {r : ℕ} → n ≡ t x → k ≡ 0 → r ≡ cut n.container range → r ≡ set_below k t x range
unfolding set_below
set_end k t x range e z q = q ∙ rw (z, e)

pub set_base : (k : ℕ) (t : Shapes) (x range : ℕ) {n : Node} {v : Bool} {r : ℕ} → n ≡ t x → (k ≡ 0 → ⊥) → v ≡ is_route n.kind → v ≡ false → r ≡ cut n.container range → r ≡ set_below k t x range
unfolding set_below ite
set_base zero t x range e z f g q = absurd (z refl)
set_base (suc k) t x range e z f g q = q ∙ rw (← e, ← f, g)

pub set_route : (k : ℕ) (t : Shapes) (x range : ℕ) {n : Node} {v : Bool} {low high a b r : ℕ} → n ≡ t x → (k ≡ 0 → ⊥) → v ≡ is_route n.kind → v ≡ true
    → low ≡ below n.key range → high ≡ from n.key range → a ≡ set_below (k - 1) t n.left low → b ≡ set_below (k - 1) t n.right high → r ≡ union a b → r ≡ set_below k t x range
unfolding set_below ite
set_route zero t x range e z f g l h p s q = absurd (z refl)
set_route (suc k) t x range e z f g l h p s q = q ∙ rw (p, s, l, h, sub-one (suc k), ← e, ← f, g)

-- ---- the stored count; c is what of the container lies in the range

pub stored_end : (k : ℕ) (t : Shapes) (x range : ℕ) {n : Node} {c r : ℕ} → n ≡ t x → c ≡ cut n.container range → k ≡ 0 → r ≡ size c → r ≡ count_below k t x range
unfolding count_below
stored_end k t x range e f z q = q ∙ rw (f, z, e)

pub stored_base : (k : ℕ) (t : Shapes) (x range : ℕ) {n : Node} {v : Bool} {c r : ℕ} → n ≡ t x → c ≡ cut n.container range → (k ≡ 0 → ⊥) → v ≡ is_route n.kind → v ≡ false
    → r ≡ size c → r ≡ count_below k t x range
unfolding count_below ite
stored_base zero t x range e i z f g q = absurd (z refl)
stored_base (suc k) t x range e i z f g q = q ∙ rw (i, ← e, ← f, g)

pub stored_route : (k : ℕ) (t : Shapes) (x range : ℕ) {n : Node} {v : Bool} {low high a b r : ℕ} → n ≡ t x → (k ≡ 0 → ⊥) → v ≡ is_route n.kind → v ≡ true
    → low ≡ below n.key range → high ≡ from n.key range → a ≡ count_below (k - 1) t n.left low → b ≡ count_below (k - 1) t n.right high → r ≡ a + b → r ≡ count_below k t x range
unfolding count_below ite
stored_route zero t x range e z f g l h p s q = absurd (z refl)
stored_route (suc k) t x range e z f g l h p s q = q ∙ rw (p, s, l, h, sub-one (suc k), ← e, ← f, g)

-- no count passes 64, whatever the depths are, and the sum of two is far below the word's bound
count_le : (k : ℕ) (t : Shapes) (x range : ℕ) → count_below k t x range ≤ 64
count_le k t x range = rw (← held_stored k (full t (λ _ _. 0)) x range) (below_le k (full t (λ _ _. 0)) x range)

pub stored_fits : (j k : ℕ) (t : Shapes) (x y low high : ℕ) {a b : ℕ} → a ≡ count_below j t x low → b ≡ count_below k t y high → a + b < 2 ^ 64
stored_fits j k t x y low high e f = omega (arith, count_le j t x low, count_le k t y high)

-- ---- the way of a station: n is node x as a step reads it

pub way_down : (j k : ℕ) (t : Nodes) (x s : ℕ) {n : Node} {v : Bool} {y r : ℕ} → j ≡ suc k → n ≡ shape (t x) → v ≡ is_route n.kind → v ≡ true → y ≡ child_for s n
    → depth_under j t x s ≡ r → depth_under k t y s ≡ r
unfolding depth_under ite
way_down j k t x s {n} {v} z e f g c q = let h : is_route (t x).kind ≡ true = sym (ap (λ (m : Node). is_route m.kind) e) ∙ (sym f ∙ g) in rw (c, e) (rw h at (rw z at q))

pub way_end : (k : ℕ) (t : Nodes) (x s : ℕ) {n : Node} {v : Bool} {r d : ℕ} → n ≡ shape (t x) → v ≡ is_route n.kind → v ≡ false → depth_under k t x s ≡ r → d ≡ (t x).container.depth s → d ≡ r
unfolding depth_under ite
way_end zero t x s e f g q h = h ∙ q
way_end (suc k) t x s e f g q h = let i : is_route (t x).kind ≡ false = sym (ap (λ (m : Node). is_route m.kind) e) ∙ (sym f ∙ g) in h ∙ (rw i at q)

pub way_out : (k : ℕ) (t : Nodes) (x s : ℕ) {r d : ℕ} → k ≡ 0 → depth_under k t x s ≡ r → d ≡ (t x).container.depth s → d ≡ r
unfolding depth_under
way_out k t x s z q h = h ∙ (rw z at q)

pub ruleset set_cases = (set_end, set_base, set_route)

pub ruleset stored_cases = (stored_end, stored_base, stored_route, stored_fits)
