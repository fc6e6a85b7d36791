-- The stored count is the number of ones in the set (02, c), of every bench. It needs no invariant: a route shares its range between its
-- children, so what is found below the one is apart from what is found below the other, whatever the nodes hold.
use mathlib.Core.Path.{◌≡◌, refl, sym, ◌∙◌, ap₂}
use mathlib.Core.Bool.{Bool, true, false, ◌&&◌}
use Prim.Native.Nat.{ℕ, zero, suc, ◌+◌, ◌≤◌}
use native.Mathlib.Omega.{arith}
use native.Mathlib.Decide.{dec_lt}
use Rattle.container.specs.Choice.{ite}
use Rattle.container.specs.Depths.{merge, within}
use Rattle.container.specs.Container.{all, has, cut, below, from, size}
use Rattle.container.proofs.Digits.{on, off, test}
use Rattle.container.proofs.Laws.{has_union, has_cut, below_in, below_out, from_in, from_out, size_apart, size_le}
use Rattle.definitions.specs.Nodes.{Nodes, is_route}
use Rattle.definitions.specs.Bench.{Bench}
use Rattle.definitions.specs.Tree.{held_below, tree_held, stored_below, stored}
use Rattle.definitions.specs.Stored.{Counted}

and_off : (b : Bool) → b && false ≡ false
and_off true = refl
and_off false = refl

cut_out : (c range s : ℕ) → has range s ≡ false → has (cut c range) s ≡ false
cut_out c range s h = has_cut c range s ∙ rw h (and_off (has c s))

-- ---- what is found below a node lies in the range

module _ (n : Nodes) (s : ℕ) where
  inside : (k x range : ℕ) → has range s ≡ false → has (held_below k n x range).set s ≡ false
  unfolding held_below merge within ite
  inside zero x range h = cut_out (n x).container.set range s h
  inside (suc k) x range h = elim (test (is_route (n x).kind)) [
    | on e ↦ rw e (has_union (held_below k n (n x).left (below (n x).key range)).set (held_below k n (n x).right (from (n x).key range)).set s
        ∙ rw (inside k (n x).left (below (n x).key range) in_below, inside k (n x).right (from (n x).key range) in_from))
    | off e ↦ rw e (cut_out (n x).container.set range s h)
  ]
    where
      in_below : has (below (n x).key range) s ≡ false
      in_below = elim (dec_lt s (n x).key) [ yes l ↦ below_in (n x).key range s l ∙ h | no l ↦ below_out (n x).key range s (omega arith) ]

      in_from : has (from (n x).key range) s ≡ false
      in_from = elim (dec_lt s (n x).key) [ yes l ↦ from_out (n x).key range s l | no l ↦ from_in (n x).key range s (omega arith) ∙ h ]

  -- so no station is found on both sides of a key
  apart : (k l r key range : ℕ) → has (held_below k n l (below key range)).set s && has (held_below k n r (from key range)).set s ≡ false
  apart k l r key range = elim (dec_lt s key) [
    | yes h ↦ rw (inside k r (from key range) (from_out key range s h)) (and_off (has (held_below k n l (below key range)).set s))
    | no h ↦ rw (inside k l (below key range) (below_out key range s (omega arith)))
  ]

pub below_counted : (k : ℕ) (n : Nodes) (x range : ℕ) → stored_below k n x range ≡ size (held_below k n x range).set
unfolding held_below stored_below merge within ite
below_counted zero n x range = refl
below_counted (suc k) n x range = elim (test (is_route (n x).kind)) [
  | on e ↦ rw e (ap₂ (λ (a b : ℕ). a + b) (below_counted k n (n x).left (below (n x).key range)) (below_counted k n (n x).right (from (n x).key range))
      ∙ sym (size_apart _ _ (λ s _. apart n s k (n x).left (n x).right (n x).key range)))
  | off e ↦ rw e
]

-- so the sum never passes 64, from whatever node it starts
pub below_le : (k : ℕ) (n : Nodes) (x range : ℕ) → stored_below k n x range ≤ 64
below_le k n x range = rw (below_counted k n x range) (size_le (held_below k n x range).set)

-- ---- every bench

pub counted : (b : Bench) → Counted b
unfolding stored tree_held
counted b = below_counted 63 b.store.nodes b.store.root all
