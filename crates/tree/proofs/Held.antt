-- What the walks say of the tree of the definitions: the set and the stored count are its, and the depth of a station in the set is the
-- one where it leads to. Assumes nothing.
use mathlib.Core.Path.{◌≡◌, refl, sym, ap₂, ◌∙◌}
use mathlib.Core.Bool.{Bool, true, false, ◌||◌, ◌&&◌, true≢false}
use Prim.Native.Nat.{ℕ, zero, suc, ◌+◌, ◌≤◌}
use native.Mathlib.Omega.{arith}
use native.Mathlib.Decide.{dec_lt}
use lib.Dec.{ltb}
use borrow.Author.Tests.{lt-ltb, le-ltb}
use Rattle.container.specs.Choice.{ite}
use Rattle.container.specs.Container.{has, union, cut, below, from, size}
use Rattle.container.specs.Depths.{merge, within}
use Rattle.container.proofs.Digits.{on, off, test}
use Rattle.container.proofs.Laws.{has_union, has_cut, below_in, below_out, from_in, from_out}
use Rattle.definitions.specs.Nodes.{Nodes, Shapes, shape, is_route}
use Rattle.definitions.specs.Tree.{held_below, stored_below}
use Rattle.definitions.proofs.Counted.{below_counted}
use Rattle.depths.specs.Rows.{full}
use Rattle.tree.specs.Below.{set_below, count_below, depth_under}

pub held_set : (k : ℕ) (n : Nodes) (x range : ℕ) → (held_below k n x range).set ≡ set_below k (λ y. shape (n y)) x range
unfolding held_below set_below within merge ite
held_set zero n x range = refl
held_set (suc k) n x range = elim (test (is_route (n x).kind)) [
  | on e ↦ rw e (ap₂ union (held_set k n (n x).left (below (n x).key range)) (held_set k n (n x).right (from (n x).key range)))
  | off e ↦ rw e
]

pub held_stored : (k : ℕ) (n : Nodes) (x range : ℕ) → stored_below k n x range ≡ count_below k (λ y. shape (n y)) x range
unfolding stored_below count_below
held_stored zero n x range = refl
held_stored (suc k) n x range =
    ap₂ (λ (a b : ℕ). ite (is_route (n x).kind) (a + b) (size (cut (n x).container.set range)))
    (held_stored k n (n x).left (below (n x).key range)) (held_stored k n (n x).right (from (n x).key range))

-- so the size of the set is the stored count
pub set_size : (k : ℕ) (t : Shapes) (x range : ℕ) {c n : ℕ} → c ≡ set_below k t x range → n ≡ size c → n ≡ count_below k t x range
set_size k t x range e f =
    let n : Nodes = full t (λ _ _. 0) in
    f ∙ rw e (rw (← held_set k n x range, ← held_stored k n x range) (sym (below_counted k n x range)))

or_parts : (a b : Bool) → a || b ≡ true → a ≡ false → b ≡ true
or_parts true b e f = absurd (true≢false f)
or_parts false b e f = e

and_right : (a b : Bool) → a && b ≡ true → b ≡ true
and_right true b e = e
and_right false b e = absurd (true≢false (sym e))

-- what is held lies in the range
in_range_lem : (k : ℕ) (n : Nodes) (x range s : ℕ) → has (held_below k n x range).set s ≡ true → has range s ≡ true
unfolding held_below within merge ite
in_range_lem zero n x range s e = and_right (has (n x).container.set s) (has range s) (sym (has_cut (n x).container.set range s) ∙ e)
in_range_lem (suc k) n x range s e = elim (test (is_route (n x).kind)) [
  | on i ↦ both (λ a. in_range_lem k n (n x).left (below (n x).key range) s a) (λ a. in_range_lem k n (n x).right (from (n x).key range) s a) (rw i at e)
  | off i ↦ and_right (has (n x).container.set s) (has range s) (sym (has_cut (n x).container.set range s) ∙ (rw i at e))
]
  where
    both : (has (held_below k n (n x).left (below (n x).key range)).set s ≡ true → has (below (n x).key range) s ≡ true)
        → (has (held_below k n (n x).right (from (n x).key range)).set s ≡ true → has (from (n x).key range) s ≡ true)
        → has (union (held_below k n (n x).left (below (n x).key range)).set (held_below k n (n x).right (from (n x).key range)).set) s ≡ true → has range s ≡ true
    both p q f = elim (test (has (held_below k n (n x).left (below (n x).key range)).set s)) [
      | on a ↦ (let g = p a in elim (dec_lt s (n x).key) [
        | yes l ↦ sym (below_in (n x).key range s l) ∙ g
        | no l ↦ absurd (true≢false (sym g ∙ below_out (n x).key range s (omega arith)))
      ])
      | off a ↦ (let g = q (or_parts _ _ (sym (has_union _ _ s) ∙ f) a) in elim (dec_lt s (n x).key) [
        | yes l ↦ absurd (true≢false (sym g ∙ from_out (n x).key range s l))
        | no l ↦ sym (from_in (n x).key range s (omega arith)) ∙ g
      ])
    ]

pub held_depth : (k : ℕ) (n : Nodes) (x range s : ℕ) → has (held_below k n x range).set s ≡ true → (held_below k n x range).depth s ≡ depth_under k n x s
unfolding held_below depth_under within merge ite
held_depth zero n x range s e = refl
held_depth (suc k) n x range s e = elim (test (is_route (n x).kind)) [
  | on i ↦ rw i (both (λ a. held_depth k n (n x).left (below (n x).key range) s a) (λ a. held_depth k n (n x).right (from (n x).key range) s a) (rw i at e))
  | off i ↦ rw i
]
  where
    both : (has (held_below k n (n x).left (below (n x).key range)).set s ≡ true → (held_below k n (n x).left (below (n x).key range)).depth s ≡ depth_under k n (n x).left s)
        → (has (held_below k n (n x).right (from (n x).key range)).set s ≡ true → (held_below k n (n x).right (from (n x).key range)).depth s ≡ depth_under k n (n x).right s)
        → has (union (held_below k n (n x).left (below (n x).key range)).set (held_below k n (n x).right (from (n x).key range)).set) s ≡ true
        → ite (has (held_below k n (n x).left (below (n x).key range)).set s) ((held_below k n (n x).left (below (n x).key range)).depth s)
        ((held_below k n (n x).right (from (n x).key range)).depth s)
        ≡ depth_under k n (mathlib.Core.Bool.cond (ltb s (n x).key) (n x).left (n x).right) s
    both p q f = elim (test (has (held_below k n (n x).left (below (n x).key range)).set s)) [
      | on a ↦ (let g = in_range_lem k n (n x).left (below (n x).key range) s a in elim (dec_lt s (n x).key) [
        | yes l ↦ rw (a, lt-ltb s (n x).key l) (p a)
        | no l ↦ absurd (true≢false (sym g ∙ below_out (n x).key range s (omega arith)))
      ])
      | off a ↦ (let h = or_parts _ _ (sym (has_union _ _ s) ∙ f) a in let g = in_range_lem k n (n x).right (from (n x).key range) s h in elim (dec_lt s (n x).key) [
        | yes l ↦ absurd (true≢false (sym g ∙ from_out (n x).key range s l))
        | no l ↦ (let m : (n x).key ≤ s = omega arith in rw (a, le-ltb s (n x).key m) (q h))
      ])
    ]
