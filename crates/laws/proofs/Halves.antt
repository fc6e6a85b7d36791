-- Request m's laws of containers, from those of crate container.
use mathlib.Core.Path.{◌≡◌, refl, ◌∙◌, ap, fun_ext}
use mathlib.Core.Bool.{Bool, true, false, ◌||◌}
use Prim.Native.Nat.{ℕ, ◌/◌, ◌<◌}
use native.Mathlib.Decide.{dec_lt}
use native.Mathlib.Omega.{arith}
use Rattle.container.specs.Choice.{ite}
use Rattle.container.specs.Container.{has, union, size, drop_least, lower_half, upper_half}
use Rattle.container.specs.Depths.{Container, container, merge, lower, upper}
use Rattle.container.proofs.Laws.{has_none, has_union, ext_all}
use Rattle.container.proofs.DepthLaws.{halves, merge_assoc}
use Rattle.laws.specs.Laws.{HalvesJoin, GroupsJoin}

pub groups_join : GroupsJoin
groups_join = merge_assoc

-- with fewer than two stations the lower half is empty
small_upper : (c : ℕ) → size c < 2 → upper_half c ≡ c
unfolding upper_half drop_least
small_upper c h = ap (λ n. drop_least n c) (none (size c) h)
  where
    none : (n : ℕ) → n < 2 → n / 2 ≡ 0
    none n h = omega arith

small_lower : (c : ℕ) → size c < 2 → lower_half c ≡ 0
unfolding lower_half
small_lower c h = rw (small_upper c h) (omega arith)

small_set : (c : ℕ) → size c < 2 → union (lower_half c) (upper_half c) ≡ c
small_set c h = rw (small_upper c h, small_lower c h) (ext_all _ _ (λ s. has_union 0 c s ∙ ap (λ v. v || has c s) (has_none s)))

both : (b : Bool) (d : ℕ) → ite b d d ≡ d
unfolding ite
both true d = refl
both false d = refl

-- a split takes a container with two stations at least; the law holds of all
lower_upper : (c : Container) → merge (lower c) (upper c) ≡ c
unfolding merge lower upper
lower_upper c = elim (dec_lt (size c.set) 2) [
  | yes h ↦ rw (small_set c.set h) (ap (λ (d : ℕ → ℕ). container c.set d) (fun_ext (λ s. both (has (lower_half c.set) s) (c.depth s))))
  | no h ↦ halves c (omega arith)
]

or_comm : (a b : Bool) → a || b ≡ b || a
or_comm true true = refl
or_comm true false = refl
or_comm false true = refl
or_comm false false = refl

union_comm : (a b : ℕ) → union a b ≡ union b a
union_comm a b = ext_all (union a b) (union b a) (λ s. rw (has_union a b s, has_union b a s) (or_comm (has a s) (has b s)))

-- both halves keep every depth, so the order does not matter
either_first : (c : Container) → merge (upper c) (lower c) ≡ merge (lower c) (upper c)
unfolding merge lower upper
either_first c = rw (union_comm (upper_half c.set) (lower_half c.set)) (ap (λ (d : ℕ → ℕ). container (union (lower_half c.set) (upper_half c.set)) d)
    (fun_ext (λ s. rw (both (has (upper_half c.set) s) (c.depth s), both (has (lower_half c.set) s) (c.depth s)))))

pub halves_join : HalvesJoin
halves_join c = (lower_upper c, either_first c ∙ lower_upper c)
