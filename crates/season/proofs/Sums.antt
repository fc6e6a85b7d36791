-- Tallies add up in any order and any grouping, an empty one adds nothing, and a number stored in a list adds that number at its place.
-- Assumes nothing.
use mathlib.Core.Path.{◌≡◌, refl, sym, ap, ◌∙◌, fun_ext}
use mathlib.Core.Logic.{◌≢◌}
use mathlib.Core.Bool.{Bool, true, false}
use mathlib.Core.List.{List}
use Prim.Native.Nat.{ℕ, max, ◌+◌, ◌/◌, ◌≤◌, ◌<◌}
use native.Mathlib.Omega.{arith}
use native.Mathlib.Decide.{ℕ_discrete}
use borrow.Author.Tests.{eq-eqb, ne_eqb}
use lib.Dec.{eqb}
use lib.ListN.{length, get_or, set, length-set}
use lib.Seq.{get_or-set_same, get_or-set_other}
use Rattle.container.specs.Choice.{ite}
use Rattle.season.specs.Tally.{Tally, empty, just, join, sum, taken, numbers}

-- ---- two numbers of a place
module _ (i : ℕ) where
  join_comm : (a b : ℕ) → join i a b ≡ join i b a
  unfolding join ite
  join_comm a b = by (eqb (i / 8) 5)
    where
      by : (c : Bool) → ite c (max a b) (a + b) ≡ ite c (max b a) (b + a)
      by true = omega arith
      by false = omega arith

  join_assoc : (a b d : ℕ) → join i (join i a b) d ≡ join i a (join i b d)
  unfolding join ite
  join_assoc a b d = by (eqb (i / 8) 5)
    where
      by : (c : Bool) → ite c (max (ite c (max a b) (a + b)) d) (ite c (max a b) (a + b) + d) ≡ ite c (max a (ite c (max b d) (b + d))) (a + ite c (max b d) (b + d))
      by true = omega arith
      by false = omega arith

  pub join_zero : (a : ℕ) → join i a 0 ≡ a
  unfolding join ite
  join_zero a = by (eqb (i / 8) 5)
    where
      by : (c : Bool) → ite c (max a 0) (a + 0) ≡ a
      by true = omega arith
      by false = omega arith

  -- a join is at most the sum
  pub join_most : (a b : ℕ) → join i a b ≤ a + b
  unfolding join ite
  join_most a b = by (eqb (i / 8) 5)
    where
      by : (c : Bool) → ite c (max a b) (a + b) ≤ a + b
      by true = omega arith
      by false = omega arith

  -- and at least the first
  pub join_least : (a b : ℕ) → a ≤ join i a b
  unfolding join ite
  join_least a b = by (eqb (i / 8) 5)
    where
      by : (c : Bool) → a ≤ ite c (max a b) (a + b)
      by true = omega arith
      by false = omega arith

-- where the larger counts, and where the sum
pub join_larger : (i a b : ℕ) → i / 8 ≡ 5 → join i a b ≡ max a b
unfolding join ite
join_larger i a b e = rw (eq-eqb (i / 8) 5 e)

pub join_sum : (i a b : ℕ) → i / 8 ≢ 5 → join i a b ≡ a + b
unfolding join ite
join_sum i a b e = rw (ne_eqb (i / 8) 5 e)

-- ---- sums of tallies

pub sum_at : (t u : Tally) (i : ℕ) → sum t u i ≡ join i (t i) (u i)
unfolding sum
sum_at t u i = refl

pub sum_comm : (t u : Tally) → sum t u ≡ sum u t
unfolding sum
sum_comm t u = fun_ext (λ i. join_comm i (t i) (u i))

pub sum_assoc : (t u v : Tally) → sum (sum t u) v ≡ sum t (sum u v)
unfolding sum
sum_assoc t u v = fun_ext (λ i. join_assoc i (t i) (u i) (v i))

pub sum_none : (t : Tally) → sum t empty ≡ t
unfolding sum
sum_none t = fun_ext (λ i. join_zero i (t i))

pub none_sum : (t : Tally) → sum empty t ≡ t
none_sum t = sum_comm empty t ∙ sum_none t

-- the second is brought to the front
pub sum_swap : (t u v : Tally) → sum t (sum u v) ≡ sum u (sum t v)
sum_swap t u v = sym (sum_assoc t u v) ∙ (ap (λ (w : Tally). sum w v) (sum_comm t u) ∙ sum_assoc u t v)

-- ---- numbers in a list

pub just_same : (i n : ℕ) → just i n i ≡ n
unfolding ite
just_same i n = rw (eq-eqb i i refl)

pub just_other : (i n j : ℕ) → j ≢ i → just i n j ≡ 0
unfolding ite
just_other i n j h = rw (ne_eqb i j (λ e. h (sym e)))

module _ (l : List ℕ) (i n v : ℕ) (in_List : i < length l) (e : v ≡ join i (get_or l i 0) n) where
  -- what is stored at place i is what was there, and n
  pub stored_is : numbers (set l i v) ≡ sum (numbers l) (just i n)
  unfolding sum
  stored_is = fun_ext at
    where
      at : (j : ℕ) → get_or (set l i v) j 0 ≡ join j (get_or l j 0) (just i n j)
      at j = elim (ℕ_discrete j i) [
        | yes q ↦ rw q (get_or-set_same l i v 0 in_List ∙ e ∙ ap (join i (get_or l i 0)) (sym (just_same i n)))
        | no q ↦ get_or-set_other l i j v 0 q ∙ sym (join_zero j (get_or l j 0)) ∙ ap (join j (get_or l j 0)) (sym (just_other i n j q))
      ]

pub more_is : (l : List ℕ) (i n : ℕ) → i < length l → i / 8 ≢ 5 → numbers (set l i (get_or l i 0 + n)) ≡ sum (numbers l) (just i n)
more_is l i n h q = stored_is l i n (get_or l i 0 + n) h (sym (join_sum i (get_or l i 0) n q))

-- the largest number
pub larger_is : (l : List ℕ) (i n v : ℕ) → i < length l → i / 8 ≡ 5 → v ≡ max (get_or l i 0) n → numbers (set l i v) ≡ sum (numbers l) (just i n)
larger_is l i n v h q e = stored_is l i n v h (e ∙ sym (join_larger i (get_or l i 0) n q))

-- ---- own steps of an operation of action a
module _ (l : List ℕ) (a n : ℕ) (low : a < 8) (long : length l ≡ 65) where
  abbrev once : List ℕ
  once = set l (32 + a) (get_or l (32 + a) 0 + n)

  once_is : numbers once ≡ sum (numbers l) (just (32 + a) n)
  once_is = more_is l (32 + a) n (omega arith) (omega arith)

  pub steps_taken : (m : ℕ) → m ≡ max (get_or once (40 + a) 0) n → numbers (set once (40 + a) m) ≡ sum (numbers l) (taken a n)
  unfolding taken
  steps_taken m e =
      larger_is once (40 + a) n m (omega (arith, length-set l (32 + a) (get_or l (32 + a) 0 + n))) (omega arith) e
      ∙ (ap (λ (t : Tally). sum t (just (40 + a) n)) once_is ∙ sum_assoc (numbers l) (just (32 + a) n) (just (40 + a) n))
