-- Laws of records taken in turns, and of those that pass a test. Assumes nothing.
use mathlib.Core.Path.{◌≡◌, refl, ap}
use mathlib.Core.Bool.{Bool, true, false}
use mathlib.Core.List.{List, [], ◌∷◌, ◌++◌, append-nil}
use Prim.Native.Nat.{ℕ, ◌+◌}
use native.Mathlib.Omega.{arith}
use lib.ListN.{length}
use Rattle.container.specs.Choice.{ite}
use Rattle.definitions.specs.Schedule.{Rec}
use Rattle.definitions.specs.Merged.{in_turns, kept}

-- ---- in turns

-- two halves of the same length, then the rest
pub turns_append : (xs ys us vs : List Rec) → length xs ≡ length ys → in_turns (xs ++ us) (ys ++ vs) ≡ in_turns xs ys ++ in_turns us vs
unfolding in_turns
turns_append [] [] us vs e = refl
turns_append [] (y ∷ ys) us vs e = absurd (omega arith)
turns_append (x ∷ xs) [] us vs e = absurd (omega arith)
turns_append (x ∷ xs) (y ∷ ys) us vs e = ap (λ (l : List Rec). x ∷ y ∷ l) (turns_append xs ys us vs (omega arith))

turns_nil : (us : List Rec) → in_turns us [] ≡ us
unfolding in_turns
turns_nil [] = refl
turns_nil (u ∷ us) = refl

-- one of them longer
module _ (xs ys us : List Rec) (e : length xs ≡ length ys) where
  pub longer_first : in_turns (xs ++ us) ys ≡ in_turns xs ys ++ us
  longer_first = rw (append-nil, turns_nil) at (turns_append xs ys us [] e)

  pub longer_second : in_turns xs (ys ++ us) ≡ in_turns xs ys ++ us
  unfolding in_turns
  longer_second = rw append-nil at (turns_append xs ys [] us e)

-- ---- those that pass a test

one : Bool → ℕ
one true = 1
one false = 0

module _ (p : Rec → Bool) where
  pub kept_append : (xs ys : List Rec) → kept p (xs ++ ys) ≡ kept p xs ++ kept p ys
  unfolding kept ite
  kept_append [] ys = refl
  kept_append (x ∷ xs) ys = by (kept_append xs ys) (p x)
    where
      by : kept p (xs ++ ys) ≡ kept p xs ++ kept p ys → (t : Bool) → ite t (x ∷ kept p (xs ++ ys)) (kept p (xs ++ ys)) ≡ ite t (x ∷ kept p xs) (kept p xs) ++ kept p ys
      by e true = ap (λ (l : List Rec). x ∷ l) e
      by e false = e

  -- none of them
  pub no_more : (x : Rec) (xs : List Rec) → kept p (x ∷ xs) ≡ [] → (p x ≡ false) × (kept p xs ≡ [])
  unfolding kept ite
  no_more x xs = by (p x)
    where
      by : (t : Bool) → ite t (x ∷ kept p xs) (kept p xs) ≡ [] → (t ≡ false) × (kept p xs ≡ [])
      by true e = let z : ◌≡◌ {A = ℕ} 0 1 = cc in absurd (omega arith)
      by false e = (refl, e)

  -- where one list has none, those of the other keep their order
  pub kept_first : (xs ys : List Rec) → kept p ys ≡ [] → kept p (in_turns xs ys) ≡ kept p xs
  unfolding in_turns kept ite
  kept_first [] ys e = e
  kept_first (x ∷ xs) [] e = refl
  kept_first (x ∷ xs) (y ∷ ys) e = let n = no_more y ys e in rw (n.0, kept_first xs ys n.1)

  pub kept_second : (xs ys : List Rec) → kept p xs ≡ [] → kept p (in_turns xs ys) ≡ kept p ys
  unfolding in_turns kept ite
  kept_second [] ys e = refl
  kept_second (x ∷ xs) [] e = e
  kept_second (x ∷ xs) (y ∷ ys) e = let n = no_more x xs e in rw (n.0, kept_second xs ys n.1)

  kept_none : length (kept p []) ≡ 0
  unfolding kept
  kept_none = refl

  kept_length : (x : Rec) (xs : List Rec) → length (kept p (x ∷ xs)) ≡ one (p x) + length (kept p xs)
  unfolding kept ite one
  kept_length x xs = by (p x)
    where
      by : (t : Bool) → length (ite t (x ∷ kept p xs) (kept p xs)) ≡ one t + length (kept p xs)
      by true = omega arith
      by false = omega arith

  -- as many as in both
  pub kept_both : (xs ys : List Rec) → length (kept p (in_turns xs ys)) ≡ length (kept p xs) + length (kept p ys)
  unfolding in_turns
  kept_both [] ys = omega (arith, kept_none)
  kept_both (x ∷ xs) [] = omega (arith, kept_none)
  kept_both (x ∷ xs) (y ∷ ys) = rw (kept_length x (y ∷ in_turns xs ys), kept_length y (in_turns xs ys), kept_length x xs, kept_length y ys) (omega (arith, kept_both xs ys))
