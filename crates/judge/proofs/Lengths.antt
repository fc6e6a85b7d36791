-- A list that has each number below n once, and no other, has length n. Assumes nothing.
use mathlib.Core.Path.{◌≡◌, refl, sym, ◌∙◌, subst}
use mathlib.Core.Logic.{◌≢◌}
use mathlib.Core.Bool.{Bool, true, false, cond}
use mathlib.Core.List.{List, [], ◌∷◌}
use Prim.Native.Nat.{ℕ, zero, suc, ◌+◌, ◌<◌, ◌≤◌}
use native.Mathlib.Omega.{arith}
use native.Mathlib.Decide.{dec_lt}
use lib.Dec.{eqb}
use lib.ListN.{length}
use borrow.Author.Tests.{eq-eqb, ne_eqb, lt-ltb, le-ltb}
use Rattle.definitions.specs.Judgement.{times, Each}
use Rattle.judge.proofs.Tools.{◌==?◌}

total : ℕ → List ℕ → ℕ
total zero l = 0
total (suc n) l = times n l + total n l

total_nil : (n : ℕ) → total n [] ≡ 0
unfolding total
total_nil zero = refl
total_nil (suc n) = omega (arith, total_nil n)

total_past : (n k : ℕ) (l : List ℕ) → n ≤ k → total n (k ∷ l) ≡ total n l
unfolding total
total_past zero k l h = refl
total_past (suc n) k l h = rw (ne_eqb n k (λ e. omega arith), total_past n k l (omega arith))

total_cons : (n k : ℕ) (l : List ℕ) → k < n → total n (k ∷ l) ≡ suc (total n l)
unfolding total
total_cons zero k l h = absurd (omega arith)
total_cons (suc n) k l h = elim (n ==? k) [
  | yes e ↦ subst (λ x. total (suc x) (k ∷ l) ≡ suc (total (suc x) l)) (sym e) (rw (eq-eqb k k refl, total_past k k l (omega arith)) (omega arith))
  | no e ↦ rw (ne_eqb n k e, total_cons n k l (omega arith)) (omega arith)
]

total_each : (n m : ℕ) (l : List ℕ) → n ≤ m → Each m l → total n l ≡ n
unfolding total
total_each zero m l h e = refl
total_each (suc n) m l h e = let one : times n l ≡ 1 = e n ∙ rw (lt-ltb n m (omega arith)) in omega (arith, total_each n m l (omega arith) e)

total_length : (n : ℕ) (l : List ℕ) → ((i : ℕ) → times i l ≢ 0 → i < n) → total n l ≡ length l
total_length n [] h = total_nil n
total_length n (k ∷ l) h = total_cons n k l (h k (λ z. head z)) ∙ rw (total_length n l (λ i q. h i (λ z. q (tail i (eqb i k) (times i l) z))))
  where
    head : times k (k ∷ l) ≡ 0 → ⊥
    head z = let w : suc (times k l) ≡ 0 = rw (eq-eqb k k refl) at z in omega arith

    tail : (i : ℕ) (b : Bool) (t : ℕ) → cond b (suc t) t ≡ 0 → t ≡ 0
    tail i true t z = absurd (omega arith)
    tail i false t z = z

pub each_length : (n : ℕ) (l : List ℕ) → Each n l → length l ≡ n
each_length n l e = sym (total_length n l below) ∙ total_each n n l (omega arith) e
  where
    below : (i : ℕ) → times i l ≢ 0 → i < n
    below i h = elim (dec_lt i n) [ yes q ↦ q | no q ↦ absurd (h (e i ∙ rw (le-ltb i n (omega arith)))) ]
