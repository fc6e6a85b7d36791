-- What each function stores and returns, one law for each way out, over the numbers that the code computes. Assumes nothing.
use mathlib.Core.Path.{◌≡◌, refl, sym, ap, ◌∙◌, fun_ext}
use mathlib.Core.Bool.{true, false, and-false}
use mathlib.Core.List.{List}
use Prim.Native.Nat.{ℕ, zero, suc, ◌+◌, ◌^◌, ◌≤◌, ◌<◌}
use native.Mathlib.Omega.{arith}
use native.Mathlib.Decide.{ℕ_discrete, dec_lt}
use borrow.Author.Tests.{eq-eqb, ne_eqb, lt-ltb, le-ltb}
use lib.Dec.{ltb}
use Rattle.std.specs.Int.Bits.{bit_or}
use Rattle.std.proofs.lemmas.Nat.{le_or_l, le_or_r}
use lib.ListN.{length, get_or, set, length-set, get_or-eq_default}
use lib.Seq.{get_or-set_same, get_or-set_other}
use Rattle.container.specs.Choice.{ite}
use Rattle.season.specs.Tally.{Tally, join, sum, refused_once, within, fits, numbers}
use Rattle.season.proofs.Sums.{join_zero, sum_at, sum_none, more_is}

-- ---- a refusal
pub refusal_none : (l : List ℕ) (k : ℕ) → k ≡ 0 → numbers l ≡ sum (numbers l) (refused_once k)
unfolding refused_once ite
refusal_none l k e = rw (eq-eqb k 0 e) (sym (sum_none (numbers l)))

pub refusal_one : (l : List ℕ) (k : ℕ) → k < 17 → length l ≡ 65 → (k ≡ 0 → ⊥) → numbers (set l (48 + k) (get_or l (48 + k) 0 + 1)) ≡ sum (numbers l) (refused_once k)
unfolding refused_once ite
refusal_one l k h n z = rw (ne_eqb k 0 z) (more_is l (48 + k) 1 (omega arith) (omega arith))

-- ---- within 32 bits
pub within_all : (n : ℕ) (t : Tally) → ((i : ℕ) → i < n → t i < 4294967296) → true ≡ within n t
unfolding within
within_all zero t h = refl
within_all (suc n) t h = rw (lt-ltb (t n) (2 ^ 32) (h n (omega arith)), ← within_all n t (λ i l. h i (omega arith)))

pub within_past : (n : ℕ) (t : Tally) (i : ℕ) → i < n → 4294967296 ≤ t i → false ≡ within n t
unfolding within
within_past zero t i h l = absurd (omega arith)
within_past (suc n) t i h l = elim (ℕ_discrete i n) [
  | yes q ↦ rw (le-ltb (t n) (2 ^ 32) (rw (← q) l))
  | no q ↦ rw (← within_past n t i (omega arith) l) (sym (and-false (ltb (t n) (2 ^ 32))))
]

-- ---- the bits of the first numbers together are at least each of them
pub or_most : (l : List ℕ) (n v : ℕ) → ((j : ℕ) → j < n → get_or l j 0 ≤ v) → (j : ℕ) → j < n + 1 → get_or l j 0 ≤ bit_or v (get_or l n 0)
or_most l n v h j p = elim (ℕ_discrete j n) [ yes q ↦ rw q (le_or_r v (get_or l n 0)) | no q ↦ omega (arith, h j (omega arith), le_or_l v (get_or l n 0)) ]

-- ---- the sum of two tallies, as far as place i
pub record Added (i : ℕ) (one two both : List ℕ) : Type 0 where
  pub long : length both ≡ 65
  pub done : (j : ℕ) → j < i → get_or both j 0 ≡ sum (numbers one) (numbers two) j
  pub fits : (j : ℕ) → j < i → sum (numbers one) (numbers two) j < 4294967296

module _ (one two both : List ℕ) (i : ℕ) where
  module _ (a : Added i one two both) (v : ℕ) (h : i < 65) (e : v ≡ join i (get_or one i 0) (get_or two i 0)) where
    v_is : v ≡ sum (numbers one) (numbers two) i
    v_is = e ∙ sym (sum_at (numbers one) (numbers two) i)

    pub added_next : v < 4294967296 → Added (i + 1) one two (set both i v)
    added_next low = record {
      long = length-set both i v ∙ a.long;
      done = λ j l. elim (ℕ_discrete j i) [
        | yes q ↦ rw q (get_or-set_same both i v 0 (omega (arith, a.long)) ∙ v_is)
        | no q ↦ get_or-set_other both i j v 0 q ∙ a.done j (omega arith)
      ];
      fits = λ j l. elim (ℕ_discrete j i) [ yes q ↦ rw q (rw (← v_is) low) | no q ↦ a.fits j (omega arith) ];
    }

    pub added_past : 4294967296 ≤ v → fits (sum (numbers one) (numbers two)) ≡ false
    added_past l = sym (within_past 65 (sum (numbers one) (numbers two)) i h (rw (← v_is) l))

  module _ (a : Added i one two both) (h : 65 ≤ i) where
    pub added_fits : fits (sum (numbers one) (numbers two)) ≡ true
    added_fits = sym (within_all 65 (sum (numbers one) (numbers two)) (λ j l. a.fits j (omega arith)))

    pub added_all : length one ≡ 65 → length two ≡ 65 → numbers both ≡ sum (numbers one) (numbers two)
    added_all m n = fun_ext (λ j. by j (dec_lt j 65))
      where
        by : (j : ℕ) → Dec (j < 65) → get_or both j 0 ≡ sum (numbers one) (numbers two) j
        by j (yes q) = a.done j (omega arith)
        by j (no q) =
            get_or-eq_default both 0 (omega (arith, a.long))
            ∙ (sym (join_zero j 0)
            ∙ (ap (join j 0) (sym (get_or-eq_default two 0 (omega arith)))
            ∙ (ap (λ (x : ℕ). join j x (get_or two j 0)) (sym (get_or-eq_default one 0 (omega arith))) ∙ sym (sum_at (numbers one) (numbers two) j))))
