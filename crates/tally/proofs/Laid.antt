-- A tally as its 65 numbers lie in memory: what is read back is the tally, and adding to the list is adding to the tally. Assumes nothing.
use mathlib.Core.Path.{◌≡◌, refl, sym, ap, ap₂, ◌∙◌}
use mathlib.Core.Bool.{Bool, true, false, ◌&&◌}
use mathlib.Core.List.{List}
use Prim.Native.Nat.{ℕ, zero, suc, ◌+◌, ◌<◌, ◌^◌}
use native.Mathlib.Omega.{arith}
use lib.Dec.{ltb}
use lib.ListN.{length, get_or}
use lib.Seq.{ext_get_or}
use Rattle.container.specs.Choice.{ite}
use Rattle.season.specs.Tally.{Tally, join, sum, file_tally, within, fits, added, add_refusal, numbers, listed, laid, tally_report, tally_numbers}

listed_length : (n i : ℕ) (t : Tally) → length (listed n i t) ≡ n
unfolding listed
listed_length zero i t = refl
listed_length (suc n) i t = ap suc (listed_length n (suc i) t)

listed_at : (n i : ℕ) (t : Tally) (j : ℕ) → j < n → get_or (listed n i t) j 0 ≡ t (i + j)
unfolding listed
listed_at zero i t j h = absurd (omega arith)
listed_at (suc n) i t zero h = ap t {x = i} {y = i + 0} (omega arith)
listed_at (suc n) i t (suc j) h = listed_at n (suc i) t j (omega arith) ∙ ap t {x = suc i + j} {y = i + suc j} (omega arith)

pub laid_length : (t : Tally) → length (laid t) ≡ 65
laid_length t = listed_length 65 0 t

pub laid_at : (t : Tally) (j : ℕ) → j < 65 → numbers (laid t) j ≡ t j
laid_at t j h = listed_at 65 0 t j h ∙ ap t {x = 0 + j} {y = j} (omega arith)

-- a list of 65 numbers is laid out from them
pub laid_list : (l : List ℕ) (t : Tally) → length l ≡ 65 → ((i : ℕ) → i < 65 → get_or l i 0 ≡ t i) → l ≡ laid t
laid_list l t n h = ext_get_or 0 l (laid t) (n ∙ sym (laid_length t)) (λ i p. h i (omega arith) ∙ sym (laid_at t i (omega arith)))

laid_same : (t u : Tally) → ((i : ℕ) → i < 65 → t i ≡ u i) → laid t ≡ laid u
laid_same t u h = laid_list (laid t) u (laid_length t) (λ i p. laid_at t i p ∙ h i p)

within_same : (n : ℕ) (t u : Tally) → ((i : ℕ) → i < n → t i ≡ u i) → within n t ≡ within n u
unfolding within
within_same zero t u h = refl
within_same (suc n) t u h = ap₂ ◌&&◌ (ap (λ x. ltb x (2 ^ 32)) (h n (omega arith))) (within_same n t u (λ i p. h i (omega arith)))

-- ---- a tally read back, and added to
module _ (t one : Tally) where
  sum_back : (i : ℕ) → i < 65 → sum (numbers (laid t)) one i ≡ sum t one i
  unfolding sum
  sum_back i h = ap (λ x. join i x (one i)) (laid_at t i h)

  fits_back : fits (sum (numbers (laid t)) one) ≡ fits (sum t one)
  fits_back = within_same 65 (sum (numbers (laid t)) one) (sum t one) sum_back

  added_back : laid (added (numbers (laid t)) one) ≡ laid (added t one)
  unfolding added ite
  added_back = rw fits_back (by (fits (sum t one)))
    where
      by : (c : Bool) → laid (ite c (sum (numbers (laid t)) one) (numbers (laid t))) ≡ laid (ite c (sum t one) t)
      by true = laid_same (sum (numbers (laid t)) one) (sum t one) sum_back
      by false = laid_same (numbers (laid t)) t (laid_at t)

  refusal_back : add_refusal (numbers (laid t)) one ≡ add_refusal t one
  unfolding add_refusal
  refusal_back = rw fits_back

pub tally_back : (file : List ℕ) (n : ℕ) (t : Tally) → tally_numbers file n (laid t) ≡ laid (added t (file_tally file n))
unfolding tally_numbers
tally_back file n t = added_back t (file_tally file n)

pub report_back : (file : List ℕ) (n : ℕ) (t : Tally) → (tally_report file n (laid t)).refusal ≡ add_refusal t (file_tally file n)
unfolding tally_report
report_back file n t = refusal_back t (file_tally file n)
