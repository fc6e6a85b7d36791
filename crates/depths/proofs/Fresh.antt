-- Numbers that are all zero, however many, hold no depth but 0. Assumes nothing.
use mathlib.Core.Path.{◌≡◌, refl, fun_ext}
use mathlib.Core.Bool.{Bool, true, false, cond}
use Prim.Native.Nat.{ℕ, zero, suc, ◌+◌, ◌*◌}
use lib.Dec.{ltb}
use lib.ListN.{get_or, replicate}
use Rattle.depths.specs.Rows.{rows}

zeros : (k i : ℕ) → get_or {A = ℕ} (replicate k 0) i 0 ≡ 0
zeros zero i = refl
zeros (suc k) zero = refl
zeros (suc k) (suc i) = zeros k i

pub blank : (k : ℕ) → rows (replicate k 0) ≡ (λ _ _. 0)
unfolding rows
blank k = fun_ext (λ j. fun_ext (λ m. rw (zeros k (j * 64 + m)) (by (ltb m 64))))
  where
    by : (t : Bool) → cond {A = ℕ} t 0 0 ≡ 0
    by true = refl
    by false = refl
