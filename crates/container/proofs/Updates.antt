-- A table with an entry replaced twice: the second stays. Assumes nothing.
use mathlib.Core.Path.{◌≡◌, refl, fun_ext}
use mathlib.Core.Bool.{Bool, true, false, cond}
use Prim.Native.Nat.{ℕ}
use lib.Dec.{eqb}
use Rattle.container.specs.Choice.{upd}

pub upd_upd : {A : Type 0} (n : ℕ → A) (i : ℕ) (a b : A) → upd (upd n i a) i b ≡ upd n i b
upd_upd {A} n i a b = fun_ext (λ j. by (eqb j i) j)
  where
    by : (t : Bool) (j : ℕ) → cond t b (cond t a (n j)) ≡ cond t b (n j)
    by true j = refl
    by false j = refl
