-- A rule of a table, proved at every entry by one test that is computed over the whole table; and that the select table has each byte's
-- entries, by that test. Assumes nothing.
use mathlib.Core.Path.{◌≡◌}
use mathlib.Core.Bool.{Bool, true, ◌&&◌}
use mathlib.Core.List.{List, [], ◌∷◌}
use Prim.Native.Nat.{ℕ, zero, suc, ◌+◌, ◌<◌}
use native.Mathlib.Omega.{arith}
use lib.Count.{ones_in}
use lib.Dec.{T, eqb}
use lib.Ieee.Fits.{and_l, and_r}
use lib.ListN.{length, get_or}
use Rattle.std.proofs.Math.Facts.{eqb_yes}
use Rattle.container.specs.Choice.{ite}
use Rattle.container.specs.Container.{has}
use Rattle.container.specs.Select.{selected, seek}
use Rattle.container.specs.declared.select.TheConstants.{ROWS}

-- ---- any table

-- the test f passes at each entry of the list and its place, counted from i
abbrev pub every : {A : Type 0} → (ℕ → A → Bool) → ℕ → List A → Bool
every f i [] = true
every f i (x ∷ xs) = f i x && every f (suc i) xs

from : {A : Type 0} (d : A) (f : ℕ → A → Bool) (xs : List A) (i k j : ℕ) → T (every f i xs) → k < length xs → j ≡ i + k → T (f j (get_or xs k d))
from d f [] i k j t h e = absurd (omega arith)
from d f (x ∷ xs) i zero j t h e = let s : j ≡ i = omega arith in rw s (and_l _ _ t)
from d f (x ∷ xs) i (suc k) j t h e = from d f xs (suc i) k j (and_r (f i x) _ t) (omega arith) (omega arith)

-- a test that every entry passes holds at entry k, whatever d would stand for none
pub at : {A : Type 0} (d : A) (f : ℕ → A → Bool) (xs : List A) → T (every f 0 xs) → (k : ℕ) → k < length xs → T (f k (get_or xs k d))
at d f xs t k h = from d f xs 0 k k t h (omega arith)

-- ---- the select table

-- x is the entry of the byte b at position p
abbrev is_entry : ℕ → ℕ → ℕ → Bool
is_entry b p x = eqb x (selected b p)

-- r is the row of the byte b
abbrev is_row : ℕ → List ℕ → Bool
is_row b r = eqb (length r) 8 && every (is_entry b) 0 r

all_rows : T (every is_row 0 ROWS)
unfolding selected seek ite has ones_in
all_rows = tt

pub entry_at : (b p : ℕ) → b < 256 → p < 8 → get_or (get_or ROWS b []) p 0 ≡ selected b p
entry_at b p h l =
    let r : List ℕ = get_or ROWS b [] in
    let t : T (is_row b r) = at [] is_row ROWS all_rows b h in
    let n : length r ≡ 8 = eqb_yes (and_l _ _ t) in
    eqb_yes (at 0 (is_entry b) r (and_r (eqb (length r) 8) _ t) p (rw n l))
