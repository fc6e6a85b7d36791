-- Averages worked out by hand from 02, f, shown of the definitions, as one table. Assumes nothing.
use Prim.Native.Nat.{ℕ}
use mathlib.Core.Path.{◌≡◌, refl}
use mathlib.Core.List.{List, [], ◌∷◌, map}
use Rattle.container.specs.Choice.{ite}
use Rattle.season.specs.Tally.{yes, no, steps}
use Rattle.season.specs.Season.{euclid, gcd, ratio, average, average_of}
use Rattle.season.specs.declared.Average.{Average}
use Rattle.season.proofs.Cases.{Entry, of, filled, row, left_over, most}

record Averaging : Type 0 where
  tally : List Entry
  action : ℕ
  gives : Average

abbrev averaging : List Entry → ℕ → ℕ → ℕ → Averaging
averaging l a s n = record { tally = l; action = a; gives = ratio s n }

abbrev averagings : List Averaging
averagings =
    -- in lowest terms; none finished; no action's number; 33 bits before it is reduced
    averaging (row 2 1 0 3 3) 2 3 1
    ∷ averaging (row 2 2 2 6 3) 2 3 2
    ∷ averaging (row 5 3 4 30 9) 5 30 7
    ∷ averaging (row 2 1 0 3 3) 1 0 1
    ∷ averaging (left_over 2) 2 0 1
    ∷ averaging (row 6 4 0 10 4) 6 5 2
    ∷ averaging (row 0 1 0 3 3) 0 0 1
    ∷ averaging (row 7 1 0 3 3) 7 0 1
    ∷ averaging (of steps 1 most ∷ of yes 1 most ∷ of no 1 most ∷ []) 1 1 2
    ∷ averaging (of steps 1 most ∷ of yes 1 most ∷ of no 1 1 ∷ []) 1 most 4294967296
    ∷ []

averages : map (λ (c : Averaging). average_of (filled c.tally) c.action) averagings ≡ map (λ (c : Averaging). c.gives) averagings
unfolding average_of average gcd euclid ite
averages = refl
