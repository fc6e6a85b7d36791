-- The form of the tables of tallies: files with their row buffers, and the numbers of a tally. Assumes nothing.
use Prim.Native.Nat.{ℕ, ◌+◌, ◌*◌, ◌/◌, ◌%◌}
use mathlib.Core.List.{List, [], ◌∷◌}
use lib.ListN.{length, replicate, set}
use Rattle.season.specs.Tally.{Field, starts, yes, no, unfinished, steps, largest, place, refusal_place}

-- a file, and the length of the row buffer that its run is lent
pub record Case : Type 0 where
  pub file : List ℕ
  pub room : ℕ

-- a file of these records with a row buffer as long as it asks for, of version 1, of version 2 and of version 3
abbrev pub plain : List ℕ → Case
plain records = record { file = 1 ∷ (length records / 2 / 256) ∷ (length records / 2 % 256) ∷ records; room = length records }

abbrev pub wider : ℕ → List ℕ → Case
wider version records = record { file = version ∷ (length records / 4 / 256) ∷ (length records / 4 % 256) ∷ records; room = length records / 4 * 7 }

abbrev pub deep : List ℕ → Case
deep records = wider 2 records

abbrev pub stopping : List ℕ → Case
stopping records = wider 3 records

-- a number of a tally: of a field of an action, of a refusal, at a place; every other is 0
pub record Entry : Type 0 where
  pub at : ℕ
  pub count : ℕ

abbrev pub of : Field → ℕ → ℕ → Entry
of f a n = record { at = place f a; count = n }

abbrev pub refusal : ℕ → ℕ → Entry
refusal k n = record { at = refusal_place k; count = n }

abbrev pub filled : List Entry → List ℕ
filled [] = replicate 65 0
filled (e ∷ es) = set (filled es) e.at e.count

-- operations of action a that took n own steps in all, m at most: so many said yes and so many no
abbrev pub row : ℕ → ℕ → ℕ → ℕ → ℕ → List Entry
row a y n s m = of starts a (y + n) ∷ of yes a y ∷ of no a n ∷ of steps a s ∷ of largest a m ∷ []

-- of action a one is unfinished, and none has an answer
abbrev pub left_over : ℕ → List Entry
left_over a = of starts a 1 ∷ of unfinished a 1 ∷ []

-- what one file adds
pub record Single : Type 0 where
  pub asks : Case
  pub adds : List Entry

infix 1 ◌⊢>◌
abbrev pub ◌⊢>◌ : Case → List Entry → Single
c ⊢> es = record { asks = c; adds = es }

-- the largest number of 32 bits
abbrev pub most : ℕ
most = 4294967295
