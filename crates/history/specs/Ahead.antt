-- What a version 1 schedule alone says of its records, for the records that Run carried out: how many start an operation, and whether a
-- thread's next record is a step.
use Rattle.std.specs.Prelude.{ℕ, zero, suc, ◌+◌, ◌*◌, ◌/◌, ◌%◌, ◌≤◌, ◌<◌, ◌≡◌, Bool, false, List, [], eqb, length, get_or}
use Rattle.container.specs.Choice.{ite}
use Rattle.definitions.specs.Schedule.{count_of}
use Rattle.definitions.specs.Merge.{first_byte, second_byte}
use Rattle.definitions.specs.Run.{ended}

-- 1 for the first byte of a start, 0 for a step's
unfoldable pub start_number : ℕ → ℕ
start_number x = ite (eqb (x % 16) 0) 0 1

-- the starts among the first k records
unfoldable pub starts_to : List ℕ → ℕ → ℕ
starts_to file zero = 0
starts_to file (suc k) = start_number (first_byte file k) + starts_to file k

-- of the records k, k + 1, .., k + j - 1 the first one of thread t is a step; no where none is its
unfoldable pub ahead : List ℕ → ℕ → ℕ → ℕ → Bool
ahead file k zero t = false
ahead file k (suc j) t = ite (eqb (first_byte file k / 16) t) (eqb (first_byte file k % 16) 0) (ahead file (suc k) j t)

-- what Run handed back for the version 1 file: the records done, two bytes each, and the rows, four bytes each
pub record Told (file : List ℕ) (records rows : List (List ℕ)) : Type 0 where
  pub version : get_or file 0 0 ≡ 1
  pub few : count_of file ≤ 4096
  pub whole : length file ≡ 3 + 2 * count_of file
  pub done : length records ≡ (ended file).done
  pub finished : length rows ≡ (ended file).finished
  pub first : (k : ℕ) → k < length records → get_or (get_or records k []) 0 0 ≡ first_byte file k
  pub second : (k : ℕ) → k < length records → get_or (get_or records k []) 1 0 ≡ second_byte file k
  pub cells : (m b : ℕ) → m < length rows → b < 4 → get_or (get_or rows m []) b 0 ≡ get_or (ended file).rows (4 * m + b) 0
