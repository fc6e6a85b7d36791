-- The records of a version 1 file as a list, each a list of its two bytes.
use Rattle.std.specs.Prelude.{ℕ, ◌≡◌, ◌<◌, List, [], length, get_or}
use Rattle.definitions.specs.Schedule.{count_of}
use Rattle.definitions.specs.Merge.{first_byte, second_byte}

-- as many as the header states, with the file's bytes
pub record Pairs (file : List ℕ) (records : List (List ℕ)) : Type 0 where
  pub many : length records ≡ count_of file
  pub first : (k : ℕ) → k < length records → get_or (get_or records k []) 0 0 ≡ first_byte file k
  pub second : (k : ℕ) → k < length records → get_or (get_or records k []) 1 0 ≡ second_byte file k
