-- The form of a case of version 2 files (02, requests a and b): files, rows and runs, for the tables of DepthRuns.antt and those after it. Assumes nothing.
use Prim.Native.Nat.{ℕ, zero, suc, ◌+◌, ◌*◌, ◌/◌, ◌%◌, ◌-◌}
use Prim.Native.String.{String}
use mathlib.Core.List.{List, [], ◌∷◌, ◌++◌}
use lib.ListN.{length}
use Rattle.definitions.proofs.Cases.{Lookup, Insert, Split, Case, report, word, nothing}

-- ---- files: "records of four bytes: the old two, then the depth, big-endian"

abbrev pub steps : ℕ → ℕ → List ℕ
steps t zero = []
steps t (suc k) = (16 * t) ∷ 0 ∷ 0 ∷ 0 ∷ steps t k

-- a start record of thread t with its last two bytes, then k of its steps
abbrev pub start : ℕ → ℕ → ℕ → ℕ → ℕ → List ℕ
start t action station extra k = (16 * t + action) ∷ station ∷ (extra / 256) ∷ (extra % 256) ∷ steps t k

abbrev pub op : ℕ → ℕ → ℕ → ℕ → List ℕ
op t action station k = start t action station 0 k

-- ---- "Rows become 14 bytes: the old four, then, big-endian, two of depth [..] and eight of set (0 here [..])"

abbrev pub says : ℕ → ℕ → ℕ → ℕ → List ℕ
says t action station answer = t ∷ action ∷ station ∷ answer ∷ 0 ∷ 0 ∷ 0 ∷ 0 ∷ 0 ∷ 0 ∷ 0 ∷ 0 ∷ 0 ∷ 0 ∷ []

-- a lookup's yes
abbrev pub finds : ℕ → ℕ → ℕ → List ℕ
finds t station depth = t ∷ Lookup ∷ station ∷ 1 ∷ (depth / 256) ∷ (depth % 256) ∷ 0 ∷ 0 ∷ 0 ∷ 0 ∷ 0 ∷ 0 ∷ 0 ∷ 0 ∷ []

-- "action 6 [..], from the station to the upper end in the last two bytes"
abbrev pub Range : ℕ
Range = 6

-- "The row carries the set found, depth 0, and answer 1 if that set has a station"; the sets here have no station over 15
abbrev pub found : ℕ → ℕ → List ℕ → List ℕ
found t station set = t ∷ Range ∷ station ∷ 1 ∷ 0 ∷ 0 ∷ 0 ∷ 0 ∷ 0 ∷ 0 ∷ 0 ∷ 0 ∷ (word set / 256) ∷ (word set % 256) ∷ []

-- ---- cases

abbrev pub schedule : ℕ → List ℕ → List ℕ
schedule version records = version ∷ (length records / 4 / 256) ∷ (length records / 4 % 256) ∷ records

-- the records before the last are carried out, and it is not where k is not 0: "the buffer needs 7 × count", "List refuses a buffer under 8,192 bytes"
abbrev pub ending : ℕ → ℕ → ℕ → List ℕ → List ℕ → List ℕ → ℕ → ℕ → List String → Case
ending version k done records rows set held used text = record {
  file = schedule version records;
  buffer = 7 * (length records / 4);
  gives = report k done (length rows / 14) (word set) held used;
  rows = rows;
  text = 8192;
  refusal = k;
  lists = text;
}

-- a run with no record refused: rows, set, stored, used, listing
abbrev pub run : ℕ → List ℕ → List ℕ → List ℕ → ℕ → ℕ → List String → Case
run version records rows set held used text = ending version 0 (length records / 4) records rows set held used text

-- a run on a tree still empty whose last record is refused with k
abbrev pub refusing : ℕ → ℕ → List ℕ → Case
refusing version k records = ending version k (length records / 4 - 1) records [] [] 0 1 nothing

-- a file refused with k, by List too
abbrev pub faulty : ℕ → List ℕ → Case
faulty k file = record { file = file; buffer = 16; gives = report k 0 0 0 0 0; rows = []; text = 8192; refusal = k; lists = [] }

-- t0 inserts 3 at 640 and 9 at 9999 and splits
abbrev pub deep_run : List ℕ
deep_run = start 0 Insert 3 640 3 ++ start 0 Insert 9 9999 3 ++ op 0 Split 3 3

abbrev pub deep_rows : List ℕ
deep_rows = says 0 Insert 3 1 ++ says 0 Insert 9 1 ++ says 0 Split 3 1
