-- What Merge hands back for every two files and every output buffer (02, e, "Two schedules into one").
use Rattle.std.specs.Prelude.{ℕ, zero, suc, ◌+◌, ◌-◌, ◌*◌, ◌/◌, ◌%◌, min, List, [], ◌∷◌, ◌++◌, eqb, ltb, length, get_or, take, drop}
use Rattle.container.specs.Choice.{ite}
use Rattle.definitions.specs.Schedule.{count_of, file_refusal}
use Rattle.definitions.specs.Run.{overlay}

-- the bytes of record k of a version 1 file, counted from 0
abbrev pub first_byte : List ℕ → ℕ → ℕ
first_byte file k = get_or file (3 + 2 * k) 0

abbrev pub second_byte : List ℕ → ℕ → ℕ
second_byte file k = get_or file (4 + 2 * k) 0

-- ---- the refusals

-- "with 1 to 4 (2 for any version but 1)"; 0 for none
unfoldable pub fault : List ℕ → ℕ
fault file = ite (ltb (length file) 3) 1 (ite (eqb (get_or file 0 0) 1) (file_refusal file) 2)

-- "the first for threads 0 and 1 only, the second for 2 and 3 only", "a thread not its file's with 17": of the first k records of
-- file f, where f is 0 for the first file and 1 for the second; 0 for none
unfoldable pub foreign : ℕ → List ℕ → ℕ → ℕ
foreign f file zero = 0
foreign f file (suc k) = ite (eqb (first_byte file k / 16 / 2) f) (foreign f file k) 17

-- "The merged header counts all records of both files"
abbrev pub total : List ℕ → List ℕ → ℕ
total first second = count_of first + count_of second

-- "the smaller count"
abbrev pub smaller : List ℕ → List ℕ → ℕ
smaller first second = min (count_of first) (count_of second)

-- "the output needs 3 + 4 × the smaller count bytes"
abbrev pub needed : List ℕ → List ℕ → ℕ
needed first second = 3 + 4 * smaller first second

-- "in this order": the first refusal that is not 0
unfoldable pub first_of : List ℕ → ℕ
first_of [] = 0
first_of (k ∷ ks) = ite (eqb k 0) (first_of ks) k

-- "a fault in the first file, then in the second, with 1 to 4 (2 for any version but 1), a thread not its file's with 17, counts that
-- total over 4,096 with 3, and a short output buffer with 18"; n is the buffer's length
unfoldable pub merge_refusal : List ℕ → List ℕ → ℕ → ℕ
merge_refusal first second n =
    first_of
    (fault first
    ∷ fault second
    ∷ foreign 0 first (count_of first)
    ∷ foreign 1 second (count_of second)
    ∷ ite (ltb 4096 (total first second)) 3 0
    ∷ ite (ltb n (needed first second)) 18 0
    ∷ [])

-- ---- the part that comes back

-- what Merge gives beside the output's bytes: the refusal, 0 for none, and the part: its file (0 the first, 1 the second), the byte at
-- which it begins there, and its length
pub record Merged : Type 0 where
  pub refusal : ℕ
  pub file : ℕ
  pub start : ℕ
  pub length : ℕ

-- "the records left over in the longer one come back as a part of that file"; "For equal counts the part is the empty end of the first file"
abbrev pub left_over : List ℕ → List ℕ → Merged
left_over first second =
    ite (ltb (count_of first) (count_of second))
    (record { refusal = 0; file = 1; start = 3 + 2 * count_of first; length = 2 * (count_of second - count_of first) })
    (record { refusal = 0; file = 0; start = 3 + 2 * count_of second; length = 2 * (count_of first - count_of second) })

-- "on a refusal its empty start"
unfoldable pub merge_report : List ℕ → List ℕ → ℕ → Merged
merge_report first second n =
    ite (eqb (merge_refusal first second n) 0)
    (left_over first second)
    (record { refusal = merge_refusal first second n; file = 0; start = 0; length = 0 })

-- the part's bytes
unfoldable pub part_of : List ℕ → List ℕ → Merged → List ℕ
part_of first second m = take m.length (drop m.start (ite (eqb m.file 0) first second))

-- ---- the output

-- "records are taken in turns, first file first": the first k of each file
unfoldable pub turns : List ℕ → List ℕ → ℕ → List ℕ
turns first second zero = []
turns first second (suc k) =
    turns first second k ++ first_byte first k ∷ second_byte first k ∷ first_byte second k ∷ second_byte second k ∷ []

-- "The merged header counts all records of both files": version byte 1, two-byte big-endian count; then the records
unfoldable pub merge_bytes : List ℕ → List ℕ → List ℕ
merge_bytes first second = 1 ∷ total first second / 256 ∷ total first second % 256 ∷ turns first second (smaller first second)

-- "bytes after those are untouched"; on a refusal "nothing written"
unfoldable pub merge_buffer : List ℕ → List ℕ → List ℕ → List ℕ
merge_buffer first second out = ite (eqb (merge_refusal first second (length out)) 0) (overlay (merge_bytes first second) out) out
