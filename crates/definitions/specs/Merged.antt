-- What is shown of Merge for every two files that are not refused (02, e): "each thread's records keep their order and none is lost or
-- added". It speaks of the merged file: what was written, followed by the part that came back. The proof is in crate merge.
use Rattle.std.specs.Prelude.{ℕ, ◌+◌, ◌*◌, ◌/◌, ◌≤◌, ◌≡◌, ◌⊎◌, Bool, List, [], ◌∷◌, ◌++◌, eqb, ltb, length, take, drop}
use Rattle.container.specs.Choice.{ite}
use Rattle.definitions.specs.Schedule.{Rec, count_of, file_refusal, records_of}
use Rattle.definitions.specs.Run.{ended, report_of, run_report}
use Rattle.definitions.specs.Merge.{fault, needed, merge_refusal, merge_report, merge_buffer, part_of}

-- the merged file: the bytes that the output needs, then the part, "for the caller to append"
abbrev pub merged_file : List ℕ → List ℕ → List ℕ → List ℕ
merged_file first second out = take (needed first second) (merge_buffer first second out) ++ part_of first second (merge_report first second (length out))

-- all records of a file, in order
abbrev pub all_of : List ℕ → List Rec
all_of file = records_of file (count_of file)

-- "records are taken in turns, first file first", then "the records left over in the longer one"
unfoldable pub in_turns : List Rec → List Rec → List Rec
in_turns [] ys = ys
in_turns (x ∷ xs) [] = x ∷ xs
in_turns (x ∷ xs) (y ∷ ys) = x ∷ y ∷ in_turns xs ys

-- the records that pass a test, in order
unfoldable pub kept : (Rec → Bool) → List Rec → List Rec
kept p [] = []
kept p (r ∷ rs) = ite (p r) (r ∷ kept p rs) (kept p rs)

-- 01, "First byte: 16 × thread + action": the test for thread t
abbrev pub is_of : ℕ → Rec → Bool
is_of t r = eqb (r.first / 16) t

-- what holds of the merged file, and of the output buffer before and after
pub record MergedRight (first second file out after : List ℕ) : Type 0 where
  -- it is a version 1 file without a fault; "The merged header counts all records of both files"
  pub plain : fault file ≡ 0
  pub proper : file_refusal file ≡ 0
  pub count : count_of file ≡ count_of first + count_of second
  -- whole: the two lists of records taken in turns
  pub records : all_of file ≡ in_turns (all_of first) (all_of second)
  -- "each thread's records keep their order": they are, in order, those of its own file, the first for threads 0 and 1
  pub threads : (t : ℕ) → kept (is_of t) (all_of file) ≡ kept (is_of t) (all_of (ite (ltb t 2) first second))
  -- "none is lost or added": by any test there are as many as in both files
  pub same : (p : Rec → Bool) → length (kept p (all_of file)) ≡ length (kept p (all_of first)) + length (kept p (all_of second))
  -- Run accepts it with none of the refusals 1 to 4, n being the length of the row buffer; with room for the rows it carries the records out
  pub accepted : (n : ℕ) → ((run_report file n).refusal ≡ 0) ⊎ (5 ≤ (run_report file n).refusal)
  pub carried : (n : ℕ) → 2 * (count_of first + count_of second) ≤ n → run_report file n ≡ report_of (ended file)
  -- "bytes after those are untouched"
  pub untouched : drop (needed first second) after ≡ drop (needed first second) out
  pub long : length after ≡ length out

abbrev pub MergeRule : Type 0
MergeRule = (first second out : List ℕ) → merge_refusal first second (length out) ≡ 0 → MergedRight first second (merged_file first second out) out (merge_buffer first second out)
