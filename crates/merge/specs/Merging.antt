-- What Merge does, each part an equality with the definition: the refusal, the output buffer and the part that comes back.
use Rattle.std.specs.Prelude.{ℕ, ◌≡◌, List, [], length, Result, Ok, Err}
use Rattle.std.specs.Borrow.{Bor}
use Rattle.definitions.specs.declared.Refusal.{Refusal}
use Rattle.definitions.specs.Merge.{merge_refusal, merge_report, merge_buffer, part_of}

-- `out` is the buffer before and `written` after
pub record Merging (first second out : List ℕ) (refusal : ℕ) (written part : List ℕ) : Type 0 where
  pub refused : refusal ≡ merge_refusal first second (length out)
  pub output : written ≡ merge_buffer first second out
  pub rest : part ≡ part_of first second (merge_report first second (length out))

-- the part's bytes, none on a refusal
abbrev pub rest_of : Result (Bor (List ℕ)) Refusal → List ℕ
rest_of (Ok part) = part.now
rest_of (Err k) = []
