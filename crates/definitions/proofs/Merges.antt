-- Merges worked out by hand from 02, e, shown of the definitions: one table that a single theorem covers. Each case has two files, the
-- length of an output buffer, and all that Merge hands back for them. Assumes nothing.
use Prim.Native.Nat.{ℕ, ◌/◌, ◌%◌}
use mathlib.Core.Path.{◌≡◌, refl}
use mathlib.Core.List.{List, [], ◌∷◌, map}
use lib.ListN.{length, replicate}
use Rattle.container.specs.Choice.{ite}
use Rattle.definitions.specs.Schedule.{count_of, file_refusal}
use Rattle.definitions.specs.Merge.{fault, foreign, first_of, merge_refusal, Merged, merge_report, part_of, turns, merge_bytes, merge_buffer}

record Case : Type 0 where
  first : List ℕ
  second : List ℕ
  room : ℕ

record Outcome : Type 0 where
  report : Merged
  out : List ℕ
  part : List ℕ

-- ---- the cases

-- the file of these records
abbrev file : List ℕ → List ℕ
file records = 1 ∷ (length records / 2 / 256) ∷ (length records / 2 % 256) ∷ records

abbrev of : List ℕ → List ℕ → ℕ → Case
of first second room = record { first = first; second = second; room = room }

-- a byte of the buffer before the call
abbrev old : ℕ
old = 170

abbrev gives : ℕ → ℕ → ℕ → List ℕ → List ℕ → Outcome
gives f start n out part = record { report = record { refusal = 0; file = f; start = start; length = n }; out = out; part = part }

abbrev refuses : ℕ → List ℕ → Outcome
refuses k out = record { report = record { refusal = k; file = 0; start = 0; length = 0 }; out = out; part = [] }

-- thread 0 inserts 9 and steps, thread 1 looks 5 up; thread 3 inserts 7 and steps, thread 2 removes 9
abbrev one : List ℕ
one = file (2 ∷ 9 ∷ 0 ∷ 0 ∷ 17 ∷ 5 ∷ [])

abbrev other : List ℕ
other = file (50 ∷ 7 ∷ 48 ∷ 0 ∷ 35 ∷ 9 ∷ [])

record Row : Type 0 where
  asks : Case
  promised : Outcome

infix 1 ◌⊢>◌
abbrev ◌⊢>◌ : Case → Outcome → Row
c ⊢> o = record { asks = c; promised = o }

abbrev table : List Row
table =
    -- equal counts: the empty end of the first file
    (of (file []) (file []) 3 ⊢> gives 0 3 0 (1 ∷ 0 ∷ 0 ∷ []) [])
    ∷ (of one other 15 ⊢> gives 0 9 0 (1 ∷ 0 ∷ 6 ∷ 2 ∷ 9 ∷ 50 ∷ 7 ∷ 0 ∷ 0 ∷ 48 ∷ 0 ∷ 17 ∷ 5 ∷ 35 ∷ 9 ∷ []) [])
    -- the first is longer, and the buffer has bytes to spare
    ∷ (of one (file (32 ∷ 0 ∷ [])) 9 ⊢> gives 0 5 4 (1 ∷ 0 ∷ 4 ∷ 2 ∷ 9 ∷ 32 ∷ 0 ∷ old ∷ old ∷ []) (0 ∷ 0 ∷ 17 ∷ 5 ∷ []))
    ∷ (of one (file []) 3 ⊢> gives 0 3 6 (1 ∷ 0 ∷ 3 ∷ []) (2 ∷ 9 ∷ 0 ∷ 0 ∷ 17 ∷ 5 ∷ []))
    -- the second is longer
    ∷ (of (file (31 ∷ 255 ∷ [])) other 8 ⊢> gives 1 5 4 (1 ∷ 0 ∷ 4 ∷ 31 ∷ 255 ∷ 50 ∷ 7 ∷ old ∷ []) (48 ∷ 0 ∷ 35 ∷ 9 ∷ []))
    ∷ (of (file []) other 3 ⊢> gives 1 3 6 (1 ∷ 0 ∷ 3 ∷ []) (50 ∷ 7 ∷ 48 ∷ 0 ∷ 35 ∷ 9 ∷ []))
    -- "a fault in the first file, then in the second, with 1 to 4 (2 for any version but 1)"
    ∷ (of (1 ∷ 0 ∷ []) (2 ∷ 0 ∷ 0 ∷ []) 1 ⊢> refuses 1 (old ∷ []))
    ∷ (of (0 ∷ 0 ∷ 0 ∷ []) [] 1 ⊢> refuses 2 (old ∷ []))
    ∷ (of (1 ∷ 16 ∷ 1 ∷ []) [] 0 ⊢> refuses 3 [])
    ∷ (of (1 ∷ 0 ∷ 1 ∷ 0 ∷ []) [] 0 ⊢> refuses 4 [])
    ∷ (of one [] 3 ⊢> refuses 1 (old ∷ old ∷ old ∷ []))
    ∷ (of one (2 ∷ 0 ∷ 0 ∷ []) 3 ⊢> refuses 2 (old ∷ old ∷ old ∷ []))
    ∷ (of other (3 ∷ 0 ∷ 0 ∷ []) 0 ⊢> refuses 2 [])
    ∷ (of one (1 ∷ 255 ∷ 255 ∷ []) 0 ⊢> refuses 3 [])
    ∷ (of one (1 ∷ 0 ∷ 0 ∷ 0 ∷ []) 0 ⊢> refuses 4 [])
    -- "a thread not its file's with 17"
    ∷ (of (file (0 ∷ 0 ∷ 32 ∷ 0 ∷ [])) other 99 ⊢> refuses 17 (replicate 99 old))
    ∷ (of one (file (32 ∷ 0 ∷ 31 ∷ 0 ∷ [])) 0 ⊢> refuses 17 [])
    ∷ (of (file []) (file (64 ∷ 0 ∷ [])) 3 ⊢> refuses 17 (old ∷ old ∷ old ∷ []))
    -- "a short output buffer with 18"
    ∷ (of one other 14 ⊢> refuses 18 (replicate 14 old))
    ∷ (of (file []) (file []) 2 ⊢> refuses 18 (old ∷ old ∷ []))
    ∷ []

-- ---- what the definitions say

abbrev outcome : Row → Outcome
outcome r = let c = r.asks in record {
  report = merge_report c.first c.second c.room;
  out = merge_buffer c.first c.second (replicate c.room old);
  part = part_of c.first c.second (merge_report c.first c.second c.room);
}

-- every `unfoldable` name on the way stands on the line: one that is missing would leave a case stuck
pub merges : map outcome table ≡ map (λ r. r.promised) table
unfolding count_of file_refusal fault foreign first_of merge_refusal merge_report part_of turns merge_bytes merge_buffer ite
merges = refl
