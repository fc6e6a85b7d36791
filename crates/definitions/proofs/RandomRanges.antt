-- Random schedules of 300 records that stand on every place from 60 to 82, shown of the definitions against a model in C++: every row
-- with its answer (2 to 6 too) and its set, the listing, numbers and stores used, and each thread's place at the end. From 3 they go to 1, 16, 40, 60.
use Prim.Native.Nat.{ℕ, ◌/◌}
use Prim.Native.Char.{code}
use Prim.Native.String.{String, [] as over, ◌∷◌ as ◌then◌}
use mathlib.Core.Path.{◌≡◌, refl}
use mathlib.Core.Bool.{false}
use mathlib.Core.List.{List, [], ◌∷◌, ◌++◌}
use lib.Count.{ones_in, count_trailing_zeros}
use Rattle.container.specs.Choice.{ite}
use Rattle.container.specs.Container.{has, insert, remove, union, cut, below, from, size, least, drop_least, upper_half, lower_half, split_key}
use Rattle.container.specs.Depths.{put, take_out, merge, within, lower, upper}
use Rattle.definitions.specs.Nodes.{check, replaceable}
use Rattle.definitions.specs.Bench.{Bench, fresh}
use Rattle.definitions.specs.Frames.{between, reaches, adding, back}
use Rattle.definitions.specs.Steps.{reached, onward, followed, blocked, lacks, cleared, lost, probe, replaced, beside, reached_first, reached_next, step}
use Rattle.definitions.specs.Records.{Row, no_row, row, Result, refused, carried, taken, stepped, started, asked, record_step}
use Rattle.definitions.specs.Answers.{answer_number}
use Rattle.definitions.specs.Schedule.{Rec}
use Rattle.definitions.specs.Listing.{decimal, stations_to, stations_text, route_line, base_line, set_line}
use Rattle.definitions.proofs.Quick.{quick_listing}

abbrev r : ℕ → ℕ → ℕ → Rec
r x y z = record { last = 6; first = x; second = y; extra = z }

-- a row: thread, answer, set
record Told : Type 0 where
  thread : ℕ
  answer : ℕ
  set : ℕ

abbrev says : ℕ → ℕ → ℕ → Told
says t a c = record { thread = t; answer = a; set = c }

record Outcome : Type 0 where
  refusal : ℕ
  rows : List Told
  text : List ℕ
  used : ℕ
  shown : ℕ
  places : List ℕ

abbrev bytes : String → List ℕ
bytes over = []
bytes (c then s) = code c ∷ bytes s

abbrev lines : List String → List ℕ
lines [] = []
lines (l ∷ ls) = bytes l ++ 10 ∷ lines ls

abbrev ends : ℕ → List Told → List String → ℕ → ℕ → List ℕ → Outcome
ends k rows text used shown places = record { refusal = k; rows = rows; text = lines text; used = used; shown = shown; places = places }

abbrev told : ℕ → Row → List Told
told t no_row = []
told t (row a d c) = says t (answer_number a) c ∷ []

abbrev over_at : ℕ → Bench → List Told → Outcome
over_at k b rows = record {
  refusal = k;
  rows = rows;
  text = quick_listing (1 ∷ []) b;
  used = b.store.used;
  shown = b.store.shown;
  places = (b.threads 0).place ∷ (b.threads 1).place ∷ (b.threads 2).place ∷ (b.threads 3).place ∷ [];
}

abbrev on : Result → ℕ → (Bench → List Told → Outcome) → Bench → List Told → Outcome
on (refused k) t more b rows = over_at k b rows
on (carried b' w) t more b rows = more b' (rows ++ told t w)

abbrev play : List Rec → Bench → List Told → Outcome
play [] b rows = over_at 0 b rows
play (x ∷ xs) b rows = on (record_step b x.last x.first x.second x.extra) (x.first / 16) (λ b' rows'. play xs b' rows') b rows

-- ---- random schedules

abbrev run1 : List Rec
run1 =
    r 2 10 0 ∷ r 0 0 0 ∷ r 0 0 0 ∷ r 0 0 0 ∷ r 2 5 0 ∷ r 0 0 0 ∷ r 0 0 0 ∷ r 0 0 0 ∷ r 2 9 0 ∷ r 0 0 0 ∷ r 0 0 0 ∷ r 0 0 0 ∷
    r 2 7 0 ∷ r 0 0 0 ∷ r 0 0 0 ∷ r 0 0 0 ∷ r 38 7 13 ∷ r 32 0 0 ∷ r 32 0 0 ∷ r 32 0 0 ∷ r 32 0 0 ∷ r 32 0 0 ∷ r 36 0 0 ∷ r 32 0 0 ∷
    r 32 0 0 ∷ r 32 0 0 ∷ r 34 1 0 ∷ r 32 0 0 ∷ r 32 0 0 ∷ r 32 0 0 ∷ r 21 5 0 ∷ r 16 0 0 ∷ r 16 0 0 ∷ r 16 0 0 ∷ r 16 0 0 ∷ r 16 0 0 ∷
    r 16 0 0 ∷ r 16 0 0 ∷ r 16 0 0 ∷ r 16 0 0 ∷ r 16 0 0 ∷ r 16 0 0 ∷ r 16 0 0 ∷ r 16 0 0 ∷ r 16 0 0 ∷ r 16 0 0 ∷ r 32 0 0 ∷ r 32 0 0 ∷
    r 32 0 0 ∷ r 16 0 0 ∷ r 16 0 0 ∷ r 16 0 0 ∷ r 3 5 0 ∷ r 0 0 0 ∷ r 0 0 0 ∷ r 0 0 0 ∷ r 0 0 0 ∷ r 0 0 0 ∷ r 0 0 0 ∷ r 0 0 0 ∷
    r 0 0 0 ∷ r 0 0 0 ∷ r 16 0 0 ∷ r 16 0 0 ∷ r 16 0 0 ∷ r 22 2 2 ∷ r 16 0 0 ∷ r 16 0 0 ∷ r 16 0 0 ∷ r 16 0 0 ∷ r 16 0 0 ∷ r 20 5 0 ∷
    r 16 0 0 ∷ r 16 0 0 ∷ r 16 0 0 ∷ r 21 7 0 ∷ r 16 0 0 ∷ r 16 0 0 ∷ r 16 0 0 ∷ r 16 0 0 ∷ r 16 0 0 ∷ r 16 0 0 ∷ r 16 0 0 ∷ r 16 0 0 ∷
    r 16 0 0 ∷ r 16 0 0 ∷ r 16 0 0 ∷ r 32 0 0 ∷ r 32 0 0 ∷ r 32 0 0 ∷ r 32 0 0 ∷ r 32 0 0 ∷ r 32 0 0 ∷ r 32 0 0 ∷ r 32 0 0 ∷ r 32 0 0 ∷
    r 38 3 15 ∷ r 32 0 0 ∷ r 32 0 0 ∷ r 32 0 0 ∷ r 32 0 0 ∷ r 32 0 0 ∷ r 32 0 0 ∷ r 32 0 0 ∷ r 32 0 0 ∷ r 32 0 0 ∷ r 32 0 0 ∷ r 32 0 0 ∷
    r 32 0 0 ∷ r 32 0 0 ∷ r 32 0 0 ∷ r 32 0 0 ∷ r 0 0 0 ∷ r 0 0 0 ∷ r 0 0 0 ∷ r 0 0 0 ∷ r 0 0 0 ∷ r 3 1 0 ∷ r 0 0 0 ∷ r 0 0 0 ∷
    r 0 0 0 ∷ r 0 0 0 ∷ r 0 0 0 ∷ r 2 2 0 ∷ r 0 0 0 ∷ r 32 0 0 ∷ r 37 7 0 ∷ r 32 0 0 ∷ r 32 0 0 ∷ r 32 0 0 ∷ r 32 0 0 ∷ r 32 0 0 ∷
    r 32 0 0 ∷ r 32 0 0 ∷ r 32 0 0 ∷ r 32 0 0 ∷ r 32 0 0 ∷ r 16 0 0 ∷ r 16 0 0 ∷ r 16 0 0 ∷ r 16 0 0 ∷ r 16 0 0 ∷ r 21 13 0 ∷ r 16 0 0 ∷
    r 32 0 0 ∷ r 32 0 0 ∷ r 32 0 0 ∷ r 32 0 0 ∷ r 32 0 0 ∷ r 32 0 0 ∷ r 32 0 0 ∷ r 32 0 0 ∷ r 32 0 0 ∷ r 32 0 0 ∷ r 32 0 0 ∷ r 38 12 12 ∷
    r 32 0 0 ∷ r 32 0 0 ∷ r 32 0 0 ∷ r 32 0 0 ∷ r 32 0 0 ∷ r 37 11 0 ∷ r 32 0 0 ∷ r 32 0 0 ∷ r 38 3 4 ∷ r 32 0 0 ∷ r 32 0 0 ∷ r 32 0 0 ∷
    r 32 0 0 ∷ r 32 0 0 ∷ r 36 8 0 ∷ r 32 0 0 ∷ r 32 0 0 ∷ r 32 0 0 ∷ r 38 9 9 ∷ r 32 0 0 ∷ r 32 0 0 ∷ r 32 0 0 ∷ r 32 0 0 ∷ r 32 0 0 ∷
    r 32 0 0 ∷ r 32 0 0 ∷ r 32 0 0 ∷ r 37 0 0 ∷ r 32 0 0 ∷ r 16 0 0 ∷ r 32 0 0 ∷ r 32 0 0 ∷ r 32 0 0 ∷ r 0 0 0 ∷ r 0 0 0 ∷ r 0 0 0 ∷
    r 0 0 0 ∷ r 0 0 0 ∷ r 0 0 0 ∷ r 0 0 0 ∷ r 16 0 0 ∷ r 22 7 12 ∷ r 16 0 0 ∷ r 16 0 0 ∷ r 16 0 0 ∷ r 16 0 0 ∷ r 16 0 0 ∷ r 16 0 0 ∷
    r 16 0 0 ∷ r 16 0 0 ∷ r 32 0 0 ∷ r 32 0 0 ∷ r 32 0 0 ∷ r 36 8 0 ∷ r 32 0 0 ∷ r 32 0 0 ∷ r 32 0 0 ∷ r 38 9 16 ∷ r 32 0 0 ∷ r 32 0 0 ∷
    r 32 0 0 ∷ r 32 0 0 ∷ r 32 0 0 ∷ r 32 0 0 ∷ r 32 0 0 ∷ r 32 0 0 ∷ r 32 0 0 ∷ r 32 0 0 ∷ r 36 7 0 ∷ r 32 0 0 ∷ r 32 0 0 ∷ r 32 0 0 ∷
    r 37 11 0 ∷ r 32 0 0 ∷ r 32 0 0 ∷ r 3 6 0 ∷ r 32 0 0 ∷ r 32 0 0 ∷ r 32 0 0 ∷ r 32 0 0 ∷ r 32 0 0 ∷ r 36 9 0 ∷ r 32 0 0 ∷ r 32 0 0 ∷
    r 32 0 0 ∷ r 32 0 0 ∷ r 32 0 0 ∷ r 32 0 0 ∷ r 34 5 0 ∷ r 32 0 0 ∷ r 32 0 0 ∷ r 32 0 0 ∷ r 32 0 0 ∷ r 32 0 0 ∷ r 32 0 0 ∷ r 32 0 0 ∷
    r 32 0 0 ∷ r 32 0 0 ∷ r 16 0 0 ∷ r 16 0 0 ∷ r 16 0 0 ∷ r 16 0 0 ∷ r 16 0 0 ∷ r 16 0 0 ∷ r 16 0 0 ∷ r 16 0 0 ∷ r 16 0 0 ∷ r 16 0 0 ∷
    r 16 0 0 ∷ r 16 0 0 ∷ r 16 0 0 ∷ r 16 0 0 ∷ r 16 0 0 ∷ r 16 0 0 ∷ r 16 0 0 ∷ r 16 0 0 ∷ r 16 0 0 ∷ r 16 0 0 ∷ r 16 0 0 ∷ r 16 0 0 ∷
    r 32 0 0 ∷ r 32 0 0 ∷ r 32 0 0 ∷ r 32 0 0 ∷ r 32 0 0 ∷ r 32 0 0 ∷ r 32 0 0 ∷ r 32 0 0 ∷ r 32 0 0 ∷ r 32 0 0 ∷ r 32 0 0 ∷ r 32 0 0 ∷
    r 32 0 0 ∷ r 36 1 0 ∷ r 32 0 0 ∷ r 32 0 0 ∷ r 32 0 0 ∷ r 32 0 0 ∷ r 32 0 0 ∷ r 35 12 0 ∷ r 32 0 0 ∷ r 32 0 0 ∷ r 32 0 0 ∷ r 32 0 0 ∷
    []

abbrev end1 : Outcome
end1 = ends 0 (says 0 1 0 ∷ says 0 1 0 ∷ says 0 1 0 ∷ says 0 1 0 ∷ says 2 1 1664 ∷ says 2 1 0 ∷ says 1 1 0 ∷ says 1 0 0 ∷ says 1 1 0 ∷ says 2 1 0
    ∷ says 0 1 0 ∷ says 0 1 0 ∷ says 2 1 1696 ∷ says 1 6 0 ∷ says 2 1 0 ∷ says 2 0 0 ∷ says 2 2 0 ∷ says 2 0 0 ∷ says 2 1 0 ∷ says 2 1 512 ∷ says 0 1 0
    ∷ says 1 2 0 ∷ says 2 4 0 ∷ says 2 3 0 ∷ says 2 1 1536 ∷ says 2 3 0 ∷ says 2 5 0 ∷ says 2 1 0 ∷ says 1 1 1664 ∷ says 2 1 0 ∷ says 2 1 0 ∷ [])
    ("0 route 9" ∷ "1 route 5" ∷ "2 normal 2" ∷ "2 normal 5 7" ∷ "1 route 10" ∷ "2 range 9" ∷ "2 range 10" ∷ "set 2 5 7 9 10" ∷ []) 44 8 (1 ∷ 0 ∷ 10 ∷ 0 ∷ [])

abbrev run2 : List Rec
run2 =
    r 2 7 0 ∷ r 0 0 0 ∷ r 0 0 0 ∷ r 0 0 0 ∷ r 2 5 0 ∷ r 0 0 0 ∷ r 0 0 0 ∷ r 0 0 0 ∷ r 2 0 0 ∷ r 0 0 0 ∷ r 0 0 0 ∷ r 0 0 0 ∷
    r 2 7 0 ∷ r 0 0 0 ∷ r 0 0 0 ∷ r 0 0 0 ∷ r 20 1 0 ∷ r 16 0 0 ∷ r 16 0 0 ∷ r 16 0 0 ∷ r 20 9 0 ∷ r 16 0 0 ∷ r 16 0 0 ∷ r 36 11 0 ∷
    r 32 0 0 ∷ r 32 0 0 ∷ r 32 0 0 ∷ r 32 0 0 ∷ r 32 0 0 ∷ r 32 0 0 ∷ r 37 10 0 ∷ r 32 0 0 ∷ r 32 0 0 ∷ r 16 0 0 ∷ r 16 0 0 ∷ r 16 0 0 ∷
    r 18 11 0 ∷ r 16 0 0 ∷ r 16 0 0 ∷ r 16 0 0 ∷ r 16 0 0 ∷ r 16 0 0 ∷ r 16 0 0 ∷ r 16 0 0 ∷ r 20 12 0 ∷ r 16 0 0 ∷ r 16 0 0 ∷ r 16 0 0 ∷
    r 16 0 0 ∷ r 16 0 0 ∷ r 16 0 0 ∷ r 16 0 0 ∷ r 21 5 0 ∷ r 16 0 0 ∷ r 32 0 0 ∷ r 32 0 0 ∷ r 32 0 0 ∷ r 32 0 0 ∷ r 32 0 0 ∷ r 32 0 0 ∷
    r 32 0 0 ∷ r 32 0 0 ∷ r 32 0 0 ∷ r 32 0 0 ∷ r 32 0 0 ∷ r 32 0 0 ∷ r 32 0 0 ∷ r 32 0 0 ∷ r 32 0 0 ∷ r 32 0 0 ∷ r 32 0 0 ∷ r 32 0 0 ∷
    r 16 0 0 ∷ r 16 0 0 ∷ r 16 0 0 ∷ r 16 0 0 ∷ r 16 0 0 ∷ r 16 0 0 ∷ r 16 0 0 ∷ r 20 0 0 ∷ r 16 0 0 ∷ r 16 0 0 ∷ r 16 0 0 ∷ r 18 9 0 ∷
    r 16 0 0 ∷ r 16 0 0 ∷ r 16 0 0 ∷ r 16 0 0 ∷ r 16 0 0 ∷ r 16 0 0 ∷ r 16 0 0 ∷ r 16 0 0 ∷ r 16 0 0 ∷ r 16 0 0 ∷ r 32 0 0 ∷ r 32 0 0 ∷
    r 32 0 0 ∷ r 32 0 0 ∷ r 32 0 0 ∷ r 32 0 0 ∷ r 32 0 0 ∷ r 32 0 0 ∷ r 4 1 0 ∷ r 0 0 0 ∷ r 0 0 0 ∷ r 0 0 0 ∷ r 6 10 23 ∷ r 0 0 0 ∷
    r 0 0 0 ∷ r 0 0 0 ∷ r 0 0 0 ∷ r 0 0 0 ∷ r 0 0 0 ∷ r 0 0 0 ∷ r 0 0 0 ∷ r 0 0 0 ∷ r 0 0 0 ∷ r 0 0 0 ∷ r 0 0 0 ∷ r 4 4 0 ∷
    r 0 0 0 ∷ r 0 0 0 ∷ r 0 0 0 ∷ r 5 5 0 ∷ r 0 0 0 ∷ r 0 0 0 ∷ r 0 0 0 ∷ r 0 0 0 ∷ r 0 0 0 ∷ r 0 0 0 ∷ r 0 0 0 ∷ r 0 0 0 ∷
    r 0 0 0 ∷ r 0 0 0 ∷ r 0 0 0 ∷ r 0 0 0 ∷ r 16 0 0 ∷ r 16 0 0 ∷ r 16 0 0 ∷ r 16 0 0 ∷ r 16 0 0 ∷ r 16 0 0 ∷ r 16 0 0 ∷ r 16 0 0 ∷
    r 16 0 0 ∷ r 38 2 15 ∷ r 32 0 0 ∷ r 32 0 0 ∷ r 32 0 0 ∷ r 32 0 0 ∷ r 32 0 0 ∷ r 32 0 0 ∷ r 32 0 0 ∷ r 32 0 0 ∷ r 32 0 0 ∷ r 32 0 0 ∷
    r 32 0 0 ∷ r 32 0 0 ∷ r 32 0 0 ∷ r 16 0 0 ∷ r 16 0 0 ∷ r 16 0 0 ∷ r 16 0 0 ∷ r 16 0 0 ∷ r 16 0 0 ∷ r 16 0 0 ∷ r 20 6 0 ∷ r 16 0 0 ∷
    r 16 0 0 ∷ r 0 0 0 ∷ r 0 0 0 ∷ r 0 0 0 ∷ r 0 0 0 ∷ r 0 0 0 ∷ r 0 0 0 ∷ r 0 0 0 ∷ r 0 0 0 ∷ r 4 12 0 ∷ r 0 0 0 ∷ r 0 0 0 ∷
    r 0 0 0 ∷ r 0 0 0 ∷ r 0 0 0 ∷ r 0 0 0 ∷ r 0 0 0 ∷ r 3 5 0 ∷ r 0 0 0 ∷ r 0 0 0 ∷ r 16 0 0 ∷ r 0 0 0 ∷ r 0 0 0 ∷ r 0 0 0 ∷
    r 0 0 0 ∷ r 0 0 0 ∷ r 0 0 0 ∷ r 0 0 0 ∷ r 0 0 0 ∷ r 0 0 0 ∷ r 0 0 0 ∷ r 0 0 0 ∷ r 0 0 0 ∷ r 0 0 0 ∷ r 0 0 0 ∷ r 0 0 0 ∷
    r 0 0 0 ∷ r 0 0 0 ∷ r 0 0 0 ∷ r 0 0 0 ∷ r 0 0 0 ∷ r 0 0 0 ∷ r 32 0 0 ∷ r 32 0 0 ∷ r 32 0 0 ∷ r 32 0 0 ∷ r 32 0 0 ∷ r 32 0 0 ∷
    r 32 0 0 ∷ r 32 0 0 ∷ r 32 0 0 ∷ r 32 0 0 ∷ r 16 0 0 ∷ r 21 7 0 ∷ r 16 0 0 ∷ r 16 0 0 ∷ r 16 0 0 ∷ r 16 0 0 ∷ r 16 0 0 ∷ r 22 10 18 ∷
    r 16 0 0 ∷ r 16 0 0 ∷ r 16 0 0 ∷ r 16 0 0 ∷ r 16 0 0 ∷ r 16 0 0 ∷ r 16 0 0 ∷ r 16 0 0 ∷ r 16 0 0 ∷ r 16 0 0 ∷ r 16 0 0 ∷ r 16 0 0 ∷
    r 16 0 0 ∷ r 16 0 0 ∷ r 32 0 0 ∷ r 32 0 0 ∷ r 32 0 0 ∷ r 32 0 0 ∷ r 32 0 0 ∷ r 32 0 0 ∷ r 36 0 0 ∷ r 32 0 0 ∷ r 32 0 0 ∷ r 32 0 0 ∷
    r 37 10 0 ∷ r 32 0 0 ∷ r 32 0 0 ∷ r 32 0 0 ∷ r 32 0 0 ∷ r 32 0 0 ∷ r 32 0 0 ∷ r 0 0 0 ∷ r 0 0 0 ∷ r 0 0 0 ∷ r 0 0 0 ∷ r 0 0 0 ∷
    r 0 0 0 ∷ r 0 0 0 ∷ r 0 0 0 ∷ r 0 0 0 ∷ r 0 0 0 ∷ r 0 0 0 ∷ r 2 4 0 ∷ r 0 0 0 ∷ r 0 0 0 ∷ r 0 0 0 ∷ r 0 0 0 ∷ r 0 0 0 ∷
    r 16 0 0 ∷ r 16 0 0 ∷ r 16 0 0 ∷ r 16 0 0 ∷ r 16 0 0 ∷ r 16 0 0 ∷ r 16 0 0 ∷ r 16 0 0 ∷ r 5 11 0 ∷ r 0 0 0 ∷ r 0 0 0 ∷ r 0 0 0 ∷
    r 0 0 0 ∷ r 0 0 0 ∷ r 0 0 0 ∷ r 0 0 0 ∷ r 0 0 0 ∷ r 16 0 0 ∷ r 16 0 0 ∷ r 16 0 0 ∷ r 16 0 0 ∷ r 16 0 0 ∷ r 16 0 0 ∷ r 16 0 0 ∷
    []

abbrev end2 : Outcome
end2 = ends 0 (says 0 1 0 ∷ says 0 1 0 ∷ says 0 1 0 ∷ says 0 0 0 ∷ says 1 1 0 ∷ says 2 1 0 ∷ says 1 4 0 ∷ says 1 1 0 ∷ says 1 1 0 ∷ says 1 5 0 ∷ says 1 2 0 ∷ says 2 1 0
    ∷ says 0 2 0 ∷ says 0 1 2048 ∷ says 0 2 0 ∷ says 1 1 0 ∷ says 0 6 0 ∷ says 0 1 0 ∷ says 1 2 0 ∷ says 1 3 0 ∷ says 2 1 2720 ∷ says 2 2 0 ∷ says 0 1 0 ∷ says 0 1 0 ∷ [])
    ("0 route 5" ∷ "1 normal 0 4" ∷ "1 route 7" ∷ "2 normal -" ∷ "2 route 9" ∷ "3 range 7" ∷ "3 range 9 11" ∷ "set 0 4 7 9 11" ∷ []) 32 3 (24 ∷ 81 ∷ 21 ∷ 0 ∷ [])

abbrev run3 : List Rec
run3 =
    r 2 5 0 ∷ r 0 0 0 ∷ r 0 0 0 ∷ r 0 0 0 ∷ r 2 3 0 ∷ r 0 0 0 ∷ r 0 0 0 ∷ r 0 0 0 ∷ r 2 8 0 ∷ r 0 0 0 ∷ r 0 0 0 ∷ r 0 0 0 ∷
    r 2 12 0 ∷ r 0 0 0 ∷ r 0 0 0 ∷ r 0 0 0 ∷ r 38 0 1 ∷ r 32 0 0 ∷ r 32 0 0 ∷ r 32 0 0 ∷ r 32 0 0 ∷ r 32 0 0 ∷ r 22 13 23 ∷ r 16 0 0 ∷
    r 16 0 0 ∷ r 16 0 0 ∷ r 16 0 0 ∷ r 38 1 1 ∷ r 32 0 0 ∷ r 32 0 0 ∷ r 32 0 0 ∷ r 32 0 0 ∷ r 32 0 0 ∷ r 36 3 0 ∷ r 32 0 0 ∷ r 32 0 0 ∷
    r 32 0 0 ∷ r 36 9 0 ∷ r 32 0 0 ∷ r 32 0 0 ∷ r 32 0 0 ∷ r 32 0 0 ∷ r 32 0 0 ∷ r 32 0 0 ∷ r 37 4 0 ∷ r 32 0 0 ∷ r 32 0 0 ∷ r 32 0 0 ∷
    r 32 0 0 ∷ r 32 0 0 ∷ r 32 0 0 ∷ r 32 0 0 ∷ r 32 0 0 ∷ r 32 0 0 ∷ r 32 0 0 ∷ r 32 0 0 ∷ r 32 0 0 ∷ r 32 0 0 ∷ r 4 1 0 ∷ r 0 0 0 ∷
    r 0 0 0 ∷ r 0 0 0 ∷ r 6 7 8 ∷ r 0 0 0 ∷ r 0 0 0 ∷ r 0 0 0 ∷ r 0 0 0 ∷ r 0 0 0 ∷ r 0 0 0 ∷ r 0 0 0 ∷ r 0 0 0 ∷ r 0 0 0 ∷
    r 0 0 0 ∷ r 0 0 0 ∷ r 0 0 0 ∷ r 0 0 0 ∷ r 0 0 0 ∷ r 0 0 0 ∷ r 0 0 0 ∷ r 0 0 0 ∷ r 0 0 0 ∷ r 32 0 0 ∷ r 32 0 0 ∷ r 32 0 0 ∷
    r 34 1 0 ∷ r 32 0 0 ∷ r 0 0 0 ∷ r 5 1 0 ∷ r 0 0 0 ∷ r 0 0 0 ∷ r 0 0 0 ∷ r 0 0 0 ∷ r 0 0 0 ∷ r 0 0 0 ∷ r 0 0 0 ∷ r 0 0 0 ∷
    r 0 0 0 ∷ r 0 0 0 ∷ r 32 0 0 ∷ r 32 0 0 ∷ r 32 0 0 ∷ r 32 0 0 ∷ r 32 0 0 ∷ r 32 0 0 ∷ r 32 0 0 ∷ r 16 0 0 ∷ r 22 13 24 ∷ r 16 0 0 ∷
    r 16 0 0 ∷ r 16 0 0 ∷ r 16 0 0 ∷ r 16 0 0 ∷ r 16 0 0 ∷ r 16 0 0 ∷ r 16 0 0 ∷ r 16 0 0 ∷ r 16 0 0 ∷ r 16 0 0 ∷ r 16 0 0 ∷ r 22 3 10 ∷
    r 16 0 0 ∷ r 16 0 0 ∷ r 16 0 0 ∷ r 16 0 0 ∷ r 16 0 0 ∷ r 32 0 0 ∷ r 32 0 0 ∷ r 32 0 0 ∷ r 32 0 0 ∷ r 32 0 0 ∷ r 32 0 0 ∷ r 32 0 0 ∷
    r 32 0 0 ∷ r 32 0 0 ∷ r 32 0 0 ∷ r 32 0 0 ∷ r 32 0 0 ∷ r 32 0 0 ∷ r 32 0 0 ∷ r 32 0 0 ∷ r 32 0 0 ∷ r 32 0 0 ∷ r 32 0 0 ∷ r 32 0 0 ∷
    r 32 0 0 ∷ r 32 0 0 ∷ r 32 0 0 ∷ r 32 0 0 ∷ r 32 0 0 ∷ r 32 0 0 ∷ r 0 0 0 ∷ r 0 0 0 ∷ r 0 0 0 ∷ r 0 0 0 ∷ r 0 0 0 ∷ r 0 0 0 ∷
    r 3 3 0 ∷ r 0 0 0 ∷ r 0 0 0 ∷ r 0 0 0 ∷ r 0 0 0 ∷ r 0 0 0 ∷ r 3 9 0 ∷ r 0 0 0 ∷ r 0 0 0 ∷ r 0 0 0 ∷ r 0 0 0 ∷ r 16 0 0 ∷
    r 16 0 0 ∷ r 16 0 0 ∷ r 16 0 0 ∷ r 20 2 0 ∷ r 16 0 0 ∷ r 16 0 0 ∷ r 16 0 0 ∷ r 19 10 0 ∷ r 16 0 0 ∷ r 16 0 0 ∷ r 16 0 0 ∷ r 16 0 0 ∷
    r 16 0 0 ∷ r 16 0 0 ∷ r 19 2 0 ∷ r 16 0 0 ∷ r 16 0 0 ∷ r 16 0 0 ∷ r 16 0 0 ∷ r 16 0 0 ∷ r 21 6 0 ∷ r 0 0 0 ∷ r 0 0 0 ∷ r 0 0 0 ∷
    r 0 0 0 ∷ r 0 0 0 ∷ r 0 0 0 ∷ r 0 0 0 ∷ r 0 0 0 ∷ r 0 0 0 ∷ r 5 3 0 ∷ r 16 0 0 ∷ r 16 0 0 ∷ r 16 0 0 ∷ r 16 0 0 ∷ r 16 0 0 ∷
    r 16 0 0 ∷ r 16 0 0 ∷ r 16 0 0 ∷ r 16 0 0 ∷ r 16 0 0 ∷ r 16 0 0 ∷ r 16 0 0 ∷ r 16 0 0 ∷ r 16 0 0 ∷ r 16 0 0 ∷ r 16 0 0 ∷ r 16 0 0 ∷
    r 16 0 0 ∷ r 16 0 0 ∷ r 16 0 0 ∷ r 18 2 0 ∷ r 32 0 0 ∷ r 32 0 0 ∷ r 32 0 0 ∷ r 32 0 0 ∷ r 32 0 0 ∷ r 32 0 0 ∷ r 32 0 0 ∷ r 32 0 0 ∷
    r 32 0 0 ∷ r 36 5 0 ∷ r 32 0 0 ∷ r 32 0 0 ∷ r 32 0 0 ∷ r 32 0 0 ∷ r 16 0 0 ∷ r 16 0 0 ∷ r 16 0 0 ∷ r 16 0 0 ∷ r 16 0 0 ∷ r 22 3 6 ∷
    r 16 0 0 ∷ r 16 0 0 ∷ r 16 0 0 ∷ r 16 0 0 ∷ r 16 0 0 ∷ r 16 0 0 ∷ r 16 0 0 ∷ r 18 3 0 ∷ r 16 0 0 ∷ r 16 0 0 ∷ r 16 0 0 ∷ r 16 0 0 ∷
    r 0 0 0 ∷ r 0 0 0 ∷ r 0 0 0 ∷ r 0 0 0 ∷ r 0 0 0 ∷ r 0 0 0 ∷ r 0 0 0 ∷ r 0 0 0 ∷ r 0 0 0 ∷ r 0 0 0 ∷ r 0 0 0 ∷ r 0 0 0 ∷
    r 0 0 0 ∷ r 0 0 0 ∷ r 0 0 0 ∷ r 0 0 0 ∷ r 0 0 0 ∷ r 0 0 0 ∷ r 0 0 0 ∷ r 0 0 0 ∷ r 32 0 0 ∷ r 38 4 7 ∷ r 32 0 0 ∷ r 32 0 0 ∷
    r 16 0 0 ∷ r 16 0 0 ∷ r 16 0 0 ∷ r 16 0 0 ∷ r 16 0 0 ∷ r 16 0 0 ∷ r 16 0 0 ∷ r 16 0 0 ∷ r 16 0 0 ∷ r 16 0 0 ∷ r 16 0 0 ∷ r 16 0 0 ∷
    r 16 0 0 ∷ r 19 0 0 ∷ r 16 0 0 ∷ r 16 0 0 ∷ r 16 0 0 ∷ r 20 1 0 ∷ r 16 0 0 ∷ r 16 0 0 ∷ r 0 0 0 ∷ r 2 13 0 ∷ r 0 0 0 ∷ r 0 0 0 ∷
    []

abbrev end3 : Outcome
end3 = ends 0 (says 0 1 0 ∷ says 0 1 0 ∷ says 0 1 0 ∷ says 0 1 0 ∷ says 2 0 0 ∷ says 2 0 0 ∷ says 2 1 0 ∷ says 2 1 0 ∷ says 0 3 0 ∷ says 2 6 0 ∷ says 0 1 256 ∷ says 1 0 0 ∷ says 1 0 0 ∷ says 0 6 0
    ∷ says 0 1 0 ∷ says 1 1 296 ∷ says 1 2 0 ∷ says 1 0 0 ∷ says 1 0 0 ∷ says 0 0 0 ∷ says 1 1 0 ∷ says 2 1 0 ∷ says 1 1 0 ∷ says 1 1 32 ∷ says 2 4 0 ∷ says 1 1 0 ∷ says 1 0 0 ∷ says 0 1 0 ∷ [])
    ("0 normal 1 2 3 5 8 12" ∷ "set 1 2 3 5 8 12" ∷ []) 39 7 (10 ∷ 10 ∷ 15 ∷ 0 ∷ [])

pub random1 : play run1 (fresh false) [] ≡ end1
unfolding put take_out merge within lower upper between reaches adding back reached_first reached_next asked decimal stations_to stations_text
    route_line base_line set_line check replaceable taken stepped started record_step reached onward followed blocked lacks cleared lost probe
    replaced beside step ite has insert remove union cut below from size least drop_least upper_half lower_half split_key ones_in count_trailing_zeros
random1 = refl

pub random2 : play run2 (fresh false) [] ≡ end2
unfolding put take_out merge within lower upper between reaches adding back reached_first reached_next asked decimal stations_to stations_text
    route_line base_line set_line check replaceable taken stepped started record_step reached onward followed blocked lacks cleared lost probe
    replaced beside step ite has insert remove union cut below from size least drop_least upper_half lower_half split_key ones_in count_trailing_zeros
random2 = refl

pub random3 : play run3 (fresh false) [] ≡ end3
unfolding put take_out merge within lower upper between reaches adding back reached_first reached_next asked decimal stations_to stations_text
    route_line base_line set_line check replaceable taken stepped started record_step reached onward followed blocked lacks cleared lost probe
    replaced beside step ite has insert remove union cut below from size least drop_least upper_half lower_half split_key ones_in count_trailing_zeros
random3 = refl
