-- Runs in which the stores of range queries run out (02, request b): refusal 16, only where the comparison succeeds, and 13 before it.
use Rattle.std.specs.Prelude.{None}
use Prim.Native.Nat.{ℕ, zero, suc}
use mathlib.Core.Path.{◌≡◌, refl, ◌∙◌}
use mathlib.Core.Bool.{false}
use mathlib.Core.List.{List, [], ◌∷◌, ◌++◌, map}
use lib.Count.{ones_in, count_trailing_zeros}
use Rattle.container.specs.Choice.{ite, upd}
use Rattle.container.specs.Container.{has, insert, remove, union, cut, below, from, size, least, drop_least, upper_half, lower_half, split_key}
use Rattle.container.specs.Depths.{put, take_out, merge, within, lower, upper}
use Rattle.definitions.specs.Nodes.{empty_base, check, replaceable}
use Rattle.definitions.specs.Bench.{Bench, bench, stop, store}
use Rattle.definitions.specs.Threads.{Thread, new_frame, asking, idle}
use Rattle.definitions.specs.Places.{p60, swap, opening, at, at_frames}
use Rattle.definitions.specs.Frames.{in_hand, between, reaches, adding, back}
use Rattle.definitions.specs.Steps.{reached, onward, followed, blocked, lacks, cleared, lost, probe, replaced, beside, reached_first, reached_next, step}
use Rattle.definitions.specs.Records.{Result, refused, carried, taken, stepped, started, asked, record_step}
use Rattle.definitions.specs.Schedule.{count_of, record_at, file_refusal}
use Rattle.definitions.specs.Run.{bytes_of, run_refusal}
use Rattle.definitions.specs.Listing.{decimal, stations_to, stations_text, route_line, base_line, set_line, list_refusal}
use Rattle.definitions.specs.Printed.{action_word, first_line, depth_text, row_line, last_line}
use Rattle.definitions.specs.declared.Quarter.TheVariants.{ReadLeft}
use Rattle.definitions.proofs.DeepCases.{steps, start, says, Range, found, ending}
use Rattle.definitions.proofs.Cases.{Insert, Case, outcome, promised, quick, map_quick}

-- k times the same
abbrev again : ℕ → List ℕ → List ℕ
again zero l = []
again (suc k) l = l ++ again k l

-- t0 inserts 3, which is the only station
abbrev one : List ℕ
one = start 0 Insert 3 640 3

-- a query of t0 alone: a number and a store
abbrev asks : List ℕ
asks = start 0 Range 0 3 5

abbrev finds : List ℕ
finds = found 0 0 (3 ∷ [])

abbrev table : List Case
table =
    -- 63 stores are shown, the 64th by t1. An insert that helps t1's query and a query that rides on it need none; a query of t0 whose comparison fails
    -- is not refused, and is where it succeeds: "a store needed beyond the 64 with 16"
    ending 2 16 412 (one ++ again 63 asks ++ start 1 Range 0 9 3 ++ start 2 Insert 4 7 2 ++ start 3 Range 0 5 2 ++ steps 2 6 ++ steps 3 2 ++ steps 1 2
    ++ start 0 Range 0 3 2 ++ start 1 Insert 5 9 3 ++ steps 0 4)
    (says 0 Insert 3 1 ++ again 63 finds ++ says 2 Insert 4 1 ++ found 3 0 (3 ∷ []) ++ found 1 0 (3 ∷ []) ++ says 1 Insert 5 1)
    (3 ∷ 4 ∷ 5 ∷ []) 3 68 ("0 normal 3=640 4=7 5=9" ∷ "set 3=640 4=7 5=9" ∷ [])
    ∷ []

-- ---- "16 after 13": where a query is about to swap the root for its first range base, of a new store

-- t0 at 64 with base 0 in hand
abbrev swapping : Thread
swapping = at (swap opening ReadLeft) (at_frames p60 (in_hand 0 [] (new_frame 0 3 None) ∷ []) (asking 0 3))

abbrev standing : ℕ → ℕ → ℕ → Bench
standing root used shown = bench (store (λ _. empty_base) root used (λ _. None) shown (stop false 0)) (upd (λ _. idle) 0 swapping)

-- what comes of t0's step: the refusal, 0 for none
abbrev refusal : Result → ℕ
refusal (refused k) = k
refusal (carried b w) = 0

abbrev step_of : Bench → ℕ
step_of b = refusal (record_step b 6 0 0 0)

-- by root, numbers used and stores shown: the last of each; no store left; no number left; neither; and neither where the comparison fails
abbrev orders : List ℕ
orders = step_of (standing 0 255 63) ∷ step_of (standing 0 255 64) ∷ step_of (standing 0 256 63) ∷ step_of (standing 0 256 64) ∷ step_of (standing 1 256 64) ∷ []

by_computing : (map quick table ≡ map promised table) × (orders ≡ 0 ∷ 16 ∷ 13 ∷ 13 ∷ 0 ∷ [])
unfolding bytes_of record_at between reaches adding back reached_first reached_next asked put take_out merge within lower upper depth_text
    row_line decimal stations_to stations_text route_line base_line set_line list_refusal check replaceable action_word first_line last_line
    taken stepped started record_step run_refusal count_of file_refusal reached onward followed blocked lacks cleared lost probe replaced beside
    step ite has insert remove union cut below from size least drop_least upper_half lower_half split_key ones_in count_trailing_zeros
by_computing = (refl, refl)

pub store_runs : (map outcome table ≡ map promised table) × (orders ≡ 0 ∷ 16 ∷ 13 ∷ 13 ∷ 0 ∷ [])
store_runs = (map_quick table ∙ by_computing.0, by_computing.1)
