-- Runs with range queries (02, request b), shown of the definitions: one table of version 2 files, and a printed run.
use Prim.Native.Nat.{ℕ}
use Prim.Native.String.{String}
use mathlib.Core.Path.{◌≡◌, refl, sym, ◌∙◌}
use mathlib.Core.List.{List, [], ◌∷◌, ◌++◌, map}
use lib.Count.{ones_in, count_trailing_zeros}
use Rattle.container.specs.Choice.{ite}
use Rattle.container.specs.Container.{has, insert, remove, union, cut, below, from, size, least, drop_least, upper_half, lower_half, split_key}
use Rattle.container.specs.Depths.{put, take_out, merge, within, lower, upper}
use Rattle.definitions.specs.Nodes.{check, replaceable}
use Rattle.definitions.specs.Frames.{between, reaches, adding, back}
use Rattle.definitions.specs.Steps.{reached, onward, followed, blocked, lacks, cleared, lost, probe, replaced, beside, reached_first, reached_next, step}
use Rattle.definitions.specs.Records.{taken, stepped, started, asked, record_step}
use Rattle.definitions.specs.Schedule.{count_of, record_at, file_refusal}
use Rattle.definitions.specs.Run.{bytes_of, run_refusal}
use Rattle.definitions.specs.Listing.{decimal, stations_to, stations_text, route_line, base_line, set_line, list_refusal}
use Rattle.definitions.specs.Printed.{action_word, first_line, depth_text, row_line, last_line, printed}
use Rattle.definitions.proofs.Quick.{quick_printed, quick_printed_printed}
use Rattle.definitions.proofs.DeepCases.{steps, start, op, says, finds, Range, found, schedule, run, refusing, deep_run, deep_rows}
use Rattle.definitions.proofs.Cases.{Insert, Split, Join, Case, lines, outcome, promised, quick, map_quick}

-- rows after the deep run: the set, the tree below its route
abbrev after : List ℕ → List ℕ → List ℕ → ℕ → ℕ → List String → Case
after records rows set held used text = run 2 (deep_run ++ records) (deep_rows ++ rows) set held used ("0 route 9" ∷ text)

-- the two bases of the deep run as range bases
abbrev both : List String
both = "1 range 3=640" ∷ "1 range 9=9999" ∷ "set 3=640 9=9999" ∷ []

-- three bases: route 9 with 3 on its left and, on its right, route 14 with 9 and 14
abbrev three_run : List ℕ
three_run = start 0 Insert 3 640 3 ++ start 0 Insert 9 9999 3 ++ start 0 Insert 14 14 3 ++ op 0 Split 3 3 ++ op 0 Split 9 6

abbrev three_rows : List ℕ
three_rows = says 0 Insert 3 1 ++ says 0 Insert 9 1 ++ says 0 Insert 14 1 ++ says 0 Split 3 1 ++ says 0 Split 9 1

-- the same stations, the other way round: route 14 with route 9 on its left, which has 3 and 9, and 14 on its right
abbrev left_run : List ℕ
left_run = start 0 Insert 9 9999 3 ++ start 0 Insert 14 14 3 ++ op 0 Split 9 3 ++ start 0 Insert 3 640 5 ++ op 0 Split 3 5

abbrev left_rows : List ℕ
left_rows = says 0 Insert 9 1 ++ says 0 Insert 14 1 ++ says 0 Split 9 1 ++ says 0 Insert 3 1 ++ says 0 Split 3 1

-- five bases, of one station each
abbrev five_run : List ℕ
five_run = op 0 Insert 2 3 ++ op 0 Insert 4 3 ++ op 0 Insert 6 3 ++ op 0 Insert 8 3 ++ op 0 Insert 10 3 ++ op 0 Split 2 3 ++ op 0 Split 6 6 ++ op 0 Split 8 7 ++ op 0 Split 2 5

abbrev five_rows : List ℕ
five_rows =
    says 0 Insert 2 1 ++ says 0 Insert 4 1 ++ says 0 Insert 6 1 ++ says 0 Insert 8 1 ++ says 0 Insert 10 1 ++ says 0 Split 2 1 ++ says 0 Split 6 1 ++ says 0 Split 8 1 ++ says 0 Split 2 1

-- a query of all stations that finds the three
abbrev three : List ℕ → List ℕ → ℕ → List String → Case
three records rows used text = run 2 records rows (3 ∷ 9 ∷ 14 ∷ []) 3 used ("0 route 9" ∷ "1 range 3=640" ∷ text)

abbrev table : List Case
table =
    -- alone: 16 steps over two bases, which are range bases then
    after (start 0 Range 0 63 15) [] (3 ∷ 9 ∷ []) 2 8 both
    ∷ after (start 0 Range 0 63 16) (found 0 0 (3 ∷ 9 ∷ [])) (3 ∷ 9 ∷ []) 2 8 both
    -- over one base: 7 steps; no station: answer 0
    ∷ after (start 1 Range 3 3 7) (found 1 3 (3 ∷ [])) (3 ∷ 9 ∷ []) 2 7 ("1 range 3=640" ∷ "1 normal 9=9999" ∷ "set 3=640 9=9999" ∷ [])
    ∷ after (start 1 Range 0 2 7) (says 1 Range 0 0) (3 ∷ 9 ∷ []) 2 7 ("1 range 3=640" ∷ "1 normal 9=9999" ∷ "set 3=640 9=9999" ∷ [])
    -- t1 asks 5 to 9 for five steps; t2 asks 0 to 9, rides on its store and finishes at its 14th step. The result is not cut to the store's ends
    ∷ after (start 1 Range 5 9 5 ++ start 2 Range 0 9 14) (found 2 0 (3 ∷ 9 ∷ [])) (3 ∷ 9 ∷ []) 2 8 both
    -- t1 asks 0 to 3; t2 asks 0 to 9, so it does not ride: it helps t1's query to its end, then takes a store of its own
    ∷ after (start 1 Range 0 3 5 ++ start 2 Range 0 9 22) (found 2 0 (3 ∷ 9 ∷ [])) (3 ∷ 9 ∷ []) 2 9 both
    -- t2, which asks for 9 alone, rides on t1's store from its lower end on: t1 finds 3 too
    ∷ after (start 1 Range 0 20 12 ++ start 2 Range 9 9 12 ++ steps 1 4) (found 2 9 (9 ∷ []) ++ found 1 0 (3 ∷ 9 ∷ [])) (3 ∷ 9 ∷ []) 2 8 both
    -- t1 asks 0 to 20 for five steps; t2's insert of 4 helps it and says yes at its 21st: "a range base goes to its help" from 3 (02, g). t1 finds what
    -- was stored before 4 came
    ∷ after (start 1 Range 0 20 5 ++ start 2 Insert 4 7 20) [] (3 ∷ 9 ∷ []) 2 8 both
    ∷ after (start 1 Range 0 20 5 ++ start 2 Insert 4 7 21 ++ steps 1 4) (says 2 Insert 4 1 ++ found 1 0 (3 ∷ 9 ∷ [])) (3 ∷ 4 ∷ 9 ∷ []) 3 9
    ("1 normal 3=640 4=7" ∷ "1 range 9=9999" ∷ "set 3=640 4=7 9=9999" ∷ [])
    -- an insert at the last base helps from the first on
    ∷ after (start 1 Range 0 20 12 ++ start 2 Insert 10 7 18 ++ steps 1 4) (says 2 Insert 10 1 ++ found 1 0 (3 ∷ 9 ∷ [])) (3 ∷ 9 ∷ 10 ∷ []) 3 9
    ("1 range 3=640" ∷ "1 normal 9=9999 10=7" ∷ "set 3=640 9=9999 10=7" ∷ [])
    -- t2's insert takes the base that t1 is about to swap: t1 goes on from the stack that it had when its first base was added
    ∷ after (start 1 Range 0 20 9 ++ start 2 Insert 10 7 6 ++ steps 1 13) (says 2 Insert 10 1 ++ found 1 0 (3 ∷ 9 ∷ 10 ∷ [])) (3 ∷ 9 ∷ 10 ∷ []) 3 9
    ("1 range 3=640" ∷ "1 range 9=9999 10=7" ∷ "set 3=640 9=9999 10=7" ∷ [])
    -- late readers of a set result. At 74: t1 goes straight to 82
    ∷ after (start 1 Range 0 20 7 ++ start 2 Insert 4 7 21 ++ steps 1 2) (says 2 Insert 4 1 ++ found 1 0 (3 ∷ 9 ∷ [])) (3 ∷ 4 ∷ 9 ∷ []) 3 9
    ("1 normal 3=640 4=7" ∷ "1 range 9=9999" ∷ "set 3=640 4=7 9=9999" ∷ [])
    -- at 81: t1, whose first base t2 has replaced, finds no next one and comes with 3 alone; the result stays
    ∷ after (start 1 Range 0 9 5 ++ start 2 Range 3 9 14 ++ start 2 Range 3 9 5 ++ steps 1 4) (found 2 3 (3 ∷ 9 ∷ []) ++ found 1 0 (3 ∷ 9 ∷ [])) (3 ∷ 9 ∷ []) 2 9 both
    -- a helper that finds another base where the range base was: 82, back to 1, and yes at its 11th step
    ∷ after (start 1 Range 0 2 5 ++ start 2 Insert 4 7 3 ++ steps 1 2 ++ start 3 Insert 5 8 5 ++ steps 2 8) (says 1 Range 0 0 ++ says 3 Insert 5 1 ++ says 2 Insert 4 1)
    (3 ∷ 4 ∷ 5 ∷ 9 ∷ []) 4 9 ("1 normal 3=640 4=7 5=8" ∷ "1 normal 9=9999" ∷ "set 3=640 4=7 5=8 9=9999" ∷ [])
    -- a query that rides: 3 is out of the tree when it ends, and was in when the result was set
    ∷ after (start 1 Range 0 3 5 ++ start 2 Range 0 3 3 ++ steps 1 2 ++ op 3 3 3 5 ++ steps 2 3) (found 1 0 (3 ∷ []) ++ says 3 3 3 1 ++ found 2 0 (3 ∷ [])) (9 ∷ []) 1 8
    ("1 normal -" ∷ "1 normal 9=9999" ∷ "set 9=9999" ∷ [])
    -- four frames: t1 helps t2's query, on its way t3's, on its way t0's, which t0 finishes itself; t0's next is in t1's way, and takes the fourth frame again
    ∷ run 2 (five_run ++ start 1 Range 0 63 6 ++ start 2 Range 4 63 7 ++ start 3 Range 6 63 6 ++ start 0 Range 8 63 7 ++ steps 1 31 ++ steps 0 13 ++ start 0 Range 10 63 8
    ++ steps 1 102 ++ steps 0 6 ++ steps 2 7 ++ steps 3 5)
    (five_rows ++ found 0 8 (8 ∷ 10 ∷ []) ++ found 1 0 (2 ∷ 4 ∷ 6 ∷ 8 ∷ 10 ∷ []) ++ found 0 10 (10 ∷ []) ++ found 2 4 (4 ∷ 6 ∷ 8 ∷ 10 ∷ []) ++ found 3 6 (6 ∷ 8 ∷ 10 ∷ []))
    (2 ∷ 4 ∷ 6 ∷ 8 ∷ 10 ∷ []) 5 33
    ("0 route 6" ∷ "1 route 4" ∷ "2 range 2=0" ∷ "2 range 4=0" ∷ "1 route 8" ∷ "2 range 6=0" ∷ "2 route 10" ∷ "3 range 8=0" ∷ "3 range 10=0" ∷ "set 2=0 4=0 6=0 8=0 10=0" ∷ [])
    -- 02, k: a join at an unset range base gets 3, beside one 5, a split at one 3
    ∷ after (start 1 Range 0 20 5 ++ op 2 Join 3 3 ++ op 2 Join 9 7) (says 2 Join 3 3 ++ says 2 Join 9 5) (3 ∷ 9 ∷ []) 2 7 ("1 range 3=640" ∷ "1 normal 9=9999" ∷ "set 3=640 9=9999" ∷ [])
    ∷ run 2 (start 0 Insert 3 640 3 ++ start 0 Insert 9 9999 3 ++ start 1 Range 0 63 3 ++ op 2 Split 3 2) (says 0 Insert 3 1 ++ says 0 Insert 9 1 ++ says 2 Split 3 3) (3 ∷ 9 ∷ []) 2 4
    ("0 range 3=640 9=9999" ∷ "set 3=640 9=9999" ∷ [])
    -- a join that prepares is killed at the first base, one that is decided is completed first
    ∷ after (op 0 Join 3 7 ++ start 1 Range 0 63 21 ++ steps 0 3) (found 1 0 (3 ∷ 9 ∷ []) ++ says 0 Join 3 6) (3 ∷ 9 ∷ []) 2 9 both
    ∷ run 2 (deep_run ++ op 0 Join 3 15 ++ start 1 Range 0 63 16 ++ steps 0 5) (deep_rows ++ found 1 0 (3 ∷ 9 ∷ []) ++ says 0 Join 3 1) (3 ∷ 9 ∷ []) 2 10
    ("0 range 3=640 9=9999" ∷ "set 3=640 9=9999" ∷ [])
    -- the same at the next base: then the stack is the backup
    ∷ three (three_run ++ start 1 Range 0 63 5 ++ op 0 Join 9 8 ++ steps 1 26 ++ steps 0 3) (three_rows ++ found 1 0 (3 ∷ 9 ∷ 14 ∷ []) ++ says 0 Join 9 6) 14
    ("1 route 14" ∷ "2 range 9=9999" ∷ "2 range 14=14" ∷ "set 3=640 9=9999 14=14" ∷ [])
    ∷ three (three_run ++ start 1 Range 0 63 5 ++ op 0 Join 9 18 ++ steps 1 27 ++ steps 0 7) (three_rows ++ found 1 0 (3 ∷ 9 ∷ 14 ∷ []) ++ says 0 Join 9 1) 15
    ("1 range 9=9999 14=14" ∷ "set 3=640 9=9999 14=14" ∷ [])
    -- a join from its first step to its last while a query has the base in hand that goes
    ∷ three (three_run ++ start 1 Range 0 63 8 ++ op 0 Join 9 27 ++ steps 1 15) (three_rows ++ says 0 Join 9 1 ++ found 1 0 (3 ∷ 9 ∷ 14 ∷ [])) 15
    ("1 range 9=9999 14=14" ∷ "set 3=640 9=9999 14=14" ∷ [])
    -- t1 has read the route when t0's join cuts it out; t1 finishes at its 8th step
    ∷ run 2 (deep_run ++ start 1 Range 0 63 1 ++ op 0 Join 9 20 ++ steps 1 7) (deep_rows ++ says 0 Join 9 1 ++ found 1 0 (3 ∷ 9 ∷ [])) (3 ∷ 9 ∷ []) 2 10
    ("0 range 3=640 9=9999" ∷ "set 3=640 9=9999" ∷ [])
    -- a route that was cut out lies on the stack, its key over the noted one: 72 pops it, since it is not valid
    ∷ three (left_run ++ start 1 Range 0 63 2 ++ op 0 Join 14 23 ++ steps 1 16) (left_rows ++ says 0 Join 14 1 ++ found 1 0 (3 ∷ 9 ∷ 14 ∷ [])) 15
    ("1 range 9=9999 14=14" ∷ "set 3=640 9=9999 14=14" ∷ [])
    -- the depths stay beside their stations
    ∷ after (start 1 Range 0 63 16 ++ start 2 1 9 0 2) (found 1 0 (3 ∷ 9 ∷ []) ++ finds 2 9 9999) (3 ∷ 9 ∷ []) 2 8 both
    -- a start's refusals in order: 7, 8 ("In version 2 refusal 8 is for actions over 6"; version 1's action 6: Runs.antt), 9, "an upper end over 63 or
    -- below the lower with 15 after 9", the upper end being both bytes, 11
    ∷ refusing 2 7 (start 4 Range 64 64 0)
    ∷ refusing 2 8 (start 0 7 64 64 0)
    ∷ refusing 2 9 (start 0 Range 64 64 0)
    ∷ refusing 2 9 (start 0 Range 64 3 0)
    ∷ refusing 2 15 (start 0 Range 3 64 0)
    ∷ refusing 2 15 (start 0 Range 3 265 0)
    ∷ refusing 2 15 (start 0 Range 3 2 0)
    ∷ refusing 2 15 (start 0 Range 3 3 0 ++ start 0 Range 3 2 0)
    ∷ refusing 2 11 (start 0 Range 3 3 0 ++ start 0 Range 3 3 0)
    -- a step's: 10 before 12
    ∷ refusing 2 10 (start 0 0 0 9 0)
    ∷ refusing 2 12 (start 1 Range 3 3 0 ++ steps 0 1)
    ∷ []

-- "Program and list call action and kind `range`"
abbrev range_text : List String
range_text =
    "records 29 of 29 refusal 0"
    ∷ "t0 insert 3 yes"
    ∷ "t0 insert 9 yes"
    ∷ "t0 split 3 yes"
    ∷ "t1 range 0 yes"
    ∷ "0 route 9"
    ∷ "1 range 3=640"
    ∷ "1 range 9=9999"
    ∷ "set 3=640 9=9999"
    ∷ "stored 2 used 8"
    ∷ []

abbrev range_file : List ℕ
range_file = schedule 2 (deep_run ++ start 1 Range 0 63 16)

by_computing : (map quick table ≡ map promised table) × (quick_printed range_file ≡ lines range_text)
unfolding bytes_of record_at between reaches adding back reached_first reached_next asked put take_out merge within lower upper depth_text
    row_line decimal stations_to stations_text route_line base_line set_line list_refusal check replaceable action_word first_line last_line
    taken stepped started record_step run_refusal count_of file_refusal reached onward followed blocked lacks cleared lost probe replaced beside
    step ite has insert remove union cut below from size least drop_least upper_half lower_half split_key ones_in count_trailing_zeros
by_computing = (refl, refl)

pub range_runs : (map outcome table ≡ map promised table) × (printed range_file ≡ lines range_text)
range_runs = (map_quick table ∙ by_computing.0, sym (quick_printed_printed range_file) ∙ by_computing.1)
