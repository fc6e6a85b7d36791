-- Runs of version 2 files (02, request a), shown of the definitions: one table that a single theorem covers, and a printed run with
-- depths. Each case as in Runs.antt.
use Prim.Native.Nat.{ℕ}
use Prim.Native.String.{String}
use mathlib.Core.Path.{◌≡◌, refl, sym, ◌∙◌}
use mathlib.Core.List.{List, [], ◌∷◌, ◌++◌, map}
use lib.Count.{ones_in, count_trailing_zeros}
use Rattle.container.specs.Choice.{ite}
use Rattle.container.specs.Container.{has, insert, remove, union, cut, below, from, size, least, drop_least, upper_half, lower_half, split_key}
use Rattle.container.specs.Depths.{put, take_out, merge, within, lower, upper}
use Rattle.definitions.specs.Nodes.{check, replaceable}
use Rattle.definitions.specs.Frames.{between, reaches, adding, back}
use Rattle.definitions.specs.Steps.{reached, onward, followed, blocked, lacks, cleared, lost, probe, replaced, beside, reached_first, reached_next, step}
use Rattle.definitions.specs.Records.{taken, stepped, started, asked, record_step}
use Rattle.definitions.specs.Schedule.{count_of, record_at, file_refusal}
use Rattle.definitions.specs.Run.{bytes_of, run_refusal}
use Rattle.definitions.specs.Listing.{decimal, stations_to, stations_text, route_line, base_line, set_line, list_refusal}
use Rattle.definitions.specs.Printed.{action_word, first_line, depth_text, row_line, last_line, printed}
use Rattle.definitions.proofs.Quick.{quick_printed, quick_printed_printed}
use Rattle.definitions.proofs.DeepCases.{steps, start, op, says, finds, schedule, run, refusing, faulty, deep_run, deep_rows}
use Rattle.definitions.proofs.Cases.{Lookup, Insert, Remove, Join, Case, report, lines, outcome, promised, quick, map_quick}

abbrev table : List Case
table =
    -- "An insert of a present station says no and replaces the depth"; a lookup's depth, "else 0"
    run 2 (start 0 Insert 3 640 3 ++ op 0 Lookup 3 1 ++ start 0 Insert 3 700 3 ++ op 0 Lookup 3 1)
    (says 0 Insert 3 1 ++ finds 0 3 640 ++ says 0 Insert 3 0 ++ finds 0 3 700) (3 ∷ []) 1 3 ("0 normal 3=700" ∷ "set 3=700" ∷ [])
    ∷ run 2 (start 0 Insert 3 640 3 ++ op 0 Remove 3 3 ++ op 0 Lookup 3 1 ++ start 0 Insert 3 0 3)
    (says 0 Insert 3 1 ++ says 0 Remove 3 1 ++ says 0 Lookup 3 0 ++ says 0 Insert 3 1) (3 ∷ []) 1 4 ("0 normal 3=0" ∷ "set 3=0" ∷ [])
    -- the depths through a split and a join
    ∷ run 2 deep_run deep_rows (3 ∷ 9 ∷ []) 2 6 ("0 route 9" ∷ "1 normal 3=640" ∷ "1 normal 9=9999" ∷ "set 3=640 9=9999" ∷ [])
    ∷ run 2 (deep_run ++ op 0 Join 3 21 ++ op 1 Lookup 9 1) (deep_rows ++ says 0 Join 3 1 ++ finds 1 9 9999) (3 ∷ 9 ∷ []) 2 9
    ("0 neighbour 3=640 9=9999" ∷ "set 3=640 9=9999" ∷ [])
    -- in the union each station has the depth of its own side, also where both were replaced after the split
    ∷ run 2 (deep_run ++ start 0 Insert 3 700 5 ++ start 0 Insert 9 1 6 ++ op 0 Join 3 21) (deep_rows ++ says 0 Insert 3 0 ++ says 0 Insert 9 0 ++ says 0 Join 3 1) (3 ∷ 9 ∷ []) 2 11
    ("0 neighbour 3=700 9=1" ∷ "set 3=700 9=1" ∷ [])
    -- a lookup under way finds the depth in the base that it then reads
    ∷ run 2 (deep_run ++ op 1 Lookup 3 1 ++ start 0 Insert 3 700 5 ++ steps 1 1) (deep_rows ++ says 0 Insert 3 0 ++ finds 1 3 700) (3 ∷ 9 ∷ []) 2 7
    ("0 route 9" ∷ "1 normal 3=700" ∷ "1 normal 9=9999" ∷ "set 3=700 9=9999" ∷ [])
    -- one that is still above a base cut from the tree finds the depth there, whatever the tree has at its last moment
    ∷ run 2 (deep_run ++ op 1 Lookup 3 1 ++ op 0 Join 3 21 ++ start 0 Insert 3 700 3 ++ steps 1 1 ++ op 1 Lookup 3 1)
    (deep_rows ++ says 0 Join 3 1 ++ says 0 Insert 3 0 ++ finds 1 3 640 ++ finds 1 3 700) (3 ∷ 9 ∷ []) 2 10 ("0 normal 3=700 9=9999" ∷ "set 3=700 9=9999" ∷ [])
    -- an insert over a present station during a join kills it; the join of the neighbour's side carries that depth
    ∷ run 2 (deep_run ++ op 0 Join 3 7 ++ start 1 Insert 3 0 9 ++ steps 0 9) (deep_rows ++ says 1 Insert 3 0 ++ says 0 Join 3 6) (3 ∷ 9 ∷ []) 2 9
    ("0 route 9" ∷ "1 normal 3=0" ∷ "1 neighbour 9=9999" ∷ "set 3=0 9=9999" ∷ [])
    ∷ run 2 (deep_run ++ op 0 Join 3 20 ++ start 1 Insert 9 256 11) (deep_rows ++ says 1 Insert 9 0) (3 ∷ 9 ∷ []) 2 10 ("0 normal 3=640 9=256" ∷ "set 3=640 9=256" ∷ [])
    -- "an insert's depth over 9,999 with 14 after 9"
    ∷ refusing 2 14 (start 0 Insert 3 10000 0)
    ∷ refusing 2 9 (start 0 Insert 64 10000 0)
    ∷ refusing 2 14 (start 0 Insert 3 9999 0 ++ start 0 Insert 3 10000 0)
    -- "unused bytes not 0 with 10 before 11", a step's before 12
    ∷ refusing 2 10 (start 0 Insert 3 1 0 ++ start 0 Lookup 3 5 0)
    ∷ refusing 2 10 (start 0 Insert 3 1 0 ++ start 0 0 0 1 0)
    ∷ refusing 2 10 (start 0 0 0 1 0)
    ∷ refusing 2 11 (start 0 Insert 3 1 0 ++ start 0 Insert 3 9999 0)
    -- "refusal 2 is now for any other version", 0 or 4; "a length other than 3 + 4 × count with 4"
    ∷ faulty 2 (0x00 ∷ 0x00 ∷ 0x00 ∷ [])
    ∷ faulty 2 (0x04 ∷ 0x00 ∷ 0x00 ∷ [])
    ∷ faulty 4 (0x02 ∷ 0x00 ∷ 0x01 ∷ 0x02 ∷ 0x09 ∷ [])
    -- a row buffer under 7 × count; "In version 2 List refuses a buffer under 8,192 bytes with 6"
    ∷ record { file = 0x02 ∷ 0x00 ∷ 0x01 ∷ 0x02 ∷ 0x09 ∷ 0x02 ∷ 0x80 ∷ []; buffer = 6; gives = report 5 0 0 0 0 0; rows = []; text = 8191; refusal = 6; lists = [] }
    ∷ []

-- "the program adds a space and the depth after a lookup's yes"
abbrev deep_text : List String
deep_text =
    "records 18 of 18 refusal 0"
    ∷ "t0 insert 3 yes"
    ∷ "t0 insert 9 yes"
    ∷ "t0 split 3 yes"
    ∷ "t1 lookup 9 yes 9999"
    ∷ "t1 lookup 4 no"
    ∷ "0 route 9"
    ∷ "1 normal 3=640"
    ∷ "1 normal 9=9999"
    ∷ "set 3=640 9=9999"
    ∷ "stored 2 used 6"
    ∷ []

abbrev deep_file : List ℕ
deep_file = schedule 2 (deep_run ++ op 1 Lookup 9 2 ++ op 1 Lookup 4 2)

by_computing : (map quick table ≡ map promised table) × (quick_printed deep_file ≡ lines deep_text)
unfolding bytes_of record_at between reaches adding back reached_first reached_next asked put take_out merge within lower upper depth_text
    row_line decimal stations_to stations_text route_line base_line set_line list_refusal check replaceable action_word first_line last_line
    taken stepped started record_step run_refusal count_of file_refusal reached onward followed blocked lacks cleared lost probe replaced beside
    step ite has insert remove union cut below from size least drop_least upper_half lower_half split_key ones_in count_trailing_zeros
by_computing = (refl, refl)

pub depth_runs : (map outcome table ≡ map promised table) × (printed deep_file ≡ lines deep_text)
depth_runs = (map_quick table ∙ by_computing.0, sym (quick_printed_printed deep_file) ∙ by_computing.1)
