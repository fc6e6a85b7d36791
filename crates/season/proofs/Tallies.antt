-- Tallies worked out by hand from 02, f, shown of the definitions: what single files add, and what is refused with 19. One theorem for
-- each table. Assumes nothing.
use Prim.Native.Nat.{ℕ}
use mathlib.Core.Path.{◌≡◌, refl}
use mathlib.Core.List.{List, [], ◌∷◌, ◌++◌, map}
use lib.Count.{ones_in, count_trailing_zeros}
use Rattle.container.specs.Choice.{ite}
use Rattle.container.specs.Container.{has, insert, remove, union, cut, below, from, size, least, drop_least, upper_half, lower_half, split_key}
use Rattle.container.specs.Depths.{put, take_out, merge, within as inside, lower, upper}
use Rattle.definitions.specs.Nodes.{check, replaceable}
use Rattle.definitions.specs.Frames.{between, reaches, adding, back}
use Rattle.definitions.specs.Steps.{reached, onward, followed, blocked, lacks, cleared, lost, probe, replaced, beside, reached_first, reached_next, step}
use Rattle.definitions.specs.Records.{taken as carried_out, stepped, started, asked, record_step}
use Rattle.definitions.specs.Schedule.{count_of, record_at, file_refusal}
use Rattle.definitions.specs.Run.{advance, after, run_refusal, run_report}
use Rattle.season.specs.Tally.{starts, yes, no, unfinished, steps, largest, join, sum, taken, enter, ledger, busy_with, left_busy, refused_once}
use Rattle.season.specs.Tally.{records_tally, file_tally, within, added, add_refusal, listed, laid, tally_report, tally_numbers}
use Rattle.definitions.proofs.Cases.{Lookup, Insert, Remove, Split, Join}
use Rattle.definitions.proofs.Runs.{op, steps as steps', printed_run}
use Rattle.definitions.proofs.DeepCases.{start, deep_run, Range}
use Rattle.season.proofs.Cases.{Case, plain, deep, stopping, Entry, of, refusal, filled, row, left_over, Single, ◌⊢>◌, most}

-- ---- single files

-- insert 9 alone
abbrev insert_nine : List ℕ
insert_nine = op 0 Insert 9 3

abbrev singles : List Single
singles =
    -- no record; a file under three bytes, of another version, of too many records, of another length; a short row buffer
    (plain [] ⊢> [])
    ∷ (stopping [] ⊢> [])
    ∷ (record { file = 1 ∷ 0 ∷ []; room = 8 } ⊢> refusal 1 1 ∷ [])
    ∷ (record { file = 4 ∷ 0 ∷ 0 ∷ []; room = 8 } ⊢> refusal 2 1 ∷ [])
    ∷ (record { file = 1 ∷ 16 ∷ 1 ∷ []; room = 8 } ⊢> refusal 3 1 ∷ [])
    ∷ (record { file = 1 ∷ 0 ∷ 1 ∷ []; room = 8 } ⊢> refusal 4 1 ∷ [])
    ∷ (record { file = (plain insert_nine).file; room = 7 } ⊢> refusal 5 1 ∷ [])
    -- the first record is refused: only its refusal
    ∷ (plain (steps' 0 1) ⊢> refusal 12 1 ∷ [])
    -- the step that finishes is an operation's own
    ∷ (plain insert_nine ⊢> row 2 1 0 3 3)
    ∷ (plain (op 0 Lookup 5 1) ⊢> row 1 0 1 1 1)
    -- an insert of a present station says no; a largest number is no sum
    ∷ (plain (insert_nine ++ insert_nine ++ op 0 Lookup 9 1 ++ op 0 Remove 9 3) ⊢> row 2 1 1 6 3 ++ row 1 1 0 1 1 ++ row 3 1 0 3 3)
    -- unfinished at the end: its steps are not counted, and it is no no
    ∷ (plain (insert_nine ++ op 0 Insert 4 2) ⊢> of starts 2 2 ∷ of yes 2 1 ∷ of unfinished 2 1 ∷ of steps 2 3 ∷ of largest 2 3 ∷ [])
    ∷ (plain (op 0 Insert 3 0 ++ op 1 Lookup 3 0) ⊢> left_over 2 ++ left_over 1)
    -- turns in between are another thread's own
    ∷ (plain (op 0 Insert 3 1 ++ op 1 Lookup 3 1 ++ steps' 0 2) ⊢> row 2 1 0 3 3 ++ row 1 0 1 1 1)
    -- a refused record adds its refusal to what was counted before it: 8, 11, 12
    ∷ (plain (op 0 Insert 3 2 ++ 6 ∷ 0 ∷ []) ⊢> left_over 2 ++ refusal 8 1 ∷ [])
    ∷ (plain (op 0 Insert 3 1 ++ op 0 Insert 4 0) ⊢> left_over 2 ++ refusal 11 1 ∷ [])
    ∷ (plain (insert_nine ++ steps' 0 1) ⊢> row 2 1 0 3 3 ++ refusal 12 1 ∷ [])
    -- the reasons of a split and a join are nos: too few stations, no parent, stood down
    ∷ (plain (op 0 Insert 3 3 ++ op 0 Split 3 2) ⊢> row 2 1 0 3 3 ++ row 4 0 1 2 2)
    ∷ (plain (op 0 Join 3 2) ⊢> row 5 0 1 2 2)
    ∷ (plain (printed_run ++ op 0 Join 3 7 ++ op 1 Insert 4 9 ++ steps' 0 9) ⊢> row 2 3 0 15 9 ++ row 4 1 0 3 3 ++ row 5 0 1 16 16)
    -- the printed run, and the join after it
    ∷ (plain (printed_run ++ op 0 Join 3 21) ⊢> row 2 2 0 6 3 ++ row 4 1 0 3 3 ++ row 5 1 0 21 21)
    -- version 2: a depth, and one over 9,999
    ∷ (deep (2 ∷ 9 ∷ 2 ∷ 128 ∷ 0 ∷ 0 ∷ 0 ∷ 0 ∷ 0 ∷ 0 ∷ 0 ∷ 0 ∷ 0 ∷ 0 ∷ 0 ∷ 0 ∷ 17 ∷ 9 ∷ 0 ∷ 0 ∷ 16 ∷ 0 ∷ 0 ∷ 0 ∷ []) ⊢> row 2 1 0 3 3 ++ row 1 1 0 1 1)
    ∷ (deep (2 ∷ 9 ∷ 39 ∷ 16 ∷ []) ⊢> refusal 14 1 ∷ [])
    -- its range queries: yes with a station, no with none, one unfinished; 15
    ∷ (deep (deep_run ++ start 1 Range 0 63 16 ++ start 1 Range 0 2 7 ++ start 2 Range 0 63 2) ⊢> of starts 6 3 ∷ of unfinished 6 1 ∷ row 6 1 1 23 16 ++ row 2 2 0 6 3 ++ row 4 1 0 3 3)
    ∷ (deep (start 0 Insert 3 640 1 ++ start 1 Range 3 2 0) ⊢> left_over 2 ++ refusal 15 1 ∷ [])
    ∷ []

single_tallies : map (λ (s : Single). laid (file_tally s.asks.file s.asks.room)) singles ≡ map (λ (s : Single). filled s.adds) singles
unfolding file_tally records_tally refused_once ledger enter busy_with left_busy sum join taken listed after advance run_refusal run_report
    count_of record_at file_refusal check replaceable between reaches adding back reached_first reached_next carried_out stepped started
    asked record_step reached onward followed blocked lacks cleared lost probe replaced beside step ite has insert remove union cut below
    from size least drop_least upper_half lower_half split_key put take_out merge inside lower upper ones_in count_trailing_zeros
single_tallies = refl

-- ---- a tally that is lent

record Lent : Type 0 where
  asks : Case
  lent : List Entry
  answer : ℕ
  leaves : List Entry

abbrev lending : List Entry → Case → ℕ → List Entry → Lent
lending l c k m = record { asks = c; lent = l; answer = k; leaves = m }

abbrev short : Case
short = record { file = (plain insert_nine).file; room = 7 }

abbrev lendings : List Lent
lendings =
    -- what is lent is added to, and largest numbers are taken
    lending (of starts 2 5 ∷ of steps 2 40 ∷ of largest 2 17 ∷ of largest 1 2 ∷ []) (plain insert_nine) 0 (of starts 2 6 ∷ of yes 2 1 ∷ of steps 2 43 ∷ of largest 2 17 ∷ of largest 1 2 ∷ [])
    -- a field that the file would take past 32 bits: 19, and nothing changes
    ∷ lending (of starts 2 most ∷ []) (plain insert_nine) 19 (of starts 2 most ∷ [])
    ∷ lending (of yes 2 most ∷ []) (plain insert_nine) 19 (of yes 2 most ∷ [])
    ∷ lending (of no 1 most ∷ []) (plain (op 0 Lookup 5 1)) 19 (of no 1 most ∷ [])
    ∷ lending (of unfinished 2 most ∷ []) (plain (op 0 Insert 3 1)) 19 (of unfinished 2 most ∷ [])
    ∷ lending (of steps 2 4294967293 ∷ []) (plain insert_nine) 19 (of steps 2 4294967293 ∷ [])
    ∷ lending (of no 6 most ∷ []) (deep (start 0 Range 0 63 5)) 19 (of no 6 most ∷ [])
    ∷ lending (refusal 5 most ∷ []) short 19 (refusal 5 most ∷ [])
    -- one that it fills, and fields that it leaves
    ∷ lending (of steps 2 4294967292 ∷ []) (plain insert_nine) 0 (of starts 2 1 ∷ of yes 2 1 ∷ of steps 2 most ∷ of largest 2 3 ∷ [])
    ∷ lending (of largest 2 most ∷ of no 2 most ∷ of yes 1 most ∷ refusal 5 most ∷ []) (plain insert_nine) 0
    (of starts 2 1 ∷ of yes 2 1 ∷ of steps 2 3 ∷ of largest 2 most ∷ of no 2 most ∷ of yes 1 most ∷ refusal 5 most ∷ [])
    -- places of no action and no refusal
    ∷ lending (of starts 0 most ∷ of starts 7 most ∷ of largest 0 most ∷ refusal 0 most ∷ refusal 6 7 ∷ []) short 0
    (of starts 0 most ∷ of starts 7 most ∷ of largest 0 most ∷ refusal 0 most ∷ refusal 6 7 ∷ refusal 5 1 ∷ [])
    ∷ []

record Handed : Type 0 where
  refuses : ℕ
  then : List ℕ

abbrev handed : Lent → Handed
handed c = record { refuses = (tally_report c.asks.file c.asks.room (filled c.lent)).refusal; then = tally_numbers c.asks.file c.asks.room (filled c.lent) }

abbrev promised : Lent → Handed
promised c = record { refuses = c.answer; then = filled c.leaves }

lent_tallies : map handed lendings ≡ map promised lendings
unfolding tally_report tally_numbers added add_refusal within file_tally records_tally refused_once ledger enter busy_with left_busy sum join taken listed
    after advance run_refusal run_report count_of record_at file_refusal check replaceable between reaches adding back reached_first reached_next
    carried_out stepped started asked record_step reached onward followed blocked lacks cleared lost probe replaced beside step ite has insert remove union
    cut below from size least drop_least upper_half lower_half split_key put take_out merge inside lower upper ones_in count_trailing_zeros
lent_tallies = refl
