-- Runs with the stop (02, request h), shown of the definitions: version 3 files beside version 2 files of the same records.
use Prim.Native.Nat.{ℕ, zero, suc, ◌+◌}
use Prim.Native.String.{String}
use mathlib.Core.Path.{◌≡◌, refl, ◌∙◌}
use mathlib.Core.List.{List, [], ◌∷◌, ◌++◌, map}
use lib.Count.{ones_in, count_trailing_zeros}
use Rattle.container.specs.Choice.{ite}
use Rattle.container.specs.Container.{has, insert, remove, union, cut, below, from, size, least, drop_least, upper_half, lower_half, split_key}
use Rattle.container.specs.Depths.{put, take_out, merge, within, lower, upper}
use Rattle.definitions.specs.Nodes.{check, replaceable}
use Rattle.definitions.specs.Frames.{between, reaches, adding, back}
use Rattle.definitions.specs.Steps.{reached, onward, followed, blocked, lacks, cleared, lost, probe, replaced, beside, reached_first, reached_next, step}
use Rattle.definitions.specs.Records.{taken, stepped, started, asked, record_step}
use Rattle.definitions.specs.Schedule.{count_of, record_at, file_refusal}
use Rattle.definitions.specs.Run.{bytes_of, run_refusal}
use Rattle.definitions.specs.Listing.{decimal, stations_to, stations_text, route_line, base_line, set_line, list_refusal}
use Rattle.definitions.proofs.DeepCases.{steps, start, op, says, found, run, refusing}
use Rattle.definitions.proofs.Cases.{Lookup, Insert, Split, Join, Case, outcome, promised, quick, map_quick}

-- a chain of k routes with keys 1 to k, and the base of station k at its end, the right child of the last: t0 inserts 0 and, for each
-- station after it, inserts that and splits its base. Below d routes each takes d + 5 steps
abbrev chain : ℕ → List ℕ
chain zero = op 0 Insert 0 3
chain (suc zero) = op 0 Insert 0 3 ++ op 0 Insert 1 3 ++ op 0 Split 1 3
chain (suc (suc k)) = chain (suc k) ++ op 0 Insert (2 + k) (6 + k) ++ op 0 Split (2 + k) (6 + k)

abbrev chain_rows : ℕ → List ℕ
chain_rows zero = says 0 Insert 0 1
chain_rows (suc k) = chain_rows k ++ says 0 Insert (suc k) 1 ++ says 0 Split (suc k) 1

abbrev eight : List ℕ
eight = 0 ∷ 1 ∷ 2 ∷ 3 ∷ 4 ∷ 5 ∷ 6 ∷ 7 ∷ 8 ∷ []

-- the tree of the chain of 8 routes, the base of station 7 given
abbrev eight_text : String → List String
eight_text seven =
    "0 route 1"
    ∷ "1 normal 0=0"
    ∷ "1 route 2"
    ∷ "2 normal 1=0"
    ∷ "2 route 3"
    ∷ "3 normal 2=0"
    ∷ "3 route 4"
    ∷ "4 normal 3=0"
    ∷ "4 route 5"
    ∷ "5 normal 4=0"
    ∷ "5 route 6"
    ∷ "6 normal 5=0"
    ∷ "6 route 7"
    ∷ "7 normal 6=0"
    ∷ "7 route 8"
    ∷ seven
    ∷ "8 normal 8=0"
    ∷ "set 0=0 1=0 2=0 3=0 4=0 5=0 6=0 7=0 8=0"
    ∷ []

-- after the chain of 8 routes: records, their rows, numbers used; the base of station 7 is a range base then
abbrev eighth : ℕ → List ℕ → List ℕ → ℕ → Case
eighth version records rows used = run version (chain 8 ++ records) (chain_rows 8 ++ rows) eight 9 used (eight_text "8 range 7=0")

-- a mark among the rows: t2 looks up station 0, in two steps
abbrev mark : List ℕ
mark = op 2 Lookup 0 2

abbrev marked : List ℕ
marked = says 2 Lookup 0 1

abbrev Range : ℕ
Range = 6

-- two stations and a split
abbrev pair : List ℕ
pair = op 0 Insert 3 3 ++ op 0 Insert 9 3 ++ op 0 Split 3 3

abbrev pair_rows : List ℕ
pair_rows = says 0 Insert 3 1 ++ says 0 Insert 9 1 ++ says 0 Split 3 1

abbrev table : List Case
table =
    eighth 3
    -- a lookup of station 8 takes eleven steps, two of them to be counted; while it is, after its tenth step, a join of station 3 gets 7 at its seventh
    (op 1 Lookup 8 10 ++ op 0 Join 3 6 ++ mark ++ steps 0 1 ++ steps 1 1
    -- a lookup of station 7, beside it, as well; a lookup of station 6, below seven routes, is not counted
    ++ op 1 Lookup 7 10 ++ mark ++ steps 1 1 ++ op 1 Lookup 6 7 ++ mark ++ steps 1 1
    -- an insert too takes two steps more: it goes from 5 to 3
    ++ op 1 Insert 8 14 ++ mark ++ steps 1 1
    -- "Range queries neither count nor wait": 14 steps as with the stop off
    ++ start 1 Range 7 7 13 ++ mark ++ steps 1 1
    -- beside a search before the step that adds one, and a query, a join goes on
    ++ op 1 Lookup 8 9 ++ start 3 Range 7 7 9 ++ op 0 Join 3 7)
    (marked ++ says 0 Join 3 7 ++ says 1 Lookup 8 1
    ++ marked ++ says 1 Lookup 7 1 ++ marked ++ says 1 Lookup 6 1
    ++ marked ++ says 1 Insert 8 0
    ++ marked ++ found 1 7 (7 ∷ [])) 36
    -- with the stop off: nine steps; a join goes on beside a search below the 8th route
    ∷ eighth 2
    (op 1 Lookup 8 8 ++ mark ++ steps 1 1 ++ start 1 Range 7 7 13 ++ mark ++ steps 1 1 ++ op 1 Lookup 8 8 ++ op 0 Join 3 7)
    (marked ++ says 1 Lookup 8 1 ++ marked ++ found 1 7 (7 ∷ [])) 35
    -- 01's join: one step more, at its 22nd
    ∷ run 3 (pair ++ op 0 Join 3 21) pair_rows (3 ∷ 9 ∷ []) 2 9 ("0 neighbour 3=0 9=0" ∷ "set 3=0 9=0" ∷ [])
    ∷ run 3 (pair ++ op 0 Join 3 22) (pair_rows ++ says 0 Join 3 1) (3 ∷ 9 ∷ []) 2 9 ("0 neighbour 3=0 9=0" ∷ "set 3=0 9=0" ∷ [])
    -- version 3 is version 2 in all else: refusals
    ∷ refusing 3 8 (start 0 7 3 3 0)
    ∷ refusing 3 14 (start 0 Insert 3 10000 0)
    ∷ refusing 3 15 (start 0 Range 3 2 0)
    ∷ []

by_computing : map quick table ≡ map promised table
unfolding bytes_of record_at between reaches adding back reached_first reached_next asked put take_out merge within lower upper decimal stations_to stations_text
    route_line base_line set_line list_refusal check replaceable taken stepped started record_step run_refusal count_of file_refusal reached onward followed blocked lacks
    cleared lost probe replaced beside step ite has insert remove union cut below from size least drop_least upper_half lower_half split_key ones_in count_trailing_zeros
by_computing = refl

pub stop_runs : map outcome table ≡ map promised table
stop_runs = map_quick table ∙ by_computing
