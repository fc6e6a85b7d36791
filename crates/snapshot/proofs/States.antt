-- States worked out by hand from the places, shown of the definitions: one table that a single theorem covers. Each case has a file, a number of
-- records and a buffer's length, and all that State hands back: the report and every byte of the buffer.
use Rattle.std.specs.Prelude.{Option}
use Prim.Native.Nat.{ℕ, zero, suc, ◌+◌, ◌-◌, ◌*◌, ◌/◌, ◌%◌}
use mathlib.Core.Path.{◌≡◌, refl, sym, ap, ap₂, ◌∙◌}
use mathlib.Core.List.{List, [], ◌∷◌, ◌++◌, map}
use lib.Dec.{eqb, ltb}
use lib.Count.{ones_in, count_trailing_zeros}
use lib.ListN.{length, replicate, length-replicate, take}
use Rattle.container.specs.Choice.{ite}
use Rattle.container.specs.Container.{has, insert, remove, union, cut, below, from, size, least, drop_least, upper_half, lower_half, split_key}
use Rattle.container.specs.Depths.{find, put, take_out, merge, within, lower, upper}
use Rattle.definitions.specs.Nodes.{check, replaceable}
use Rattle.definitions.specs.Frames.{between, reaches, adding, back}
use Rattle.definitions.specs.Steps.{reached, onward, followed, blocked, lacks, cleared, lost, probe, replaced, beside, reached_first, reached_next, step}
use Rattle.definitions.specs.Records.{taken, stepped, started, asked, record_step}
use Rattle.definitions.specs.Schedule.{count_of, record_at, file_refusal}
use Rattle.definitions.specs.Run.{Progress, bytes_of, after, overlay}
use Rattle.snapshot.specs.Layout.{noted, padded, each, thread_head, frame_bytes, frames_bytes, thread_bytes, node_bytes, shared_bytes}
use Rattle.snapshot.specs.State.{ranges, state_head, state_bytes, state_refusal, state_report, state_buffer}
use Rattle.snapshot.specs.declared.Stated.{Stated}
use Rattle.definitions.proofs.Cases.{Lookup, Insert, Split, Join, untouched, holding}
use Rattle.definitions.proofs.Runs.{steps as oldSteps, op as oldOp, printed_run}
use Rattle.definitions.proofs.DeepCases.{steps, start, op, schedule, deep_run}
use Rattle.snapshot.proofs.Quick.{forward, forward_after, quick_ranges, quick_ranges_ranges, overlay_equal}

-- ---- what a state is made of (docs/STATE.md)

abbrev filled : ℕ → List ℕ → List ℕ
filled n l = l ++ replicate (n - length l) 0

abbrev no : List ℕ
no = 0 ∷ 0 ∷ []

abbrev at : ℕ → List ℕ
at x = 1 ∷ x ∷ []

abbrev head : ℕ → ℕ → ℕ → ℕ → ℕ → List ℕ
head version done refusal root used = 1 ∷ version ∷ (done / 256) ∷ (done % 256) ∷ refusal ∷ root ∷ (used / 256) ∷ (used % 256) ∷ []

-- place, action, station, extra; routes read, side, own; then route, base, parent, found, neighbour, main, grandparent, other; frames
abbrev busy : ℕ → ℕ → ℕ → ℕ → ℕ → ℕ → ℕ → List ℕ → ℕ → List ℕ → List ℕ
busy p a s x r d o notes n frames = filled 816 (filled 32 (p ∷ a ∷ s ∷ (x / 256) ∷ (x % 256) ∷ r ∷ d ∷ o ∷ (filled 16 notes ++ n ∷ [])) ++ frames)

abbrev idle : ℕ → List ℕ
idle n = replicate (816 * n) 0

-- ends, store; base in hand, base popped, key noted; begun; done; stack and backup
abbrev frame : ℕ → ℕ → List ℕ → List ℕ → List ℕ → List ℕ → ℕ → List ℕ → List ℕ → List ℕ → List ℕ
frame l h store hand popped key begun done stack backup =
    filled 16 (l ∷ h ∷ (store ++ hand ++ popped ++ key ++ begun ∷ length stack ∷ length backup ∷ [])) ++ done ++ filled 86 stack ++ filled 86 backup

-- sets of stations, eight bytes each
abbrev everything : List ℕ
everything = 255 ∷ 255 ∷ 255 ∷ 255 ∷ 255 ∷ 255 ∷ 255 ∷ 255 ∷ []

abbrev under9 : List ℕ
under9 = 0 ∷ 0 ∷ 0 ∷ 0 ∷ 0 ∷ 0 ∷ 1 ∷ 255 ∷ []

abbrev from9 : List ℕ
from9 = 255 ∷ 255 ∷ 255 ∷ 255 ∷ 255 ∷ 255 ∷ 254 ∷ 0 ∷ []

abbrev none : List ℕ
none = replicate 8 0

abbrev only3 : List ℕ
only3 = 0 ∷ 0 ∷ 0 ∷ 0 ∷ 0 ∷ 0 ∷ 0 ∷ 8 ∷ []

abbrev only9 : List ℕ
only9 = 0 ∷ 0 ∷ 0 ∷ 0 ∷ 0 ∷ 0 ∷ 2 ∷ 0 ∷ []

abbrev both : List ℕ
both = 0 ∷ 0 ∷ 0 ∷ 0 ∷ 0 ∷ 0 ∷ 2 ∷ 8 ∷ []

-- a reachable node and its range, and one that is cut off
abbrev seen : List ℕ → List ℕ
seen range = 1 ∷ range

abbrev cut_off : List ℕ
cut_off = replicate 9 0

-- 640 at station 3, 9999 at 9
abbrev at3 : List ℕ
at3 = replicate 6 0 ++ 2 ∷ 128 ∷ []

abbrev at9 : List ℕ
at9 = replicate 18 0 ++ 39 ∷ 15 ∷ []

abbrev at3and9 : List ℕ
at3and9 = at3 ++ replicate 10 0 ++ 39 ∷ 15 ∷ []

abbrev route : List ℕ → ℕ → ℕ → ℕ → ℕ → List ℕ → List ℕ
route reach key l r valid mark = filled 176 (1 ∷ (reach ++ key ∷ l ∷ r ∷ valid ∷ mark))

-- kind, reach, parent, container, what its kind has from byte 26 on, depths
abbrev base : ℕ → List ℕ → List ℕ → List ℕ → List ℕ → List ℕ → List ℕ
base kind reach parent set own depths = filled 176 (filled 48 (kind ∷ (filled 15 reach ++ parent ++ set ++ own)) ++ depths)

abbrev normal : List ℕ → List ℕ → List ℕ → List ℕ → List ℕ
normal reach parent set depths = base 0 reach parent set [] depths

-- stage 1 preparing, 2 a node number, 3 aborted, 4 done; union node, neighbour, grandparent, other child
abbrev main : List ℕ → List ℕ → List ℕ → ℕ → List ℕ → List ℕ
main reach parent set stage agreed = base 2 reach parent set (stage ∷ 0 ∷ agreed) []

abbrev neighbour : List ℕ → List ℕ → List ℕ → ℕ → List ℕ
neighbour reach parent set m = base 3 reach parent set (replicate 10 0 ++ at m) []

abbrev range : List ℕ → List ℕ → List ℕ → ℕ → ℕ → ℕ → List ℕ → List ℕ
range reach parent set l h store depths = base 4 reach parent set (replicate 12 0 ++ l ∷ h ∷ at store) depths

-- ---- cases

record Case : Type 0 where
  file : List ℕ
  count : ℕ
  room : ℕ
  gives : Stated
  bytes : List ℕ

abbrev report : ℕ → ℕ → ℕ → Stated
report k d n = record { refusal = k; records = d; length = n }

-- after k records of the file, d of them done and the next one refused where r is not 0
abbrev stands : List ℕ → ℕ → ℕ → ℕ → List ℕ → Case
stands file k d r bytes = record { file = file; count = k; room = 48912; gives = report r d (length bytes); bytes = bytes }

abbrev refusing : ℕ → ℕ → List ℕ → Case
refusing r n file = record { file = file; count = 0; room = n; gives = report r 0 0; bytes = [] }

-- 01's insert of 9
abbrev insert9 : List ℕ
insert9 = 0x01 ∷ 0x00 ∷ 0x04 ∷ 0x02 ∷ 0x09 ∷ 0x00 ∷ 0x00 ∷ 0x00 ∷ 0x00 ∷ 0x00 ∷ 0x00 ∷ []

abbrev fresh : List ℕ
fresh = normal (seen everything) no none []

-- the nodes that the printed run leaves cut off: 0, 1 and 2
abbrev early : List ℕ → List ℕ → List ℕ
early d e = normal cut_off no none [] ++ normal cut_off no only3 d ++ normal cut_off no both e

-- t0 join 3 after the printed run, t1 insert 4
abbrev joining : List ℕ
joining = 1 ∷ 0 ∷ 40 ∷ (printed_run ++ oldOp 0 Join 3 7 ++ oldOp 1 Insert 4 5 ++ oldSteps 0 14)

abbrev joined : List ℕ
joined = 1 ∷ 0 ∷ 34 ∷ (printed_run ++ oldOp 0 Join 3 21)

-- t1 asks for the stations from l to h after the printed run with depths, t2 inserts 4
abbrev asking : ℕ → ℕ → List ℕ → List ℕ
asking l h more = schedule 2 (deep_run ++ start 1 6 l h 5 ++ more)

-- after it, up to the range base 6 in the place of base 4, and its store
abbrev range_nodes : ℕ → ℕ → List ℕ
range_nodes l h = early at3 at3and9 ++ route (seen everything) 9 6 5 1 no ++ normal cut_off (at 3) only3 at3 ++ normal (seen from9) (at 3) only9 at9 ++ range (seen under9) (at 3) only3 l h 0 at3

abbrev table : List Case
table =
    -- a fresh bench; k is cut to the count
    stands (0x01 ∷ 0x00 ∷ 0x00 ∷ []) 0 0 0 (filled 16 (head 1 0 0 0 1) ++ idle 4 ++ fresh)
    ∷ stands (0x03 ∷ 0x00 ∷ 0x00 ∷ []) 7 0 0 (filled 16 (head 3 0 0 0 1 ++ 0 ∷ 1 ∷ []) ++ idle 4 ++ fresh)
    -- an insert alone: at 1, at 3 with its base, at 10, done
    ∷ stands insert9 1 1 0 (filled 16 (head 1 1 0 0 1) ++ busy 1 2 9 0 0 0 0 [] 0 [] ++ idle 3 ++ fresh)
    ∷ stands insert9 2 2 0 (filled 16 (head 1 2 0 0 1) ++ busy 3 2 9 0 0 0 0 (no ++ at 0) 0 [] ++ idle 3 ++ fresh)
    ∷ stands insert9 3 3 0 (filled 16 (head 1 3 0 0 1) ++ busy 10 2 9 0 0 0 0 (no ++ at 0) 0 [] ++ idle 3 ++ fresh)
    ∷ stands insert9 9 4 0 (filled 16 (head 1 4 0 1 2) ++ idle 4 ++ normal cut_off no none [] ++ normal (seen everything) no only9 [])
    -- a record refused among the first k: 11, and the state is the one before it; not among them: none
    ∷ stands (0x01 ∷ 0x00 ∷ 0x02 ∷ 0x12 ∷ 0x09 ∷ 0x12 ∷ 0x09 ∷ []) 2 1 11 (filled 16 (head 1 1 11 0 1) ++ idle 1 ++ busy 1 2 9 0 0 0 0 [] 0 [] ++ idle 2 ++ fresh)
    ∷ stands (0x01 ∷ 0x00 ∷ 0x02 ∷ 0x12 ∷ 0x09 ∷ 0x12 ∷ 0x09 ∷ []) 1 1 0 (filled 16 (head 1 1 0 0 1) ++ idle 1 ++ busy 1 2 9 0 0 0 0 [] 0 [] ++ idle 2 ++ fresh)
    -- t1, under way to the base of 4, stands at route 3; t0's join has put main 6 in the place of base 4
    ∷ stands joining 22 22 0 (filled 16 (head 1 22 0 3 7)
    ++ busy 26 5 3 0 0 1 1 (no ++ no ++ at 3 ++ at 5 ++ no ++ at 6) 0 [] ++ busy 2 2 4 0 0 0 0 (at 3) 0 [] ++ idle 2
    ++ early [] [] ++ route (seen everything) 9 6 5 1 no ++ normal cut_off (at 3) only3 [] ++ normal (seen from9) (at 3) only9 [] ++ main (seen under9) (at 3) only3 1 [])
    -- t1 is to kill main 6, which is not its own; then it has, and is at 1
    ∷ stands joining 24 24 0 (filled 16 (head 1 24 0 3 7)
    ++ busy 26 5 3 0 0 1 1 (no ++ no ++ at 3 ++ at 5 ++ no ++ at 6) 0 [] ++ busy 16 2 4 0 0 0 0 (no ++ no ++ no ++ no ++ no ++ at 6) 0 [] ++ idle 2
    ++ early [] [] ++ route (seen everything) 9 6 5 1 no ++ normal cut_off (at 3) only3 [] ++ normal (seen from9) (at 3) only9 [] ++ main (seen under9) (at 3) only3 1 [])
    ∷ stands joining 25 25 0 (filled 16 (head 1 25 0 3 7)
    ++ busy 26 5 3 0 0 1 1 (no ++ no ++ at 3 ++ at 5 ++ no ++ at 6) 0 [] ++ busy 1 2 4 0 0 0 0 [] 0 [] ++ idle 2
    ++ early [] [] ++ route (seen everything) 9 6 5 1 no ++ normal cut_off (at 3) only3 [] ++ normal (seen from9) (at 3) only9 [] ++ main (seen under9) (at 3) only3 3 [])
    -- a join before it decides, at 35: the parent is marked; neighbour 7 is the other child; there is no grandparent
    ∷ stands joined 26 26 0 (filled 16 (head 1 26 0 3 8)
    ++ busy 35 5 3 0 0 0 1 (no ++ no ++ at 3 ++ no ++ at 7 ++ at 6 ++ no ++ at 7) 0 [] ++ idle 3
    ++ early [] [] ++ route (seen everything) 9 6 7 1 (at 6) ++ normal cut_off (at 3) only3 [] ++ normal cut_off (at 3) only9 []
    ++ main (seen under9) (at 3) only3 1 [] ++ neighbour (seen from9) (at 3) only9 6)
    -- before 46: the union node 8 stands where the neighbour was, the parent is not valid
    ∷ stands joined 32 32 0 (filled 16 (head 1 32 0 3 9)
    ++ busy 46 5 3 0 0 0 1 (no ++ no ++ no ++ no ++ no ++ at 6) 0 [] ++ idle 3
    ++ early [] [] ++ route (seen everything) 9 6 8 0 (at 6) ++ normal cut_off (at 3) only3 [] ++ normal cut_off (at 3) only9 []
    ++ main (seen under9) (at 3) only3 2 (at 8 ++ at 7 ++ no ++ at 7) ++ neighbour cut_off (at 3) only9 6 ++ neighbour (seen from9) no both 6)
    -- done
    ∷ stands joined 4096 34 0 (filled 16 (head 1 34 0 8 9) ++ idle 4
    ++ early [] [] ++ route cut_off 9 6 8 0 (at 6) ++ normal cut_off (at 3) only3 [] ++ normal cut_off (at 3) only9 []
    ++ main cut_off (at 3) only3 4 (at 8 ++ at 7 ++ no ++ at 7) ++ neighbour cut_off (at 3) only9 6 ++ neighbour (seen everything) no both 6)
    -- an insert at a depth; the query of 0 to 2 is before 81; t2 has its frame
    ∷ stands (schedule 2 (start 0 Insert 3 640 3)) 2 2 0 (filled 16 (head 2 2 0 0 1) ++ busy 3 2 3 640 0 0 0 (no ++ at 0) 0 [] ++ idle 3 ++ fresh)
    ∷ stands (asking 0 2 (op 2 Insert 4 3)) 22 22 0 (filled 16 (head 2 22 0 3 7 ++ 1 ∷ []) ++ idle 1
    ++ busy 81 6 0 2 0 0 0 [] 1 (frame 0 2 (at 0) no no no 1 only3 [] []) ++ busy 60 2 4 0 0 0 0 [] 1 (frame 0 2 (at 0) no no no 0 none [] []) ++ idle 1
    ++ range_nodes 0 2 ++ replicate 9 0)
    -- t1 has set the result, 3: t1 is at 82
    ∷ stands (asking 0 2 (op 2 Insert 4 3 ++ steps 1 1)) 23 23 0 (filled 16 (head 2 23 0 3 7 ++ 1 ∷ []) ++ idle 1
    ++ busy 82 6 0 2 0 0 0 [] 1 (frame 0 2 (at 0) no no no 0 none [] []) ++ busy 60 2 4 0 0 0 0 [] 1 (frame 0 2 (at 0) no no no 0 none [] []) ++ idle 1
    ++ range_nodes 0 2 ++ 1 ∷ only3)
    -- the query of 0 to 63 goes on from 6: at 70, popped; at 76, with base 5 in hand
    ∷ stands (asking 0 63 []) 18 18 0 (filled 16 (head 2 18 0 3 7 ++ 1 ∷ []) ++ idle 1
    ++ busy 70 6 0 63 0 0 0 [] 1 (frame 0 63 (at 0) no (at 6) no 1 only3 (3 ∷ []) (6 ∷ 3 ∷ [])) ++ idle 2
    ++ range_nodes 0 63 ++ replicate 9 0)
    ∷ stands (asking 0 63 (steps 1 3)) 21 21 0 (filled 16 (head 2 21 0 3 7 ++ 1 ∷ []) ++ idle 1
    ++ busy 76 6 0 63 0 0 0 [] 1 (frame 0 63 (at 0) (at 5) no no 1 only3 (5 ∷ 3 ∷ []) (6 ∷ 3 ∷ [])) ++ idle 2
    ++ range_nodes 0 63 ++ replicate 9 0)
    -- 1 to 4 as Run's, then 25
    ∷ refusing 1 48912 (0x01 ∷ 0x00 ∷ [])
    ∷ refusing 2 48912 (0x04 ∷ 0x00 ∷ 0x00 ∷ [])
    ∷ refusing 3 48912 (0x01 ∷ 0x10 ∷ 0x01 ∷ [])
    ∷ refusing 4 0 (0x01 ∷ 0x00 ∷ 0x01 ∷ [])
    ∷ refusing 25 48911 (0x01 ∷ 0x00 ∷ 0x00 ∷ [])
    ∷ []

-- ---- a search that is counted: version 3, a lookup of station 8 below eight routes

-- a chain of k routes with keys 1 to k, as in crates/definitions/proofs/StopRuns.antt
abbrev chain : ℕ → List ℕ
chain zero = op 0 Insert 0 3
chain (suc zero) = op 0 Insert 0 3 ++ op 0 Insert 1 3 ++ op 0 Split 1 3
chain (suc (suc k)) = chain (suc k) ++ op 0 Insert (2 + k) (6 + k) ++ op 0 Split (2 + k) (6 + k)

abbrev far : List ℕ
far = schedule 3 (chain 8 ++ op 1 Lookup 8 11)

-- head, t0 and t1 after its 8th step, with seven routes read; after the 9th, at 4; after the 10th, at 5 and counted; after the 11th, finished, and
-- the count is 0 again
abbrev far_heads : List (ℕ × List ℕ)
far_heads =
    (161, filled 16 (head 3 161 0 3 34 ++ 0 ∷ 1 ∷ 0 ∷ []) ++ idle 1 ++ busy 2 1 8 0 7 0 0 (at 31) 0 [])
    ∷ (162, filled 16 (head 3 162 0 3 34 ++ 0 ∷ 1 ∷ 0 ∷ []) ++ idle 1 ++ busy 4 1 8 0 0 0 0 (at 33) 0 [])
    ∷ (163, filled 16 (head 3 163 0 3 34 ++ 0 ∷ 1 ∷ 1 ∷ []) ++ idle 1 ++ busy 5 1 8 0 0 0 0 (no ++ at 33) 0 [])
    ∷ (164, filled 16 (head 3 164 0 3 34 ++ 0 ∷ 1 ∷ 0 ∷ []) ++ idle 2)
    ∷ []

-- ---- the theorem

-- what is said of the far search: the number of records, and the first 1648 bytes of the state
abbrev far_outcome : ℕ × List ℕ → ℕ × List ℕ
far_outcome c = (c.0, take 1648 (state_bytes far (after far c.0)))

abbrev outcome : Case → Stated × List ℕ
outcome c = (state_report c.file c.count c.room, state_buffer c.file c.count (replicate c.room untouched))

abbrev promised : Case → Stated × List ℕ
promised c = (c.gives, holding c.bytes c.room)

-- the same where the records end at p, the ranges being given
abbrev bytes_at : List ℕ → Progress → (ℕ → Option ℕ) → List ℕ
bytes_at file p w =
    state_head file p
    ++ (each (λ t. thread_bytes file (p.bench.threads t)) 4
    ++ (each (λ x. node_bytes file (w x) (p.bench.store.nodes x)) p.bench.store.used
    ++ each (λ j. shared_bytes (p.bench.store.stores j)) p.bench.store.shown))

-- the buffer's length, the report and what is written
abbrev written_at : Case → Progress → (ℕ → Option ℕ) → ℕ × (Stated × List ℕ)
written_at c p w = (
  c.room,
  (
    ite (eqb (state_refusal c.file c.room) 0) (report p.refusal p.done (length (bytes_at c.file p w))) (report (state_refusal c.file c.room) 0 0),
    ite (eqb (state_refusal c.file c.room) 0) (bytes_at c.file p w) [],
  ),
)

abbrev in_buffer : ℕ × (Stated × List ℕ) → Stated × List ℕ
in_buffer r = (r.1.0, holding r.1.1 r.0)

buffer_of : (c : Case) (l : List ℕ)
    → ite (eqb (state_refusal c.file (length (replicate c.room untouched))) 0) (overlay l (replicate c.room untouched)) (replicate c.room untouched)
    ≡ holding (ite (eqb (state_refusal c.file c.room) 0) l []) c.room
buffer_of c l =
    ap (λ (n : ℕ). ite (eqb (state_refusal c.file n) 0) (overlay l (replicate c.room untouched)) (replicate c.room untouched)) (length-replicate c.room untouched)
    ∙ overlay_equal (eqb (state_refusal c.file c.room) 0) l c.room untouched

abbrev cut_to : Case → ℕ
cut_to c = ite (ltb c.count (count_of c.file)) c.count (count_of c.file)

abbrev quick : Case → ℕ × (Stated × List ℕ)
quick c = forward (λ p. written_at c p (quick_ranges p.bench)) c.file (cut_to c)

quick_outcome : (c : Case) → in_buffer (quick c) ≡ outcome c
unfolding state_report state_buffer state_bytes
quick_outcome c =
    let p = after c.file (cut_to c) in
    ap in_buffer (forward_after (λ p. written_at c p (quick_ranges p.bench)) c.file (cut_to c))
    ∙ (λ i. in_buffer (written_at c p (quick_ranges_ranges p.bench i)))
    ∙ (λ i. ((outcome c).0, sym (buffer_of c (bytes_at c.file p (ranges p.bench))) i))

map_quick : (cs : List Case) → map outcome cs ≡ map in_buffer (map quick cs)
map_quick [] = refl
map_quick (c ∷ cs) = ap₂ {C = List (Stated × List ℕ)} (λ o os. o ∷ os) (sym (quick_outcome c)) (map_quick cs)

-- what each case promises is in its buffer
abbrev written : Case → ℕ × (Stated × List ℕ)
written c = (c.room, (c.gives, c.bytes))

map_promised : (cs : List Case) → map in_buffer (map written cs) ≡ map promised cs
map_promised [] = refl
map_promised (c ∷ cs) = ap {B = List (Stated × List ℕ)} (λ os. promised c ∷ os) (map_promised cs)

abbrev far_quick : ℕ × List ℕ → ℕ × List ℕ
far_quick c = forward (λ p. (c.0, take 1648 (bytes_at far p (quick_ranges p.bench)))) far c.0

far_outcome_lem : (c : ℕ × List ℕ) → far_quick c ≡ far_outcome c
unfolding state_bytes
far_outcome_lem c =
    forward_after (λ p. (c.0, take 1648 (bytes_at far p (quick_ranges p.bench)))) far c.0
    ∙ (λ i. (c.0, take 1648 (bytes_at far (after far c.0) (quick_ranges_ranges (after far c.0).bench i))))

map_far : (cs : List (ℕ × List ℕ)) → map far_outcome cs ≡ map far_quick cs
map_far [] = refl
map_far (c ∷ cs) = ap₂ {C = List (ℕ × List ℕ)} (λ o os. o ∷ os) (sym (far_outcome_lem c)) (map_far cs)

by_computing : (map quick table ≡ map written table) × (map far_quick far_heads ≡ far_heads)
unfolding noted padded each thread_head frame_bytes frames_bytes thread_bytes node_bytes state_head state_refusal find bytes_of
    record_at between reaches adding back reached_first reached_next asked put take_out merge within lower upper check replaceable
    taken stepped started record_step count_of file_refusal reached onward followed blocked lacks cleared lost probe replaced beside
    step ite has insert remove union cut below from size least drop_least upper_half lower_half split_key ones_in count_trailing_zeros
by_computing = (refl, refl)

pub states : (map outcome table ≡ map promised table) × (map far_outcome far_heads ≡ far_heads)
states = (map_quick table ∙ ap (map in_buffer) by_computing.0 ∙ map_promised table, map_far far_heads ∙ by_computing.1)
