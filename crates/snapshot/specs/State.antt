-- What State hands back for every file, every number of records and every buffer: the whole bench after the first k records, as bytes that
-- docs/STATE.md lays out.
use Rattle.std.specs.Prelude.{ℕ, List, ◌∷◌, ◌++◌, eqb, ltb, length, Option, None}
use Rattle.container.specs.Choice.{ite}
use Rattle.container.specs.Container.{all}
use Rattle.definitions.specs.Nodes.{shape}
use Rattle.definitions.specs.Bench.{Bench}
use Rattle.definitions.specs.Tree.{levels}
use Rattle.definitions.specs.Versions.{version}
use Rattle.definitions.specs.Schedule.{count_of, file_refusal}
use Rattle.definitions.specs.Run.{Progress, bytes_of, after, overlay}
use Rattle.snapshot.specs.declared.Stated.{Stated}
use Rattle.snapshot.specs.Layout.{zeros, flag, shared_bytes, each, thread_bytes, reached_below, node_bytes}

-- the range of each node that is reachable; "The range of the root is all stations"
unfoldable pub ranges : Bench → ℕ → Option ℕ
ranges b = reached_below levels (λ x. shape (b.store.nodes x)) b.store.root all (λ _. None)

-- ---- the whole

-- the number of this layout
abbrev pub layout : ℕ
layout = 1

-- 16 bytes: layout, version, records done, refusal; root, numbers used, stores shown; whether joins are stopped, and the count
unfoldable pub state_head : List ℕ → Progress → List ℕ
state_head file p =
    layout ∷ version file ∷ (bytes_of 2 p.done
    ++ p.refusal ∷ p.bench.store.root ∷ (bytes_of 2 p.bench.store.used
    ++ (bytes_of 1 p.bench.store.shown ++ flag p.bench.store.stop.on ∷ (bytes_of 1 p.bench.store.stop.count ++ zeros 5))))

unfoldable pub state_bytes : List ℕ → Progress → List ℕ
state_bytes file p =
    state_head file p
    ++ (each (λ t. thread_bytes file (p.bench.threads t)) 4
    ++ (each (λ x. node_bytes file (ranges p.bench x) (p.bench.store.nodes x)) p.bench.store.used
    ++ each (λ j. shared_bytes (p.bench.store.stores j)) p.bench.store.shown))

-- ---- the answer

-- the first k records, all of them where k is at least the count
abbrev pub reached : List ℕ → ℕ → Progress
reached file k = after file (ite (ltb k (count_of file)) k (count_of file))

-- 16 + 4 × 816 + 256 × 176 + 64 × 9
abbrev pub state_room : ℕ
state_room = 48912

-- the refusals 1 to 4, then a buffer under that many bytes, with 25; n is the buffer's length
unfoldable pub state_refusal : List ℕ → ℕ → ℕ
state_refusal file n = ite (eqb (file_refusal file) 0) (ite (ltb n state_room) 25 0) (file_refusal file)

-- a record refused among the first k ends them; its number is given, and the records done before it
abbrev pub stated_at : List ℕ → Progress → Stated
stated_at file p = record { refusal = p.refusal; records = p.done; length = length (state_bytes file p) }

unfoldable pub state_report : List ℕ → ℕ → ℕ → Stated
state_report file k n = ite (eqb (state_refusal file n) 0) (stated_at file (reached file k)) (record { refusal = state_refusal file n; records = 0; length = 0 })

-- bytes after the length are untouched, on a refusal 1 to 4 or 25 all of them
unfoldable pub state_buffer : List ℕ → ℕ → List ℕ → List ℕ
state_buffer file k buffer = ite (eqb (state_refusal file (length buffer)) 0) (overlay (state_bytes file (reached file k)) buffer) buffer
