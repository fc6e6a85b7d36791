-- A version 1 run written as a history (02, j: "its accepted start records and rows written as events in turn order"), what History
-- hands back for every file and buffer, and the claim that Judge accepts such a history. The proof is in crate passing.
use Rattle.std.specs.Prelude.{ℕ, zero, suc, ◌+◌, ◌*◌, ◌/◌, ◌%◌, ◌≤◌, ◌<◌, ◌≡◌, true, List, [], ◌∷◌, ◌++◌, eqb, ltb, length}
use Rattle.container.specs.Choice.{ite}
use Rattle.definitions.specs.Bench.{Bench, fresh}
use Rattle.definitions.specs.Answers.{answer_number}
use Rattle.definitions.specs.Records.{Row, no_row, row, Result, refused, carried, record_step, action_number, is_idle}
use Rattle.definitions.specs.Run.{ended, overlay}
use Rattle.definitions.specs.Schedule.{Rec, version, stop_of, records_of, count_of}
use Rattle.definitions.specs.Merge.{fault}
use Rattle.definitions.specs.History.{Event}
use Rattle.definitions.specs.Judgement.{Judgement}
use Rattle.definitions.specs.declared.Answer.{Answer}
use Rattle.definitions.specs.declared.Judged.{Judged}
use Rattle.definitions.specs.declared.Written.{Written}

-- ---- the events of a run

-- "0 for start or 1 and 2 for finishing with no or yes"; a split or join that did nothing has a mark above these
abbrev pub finish_mark : Answer → ℕ
finish_mark a = suc (answer_number a)

-- the events of a record with action n that is carried out from bench b: a start, or the row that a step adds, as
-- `rowBytes` of Run.antt has it: thread, action, station, answer
abbrev pub event_of : ℕ → Bench → Rec → Row → List Event
event_of zero b r no_row = []
event_of zero b r (row a d c) =
    record { thread = r.first / 16; action = action_number (b.threads (r.first / 16)).action; station = (b.threads (r.first / 16)).station; mark = finish_mark a } ∷ []
event_of (suc n) b r w = record { thread = r.first / 16; action = suc n; station = r.second; mark = 0 } ∷ []

abbrev pub events_by : Result → Bench → Rec → (Bench → List Event) → List Event
events_by (refused _) b r onward = []
events_by (carried b' w) b r onward = event_of (r.first % 16) b r w ++ onward b'

-- "in turn order"; "the first one refused ends the run" (01)
abbrev pub events_from : List Rec → Bench → List Event
events_from [] b = []
events_from (r ∷ rs) b = events_by (record_step b r.last r.first r.second r.extra) b r (λ b'. events_from rs b')

-- the events of a schedule's run
abbrev pub run_events : List ℕ → List Event
run_events file = events_from (records_of file (count_of file)) (fresh (stop_of file))

-- ---- as a file: "version byte 1, two-byte big-endian count of events, each event four bytes"

abbrev pub bytes_of : List Event → List ℕ
bytes_of [] = []
bytes_of (e ∷ es) = e.thread ∷ e.action ∷ e.station ∷ e.mark ∷ bytes_of es

abbrev pub history_of : List Event → List ℕ
history_of es = 1 ∷ length es / 256 ∷ length es % 256 ∷ bytes_of es

unfoldable pub written : List ℕ → List ℕ
written file = history_of (run_events file)

-- ---- what History hands back

-- the refusals 1 to 4 of a schedule that must be of version 1, as Merge's, then a buffer under 3 + 4 × count bytes (5); n is the buffer's length
unfoldable pub written_refusal : List ℕ → ℕ → ℕ
written_refusal file n = ite (eqb (fault file) 0) (ite (ltb n (3 + 4 * count_of file)) 5 0) (fault file)

-- the refusal of the record that ended the run (0 for none) and the history's length; on a refusal 1 to 5 the length is 0
unfoldable pub written_report : List ℕ → ℕ → Written
written_report file n =
    ite (eqb (written_refusal file n) 0)
    (record { refusal = (ended file).refusal; length = length (written file) })
    (record { refusal = written_refusal file n; length = 0 })

-- the history, and the buffer's bytes after it as they were; on a refusal 1 to 5 all of them
unfoldable pub written_buffer : List ℕ → List ℕ → List ℕ
written_buffer file buffer = ite (eqb (written_refusal file (length buffer)) 0) (overlay (written file) buffer) buffer

-- ---- "must pass if it has only lookups, inserts and removes, at most 12, all finished"

abbrev pub OnlyThree : List Event → Type 0
OnlyThree [] = Unit {0}
OnlyThree (e ∷ es) = (e.action ≤ 3) × OnlyThree es

abbrev pub start_of : ℕ → ℕ
start_of zero = 1
start_of (suc _) = 0

-- how many operations start
abbrev pub starts : List Event → ℕ
starts [] = 0
starts (e ∷ es) = start_of e.mark + starts es

-- no thread has an operation open
abbrev pub AllFinished : Bench → Type 0
AllFinished b = (t : ℕ) → t < 4 → is_idle (b.threads t) ≡ true

-- the rows of a history's finishes, as Run writes them
abbrev pub row_of : ℕ → Event → List ℕ
row_of zero e = []
row_of (suc a) e = e.thread ∷ e.action ∷ e.station ∷ a ∷ []

abbrev pub rows_of : List Event → List ℕ
rows_of [] = []
rows_of (e ∷ es) = row_of e.mark e ++ rows_of es

-- the finishes are Run's rows, byte for byte, and Judge accepts
pub record Passes (file : List ℕ) : Type 0 where
  pub rows : (ended file).rows ≡ rows_of (run_events file)
  pub judged : (r : Judged) → Judgement (written file) r → (r.refusal ≡ 0) × (r.accepted ≡ true)

-- the claim, of every file of version 1
abbrev pub RunsPass : Type 0
RunsPass = (file : List ℕ) → version file ≡ 1 → OnlyThree (run_events file) → starts (run_events file) ≤ 12 → AllFinished (ended file).bench → Passes file
