-- Small histories, computed: the refusals of the definition, and runs written as histories. One theorem for each table.
use mathlib.Core.Path.{◌≡◌, refl}
use mathlib.Core.List.{List, [], ◌∷◌, ◌++◌}
use Prim.Native.Nat.{ℕ, ◌-◌}
use Rattle.container.specs.Choice.{ite}
use Rattle.container.specs.Container.{has, insert, remove, union, cut, below, from, size, least, drop_least, upper_half, lower_half, split_key}
use Rattle.container.specs.Depths.{put, take_out, merge, within, lower, upper}
use lib.Count.{ones_in, count_trailing_zeros}
use lib.ListN.{length, replicate}
use Rattle.definitions.specs.Nodes.{check, replaceable}
use Rattle.definitions.specs.Frames.{back}
use Rattle.definitions.specs.Steps.{reached, blocked, lacks, cleared, lost, probe, replaced, beside, step}
use Rattle.definitions.specs.Records.{taken, stepped, started, record_step}
use Rattle.definitions.specs.Schedule.{count_of, record_at, file_refusal, records_of}
use Rattle.definitions.specs.Merge.{fault}
use Rattle.definitions.specs.Run.{advance, after}
use Rattle.definitions.specs.Written.{written, written_refusal, written_report, written_buffer}
use Rattle.definitions.specs.declared.Written.{Written}
use Rattle.definitions.specs.History.{reading, in_place, all_in_place, unfinished, form_refusal, events_refusal, history_refusal}

-- ---- refusals

-- an event out of place comes before over twelve operations, and that before an unfinished one
abbrev many : List ℕ → List ℕ
many last =
    0 ∷ 1 ∷ 5 ∷ 0 ∷ 0 ∷ 1 ∷ 5 ∷ 1 ∷ 0 ∷ 1 ∷ 5 ∷ 0 ∷ 0 ∷ 1 ∷ 5 ∷ 1 ∷ 0 ∷ 1 ∷ 5 ∷ 0 ∷ 0 ∷ 1 ∷ 5 ∷ 1
    ∷ 0 ∷ 1 ∷ 5 ∷ 0 ∷ 0 ∷ 1 ∷ 5 ∷ 1 ∷ 0 ∷ 1 ∷ 5 ∷ 0 ∷ 0 ∷ 1 ∷ 5 ∷ 1 ∷ 0 ∷ 1 ∷ 5 ∷ 0 ∷ 0 ∷ 1 ∷ 5 ∷ 1
    ∷ 0 ∷ 1 ∷ 5 ∷ 0 ∷ 0 ∷ 1 ∷ 5 ∷ 1 ∷ 0 ∷ 1 ∷ 5 ∷ 0 ∷ 0 ∷ 1 ∷ 5 ∷ 1 ∷ 0 ∷ 1 ∷ 5 ∷ 0 ∷ 0 ∷ 1 ∷ 5 ∷ 1
    ∷ 0 ∷ 1 ∷ 5 ∷ 0 ∷ 0 ∷ 1 ∷ 5 ∷ 1 ∷ 0 ∷ 1 ∷ 5 ∷ 0 ∷ 0 ∷ 1 ∷ 5 ∷ 1 ∷ last

abbrev files : List (List ℕ)
files =
    -- under three bytes; another version; another length
    []
    ∷ (1 ∷ 0 ∷ [])
    ∷ (2 ∷ 0 ∷ 0 ∷ [])
    ∷ (2 ∷ 0 ∷ 9 ∷ [])
    ∷ (1 ∷ 0 ∷ 1 ∷ [])
    ∷ (1 ∷ 0 ∷ 0 ∷ 0 ∷ [])
    -- no events
    ∷ (1 ∷ 0 ∷ 0 ∷ [])
    -- a finish on an idle thread; a start on a busy one; another station; another action
    ∷ (1 ∷ 0 ∷ 1 ∷ 0 ∷ 2 ∷ 5 ∷ 1 ∷ [])
    ∷ (1 ∷ 0 ∷ 2 ∷ 0 ∷ 2 ∷ 5 ∷ 0 ∷ 0 ∷ 1 ∷ 5 ∷ 0 ∷ [])
    ∷ (1 ∷ 0 ∷ 2 ∷ 0 ∷ 2 ∷ 5 ∷ 0 ∷ 0 ∷ 2 ∷ 6 ∷ 2 ∷ [])
    ∷ (1 ∷ 0 ∷ 2 ∷ 0 ∷ 2 ∷ 5 ∷ 0 ∷ 0 ∷ 3 ∷ 5 ∷ 2 ∷ [])
    -- a thread, an action, a station and a mark out of range
    ∷ (1 ∷ 0 ∷ 1 ∷ 4 ∷ 2 ∷ 5 ∷ 0 ∷ [])
    ∷ (1 ∷ 0 ∷ 1 ∷ 0 ∷ 4 ∷ 5 ∷ 0 ∷ [])
    ∷ (1 ∷ 0 ∷ 1 ∷ 0 ∷ 0 ∷ 5 ∷ 0 ∷ [])
    ∷ (1 ∷ 0 ∷ 1 ∷ 0 ∷ 2 ∷ 64 ∷ 0 ∷ [])
    ∷ (1 ∷ 0 ∷ 1 ∷ 0 ∷ 2 ∷ 5 ∷ 3 ∷ [])
    -- unfinished; finished
    ∷ (1 ∷ 0 ∷ 1 ∷ 0 ∷ 2 ∷ 63 ∷ 0 ∷ [])
    ∷ (1 ∷ 0 ∷ 2 ∷ 3 ∷ 2 ∷ 63 ∷ 0 ∷ 3 ∷ 2 ∷ 63 ∷ 2 ∷ [])
    -- twelve operations; thirteen, the last unfinished; thirteen and an event out of place
    ∷ (1 ∷ 0 ∷ 24 ∷ many (0 ∷ 1 ∷ 5 ∷ 0 ∷ 0 ∷ 1 ∷ 5 ∷ 1 ∷ []))
    ∷ (1 ∷ 0 ∷ 25 ∷ many (0 ∷ 1 ∷ 5 ∷ 0 ∷ 0 ∷ 1 ∷ 5 ∷ 1 ∷ 0 ∷ 1 ∷ 5 ∷ 0 ∷ []))
    ∷ (1 ∷ 0 ∷ 26 ∷ many (0 ∷ 1 ∷ 5 ∷ 0 ∷ 0 ∷ 1 ∷ 5 ∷ 1 ∷ 0 ∷ 1 ∷ 5 ∷ 0 ∷ 0 ∷ 1 ∷ 6 ∷ 1 ∷ []))
    ∷ []

abbrev refusals : List (List ℕ) → List ℕ
refusals [] = []
refusals (f ∷ fs) = history_refusal f ∷ refusals fs

pub refused_so : refusals files ≡ 1 ∷ 1 ∷ 2 ∷ 2 ∷ 4 ∷ 4 ∷ 0 ∷ 21 ∷ 21 ∷ 21 ∷ 21 ∷ 21 ∷ 21 ∷ 21 ∷ 21 ∷ 21 ∷ 23 ∷ 0 ∷ 0 ∷ 22 ∷ 21 ∷ []
unfolding ite count_of reading in_place all_in_place unfinished form_refusal events_refusal history_refusal
refused_so = refl

-- ---- runs as histories

-- a schedule, the buffer's length, and what History hands back: the refusal, and the history at the buffer's start
record Case : Type 0 where
  file : List ℕ
  room : ℕ
  refusal : ℕ
  history : List ℕ

record Outcome : Type 0 where
  report : Written
  buffer : List ℕ

-- each byte of the buffer before the call
abbrev untouched : ℕ
untouched = 170

abbrev outcome : Case → Outcome
outcome c = record { report = written_report c.file c.room; buffer = written_buffer c.file (replicate c.room untouched) }

abbrev expected : Case → Outcome
expected c = record { report = record { refusal = c.refusal; length = length c.history }; buffer = c.history ++ replicate (c.room - length c.history) untouched }

abbrev cases : List Case
cases =
    -- no records
    record { file = 1 ∷ 0 ∷ 0 ∷ []; room = 4; refusal = 0; history = 1 ∷ 0 ∷ 0 ∷ [] }
    -- insert 9
    ∷ record { file = 1 ∷ 0 ∷ 4 ∷ 2 ∷ 9 ∷ 0 ∷ 0 ∷ 0 ∷ 0 ∷ 0 ∷ 0 ∷ []; room = 20; refusal = 0; history = 1 ∷ 0 ∷ 2 ∷ 0 ∷ 2 ∷ 9 ∷ 0 ∷ 0 ∷ 2 ∷ 9 ∷ 2 ∷ [] }
    -- t0 insert 3; between its steps t1 lookup 3 starts and says no
    ∷ record {
      file = 1 ∷ 0 ∷ 6 ∷ 2 ∷ 3 ∷ 0 ∷ 0 ∷ 17 ∷ 3 ∷ 16 ∷ 0 ∷ 0 ∷ 0 ∷ 0 ∷ 0 ∷ [];
      room = 27;
      refusal = 0;
      history = 1 ∷ 0 ∷ 4 ∷ 0 ∷ 2 ∷ 3 ∷ 0 ∷ 1 ∷ 1 ∷ 3 ∷ 0 ∷ 1 ∷ 1 ∷ 3 ∷ 1 ∷ 0 ∷ 2 ∷ 3 ∷ 2 ∷ [];
    }
    -- insert 3 left open; a record that is refused ends the run: a step of an idle thread
    ∷ record { file = 1 ∷ 0 ∷ 4 ∷ 2 ∷ 3 ∷ 0 ∷ 0 ∷ 16 ∷ 0 ∷ 17 ∷ 3 ∷ []; room = 19; refusal = 12; history = 1 ∷ 0 ∷ 1 ∷ 0 ∷ 2 ∷ 3 ∷ 0 ∷ [] }
    -- insert 3, split 3: too few stations, answer 2
    ∷ record {
      file = 1 ∷ 0 ∷ 7 ∷ 2 ∷ 3 ∷ 0 ∷ 0 ∷ 0 ∷ 0 ∷ 0 ∷ 0 ∷ 4 ∷ 3 ∷ 0 ∷ 0 ∷ 0 ∷ 0 ∷ [];
      room = 31;
      refusal = 0;
      history = 1 ∷ 0 ∷ 4 ∷ 0 ∷ 2 ∷ 3 ∷ 0 ∷ 0 ∷ 2 ∷ 3 ∷ 2 ∷ 0 ∷ 4 ∷ 3 ∷ 0 ∷ 0 ∷ 4 ∷ 3 ∷ 3 ∷ [];
    }
    -- refused: under three bytes, a version, a count, a length, and a buffer one byte short
    ∷ record { file = 1 ∷ []; room = 3; refusal = 1; history = [] }
    ∷ record { file = 2 ∷ 0 ∷ 0 ∷ []; room = 3; refusal = 2; history = [] }
    ∷ record { file = 1 ∷ 16 ∷ 1 ∷ []; room = 3; refusal = 3; history = [] }
    ∷ record { file = 1 ∷ 0 ∷ 1 ∷ []; room = 3; refusal = 4; history = [] }
    ∷ record { file = 1 ∷ 0 ∷ 1 ∷ 2 ∷ 3 ∷ []; room = 6; refusal = 5; history = [] }
    ∷ []

abbrev outcomes : (Case → Outcome) → List Case → List Outcome
outcomes f [] = []
outcomes f (c ∷ cs) = f c ∷ outcomes f cs

pub written_so : outcomes outcome cases ≡ outcomes expected cases
unfolding ite count_of record_at file_refusal fault put take_out merge within lower upper records_of advance after written written_refusal
    written_report written_buffer back check replaceable reached blocked lacks cleared lost probe replaced beside step taken stepped started
    record_step has insert remove union cut below from size least drop_least upper_half lower_half split_key ones_in count_trailing_zeros
written_so = refl
