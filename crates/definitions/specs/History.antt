-- The history file, what it says and when it is refused (02, j). Events are read in order; nothing here searches.
use Rattle.std.specs.Prelude.{ℕ, zero, suc, ◌+◌, ◌*◌, Bool, true, false, not, ◌||◌, ◌&&◌, List, eqb, ltb, length, get_or, Option, Some, None}
use Rattle.container.specs.Choice.{ite, upd}
use Rattle.definitions.specs.Schedule.{count_of}

-- "each event four bytes: thread, action 1 to 3, station, and 0 for start or 1 and 2 for finishing with no or yes"
pub record Event : Type 0 where
  pub thread : ℕ
  pub action : ℕ
  pub station : ℕ
  pub mark : ℕ

-- the events, counted from 0
abbrev pub Events : Type 0
Events = ℕ → Event

abbrev pub events_of : List ℕ → Events
events_of file k = record {
  thread = get_or file (3 + 4 * k) 0;
  action = get_or file (4 + 4 * k) 0;
  station = get_or file (5 + 4 * k) 0;
  mark = get_or file (6 + 4 * k) 0;
}

-- ---- the operations, "numbered from 0 by their starts"

-- an operation: what its start says, its answer (no until it finishes), and which operations had finished when it started
pub record Operation : Type 0 where
  pub action : ℕ
  pub station : ℕ
  pub yes : Bool
  pub finished_before : ℕ → Bool

-- the operations that have started, by number
pub record Operations : Type 0 where
  pub count : ℕ
  pub operation : ℕ → Operation

abbrev pub operations : ℕ → (ℕ → Operation) → Operations
operations n f = record { count = n; operation = f }

-- what a part of a history says: the operations, each thread's open one by its number, and which have finished
pub record Reading : Type 0 where
  pub all : Operations
  pub busy : ℕ → Option ℕ
  pub finished : ℕ → Bool

abbrev pub no_operation : Operation
no_operation = record { action = 0; station = 0; yes = false; finished_before = λ _. false }

abbrev pub unread : Reading
unread = record { all = operations 0 (λ _. no_operation); busy = λ _. None; finished = λ _. false }

-- a start: the next number, on its thread
abbrev pub begun : Event → Reading → Reading
begun e R = record {
  all = operations (suc R.all.count) (upd R.all.operation R.all.count (record { action = e.action; station = e.station; yes = false; finished_before = R.finished }));
  busy = upd R.busy e.thread (Some R.all.count);
  finished = R.finished;
}

abbrev pub answered : Operation → Bool → Operation
answered o y = record { action = o.action; station = o.station; yes = y; finished_before = o.finished_before }

-- a finish of what its thread has open
abbrev pub ended_by : Option ℕ → Event → Reading → Reading
ended_by None e R = R
ended_by (Some i) e R = record {
  all = operations R.all.count (upd R.all.operation i (answered (R.all.operation i) (eqb e.mark 2)));
  busy = upd R.busy e.thread None;
  finished = upd R.finished i true;
}

abbrev pub noted : Event → Reading → Reading
noted e R = ite (eqb e.mark 0) (begun e R) (ended_by (R.busy e.thread) e R)

-- the first k events
unfoldable pub reading : Events → ℕ → Reading
reading E zero = unread
reading E (suc k) = noted (E k) (reading E k)

-- ---- what is refused

abbrev pub is_open : Option ℕ → Bool
is_open None = false
is_open (Some _) = true

-- "thread, action 1 to 3, station, and 0 for start or 1 and 2": four threads and 64 stations (01, "What the bench holds")
abbrev pub in_range : Event → Bool
in_range e = ltb e.thread 4 && (ltb 0 e.action && (ltb e.action 4 && (ltb e.station 64 && ltb e.mark 3)))

-- a finish that agrees in action and station with what its thread has open
abbrev pub closes : Option ℕ → Event → Reading → Bool
closes None e R = false
closes (Some i) e R = eqb e.action (R.all.operation i).action && eqb e.station (R.all.operation i).station

-- "a field is outside its range, a start falls on a busy thread or a finish on an idle one, or a finish differs in action or
-- station from what its thread has open"; R is what the events before it say
unfoldable pub in_place : Event → Reading → Bool
in_place e R = in_range e && ite (eqb e.mark 0) (not (is_open (R.busy e.thread))) (closes (R.busy e.thread) e R)

-- each of the first k events is in place
unfoldable pub all_in_place : Events → ℕ → Bool
all_in_place E zero = true
all_in_place E (suc k) = all_in_place E k && in_place (E k) (reading E k)

-- some thread has an operation open
unfoldable pub unfinished : Reading → Bool
unfinished R = is_open (R.busy 0) || (is_open (R.busy 1) || (is_open (R.busy 2) || is_open (R.busy 3)))

-- what the whole file says
abbrev pub reading_of : List ℕ → Reading
reading_of file = reading (events_of file) (count_of file)

-- "It refuses a malformed file with 1, 2 or 4": under three bytes, a version other than 1, a length other than 3 + 4 × count
unfoldable pub form_refusal : List ℕ → ℕ
form_refusal file =
    ite (ltb (length file) 3) 1
    (ite (eqb (get_or file 0 0) 1)
    (ite (eqb (length file) (3 + 4 * count_of file)) 0 4)
    2)

-- "an event out of place with 21, over 12 operations with 22 and an unfinished one with 23, in that order"; E is n events
unfoldable pub events_refusal : Events → ℕ → ℕ
events_refusal E n =
    ite (all_in_place E n)
    (ite (ltb 12 (reading E n).all.count) 22
    (ite (unfinished (reading E n)) 23 0))
    21

unfoldable pub history_refusal : List ℕ → ℕ
history_refusal file = ite (eqb (form_refusal file) 0) (events_refusal (events_of file) (count_of file)) (form_refusal file)
