-- The tally of a season's schedules (02, f): what one file's run adds to it, and when it is refused with 19. A tally is 65 numbers; where
-- each stands is include/nuxalder.h's order.
use Rattle.std.specs.Prelude.{ℕ, zero, suc, max, ◌+◌, ◌/◌, ◌%◌, ◌^◌, Bool, true, ◌&&◌, List, [], ◌∷◌, eqb, ltb, get_or}
use Rattle.container.specs.Choice.{ite, upd}
use Rattle.definitions.specs.Threads.{Thread}
use Rattle.definitions.specs.Answers.{is_yes}
use Rattle.definitions.specs.Records.{Row, no_row, row, Result, refused, carried, is_idle, record_step, action_number}
use Rattle.definitions.specs.Schedule.{Rec, record_at, count_of}
use Rattle.definitions.specs.Run.{Progress, after, ended, run_refusal, run_report}
use Rattle.definitions.specs.declared.Answer.{Answer}
use Rattle.season.specs.declared.Tallied.{Tallied}

-- ---- the numbers of a tally

-- "for each action, a row with accepted starts, yes, no, unfinished at the end, and the total and the largest number of own steps of its
-- finished operations"
pub data Field : Type 0 where
  starts : Field
  yes : Field
  no : Field
  unfinished : Field
  steps : Field
  largest : Field

-- eight places for each field, one for each action number
abbrev pub place : Field → ℕ → ℕ
place starts a = a
place yes a = 8 + a
place no a = 16 + a
place unfinished a = 24 + a
place steps a = 32 + a
place largest a = 40 + a

-- then "refusals by number"
abbrev pub refusal_place : ℕ → ℕ
refusal_place k = 48 + k

-- the number at each place
abbrev pub Tally : Type 0
Tally = ℕ → ℕ

abbrev pub empty : Tally
empty i = 0

-- n at place i
abbrev pub just : ℕ → ℕ → Tally
just i n j = ite (eqb i j) n 0

-- ---- adding, field by field

-- two numbers of place i: their sum, but "the largest taken for the largest"
unfoldable pub join : ℕ → ℕ → ℕ → ℕ
join i x y = ite (eqb (i / 8) 5) (max x y) (x + y)

unfoldable pub sum : Tally → Tally → Tally
sum t u i = join i (t i) (u i)

-- ---- one run, record by record

-- `own`: the own steps of each thread's last operation, its accepted step records since its start
pub record Ledger : Type 0 where
  pub own : ℕ → ℕ
  pub counts : Tally

abbrev pub ledger_of : (ℕ → ℕ) → Tally → Ledger
ledger_of o c = record { own = o; counts = c }

-- yes is the answer 1; "The tally's no column takes all of 2 to 7" (02, k), and a range query's 0
abbrev pub column : Answer → Field
column y = ite (is_yes y) yes no

-- "the total and the largest number of own steps": n of an operation of action a
unfoldable pub taken : ℕ → ℕ → Tally
taken a n = sum (just (place steps a) n) (just (place largest a) n)

-- an accepted record of action a (0 for a step) of thread t, which was th. The step that finishes is its operation's own
abbrev pub entered : ℕ → ℕ → Thread → Row → Ledger → Ledger
entered zero t th no_row l = ledger_of (upd l.own t (suc (l.own t))) l.counts
entered zero t th (row y d c) l =
    ledger_of (upd l.own t (suc (l.own t)))
    (sum l.counts (sum (just (place (column y) (action_number th.action)) 1) (taken (action_number th.action) (suc (l.own t)))))
entered (suc a) t th w l = ledger_of (upd l.own t 0) (sum l.counts (just (place starts (suc a)) 1))

-- a refused record adds nothing
abbrev pub entered_by : Result → ℕ → ℕ → Thread → Ledger → Ledger
entered_by (refused k) a t th l = l
entered_by (carried b w) a t th l = entered a t th w l

unfoldable pub enter : Progress → Rec → Ledger → Ledger
enter p r l =
    ite (eqb p.refusal 0)
    (entered_by (record_step p.bench r.last r.first r.second r.extra) (r.first % 16) (r.first / 16) (p.bench.threads (r.first / 16)) l)
    l

-- after the first k records of the file
unfoldable pub ledger : List ℕ → ℕ → Ledger
ledger file zero = ledger_of (λ _. 0) empty
ledger file (suc k) = enter (after file k) (record_at file k) (ledger file k)

-- "unfinished at the end": a thread that is busy then has one of its action
unfoldable pub busy_with : Thread → Tally
busy_with th = ite (is_idle th) empty (just (place unfinished (action_number th.action)) 1)

unfoldable pub left_busy : (ℕ → Thread) → Tally
left_busy f = sum (busy_with (f 0)) (sum (busy_with (f 1)) (sum (busy_with (f 2)) (busy_with (f 3))))

-- ---- one file

-- one of refusal k, none of 0
unfoldable pub refused_once : ℕ → Tally
refused_once k = ite (eqb k 0) empty (just (refusal_place k) 1)

-- what its records add; "a file refused before its first record adds only its refusal". n is the length of the row buffer
unfoldable pub records_tally : List ℕ → ℕ → Tally
records_tally file n = ite (eqb (run_refusal file n) 0) (sum (ledger file (count_of file)).counts (left_busy (ended file).bench.threads)) empty

unfoldable pub file_tally : List ℕ → ℕ → Tally
file_tally file n = sum (refused_once (run_report file n).refusal) (records_tally file n)

-- ---- "One running tally is lent to each file's run and is added to"

-- the first n numbers keep within 32 bits
unfoldable pub within : ℕ → Tally → Bool
within zero t = true
within (suc n) t = ltb (t n) (2 ^ 32) && within n t

abbrev pub fits : Tally → Bool
fits t = within 65 t

-- "It refuses, with 19 and the tally as before, a file that would take a field past 32 bits"
unfoldable pub added : Tally → Tally → Tally
added t one = ite (fits (sum t one)) (sum t one) t

unfoldable pub add_refusal : Tally → Tally → ℕ
add_refusal t one = ite (fits (sum t one)) 0 19

-- a tally as its 65 numbers lie in memory, and back
abbrev pub numbers : List ℕ → Tally
numbers l i = get_or l i 0

unfoldable pub listed : ℕ → ℕ → Tally → List ℕ
listed zero i t = []
listed (suc n) i t = t i ∷ listed n (suc i) t

abbrev pub laid : Tally → List ℕ
laid t = listed 65 0 t

-- what Tally hands back: "that file's own run answer [..] still given", and beside it 19, or 0 for none. l is the tally that is lent
unfoldable pub tally_report : List ℕ → ℕ → List ℕ → Tallied
tally_report file n l = record { report = run_report file n; refusal = add_refusal (numbers l) (file_tally file n) }

-- the 65 numbers after it
unfoldable pub tally_numbers : List ℕ → ℕ → List ℕ → List ℕ
tally_numbers file n l = laid (added (numbers l) (file_tally file n))
