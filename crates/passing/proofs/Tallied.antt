-- What one record does to a tally that is kept while a run goes on (`tallied`): an operation counts as unfinished from its start, and no
-- longer from its row on. So a start adds two ones (`opened`), a step that goes on adds nothing (`moved`), and a row takes its operation's one
-- off, and adds its answer and its own steps (`answered`). k records add at most 4,097 k at a place (`tallied_most`), and an operation has at most k
-- own steps (`own_most`). It rests on `did` of Did.antt: a step that adds no row leaves its thread busy, with its action.
use mathlib.Core.Path.{◌≡◌, refl, sym, ap, ap₂, ◌∙◌, subst}
use mathlib.Core.Logic.{◌≢◌, inl, inr}
use mathlib.Core.Bool.{true, false}
use mathlib.Core.List.{List}
use Prim.Native.Nat.{ℕ, zero, suc, ◌+◌, ◌*◌, ◌/◌, ◌%◌, ◌≤◌, ◌<◌}
use native.Mathlib.Omega.{arith}
use native.Mathlib.Decide.{ℕ_discrete}
use borrow.Author.Tests.{eq-eqb, ne_eqb}
use Rattle.container.specs.Choice.{ite, upd}
use Rattle.definitions.specs.Threads.{Thread, idle}
use Rattle.definitions.specs.Bench.{Bench}
use Rattle.definitions.specs.Records.{Row, no_row, row, Result, refused, carried, is_idle, record_step, action_number}
use Rattle.definitions.specs.Schedule.{Rec, record_at}
use Rattle.definitions.specs.Run.{Progress, advance_by, after}
use Rattle.definitions.specs.declared.Action.{Action}
use Rattle.definitions.specs.declared.Action.TheVariants.{Lookup, Insert, Remove, Split, Join, Query}
use Rattle.definitions.specs.declared.Answer.{Answer}
use Rattle.season.specs.Tally.{starts, unfinished, place, Tally, empty, just, sum, Ledger, ledger_of, column, taken, entered, entered_by, enter, ledger, busy_with, left_busy}
use Rattle.season.proofs.Sums.{join_most, join_least, sum_at, sum_comm, sum_assoc, sum_none, none_sum, sum_swap, just_same, just_other}
use Rattle.passing.proofs.Did.{Did, did, Started, Moved}
use Rattle.passing.proofs.RunRows.{advance_on, advance_off}

-- ---- numbers of actions

pub number_some : (a : Action) → action_number a ≢ 0
number_some Lookup e = omega arith
number_some Insert e = omega arith
number_some Remove e = omega arith
number_some Split e = omega arith
number_some Join e = omega arith
number_some Query e = omega arith

pub number_small : (a : Action) → action_number a < 8
number_small Lookup = omega arith
number_small Insert = omega arith
number_small Remove = omega arith
number_small Split = omega arith
number_small Join = omega arith
number_small Query = omega arith

-- ---- the ledger's entries

pub entered_start : (c t : ℕ) (th : Thread) (w : Row) (l : Ledger) → c ≢ 0 → entered c t th w l ≡ ledger_of (upd l.own t 0) (sum l.counts (just (place starts c) 1))
entered_start zero t th w l z = absurd (z refl)
entered_start (suc c) t th w l z = refl

pub enter_on : (p : Progress) (r : Rec) (l : Ledger) → p.refusal ≡ 0
    → enter p r l ≡ entered_by (record_step p.bench r.last r.first r.second r.extra) (r.first % 16) (r.first / 16) (p.bench.threads (r.first / 16)) l
unfolding enter ite
enter_on p r l z = rw (eq-eqb p.refusal 0 z)

pub enter_off : (p : Progress) (r : Rec) (l : Ledger) → p.refusal ≢ 0 → enter p r l ≡ l
unfolding enter ite
enter_off p r l z = rw (ne_eqb p.refusal 0 z)

-- a step's entry is the one of action 0
entered_step : (c t : ℕ) (th : Thread) (w : Row) (l : Ledger) → c ≡ 0 → entered c t th w l ≡ entered 0 t th w l
entered_step c t th w l z = ap (λ (n : ℕ). entered n t th w l) z

-- ---- busy threads: one stands out

busy_idle : (th : Thread) → is_idle th ≡ true → busy_with th ≡ empty
unfolding busy_with ite
busy_idle th i = rw i

busy_now : (th : Thread) → is_idle th ≡ false → busy_with th ≡ just (place unfinished (action_number th.action)) 1
unfolding busy_with ite
busy_now th i = rw i

-- the threads but u
abbrev others : (ℕ → Thread) → ℕ → Tally
others f zero = sum (busy_with (f 1)) (sum (busy_with (f 2)) (busy_with (f 3)))
others f (suc zero) = sum (busy_with (f 0)) (sum (busy_with (f 2)) (busy_with (f 3)))
others f (suc (suc zero)) = sum (busy_with (f 0)) (sum (busy_with (f 1)) (busy_with (f 3)))
others f (suc (suc (suc _))) = sum (busy_with (f 0)) (sum (busy_with (f 1)) (busy_with (f 2)))

left_split : (f : ℕ → Thread) (u : ℕ) → u < 4 → left_busy f ≡ sum (busy_with (f u)) (others f u)
unfolding left_busy
left_split f zero h = refl
left_split f (suc zero) h = sum_swap (busy_with (f 0)) (busy_with (f 1)) (sum (busy_with (f 2)) (busy_with (f 3)))
left_split f (suc (suc zero)) h =
    ap (sum (busy_with (f 0))) (sum_swap (busy_with (f 1)) (busy_with (f 2)) (busy_with (f 3))) ∙ sum_swap (busy_with (f 0)) (busy_with (f 2)) (sum (busy_with (f 1)) (busy_with (f 3)))
left_split f (suc (suc (suc zero))) h =
    ap (sum (busy_with (f 0))) (ap (sum (busy_with (f 1))) (sum_comm (busy_with (f 2)) (busy_with (f 3))) ∙ sum_swap (busy_with (f 1)) (busy_with (f 3)) (busy_with (f 2)))
    ∙ sum_swap (busy_with (f 0)) (busy_with (f 3)) (sum (busy_with (f 1)) (busy_with (f 2)))
left_split f (suc (suc (suc (suc u)))) h = absurd (omega arith)

-- a thread is replaced
left_now : (f : ℕ → Thread) (th : Thread) (u : ℕ) → u < 4 → left_busy (upd f u th) ≡ sum (busy_with th) (others f u)
left_now f th zero h = left_split (upd f 0 th) 0 h
left_now f th (suc zero) h = left_split (upd f 1 th) 1 h
left_now f th (suc (suc zero)) h = left_split (upd f 2 th) 2 h
left_now f th (suc (suc (suc zero))) h = left_split (upd f 3 th) 3 h
left_now f th (suc (suc (suc (suc u)))) h = absurd (omega arith)

-- ---- how large

module _ (t u : Tally) (i : ℕ) where
  sum_most : sum t u i ≤ t i + u i
  sum_most = omega (arith, sum_at t u i, join_most i (t i) (u i))

  sum_least : t i ≤ sum t u i
  sum_least = omega (arith, sum_at t u i, join_least i (t i) (u i))

just_most : (i n j : ℕ) → just i n j ≤ n
just_most i n j = elim (ℕ_discrete j i) [ yes q ↦ rw q (omega (arith, just_same i n)) | no q ↦ omega (arith, just_other i n j q) ]

taken_most : (a n i : ℕ) → taken a n i ≤ n
unfolding taken
taken_most a n i = elim (ℕ_discrete i (32 + a)) [
  | yes q ↦ omega (arith, sum_most (just (32 + a) n) (just (40 + a) n) i, just_most (32 + a) n i, just_other (40 + a) n i (omega arith))
  | no q ↦ omega (arith, sum_most (just (32 + a) n) (just (40 + a) n) i, just_other (32 + a) n i q, just_most (40 + a) n i)
]

upd_most : (m : ℕ) (f : ℕ → ℕ) (i v : ℕ) → ((j : ℕ) → f j ≤ m) → v ≤ m → (j : ℕ) → upd f i v j ≤ m
upd_most m f i v h l j = elim (ℕ_discrete j i) [ yes q ↦ rw (q, eq-eqb i i refl) l | no q ↦ rw (ne_eqb j i q) (h j) ]

-- ---- the tally kept

-- after k records: what is counted, and a one for each operation that is unfinished then
abbrev pub tallied : List ℕ → ℕ → Tally
tallied file k = sum (ledger file k).counts (left_busy (after file k).bench.threads)

-- record k: its first byte, its thread, and that thread's action before it
abbrev pub byte_at : List ℕ → ℕ → ℕ
byte_at file k = (record_at file k).first

abbrev pub thread_at : List ℕ → ℕ → ℕ
thread_at file k = byte_at file k / 16

abbrev pub action_at : List ℕ → ℕ → ℕ
action_at file k = action_number ((after file k).bench.threads (thread_at file k)).action

-- own steps of that thread's operation, this record included
abbrev pub steps_at : List ℕ → ℕ → ℕ
steps_at file k = suc ((ledger file k).own (thread_at file k))

-- a start
pub record Opened (file : List ℕ) (k : ℕ) : Type 0 where
  pub low : thread_at file k < 4
  pub kind : byte_at file k % 16 < 8
  pub rows : (after file (suc k)).finished ≡ (after file k).finished
  pub own : (ledger file (suc k)).own ≡ upd (ledger file k).own (thread_at file k) 0
  pub counts : tallied file (suc k) ≡ sum (tallied file k) (sum (just (place starts (byte_at file k % 16)) 1) (just (place unfinished (byte_at file k % 16)) 1))

-- a step that goes on
pub record Kept (file : List ℕ) (k : ℕ) : Type 0 where
  pub low : thread_at file k < 4
  pub own : (ledger file (suc k)).own ≡ upd (ledger file k).own (thread_at file k) (steps_at file k)
  pub counts : tallied file (suc k) ≡ tallied file k

-- a step that ends its operation, with answer y; `rest` is what is counted beside that operation
pub record Answered (file : List ℕ) (k : ℕ) (y : Answer) : Type 0 where
  pub step : byte_at file k % 16 ≡ 0
  pub low : thread_at file k < 4
  pub kind : action_at file k < 8
  pub rows : (after file (suc k)).finished ≡ suc (after file k).finished
  pub own : (ledger file (suc k)).own ≡ upd (ledger file k).own (thread_at file k) (steps_at file k)
  pub rest : Tally
  pub before : tallied file k ≡ sum rest (just (place unfinished (action_at file k)) 1)
  pub counts : tallied file (suc k) ≡ sum (sum rest (just (place (column y) (action_at file k)) 1)) (taken (action_at file k) (steps_at file k))

-- sums of what a record brings
with_start : (c a b o : Tally) → sum (sum c a) (sum b o) ≡ sum (sum c o) (sum a b)
with_start c a b o = simp (sum_assoc, sum_comm, sum_swap)

with_answer : (c j s o : Tally) → sum (sum c (sum j s)) o ≡ sum (sum (sum c o) j) s
with_answer c j s o = simp (sum_assoc, sum_comm)

one_aside : (c u o : Tally) → sum c (sum u o) ≡ sum (sum c o) u
one_aside c u o = simp (sum_assoc, sum_comm)

-- ---- one record
module _ (file : List ℕ) (k : ℕ) where
  abbrev p : Progress
  p = after file k

  abbrev l : Ledger
  l = ledger file k

  abbrev r : Rec
  r = record_at file k

  abbrev t : ℕ
  t = thread_at file k

  abbrev n : ℕ
  n = byte_at file k % 16

  abbrev th : Thread
  th = p.bench.threads t

  abbrev total : Progress → Ledger → Tally
  total q m = sum m.counts (left_busy q.bench.threads)

  abbrev outcome : Result
  outcome = record_step p.bench r.last r.first r.second r.extra

  -- the record's result is o
  record Goes (o : Result) : Type 0 where
    does : Did p.bench t r.second n o
    then : after file (suc k) ≡ advance_by file p t o
    entries : ledger file (suc k) ≡ entered_by o n t th l

  goes : p.refusal ≡ 0 → Goes outcome
  unfolding after ledger
  goes z = record { does = did p.bench r.last r.first r.second r.extra; then = advance_on file p r z; entries = enter_on p r l z }

  -- after a refusal nothing more is carried out
  off_after : p.refusal ≢ 0 → after file (suc k) ≡ p
  unfolding after
  off_after z = advance_off file p r z

  off_ledger : p.refusal ≢ 0 → ledger file (suc k) ≡ l
  unfolding ledger
  off_ledger z = enter_off p r l z

  off_tallied : p.refusal ≢ 0 → tallied file (suc k) ≡ tallied file k
  off_tallied z = ap₂ total (off_after z) (off_ledger z)

  refused_tallied : (j : ℕ) → Goes (refused j) → tallied file (suc k) ≡ tallied file k
  refused_tallied j g = ap₂ total g.then g.entries

  module _ (b : Bench) (g : Goes (carried b no_row)) (low : t < 4) where
    start_opens : Started p.bench t r.second n b → Opened file k
    start_opens s = record {
      low = low;
      kind = omega (arith, s.number, number_small s.what);
      rows = ap (λ (q : Progress). q.finished) g.then ∙ (let e : 0 + p.finished ≡ p.finished = omega arith in e);
      own = ap (λ (m : Ledger). m.own) entry;
      counts = ap₂ total g.then entry
          ∙ (ap (λ (f : ℕ → Thread). sum (sum l.counts (just (place starts n) 1)) (left_busy f)) s.threads
          ∙ (ap (sum (sum l.counts (just (place starts n) 1))) (left_now p.bench.threads s.new t low ∙ ap (λ (v : Tally). sum v (others p.bench.threads t)) new_is)
          ∙ (with_start l.counts (just (place starts n) 1) (just (place unfinished n) 1) (others p.bench.threads t)
          ∙ ap (λ (v : Tally). sum (sum l.counts v) (sum (just (place starts n) 1) (just (place unfinished n) 1))) (sym left_is))));
    }
      where
        entry : ledger file (suc k) ≡ ledger_of (upd l.own t 0) (sum l.counts (just (place starts n) 1))
        entry = g.entries ∙ entered_start n t th no_row l (λ e. number_some s.what (sym s.number ∙ e))

        new_is : busy_with s.new ≡ just (place unfinished n) 1
        new_is = busy_now s.new s.busy ∙ ap (λ (c : ℕ). just (place unfinished c) 1) (ap action_number s.action ∙ sym s.number)

        left_is : left_busy p.bench.threads ≡ others p.bench.threads t
        left_is = left_split p.bench.threads t low ∙ (ap (λ (v : Tally). sum v (others p.bench.threads t)) (busy_idle th s.rested) ∙ none_sum (others p.bench.threads t))

    move_keeps : Moved p.bench t n b → Kept file k
    move_keeps s = record {
      low = low;
      own = ap (λ (m : Ledger). m.own) entry;
      counts = ap₂ total g.then entry
          ∙ ap (sum l.counts) (ap left_busy s.threads
          ∙ (left_now p.bench.threads s.next t low ∙ (ap (λ (v : Tally). sum v (others p.bench.threads t)) same ∙ sym (left_split p.bench.threads t low))));
    }
      where
        entry : ledger file (suc k) ≡ ledger_of (upd l.own t (suc (l.own t))) l.counts
        entry = g.entries ∙ entered_step n t th no_row l s.number

        same : busy_with s.next ≡ busy_with th
        same = busy_now s.next s.still ∙ (ap (λ (a : Action). just (place unfinished (action_number a)) 1) s.action ∙ sym (busy_now th s.busy))

  module _ (b : Bench) (y : Answer) (d e : ℕ) (g : Goes (carried b (row y d e))) where
    abbrev c : ℕ
    c = action_at file k

    abbrev fresh : Tally
    fresh = sum (just (place (column y) c) 1) (taken c (steps_at file k))

    entry : ledger file (suc k) ≡ ledger_of (upd l.own t (steps_at file k)) (sum l.counts fresh)
    entry = g.entries ∙ entered_step n t th (row y d e) l g.does.1.number

    left_then : left_busy p.bench.threads ≡ sum (just (place unfinished c) 1) (others p.bench.threads t)
    left_then = left_split p.bench.threads t g.does.0 ∙ ap (λ (v : Tally). sum v (others p.bench.threads t)) (busy_now th g.does.1.busy)

    left_after : left_busy b.threads ≡ others p.bench.threads t
    left_after =
        ap left_busy g.does.1.threads
        ∙ (left_now p.bench.threads idle t g.does.0 ∙ (ap (λ (v : Tally). sum v (others p.bench.threads t)) (busy_idle idle refl) ∙ none_sum (others p.bench.threads t)))

    end_answers : Answered file k y
    end_answers = record {
      step = g.does.1.number;
      low = g.does.0;
      kind = number_small th.action;
      rows = ap (λ (q : Progress). q.finished) g.then ∙ (let f : 1 + p.finished ≡ suc p.finished = omega arith in f);
      own = ap (λ (m : Ledger). m.own) entry;
      rest = sum l.counts (others p.bench.threads t);
      before = ap (sum l.counts) left_then ∙ one_aside l.counts (just (place unfinished c) 1) (others p.bench.threads t);
      counts = ap₂ total g.then entry ∙ (ap (sum (sum l.counts fresh)) left_after ∙ with_answer l.counts (just (place (column y) c) 1) (taken c (steps_at file k)) (others p.bench.threads t));
    }

  pub opened : p.refusal ≡ 0 → (after file (suc k)).refusal ≡ 0 → byte_at file k % 16 ≢ 0 → Opened file k
  opened z z' some = by outcome (goes z)
    where
      by : (o : Result) → Goes o → Opened file k
      by (refused j) g = absurd (g.does (sym (ap (λ (q : Progress). q.refusal) g.then) ∙ z'))
      by (carried b no_row) g = elim g.does.1 [ inl s ↦ start_opens b g g.does.0 s | inr s ↦ absurd (some s.number) ]
      by (carried b (row y d e)) g = absurd (some g.does.1.number)

  pub moved : p.refusal ≡ 0 → (after file (suc k)).refusal ≡ 0 → (after file (suc k)).finished ≡ p.finished → byte_at file k % 16 ≡ 0 → Kept file k
  moved z z' same step = by outcome (goes z)
    where
      by : (o : Result) → Goes o → Kept file k
      by (refused j) g = absurd (g.does (sym (ap (λ (q : Progress). q.refusal) g.then) ∙ z'))
      by (carried b no_row) g = elim g.does.1 [ inl s ↦ absurd (number_some s.what (sym s.number ∙ step)) | inr s ↦ move_keeps b g g.does.0 s ]
      by (carried b (row y d e)) g = let f : (after file (suc k)).finished ≡ 1 + p.finished = ap (λ (q : Progress). q.finished) g.then in absurd (omega arith)

  pub answered : (b : Bench) (y : Answer) (d e : ℕ) → p.refusal ≡ 0
      → record_step p.bench (record_at file k).last (byte_at file k) (record_at file k).second (record_at file k).extra ≡ carried b (row y d e) → Answered file k y
  answered b y d e z q = end_answers b y d e (subst Goes q (goes z))

  refused_then : p.refusal ≡ 0 → (after file (suc k)).refusal ≢ 0 → tallied file (suc k) ≡ tallied file k
  refused_then z z' = by outcome (goes z)
    where
      by : (o : Result) → Goes o → tallied file (suc k) ≡ tallied file k
      by (refused j) g = refused_tallied j g
      by (carried b w) g = absurd (z' (ap (λ (q : Progress). q.refusal) g.then))

  -- ---- how large, from how large before it
  own_next : ((j : ℕ) → l.own j ≤ k) → (j : ℕ) → (ledger file (suc k)).own j ≤ suc k
  own_next h = elim (ℕ_discrete p.refusal 0) [ yes z ↦ by outcome (goes z) | no z ↦ λ j. rw (off_ledger z) (omega (arith, h j)) ]
    where
      steps : (j : ℕ) → upd l.own t (suc (l.own t)) j ≤ suc k
      steps j = upd_most (suc k) l.own t (suc (l.own t)) (λ i. omega (arith, h i)) (omega (arith, h t)) j

      by : (o : Result) → Goes o → (j : ℕ) → (ledger file (suc k)).own j ≤ suc k
      by (refused i) g j = rw (ap (λ (m : Ledger). m.own) g.entries) (omega (arith, h j))
      by (carried b no_row) g j = elim g.does.1 [
        | inl s ↦ rw (start_opens b g g.does.0 s).own (upd_most (suc k) l.own t 0 (λ i. omega (arith, h i)) (omega arith) j)
        | inr s ↦ rw (move_keeps b g g.does.0 s).own (steps j)
      ]
      by (carried b (row y d e)) g j = rw (end_answers b y d e g).own (steps j)

  tallied_next : (i : ℕ) → l.own t ≤ k → tallied file (suc k) i ≤ tallied file k i + suc (suc k)
  tallied_next i h = elim (ℕ_discrete p.refusal 0) [ yes z ↦ by outcome (goes z) | no z ↦ rw (off_tallied z) (omega arith) ]
    where
      by : (o : Result) → Goes o → tallied file (suc k) i ≤ tallied file k i + suc (suc k)
      by (refused j) g = rw (refused_tallied j g) (omega arith)
      by (carried b no_row) g = elim g.does.1 [
        | inl s ↦ let a = just (place starts n) 1 in
            let u = just (place unfinished n) 1 in
            rw (start_opens b g g.does.0 s).counts (omega (arith, sum_most (tallied file k) (sum a u) i, sum_most a u i, both))
        | inr s ↦ rw (move_keeps b g g.does.0 s).counts (omega arith)
      ]
        where
          both : just (place starts n) 1 i + just (place unfinished n) 1 i ≤ 2
          both = omega (arith, just_most (place starts n) 1 i, just_most (place unfinished n) 1 i)
      by (carried b (row y d e)) g =
          let a = end_answers b y d e g in
          let one = just (place (column y) (action_at file k)) 1 in
          let more = taken (action_at file k) (steps_at file k) in
          let before : a.rest i ≤ tallied file k i = rw a.before (sum_least a.rest (just (place unfinished (action_at file k)) 1) i) in
          rw a.counts (omega (arith, sum_most (sum a.rest one) more i, sum_most a.rest one i, just_most (place (column y) (action_at file k)) 1 i, taken_most (action_at file k) (steps_at file k) i))

-- the record that is refused, and all after it
module _ (file : List ℕ) (k : ℕ) (z : (after file k).refusal ≡ 0) (z' : (after file (suc k)).refusal ≢ 0) where
  stays : (m : ℕ) → suc k ≤ m → ((after file m).refusal ≢ 0) × (tallied file m ≡ tallied file k)
  stays zero h = absurd (omega arith)
  stays (suc m) h = elim (ℕ_discrete m k) [
    | yes q ↦ rw q (z', refused_then file k z z')
    | no q ↦ let (s, e) = stays m (omega arith) in (λ w. s (sym (ap (λ (q : Progress). q.refusal) (off_after file m s)) ∙ w), off_tallied file m s ∙ e)
  ]

  pub kept_on : (m : ℕ) → suc k ≤ m → tallied file m ≡ tallied file k
  kept_on m h = (stays m h).1

-- ---- at the start

pub none_counted : (file : List ℕ) → tallied file 0 ≡ empty
unfolding after ledger left_busy
none_counted file = rw (busy_idle idle refl) (simp sum_none)

pub none_own : (file : List ℕ) → (ledger file 0).own ≡ (λ _. 0)
unfolding ledger
none_own file = refl

-- ---- how large

pub own_most : (file : List ℕ) (k t : ℕ) → (ledger file k).own t ≤ k
own_most file zero t = rw (none_own file) (omega arith)
own_most file (suc k) t = own_next file k (own_most file k) t

pub tallied_most : (file : List ℕ) (k i : ℕ) → k ≤ 4096 → tallied file k i ≤ 4097 * k
tallied_most file zero i h = rw (none_counted file) (omega arith)
tallied_most file (suc k) i h = omega (arith, tallied_next file k i (own_most file k (thread_at file k)), tallied_most file k i (omega arith))
