-- One record more in the loop that writes the events, by what the schedule and the rows say of it; and the end of the loop. Assumes
-- nothing.
use mathlib.Core.Path.{◌≡◌, refl, sym, ◌∙◌, ap}
use mathlib.Core.Logic.{◌≢◌}
use mathlib.Core.Bool.{Bool, true, false, not, true≢false}
use mathlib.Core.List.{List, [], ◌∷◌, ◌++◌, append-nil}
use Prim.Native.Nat.{ℕ, zero, suc, ◌+◌, ◌-◌, ◌*◌, ◌/◌, ◌%◌, ◌<◌, ◌≤◌}
use native.Mathlib.Omega.{arith}
use native.Mathlib.Numerals.{add-one}
use lib.ListN.{get_or, length, length-append}
use borrow.Author.Tests.{eq-eqb, ne_eqb}
use Rattle.container.specs.Choice.{ite}
use Rattle.buffer.specs.Page.{Page, put_all}
use Rattle.buffer.proofs.Laws.{joined}
use Rattle.definitions.specs.declared.Answer.{Answer}
use Rattle.definitions.specs.declared.Answer.TheVariants.{No, Yes, At, Lacking, Blocked, Lost, NeighbourBlocked, StoodDown, Stopped}
use Rattle.definitions.specs.Answers.{answer_number}
use Rattle.definitions.specs.Bench.{Bench}
use Rattle.definitions.specs.Records.{Row, no_row, row, carried, is_idle, action_number}
use Rattle.definitions.specs.Schedule.{Rec, version, count_of}
use Rattle.definitions.specs.Merge.{first_byte, second_byte}
use Rattle.definitions.specs.Run.{Progress, row_count, advance_by, after}
use Rattle.definitions.specs.History.{Event}
use Rattle.definitions.specs.Written.{event_of, bytes_of, run_events}
use Rattle.passing.proofs.RunEvents.{events_to, events_none}
use Rattle.run.proofs.Rows.{finished_few}
use Rattle.history.specs.Ahead.{start_number, starts_to, ahead, Told}
use Rattle.history.proofs.Turned.{rec, Turned, done_most, turned_at, finished_then, events_then, events_on, finished_grows, RowAt, row_at}
use Rattle.history.proofs.Outlook.{Deed, starts, goes, ends, done_at, outlook}

-- ---- bytes and counts of events
bytes_append : (xs ys : List Event) → bytes_of (xs ++ ys) ≡ bytes_of xs ++ bytes_of ys
bytes_append [] ys = refl
bytes_append (e ∷ xs) ys = ap (λ l. e.thread ∷ e.action ∷ e.station ∷ e.mark ∷ l) (bytes_append xs ys)

start_event_lem : (n : ℕ) (b : Bench) (r : Rec) (w : Row) → n ≢ 0 → event_of n b r w ≡ record { thread = r.first / 16; action = n; station = r.second; mark = 0 } ∷ []
start_event_lem zero b r w h = absurd (h refl)
start_event_lem (suc n) b r w h = refl

answer_low : (a : Answer) → answer_number a < 255
answer_low No = omega arith
answer_low Yes = omega arith
answer_low (At d) = omega arith
answer_low Lacking = omega arith
answer_low Blocked = omega arith
answer_low Lost = omega arith
answer_low NeighbourBlocked = omega arith
answer_low StoodDown = omega arith
answer_low Stopped = omega arith

-- ---- at record k of those carried out
module _ (file : List ℕ) (records rows : List (List ℕ)) (told : Told file records rows) (k : ℕ) (in-run : k < length records) where
  abbrev d : ℕ
  d = length records

  abbrev f : ℕ
  f = length rows

  abbrev n : ℕ
  n = count_of file

  abbrev t : ℕ
  t = first_byte file k / 16

  before : k < (after file n).done
  before = omega (arith, told.done)

  z : Turned file k
  z = turned_at file told.version n k before

  deed : Deed file k z.added
  deed = (done_at file k z).deed

  ahead_at : ℕ → Bool
  ahead_at j = ahead file (suc k) j t

  inside : k < n
  inside = omega (arith, before, done_most file told.version n)

  rest : suc k + (d - suc k) ≡ (after file n).done
  rest = omega (arith, told.done)

  finished_on : (w : Row) → z.added ≡ w → (after file (suc k)).finished ≡ row_count w + (after file k).finished
  finished_on w e = ap (λ (p : Progress). p.finished) z.next ∙ ap (λ v. row_count v + (after file k).finished) e

  next_row : (a : Answer) (i c : ℕ) → z.added ≡ row a i c → after file (suc k) ≡ advance_by file (after file k) t (carried z.bench (row a i c))
  next_row a i c e = z.next ∙ ap (λ w. advance_by file (after file k) t (carried z.bench w)) e

  row_here : (a : Answer) (i c : ℕ) → z.added ≡ row a i c
      → RowAt (after file n).rows (after file k).finished t (action_number ((after file k).bench.threads t).action) ((after file k).bench.threads t).station (answer_number a)
  row_here a i c e = row_at file told.version k n z.bench a i c inside (next_row a i c e)

  row_counts : (a : Answer) (i c : ℕ) → z.added ≡ row a i c → (after file k).finished < f
  row_counts a i c e = omega (arith, told.finished, finished_grows file told.version (suc k) n (omega (arith, inside)), finished_on (row a i c) e)

  -- a start
  start_row : first_byte file k % 16 ≢ 0 → z.added ≡ no_row
  start_row h = by deed
    where
      by : Deed file k z.added → z.added ≡ no_row
      by (starts e _ _) = e
      by (goes e _ _ _) = e
      by (ends _ _ _ _ e _ _) = absurd (h e)

  pub start_finished : first_byte file k % 16 ≢ 0 → (after file (suc k)).finished ≡ (after file k).finished
  start_finished h = finished_on no_row (start_row h) ∙ (let q : 0 + (after file k).finished ≡ (after file k).finished = omega arith in q)

  pub start_events : first_byte file k % 16 ≢ 0 → events_to file (suc k) ≡ events_to file k ++ record { thread = t; action = first_byte file k % 16; station = second_byte file k; mark = 0 } ∷ []
  start_events h = events_on file told.version k z ∙ ap (λ l. events_to file k ++ l) (start_event_lem (first_byte file k % 16) (after file k).bench (rec file k) z.added h)

  -- a step that goes on
  module _ (step : first_byte file k % 16 ≡ 0) where
    quiet_events : z.added ≡ no_row → events_to file (suc k) ≡ events_to file k
    quiet_events e = events_on file told.version k z ∙ ap (λ l. events_to file k ++ l)
        (ap (λ v. event_of v (after file k).bench (rec file k) z.added) step ∙ ap (λ w. event_of 0 (after file k).bench (rec file k) w) e) ∙ append-nil (events_to file k)

    pub record Quiet : Type 0 where
      pub events : events_to file (suc k) ≡ events_to file k
      pub finished : (after file (suc k)).finished ≡ (after file k).finished

    quiet : z.added ≡ no_row → Quiet
    quiet e = record { events = quiet_events e; finished = finished_on no_row e ∙ (let q : 0 + (after file k).finished ≡ (after file k).finished = omega arith in q) }

    pub quiet_past : f ≤ (after file k).finished → Quiet
    quiet_past h = by deed
      where
        by : Deed file k z.added → Quiet
        by (starts e _ _) = quiet e
        by (goes e _ _ _) = quiet e
        by (ends a i c e _ _ _) = absurd (omega (arith, row_counts a i c e))

    pub quiet_other : (after file k).finished < f → get_or (get_or rows (after file k).finished []) 0 0 ≢ t → Quiet
    quiet_other l h = by deed
      where
        by : Deed file k z.added → Quiet
        by (starts e _ _) = quiet e
        by (goes e _ _ _) = quiet e
        by (ends a i c e _ _ _) = absurd (h (told.cells (after file k).finished 0 (omega arith) (omega arith) ∙ ap (λ j. get_or (after file n).rows j 0) (omega arith) ∙ (row_here a i c e).thread))

    pub quiet_ahead : ahead file (suc k) (d - suc k) t ≡ true → Quiet
    quiet_ahead h = by deed
      where
        by : Deed file k z.added → Quiet
        by (starts e _ _) = quiet e
        by (goes e _ _ _) = quiet e
        by (ends _ _ _ _ _ _ i) = absurd (true≢false (sym i ∙ (outlook file told.version n t (d - suc k) (suc k) rest).on h))

    -- a step that ends
    pub record Ends : Type 0 where
      pub low : get_or (get_or rows (after file k).finished []) 3 0 < 255
      pub finished : (after file (suc k)).finished ≡ (after file k).finished + 1
      pub events : events_to file (suc k) ≡ events_to file k ++ record {
        thread = get_or (get_or rows (after file k).finished []) 0 0;
        action = get_or (get_or rows (after file k).finished []) 1 0;
        station = get_or (get_or rows (after file k).finished []) 2 0;
        mark = get_or (get_or rows (after file k).finished []) 3 0 + 1;
      } ∷ []

    pub ends_here : (after file k).finished < f → get_or (get_or rows (after file k).finished []) 0 0 ≡ t → ahead file (suc k) (d - suc k) t ≡ false → Ends
    ends_here l h a = by deed
      where
        m : ℕ
        m = (after file k).finished

        from_run : (b : ℕ) → b < 4 → get_or (get_or rows m []) b 0 ≡ get_or (after file n).rows (4 * m + b) 0
        from_run b = told.cells m b l

        thread_run : get_or (get_or rows m []) 0 0 ≡ get_or (after file n).rows (4 * m) 0
        thread_run = from_run 0 (omega arith) ∙ ap (λ j. get_or (after file n).rows j 0) (omega arith)

        none : z.added ≡ no_row → is_idle ((after file (suc k)).bench.threads t) ≡ false → ⊥
        none e b = (outlook file told.version n t (d - suc k) (suc k) rest).off a b (after file k).finished (omega (arith, (quiet e).finished)) (omega (arith, told.finished)) (sym thread_run ∙ h)

        by : Deed file k z.added → Ends
        by (starts _ e _) = absurd (e step)
        by (goes e _ _ b) = absurd (none e b)
        by (ends y i c e _ _ _) =
            let r = row_here y i c e in
            let r0 = thread_run ∙ r.thread in
            let r1 = from_run 1 (omega arith) ∙ r.action in
            let r2 = from_run 2 (omega arith) ∙ r.station in
            let r3 = from_run 3 (omega arith) ∙ r.answer in
            record {
              low = omega (arith, r3, answer_low y);
              finished = omega (arith, finished_on (row y i c) e);
              events = events_on file told.version k z ∙ ap (λ l. events_to file k ++ l)
                  (ap (λ v. event_of v (after file k).bench (rec file k) z.added) step ∙ ap (λ w. event_of 0 (after file k).bench (rec file k) w) e
                  ∙ rw (r0, r1, r2, r3, add-one));
            }

-- ---- the page
pub page_none : (file : List ℕ) (p : Page) → p ≡ put_all p (bytes_of (events_to file 0))
unfolding put_all
page_none file p = ap (λ l. put_all p (bytes_of l)) (sym (events_none file))

pub page_same : (file : List ℕ) (k : ℕ) (p : Page) {q : Page} → events_to file (suc k) ≡ events_to file k → q ≡ put_all p (bytes_of (events_to file k))
    → q ≡ put_all p (bytes_of (events_to file (k + 1)))
page_same file k p e h = rw (add-one, e) h

pub page_more : (file : List ℕ) (k : ℕ) (p : Page) {q r : Page} (e : Event) → events_to file (suc k) ≡ events_to file k ++ e ∷ [] → q ≡ put_all p (bytes_of (events_to file k))
    → r ≡ put_all q (e.thread ∷ e.action ∷ e.station ∷ e.mark ∷ [])
    → r ≡ put_all p (bytes_of (events_to file (k + 1)))
page_more file k p e i h f = rw (add-one, i, bytes_append (events_to file k) (e ∷ [])) (joined p (bytes_of (events_to file k)) (e.thread ∷ e.action ∷ e.station ∷ e.mark ∷ []) h f)

pub page_all : (file : List ℕ) → version file ≡ 1 → (done k : ℕ) (p : Page) {q : Page} → done ≡ (after file (count_of file)).done → k ≡ done
    → q ≡ put_all p (bytes_of (events_to file k)) → q ≡ put_all p (bytes_of (run_events file))
page_all file one done k p d e h = h ∙ ap (λ l. put_all p (bytes_of l)) (ap (events_to file) (e ∙ d) ∙ events_then file one (count_of file))

-- ---- the file has the records done, and there are few rows
pub record Room (file : List ℕ) (records rows : List (List ℕ)) : Type 0 where
  pub within : length records ≤ count_of file
  pub few : length records ≤ 4096
  pub finished : length rows ≤ 4096

pub told_room : (file : List ℕ) (records rows : List (List ℕ)) → Told file records rows → Room file records rows
told_room file records rows t = record {
  within = omega (arith, t, done_most file t.version (count_of file));
  few = omega (arith, t, done_most file t.version (count_of file));
  finished = omega (arith, t, finished_few file (count_of file));
}

-- ---- one record more: what the loop holds after it

-- m rows written, and the page q from p on, are right after k records
pub record Holds (file : List ℕ) (k m : ℕ) (p q : Page) : Type 0 where
  pub rows : m ≡ (after file k).finished
  pub page : q ≡ put_all p (bytes_of (events_to file k))

pub holds_none : (file : List ℕ) (p : Page) → Holds file 0 0 p p
unfolding after
holds_none file p = record { rows = refl; page = page_none file p }

not_on : (v : Bool) → not v ≡ true → v ≡ false
not_on true e = absurd (true≢false (sym e))
not_on false e = refl

not_off : (v : Bool) → not v ≡ false → v ≡ true
not_off true e = refl
not_off false e = absurd (true≢false e)

module _ (file : List ℕ) (records rows : List (List ℕ)) (told : Told file records rows) (k : ℕ) (in-run : k < length records) {m : ℕ} {p q : Page} (h : Holds file k m p q) where
  pub on_start : {r : Page} → (first_byte file k % 16 ≡ 0 → ⊥) → r ≡ put_all q (first_byte file k / 16 ∷ first_byte file k % 16 ∷ second_byte file k ∷ 0 ∷ []) → Holds file (k + 1) m p r
  on_start s e = record {
    rows = h.rows ∙ sym (start_finished file records rows told k in-run s) ∙ rw (add-one k);
    page = page_more file k p _ (start_events file records rows told k in-run s) h.page e;
  }

  module _ (step : first_byte file k % 16 ≡ 0) where
    still : Quiet file records rows told k in-run step → Holds file (k + 1) m p q
    still z = record { rows = h.rows ∙ sym z.finished ∙ rw (add-one k); page = page_same file k p z.events h.page }

    pub on_past : length rows ≤ m → Holds file (k + 1) m p q
    on_past l = still (quiet_past file records rows told k in-run step (omega (arith, h.rows)))

    pub on_other : m < length rows → (get_or (get_or rows m []) 0 0 ≡ first_byte file k / 16 → ⊥) → Holds file (k + 1) m p q
    on_other l n = still (quiet_other file records rows told k in-run step (omega (arith, h.rows)) (λ z. n (ap (λ i. get_or (get_or rows i []) 0 0) h.rows ∙ z)))

    module _ {v : Bool} (a : v ≡ ahead file (k + 1) (length records - (k + 1)) (first_byte file k / 16)) where
      there : ahead file (suc k) (length records - suc k) (first_byte file k / 16) ≡ v
      there = rw (← add-one k) (sym a)

      pub on_ahead : not v ≡ false → Holds file (k + 1) m p q
      on_ahead e = still (quiet_ahead file records rows told k in-run step (there ∙ not_off v e))

      module _ (l : m < length rows) (t : get_or (get_or rows m []) 0 0 ≡ first_byte file k / 16) (e : not v ≡ true) where
        here : Ends file records rows told k in-run step
        here = ends_here file records rows told k in-run step (omega (arith, h.rows)) (ap (λ i. get_or (get_or rows i []) 0 0) (sym h.rows) ∙ t) (there ∙ not_on v e)

        pub end_low : get_or (get_or rows m []) 3 0 < 255
        end_low = omega (arith, here.low, ap (λ i. get_or (get_or rows i []) 3 0) h.rows)

        pub on_end : {r : Page} → r ≡ put_all q (get_or (get_or rows m []) 0 0 ∷ get_or (get_or rows m []) 1 0 ∷ get_or (get_or rows m []) 2 0 ∷ (get_or (get_or rows m []) 3 0 + 1) ∷ [])
            → Holds file (k + 1) (m + 1) p r
        on_end g = record {
          rows = ap (λ i. i + 1) h.rows ∙ sym here.finished ∙ rw (add-one k);
          page = page_more file k p _ here.events h.page (rw h.rows at g);
        }

-- ---- the same, in words of the records' bytes
module _ (file : List ℕ) (records rows : List (List ℕ)) (told : Told file records rows) (k : ℕ) (in-run : k < length records) {m : ℕ} {p q : Page} (h : Holds file k m p q) where
  abbrev x : ℕ
  x = get_or (get_or records k []) 0 0

  same : x ≡ first_byte file k
  same = told.first k in-run

  pub at_start : {r : Page} → (x % 16 ≡ 0 → ⊥) → r ≡ put_all q (x / 16 ∷ x % 16 ∷ get_or (get_or records k []) 1 0 ∷ 0 ∷ []) → Holds file (k + 1) m p r
  at_start s e = on_start file records rows told k in-run h (λ z. s (ap (λ v. v % 16) same ∙ z)) (e ∙ rw (same, told.second k in-run))

  module _ (step : x % 16 ≡ 0) where
    stepped : first_byte file k % 16 ≡ 0
    stepped = ap (λ v. v % 16) (sym same) ∙ step

    pub at_past : length rows ≤ m → Holds file (k + 1) m p q
    at_past = on_past file records rows told k in-run h stepped

    pub at_other : m < length rows → (get_or (get_or rows m []) 0 0 ≡ x / 16 → ⊥) → Holds file (k + 1) m p q
    at_other l n = on_other file records rows told k in-run h stepped l (λ z. n (z ∙ ap (λ v. v / 16) (sym same)))

    module _ {v : Bool} (a : v ≡ ahead file (k + 1) (length records - (k + 1)) (x / 16)) where
      seen : v ≡ ahead file (k + 1) (length records - (k + 1)) (first_byte file k / 16)
      seen = a ∙ ap (λ b. ahead file (k + 1) (length records - (k + 1)) (b / 16)) same

      pub at_ahead : v ≡ true → Holds file (k + 1) m p q
      at_ahead e = on_ahead file records rows told k in-run h stepped seen (ap not e)

      module _ (l : m < length rows) (t : get_or (get_or rows m []) 0 0 ≡ x / 16) (e : v ≡ false) where
        pub at_low : get_or (get_or rows m []) 3 0 < 255
        at_low = end_low file records rows told k in-run h stepped seen l (t ∙ ap (λ b. b / 16) same) (ap not e)

        pub at_end : {r : Page} → r ≡ put_all q (get_or (get_or rows m []) 0 0 ∷ get_or (get_or rows m []) 1 0 ∷ get_or (get_or rows m []) 2 0 ∷ (get_or (get_or rows m []) 3 0 + 1) ∷ [])
            → Holds file (k + 1) (m + 1) p r
        at_end = on_end file records rows told k in-run h stepped seen l (t ∙ ap (λ b. b / 16) same) (ap not e)

-- ---- how many events

starts_step : (file : List ℕ) (k : ℕ) → first_byte file k % 16 ≡ 0 → starts_to file (suc k) ≡ starts_to file k
unfolding starts_to start_number ite
starts_step file k e = rw (eq-eqb (first_byte file k % 16) 0 e) (omega arith)

starts_start : (file : List ℕ) (k : ℕ) → first_byte file k % 16 ≢ 0 → starts_to file (suc k) ≡ suc (starts_to file k)
unfolding starts_to start_number ite
starts_start file k e = rw (ne_eqb (first_byte file k % 16) 0 e) (omega arith)

one_event : (file : List ℕ) (k : ℕ) (z : Turned file k)
    → length (event_of (first_byte file k % 16) (after file k).bench (rec file k) z.added) + (starts_to file k + (after file k).finished) ≡ starts_to file (suc k) + (after file (suc k)).finished
one_event file k z = by (done_at file k z).deed
  where
    fin : (after file (suc k)).finished ≡ row_count z.added + (after file k).finished
    fin = ap (λ (p : Progress). p.finished) z.next

    by : Deed file k z.added
        → length (event_of (first_byte file k % 16) (after file k).bench (rec file k) z.added) + (starts_to file k + (after file k).finished) ≡ starts_to file (suc k) + (after file (suc k)).finished
    by (starts e s _) = rw (fin, e, starts_start file k s, start_event_lem (first_byte file k % 16) (after file k).bench (rec file k) no_row s) (omega arith)
    by (goes e s _ _) = rw (fin, e, starts_step file k s, s) (omega arith)
    by (ends a i c e s _ _) = rw (fin, e, starts_step file k s, s) (omega arith)

count_to : (file : List ℕ) → version file ≡ 1 → (n k : ℕ) → k ≤ (after file n).done → length (events_to file k) ≡ starts_to file k + (after file k).finished
unfolding starts_to after
count_to file one n zero h = ap length (events_none file)
count_to file one n (suc k) h =
    let z = turned_at file one n k (omega arith) in
    omega (
      arith,
      ap length (events_on file one k z),
      length-append (events_to file k) (event_of (first_byte file k % 16) (after file k).bench (rec file k) z.added),
      one_event file k z,
      count_to file one n k (omega arith),
    )

pub count_all : (file : List ℕ) → version file ≡ 1 → (n : ℕ) → length (events_to file n) ≡ starts_to file (after file n).done + (after file n).finished
count_all file one n = ap length (sym (events_then file one n)) ∙ count_to file one n (after file n).done (omega arith) ∙ ap (λ v. starts_to file (after file n).done + v) (finished_then file one n)
