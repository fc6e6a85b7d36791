-- The records of a version 1 file that Run carried out, each from the bench that the one before left; the rows that it had then stay.
-- Assumes nothing.
use mathlib.Core.Path.{◌≡◌, refl, sym, ◌∙◌, ap, subst}
use mathlib.Core.Logic.{◌≢◌}
use mathlib.Core.List.{List, [], ◌∷◌, ◌++◌, append_assoc, append-nil}
use Prim.Native.Nat.{ℕ, zero, suc, ◌+◌, ◌-◌, ◌*◌, ◌/◌, ◌%◌, ◌<◌, ◌≤◌}
use native.Mathlib.Omega.{arith}
use native.Mathlib.Decide.{ℕ_discrete, dec_lt}
use borrow.Author.Tests.{eq-eqb}
use lib.ListN.{length, get_or, length-append}
use lib.Seq.{get_or-append-add}
use Rattle.container.specs.Choice.{ite}
use Rattle.definitions.specs.declared.Answer.{Answer}
use Rattle.definitions.specs.Answers.{answer_number}
use Rattle.definitions.specs.Threads.{Thread}
use Rattle.definitions.specs.Bench.{Bench}
use Rattle.definitions.specs.Records.{Row, row, Result, refused, carried, record_step, action_number}
use Rattle.definitions.specs.Schedule.{Rec, version, record_at}
use Rattle.definitions.specs.Merge.{first_byte, second_byte}
use Rattle.definitions.specs.Run.{Progress, row_bytes, advance_by, advance, after}
use Rattle.passing.proofs.Did.{Did, did}
use Rattle.definitions.specs.Written.{event_of}
use Rattle.passing.proofs.RunRows.{advance_on, advance_off}
use Rattle.passing.proofs.RunEvents.{events_to, added, added_none, added_by, events_next}
use Rattle.run.proofs.Rows.{rows_length}

-- record k of a version 1 file
abbrev pub rec : List ℕ → ℕ → Rec
rec file k = record { last = 5; first = first_byte file k; second = second_byte file k; extra = 0 }

rec_is : (file : List ℕ) → version file ≡ 1 → (k : ℕ) → record_at file k ≡ rec file k
unfolding record_at ite
rec_is file one k = rw (eq-eqb _ _ one)

-- record k was carried out
pub record Turned (file : List ℕ) (k : ℕ) : Type 0 where
  pub bench : Bench
  pub added : Row
  pub fine : (after file k).refusal ≡ 0
  pub step : record_step (after file k).bench 5 (first_byte file k) (second_byte file k) 0 ≡ carried bench added
  pub next : after file (suc k) ≡ advance_by file (after file k) (first_byte file k / 16) (carried bench added)

-- where the first n records have led, by the records done
record Led (file : List ℕ) (n : ℕ) : Type 0 where
  whole : (after file n).refusal ≡ 0 → (after file n).done ≡ n
  few : (after file n).done ≤ n
  turned : (k : ℕ) → k < (after file n).done → Turned file k
  rows : (after file (after file n).done).rows ≡ (after file n).rows
  finished : (after file (after file n).done).finished ≡ (after file n).finished
  events : events_to file (after file n).done ≡ events_to file n

one_more_lem : (file : List ℕ) → version file ≡ 1 → (n : ℕ) → after file (suc n) ≡ advance file (after file n) (rec file n)
unfolding after
one_more_lem file one n = ap (advance file (after file n)) (rec_is file one n)

events_more : (file : List ℕ) → version file ≡ 1 → (n : ℕ) → events_to file (suc n) ≡ events_to file n ++ added (after file n) (rec file n)
events_more file one n = events_next file n ∙ ap (λ r. events_to file n ++ added (after file n) r) (rec_is file one n)

module _ (file : List ℕ) (one : version file ≡ 1) (n : ℕ) (h : Led file n) where
  -- a record that adds no event
  no_event : added (after file n) (rec file n) ≡ [] → events_to file (suc n) ≡ events_to file n
  no_event q = events_more file one n ∙ ap (λ l. events_to file n ++ l) q ∙ append-nil (events_to file n)

  led_off : (after file n).refusal ≢ 0 → after file (suc n) ≡ after file n → Led file (suc n)
  led_off z e = record {
    whole = λ q. absurd (z (ap (λ (p : Progress). p.refusal) (sym e) ∙ q));
    few = omega (arith, h.few, ap (λ (p : Progress). p.done) e);
    turned = λ k l. h.turned k (omega (arith, ap (λ (p : Progress). p.done) e));
    rows = ap (λ (p : Progress). (after file p.done).rows) e ∙ h.rows ∙ ap (λ (p : Progress). p.rows) (sym e);
    finished = ap (λ (p : Progress). (after file p.done).finished) e ∙ h.finished ∙ ap (λ (p : Progress). p.finished) (sym e);
    events = ap (λ (p : Progress). events_to file p.done) e ∙ h.events ∙ sym (no_event (added_none (after file n) (rec file n) z));
  }

  led_on : (after file n).refusal ≡ 0 → (res : Result) → record_step (after file n).bench 5 (first_byte file n) (second_byte file n) 0 ≡ res
      → Did (after file n).bench (first_byte file n / 16) (second_byte file n) (first_byte file n % 16) res
      → after file (suc n) ≡ advance_by file (after file n) (first_byte file n / 16) res → Led file (suc n)
  led_on z (refused m) s d e = record {
    whole = λ q. absurd (d (ap (λ (p : Progress). p.refusal) (sym e) ∙ q));
    few = omega (arith, h.few, ap (λ (p : Progress). p.done) e);
    turned = λ k l. h.turned k (omega (arith, ap (λ (p : Progress). p.done) e));
    rows = ap (λ (p : Progress). (after file p.done).rows) e ∙ h.rows ∙ ap (λ (p : Progress). p.rows) (sym e);
    finished = ap (λ (p : Progress). (after file p.done).finished) e ∙ h.finished ∙ ap (λ (p : Progress). p.finished) (sym e);
    events = ap (λ (p : Progress). events_to file p.done) e ∙ h.events ∙ sym (no_event (added_by (after file n) (rec file n) z s));
  }
  led_on z (carried b w) s d e =
      let all : (after file (suc n)).done ≡ suc n = ap (λ (p : Progress). p.done) e ∙ ap suc (h.whole z) in
      record {
        whole = λ _. all;
        few = omega (arith, all);
        turned = λ k l. elim (dec_lt k n) [
          | yes q ↦ h.turned k (omega (arith, h.whole z))
          | no q ↦ let same : n ≡ k = omega (arith, all) in subst (λ i. Turned file i) same (record { bench = b; added = w; fine = z; step = s; next = e })
        ];
        rows = ap (λ i. (after file i).rows) all;
        finished = ap (λ i. (after file i).finished) all;
        events = ap (λ i. events_to file i) all;
      }

led : (file : List ℕ) → version file ≡ 1 → (n : ℕ) → Led file n
unfolding after
led file one zero = record { whole = λ _. refl; few = omega arith; turned = λ k l. absurd (omega arith); rows = refl; finished = refl; events = refl }
led file one (suc n) = elim (ℕ_discrete (after file n).refusal 0) [
  | yes z ↦ led_on file one n (led file one n) z (record_step (after file n).bench 5 (first_byte file n) (second_byte file n) 0) refl
      (did (after file n).bench 5 (first_byte file n) (second_byte file n) 0) (one_more_lem file one n ∙ advance_on file (after file n) (rec file n) z)
  | no z ↦ led_off file one n (led file one n) z (one_more_lem file one n ∙ advance_off file (after file n) (rec file n) z)
]

pub done_most : (file : List ℕ) → version file ≡ 1 → (n : ℕ) → (after file n).done ≤ n
done_most file one n = (led file one n).few

pub turned_at : (file : List ℕ) → version file ≡ 1 → (n k : ℕ) → k < (after file n).done → Turned file k
turned_at file one n = (led file one n).turned

pub rows_then : (file : List ℕ) → version file ≡ 1 → (n : ℕ) → (after file (after file n).done).rows ≡ (after file n).rows
rows_then file one n = (led file one n).rows

pub finished_then : (file : List ℕ) → version file ≡ 1 → (n : ℕ) → (after file (after file n).done).finished ≡ (after file n).finished
finished_then file one n = (led file one n).finished

pub events_then : (file : List ℕ) → version file ≡ 1 → (n : ℕ) → events_to file (after file n).done ≡ events_to file n
events_then file one n = (led file one n).events

-- the events that record k adds
pub events_on : (file : List ℕ) → version file ≡ 1 → (k : ℕ) (z : Turned file k)
    → events_to file (suc k) ≡ events_to file k ++ event_of (first_byte file k % 16) (after file k).bench (rec file k) z.added
events_on file one k z = events_more file one k
    ∙ ap (λ l. events_to file k ++ l) (added_by (after file k) (rec file k) z.fine z.step ∙ append-nil (event_of (first_byte file k % 16) (after file k).bench (rec file k) z.added))

-- ---- rows stay

record Grown (l m : List ℕ) : Type 0 where
  rest : List ℕ
  is : m ≡ l ++ rest

grown_on : (file : List ℕ) (p : Progress) (r : Rec) → Grown p.rows (advance file p r).rows
grown_on file p r = elim (ℕ_discrete p.refusal 0) [
  | yes z ↦ by (record_step p.bench r.last r.first r.second r.extra) (advance_on file p r z)
  | no z ↦ record { rest = []; is = ap (λ (q : Progress). q.rows) (advance_off file p r z) ∙ sym (append-nil p.rows) }
]
  where
    by : (res : Result) → advance file p r ≡ advance_by file p (r.first / 16) res → Grown p.rows (advance file p r).rows
    by (refused m) e = record { rest = []; is = ap (λ (q : Progress). q.rows) e ∙ sym (append-nil p.rows) }
    by (carried b w) e = record { rest = row_bytes file (r.first / 16) (p.bench.threads (r.first / 16)) w; is = ap (λ (q : Progress). q.rows) e }

grown : (file : List ℕ) → version file ≡ 1 → (k j : ℕ) → Grown (after file k).rows (after file (k + j)).rows
grown file one k zero = let q : k + 0 ≡ k = omega arith in record { rest = []; is = ap (λ i. (after file i).rows) q ∙ sym (append-nil (after file k).rows) }
grown file one k (suc j) =
    let q : k + suc j ≡ suc (k + j) = omega arith in
    let a = grown file one k j in
    let b = grown_on file (after file (k + j)) (rec file (k + j)) in
    record {
      rest = a.rest ++ b.rest;
      is = ap (λ i. (after file i).rows) q ∙ ap (λ (p : Progress). p.rows) (one_more_lem file one (k + j)) ∙ b.is ∙ ap (λ l. l ++ b.rest) a.is ∙ append_assoc (after file k).rows a.rest b.rest;
    }

-- a row has four bytes
pub rows_four : (file : List ℕ) → version file ≡ 1 → (k : ℕ) → length (after file k).rows ≡ 4 * (after file k).finished
unfolding ite
rows_four file one k = rw (eq-eqb _ _ one) at (rows_length file k)

pub finished_grows : (file : List ℕ) → version file ≡ 1 → (k n : ℕ) → k ≤ n → (after file k).finished ≤ (after file n).finished
finished_grows file one k n h = subst (λ i. (after file k).finished ≤ (after file i).finished) sum
    (omega (arith, rows_four file one k, rows_four file one (k + (n - k)), ap length g.is, length-append (after file k).rows g.rest))
  where
    g : Grown (after file k).rows (after file (k + (n - k))).rows
    g = grown file one k (n - k)

    sum : k + (n - k) ≡ n
    sum = omega arith

-- the row that record k adds, in the rows of any later moment
pub record RowAt (rows : List ℕ) (m t a s y : ℕ) : Type 0 where
  pub thread : get_or rows (4 * m) 0 ≡ t
  pub action : get_or rows (4 * m + 1) 0 ≡ a
  pub station : get_or rows (4 * m + 2) 0 ≡ s
  pub answer : get_or rows (4 * m + 3) 0 ≡ y

row_in : (l rest : List ℕ) (m t a s y : ℕ) → length l ≡ 4 * m → RowAt (l ++ t ∷ a ∷ s ∷ y ∷ rest) m t a s y
row_in l rest m t a s y h = record {
  thread = at 0 (4 * m) (omega arith);
  action = at 1 (4 * m + 1) (omega arith);
  station = at 2 (4 * m + 2) (omega arith);
  answer = at 3 (4 * m + 3) (omega arith);
}
  where
    at : (i j : ℕ) → j ≡ length l + i → get_or (l ++ t ∷ a ∷ s ∷ y ∷ rest) j 0 ≡ get_or (t ∷ a ∷ s ∷ y ∷ rest) i 0
    at i j e = ap (λ v. get_or (l ++ t ∷ a ∷ s ∷ y ∷ rest) v 0) e ∙ get_or-append-add l (t ∷ a ∷ s ∷ y ∷ rest) i 0

row_bytes_lem : (file : List ℕ) → version file ≡ 1 → (t : ℕ) (th : Thread) (a : Answer) (d c : ℕ) → row_bytes file t th (row a d c) ≡ t ∷ action_number th.action ∷ th.station ∷ answer_number a ∷ []
unfolding ite
row_bytes_lem file one t th a d c = rw (eq-eqb _ _ one)

pub row_at : (file : List ℕ) → version file ≡ 1 → (k n : ℕ) (b : Bench) (a : Answer) (d c : ℕ) → k < n
    → after file (suc k) ≡ advance_by file (after file k) (first_byte file k / 16) (carried b (row a d c))
    → RowAt (after file n).rows (after file k).finished (first_byte file k / 16) (action_number ((after file k).bench.threads (first_byte file k / 16)).action)
    ((after file k).bench.threads (first_byte file k / 16)).station (answer_number a)
row_at file one k n b a d c h e =
    subst (λ l. RowAt l (after file k).finished t (action_number th.action) th.station (answer_number a)) (sym all)
    (row_in (after file k).rows g.rest (after file k).finished t (action_number th.action) th.station (answer_number a) (rows_four file one k))
  where
    t : ℕ
    t = first_byte file k / 16

    th : Thread
    th = (after file k).bench.threads (first_byte file k / 16)

    g : Grown (after file (suc k)).rows (after file (suc k + (n - suc k))).rows
    g = grown file one (suc k) (n - suc k)

    sum : n ≡ suc k + (n - suc k)
    sum = omega arith

    all : (after file n).rows ≡ (after file k).rows ++ t ∷ action_number th.action ∷ th.station ∷ answer_number a ∷ g.rest
    all = ap (λ i. (after file i).rows) sum ∙ g.is ∙ ap (λ (p : Progress). p.rows ++ g.rest) e ∙ ap (λ l. ((after file k).rows ++ l) ++ g.rest) (row_bytes_lem file one t th a d c)
        ∙ append_assoc (after file k).rows (t ∷ action_number th.action ∷ th.station ∷ answer_number a ∷ []) g.rest
