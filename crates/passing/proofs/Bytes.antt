-- A list of events written as a file and read back. Assumes nothing.
use Rattle.std.proofs.lemmas.Bool.{and_parts}
use Rattle.std.specs.Prelude.{Option, Some, None}
use mathlib.Core.Path.{◌≡◌, refl, sym, ◌∙◌, ap, subst}
use mathlib.Core.Bool.{true, false}
use mathlib.Core.List.{List, [], ◌∷◌}
use Prim.Native.Nat.{ℕ, zero, suc, ◌+◌, ◌*◌, ◌<◌, ◌≤◌}
use native.Mathlib.Omega.{arith}
use lib.Dec.{ltb}
use lib.ListN.{get_or, length}
use borrow.Author.Tests.{eq-eqb, ne_eqb, le-ltb, ltb-true}
use Rattle.container.specs.Choice.{ite}
use Rattle.definitions.specs.Schedule.{count_of}
use Rattle.definitions.specs.History.{Event, Events, events_of, Reading, unread, ended_by, noted, in_place, reading}
use Rattle.definitions.specs.History.{all_in_place, unfinished, reading_of, form_refusal, events_refusal, history_refusal}
use Rattle.definitions.specs.History.{in_range}
use Rattle.definitions.specs.Written.{start_of, starts, bytes_of, history_of}
use Rattle.passing.proofs.Fold.{read_all}
use Rattle.passing.proofs.Pass.{AllPlaced}

-- ---- the four bytes of event k
at : ℕ → ℕ
at zero = 0
at (suc k) = suc (suc (suc (suc (at k))))

at_is : (k : ℕ) → at k ≡ 4 * k
unfolding at
at_is zero = refl
at_is (suc k) = omega (arith, at_is k)

abbrev blank : Event
blank = record { thread = 0; action = 0; station = 0; mark = 0 }

abbrev nth : List Event → ℕ → Event
nth es k = get_or es k blank

record Four (l : List ℕ) (j : ℕ) (e : Event) : Type 0 where
  thread : get_or l j 0 ≡ e.thread
  action : get_or l (suc j) 0 ≡ e.action
  station : get_or l (suc (suc j)) 0 ≡ e.station
  mark : get_or l (suc (suc (suc j))) 0 ≡ e.mark

four : (es : List Event) (k : ℕ) → k < length es → Four (bytes_of es) (at k) (nth es k)
unfolding at
four [] k h = absurd (omega arith)
four (e ∷ es) zero h = record { thread = refl; action = refl; station = refl; mark = refl }
four (e ∷ es) (suc k) h = let o = four es k (omega arith) in record { thread = o.thread; action = o.action; station = o.station; mark = o.mark }

event_back : (es : List Event) (k : ℕ) → k < length es → events_of (history_of es) k ≡ nth es k
event_back es k h =
    let o = four es k h in
    let q0 : 3 + 4 * k ≡ suc (suc (suc (at k))) = omega (arith, at_is k) in
    let q1 : 4 + 4 * k ≡ suc (suc (suc (suc (at k)))) = omega (arith, at_is k) in
    let q2 : 5 + 4 * k ≡ suc (suc (suc (suc (suc (at k))))) = omega (arith, at_is k) in
    let q3 : 6 + 4 * k ≡ suc (suc (suc (suc (suc (suc (at k)))))) = omega (arith, at_is k) in
    rw (q0, q1, q2, q3, o.thread, o.action, o.station, o.mark)

pub bytes_length : (es : List Event) → length (bytes_of es) ≡ 4 * length es
bytes_length [] = refl
bytes_length (e ∷ es) = omega (arith, bytes_length es)

count_back : (es : List Event) → count_of (history_of es) ≡ length es
unfolding count_of
count_back es = omega arith

-- ---- the reading
fold_reading : (E : Events) (es : List Event) (base : ℕ) → ((k : ℕ) → k < length es → E (base + k) ≡ nth es k) → reading E (base + length es) ≡ read_all es (reading E base)
unfolding reading
fold_reading E [] base h = ap (reading E) (let q : base + 0 ≡ base = omega arith in q)
fold_reading E (e ∷ es) base h =
    let q : base + suc (length es) ≡ suc base + length es = omega arith in
    let z : base + 0 ≡ base = omega arith in
    ap (reading E) q ∙ fold_reading E es (suc base) (λ k l. ap E (let w : suc base + k ≡ base + suc k = omega arith in w) ∙ h (suc k) (omega arith))
    ∙ ap (λ x. read_all es (noted x (reading E base))) (ap E (sym z) ∙ h 0 (omega arith))

fold_placed : (E : Events) (es : List Event) (base : ℕ) → ((k : ℕ) → k < length es → E (base + k) ≡ nth es k) → all_in_place E base ≡ true → AllPlaced es (reading E base)
    → all_in_place E (base + length es) ≡ true
unfolding reading all_in_place
fold_placed E [] base h a p = subst (λ x. all_in_place E x ≡ true) (let q : base ≡ base + 0 = omega arith in q) a
fold_placed E (e ∷ es) base h a p =
    let q : suc base + length es ≡ base + suc (length es) = omega arith in
    let z : base ≡ base + 0 = omega arith in
    let x : E base ≡ e = ap E z ∙ h 0 (omega arith) in
    subst (λ y. all_in_place E y ≡ true) q (fold_placed E es (suc base) (λ k l. ap E (let w : suc base + k ≡ base + suc k = omega arith in w) ∙ h (suc k) (omega arith))
    (rw (a, x) p.0) (rw x p.1))

-- ---- how many operations
one_more_lem : (m : ℕ) (e : Event) (R : Reading) → e.mark ≡ m → (noted e R).all.count ≡ start_of m + R.all.count
unfolding ite
one_more_lem zero e R q = rw (eq-eqb e.mark 0 q) (omega arith)
one_more_lem (suc m) e R q = rw (ne_eqb e.mark 0 (λ z. omega arith)) (by (R.busy e.thread))
  where
    by : (l : Option ℕ) → (ended_by l e R).all.count ≡ start_of (suc m) + R.all.count
    by None = omega arith
    by (Some i) = omega arith

count_all : (es : List Event) (R : Reading) → (read_all es R).all.count ≡ starts es + R.all.count
count_all [] R = omega arith
count_all (e ∷ es) R = omega (arith, count_all es (noted e R), one_more_lem e.mark e R refl)

-- ---- the whole file
module _ (es : List Event) (pl : AllPlaced es unread) (few : starts es ≤ 12) (free : (t : ℕ) → (read_all es unread).busy t ≡ None) where
  back : (k : ℕ) → k < length es → events_of (history_of es) (0 + k) ≡ nth es k
  back k h = ap (events_of (history_of es)) (let q : 0 + k ≡ k = omega arith in q) ∙ event_back es k h

  at_end : 0 + length es ≡ length es
  at_end = omega arith

  reading_start : reading (events_of (history_of es)) 0 ≡ unread
  unfolding reading
  reading_start = refl

  reading_all : reading (events_of (history_of es)) (length es) ≡ read_all es unread
  reading_all = ap (reading (events_of (history_of es))) (sym at_end) ∙ fold_reading (events_of (history_of es)) es 0 back ∙ ap (read_all es) reading_start

  pub reading_back : reading_of (history_of es) ≡ read_all es unread
  reading_back = ap (reading (events_of (history_of es))) (count_back es) ∙ reading_all

  place_start : all_in_place (events_of (history_of es)) 0 ≡ true
  unfolding all_in_place
  place_start = refl

  placed_back : all_in_place (events_of (history_of es)) (length es) ≡ true
  placed_back = subst (λ x. all_in_place (events_of (history_of es)) x ≡ true) at_end
      (fold_placed (events_of (history_of es)) es 0 back place_start (subst (λ Q. AllPlaced es Q) (sym reading_start) pl))

  none_open : unfinished (read_all es unread) ≡ false
  unfolding unfinished
  none_open = rw (free 0, free 1, free 2, free 3)

  form_right : form_refusal (history_of es) ≡ 0
  unfolding form_refusal ite
  form_right = rw (le-ltb (length (history_of es)) 3 (omega arith), eq-eqb (length (history_of es)) (3 + 4 * count_of (history_of es)) (omega (arith, bytes_length es, count_back es)))

  events_right : events_refusal (events_of (history_of es)) (length es) ≡ 0
  unfolding events_refusal ite
  events_right = rw (placed_back, reading_all, le-ltb 12 (read_all es unread).all.count (omega (arith, count_all es unread)), none_open)

  pub not_refused : history_refusal (history_of es) ≡ 0
  unfolding history_refusal ite
  not_refused = rw (form_right, count_back es) events_right

-- ---- each number of the file is a byte
record Small (e : Event) : Type 0 where
  thread : e.thread < 4
  action : e.action < 4
  station : e.station < 64
  mark : e.mark < 3

small : (e : Event) (R : Reading) → in_place e R ≡ true → Small e
unfolding in_place
small e R p =
    let q0 = and_parts (ltb e.thread 4) _ (and_parts (in_range e) _ p).0 in
    let q1 = and_parts (ltb 0 e.action) _ q0.1 in
    let q2 = and_parts (ltb e.action 4) _ q1.1 in
    let q3 = and_parts (ltb e.station 64) (ltb e.mark 3) q2.1 in
    record { thread = ltb-true e.thread 4 q0.0; action = ltb-true e.action 4 q2.0; station = ltb-true e.station 64 q3.0; mark = ltb-true e.mark 3 q3.1 }

event_bytes : (es : List Event) (R : Reading) → AllPlaced es R → (j : ℕ) → get_or (bytes_of es) j 0 < 256
event_bytes [] R p j = omega arith
event_bytes (e ∷ es) R p zero = omega (arith, (small e R p.0).thread)
event_bytes (e ∷ es) R p (suc zero) = omega (arith, (small e R p.0).action)
event_bytes (e ∷ es) R p (suc (suc zero)) = omega (arith, (small e R p.0).station)
event_bytes (e ∷ es) R p (suc (suc (suc zero))) = omega (arith, (small e R p.0).mark)
event_bytes (e ∷ es) R p (suc (suc (suc (suc j)))) = event_bytes es (noted e R) p.1 j

pub file_bytes : (es : List Event) → AllPlaced es unread → length es ≤ 4096 → (j : ℕ) → get_or (history_of es) j 0 < 256
file_bytes es p h zero = omega arith
file_bytes es p h (suc zero) = omega arith
file_bytes es p h (suc (suc zero)) = omega arith
file_bytes es p h (suc (suc (suc j))) = event_bytes es unread p j
