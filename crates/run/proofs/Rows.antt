-- The rows of every run fit: they are half as many as the records at most, for an operation that finishes took a start and a step
-- of its own. Assumes nothing.
use mathlib.Core.Path.{◌≡◌, refl, ap, ◌∙◌}
use mathlib.Core.Bool.{Bool, true, false}
use mathlib.Core.List.{List, []}
use Prim.Native.Nat.{ℕ, zero, suc, ◌+◌, ◌*◌, ◌/◌, ◌%◌, ◌≤◌, ◌<◌}
use native.Mathlib.Omega.{arith}
use borrow.Author.Tests.{ltb-false}
use lib.Dec.{eqb}
use lib.ListN.{length, length-append}
use Rattle.container.specs.Choice.{ite, upd}
use Rattle.definitions.specs.Threads.{Thread, begun, asking, idle, Turn, Moves, Finishes, Finds, Full, NoStore}
use Rattle.definitions.specs.Bench.{Bench, sight_of}
use Rattle.definitions.specs.Places.{place_of}
use Rattle.definitions.specs.Steps.{step}
use Rattle.definitions.specs.Records.{Row, no_row, row, Result, refused, carried, taken, is_idle, stepped, started, asked, acted, record_step}
use Rattle.definitions.specs.Versions.{version, row_width, row_room}
use Rattle.definitions.specs.Schedule.{Rec, record_at}
use Rattle.definitions.specs.Run.{Progress, bytes_of, wider_row, row_bytes, row_count, advance_by, advance, after}
use Rattle.definitions.specs.declared.Action.{Action}
use Rattle.definitions.specs.declared.Action.TheVariants.{Lookup, Insert, Remove, Split, Join}

-- ---- busy threads

one : Bool → ℕ
one true = 0
one false = 1

busy : Thread → ℕ
busy th = one (is_idle th)

busies : (ℕ → Thread) → ℕ
busies f = busy (f 0) + busy (f 1) + busy (f 2) + busy (f 3)

at_most : (th : Thread) → busy th ≤ 1
unfolding busy one
at_most th = by (is_idle th)
  where
    by : (c : Bool) → one c ≤ 1
    by true = omega arith
    by false = omega arith

replaced : (f : ℕ → Thread) (th : Thread) (t : ℕ) → t < 4 → busies (upd f t th) + busy (f t) ≡ busies f + busy th
unfolding busies
replaced f th zero h = omega arith
replaced f th (suc zero) h = omega arith
replaced f th (suc (suc zero)) h = omega arith
replaced f th (suc (suc (suc zero))) h = omega arith
replaced f th (suc (suc (suc (suc t)))) h = absurd (omega arith)

-- ---- one record

-- what a carried record adds in rows and busy threads is paid for by the record
abbrev Paid : Bench → Result → Type 0
Paid b (refused k) = Unit {0}
Paid b (carried b' w) = 2 * row_count w + busies b'.threads ≤ suc (busies b.threads)

pick : (b : Bench) (c : Bool) (r r' : Result) → (c ≡ true → Paid b r) → (c ≡ false → Paid b r') → Paid b (ite c r r')
unfolding ite
pick b true r r' p q = p refl
pick b false r r' p q = q refl

module _ (b : Bench) (t y d : ℕ) (h : t < 4) where
  starts : (a : Action) → Paid b (started b t a y d)
  unfolding started busy one
  starts a = pick b _ _ _ (λ _. tt) (λ _. pick b _ _ _ (λ _. pick b _ _ _ (λ i. omega (arith, replaced b.threads (begun a y d 1) t h, ap one i)) (λ _. tt)) (λ _. tt))

  opens : Paid b (asked b t y d)
  unfolding asked busy one
  opens = pick b _ _ _ (λ _. tt) (λ _. pick b _ _ _ (λ _. tt) (λ _. pick b _ _ _ (λ _. tt) (λ _. pick b _ _ _ (λ i. omega (arith, replaced b.threads (asking y d) t h, ap one i)) (λ _. tt))))

  takes : (o : Turn) → is_idle (b.threads t) ≡ false → Paid b (taken b t o)
  unfolding taken busy one
  takes (Moves th e) i = omega (arith, replaced b.threads th t h, at_most th, ap one i)
  takes (Finishes e a) i = omega (arith, replaced b.threads idle t h, ap one i)
  takes (Finds c) i = omega (arith, replaced b.threads idle t h, ap one i)
  takes Full i = tt
  takes NoStore i = tt

  steps : Paid b (stepped b t y d)
  unfolding stepped
  steps = pick b _ _ _ (λ _. pick b _ _ _ (λ _. pick b _ _ _ (λ _. tt) (takes (step (place_of (b.threads t).place) (sight_of b.store) (b.threads t)))) (λ _. tt)) (λ _. tt)

  acts : (n : ℕ) → Paid b (acted n b t y d)
  acts zero = steps
  acts (suc zero) = starts Lookup
  acts (suc (suc zero)) = starts Insert
  acts (suc (suc (suc zero))) = starts Remove
  acts (suc (suc (suc (suc zero)))) = starts Split
  acts (suc (suc (suc (suc (suc zero))))) = starts Join
  acts (suc (suc (suc (suc (suc (suc zero)))))) = opens
  acts (suc (suc (suc (suc (suc (suc (suc n))))))) = tt

paid : (b : Bench) (l x y d : ℕ) → Paid b (record_step b l x y d)
unfolding record_step
paid b l x y d = pick b _ _ _ (λ _. tt) (λ e. pick b _ _ _ (λ _. tt) (λ _. acts b (x / 16) y d (omega (arith, ltb-false 3 (x / 16) e)) (x % 16)))

-- ---- the bytes of a row, and of several
row_length : (file : List ℕ) (t : ℕ) (th : Thread) (w : Row) → length (row_bytes file t th w) ≡ row_width file * row_count w
unfolding ite bytes_of
row_length file t th no_row = omega arith
row_length file t th (row a d c) = by (eqb (version file) 1)
  where
    by : (v : Bool) → suc (suc (suc (suc (length (ite v [] (wider_row d c)))))) ≡ ite v 4 14 * 1
    by true = refl
    by false = refl

rows_add : (v : Bool) (a b : ℕ) → ite v 4 14 * a + ite v 4 14 * b ≡ ite v 4 14 * (b + a)
unfolding ite
rows_add true a b = omega arith
rows_add false a b = omega arith

-- ---- every run

-- after k records
record Fits (file : List ℕ) (p : Progress) (k : ℕ) : Type 0 where
  rows : length p.rows ≡ row_width file * p.finished
  spent : 2 * p.finished + busies p.bench.threads ≤ p.done
  few : p.done ≤ k

module _ (file : List ℕ) where
  advances : (p : Progress) (k t : ℕ) → Fits file p k → (r : Result) → Paid p.bench r → Fits file (advance_by file p t r) (suc k)
  advances p k t f (refused n) c = record { rows = f.rows; spent = f.spent; few = omega (arith, f.few) }
  advances p k t f (carried b w) c = record {
    rows = length-append p.rows (row_bytes file t (p.bench.threads t) w) ∙ rw (f.rows, row_length file t (p.bench.threads t) w) (rows_add (eqb (version file) 1) p.finished (row_count w));
    spent = omega (arith, f.spent, c);
    few = omega (arith, f.few);
  }

  either : (p : Progress) (k : ℕ) (c : Bool) {q : Progress} → Fits file p k → Fits file q (suc k) → Fits file (ite c q p) (suc k)
  unfolding ite
  either p k true f g = g
  either p k false f g = record { rows = f.rows; spent = f.spent; few = omega (arith, f.few) }

  onward : (p : Progress) (k : ℕ) (r : Rec) → Fits file p k → Fits file (advance file p r) (suc k)
  unfolding advance
  onward p k r f = either p k _ f (advances p k (r.first / 16) f (record_step p.bench r.last r.first r.second r.extra) (paid p.bench r.last r.first r.second r.extra))

none_busy : busies (λ _. idle) ≡ 0
unfolding busies busy one
none_busy = refl

fits : (file : List ℕ) (k : ℕ) → Fits file (after file k) k
unfolding after
fits file zero = record { rows = omega arith; spent = omega (arith, none_busy); few = omega arith }
fits file (suc k) = onward file (after file k) k (record_at file k) (fits file k)

pub rows_length : (file : List ℕ) (k : ℕ) → length (after file k).rows ≡ row_width file * (after file k).finished
rows_length file k = (fits file k).rows

pub rows_fit : (file : List ℕ) (k : ℕ) → length (after file k).rows ≤ row_room file k
unfolding ite
rows_fit file k = by (eqb (version file) 1) (rows_length file k)
  where
    by : (v : Bool) → length (after file k).rows ≡ ite v 4 14 * (after file k).finished → length (after file k).rows ≤ ite v 2 7 * k
    by true e = omega (arith, fits file k)
    by false e = omega (arith, fits file k)

pub done_few : (file : List ℕ) (k : ℕ) → (after file k).done ≤ k
done_few file k = (fits file k).few

pub finished_few : (file : List ℕ) (k : ℕ) → (after file k).finished ≤ k
finished_few file k = omega (arith, (fits file k).spent, (fits file k).few)

pub finished_half : (file : List ℕ) (k : ℕ) → 2 * (after file k).finished ≤ k
finished_half file k = omega (arith, (fits file k).spent, (fits file k).few)
