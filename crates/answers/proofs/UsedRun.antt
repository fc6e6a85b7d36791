-- In every file's run at most 256 numbers are used and at most 64 stores are shown, and two bases follow each route, at every moment.
-- It rests on Used.antt.
use mathlib.Core.Bool.{Bool, true, false}
use mathlib.Core.List.{List}
use Prim.Native.Nat.{ℕ, zero, suc, ◌/◌, ◌%◌, ◌≤◌}
use native.Mathlib.Omega.{arith}
use lib.Dec.{eqb}
use Rattle.container.specs.Choice.{ite}
use Rattle.definitions.specs.Bench.{Bench}
use Rattle.definitions.specs.Threads.{Turn, Moves, Finishes, Finds, Full, NoStore}
use Rattle.definitions.specs.Places.{place_of}
use Rattle.definitions.specs.Records.{Result, refused, carried, taken, stepped, started, asked, acted, record_step}
use Rattle.definitions.specs.Schedule.{Rec, record_at}
use Rattle.definitions.specs.Run.{Progress, advance_by, advance, after}
use Rattle.definitions.specs.declared.Action.{Action}
use Rattle.definitions.specs.declared.Action.TheVariants.{Lookup, Insert, Remove, Split, Join}
use Rattle.answers.proofs.Tools.{clash}
use Rattle.answers.proofs.Gaps.{Fits}
use Rattle.answers.proofs.Used.{Few, step_few}

-- ---- one record

abbrev pub Keeps : Result → Type 0
Keeps (refused k) = Unit {0}
Keeps (carried b w) = Fits b.store

either : (c : Bool) (r r' : Result) → Keeps r → Keeps r' → Keeps (ite c r r')
unfolding ite
either true r r' p q = p
either false r r' p q = q

module _ (b : Bench) (h : Fits b.store) (t y d : ℕ) where
  taken_keeps : (o : Turn) → Few b.store o → Keeps (taken b t o)
  unfolding taken
  taken_keeps (Moves th e) f = f
  taken_keeps (Finishes e a) f = f
  taken_keeps (Finds c) f = h
  taken_keeps Full f = tt
  taken_keeps NoStore f = tt

  started_keeps : (a : Action) → Keeps (started b t a y d)
  unfolding started
  started_keeps a = either _ _ _ tt (either _ _ _ (either _ _ _ h tt) tt)

  asked_keeps : Keeps (asked b t y d)
  unfolding asked
  asked_keeps = either _ _ _ tt (either _ _ _ tt (either _ _ _ tt (either _ _ _ h tt)))

  stepped_keeps : Keeps (stepped b t y d)
  unfolding stepped
  stepped_keeps = either _ _ _ (either _ _ _ (either _ _ _ tt (taken_keeps _ (step_few b.store h (place_of (b.threads t).place) (b.threads t)))) tt) tt

  acted_keeps : (n : ℕ) → Keeps (acted n b t y d)
  acted_keeps zero = stepped_keeps
  acted_keeps (suc zero) = started_keeps Lookup
  acted_keeps (suc (suc zero)) = started_keeps Insert
  acted_keeps (suc (suc (suc zero))) = started_keeps Remove
  acted_keeps (suc (suc (suc (suc zero)))) = started_keeps Split
  acted_keeps (suc (suc (suc (suc (suc zero))))) = started_keeps Join
  acted_keeps (suc (suc (suc (suc (suc (suc zero)))))) = asked_keeps
  acted_keeps (suc (suc (suc (suc (suc (suc (suc n))))))) = tt

pub record_keeps : (b : Bench) (l x y d : ℕ) → Fits b.store → Keeps (record_step b l x y d)
unfolding record_step
record_keeps b l x y d h = either _ _ _ tt (either _ _ _ tt (acted_keeps b h (x / 16) y d (x % 16)))

-- ---- every run

advance_fits : (file : List ℕ) (p : Progress) (r : Rec) → Fits p.bench.store → Fits (advance file p r).bench.store
unfolding advance ite
advance_fits file p r h = by (eqb p.refusal 0) (advance_by file p (r.first / 16) next) (onward next (record_keeps p.bench r.last r.first r.second r.extra h))
  where
    next : Result
    next = record_step p.bench r.last r.first r.second r.extra

    onward : (v : Result) → Keeps v → Fits (advance_by file p (r.first / 16) v).bench.store
    onward (refused k) g = h
    onward (carried b w) g = g

    by : (c : Bool) (q : Progress) → Fits q.bench.store → Fits (ite c q p).bench.store
    by true q g = g
    by false q g = h

pub reach_store : (file : List ℕ) (k : ℕ) → Fits (after file k).bench.store
unfolding after
reach_store file zero = record { numbers = omega arith; stores = omega arith; some = omega arith; gap = λ x l e. absurd (clash (cc)) }
reach_store file (suc k) = advance_fits file (after file k) (record_at file k) (reach_store file k)

pub reach_used : (file : List ℕ) (k : ℕ) → (after file k).bench.store.used ≤ 256
reach_used file k = (reach_store file k).numbers

pub reach_shown : (file : List ℕ) (k : ℕ) → (after file k).bench.store.shown ≤ 64
reach_shown file k = (reach_store file k).stores
