-- The refusal that ends a run is at most 16, and that of a file at most 4. Assumes nothing.
use mathlib.Core.Bool.{Bool, true, false}
use mathlib.Core.List.{List}
use Prim.Native.Nat.{ℕ, zero, suc, ◌/◌, ◌%◌, ◌≤◌}
use native.Mathlib.Omega.{arith}
use lib.Dec.{eqb, ltb}
use Rattle.container.specs.Choice.{ite}
use Rattle.definitions.specs.Bench.{Bench}
use Rattle.definitions.specs.Threads.{Turn, Moves, Finishes, Finds, Full, NoStore}
use Rattle.definitions.specs.Records.{Result, refused, carried, taken, depth_refusal, stepped, started, asked, acted, record_step}
use Rattle.definitions.specs.Schedule.{Rec, record_at, file_refusal}
use Rattle.definitions.specs.Run.{Progress, advance_by, advance, after}
use Rattle.definitions.specs.declared.Action.{Action}
use Rattle.definitions.specs.declared.Action.TheVariants.{Lookup, Insert, Remove, Split, Join, Query}

-- ---- a file

at_most : (c : Bool) (n m k : ℕ) → n ≤ k → m ≤ k → ite c n m ≤ k
unfolding ite
at_most true n m k p q = p
at_most false n m k p q = q

pub file_refusal_few : (file : List ℕ) → file_refusal file ≤ 4
unfolding file_refusal
file_refusal_few file = at_most _ _ _ 4 (omega arith) (at_most _ _ _ 4 (at_most _ _ _ 4 (omega arith) (at_most _ _ _ 4 (omega arith) (omega arith))) (omega arith))

-- ---- a record

abbrev Low : Result → Type 0
Low (refused k) = k ≤ 16
Low (carried b w) = Unit {0}

either : (c : Bool) (r r' : Result) → Low r → Low r' → Low (ite c r r')
unfolding ite
either true r r' p q = p
either false r r' p q = q

module _ (b : Bench) (t y d : ℕ) where
  taken_low : (o : Turn) → Low (taken b t o)
  unfolding taken
  taken_low (Moves th e) = tt
  taken_low (Finishes e a) = tt
  taken_low (Finds c) = tt
  taken_low Full = omega arith
  taken_low NoStore = omega arith

  depth_low : (a : Action) → depth_refusal a d ≤ 16
  depth_low Lookup = at_most (eqb d 0) 0 10 16 (omega arith) (omega arith)
  depth_low Insert = at_most (ltb 9999 d) 14 0 16 (omega arith) (omega arith)
  depth_low Remove = at_most (eqb d 0) 0 10 16 (omega arith) (omega arith)
  depth_low Split = at_most (eqb d 0) 0 10 16 (omega arith) (omega arith)
  depth_low Join = at_most (eqb d 0) 0 10 16 (omega arith) (omega arith)
  depth_low Query = at_most (eqb d 0) 0 10 16 (omega arith) (omega arith)

  started_low : (a : Action) → Low (started b t a y d)
  unfolding started
  started_low a = either _ _ _ (omega arith) (either _ _ _ (either _ _ _ tt (omega arith)) (depth_low a))

  asked_low : Low (asked b t y d)
  unfolding asked
  asked_low = either _ _ _ (omega arith) (either _ _ _ (omega arith) (either _ _ _ (omega arith) (either _ _ _ tt (omega arith))))

  stepped_low : Low (stepped b t y d)
  unfolding stepped
  stepped_low = either _ _ _ (either _ _ _ (either _ _ _ (omega arith) (taken_low _)) (omega arith)) (omega arith)

  acted_low : (n : ℕ) → Low (acted n b t y d)
  acted_low zero = stepped_low
  acted_low (suc zero) = started_low Lookup
  acted_low (suc (suc zero)) = started_low Insert
  acted_low (suc (suc (suc zero))) = started_low Remove
  acted_low (suc (suc (suc (suc zero)))) = started_low Split
  acted_low (suc (suc (suc (suc (suc zero))))) = started_low Join
  acted_low (suc (suc (suc (suc (suc (suc zero)))))) = asked_low
  acted_low (suc (suc (suc (suc (suc (suc (suc n))))))) = omega arith

record_low : (b : Bench) (l x y d : ℕ) → Low (record_step b l x y d)
unfolding record_step
record_low b l x y d = either _ _ _ (omega arith) (either _ _ _ (omega arith) (acted_low b (x / 16) y d (x % 16)))

-- ---- every run

advance_few : (file : List ℕ) (p : Progress) (r : Rec) → p.refusal ≤ 16 → (advance file p r).refusal ≤ 16
unfolding advance ite
advance_few file p r h =
    by (eqb p.refusal 0) (advance_by file p (r.first / 16) (record_step p.bench r.last r.first r.second r.extra))
    (onward (record_step p.bench r.last r.first r.second r.extra) (record_low p.bench r.last r.first r.second r.extra))
  where
    onward : (v : Result) → Low v → (advance_by file p (r.first / 16) v).refusal ≤ 16
    onward (refused k) g = g
    onward (carried b w) g = omega arith

    by : (c : Bool) (q : Progress) → q.refusal ≤ 16 → (ite c q p).refusal ≤ 16
    by true q g = g
    by false q g = h

pub refusal_few : (file : List ℕ) (k : ℕ) → (after file k).refusal ≤ 16
unfolding after
refusal_few file zero = omega arith
refusal_few file (suc k) = advance_few file (after file k) (record_at file k) (refusal_few file k)
