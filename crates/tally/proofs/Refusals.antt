-- Every refusal of Run is below 17 and none is 6 (`refusals_rule`), so each is counted at its place. Assumes nothing.
use mathlib.Core.Logic.{◌≢◌}
use mathlib.Core.Bool.{Bool, true, false}
use mathlib.Core.List.{List}
use Prim.Native.Nat.{ℕ, zero, suc, ◌/◌, ◌%◌, ◌<◌}
use native.Mathlib.Omega.{arith}
use native.Mathlib.Decide.{ℕ_discrete}
use Rattle.container.specs.Choice.{ite}
use Rattle.definitions.specs.Threads.{Turn, Moves, Finishes, Finds, Full, NoStore}
use Rattle.definitions.specs.Bench.{Bench, sight_of}
use Rattle.definitions.specs.Places.{place_of}
use Rattle.definitions.specs.Steps.{step}
use Rattle.definitions.specs.Records.{Result, refused, carried, taken, stepped, depth_refusal, started, asked, acted, record_step}
use Rattle.definitions.specs.Schedule.{Rec, record_at, count_of, file_refusal}
use Rattle.definitions.specs.Run.{Progress, advance_by, after, run_refusal, run_report}
use Rattle.definitions.specs.declared.Action.{Action}
use Rattle.definitions.specs.declared.Action.TheVariants.{Lookup, Insert, Remove, Split, Join, Query}
use Rattle.passing.proofs.RunRows.{advance_on, advance_off}
use Rattle.season.specs.Season.{RefusalsRule}
use Rattle.tally.proofs.Told.{report_on, report_off}

-- ---- a number that has a place
record Has (k : ℕ) : Type 0 where
  low : k < 17
  other : k ≢ 6

pick : (c : Bool) (j k : ℕ) → Has j → Has k → Has (ite c j k)
unfolding ite
pick true j k p q = p
pick false j k p q = q

file_has : (file : List ℕ) → Has (file_refusal file)
unfolding file_refusal
file_has file = pick _ _ _ (omega arith) (pick _ _ _ (pick _ _ _ (omega arith) (pick _ _ _ (omega arith) (omega arith))) (omega arith))

run_has : (file : List ℕ) (n : ℕ) → Has (run_refusal file n)
unfolding run_refusal
run_has file n = pick _ _ _ (pick _ _ _ (omega arith) (omega arith)) (file_has file)

-- ---- a record

abbrev Numbered : Result → Type 0
Numbered (refused k) = Has k
Numbered (carried b w) = Unit {0}

choose : (c : Bool) (r s : Result) → Numbered r → Numbered s → Numbered (ite c r s)
unfolding ite
choose true r s p q = p
choose false r s p q = q

depth_has : (a : Action) (d : ℕ) → Has (depth_refusal a d)
depth_has Lookup d = pick _ _ _ (omega arith) (omega arith)
depth_has Insert d = pick _ _ _ (omega arith) (omega arith)
depth_has Remove d = pick _ _ _ (omega arith) (omega arith)
depth_has Split d = pick _ _ _ (omega arith) (omega arith)
depth_has Join d = pick _ _ _ (omega arith) (omega arith)
depth_has Query d = pick _ _ _ (omega arith) (omega arith)

module _ (b : Bench) (t y d : ℕ) where
  start_numbered : (a : Action) → Numbered (started b t a y d)
  unfolding started
  start_numbered a = choose _ _ _ (omega arith) (choose _ _ _ (choose _ _ _ tt (omega arith)) (depth_has a d))

  ask_numbered : Numbered (asked b t y d)
  unfolding asked
  ask_numbered = choose _ _ _ (omega arith) (choose _ _ _ (omega arith) (choose _ _ _ (omega arith) (choose _ _ _ tt (omega arith))))

  turn_numbered : (o : Turn) → Numbered (taken b t o)
  unfolding taken
  turn_numbered (Moves th e) = tt
  turn_numbered (Finishes e a) = tt
  turn_numbered (Finds c) = tt
  turn_numbered Full = omega arith
  turn_numbered NoStore = omega arith

  step_numbered : Numbered (stepped b t y d)
  unfolding stepped
  step_numbered = choose _ _ _ (choose _ _ _ (choose _ _ _ (omega arith) (turn_numbered (step (place_of (b.threads t).place) (sight_of b.store) (b.threads t)))) (omega arith)) (omega arith)

  acted_numbered : (n : ℕ) → Numbered (acted n b t y d)
  acted_numbered zero = step_numbered
  acted_numbered (suc zero) = start_numbered Lookup
  acted_numbered (suc (suc zero)) = start_numbered Insert
  acted_numbered (suc (suc (suc zero))) = start_numbered Remove
  acted_numbered (suc (suc (suc (suc zero)))) = start_numbered Split
  acted_numbered (suc (suc (suc (suc (suc zero))))) = start_numbered Join
  acted_numbered (suc (suc (suc (suc (suc (suc zero)))))) = ask_numbered
  acted_numbered (suc (suc (suc (suc (suc (suc (suc n))))))) = omega arith

record_numbered : (b : Bench) (r : Rec) → Numbered (record_step b r.last r.first r.second r.extra)
unfolding record_step
record_numbered b r = choose _ _ _ (omega arith) (choose _ _ _ (omega arith) (acted_numbered b (r.first / 16) r.second r.extra (r.first % 16)))

-- ---- a run

advance_has : (file : List ℕ) (p : Progress) (t : ℕ) (o : Result) → Numbered o → Has (advance_by file p t o).refusal
advance_has file p t (refused k) h = h
advance_has file p t (carried b w) h = omega arith

after_has : (file : List ℕ) (n : ℕ) → Has (after file n).refusal
unfolding after
after_has file zero = omega arith
after_has file (suc n) = elim (ℕ_discrete (after file n).refusal 0) [
  | yes z ↦ rw (advance_on file (after file n) (record_at file n) z)
      (advance_has file (after file n) ((record_at file n).first / 16)
      (record_step (after file n).bench (record_at file n).last (record_at file n).first (record_at file n).second (record_at file n).extra)
      (record_numbered (after file n).bench (record_at file n)))
  | no z ↦ rw (advance_off file (after file n) (record_at file n) z) (after_has file n)
]

report_has : (file : List ℕ) (n : ℕ) → Has (run_report file n).refusal
report_has file n = elim (ℕ_discrete (run_refusal file n) 0) [
  | yes z ↦ rw (report_on file n z) (after_has file (count_of file))
  | no z ↦ rw (report_off file n z) (run_has file n)
]

pub refusals_rule : RefusalsRule
refusals_rule file n = ((report_has file n).low, (report_has file n).other)
