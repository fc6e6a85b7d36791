-- Run of a file that has no fault: its refusal is none of 1 to 4, and with room for the rows it carries the records out. Assumes nothing.
use mathlib.Core.Path.{◌≡◌, refl}
use mathlib.Core.Logic.{◌⊎◌, inl, inr}
use mathlib.Core.Bool.{Bool, true, false}
use mathlib.Core.List.{List}
use Prim.Native.Nat.{ℕ, zero, suc, ◌*◌, ◌/◌, ◌%◌, ◌≤◌}
use native.Mathlib.Omega.{arith}
use borrow.Author.Tests.{eq-eqb, le-ltb}
use lib.Dec.{eqb, ltb}
use lib.ListN.{get_or}
use Rattle.container.specs.Choice.{ite}
use Rattle.definitions.specs.Bench.{Bench, sight_of}
use Rattle.definitions.specs.Threads.{Turn, Moves, Finishes, Finds, Full, NoStore}
use Rattle.definitions.specs.Places.{place_of}
use Rattle.definitions.specs.Steps.{step}
use Rattle.definitions.specs.Records.{Result, refused, carried, taken, is_idle, stepped, depth_refusal, started, asked, acted, record_step}
use Rattle.definitions.specs.Schedule.{Rec, count_of, record_at, file_refusal}
use Rattle.definitions.specs.Versions.{row_room}
use Rattle.definitions.specs.Run.{Progress, advance_by, advance, after, ended, report_of, refused_report, run_refusal, run_report}
use Rattle.definitions.specs.declared.Action.{Action}
use Rattle.definitions.specs.declared.Action.TheVariants.{Lookup, Insert, Remove, Split, Join, Query}

-- ---- a record's refusal

-- it is over 4
abbrev Late : Result → Type 0
Late (refused k) = 5 ≤ k
Late (carried b w) = Unit {0}

late_or : (t : Bool) (r s : Result) → Late r → Late s → Late (ite t r s)
unfolding ite
late_or true r s h i = h
late_or false r s h i = i

late_taken : (b : Bench) (t : ℕ) (o : Turn) → Late (taken b t o)
unfolding taken
late_taken b t (Moves th e) = tt
late_taken b t (Finishes e a) = tt
late_taken b t (Finds c) = tt
late_taken b t Full = omega arith
late_taken b t NoStore = omega arith

late_stepped : (b : Bench) (t y d : ℕ) → Late (stepped b t y d)
unfolding stepped
late_stepped b t y d =
    late_or (eqb y 0) _ _
    (late_or (eqb d 0) _ _
    (late_or (is_idle (b.threads t)) _ _ (omega arith) (late_taken b t (step (place_of (b.threads t).place) (sight_of b.store) (b.threads t))))
    (omega arith))
    (omega arith)

-- none, or over 4
abbrev Fine : ℕ → Type 0
Fine k = (k ≡ 0) ⊎ (5 ≤ k)

fine_or : (t : Bool) (k l : ℕ) → Fine k → Fine l → Fine (ite t k l)
unfolding ite
fine_or true k l h i = h
fine_or false k l h i = i

fine_depth : (a : Action) (d : ℕ) → Fine (depth_refusal a d)
fine_depth Lookup d = fine_or (eqb d 0) 0 10 (inl refl) (inr (omega arith))
fine_depth Insert d = fine_or (ltb 9999 d) 14 0 (inr (omega arith)) (inl refl)
fine_depth Remove d = fine_or (eqb d 0) 0 10 (inl refl) (inr (omega arith))
fine_depth Split d = fine_or (eqb d 0) 0 10 (inl refl) (inr (omega arith))
fine_depth Join d = fine_or (eqb d 0) 0 10 (inl refl) (inr (omega arith))
fine_depth Query d = fine_or (eqb d 0) 0 10 (inl refl) (inr (omega arith))

late_after : (k : ℕ) (r : Result) → Fine k → Late r → Late (ite (eqb k 0) r (refused k))
unfolding ite
late_after k r (inl z) h = rw (eq-eqb _ _ z) h
late_after k r (inr l) h = late_or (eqb k 0) _ _ h l

late_started : (b : Bench) (t : ℕ) (a : Action) (y d : ℕ) → Late (started b t a y d)
unfolding started
late_started b t a y d = late_or (ltb 63 y) _ _ (omega arith) (late_after (depth_refusal a d) _ (fine_depth a d) (late_or (is_idle (b.threads t)) _ _ tt (omega arith)))

late_asked : (b : Bench) (t y z : ℕ) → Late (asked b t y z)
unfolding asked
late_asked b t y z =
    late_or (ltb 63 y) _ _ (omega arith)
    (late_or (ltb 63 z) _ _ (omega arith) (late_or (ltb z y) _ _ (omega arith) (late_or (is_idle (b.threads t)) _ _ tt (omega arith))))

late_acted : (n : ℕ) (b : Bench) (t y d : ℕ) → Late (acted n b t y d)
late_acted zero b t y d = late_stepped b t y d
late_acted (suc zero) b t y d = late_started b t _ y d
late_acted (suc (suc zero)) b t y d = late_started b t _ y d
late_acted (suc (suc (suc zero))) b t y d = late_started b t _ y d
late_acted (suc (suc (suc (suc zero)))) b t y d = late_started b t _ y d
late_acted (suc (suc (suc (suc (suc zero))))) b t y d = late_started b t _ y d
late_acted (suc (suc (suc (suc (suc (suc zero)))))) b t y d = late_asked b t y d
late_acted (suc (suc (suc (suc (suc (suc (suc n))))))) b t y d = omega arith

late_record : (b : Bench) (l x y d : ℕ) → Late (record_step b l x y d)
unfolding record_step
late_record b l x y d = late_or (ltb 3 (x / 16)) _ _ (omega arith) (late_or (ltb l (x % 16)) _ _ (omega arith) (late_acted (x % 16) b (x / 16) y d))

-- ---- a run's refusal

fine_by : (file : List ℕ) (p : Progress) (t : ℕ) (r : Result) → Late r → Fine (advance_by file p t r).refusal
fine_by file p t (refused k) h = inr h
fine_by file p t (carried b w) h = inl refl

fine_advance : (file : List ℕ) (p : Progress) (r : Rec) → Fine p.refusal → Fine (advance file p r).refusal
unfolding advance ite
fine_advance file p r h = by (eqb p.refusal 0)
  where
    now : Result
    now = record_step p.bench r.last r.first r.second r.extra

    by : (t : Bool) → Fine (ite t (advance_by file p (r.first / 16) now) p).refusal
    by true = fine_by file p (r.first / 16) now (late_record p.bench r.last r.first r.second r.extra)
    by false = h

fine_after : (file : List ℕ) (k : ℕ) → Fine (after file k).refusal
unfolding after
fine_after file zero = inl refl
fine_after file (suc k) = fine_advance file (after file k) (record_at file k) (fine_after file k)

-- a short row buffer gets 5
fine_report : (t : Bool) (p : Progress) → Fine p.refusal → Fine (ite (eqb (ite t 5 0) 0) (report_of p) (refused_report (ite t 5 0))).refusal
unfolding ite
fine_report true p h = inr (omega arith)
fine_report false p h = h

module _ (file : List ℕ) (z : file_refusal file ≡ 0) where
  -- a version 1 file
  pub run_carries : get_or file 0 0 ≡ 1 → (n : ℕ) → 2 * count_of file ≤ n → run_report file n ≡ report_of (ended file)
  unfolding run_report run_refusal ite
  run_carries v n h = rw (eq-eqb _ _ z, eq-eqb _ _ v, le-ltb _ _ h)

  pub run_accepts : (n : ℕ) → Fine (run_report file n).refusal
  unfolding run_report run_refusal ite
  run_accepts n = rw (eq-eqb _ _ z) (fine_report (ltb n (row_room file (count_of file))) (ended file) (fine_after file (count_of file)))
