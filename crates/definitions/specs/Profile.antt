-- The profile run (02, request l, "One-writer profile"): as Run, with refusal 24 more.
use Rattle.std.specs.Prelude.{ℕ, zero, suc, ◌/◌, ◌%◌, Bool, ◌&&◌, ◌||◌, List, eqb, ltb, leb, length}
use Rattle.container.specs.Choice.{ite}
use Rattle.definitions.specs.Bench.{Bench}
use Rattle.definitions.specs.Records.{Result, refused, record_step}
use Rattle.definitions.specs.Schedule.{Rec, stop_of, count_of, record_at}
use Rattle.definitions.specs.Run.{Progress, begin, advance_by, report_of, refused_report, run_refusal, overlay}
use Rattle.definitions.specs.declared.Report.{Report}

-- "It refuses actions 2 to 6 for threads 1 to 3, and action 6 for thread 0": thread t, action a
abbrev pub outside : ℕ → ℕ → Bool
outside t a = eqb a 6 || (ltb 0 t && (leb 2 a && leb a 5))

-- "with 24, after 8 and before 9": a record that 7 and 8 let through, so in version 1 an action 6 is 8
abbrev pub barred : Rec → Bool
barred r = (leb (r.first / 16) 3 && leb (r.first % 16) r.last) && outside (r.first / 16) (r.first % 16)

unfoldable pub profile_step : Bench → Rec → Result
profile_step b r = ite (barred r) (refused 24) (record_step b r.last r.first r.second r.extra)

unfoldable pub profile_advance : List ℕ → Progress → Rec → Progress
profile_advance file p r = ite (eqb p.refusal 0) (advance_by file p (r.first / 16) (profile_step p.bench r)) p

-- after the first k records of the file
unfoldable pub profile_after : List ℕ → ℕ → Progress
profile_after file zero = begin (stop_of file)
profile_after file (suc k) = profile_advance file (profile_after file k) (record_at file k)

-- the refusals 1 to 5 are Run's, and "version 1 or 2 (3 is refused with 2)"
unfoldable pub profile_refusal : List ℕ → ℕ → ℕ
profile_refusal file n = ite (leb 3 (length file) && stop_of file) 2 (run_refusal file n)

unfoldable pub profile_report : List ℕ → ℕ → Report
profile_report file n = ite (eqb (profile_refusal file n) 0) (report_of (profile_after file (count_of file))) (refused_report (profile_refusal file n))

unfoldable pub profile_buffer : List ℕ → List ℕ → List ℕ
profile_buffer file buffer = ite (eqb (profile_refusal file (length buffer)) 0) (overlay (profile_after file (count_of file)).rows buffer) buffer
