-- A run's report, by whether the run is refused before its first record. Assumes nothing.
use mathlib.Core.Path.{◌≡◌}
use mathlib.Core.Logic.{◌≢◌}
use mathlib.Core.List.{List}
use Prim.Native.Nat.{ℕ}
use borrow.Author.Tests.{eq-eqb, ne_eqb}
use Rattle.container.specs.Choice.{ite}
use Rattle.definitions.specs.Run.{ended, report_of, refused_report, run_refusal, run_report}

module _ (file : List ℕ) (n : ℕ) where
  pub report_on : run_refusal file n ≡ 0 → run_report file n ≡ report_of (ended file)
  unfolding run_report ite
  report_on z = rw (eq-eqb (run_refusal file n) 0 z)

  pub report_off : run_refusal file n ≢ 0 → run_report file n ≡ refused_report (run_refusal file n)
  unfolding run_report ite
  report_off z = rw (ne_eqb (run_refusal file n) 0 z)
