-- The first barred record of a file (02, request l), and Run's progress before it as a profile run's.
use Rattle.std.specs.Prelude.{ℕ, ◌<◌, ◌≤◌, ◌≡◌, Bool, true, false, List, eqb}
use Rattle.container.specs.Choice.{ite}
use Rattle.definitions.specs.Schedule.{record_at}
use Rattle.definitions.specs.Run.{Progress}
use Rattle.definitions.specs.Profile.{barred}

-- where Run stands, with refusal 24
abbrev pub stopped_run : Progress → Progress
stopped_run p = record { bench = p.bench; refusal = 24; done = p.done; finished = p.finished; rows = p.rows }

-- j is the first barred record of `count`, or `count` if there is none
pub record Cut (file : List ℕ) (count j : ℕ) : Type 0 where
  pub low : j ≤ count
  pub free : (i : ℕ) → i < j → barred (record_at file i) ≡ false
  pub bars : j < count → barred (record_at file j) ≡ true

-- p is the run of the records before it; `more`: there is one
unfoldable pub cut_run : Bool → Progress → Progress
cut_run more p = ite more (ite (eqb p.refusal 0) (stopped_run p) p) p
