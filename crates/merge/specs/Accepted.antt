-- What is known of two files and an output buffer that are not refused.
use Rattle.std.specs.Prelude.{ℕ, ◌≤◌, ◌≡◌, List}
use Rattle.schedule.specs.Proper.{Plain}
use Rattle.definitions.specs.Schedule.{count_of}
use Rattle.definitions.specs.Merge.{foreign, total, needed}

pub record Accepted (first second : List ℕ) (n : ℕ) : Type 0 where
  pub one : Plain first
  pub other : Plain second
  pub own_one : foreign 0 first (count_of first) ≡ 0
  pub own_other : foreign 1 second (count_of second) ≡ 0
  pub few : total first second ≤ 4096
  pub room : needed first second ≤ n
