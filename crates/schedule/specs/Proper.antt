-- What is known of a schedule that is not refused, and of one that has to be of version 1 and has no fault.
use Rattle.std.specs.Prelude.{ℕ, ◌+◌, ◌*◌, ◌≤◌, ◌≡◌, List, length, get_or}
use Rattle.definitions.specs.Schedule.{width, count_of}

pub record Proper (file : List ℕ) : Type 0 where
  pub header : 3 ≤ length file
  pub few : count_of file ≤ 4096
  pub whole : length file ≡ 3 + width file * count_of file

pub record Plain (file : List ℕ) : Type 0 where
  pub version : get_or file 0 0 ≡ 1
  pub few : count_of file ≤ 4096
  pub whole : length file ≡ 3 + 2 * count_of file
