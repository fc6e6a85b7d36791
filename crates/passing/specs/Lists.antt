-- Words for runs over a list of records: where one ends, which ones must pass, and the room that a run's history needs.
use Rattle.std.specs.Prelude.{ℕ, ◌≤◌, ◌≡◌, Bool, List, [], ◌∷◌, length}
use Rattle.definitions.specs.Bench.{Bench, fresh}
use Rattle.definitions.specs.Records.{Result, refused, carried, record_step}
use Rattle.definitions.specs.Schedule.{Rec, count_of}
use Rattle.definitions.specs.Written.{events_from, OnlyThree, starts, AllFinished, written}

-- the bench where the run of a list ends
abbrev pub end_by : Result → Bench → (Bench → Bench) → Bench
end_by (refused _) b onward = b
end_by (carried b' w) b onward = onward b'

abbrev pub end_from : List Rec → Bench → Bench
end_from [] b = b
end_from (r ∷ rs) b = end_by (record_step b r.last r.first r.second r.extra) b (λ b'. end_from rs b')

-- "only lookups, inserts and removes, at most 12, all finished"; with the stop off or on
pub record Eligible (on : Bool) (rs : List Rec) : Type 0 where
  pub three : OnlyThree (events_from rs (fresh on))
  pub few : starts (events_from rs (fresh on)) ≤ 12
  pub finished : AllFinished (end_from rs (fresh on))

-- n bytes hold the history of every schedule of so many records
abbrev pub Enough : ℕ → ℕ → Type 0
Enough count n = (file : List ℕ) → count_of file ≡ count → length (written file) ≤ n
