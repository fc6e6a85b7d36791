-- Words of request m (Laws.antt): reachable states, a station job, a job run alone, and a list of jobs run one after another.
use Rattle.std.specs.Prelude.{ℕ, zero, suc, ◌+◌, ◌*◌, ◌<◌, ◌≡◌, ◌≢◌, ◌⊎◌, Bool, true, not, List, [], ◌∷◌}
use Rattle.definitions.specs.Bench.{Bench, fresh}
use Rattle.definitions.specs.Records.{Row, no_row, row, carried, is_idle, depth_refusal, record_step, action_number}
use Rattle.definitions.specs.Schedule.{Rec}
use Rattle.definitions.specs.declared.Action.{Action}
use Rattle.definitions.specs.declared.Action.TheVariants.{Lookup, Insert, Remove, Split, Join, Query}
use Rattle.definitions.specs.declared.Answer.{Answer}

-- ---- states

-- a "reachable state": a fresh bench, with the stop off or on, or what a record that is not refused makes of a reachable one. A record of version 1 has depth 0
pub data Reachable : Bench → Type 0 where
  begins : {b : Bench} (on : Bool) → b ≡ fresh on → Reachable b
  past : {b : Bench} (c : Bench) (r : Rec) (w : Row) → Reachable c → record_step c r.last r.first r.second r.extra ≡ carried b w → Reachable b

-- "with all threads idle"
abbrev pub AllIdle : Bench → Type 0
AllIdle b = (t : ℕ) → t < 4 → is_idle (b.threads t) ≡ true

-- ---- a job

-- a "station job": an insert at a depth, or a remove, by a thread
pub record Job : Type 0 where
  pub thread : ℕ
  pub action : Action
  pub station : ℕ
  pub depth : ℕ

abbrev pub Updating : Action → Type 0
Updating a = (a ≡ Insert) ⊎ (a ≡ Remove)

-- its start record is refused for none of 7, 8, 9, 10 and 14; a job of version 1 has depth 0
pub record Proper (j : Job) : Type 0 where
  pub thread : j.thread < 4
  pub action : Updating j.action
  pub station : j.station < 64
  pub depth : depth_refusal j.action j.depth ≡ 0

-- the records of a job have the actions 0, 2 and 3: whether the last action of the version is 5 or 6 is of no account (`EveryVersion`)
abbrev pub last : ℕ
last = 5

-- n steps of thread t and of no other, the last of them its row with the answer a: from bench b to b'
abbrev pub Steps : ℕ → ℕ → Bench → Answer → Bench → Type 0
Steps t zero b a b' = ⊥
Steps t (suc zero) b a b' = record_step b last (16 * t) 0 0 ≡ carried b' (row a 0 0)
Steps t (suc (suc n)) b a b' = (c : Bench) × (record_step b last (16 * t) 0 0 ≡ carried c no_row) × Steps t (suc n) c a b'

-- "run alone": the start record, then n steps of that thread and of no other, to its row
abbrev pub Alone : Job → ℕ → Bench → Answer → Bench → Type 0
Alone j n b a b' = (c : Bench) × (record_step b last (16 * j.thread + action_number j.action) j.station j.depth ≡ carried c no_row) × Steps j.thread n c a b'

-- "Insert says yes if the station was absent, remove if it was present"; had: it was in
abbrev pub answer_to : Action → Bool → Bool
answer_to Lookup had = had
answer_to Insert had = not had
answer_to Remove had = had
answer_to Split had = had
answer_to Join had = had
answer_to Query had = had

-- ---- "a list of station jobs"

-- each run alone, one after another, from bench b to b'; `says` is the answer of the job on each station
abbrev pub Runs : List Job → Bench → (ℕ → Answer) → Bench → Type 0
Runs [] b says b' = b' ≡ b
Runs (j ∷ js) b says b' = (n : ℕ) × (c : Bench) × Alone j n b (says j.station) c × Runs js c says b'

-- no job of the list is on station s
abbrev pub Avoids : ℕ → List Job → Type 0
Avoids s [] = Unit {0}
Avoids s (j ∷ js) = (j.station ≢ s) × Avoids s js

-- proper jobs "on different stations", any two of them
abbrev pub Apart : List Job → Type 0
Apart [] = Unit {0}
Apart (j ∷ js) = Proper j × Avoids j.station js × Apart js

-- the same jobs in any other order
pub data Reordered : List Job → List Job → Type 0 where
  same : {js : List Job} → Reordered js js
  swapped : {i j : Job} {js : List Job} → Reordered (i ∷ j ∷ js) (j ∷ i ∷ js)
  behind : {j : Job} {js ks : List Job} → Reordered js ks → Reordered (j ∷ js) (j ∷ ks)
  twice : {js ks ls : List Job} → Reordered js ks → Reordered ks ls → Reordered js ls
