-- Demand 3 as 01 has it, before the depths: the answers rule over the plain set. It is claimed of records of either version, those of
-- version 1 among them, with the moments and first steps of Claim.antt, and follows from the claim there: crate answers, SetRule.antt.
use Rattle.std.specs.Prelude.{ℕ, zero, suc, ◌/◌, ◌%◌, ◌<◌, ◌≤◌, ◌≡◌, Bool, not, List, [], ◌∷◌, Option, None}
use Rattle.container.specs.Container.{has}
use Rattle.definitions.specs.Bench.{Bench, fresh}
use Rattle.definitions.specs.Records.{Row, no_row, row, Result, refused, carried, record_step}
use Rattle.definitions.specs.Answers.{said}
use Rattle.definitions.specs.Tree.{tree_set}
use Rattle.definitions.specs.Schedule.{Rec, stop_of, records_of, count_of}
use Rattle.definitions.specs.Run.{run_refusal, run_report}
use Rattle.definitions.specs.Plain.{was_refused, was_carried}
use Rattle.definitions.specs.PlainSet.{Operation, no_operation, doing, Plain, empty, feed}
use Rattle.definitions.specs.Claim.{row_added, first_steps, moment, OwnSwap}
use Rattle.definitions.specs.declared.Answer.{Answer}
use Rattle.definitions.specs.declared.Action.TheVariants.{Lookup, Insert, Remove, Split, Join, Query}

-- ---- the plain set at each moment

-- the plain set at moment k of the run of `rs` from bench b; "none after it is carried out" where a record is refused
abbrev pub plain_by : Result → Rec → Plain → (Bench → Plain → Plain) → Plain
plain_by (refused _) r P onward = feed r was_refused P
plain_by (carried b w) r P onward = onward b (feed r (was_carried (row_added w)) P)

abbrev pub plain_at : List Rec → ℕ → Bench → Plain → Plain
plain_at [] k b P = P
plain_at (r ∷ rs) zero b P = P
plain_at (r ∷ rs) (suc k) b P = plain_by (record_step b r.last r.first r.second r.extra) r P (λ b' P'. plain_at rs k b' P')

-- the plain set of the whole list, station by station, at every moment
abbrev pub Moments : Type 0
Moments = ℕ → ℕ → Bool

-- from the fresh bench, with the stop off or on
abbrev pub moments : Bool → List Rec → Moments
moments on rs k = (plain_at rs k (fresh on) empty).set

-- ---- what is claimed at a moment and of a row

-- the tree's set is the plain set
abbrev pub SameSet : Bench → Plain → Type 0
SameSet b P = (s : ℕ) → s < 64 → has (tree_set b) s ≡ P.set s

-- the answer a of an operation whose last step is taken at `place`, k being the moment just before it and P the plain set then;
-- f is the moment just after its first step.
-- "Insert and remove answer by the moment just before their last step"; a lookup's "yes needs a moment with the station in,
-- no needs one with it out, from just after its first step to just after its last". What a split or join answers: Reasons.antt;
-- what a range query finds: Claim.antt
abbrev pub Fits : Operation → ℕ → Plain → Moments → ℕ → ℕ → Answer → Type 0
Fits no_operation place P H f k a = ⊥
Fits (doing Lookup st) place P H f k a = (j : ℕ) × (f ≤ j) × (j ≤ suc k) × (a ≡ said (H j st))
Fits (doing Insert st) place P H f k a = (a ≡ said (not (P.set st))) × OwnSwap place
Fits (doing Remove st) place P H f k a = (a ≡ said (P.set st)) × OwnSwap place
Fits (doing Split st) place P H f k a = Unit {0}
Fits (doing Join st) place P H f k a = Unit {0}
Fits (doing Query st) place P H f k a = Unit {0}

abbrev pub Answered : Row → Operation → ℕ → Plain → Moments → ℕ → ℕ → Type 0
Answered no_row o place P H f k = Unit {0}
Answered (row a _ _) o place P H f k = Fits o place P H f k a

-- ---- the claim

-- from moment k on: H is the plain set at every moment of the list, f each thread's first step
abbrev pub Onward : Result → Bench → Rec → Plain → Moments → (ℕ → Option ℕ) → ℕ → (Bench → Plain → Type 0) → Type 0
Onward (refused _) b r P H f k C = SameSet b (feed r was_refused P)
Onward (carried b' w) b r P H f k C =
    Answered w (P.operation (r.first / 16)) (b.threads (r.first / 16)).place P H (moment (f (r.first / 16))) k
    × C b' (feed r (was_carried (row_added w)) P)

abbrev pub From : List Rec → Bench → Plain → Moments → (ℕ → Option ℕ) → ℕ → Type 0
From [] b P H f k = SameSet b P
From (r ∷ rs) b P H f k =
    SameSet b P
    × Onward (record_step b r.last r.first r.second r.extra) b r P H (first_steps (r.first % 16) (r.first / 16) k f) k
    (λ b' P'. From rs b' P' H (first_steps (r.first % 16) (r.first / 16) k f) (suc k))

-- every list of records, "from a fresh bench: root 0, all threads idle, used 1", with the stop off or on
abbrev pub Claim : Bool → List Rec → Type 0
Claim on rs = From rs (fresh on) empty (moments on rs) (λ _. None) 0

-- "Run's set [is compared] at the last [moment], unless Run refused the file with 1 to 5"; n is the row buffer's length
abbrev pub RunClaim : List ℕ → ℕ → Type 0
RunClaim file n = run_refusal file n ≡ 0 → (s : ℕ) → s < 64 → has (run_report file n).set s ≡ moments (stop_of file) (records_of file (count_of file)) (count_of file) s

-- demand 3 over the plain set
abbrev pub SetRule : Type 0
SetRule = ((on : Bool) (rs : List Rec) → Claim on rs) × ((file : List ℕ) (n : ℕ) → RunClaim file n)
