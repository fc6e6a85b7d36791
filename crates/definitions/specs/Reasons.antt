-- The reasons rule: what a split or join answers, in every list of records from a fresh bench (02, k). The proof is in crate answers.
use Rattle.std.specs.Prelude.{ℕ, zero, suc, ◌/◌, ◌%◌, ◌≤◌, ◌≡◌, ◌⊎◌, Bool, false, ◌||◌, ◌&&◌, List, [], ◌∷◌, eqb, ltb, leb}
use Rattle.container.specs.Choice.{upd}
use Rattle.definitions.specs.Nodes.{is_preparing, is_completing}
use Rattle.definitions.specs.Bench.{Store, Bench, fresh}
use Rattle.definitions.specs.Threads.{Thread}
use Rattle.definitions.specs.Records.{Row, no_row, row, Result, refused, carried, record_step}
use Rattle.definitions.specs.Answers.{is_yes}
use Rattle.definitions.specs.Schedule.{Rec}
use Rattle.definitions.specs.declared.Action.{Action}
use Rattle.definitions.specs.declared.Action.TheVariants.{Lookup, Insert, Remove, Split, Join, Query}
use Rattle.definitions.specs.declared.Answer.{Answer}
use Rattle.definitions.specs.declared.Answer.TheVariants.{No, Yes, At, Lacking, Blocked, Lost, NeighbourBlocked, StoodDown, Stopped}

-- ---- whether an operation has succeeded

-- a step of thread th from store s to s' makes its operation's change. A split: its swap at 10 to 13 succeeds, for "New nodes get their
-- numbers only when the swap that shows them succeeds". A join: 35 turns the stage of its main "from preparing to a new neighbour"
abbrev pub changes : Action → ℕ → Store → Store → Thread → Bool
changes Lookup place s s' th = false
changes Insert place s s' th = false
changes Remove place s s' th = false
changes Split place s s' th = (leb 10 place && leb place 13) && ltb s.used s'.used
changes Join place s s' th = eqb place 35 && (is_preparing (s.nodes th.main).stage && is_completing (s'.nodes th.main).stage)
changes Query place s s' th = false

-- which threads' open operations have made theirs, after a record of action a and thread t: a start has not
abbrev pub succeeded : ℕ → ℕ → Bench → Bench → (ℕ → Bool) → ℕ → Bool
succeeded zero t b b' d = upd d t (d t || changes (b.threads t).action (b.threads t).place b.store b'.store (b.threads t))
succeeded (suc _) t b b' d = upd d t false

-- ---- what is claimed of a row

-- the places that a split or join answers at: "4 a swap lost at places 10 to 13 or 25, or the base gone from its parent there or at 21,
-- 5 neighbour not replaceable [24], 6 stood down at place 38, 7 joins stopped [19]"; 2 and 3 are given at place 3, 0 never
abbrev pub GivenAt : Answer → ℕ → Type 0
GivenAt No place = ⊥
GivenAt Yes place = Unit {0}
GivenAt (At x) place = ⊥
GivenAt Lacking place = place ≡ 3
GivenAt Blocked place = place ≡ 3
GivenAt Lost place = ((10 ≤ place) × (place ≤ 13)) ⊎ ((place ≡ 21) ⊎ (place ≡ 25))
GivenAt NeighbourBlocked place = place ≡ 24
GivenAt StoodDown place = place ≡ 38
GivenAt Stopped place = place ≡ 19

-- the answer a of an operation whose last step is taken at `place`; d: it has made its change.
-- 2 to 7 only to splits and joins; they say yes exactly if their change was made
abbrev pub Reason : Action → ℕ → Bool → Answer → Type 0
Reason Lookup place d a = (a ≡ No) ⊎ (a ≡ Yes)
Reason Insert place d a = (a ≡ No) ⊎ (a ≡ Yes)
Reason Remove place d a = (a ≡ No) ⊎ (a ≡ Yes)
Reason Split place d a = (is_yes a ≡ d) × GivenAt a place
Reason Join place d a = (is_yes a ≡ d) × GivenAt a place
Reason Query place d a = (a ≡ No) ⊎ (a ≡ Yes)

-- th is the row's thread before its last step
abbrev pub Reasoned : Row → Thread → Bool → Type 0
Reasoned no_row th d = Unit {0}
Reasoned (row a _ _) th d = Reason th.action th.place d a

-- ---- the rule

abbrev pub ReasonsOnward : Result → Bench → Rec → (ℕ → Bool) → (Bench → (ℕ → Bool) → Type 0) → Type 0
ReasonsOnward (refused _) b r d C = Unit {0}
ReasonsOnward (carried b' w) b r d C =
    Reasoned w (b.threads (r.first / 16)) (succeeded (r.first % 16) (r.first / 16) b b' d (r.first / 16))
    × C b' (succeeded (r.first % 16) (r.first / 16) b b' d)

abbrev pub ReasonsFrom : List Rec → Bench → (ℕ → Bool) → Type 0
ReasonsFrom [] b d = Unit {0}
ReasonsFrom (r ∷ rs) b d = ReasonsOnward (record_step b r.last r.first r.second r.extra) b r d (λ b' d'. ReasonsFrom rs b' d')

-- every list of records, with the stop off or on
abbrev pub ReasonsRule : Type 0
ReasonsRule = (on : Bool) (rs : List Rec) → ReasonsFrom rs (fresh on) (λ _. false)
