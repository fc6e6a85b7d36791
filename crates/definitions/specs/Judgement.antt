-- What Judge hands back for every file (02, j): what an order of the operations is, the first such order, and the report. Nothing here
-- says how an order is found.
use Rattle.std.specs.Prelude.{ℕ, zero, suc, ◌-◌, ◌<◌, ◌≡◌, ◌⊎◌, ◌≢◌, Bool, true, false, not, cond, List, [], ◌∷◌, ◌++◌, eqb, ltb, length, replicate}
use Rattle.definitions.specs.PlainSet.{settled}
use Rattle.definitions.specs.declared.Action.{Action}
use Rattle.definitions.specs.declared.Action.TheVariants.{Lookup, Insert, Remove, Split, Join, Query}
use Rattle.definitions.specs.History.{Operations, reading_of, history_refusal}
use Rattle.definitions.specs.declared.Judged.{Judged}

-- ---- an order of all operations

-- how often i stands in l
abbrev pub times : ℕ → List ℕ → ℕ
times i [] = 0
times i (j ∷ l) = cond (eqb i j) (suc (times i l)) (times i l)

abbrev pub once : Bool → ℕ
once true = 1
once false = 0

-- "all operations": each of the numbers below n once, and no other
abbrev pub Each : ℕ → List ℕ → Type 0
Each n l = (i : ℕ) → times i l ≡ once (ltb i n)

-- "keeping every finish that precedes a start": nothing that stands after i had finished when i started
abbrev pub Keeps : Operations → List ℕ → Type 0
Keeps R [] = Unit {0}
Keeps R (i ∷ l) = ((j : ℕ) → times j l ≢ 0 → (R.operation i).finished_before j ≡ false) × Keeps R l

-- actions in a history: 1 lookup, 2 insert, 3 remove
abbrev pub action_of : ℕ → Action
action_of zero = Lookup
action_of (suc zero) = Lookup
action_of (suc (suc zero)) = Insert
action_of (suc (suc (suc _))) = Remove

-- a plain set's answer: "Insert says yes if the station was absent, remove if it was present" (01); a lookup if it is in
abbrev pub reply : Action → ℕ → (ℕ → Bool) → Bool
reply Lookup st S = S st
reply Insert st S = not (S st)
reply Remove st S = S st
reply Split st S = false
reply Join st S = false
reply Query st S = false

-- "gives these answers", from the plain set S on
abbrev pub Answers : Operations → (ℕ → Bool) → List ℕ → Type 0
Answers R S [] = Unit {0}
Answers R S (i ∷ l) =
    ((R.operation i).yes ≡ reply (action_of (R.operation i).action) (R.operation i).station S)
    × Answers R (settled (action_of (R.operation i).action) (R.operation i).station S) l

-- "some order of all operations, keeping every finish that precedes a start, gives these answers from an empty plain set"
pub record Order (R : Operations) (l : List ℕ) : Type 0 where
  pub each : Each R.count l
  pub keeps : Keeps R l
  pub answers : Answers R (λ _. false) l

-- ---- the first of them

-- "orders compared number by number": l is m or comes before it
abbrev pub First : List ℕ → List ℕ → Type 0
First [] m = Unit {0}
First (i ∷ l) [] = ⊥
First (i ∷ l) (j ∷ m) = (i < j) ⊎ ((i ≡ j) × First l m)

-- "Of such orders return the one that is first"
pub record FirstOrder (R : Operations) (l : List ℕ) : Type 0 where
  pub order : Order R l
  pub first : (m : List ℕ) → Order R m → First l m

-- ---- the report

-- an order's numbers, then 0 up to twelve bytes
abbrev pub padded : List ℕ → List ℕ
padded l = l ++ replicate (12 - length l) 0

-- "Accept exactly if some order [..]"; "otherwise say no and return none"
pub data Verdict (R : Operations) (r : Judged) : Type 0 where
  accepts : (l : List ℕ) → FirstOrder R l → r.accepted ≡ true → r.order ≡ padded l → Verdict R r
  rejects : ((l : List ℕ) → Order R l → ⊥) → r.accepted ≡ false → r.order ≡ padded [] → Verdict R r

-- a refusal, with all other fields 0
pub record Refused (k : ℕ) (r : Judged) : Type 0 where
  pub number : r.refusal ≡ k
  pub nothing : (r.accepted ≡ false) × (r.operations ≡ 0) × (r.order ≡ padded [])

pub record Decided (R : Operations) (r : Judged) : Type 0 where
  pub number : r.refusal ≡ 0
  pub operations : r.operations ≡ R.count
  pub verdict : Verdict R r

-- r is the report on a file. Crate judge shows that every file has one and only one (proofs/Exists.antt, proofs/Unique.antt)
abbrev pub JudgementBy : ℕ → List ℕ → Judged → Type 0
JudgementBy zero file r = Decided (reading_of file).all r
JudgementBy (suc k) file r = Refused (suc k) r

abbrev pub Judgement : List ℕ → Judged → Type 0
Judgement file r = JudgementBy (history_refusal file) file r
