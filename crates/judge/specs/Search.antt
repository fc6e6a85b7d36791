-- Words for the search over masks: bit i of a mask is on where operation i is done. Nothing in Judgement.antt rests on them.
use Rattle.std.specs.Prelude.{ℕ, zero, suc, ◌<◌, ◌≤◌, ◌^◌, ◌≡◌, ◌≢◌, Bool, true, false, not, cond, ◌&&◌, List, [], ◌∷◌, eqb, ltb, get_or, Result, MatchResult}
use Rattle.container.specs.Container.{has}
use Rattle.definitions.specs.declared.Action.{Action}
use Rattle.definitions.specs.declared.Action.TheVariants.{Lookup, Insert, Remove, Split, Join, Query}
use Rattle.definitions.specs.History.{Operation, Operations, operations, no_operation}
use Rattle.definitions.specs.Judgement.{times, once, Keeps, action_of, reply, Answers, First}
use Rattle.judge.specs.declared.Asked.{Asked}
use Rattle.judge.specs.declared.Asked.TheVariants as ask
use Rattle.judge.specs.declared.Mark.{Mark}
use Rattle.judge.specs.declared.Mark.TheVariants.{Start, Finish}
use Rattle.judge.specs.declared.Op.{Op}
use Rattle.judge.specs.declared.Next.{Next}
use Rattle.judge.specs.declared.Next.TheVariants.{Done, Dead, Go}
use Rattle.definitions.specs.declared.Refusal.{Refusal}
use Rattle.definitions.specs.declared.Refusal.TheVariants.{Event}

-- ---- the plain set after the operations of a mask: it is fixed by the mask alone

-- the second, turned over where the first is true
abbrev pub flip : Bool → Bool → Bool
flip true b = not b
flip false b = b

-- an operation that turns its station over
abbrev pub changes : Action → Bool → Bool
changes Lookup y = false
changes Insert y = y
changes Remove y = y
changes Split y = false
changes Join y = false
changes Query y = false

abbrev pub turns : Operation → ℕ → Bool
turns o s = changes (action_of o.action) o.yes && eqb s o.station

-- the operations below k that are in M
unfoldable pub state_to : Operations → ℕ → ℕ → ℕ → Bool
state_to R M zero s = false
state_to R M (suc k) s = flip (has M k && turns (R.operation k) s) (state_to R M k s)

abbrev pub state : Operations → ℕ → ℕ → Bool
state R M = state_to R M R.count

abbrev pub Fitting : Operations → ℕ → ℕ → Type 0
Fitting R M i = (R.operation i).yes ≡ reply (action_of (R.operation i).action) (R.operation i).station (state R M)

-- ---- the rest of an order, once the operations of mask M are done

-- all that had finished when i started is done
abbrev pub Before : Operations → ℕ → ℕ → Type 0
Before R M i = (j : ℕ) → (R.operation i).finished_before j ≡ true → has M j ≡ true

abbrev pub undone : Operations → ℕ → ℕ → Bool
undone R M i = ltb i R.count && not (has M i)

pub record Rest (R : Operations) (M : ℕ) (l : List ℕ) : Type 0 where
  pub each : (i : ℕ) → times i l ≡ once (undone R M i)
  pub keeps : Keeps R l
  pub answers : Answers R (state R M) l

pub record Best (R : Operations) (M : ℕ) (l : List ℕ) : Type 0 where
  pub rest : Rest R M l
  pub first : (m : List ℕ) → Rest R M m → First l m

-- at most twelve operations, each started after those that finished before it
pub record Sound (R : Operations) : Type 0 where
  pub few : R.count ≤ 12
  pub lower : (i j : ℕ) → i < R.count → (R.operation i).finished_before j ≡ true → (j < R.count) × (j ≢ i)

-- ---- the table: for each mask what comes next

abbrev pub next_of : List ℕ → Next
next_of [] = Done
next_of (i ∷ l) = Go i

pub data Entry (R : Operations) (M : ℕ) (v : Next) : Type 0 where
  dead : ((l : List ℕ) → Rest R M l → ⊥) → v ≡ Dead → Entry R M v
  alive : (l : List ℕ) → Best R M l → v ≡ next_of l → Entry R M v

-- a mask that has with each operation those that had finished when it started; no other mask is met on the way
abbrev pub Down : Operations → ℕ → Type 0
Down R M = (i : ℕ) → i < R.count → has M i ≡ true → Before R M i

-- the entries of such masks from m on are right
abbrev pub Filled : Operations → List Next → ℕ → Type 0
Filled R table m = (M : ℕ) → m ≤ M → M < 2 ^ R.count → Down R M → Entry R M (get_or table M Dead)

-- ---- how the code holds the operations

-- what an operation asks, by its number in a history
abbrev pub number_of : Asked → ℕ
number_of ask.Lookup = 1
number_of ask.Insert = 2
number_of ask.Remove = 3

abbrev pub operation_of : Op → Operation
operation_of o = record { action = number_of o.asked; station = o.station; yes = o.yes; finished_before = has o.before }

abbrev pub blank : Op
blank = record { asked = ask.Lookup; station = 0; yes = false; before = 0 }

-- of n operations
abbrev pub held_op : ℕ → List Op → ℕ → Operation
held_op n ops i = cond (ltb i n) (operation_of (get_or ops i blank)) no_operation

abbrev pub held_of : ℕ → List Op → Operations
held_of n ops = operations n (held_op n ops)

-- stations below 64
abbrev pub Stations : Operations → Type 0
Stations R = (i : ℕ) → i < R.count → (R.operation i).station < 64

-- ---- bytes of a history

-- a mark by its number in a history
abbrev pub mark_of : Mark → ℕ
mark_of Start = 0
mark_of (Finish y) = cond y 2 1

abbrev pub ReadsAsked : ℕ → Result Asked Refusal → Type 0
ReadsAsked n r = MatchResult r (λ a. number_of a ≡ n) (λ why. ((0 < n) × (n < 4) → ⊥) × (why ≡ Event))

abbrev pub ReadsMark : ℕ → Result Mark Refusal → Type 0
ReadsMark n r = MatchResult r (λ m. mark_of m ≡ n) (λ why. (3 ≤ n) × (why ≡ Event))
