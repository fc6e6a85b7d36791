-- A season's tally and its averages, and what is shown of them (02, f).
use Rattle.std.specs.Prelude.{ℕ, zero, suc, ◌+◌, ◌*◌, ◌/◌, ◌%◌, ◌<◌, ◌≡◌, ◌&&◌, List, [], ◌∷◌, eqb, ltb, get_or}
use Rattle.std.specs.Int.{◌∣◌}
use Rattle.container.specs.Choice.{ite}
use Rattle.season.specs.declared.Average.{Average}
use Rattle.definitions.specs.Records.{action_number}
use Rattle.definitions.specs.Run.{run_report}
use Rattle.definitions.specs.declared.Action.{Action}
use Rattle.season.specs.Tally.{Field, starts, yes, no, unfinished, steps, place, refusal_place, Tally, empty, sum, file_tally, laid, tally_report, tally_numbers}

-- ---- a season

-- a file, and the length of the row buffer that its run is lent
pub record Lent : Type 0 where
  pub file : List ℕ
  pub room : ℕ

abbrev pub single : Lent → Tally
single f = file_tally f.file f.room

-- the refusal that the tally l gives file f: 19 or 0
abbrev pub refusal_at : List ℕ → Lent → ℕ
refusal_at l f = (tally_report f.file f.room l).refusal

-- one tally, l at first, lent to each file's run in turn
unfoldable pub season : List ℕ → List Lent → List ℕ
season l [] = l
season l (f ∷ fs) = season (tally_numbers f.file f.room l) fs

-- "those not refused with 19"
unfoldable pub kept : List ℕ → List Lent → List Lent
kept l [] = []
kept l (f ∷ fs) = ite (eqb (refusal_at l f) 0) (f ∷ kept (tally_numbers f.file f.room l) fs) (kept (tally_numbers f.file f.room l) fs)

-- "the sum of the single tallies [..], the largest taken for the largest"
unfoldable pub total : List Lent → Tally
total [] = empty
total (f ∷ fs) = sum (single f) (total fs)

-- "begun empty"
abbrev pub blank : List ℕ
blank = laid empty

-- "the tally of many files, begun empty, is the sum of the single tallies of those not refused with 19"
abbrev pub SeasonRule : Type 0
SeasonRule = (fs : List Lent) → season blank fs ≡ laid (total (kept blank fs))

-- no file of the season is refused with 19
abbrev pub NoneRefused : List ℕ → List Lent → Type 0
NoneRefused l [] = Unit {0}
NoneRefused l (f ∷ fs) = (refusal_at l f ≡ 0) × NoneRefused (tally_numbers f.file f.room l) fs

-- the same files in another order
pub data Reordered : List Lent → List Lent → Type 0 where
  same : {fs : List Lent} → Reordered fs fs
  keep : {f : Lent} {fs gs : List Lent} → Reordered fs gs → Reordered (f ∷ fs) (f ∷ gs)
  swap : {f g : Lent} {fs : List Lent} → Reordered (f ∷ g ∷ fs) (g ∷ f ∷ fs)
  then : {fs gs hs : List Lent} → Reordered fs gs → Reordered gs hs → Reordered fs hs

-- where none is refused with 19 in one order, none is in any other, and the tally is the same
abbrev pub OrderRule : Type 0
OrderRule = (fs gs : List Lent) → Reordered fs gs → NoneRefused blank fs → NoneRefused blank gs × (season blank fs ≡ season blank gs)

-- every accepted start has an answer or is unfinished
abbrev pub StartsRule : Type 0
StartsRule =
    (file : List ℕ) (n a : ℕ) → a < 8
    → file_tally file n (place starts a) ≡ file_tally file n (place yes a) + file_tally file n (place no a) + file_tally file n (place unfinished a)

-- every refusal of Run has its place, and 6 is none of them
abbrev pub RefusalsRule : Type 0
RefusalsRule = (file : List ℕ) (n : ℕ) → ((run_report file n).refusal < 17) × ((run_report file n).refusal ≡ 6 → ⊥)

-- a place of no action and no refusal stays as it is lent
abbrev pub UnusedRule : Type 0
UnusedRule =
    (file : List ℕ) (n : ℕ)
    → ((f : Field) (a : ℕ) → a < 8 → ((c : Action) → action_number c ≡ a → ⊥) → file_tally file n (place f a) ≡ 0)
    × ((file_tally file n (refusal_place 0) ≡ 0) × (file_tally file n (refusal_place 6) ≡ 0))

-- ---- "Each row's average is given as two whole numbers, steps over operations, in lowest terms, 0/1 where none finished"

-- Euclid's greatest common divisor, with k at least the second number
unfoldable pub euclid : ℕ → ℕ → ℕ → ℕ
euclid zero a b = a
euclid (suc k) a b = let r = euclid k b (a % b) in ite (eqb b 0) a r

unfoldable pub gcd : ℕ → ℕ → ℕ
gcd a b = euclid b a b

abbrev pub ratio : ℕ → ℕ → Average
ratio s n = record { steps = s; operations = n }

unfoldable pub average : ℕ → ℕ → Average
average s n = ite (eqb n 0) (ratio 0 1) (ratio (s / gcd s n) (n / gcd s n))

-- of the row of action a in the tally l: its finished operations are those with an answer. 0/1 for a number that is no action's
unfoldable pub average_of : List ℕ → ℕ → Average
average_of l a = ite (ltb 0 a && ltb a 7) (average (get_or l (place steps a) 0) (get_or l (place yes a) 0 + get_or l (place no a) 0)) (ratio 0 1)

-- "in lowest terms": no common divisor but 1
abbrev pub Lowest : Average → Type 0
Lowest r = (d : ℕ) → d ∣ r.steps → d ∣ r.operations → d ≡ 1

-- r is s over n
abbrev pub SameRatio : ℕ → ℕ → Average → Type 0
SameRatio s n r = r.steps * n ≡ s * r.operations

abbrev pub AverageRule : Type 0
AverageRule = (s n : ℕ) → Lowest (average s n) × ((n ≡ 0 → ⊥) → SameRatio s n (average s n))
