-- What a tally that is lent to a run gets from its records (02, f). It has 65 numbers; a list of another length is none.
use Rattle.std.specs.Prelude.{ℕ, ◌+◌, ◌<◌, ◌≡◌, Bool, List, get_or, length, Result, Ok, Err}
use lib.ListN.{set}
use Rattle.container.specs.Choice.{ite}
use Rattle.definitions.specs.Records.{action_number}
use Rattle.definitions.specs.Schedule.{count_of}
use Rattle.definitions.specs.Run.{ended}
use Rattle.definitions.specs.declared.Refusal.{Refusal}
use Rattle.machine.specs.declared.Asked.{Asked}
use Rattle.machine.specs.declared.Asked.TheVariants.{Step, Start}
use Rattle.season.specs.Tally.{Field, starts, unfinished, place, Tally, just, sum, taken, ledger, left_busy, numbers}

-- n more at any place but a largest one keeps within 32 bits
pub record Room (l : List ℕ) (n : ℕ) : Type 0 where
  pub at : (i : ℕ) → i < 40 → get_or l i 0 + n < 4294967296

-- a start of action a counts, and is unfinished
abbrev pub opened : ℕ → Tally
opened a = sum (just (place starts a) 1) (just (place unfinished a) 1)

-- what a record of thread t asks takes the tally l and the own steps o, where it counts already, to l' and o': a start sets its own to 0
abbrev pub Told : Result Asked Refusal → ℕ → List ℕ → List ℕ → List ℕ → List ℕ → Type 0
Told (Ok Step) t l o l' o' = (o' ≡ o) × (l' ≡ l)
Told (Ok (Start c)) t l o l' o' = (o' ≡ set o t 0) × (length l ≡ 65 → numbers l' ≡ sum (numbers l) (opened (action_number c)))
Told (Err r) t l o l' o' = (o' ≡ o) × (l' ≡ l)

-- the row of an operation of action a, with n own steps, takes the tally l to l': it was unfinished
abbrev pub Closed : ℕ → Bool → ℕ → List ℕ → List ℕ → Type 0
Closed a y n l l' =
    length l ≡ 65 → (t : Tally) → numbers l ≡ sum t (just (place unfinished a) 1) → numbers l' ≡ sum (sum t (just (place (ite y Field.yes Field.no) a) 1)) (taken a n)

-- what all records of a file add to the tally l
abbrev pub Added : List ℕ → List ℕ → List ℕ → Type 0
Added file l l' = length l ≡ 65 → numbers l' ≡ sum (numbers l) (sum (ledger file (count_of file)).counts (left_busy (ended file).bench.threads))
