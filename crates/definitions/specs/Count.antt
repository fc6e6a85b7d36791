-- The count of the stop (02, h): "Show that the count equals the number of searches between the two steps."
-- Who is between them is read off the places at which steps are taken, and off nothing else.
use Rattle.std.specs.Prelude.{ℕ, zero, suc, ◌+◌, ◌/◌, ◌%◌, ◌<◌, ◌≡◌, ◌≢◌, ◌⊎◌, Bool, true, false, cond, List, [], ◌∷◌, eqb}
use Rattle.container.specs.Choice.{upd}
use Rattle.definitions.specs.Bench.{Bench, fresh}
use Rattle.definitions.specs.Records.{Result, refused, carried, record_step}
use Rattle.definitions.specs.Schedule.{Rec}

-- whether a thread is between the two steps after a step that it takes at `place`: 4 adds one, 5 takes it off
abbrev pub crossed : ℕ → Bool → Bool
crossed place was = cond (eqb place 4) true (cond (eqb place 5) false was)

-- the same of every thread, after a record of thread t with this action that was carried out; 0 is a step
abbrev pub between : ℕ → ℕ → ℕ → (ℕ → Bool) → ℕ → Bool
between zero t place i = upd i t (crossed place (i t))
between (suc _) t place i = i

abbrev pub one : Bool → ℕ
one c = cond c 1 0

-- of the four threads, those that are between
abbrev pub searches : (ℕ → Bool) → ℕ
searches i = one (i 0) + (one (i 1) + (one (i 2) + one (i 3)))

-- "a switch that versions 1 and 2 have off": the count is 0, and no thread is where it is changed or read
abbrev pub Unstopped : Bench → Type 0
Unstopped b = (b.store.stop.count ≡ 0) × ((t : ℕ) → ((b.threads t).place ≢ 4) × ((b.threads t).place ≢ 5) × ((b.threads t).place ≢ 19))

-- at a moment: the switch is as it was at the start, and the count is the number of searches between the two steps; where a
-- thread is about to take one off there is one to take; a thread that is idle, or at 1, where a search begins, is between no
-- two; and where all four are idle the count is 0
abbrev pub CountRight : Bool → Bench → (ℕ → Bool) → Type 0
CountRight on b i =
    (b.store.stop.on ≡ on)
    × (b.store.stop.count ≡ searches i)
    × (on ≡ false → Unstopped b)
    × ((t : ℕ) → t < 4 → (b.threads t).place ≡ 5 → 0 < b.store.stop.count)
    × ((t : ℕ) → (b.threads t).place ≡ 0 ⊎ (b.threads t).place ≡ 1 → i t ≡ false)
    × (((t : ℕ) → t < 4 → (b.threads t).place ≡ 0) → b.store.stop.count ≡ 0)

-- after a record; a refused one leaves the bench, and none after it is carried out
abbrev pub CountOnward : Result → Bool → Bench → Rec → (ℕ → Bool) → (Bench → (ℕ → Bool) → Type 0) → Type 0
CountOnward (refused _) on b r i C = CountRight on b i
CountOnward (carried b' w) on b r i C = C b' (between (r.first % 16) (r.first / 16) (b.threads (r.first / 16)).place i)

abbrev pub CountFrom : Bool → List Rec → Bench → (ℕ → Bool) → Type 0
CountFrom on [] b i = CountRight on b i
CountFrom on (r ∷ rs) b i = CountRight on b i × CountOnward (record_step b r.last r.first r.second r.extra) on b r i (λ b' i'. CountFrom on rs b' i')

-- every list of records from the fresh bench, with the stop off or on: at every moment the count is right
abbrev pub CountRule : Type 0
CountRule = (on : Bool) (rs : List Rec) → CountFrom on rs (fresh on) (λ _. false)
