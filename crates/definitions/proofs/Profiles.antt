-- The refusals of the one-writer profile (02, request l), shown of the definitions: 24 stands after 7 and 8 and before 9, 10, 11, 14 and 15;
-- lookups are not barred, nor is thread 0 but for its queries. In version 1 an action 6 is 8.
use Prim.Native.Nat.{ℕ}
use mathlib.Core.Bool.{false}
use mathlib.Core.Path.{◌≡◌, refl}
use mathlib.Core.List.{List, [], ◌∷◌, map}
use Rattle.container.specs.Choice.{ite}
use Rattle.definitions.specs.Bench.{Bench, fresh, bench}
use Rattle.definitions.specs.Threads.{begun}
use Rattle.definitions.specs.Records.{Result, refused, carried, taken, stepped, started, asked, record_step}
use Rattle.definitions.specs.Steps.{reached, step}
use Rattle.definitions.specs.Schedule.{Rec, count_of, record_at, file_refusal}
use Rattle.definitions.specs.Run.{run_refusal}
use Rattle.definitions.specs.Profile.{profile_step, profile_advance, profile_after, profile_refusal}
use Rattle.definitions.specs.declared.Action.TheVariants.{Lookup}

-- the refusal's number, 0 for none
abbrev refusal_of : Result → ℕ
refusal_of (refused n) = n
refusal_of (carried b w) = 0

-- a case: the bench, the record, the refusal
record Case : Type 0 where
  on : Bench
  given : Rec
  answer : ℕ

-- the fresh bench; every thread looks up
abbrev start : Bench
start = fresh false

abbrev busy : Bench
busy = bench start.store (λ t. begun Lookup 5 0 1)

-- a record of version 1, by its bytes; one of version 2, by its bytes and its depth, upper end or unused bytes
abbrev one : Bench → ℕ → ℕ → ℕ → Case
one b x y n = record { on = b; given = record { last = 5; first = x; second = y; extra = 0 }; answer = n }

abbrev two : Bench → ℕ → ℕ → ℕ → ℕ → Case
two b x y d n = record { on = b; given = record { last = 6; first = x; second = y; extra = d }; answer = n }

cases : List Case
cases =
    one start 0x12 9 24 ∷ one start 0x13 9 24 ∷ one start 0x14 9 24 ∷ one start 0x15 9 24 ∷ one start 0x22 9 24 ∷ one start 0x35 9 24
    ∷ two start 0x12 9 640 24 ∷ two start 0x25 9 0 24 ∷ two start 0x33 9 0 24
    -- queries
    ∷ two start 0x06 3 9 24 ∷ two start 0x16 3 9 24 ∷ two start 0x26 3 9 24 ∷ two start 0x36 3 9 24
    -- before 9, 10, 11, 14, 15
    ∷ one start 0x12 64 24 ∷ one busy 0x12 9 24 ∷ two start 0x13 9 1 24 ∷ two start 0x12 9 10000 24
    ∷ two start 0x06 64 9 24 ∷ two busy 0x06 3 9 24 ∷ two start 0x06 3 64 24 ∷ two start 0x16 9 3 24
    -- after 7 and 8
    ∷ one start 0x42 9 7 ∷ one start 0x46 9 7 ∷ one start 0x06 9 8 ∷ one start 0x16 9 8 ∷ one start 0x36 9 8 ∷ one start 0x17 9 8 ∷ one start 0x3f 9 8
    ∷ two start 0x42 9 0 7 ∷ two start 0x46 3 9 7 ∷ two start 0x07 9 0 8 ∷ two start 0x17 9 0 8 ∷ two start 0x3f 9 0 8
    -- lookups, thread 0, steps
    ∷ one start 0x11 9 0 ∷ one start 0x31 64 9 ∷ one busy 0x11 9 11 ∷ one start 0x02 9 0 ∷ one start 0x05 9 0 ∷ one start 0x02 64 9
    ∷ two start 0x11 9 1 10 ∷ two start 0x02 9 640 0 ∷ two start 0x03 9 1 10 ∷ two start 0x02 9 10000 14
    ∷ one start 0x10 0 12 ∷ one start 0x10 1 10 ∷ one busy 0x10 0 0 ∷ two busy 0x10 0 1 10
    ∷ []

refusals : map (λ (c : Case). refusal_of (profile_step c.on c.given)) cases ≡ map (λ (c : Case). c.answer) cases
unfolding cases profile_step record_step stepped started asked taken step reached ite
refusals = refl

-- whole files: version 3 is 2, before 3, 4 and 5; a short one is 1 before it; versions 1 and 2 run; a short buffer is 5 though a record is barred
versions : (profile_refusal (3 ∷ 0 ∷ []) 0 ≡ 1) × (profile_refusal (3 ∷ 0 ∷ 0 ∷ []) 0 ≡ 2) × (profile_refusal (4 ∷ 0 ∷ 0 ∷ []) 0 ≡ 2)
    × (profile_refusal (3 ∷ 16 ∷ 1 ∷ []) 0 ≡ 2) × (profile_refusal (3 ∷ 0 ∷ 1 ∷ []) 7 ≡ 2) × (profile_refusal (3 ∷ 0 ∷ 1 ∷ 1 ∷ 9 ∷ 0 ∷ 0 ∷ []) 6 ≡ 2)
    × (profile_refusal (1 ∷ 0 ∷ 0 ∷ []) 0 ≡ 0) × (profile_refusal (2 ∷ 0 ∷ 0 ∷ []) 0 ≡ 0) × (profile_refusal (2 ∷ 0 ∷ 1 ∷ 18 ∷ 9 ∷ 2 ∷ 128 ∷ []) 6 ≡ 5)
unfolding profile_refusal run_refusal file_refusal count_of ite
versions = (refl, refl, refl, refl, refl, refl, refl, refl, refl)

-- whole runs: thread 0's insert is started, then thread 1's insert is barred, in versions 1 and 2, or its query: 24, one record done
abbrev ended : List ℕ → Type 0
ended file = ((profile_after file 2).refusal ≡ 24) × ((profile_after file 2).done ≡ 1) × (((profile_after file 2).bench.threads 0).place ≡ 1)

runs : ended (1 ∷ 0 ∷ 2 ∷ 0x02 ∷ 9 ∷ 0x12 ∷ 9 ∷ []) × ended (2 ∷ 0 ∷ 2 ∷ 0x02 ∷ 9 ∷ 2 ∷ 128 ∷ 0x12 ∷ 9 ∷ 0 ∷ 20 ∷ [])
    × ended (2 ∷ 0 ∷ 2 ∷ 0x02 ∷ 9 ∷ 2 ∷ 128 ∷ 0x16 ∷ 3 ∷ 0 ∷ 9 ∷ [])
unfolding record_at profile_after profile_advance profile_step record_step started ite
runs = ((refl, refl, refl), (refl, refl, refl), (refl, refl, refl))
