-- A record is refused, or it is an accepted start, or it is a step that its thread's place decides: for showing a fact of every record once.
use mathlib.Core.Path.{◌≡◌, refl}
use mathlib.Core.Bool.{Bool, true, false}
use Prim.Native.Nat.{ℕ, zero, suc, ◌+◌, ◌*◌, ◌/◌, ◌%◌, ◌<◌, ◌≤◌}
use native.Mathlib.Omega.{arith}
use lib.Dec.{ltb}
use borrow.Author.Tests.{ltb-false, le-ltb}
use Rattle.container.specs.Choice.{ite, upd}
use Rattle.definitions.specs.declared.Action.{Action}
use Rattle.definitions.specs.declared.Action.TheVariants.{Lookup, Insert, Remove, Split, Join, Query}
use Rattle.definitions.specs.Threads.{Thread, begun, asking}
use Rattle.definitions.specs.Bench.{Bench, bench, sight_of}
use Rattle.definitions.specs.Places.{place_of}
use Rattle.definitions.specs.Steps.{step}
use Rattle.definitions.specs.Schedule.{Rec}
use Rattle.definitions.specs.Records.{Result, refused, carried, no_row, taken, is_idle, stepped, depth_refusal, started, asked, acted, record_step, action_number}
use Rattle.laws.specs.Laws.{EveryVersion}

-- the bench after an accepted start
abbrev pub opening : Bench → ℕ → Thread → Bench
opening b t th = bench b.store (upd b.threads t th)

-- what the thread's place decides
abbrev pub turn : Bench → ℕ → Result
turn b t = taken b t (step (place_of (b.threads t).place) (sight_of b.store) (b.threads t))

abbrev pub step_of : Bench → Rec → Result
step_of b r = record_step b r.last r.first r.second r.extra

-- Q of a record of thread t, second byte y and depth or upper end d: it holds of a refusal, of an accepted start and of what a step decides
module _ (b : Bench) (t y d : ℕ) (Q : Result → Type 0) (nay : (k : ℕ) → Q (refused k))
    (start : (th : Thread) → is_idle (b.threads t) ≡ true → Q (carried (opening b t th) no_row)) (goes : Q (turn b t)) where
  pick : (c : Bool) (r r' : Result) → (c ≡ true → Q r) → (c ≡ false → Q r') → Q (ite c r r')
  unfolding ite
  pick true r r' p q = p refl
  pick false r r' p q = q refl

  starts : (a : Action) → Q (started b t a y d)
  unfolding started
  starts a = pick _ _ _ (λ _. nay _) (λ _. pick _ _ _ (λ _. pick _ _ _ (λ k. start (begun a y d 1) k) (λ _. nay _)) (λ _. nay _))

  queries : Q (asked b t y d)
  unfolding asked
  queries = pick _ _ _ (λ _. nay _) (λ _. pick _ _ _ (λ _. nay _) (λ _. pick _ _ _ (λ _. nay _) (λ _. pick _ _ _ (λ k. start (asking y d) k) (λ _. nay _))))

  steps : Q (stepped b t y d)
  unfolding stepped
  steps = pick _ _ _ (λ _. pick _ _ _ (λ _. pick _ _ _ (λ _. nay _) (λ _. goes)) (λ _. nay _)) (λ _. nay _)

  by_action : (n : ℕ) → Q (acted n b t y d)
  by_action zero = steps
  by_action (suc zero) = starts Lookup
  by_action (suc (suc zero)) = starts Insert
  by_action (suc (suc (suc zero))) = starts Remove
  by_action (suc (suc (suc (suc zero)))) = starts Split
  by_action (suc (suc (suc (suc (suc zero))))) = starts Join
  by_action (suc (suc (suc (suc (suc (suc zero)))))) = queries
  by_action (suc (suc (suc (suc (suc (suc (suc _))))))) = nay _

-- the same with the thread, which is 0 to 3
pub by_record : (b : Bench) (r : Rec) (Q : Result → Type 0) → ((k : ℕ) → Q (refused k))
    → ((t : ℕ) (th : Thread) → t < 4 → is_idle (b.threads t) ≡ true → Q (carried (opening b t th) no_row))
    → ((t : ℕ) → t < 4 → Q (turn b t))
    → Q (step_of b r)
unfolding record_step ite
by_record b r Q nay f g = go (ltb 3 (r.first / 16)) refl
  where
    inner : (c : Bool) → r.first / 16 < 4 → Q (ite c (refused 8) (acted (r.first % 16) b (r.first / 16) r.second r.extra))
    inner true low = nay 8
    inner false low = by_action b (r.first / 16) r.second r.extra Q nay (λ th i. f _ th low i) (g _ low) (r.first % 16)

    go : (c : Bool) → ltb 3 (r.first / 16) ≡ c → Q (ite c (refused 7) (ite (ltb r.last (r.first % 16)) (refused 8) (acted (r.first % 16) b (r.first / 16) r.second r.extra)))
    go true e = nay 7
    go false e = inner (ltb r.last (r.first % 16)) (omega (arith, ltb-false 3 (r.first / 16) e))

-- every version
pub every_version : EveryVersion
unfolding record_step
every_version b l x y d h i = rw (le-ltb l (x % 16) (omega arith), le-ltb 5 (x % 16) i)

-- ---- a step record of thread t

pub step_thread : (t : ℕ) → (16 * t) / 16 ≡ t
step_thread t = omega arith

pub step_action : (t : ℕ) → (16 * t) % 16 ≡ 0
step_action t = omega arith

-- "16 × thread + action": of a busy thread 0 to 3, it is what its place decides
pub step_record : (b : Bench) (l t : ℕ) → t < 4 → is_idle (b.threads t) ≡ false → record_step b l (16 * t) 0 0 ≡ turn b t
unfolding record_step stepped ite
step_record b l t i h = rw (step_thread t, step_action t, le-ltb 3 t (omega arith), le-ltb l 0 (omega arith), h)

-- ---- a start record of an idle one, not of a query, with a depth that is not refused

pub start_thread : (t n : ℕ) → n < 16 → (16 * t + n) / 16 ≡ t
start_thread t n h = omega arith

pub start_action : (t n : ℕ) → n < 16 → (16 * t + n) % 16 ≡ n
start_action t n h = omega arith

pub action_low : (a : Action) → action_number a < 16
action_low Lookup = omega arith
action_low Insert = omega arith
action_low Remove = omega arith
action_low Split = omega arith
action_low Join = omega arith
action_low Query = omega arith

pub start_record : (b : Bench) (l t : ℕ) (a : Action) (y d : ℕ) → action_number a ≤ 5 → action_number a ≤ l → t < 4 → y < 64 → depth_refusal a d ≡ 0 → is_idle (b.threads t) ≡ true
    → record_step b l (16 * t + action_number a) y d ≡ carried (opening b t (begun a y d 1)) no_row
unfolding record_step started ite
start_record b l t a y d few lasts low i j h =
    rw (start_thread t (action_number a) (action_low a), start_action t (action_number a) (action_low a), le-ltb 3 t (omega arith), le-ltb l (action_number a) lasts) (go a few j)
  where
    one : (a : Action) → depth_refusal a d ≡ 0 → started b t a y d ≡ carried (opening b t (begun a y d 1)) no_row
    one a j = rw (le-ltb 63 y (omega arith), j, h)

    go : (a : Action) → action_number a ≤ 5 → depth_refusal a d ≡ 0 → acted (action_number a) b t y d ≡ carried (opening b t (begun a y d 1)) no_row
    go Lookup few j = one Lookup j
    go Insert few j = one Insert j
    go Remove few j = one Remove j
    go Split few j = one Split j
    go Join few j = one Join j
    go Query few j = absurd (omega (arith, few))
