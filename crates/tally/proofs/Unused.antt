-- A place that is no action's and no refusal's gets nothing from any file: `unused_rule`. Assumes nothing.
use mathlib.Core.Path.{◌≡◌, refl, ap, ◌∙◌}
use mathlib.Core.Logic.{◌≢◌, inl, inr}
use mathlib.Core.Bool.{Bool, true, false}
use mathlib.Core.List.{List}
use Prim.Native.Nat.{ℕ, zero, suc, ◌+◌, ◌/◌, ◌%◌, ◌<◌}
use native.Mathlib.Omega.{arith}
use native.Mathlib.Decide.{ℕ_discrete}
use lib.Dec.{eqb}
use Rattle.container.specs.Choice.{ite}
use Rattle.definitions.specs.Threads.{Thread}
use Rattle.definitions.specs.Bench.{Bench}
use Rattle.definitions.specs.Records.{no_row, row, Result, refused, carried, is_idle, record_step, action_number}
use Rattle.definitions.specs.Schedule.{record_at, count_of}
use Rattle.definitions.specs.Run.{after, ended, run_refusal, run_report}
use Rattle.definitions.specs.declared.Action.{Action}
use Rattle.passing.proofs.Did.{Did, did}
use Rattle.passing.proofs.Tallied.{number_some, number_small, entered_start, enter_on, enter_off}
use Rattle.season.specs.Tally.{Field, starts, unfinished, steps, largest, place, Tally, empty, just, sum, Ledger, column, taken, entered_by}
use Rattle.season.specs.Tally.{ledger, busy_with, left_busy, refused_once, records_tally, file_tally}
use Rattle.season.specs.Season.{UnusedRule}
use Rattle.season.proofs.Sums.{sum_at, join_zero, just_other}
use Rattle.run.proofs.Counting.{records_on, records_off}
use Rattle.tally.proofs.Refusals.{refusals_rule}

place_low : (f : Field) (a : ℕ) → a < 8 → (place f a % 8 ≡ a) × (place f a < 48)
place_low Field.starts a h = (omega arith, omega arith)
place_low Field.yes a h = (omega arith, omega arith)
place_low Field.no a h = (omega arith, omega arith)
place_low Field.unfinished a h = (omega arith, omega arith)
place_low Field.steps a h = (omega arith, omega arith)
place_low Field.largest a h = (omega arith, omega arith)

-- ---- a place that no action has
module _ (i : ℕ) (free : (f : Field) (c : Action) → i ≢ place f (action_number c)) where
  sum_zero : (t u : Tally) → t i ≡ 0 → u i ≡ 0 → sum t u i ≡ 0
  sum_zero t u p q = sum_at t u i ∙ rw (p, q) (join_zero i 0)

  just_zero : (f : Field) (c : Action) (n : ℕ) → just (place f (action_number c)) n i ≡ 0
  just_zero f c n = just_other (place f (action_number c)) n i (free f c)

  taken_zero : (c : Action) (n : ℕ) → taken (action_number c) n i ≡ 0
  unfolding taken
  taken_zero c n = sum_zero _ _ (just_zero steps c n) (just_zero largest c n)

  by_result : (b : Bench) (t y n : ℕ) (l : Ledger) → l.counts i ≡ 0 → (o : Result) → Did b t y n o → (entered_by o n t (b.threads t) l).counts i ≡ 0
  by_result b t y n l z (refused k) d = z
  by_result b t y n l z (carried b' no_row) (h, inl s) =
      rw (s.number, entered_start (action_number s.what) t (b.threads t) no_row l (number_some s.what)) (sum_zero l.counts (just (place starts (action_number s.what)) 1) z (just_zero starts s.what 1))
  by_result b t y n l z (carried b' no_row) (h, inr s) = rw s.number z
  by_result b t y n l z (carried b' (row r d e)) (h, s) =
      rw s.number
      (sum_zero l.counts _ z
      (sum_zero (just (place (column r) (action_number (b.threads t).action)) 1) _ (just_zero (column r) (b.threads t).action 1) (taken_zero (b.threads t).action (suc (l.own t)))))

  ledger_zero : (file : List ℕ) (n : ℕ) → (ledger file n).counts i ≡ 0
  unfolding ledger
  ledger_zero file zero = refl
  ledger_zero file (suc n) = elim (ℕ_discrete (after file n).refusal 0) [
    | yes z ↦ rw (enter_on (after file n) (record_at file n) (ledger file n) z)
        (by_result (after file n).bench ((record_at file n).first / 16) (record_at file n).second ((record_at file n).first % 16) (ledger file n) (ledger_zero file n)
        (record_step (after file n).bench (record_at file n).last (record_at file n).first (record_at file n).second (record_at file n).extra)
        (did (after file n).bench (record_at file n).last (record_at file n).first (record_at file n).second (record_at file n).extra))
    | no z ↦ rw (enter_off (after file n) (record_at file n) (ledger file n) z) (ledger_zero file n)
  ]

  busy_zero : (th : Thread) → busy_with th i ≡ 0
  unfolding busy_with ite
  busy_zero th = by (is_idle th)
    where
      by : (c : Bool) → ite c empty (just (place unfinished (action_number th.action)) 1) i ≡ 0
      by true = refl
      by false = just_zero unfinished th.action 1

  left_zero : (f : ℕ → Thread) → left_busy f i ≡ 0
  unfolding left_busy
  left_zero f = sum_zero _ _ (busy_zero (f 0)) (sum_zero _ _ (busy_zero (f 1)) (sum_zero _ _ (busy_zero (f 2)) (busy_zero (f 3))))

  pub records_zero : (file : List ℕ) (n : ℕ) → records_tally file n i ≡ 0
  records_zero file n = elim (ℕ_discrete (run_refusal file n) 0) [
    | yes z ↦ rw (records_on file n z) (sum_zero (ledger file (count_of file)).counts (left_busy (ended file).bench.threads) (ledger_zero file (count_of file)) (left_zero (ended file).bench.threads))
    | no z ↦ rw (records_off file n z)
  ]

refusal_zero : (k i : ℕ) → (k ≢ 0 → i ≢ 48 + k) → refused_once k i ≡ 0
unfolding refused_once ite
refusal_zero k i h = elim (ℕ_discrete k 0) [ yes z ↦ rw z | no z ↦ by (eqb k 0) (just_other (48 + k) 1 i (h z)) ]
  where
    by : (c : Bool) → just (48 + k) 1 i ≡ 0 → ite c empty (just (48 + k) 1) i ≡ 0
    by true e = refl
    by false e = e

-- ---- the places
pub past : (i : ℕ) → 48 < suc i → (f : Field) (c : Action) → i ≢ place f (action_number c)
past i h f c e = omega (arith, (place_low f (action_number c) (number_small c)).1)

pub unused_rule : UnusedRule
unfolding file_tally
unused_rule file n = (
  λ f a h free.
      sum_zero (place f a) (other f a h free) (refused_once k) (records_tally file n)
      (refusal_zero k (place f a) (λ _ e. omega (arith, (place_low f a h).1)))
      (records_zero (place f a) (other f a h free) file n),
  (
    sum_zero 48 (past 48 (omega arith)) (refused_once k) (records_tally file n) (refusal_zero k 48 (λ z e. omega arith)) (records_zero 48 (past 48 (omega arith)) file n),
    sum_zero 54 (past 54 (omega arith)) (refused_once k) (records_tally file n) (refusal_zero k 54 (λ _ e. (refusals_rule file n).1 (omega arith))) (records_zero 54 (past 54 (omega arith)) file n),
  ),
)
  where
    k : ℕ
    k = (run_report file n).refusal

    other : (f : Field) (a : ℕ) → a < 8 → ((c : Action) → action_number c ≡ a → ⊥) → (g : Field) (c : Action) → place f a ≢ place g (action_number c)
    other f a h free g c e = free c (omega (arith, (place_low f a h).0, (place_low g (action_number c) (number_small c)).0, ap (λ (x : ℕ). x % 8) e))
