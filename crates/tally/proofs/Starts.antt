-- Every accepted start has an answer or is unfinished at the end: `starts_rule`. Of each action a run has as many starts as answers and busy
-- threads together, at every moment. It rests on `did` of crate passing: a step that adds no row leaves its thread busy, with its action.
use mathlib.Core.Path.{◌≡◌, refl, sym, ap, ◌∙◌}
use mathlib.Core.Logic.{◌≢◌, inl, inr}
use mathlib.Core.Bool.{Bool, true, false}
use mathlib.Core.List.{List, [], ◌∷◌}
use Prim.Native.Nat.{ℕ, zero, suc, ◌+◌, ◌/◌, ◌%◌, ◌<◌}
use native.Mathlib.Omega.{arith}
use native.Mathlib.Decide.{ℕ_discrete}
use lib.Dec.{eqb}
use Rattle.container.specs.Choice.{ite, upd}
use Rattle.definitions.specs.Threads.{Thread, idle}
use Rattle.definitions.specs.Bench.{Bench}
use Rattle.definitions.specs.Answers.{is_yes}
use Rattle.definitions.specs.Records.{no_row, row, Result, refused, carried, is_idle, record_step, action_number}
use Rattle.definitions.specs.Schedule.{Rec, record_at, count_of}
use Rattle.definitions.specs.Versions.{stop_of}
use Rattle.definitions.specs.Run.{Progress, begin, advance_by, after, ended, run_refusal, run_report}
use Rattle.definitions.specs.declared.Answer.{Answer}
use Rattle.passing.proofs.Did.{Did, did, Started, Moved, Ended}
use Rattle.passing.proofs.RunRows.{advance_on, advance_off}
use Rattle.passing.proofs.Tallied.{number_some, number_small, entered_start, enter_on, enter_off}
use Rattle.season.specs.Tally.{Field, starts, unfinished, place, Tally, empty, just, sum, Ledger, ledger_of, column, taken, entered_by}
use Rattle.season.specs.Tally.{ledger, busy_with, left_busy, refused_once, records_tally, file_tally}
use Rattle.season.specs.Season.{Lent, single, total, StartsRule}
use Rattle.season.proofs.Sums.{sum_at, join_sum, just_same, just_other}
use Rattle.run.proofs.Counting.{records_on, records_off}

-- where numbers are added
plus : (t u : Tally) (i : ℕ) → i / 8 ≢ 5 → sum t u i ≡ t i + u i
plus t u i h = sum_at t u i ∙ join_sum i (t i) (u i) h

-- own steps are counted elsewhere
taken_else : (c n i : ℕ) → i < 32 → taken c n i ≡ 0
unfolding taken
taken_else c n i h = omega (arith, plus (just (32 + c) n) (just (40 + c) n) i (omega arith), just_other (32 + c) n i (omega arith), just_other (40 + c) n i (omega arith))

module _ (a : ℕ) (low : a < 8) where
  -- 1 for a thread that is busy with action a
  busy_one : Thread → ℕ
  busy_one th = busy_with th (place unfinished a)

  all_busy : (f : ℕ → Thread) → left_busy f (place unfinished a) ≡ busy_one (f 0) + busy_one (f 1) + busy_one (f 2) + busy_one (f 3)
  unfolding left_busy busy_one
  all_busy f =
      let i = place unfinished a in
      let h : i / 8 ≢ 5 = omega arith in
      omega (
        arith,
        plus (busy_with (f 0)) (sum (busy_with (f 1)) (sum (busy_with (f 2)) (busy_with (f 3)))) i h,
        plus (busy_with (f 1)) (sum (busy_with (f 2)) (busy_with (f 3))) i h,
        plus (busy_with (f 2)) (busy_with (f 3)) i h,
      )

  -- a thread is replaced
  replaced : (f : ℕ → Thread) (th : Thread) (t : ℕ) → t < 4 → left_busy (upd f t th) (place unfinished a) + busy_one (f t) ≡ left_busy f (place unfinished a) + busy_one th
  replaced f th zero h = omega (arith, all_busy f, all_busy (upd f 0 th))
  replaced f th (suc zero) h = omega (arith, all_busy f, all_busy (upd f 1 th))
  replaced f th (suc (suc zero)) h = omega (arith, all_busy f, all_busy (upd f 2 th))
  replaced f th (suc (suc (suc zero))) h = omega (arith, all_busy f, all_busy (upd f 3 th))
  replaced f th (suc (suc (suc (suc t)))) h = absurd (omega arith)

  idle_one : (th : Thread) → is_idle th ≡ true → busy_one th ≡ 0
  unfolding busy_one busy_with ite
  idle_one th i = rw i

  busy_one_lem : (th : Thread) → is_idle th ≡ false → busy_one th ≡ just (place unfinished (action_number th.action)) 1 (place unfinished a)
  unfolding busy_one busy_with ite
  busy_one_lem th i = rw i

  -- one count of action c, seen at the same field and at another
  same_field : (k c : ℕ) → just (k + c) 1 (k + a) ≡ just c 1 a
  same_field k c = elim (ℕ_discrete a c) [
    | yes q ↦ rw q (just_same (k + c) 1 ∙ sym (just_same c 1))
    | no q ↦ just_other (k + c) 1 (k + a) (omega arith) ∙ sym (just_other c 1 a q)
  ]

  -- ---- at a moment of a run
  record Balanced (p : Progress) (l : Ledger) : Type 0 where
    even : l.counts (place starts a) ≡ l.counts (place Field.yes a) + l.counts (place Field.no a) + left_busy p.bench.threads (place unfinished a)
    none : l.counts (place unfinished a) ≡ 0

  answer_adds : (y : Answer) (c : ℕ) → c < 8
      → (just (place (column y) c) 1 (place Field.yes a) + just (place (column y) c) 1 (place Field.no a) ≡ just c 1 a)
      × ((just (place (column y) c) 1 (place starts a) ≡ 0) × (just (place (column y) c) 1 (place unfinished a) ≡ 0))
  unfolding ite
  answer_adds y c h = by (is_yes y)
    where
      by : (k : Bool)
          → (just (place (ite k Field.yes Field.no) c) 1 (place Field.yes a) + just (place (ite k Field.yes Field.no) c) 1 (place Field.no a) ≡ just c 1 a)
          × ((just (place (ite k Field.yes Field.no) c) 1 (place starts a) ≡ 0) × (just (place (ite k Field.yes Field.no) c) 1 (place unfinished a) ≡ 0))
      by true = (omega (arith, same_field 8 c, just_other (8 + c) 1 (16 + a) (omega arith)), (just_other (8 + c) 1 a (omega arith), just_other (8 + c) 1 (24 + a) (omega arith)))
      by false = (omega (arith, same_field 16 c, just_other (16 + c) 1 (8 + a) (omega arith)), (just_other (16 + c) 1 a (omega arith), just_other (16 + c) 1 (24 + a) (omega arith)))

  module _ (file : List ℕ) (p : Progress) (l : Ledger) (m : Balanced p l) (b : Bench) (t : ℕ) (small : t < 4) where
    start_even : (y n : ℕ) → Started p.bench t y n b → Balanced (advance_by file p t (carried b no_row)) (ledger_of (upd l.own t 0) (sum l.counts (just (place starts n) 1)))
    start_even y n s =
        let c = action_number s.what in
        let q = number_small s.what in
        record {
          even = rw (s.threads, s.number)
              (omega (
                arith,
                m.even,
                plus l.counts (just c 1) a (omega arith),
                plus l.counts (just c 1) (8 + a) (omega arith),
                plus l.counts (just c 1) (16 + a) (omega arith),
                just_other c 1 (8 + a) (omega arith),
                just_other c 1 (16 + a) (omega arith),
                replaced p.bench.threads s.new t small,
                idle_one (p.bench.threads t) s.rested,
                busy_one_lem s.new s.busy,
                ap (λ act. just (place unfinished (action_number act)) 1 (place unfinished a)) s.action,
                same_field 24 c,
              ));
          none = rw s.number (omega (arith, m.none, plus l.counts (just c 1) (24 + a) (omega arith), just_other c 1 (24 + a) (omega arith)));
        }

    move_even : (n : ℕ) (o : ℕ → ℕ) → Moved p.bench t n b → Balanced (advance_by file p t (carried b no_row)) (ledger_of o l.counts)
    move_even n o s = record {
      even = rw s.threads
          (omega (
            arith,
            m.even,
            replaced p.bench.threads s.next t small,
            busy_one_lem s.next s.still,
            busy_one_lem (p.bench.threads t) s.busy,
            ap (λ act. just (place unfinished (action_number act)) 1 (place unfinished a)) s.action,
          ));
      none = m.none;
    }

    end_even : (n : ℕ) (o : ℕ → ℕ) (k : ℕ) (y : Answer) (d e : ℕ) → Ended p.bench t n b
        → Balanced (advance_by file p t (carried b (row y d e)))
        (ledger_of o (sum l.counts (sum (just (place (column y) (action_number (p.bench.threads t).action)) 1) (taken (action_number (p.bench.threads t).action) k))))
    end_even n o k y d e s =
        let c = action_number (p.bench.threads t).action in
        let (p1, (p2, p3)) = answer_adds y c (number_small (p.bench.threads t).action) in
        let u = just (place (column y) c) 1 in
        let at : (i : ℕ) → i < 32 → sum l.counts (sum u (taken c k)) i ≡ l.counts i + u i =
        λ i h. omega (arith, plus l.counts (sum u (taken c k)) i (omega arith), plus u (taken c k) i (omega arith), taken_else c k i h) in
        record {
          even = rw s.threads
              (omega (
                arith,
                m.even,
                p1,
                p2,
                at a (omega arith),
                at (8 + a) (omega arith),
                at (16 + a) (omega arith),
                replaced p.bench.threads idle t small,
                idle_one idle refl,
                busy_one_lem (p.bench.threads t) s.busy,
                same_field 24 c,
              ));
          none = omega (arith, m.none, p3, at (24 + a) (omega arith));
        }

  -- ---- every record
  by_result : (file : List ℕ) (p : Progress) (l : Ledger) (r : Rec) → Balanced p l → (o : Result) → Did p.bench (r.first / 16) r.second (r.first % 16) o
      → Balanced (advance_by file p (r.first / 16) o) (entered_by o (r.first % 16) (r.first / 16) (p.bench.threads (r.first / 16)) l)
  by_result file p l r m (refused k) d = record { even = m.even; none = m.none }
  by_result file p l r m (carried b no_row) (h, inl s) =
      rw (entered_start (r.first % 16) (r.first / 16) (p.bench.threads (r.first / 16)) no_row l (λ e. number_some s.what (sym s.number ∙ e)))
      (start_even file p l m b (r.first / 16) h r.second (r.first % 16) s)
  by_result file p l r m (carried b no_row) (h, inr s) = rw s.number (move_even file p l m b (r.first / 16) h (r.first % 16) _ s)
  by_result file p l r m (carried b (row y d e)) (h, s) = rw s.number (end_even file p l m b (r.first / 16) h (r.first % 16) _ _ y d e s)

  at_first : (on : Bool) → Balanced (begin on) (ledger_of (λ _. 0) empty)
  at_first on = record { even = omega (arith, all_busy (λ _. idle), idle_one idle refl); none = refl }

  balanced : (file : List ℕ) (n : ℕ) → Balanced (after file n) (ledger file n)
  unfolding after ledger
  balanced file zero = at_first (stop_of file)
  balanced file (suc n) = elim (ℕ_discrete (after file n).refusal 0) [
    | yes z ↦ rw (advance_on file (after file n) (record_at file n) z, enter_on (after file n) (record_at file n) (ledger file n) z)
        (by_result file (after file n) (ledger file n) (record_at file n) (balanced file n)
        (record_step (after file n).bench (record_at file n).last (record_at file n).first (record_at file n).second (record_at file n).extra)
        (did (after file n).bench (record_at file n).last (record_at file n).first (record_at file n).second (record_at file n).extra))
    | no z ↦ rw (advance_off file (after file n) (record_at file n) z, enter_off (after file n) (record_at file n) (ledger file n) z) (balanced file n)
  ]

  refusal_else : (k i : ℕ) → i < 40 → refused_once k i ≡ 0
  unfolding refused_once ite
  refusal_else k i h = by (eqb k 0)
    where
      by : (c : Bool) → ite c empty (just (48 + k) 1) i ≡ 0
      by true = refl
      by false = just_other (48 + k) 1 i (omega arith)

  busy_else : (th : Thread) (i : ℕ) → i < 24 → busy_with th i ≡ 0
  unfolding busy_with ite
  busy_else th i h = by (is_idle th)
    where
      by : (c : Bool) → ite c empty (just (place unfinished (action_number th.action)) 1) i ≡ 0
      by true = refl
      by false = just_other (place unfinished (action_number th.action)) 1 i (omega arith)

  left_else : (f : ℕ → Thread) (i : ℕ) → i < 24 → left_busy f i ≡ 0
  unfolding left_busy
  left_else f i h =
      omega (
        arith,
        plus (busy_with (f 0)) (sum (busy_with (f 1)) (sum (busy_with (f 2)) (busy_with (f 3)))) i (omega arith),
        plus (busy_with (f 1)) (sum (busy_with (f 2)) (busy_with (f 3))) i (omega arith),
        plus (busy_with (f 2)) (busy_with (f 3)) i (omega arith),
        busy_else (f 0) i h,
        busy_else (f 1) i h,
        busy_else (f 2) i h,
        busy_else (f 3) i h,
      )

  records_even : (file : List ℕ) (n : ℕ)
      → records_tally file n (place starts a) ≡ records_tally file n (place Field.yes a) + records_tally file n (place Field.no a) + records_tally file n (place unfinished a)
  records_even file n = elim (ℕ_discrete (run_refusal file n) 0) [
    | yes z ↦ let l = (ledger file (count_of file)).counts in
        let f = (ended file).bench.threads in
        let m = balanced file (count_of file) in
        rw (records_on file n z)
        (omega (
          arith,
          m.even,
          m.none,
          plus l (left_busy f) a (omega arith),
          plus l (left_busy f) (8 + a) (omega arith),
          plus l (left_busy f) (16 + a) (omega arith),
          plus l (left_busy f) (24 + a) (omega arith),
          left_else f a (omega arith),
          left_else f (8 + a) (omega arith),
          left_else f (16 + a) (omega arith),
        ))
    | no z ↦ rw (records_off file n z) (omega arith)
  ]

pub starts_rule : StartsRule
unfolding file_tally
starts_rule file n a low =
    let k = refused_once (run_report file n).refusal in
    let t = records_tally file n in
    omega (
      arith,
      records_even a low file n,
      plus k t a (omega arith),
      plus k t (8 + a) (omega arith),
      plus k t (16 + a) (omega arith),
      plus k t (24 + a) (omega arith),
      refusal_else a low (run_report file n).refusal a (omega arith),
      refusal_else a low (run_report file n).refusal (8 + a) (omega arith),
      refusal_else a low (run_report file n).refusal (16 + a) (omega arith),
      refusal_else a low (run_report file n).refusal (24 + a) (omega arith),
    )

-- and so has a season's sum
pub season_starts : (fs : List Lent) (a : ℕ) → a < 8 → total fs (place starts a) ≡ total fs (place Field.yes a) + total fs (place Field.no a) + total fs (place unfinished a)
unfolding total
season_starts [] a low = omega arith
season_starts (f ∷ fs) a low =
    let t = single f in
    let u = total fs in
    omega (arith, starts_rule f.file f.room a low, season_starts fs a low, plus t u a (omega arith), plus t u (8 + a) (omega arith), plus t u (16 + a) (omega arith), plus t u (24 + a) (omega arith))
