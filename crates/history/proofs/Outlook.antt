-- What lies ahead of a moment of a run: a thread whose next record is a step is busy; a busy thread whose next record is none has no
-- row to come. So a step ends its operation exactly if the thread's next record is no step and the next row is the thread's.
-- Assumes nothing.
use mathlib.Core.Path.{◌≡◌, refl, sym, ◌∙◌, ap, subst}
use mathlib.Core.Logic.{◌≢◌, inl, inr}
use mathlib.Core.Bool.{true, false, true≢false}
use mathlib.Core.List.{List}
use Prim.Native.Nat.{ℕ, zero, suc, ◌+◌, ◌*◌, ◌/◌, ◌%◌, ◌<◌, ◌≤◌}
use native.Mathlib.Omega.{arith}
use native.Mathlib.Decide.{ℕ_discrete}
use lib.Dec.{eqb}
use lib.ListN.{get_or}
use borrow.Author.Tests.{eq-eqb, ne_eqb}
use Rattle.container.specs.Choice.{ite, upd}
use Rattle.definitions.specs.declared.Action.{Action}
use Rattle.definitions.specs.declared.Action.TheVariants.{Lookup, Insert, Remove, Split, Join, Query}
use Rattle.definitions.specs.declared.Answer.{Answer}
use Rattle.definitions.specs.Threads.{Thread}
use Rattle.definitions.specs.Records.{Row, no_row, row, carried, action_number, is_idle}
use Rattle.definitions.specs.Schedule.{version}
use Rattle.definitions.specs.Merge.{first_byte, second_byte}
use Rattle.definitions.specs.Run.{Progress, advance_by, after}
use Rattle.passing.proofs.Did.{Did, did}
use Rattle.history.specs.Ahead.{ahead}
use Rattle.history.proofs.Turned.{Turned, done_most, turned_at, finished_then, row_at}

-- ---- ahead, at its first record
module _ (file : List ℕ) (k j t : ℕ) where
  pub ahead_own : first_byte file k / 16 ≡ t → ahead file k (suc j) t ≡ eqb (first_byte file k % 16) 0
  unfolding ahead ite
  ahead_own e = rw (eq-eqb (first_byte file k / 16) t e)

  pub ahead_other : first_byte file k / 16 ≢ t → ahead file k (suc j) t ≡ ahead file (suc k) j t
  unfolding ahead ite
  ahead_other e = rw (ne_eqb (first_byte file k / 16) t e)

pub ahead_none : (file : List ℕ) (k t : ℕ) → ahead file k 0 t ≡ false
unfolding ahead
ahead_none file k t = refl

-- ---- threads

number_some : (a : Action) → action_number a ≢ 0
number_some Lookup e = omega arith
number_some Insert e = omega arith
number_some Remove e = omega arith
number_some Split e = omega arith
number_some Join e = omega arith
number_some Query e = omega arith

-- a thread that a record is not for
same_thread : (f g : ℕ → Thread) (u t : ℕ) (v : Thread) → g ≡ upd f u v → u ≢ t → is_idle (g t) ≡ is_idle (f t)
same_thread f g u t v e h = rw (e, ne_eqb t u (λ q. h (sym q)))

own_thread : (f g : ℕ → Thread) (u : ℕ) (v : Thread) → g ≡ upd f u v → g u ≡ v
own_thread f g u v e = rw (e, eq-eqb u u refl)

-- what record k did to the threads, in words of the bench before it and after it
pub data Deed (file : List ℕ) (k : ℕ) (w : Row) : Type 0 where
  starts : w ≡ no_row → first_byte file k % 16 ≢ 0 → is_idle ((after file k).bench.threads (first_byte file k / 16)) ≡ true → Deed file k w
  goes : w ≡ no_row → first_byte file k % 16 ≡ 0 → is_idle ((after file k).bench.threads (first_byte file k / 16)) ≡ false
      → is_idle ((after file (suc k)).bench.threads (first_byte file k / 16)) ≡ false → Deed file k w
  ends : (a : Answer) (d c : ℕ) → w ≡ row a d c → first_byte file k % 16 ≡ 0 → is_idle ((after file k).bench.threads (first_byte file k / 16)) ≡ false
      → is_idle ((after file (suc k)).bench.threads (first_byte file k / 16)) ≡ true → Deed file k w

pub record Done (file : List ℕ) (k : ℕ) (w : Row) : Type 0 where
  pub small : first_byte file k / 16 < 4
  pub deed : Deed file k w
  pub others : (t : ℕ) → first_byte file k / 16 ≢ t → is_idle ((after file (suc k)).bench.threads t) ≡ is_idle ((after file k).bench.threads t)

pub done_at : (file : List ℕ) (k : ℕ) (z : Turned file k) → Done file k z.added
done_at file k z = by z.added
    (subst (λ r. Did (after file k).bench (first_byte file k / 16) (second_byte file k) (first_byte file k % 16) r) z.step (did (after file k).bench 5 (first_byte file k) (second_byte file k) 0))
  where
    u : ℕ
    u = first_byte file k / 16

    then : (after file (suc k)).bench.threads ≡ z.bench.threads
    then = ap (λ (p : Progress). p.bench.threads) z.next

    by : (w : Row) → Did (after file k).bench (first_byte file k / 16) (second_byte file k) (first_byte file k % 16) (carried z.bench w) → Done file k w
    by no_row (s, inl d) = record {
      small = s;
      deed = starts refl (λ e. number_some d.what (sym d.number ∙ e)) d.rested;
      others = λ t h. same_thread (after file k).bench.threads (after file (suc k)).bench.threads (first_byte file k / 16) t _ (then ∙ d.threads) h;
    }
    by no_row (s, inr d) = record {
      small = s;
      deed = goes refl d.number d.busy (ap is_idle (own_thread (after file k).bench.threads (after file (suc k)).bench.threads (first_byte file k / 16) _ (then ∙ d.threads)) ∙ d.still);
      others = λ t h. same_thread (after file k).bench.threads (after file (suc k)).bench.threads (first_byte file k / 16) t _ (then ∙ d.threads) h;
    }
    by (row a e c) (s, d) = record {
      small = s;
      deed = ends a e c refl d.number d.busy (ap is_idle (own_thread (after file k).bench.threads (after file (suc k)).bench.threads (first_byte file k / 16) _ (then ∙ d.threads)));
      others = λ t h. same_thread (after file k).bench.threads (after file (suc k)).bench.threads (first_byte file k / 16) t _ (then ∙ d.threads) h;
    }

-- ---- the outlook

-- at moment k of the run of n records, j records before its end
pub record Outlook (file : List ℕ) (n k j t : ℕ) : Type 0 where
  pub on : ahead file k j t ≡ true → is_idle ((after file k).bench.threads t) ≡ false
  pub off : ahead file k j t ≡ false → is_idle ((after file k).bench.threads t) ≡ false → (m : ℕ) → (after file k).finished ≤ m → m < (after file n).finished → get_or (after file n).rows (4 * m) 0 ≢ t

-- one record back
module _ (file : List ℕ) (one : version file ≡ 1) (n t j k : ℕ) (before : k < (after file n).done) (later : Outlook file n (suc k) j t) where
  z : Turned file k
  z = turned_at file one n k before

  d : Done file k z.added
  d = done_at file k z

  own : first_byte file k / 16 ≡ t → Deed file k z.added → Outlook file n k (suc j) t
  own q (starts _ s i) = record {
    on = λ a. absurd (true≢false (sym a ∙ ahead_own file k j t q ∙ ne_eqb (first_byte file k % 16) 0 s));
    off = λ _ b. absurd (true≢false (sym i ∙ ap (λ v. is_idle ((after file k).bench.threads v)) q ∙ b));
  }
  own q (goes _ s b _) = record {
    on = λ _. ap (λ v. is_idle ((after file k).bench.threads v)) (sym q) ∙ b;
    off = λ a _. absurd (true≢false (sym (ahead_own file k j t q ∙ eq-eqb (first_byte file k % 16) 0 s) ∙ a));
  }
  own q (ends _ _ _ _ s b _) = record {
    on = λ _. ap (λ v. is_idle ((after file k).bench.threads v)) (sym q) ∙ b;
    off = λ a _. absurd (true≢false (sym (ahead_own file k j t q ∙ eq-eqb (first_byte file k % 16) 0 s) ∙ a));
  }

  inside : k < n
  inside = omega (arith, before, done_most file one n)

  -- the row that another thread's record adds is not thread t's
  past : first_byte file k / 16 ≢ t → (w : Row) → after file (suc k) ≡ advance_by file (after file k) (first_byte file k / 16) (carried z.bench w) → (m : ℕ)
      → (after file k).finished ≤ m → m < (after file n).finished
      → ((after file (suc k)).finished ≤ m → m < (after file n).finished → get_or (after file n).rows (4 * m) 0 ≢ t) → get_or (after file n).rows (4 * m) 0 ≢ t
  past q no_row x m lo hi ih = ih (omega (arith, ap (λ (p : Progress). p.finished) x)) hi
  past q (row a e c) x m lo hi ih = elim (ℕ_discrete m (after file k).finished) [
    | yes i ↦ λ v. q (sym (ap (λ j. get_or (after file n).rows (4 * j) 0) i ∙ (row_at file one k n z.bench a e c inside x).thread) ∙ v)
    | no i ↦ ih (omega (arith, ap (λ (p : Progress). p.finished) x)) hi
  ]

  one_back : Outlook file n k (suc j) t
  one_back = elim (ℕ_discrete (first_byte file k / 16) t) [
    | yes q ↦ own q d.deed
    | no q ↦ record {
      on = λ a. sym (d.others t q) ∙ later.on (sym (ahead_other file k j t q) ∙ a);
      off = λ a b m lo hi. past q z.added z.next m lo hi (later.off (sym (ahead_other file k j t q) ∙ a) (d.others t q ∙ b) m);
    }
  ]

pub outlook : (file : List ℕ) → version file ≡ 1 → (n t j k : ℕ) → k + j ≡ (after file n).done → Outlook file n k j t
outlook file one n t zero k e = record {
  on = λ q. absurd (true≢false (sym q ∙ ahead_none file k t));
  off = λ _ _ m lo hi. let same : (after file k).finished ≡ (after file n).finished =
      ap (λ i. (after file i).finished) (let q : k ≡ (after file n).done = omega arith in q) ∙ finished_then file one n in absurd (omega (arith, same));
}
outlook file one n t (suc j) k e = one_back file one n t j k (omega arith) (outlook file one n t j (suc k) (omega arith))
