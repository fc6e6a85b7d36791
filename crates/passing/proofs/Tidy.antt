-- What a reading of events in place has, beyond what the code's proof needs: open operations are apart and not finished. Assumes nothing.
use Rattle.std.proofs.lemmas.Bool.{cases_Bool}
use Rattle.std.specs.Prelude.{Some, None}
use mathlib.Core.Path.{◌≡◌, refl, sym, ◌∙◌, ap}
use mathlib.Core.Logic.{◌≢◌, ◌⊎◌, inl, inr, ⊎_elim}
use mathlib.Core.Bool.{true, false, true≢false}
use Prim.Native.Nat.{ℕ, ◌<◌}
use native.Mathlib.Omega.{arith}
use borrow.Author.Tests.{eq-eqb, ne_eqb}
use Rattle.container.specs.Choice.{upd}
use Rattle.definitions.specs.History.{Event, Reading, unread, begun, ended_by}
use Rattle.judge.proofs.Tools.{◌==?◌}

pub record Tidy (R : Reading) : Type 0 where
  pub low : (t i : ℕ) → R.busy t ≡ Some i → i < R.all.count
  pub small : (t i : ℕ) → R.busy t ≡ Some i → t < 4
  pub apart : (t v i : ℕ) → R.busy t ≡ Some i → R.busy v ≡ Some i → t ≡ v
  pub running : (t i : ℕ) → R.busy t ≡ Some i → R.finished i ≡ false
  pub begun : (j : ℕ) → R.finished j ≡ true → j < R.all.count
  pub before : (i j : ℕ) → i < R.all.count → (R.all.operation i).finished_before j ≡ true → R.finished j ≡ true

pub tidy_unread : Tidy unread
tidy_unread = record {
  low = λ t i q. cc;
  small = λ t i q. cc;
  apart = λ t v i q. cc;
  running = λ t i q. refl;
  begun = λ j q. absurd (true≢false (sym q));
  before = λ i j h q. absurd (true≢false (sym q));
}

-- ---- a start on an idle thread
module _ (R : Reading) (e : Event) (tidy : Tidy R) (small : e.thread < 4) where
  private_new : (t i : ℕ) → upd R.busy e.thread (Some R.all.count) t ≡ Some i → ((t ≡ e.thread) × (i ≡ R.all.count)) ⊎ ((t ≢ e.thread) × (R.busy t ≡ Some i))
  private_new t i = elim (t ==? e.thread) [
    | yes q ↦ rw (eq-eqb t e.thread q) (λ z. inl (q, (let w : R.all.count ≡ i = cc in sym w)))
    | no q ↦ rw (ne_eqb t e.thread q) (λ z. inr (q, z))
  ]

  pub tidy_begun : Tidy (begun e R)
  tidy_begun = record {
    low = λ t i z. ⊎_elim (λ p. omega (arith, p.1)) (λ p. omega (arith, tidy.low t i p.1)) (private_new t i z);
    small = λ t i z. ⊎_elim (λ p. omega (arith, p.0)) (λ p. tidy.small t i p.1) (private_new t i z);
    apart = λ t v i z y. ⊎_elim
        (λ p. ⊎_elim (λ q. p.0 ∙ sym q.0) (λ q. absurd (omega (arith, p.1, tidy.low v i q.1))) (private_new v i y))
        (λ p. ⊎_elim (λ q. absurd (omega (arith, q.1, tidy.low t i p.1))) (λ q. tidy.apart t v i p.1 q.1) (private_new v i y))
        (private_new t i z);
    running = λ t i z. ⊎_elim (λ p. rw p.1 not_yet) (λ p. tidy.running t i p.1) (private_new t i z);
    begun = λ j q. omega (arith, tidy.begun j q);
    before = λ i j h. elim (i ==? R.all.count) [ yes q ↦ rw (eq-eqb i R.all.count q) (λ z. z) | no q ↦ rw (ne_eqb i R.all.count q) (tidy.before i j (omega arith)) ];
  }
    where
      not_yet : R.finished R.all.count ≡ false
      not_yet = elim (cases_Bool (R.finished R.all.count)) [ inl q ↦ absurd (omega (arith, tidy.begun R.all.count q)) | inr q ↦ q ]

-- ---- a finish
module _ (R : Reading) (e : Event) (tidy : Tidy R) (k : ℕ) (doing : R.busy e.thread ≡ Some k) where
  was_open : (t i : ℕ) → upd R.busy e.thread None t ≡ Some i → (t ≢ e.thread) × (R.busy t ≡ Some i)
  was_open t i = elim (t ==? e.thread) [
    | yes q ↦ rw (eq-eqb t e.thread q) (λ z. cc)
    | no q ↦ rw (ne_eqb t e.thread q) (λ z. (q, z))
  ]

  -- another thread's operation is another one
  pub other_op : (t i : ℕ) → t ≢ e.thread → R.busy t ≡ Some i → i ≢ k
  other_op t i h z q = h (tidy.apart t e.thread i z (doing ∙ ap Some (sym q)))

  pub tidy_ended : Tidy (ended_by (Some k) e R)
  tidy_ended = record {
    low = λ t i z. tidy.low t i (was_open t i z).1;
    small = λ t i z. tidy.small t i (was_open t i z).1;
    apart = λ t v i z y. tidy.apart t v i (was_open t i z).1 (was_open v i y).1;
    running = λ t i z. let w = was_open t i z in rw (ne_eqb i k (other_op t i w.0 w.1)) (tidy.running t i w.1);
    begun = λ j. elim (j ==? k) [ yes q ↦ rw (eq-eqb j k q) (λ _. omega (arith, q, tidy.low e.thread k doing)) | no q ↦ rw (ne_eqb j k q) (tidy.begun j) ];
    before = λ i j h z. later j (tidy.before i j h (asked i j z));
  }
    where
      asked : (i j : ℕ) → ((ended_by (Some k) e R).all.operation i).finished_before j ≡ true → (R.all.operation i).finished_before j ≡ true
      asked i j = elim (i ==? k) [ yes q ↦ rw (q, eq-eqb k k refl) (λ z. z) | no q ↦ rw (ne_eqb i k q) (λ z. z) ]

      later : (j : ℕ) → R.finished j ≡ true → upd R.finished k true j ≡ true
      later j z = elim (j ==? k) [ yes q ↦ rw (eq-eqb j k q) | no q ↦ rw (ne_eqb j k q) z ]

  -- it is closed then
  pub closed_then : (t : ℕ) → (ended_by (Some k) e R).busy t ≢ Some k
  closed_then t z = let w = was_open t k z in other_op t k w.0 w.1 refl
