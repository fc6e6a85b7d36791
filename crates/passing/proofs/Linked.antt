-- The bench's threads, the plain set's open operations and the reading's open operations are the same ones. Assumes nothing.
use Rattle.std.specs.Prelude.{Option, Some, None}
use mathlib.Core.Path.{◌≡◌, refl, sym, ◌∙◌, ap, subst}
use mathlib.Core.Bool.{Bool, true, false, true≢false}
use Prim.Native.Nat.{ℕ, ◌<◌}
use native.Mathlib.Omega.{arith}
use borrow.Author.Tests.{eq-eqb, ne_eqb}
use Rattle.definitions.specs.Threads.{Thread}
use Rattle.definitions.specs.Bench.{Bench, fresh}
use Rattle.definitions.specs.Records.{is_idle, action_number}
use Rattle.definitions.specs.PlainSet as plain
use Rattle.definitions.specs.PlainSet.{Plain, doing, empty, finish, start}
use Rattle.definitions.specs.History.{Event, Operation, Reading, unread, begun, ended_by}
use Rattle.judge.proofs.Tools.{◌==?◌}
use Rattle.passing.proofs.Did.{Started, Moved, Ended}
use Rattle.passing.proofs.Tidy.{Tidy, other_op}

pub data Slot (th : Thread) (o : plain.Operation) (k : Option ℕ) (ops : ℕ → Operation) : Type 0 where
  rests : is_idle th ≡ true → k ≡ None → o ≡ plain.no_operation → Slot th o k ops
  works : (i : ℕ) → is_idle th ≡ false → k ≡ Some i → (ops i).action ≡ action_number th.action → (ops i).station ≡ th.station → o ≡ doing th.action th.station → th.station < 64 → Slot th o k ops

abbrev pub Linked : Bench → Plain → Reading → Type 0
Linked b P R = (t : ℕ) → Slot (b.threads t) (P.operation t) (R.busy t) R.all.operation

pub linked_fresh : (on : Bool) → Linked (fresh on) empty unread
linked_fresh on t = rests refl refl refl

-- what a busy thread has open
pub record Open (b : Bench) (P : Plain) (R : Reading) (t : ℕ) : Type 0 where
  pub number : ℕ
  pub busy : R.busy t ≡ Some number
  pub action : (R.all.operation number).action ≡ action_number (b.threads t).action
  pub station : (R.all.operation number).station ≡ (b.threads t).station
  pub plain : P.operation t ≡ doing (b.threads t).action (b.threads t).station
  pub low : (b.threads t).station < 64

module _ (b : Bench) (P : Plain) (R : Reading) (t : ℕ) where
  pub opened : Linked b P R → is_idle (b.threads t) ≡ false → Open b P R t
  opened l h = go (l t)
    where
      go : Slot (b.threads t) (P.operation t) (R.busy t) R.all.operation → Open b P R t
      go (rests q _ _) = absurd (true≢false (sym q ∙ h))
      go (works i _ k a s o h) = record { number = i; busy = k; action = a; station = s; plain = o; low = h }

  pub rested : Linked b P R → is_idle (b.threads t) ≡ true → R.busy t ≡ None
  rested l h = go (l t)
    where
      go : Slot (b.threads t) (P.operation t) (R.busy t) R.all.operation → R.busy t ≡ None
      go (rests _ k _) = k
      go (works i q _ _ _ _ _) = absurd (true≢false (sym h ∙ q))

-- a slot is as before where its operation asks the same
frame : {th : Thread} {o : plain.Operation} {k : Option ℕ} {f : ℕ → Operation} (g : ℕ → Operation)
    → ((i : ℕ) → k ≡ Some i → ((g i).action ≡ (f i).action) × ((g i).station ≡ (f i).station)) → Slot th o k f → Slot th o k g
frame g h (rests a b c) = rests a b c
frame g h (works i a b c d e s) = works i a b ((h i b).0 ∙ c) ((h i b).1 ∙ d) e s

module _ (b b' : Bench) (P : Plain) (R : Reading) (l : Linked b P R) (tidy : Tidy R) where
  pub linked_start : (e : Event) (y n : ℕ) (s : Started b e.thread y n b') → e.action ≡ n → e.station ≡ y → Linked b' (start e.thread s.what y P) (begun e R)
  linked_start e y n s ea es v = rw s.threads (elim (v ==? e.thread) [
    | yes q ↦ rw (eq-eqb v e.thread q) (works R.all.count s.busy refl (rw (eq-eqb R.all.count R.all.count refl) (ea ∙ s.number ∙ ap action_number (sym s.action)))
        (rw (eq-eqb R.all.count R.all.count refl) (es ∙ sym s.station)) (λ i. doing (sym s.action i) (sym s.station i)) (rw s.station s.low))
    | no q ↦ rw (ne_eqb v e.thread q) (frame (begun e R).all.operation (λ i z. rw (ne_eqb i R.all.count (λ w. omega (arith, tidy.low v i z))) (refl, refl)) (l v))
  ])

  pub linked_moved : (t n : ℕ) (m : Moved b t n b') → Linked b' P R
  linked_moved t n m v = rw m.threads (elim (v ==? t) [
    | yes q ↦ rw (eq-eqb v t q) (subst (λ x. Slot m.next (P.operation x) (R.busy x) R.all.operation) (sym q) (let o = opened b P R t l m.busy in
        works o.number m.still o.busy (o.action ∙ ap action_number (sym m.action)) (o.station ∙ sym m.station) (o.plain ∙ cc) (rw m.station o.low)))
    | no q ↦ rw (ne_eqb v t q) (l v)
  ])

  pub linked_ended : (e : Event) (n k : ℕ) (m : Ended b e.thread n b') → R.busy e.thread ≡ Some k → Linked b' (finish e.thread P) (ended_by (Some k) e R)
  linked_ended e n k m d v = rw m.threads (elim (v ==? e.thread) [
    | yes q ↦ rw (eq-eqb v e.thread q) (rests refl refl refl)
    | no q ↦ rw (ne_eqb v e.thread q) (frame (ended_by (Some k) e R).all.operation (λ i z. rw (ne_eqb i k (other_op R e tidy k d v i q z)) (refl, refl)) (l v))
  ])
