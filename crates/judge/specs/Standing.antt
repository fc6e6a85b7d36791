-- How the code holds what the events so far say.
use Rattle.std.specs.Prelude.{ℕ, ◌<◌, ◌≤◌, ◌≡◌, true, false, ◌&&◌, ltb, get_or, length, List, Option, Some, None, Result, MatchResult}
use Rattle.container.specs.Container.{has}
use Rattle.definitions.specs.History.{Event, Operation, Operations, Reading, no_operation, in_range}
use Rattle.judge.specs.Search.{held_op, held_of, number_of, mark_of}
use Rattle.judge.specs.declared.Work.{Work}
use Rattle.definitions.specs.declared.Refusal.{Refusal}
use Rattle.definitions.specs.declared.Refusal.TheVariants as refusal
use Rattle.judge.specs.declared.Open.{Open}
use Rattle.judge.specs.declared.Noted.{Noted}
use Rattle.judge.specs.declared as code

abbrev pub held : Work → Operations
held w = held_of w.count w.ops

abbrev pub event : ℕ → ℕ → ℕ → ℕ → Event
event t a s m = record { thread = t; action = a; station = s; mark = m }

abbrev pub event_of : code.Event.Event → Event
event_of e = event e.thread (number_of e.asked) e.station (mark_of e.mark)

-- r is the event of four bytes, where each is in its range
abbrev pub Reads : List ℕ → Result code.Event.Event Refusal → Type 0
Reads bytes r = let e = event (get_or bytes 0 0) (get_or bytes 1 0) (get_or bytes 2 0) (get_or bytes 3 0) in MatchResult r (λ v. event_of v ≡ e) (λ why. (in_range e ≡ false) × (why ≡ refusal.Event))

-- a thread's slot
abbrev pub SlotOf : (ℕ → Operation) → Option ℕ → Option Open → Type 0
SlotOf f None None = Unit {0}
SlotOf f None (Some o) = ⊥
SlotOf f (Some k) None = ⊥
SlotOf f (Some k) (Some o) = (number_of o.asked ≡ (f k).action) × ((o.station ≡ (f k).station) × (o.number ≡ k))

abbrev pub SlotsOf : List (Option Open) → Reading → Type 0
SlotsOf slots R = (t : ℕ) → t < 4 → SlotOf R.all.operation (R.busy t) (get_or slots t None)

-- what events in place leave
pub record Proper (R : Reading) : Type 0 where
  pub blank : (i : ℕ) → R.all.count ≤ i → R.all.operation i ≡ no_operation
  pub begun : (j : ℕ) → R.finished j ≡ true → j < R.all.count
  pub lower : (i j : ℕ) → (R.all.operation i).finished_before j ≡ true → j < i
  pub stations : (i : ℕ) → (R.all.operation i).station < 64
  pub busy : (t k : ℕ) → R.busy t ≡ Some k → k < R.all.count

pub record Stands (n : Noted) (R : Reading) : Type 0 where
  pub proper : Proper R
  pub four : length n.slots ≡ 4
  pub twelve : length n.ops ≡ 12
  pub slots : SlotsOf n.slots R
  pub count : n.count ≡ R.all.count
  pub held : (i : ℕ) → i < 12 → held_op n.count n.ops i ≡ R.all.operation i
  pub done : (j : ℕ) → has n.done j ≡ ltb j 12 && R.finished j
