-- A reading goes on over a list of events: what later events leave as it is. Assumes nothing.
use Rattle.std.specs.Prelude.{Option, Some, None}
use mathlib.Core.Path.{◌≡◌, refl, sym, ◌∙◌, ap}
use mathlib.Core.Logic.{◌≢◌}
use mathlib.Core.Bool.{Bool, true, false}
use mathlib.Core.List.{List, [], ◌∷◌}
use Prim.Native.Nat.{ℕ, ◌<◌, ◌≤◌}
use native.Mathlib.Omega.{arith}
use lib.Dec.{eqb}
use borrow.Author.Tests.{eq-eqb, ne_eqb}
use Rattle.container.specs.Choice.{ite}
use Rattle.definitions.specs.History.{Event, Operation, Reading, begun, ended_by, noted}
use Rattle.judge.proofs.Tools.{◌==?◌}

abbrev pub read_all : List Event → Reading → Reading
read_all [] R = R
read_all (e ∷ es) R = read_all es (noted e R)

-- a start, a finish, or (on an idle thread) nothing
pub noted_case : (P : Reading → Type 0) (e : Event) (R : Reading) → P (begun e R) → ((k : ℕ) → R.busy e.thread ≡ Some k → P (ended_by (Some k) e R)) → P R → P (noted e R)
unfolding ite
noted_case P e R p q r = by (eqb e.mark 0)
  where
    open_by : (k : Option ℕ) → R.busy e.thread ≡ k → P (ended_by k e R)
    open_by None h = r
    open_by (Some k) h = q k h

    by : (c : Bool) → P (ite c (begun e R) (ended_by (R.busy e.thread) e R))
    by true = p
    by false = open_by (R.busy e.thread) refl

-- what an operation asks
pub record SameAsk (o p : Operation) : Type 0 where
  pub action : o.action ≡ p.action
  pub station : o.station ≡ p.station
  pub before : (j : ℕ) → o.finished_before j ≡ p.finished_before j

same_ask : (o : Operation) → SameAsk o o
same_ask o = record { action = refl; station = refl; before = λ j. refl }

then_ask : {o p q : Operation} → SameAsk o p → SameAsk p q → SameAsk o q
then_ask a b = record { action = a.action ∙ b.action; station = a.station ∙ b.station; before = λ j. a.before j ∙ b.before j }

one_count : (e : Event) (R : Reading) → R.all.count ≤ (noted e R).all.count
one_count e R = noted_case (λ Q. R.all.count ≤ Q.all.count) e R (omega arith) (λ k h. omega arith) (omega arith)

one_ask : (e : Event) (R : Reading) (i : ℕ) → i < R.all.count → SameAsk ((noted e R).all.operation i) (R.all.operation i)
one_ask e R i h = noted_case (λ Q. SameAsk (Q.all.operation i) (R.all.operation i)) e R
    (rw (ne_eqb i R.all.count (λ q. omega arith)) (same_ask (R.all.operation i)))
    (λ k _. elim (i ==? k) [ yes q ↦ rw (q, eq-eqb k k refl) (record { action = refl; station = refl; before = λ j. refl }) | no q ↦ rw (ne_eqb i k q) (same_ask (R.all.operation i)) ])
    (same_ask (R.all.operation i))

-- an operation that no thread has open
pub record Closed (i : ℕ) (R : Reading) : Type 0 where
  pub low : i < R.all.count
  pub free : (t : ℕ) → R.busy t ≢ Some i

record Kept (i : ℕ) (R Q : Reading) : Type 0 where
  closed : Closed i Q
  same : Q.all.operation i ≡ R.all.operation i

one_closed : (e : Event) (R : Reading) (i : ℕ) → Closed i R → Kept i R (noted e R)
one_closed e R i c = noted_case (λ Q. Kept i R Q) e R
    (record {
      closed = record {
        low = omega (arith, c.low);
        free = λ t. elim (t ==? e.thread) [ yes q ↦ rw (q, eq-eqb e.thread e.thread refl) (λ z. let w : R.all.count ≡ i = cc in omega (arith, c.low)) | no q ↦ rw (ne_eqb t e.thread q) (c.free t) ];
      };
      same = rw (ne_eqb i R.all.count (λ q. omega (arith, c.low)));
    })
    (λ k h. record {
      closed = record {
        low = c.low;
        free = λ t. elim (t ==? e.thread) [ yes q ↦ rw (q, eq-eqb e.thread e.thread refl) (λ z. cc) | no q ↦ rw (ne_eqb t e.thread q) (c.free t) ];
      };
      same = rw (ne_eqb i k (λ q. c.free e.thread (h ∙ ap Some (sym q))));
    })
    (record { closed = c; same = refl })

-- over all of them
pub all_count : (es : List Event) (R : Reading) → R.all.count ≤ (read_all es R).all.count
all_count [] R = omega arith
all_count (e ∷ es) R = omega (arith, one_count e R, all_count es (noted e R))

pub all_ask : (es : List Event) (R : Reading) (i : ℕ) → i < R.all.count → SameAsk ((read_all es R).all.operation i) (R.all.operation i)
all_ask [] R i h = same_ask (R.all.operation i)
all_ask (e ∷ es) R i h = then_ask (all_ask es (noted e R) i (omega (arith, one_count e R))) (one_ask e R i h)

pub all_closed : (es : List Event) (R : Reading) (i : ℕ) → Closed i R → (read_all es R).all.operation i ≡ R.all.operation i
all_closed [] R i c = refl
all_closed (e ∷ es) R i c = let o = one_closed e R i c in all_closed es (noted e R) i o.closed ∙ o.same
