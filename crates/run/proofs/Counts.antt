-- What a start and a row make of the numbers of a tally, in the order in which the code stores them. Assumes nothing.
use mathlib.Core.Path.{◌≡◌, sym, ap, ◌∙◌, fun_ext}
use mathlib.Core.Logic.{◌⊎◌, inl, inr}
use mathlib.Core.Bool.{Bool, true, false}
use mathlib.Core.List.{List}
use Prim.Native.Nat.{ℕ, max, ◌+◌, ◌-◌, ◌≤◌, ◌<◌}
use native.Mathlib.Omega.{arith}
use native.Mathlib.Decide.{ℕ_discrete}
use lib.ListN.{length, get_or, set, length-set}
use lib.Seq.{get_or-set_same, get_or-set_other}
use Rattle.container.specs.Choice.{ite}
use Rattle.season.specs.Tally.{Field, place, Tally, just, join, sum, taken, numbers}
use Rattle.season.proofs.Sums.{sum_at, sum_assoc, join_sum, join_zero, just_same, just_other, more_is, steps_taken}
use Rattle.run.specs.Tallying.{Room, opened}

-- ---- a start
module _ (l : List ℕ) (a : ℕ) (low : a < 8) (long : length l ≡ 65) where
  abbrev begun : List ℕ
  begun = set l a (get_or l a 0 + 1)

  pub start_room : Room l 1 → get_or begun (24 + a) 0 + 1 < 4294967296
  start_room r = omega (arith, r.at (24 + a) (omega arith), get_or-set_other l a (24 + a) (get_or l a 0 + 1) 0 (omega arith))

  pub start_stored : numbers (set begun (24 + a) (get_or begun (24 + a) 0 + 1)) ≡ sum (numbers l) (opened a)
  start_stored =
      more_is begun (24 + a) 1 (omega (arith, length-set l a (get_or l a 0 + 1))) (omega arith)
      ∙ (ap (λ (t : Tally). sum t (just (24 + a) 1)) (more_is l a 1 (omega arith) (omega arith)) ∙ sum_assoc (numbers l) (just a 1) (just (24 + a) 1))

-- ---- where an answer stands
pub answer_so : (a : ℕ) (y : Bool) (i : ℕ) → ((y ≡ true) × (i ≡ 8 + a)) ⊎ ((y ≡ false) × (i ≡ 16 + a)) → i ≡ place (ite y Field.yes Field.no) a
unfolding ite
answer_so a y i (inl h) = rw h.0 h.1
answer_so a y i (inr h) = rw h.0 h.1

-- ---- a row, yes or not, of an operation with n own steps
module _ (l : List ℕ) (a n : ℕ) (y : Bool) (low : a < 8) (long : length l ≡ 65) where
  -- where its answer stands
  abbrev pub answer : ℕ
  answer = place (ite y Field.yes Field.no) a

  abbrev pub said : List ℕ
  said = set l answer (get_or l answer 0 + 1)

  abbrev pub closed : List ℕ
  closed = set said (24 + a) (get_or said (24 + a) 0 - 1)

  abbrev pub stepped : List ℕ
  stepped = set closed (32 + a) (get_or closed (32 + a) 0 + n)

  -- one of 8 to 23
  answer_at : (8 ≤ answer) × (answer < 24)
  unfolding ite
  answer_at = by y
    where
      by : (c : Bool) → (8 ≤ place (ite c Field.yes Field.no) a) × (place (ite c Field.yes Field.no) a < 24)
      by true = (omega arith, omega arith)
      by false = (omega arith, omega arith)

  -- what is unfinished
  open_at : get_or said (24 + a) 0 ≡ get_or l (24 + a) 0
  open_at = get_or-set_other l answer (24 + a) (get_or l answer 0 + 1) 0 (omega (arith, answer_at.1))

  closed_length : length closed ≡ 65
  closed_length = length-set said (24 + a) (get_or said (24 + a) 0 - 1) ∙ (length-set l answer (get_or l answer 0 + 1) ∙ long)

  steps_at : get_or closed (32 + a) 0 ≡ get_or l (32 + a) 0
  steps_at =
      get_or-set_other said (24 + a) (32 + a) (get_or said (24 + a) 0 - 1) 0 (omega arith)
      ∙ get_or-set_other l answer (32 + a) (get_or l answer 0 + 1) 0 (omega (arith, answer_at.1))

  pub row_steps : n ≤ 4096 → Room l 4096 → get_or closed (32 + a) 0 + n < 4294967296
  row_steps h r = omega (arith, steps_at, r.at (32 + a) (omega arith))

  -- the number at a place, where one of place i was counted with t
  module _ (t : Tally) (e : numbers l ≡ sum t (just (24 + a) 1)) where
    at_open : get_or l (24 + a) 0 ≡ t (24 + a) + 1
    at_open =
        ap (λ (u : Tally). u (24 + a)) e ∙ (sum_at t (just (24 + a) 1) (24 + a)
        ∙ (join_sum (24 + a) (t (24 + a)) (just (24 + a) 1 (24 + a)) (omega arith) ∙ ap (λ (m : ℕ). t (24 + a) + m) (just_same (24 + a) 1)))

    -- elsewhere they are t's
    else_same : (i : ℕ) → (i ≡ 24 + a → ⊥) → get_or l i 0 ≡ t i
    else_same i q = ap (λ (u : Tally). u i) e ∙ (sum_at t (just (24 + a) 1) i ∙ (ap (join i (t i)) (just_other (24 + a) 1 i q) ∙ join_zero i (t i)))

    -- it is taken off
    taken_off : numbers closed ≡ sum t (just answer 1)
    taken_off = fun_ext at
      where
        at : (i : ℕ) → get_or closed i 0 ≡ sum t (just answer 1) i
        at i = elim (ℕ_discrete i (24 + a)) [
          | yes q ↦ rw q
              (get_or-set_same said (24 + a) (get_or said (24 + a) 0 - 1) 0 (omega (arith, length-set l answer (get_or l answer 0 + 1)))
              ∙ omega (
                arith,
                open_at,
                at_open,
                sum_at t (just answer 1) (24 + a),
                join_sum (24 + a) (t (24 + a)) (just answer 1 (24 + a)) (omega arith),
                just_other answer 1 (24 + a) (omega (arith, answer_at.1)),
              ))
          | no q ↦ get_or-set_other said (24 + a) i (get_or said (24 + a) 0 - 1) 0 q
              ∙ (ap (λ (u : Tally). u i) (more_is l answer 1 (omega (arith, answer_at.1)) (omega (arith, answer_at.0, answer_at.1)))
              ∙ (sum_at (numbers l) (just answer 1) i ∙ (ap (λ (m : ℕ). join i m (just answer 1 i)) (else_same i q) ∙ sym (sum_at t (just answer 1) i))))
        ]

    pub row_stored : (m : ℕ) → m ≡ max (get_or stepped (40 + a) 0) n → numbers (set stepped (40 + a) m) ≡ sum (sum t (just answer 1)) (taken a n)
    row_stored m h = steps_taken closed a n low closed_length m h ∙ ap (λ (u : Tally). sum u (taken a n)) taken_off
