-- The refusals of Merge in their order, each with the code's own facts as premises; and what is known where there is none.
-- Assumes nothing.
use mathlib.Core.Path.{◌≡◌, refl, sym, ◌∙◌}
use mathlib.Core.Bool.{Bool, true, false, true≢false}
use mathlib.Core.List.{List, [], ◌∷◌}
use Prim.Native.Nat.{ℕ, ◌+◌, ◌*◌, ◌≤◌, ◌<◌, min}
use native.Mathlib.Omega.{arith}
use borrow.Author.Tests.{eq-eqb, ne_eqb, lt-ltb, le-ltb, ltb-false, eqb-true}
use lib.Dec.{eqb, ltb}
use Rattle.container.specs.Choice.{ite}
use Rattle.schedule.proofs.Laws.{plain}
use Rattle.definitions.specs.Schedule.{count_of}
use Rattle.definitions.specs.Merge.{fault, foreign, total, needed, first_of, merge_refusal}
use Rattle.merge.specs.Accepted.{Accepted}

-- ---- the first that is not 0

over : {k : ℕ} (ks : List ℕ) → k ≡ 0 → first_of ks ≡ first_of (k ∷ ks)
unfolding first_of ite
over ks z = rw (eq-eqb _ _ z)

past : (ks : List ℕ) → first_of ks ≡ first_of (0 ∷ ks)
past ks = over ks refl

here : {k : ℕ} (ks : List ℕ) → 1 ≤ k → k ≡ first_of (k ∷ ks)
unfolding first_of ite
here {k} ks h = rw (ne_eqb k 0 (λ z. omega arith))

none : (k : ℕ) (ks : List ℕ) → first_of (k ∷ ks) ≡ 0 → (k ≡ 0) × (first_of ks ≡ 0)
unfolding first_of ite
none k ks = by (eqb k 0) refl
  where
    by : (t : Bool) → eqb k 0 ≡ t → ite t (first_of ks) k ≡ 0 → (k ≡ 0) × (first_of ks ≡ 0)
    by true e z = (eqb-true k 0 e, z)
    by false e z = absurd (true≢false (sym (eq-eqb _ _ z) ∙ e))

-- a refusal k where a is below b
below : (a b k : ℕ) → a < b → k ≡ ite (ltb a b) k 0
unfolding ite
below a b k h = rw (lt-ltb _ _ h)

above : (a b k : ℕ) → b ≤ a → ite (ltb a b) k 0 ≡ 0
unfolding ite
above a b k h = rw (le-ltb _ _ h)

fits : (a b k : ℕ) → (k ≡ 0 → ⊥) → ite (ltb a b) k 0 ≡ 0 → b ≤ a
unfolding ite
fits a b k i = by (ltb a b) refl
  where
    by : (t : Bool) → ltb a b ≡ t → ite t k 0 ≡ 0 → b ≤ a
    by true e z = absurd (i z)
    by false e z = ltb-false a b e

-- ---- in order

module _ (first second : List ℕ) (room : ℕ) where
  pub by_first : {u : ℕ} → 1 ≤ u → u ≡ fault first → u ≡ merge_refusal first second room
  unfolding merge_refusal
  by_first i e = rw (← e) (here _ i)

  module _ (e : 0 ≡ fault first) where
    pub by_second : {u : ℕ} → 1 ≤ u → u ≡ fault second → u ≡ merge_refusal first second room
    unfolding merge_refusal
    by_second i f = rw (← e, ← f) (here _ i ∙ past _)

    module _ (f : 0 ≡ fault second) {a b : ℕ} (c : a ≡ count_of first) (d : b ≡ count_of second) where
      pub by_foreign : {u : ℕ} → 1 ≤ u → u ≡ foreign 0 first (count_of first) → u ≡ merge_refusal first second room
      unfolding merge_refusal
      by_foreign i g = rw (← e, ← f, ← g) (here _ i ∙ (past _ ∙ past _))

      module _ (g : 0 ≡ foreign 0 first (count_of first)) where
        pub by_foreign_2 : {u : ℕ} → 1 ≤ u → u ≡ foreign 1 second (count_of second) → u ≡ merge_refusal first second room
        unfolding merge_refusal
        by_foreign_2 i h = rw (← e, ← f, ← g, ← h) (here _ i ∙ (past _ ∙ (past _ ∙ past _)))

        -- nothing is refused before the total
        module _ (h : 0 ≡ foreign 1 second (count_of second)) where
          last_two : first_of (ite (ltb 4096 (a + b)) 3 0 ∷ ite (ltb room (3 + 4 * min a b)) 18 0 ∷ []) ≡ merge_refusal first second room
          unfolding merge_refusal
          last_two = rw (← e, ← f, ← g, ← h, c, d) (past _ ∙ (past _ ∙ (past _ ∙ past _)))

          pub by_total : 4096 < a + b → 3 ≡ merge_refusal first second room
          by_total l = below 4096 (a + b) 3 l ∙ (here _ (omega (arith, below 4096 (a + b) 3 l)) ∙ last_two)

          module _ (l : a + b ≤ 4096) {n : ℕ} (q : n ≡ min a b) where
            last : first_of (ite (ltb room (3 + 4 * min a b)) 18 0 ∷ []) ≡ merge_refusal first second room
            last = over _ (above 4096 (a + b) 3 l) ∙ last_two

            pub by_short : room < 3 + 4 * n → 18 ≡ merge_refusal first second room
            unfolding first_of ite
            by_short i = rw (lt-ltb room (3 + 4 * min a b) (rw q at i)) at last

            pub by_none : 3 + 4 * n ≤ room → 0 ≡ merge_refusal first second room
            unfolding first_of ite
            by_none i = rw (le-ltb room (3 + 4 * min a b) (rw q at i)) at last

-- ---- none

pub accepted : (first second : List ℕ) (room : ℕ) → merge_refusal first second room ≡ 0 → Accepted first second room
unfolding merge_refusal
accepted first second room z =
    let a = none _ _ z in
    let b = none _ _ a.1 in
    let c = none _ _ b.1 in
    let d = none _ _ c.1 in
    let e = none _ _ d.1 in
    record {
      one = plain first a.0;
      other = plain second b.0;
      own_one = c.0;
      own_other = d.0;
      few = fits 4096 (total first second) 3 (λ q. omega arith) e.0;
      room = fits room (needed first second) 18 (λ q. omega arith) (none _ _ e.1).0;
    }
