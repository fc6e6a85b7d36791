-- How many numbers below n have a property, and that an injection bounds one count by another.
use mathlib.Core.Path.{◌≡◌, refl, ◌∙◌, ap}
use mathlib.Core.Bool.{Bool, true, false, cond}
use Prim.Native.Nat.{ℕ, zero, suc, ◌+◌, ◌<◌, ◌≤◌}
use native.Mathlib.Omega.{arith}
use borrow.Author.Tests.{eq-eqb, ne_eqb}
use Rattle.container.specs.Choice.{upd}
use Rattle.answers.proofs.Tools.{◌==?◌, on, off, test}
use Rattle.polls.specs.Bound.{count}

abbrev pub one : Bool → ℕ
one c = cond c 1 0

pub count_suc : (n : ℕ) (p : ℕ → Bool) → count (suc n) p ≡ one (p n) + count n p
unfolding count
count_suc n p = refl

one_le : (a b : Bool) → (a ≡ true → b ≡ true) → one a ≤ one b
one_le false b h = omega arith
one_le true b h = rw (h refl) (omega arith)

pub count_le : (n : ℕ) (p q : ℕ → Bool) → ((x : ℕ) → x < n → p x ≡ true → q x ≡ true) → count n p ≤ count n q
unfolding count
count_le zero p q h = omega arith
count_le (suc n) p q h = omega (arith, one_le (p n) (q n) (h n (omega arith)), count_le n p q (λ x l. h x (omega arith)))

pub count_same : (n : ℕ) (p q : ℕ → Bool) → ((x : ℕ) → x < n → p x ≡ q x) → count n p ≡ count n q
unfolding count
count_same zero p q h = refl
count_same (suc n) p q h = rw (h n (omega arith), count_same n p q (λ x l. h x (omega arith)))

-- one more
pub count_upd : (n y : ℕ) (p : ℕ → Bool) → count n (upd p y true) ≤ suc (count n p)
unfolding count
count_upd zero y p = omega arith
count_upd (suc n) y p = elim (n ==? y) [
  | yes q ↦ rw (eq-eqb n y q) (omega (arith, count_le n (upd p y true) p (λ x l. rw (ne_eqb x y (λ z. omega arith)) (λ e. e))))
  | no q ↦ rw (ne_eqb n y q) (omega (arith, count_upd n y p))
]

-- one fewer
pub count_off : (n y : ℕ) (p : ℕ → Bool) → y < n → p y ≡ true → suc (count n (upd p y false)) ≤ count n p
unfolding count
count_off zero y p h e = absurd (omega arith)
count_off (suc n) y p h e = elim (n ==? y) [
  | yes q ↦ rw (eq-eqb n y q, ap p q ∙ e) (omega (arith, count_le n (upd p y false) p (λ x l. rw (ne_eqb x y (λ z. omega arith)) (λ e. e))))
  | no q ↦ rw (ne_eqb n y q) (omega (arith, count_off n y p (omega arith) e))
]

-- f takes what has p to what has q below m, and no two to one
pub count_into : (n m : ℕ) (p q : ℕ → Bool) (f : ℕ → ℕ) → ((x : ℕ) → x < n → p x ≡ true → (f x < m) × (q (f x) ≡ true))
    → ((x y : ℕ) → x < n → y < n → p x ≡ true → p y ≡ true → f x ≡ f y → x ≡ y) → count n p ≤ count m q
unfolding count
count_into zero m p q f h i = omega arith
count_into (suc n) m p q f h i = elim (test (p n)) [
  | on e ↦ rw e (let o = h n (omega arith) e in let c = count_off m (f n) q o.0 o.1 in
      let r = count_into n m p (upd q (f n) false) f (λ x l d. ((h x (omega arith) d).0, rw (ne_eqb (f x) (f n) (λ z. apart x l (i x n (omega arith) (omega arith) d e z))) (h x (omega arith) d).1))
      (λ x y l l'. i x y (omega arith) (omega arith)) in omega arith)
  | off e ↦ rw e (let r = count_into n m p q f (λ x l. h x (omega arith)) (λ x y l l'. i x y (omega arith) (omega arith)) in omega arith)
]
  where
    apart : (x : ℕ) → x < n → x ≡ n → ⊥
    apart x l z = omega arith

pub count_more : (m n : ℕ) (p : ℕ → Bool) → m ≤ n → count m p ≤ count n p
unfolding count
count_more m zero p h = let z : m ≡ 0 = omega arith in rw z (omega arith)
count_more m (suc n) p h = elim (m ==? suc n) [ yes q ↦ rw q (omega arith) | no q ↦ (let o = count_more m n p (omega arith) in omega arith) ]
