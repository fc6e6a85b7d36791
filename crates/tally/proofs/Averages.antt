-- Euclid's number divides both and is the greatest that does; an average's two numbers have no common divisor, and their ratio is steps
-- over operations (`average_rule`). Assumes nothing.
use mathlib.Core.Path.{◌≡◌, refl, sym, ap, ◌∙◌}
use mathlib.Core.Logic.{◌≢◌}
use mathlib.Core.Bool.{Bool, true, false}
use Prim.Native.Nat.{ℕ, zero, suc, ◌*◌, ◌/◌, ◌%◌, ◌≤◌, ◌<◌, ◌∣◌}
use native.Mathlib.Omega.{arith}
use native.Mathlib.Nat.{mod-lt, mul_comm, mul_assoc, dvd_refl, dvd-zero, dvd-mod_iff, pos_of_dvd_of_pos, eq-one_of_dvd-one, div-mul_cancel, dvd_of_mul-dvd-mul_right, mul-dvd-mul_right}
use borrow.Author.Tests.{eqb-true, eqb-false, eq-eqb, ne_eqb}
use lib.Dec.{eqb}
use Rattle.container.specs.Choice.{ite}
use Rattle.season.specs.Season.{euclid, gcd, ratio, average, Lowest, SameRatio, AverageRule}

-- ---- Euclid

below : (a b : ℕ) → b ≢ 0 → a % b < b
below a b z = mod-lt a (omega arith)

-- how much is allowed does not matter, once it is enough
enough : (k j a b : ℕ) → b ≤ k → b ≤ j → euclid k a b ≡ euclid j a b
unfolding euclid ite
enough zero zero a b p q = refl
enough zero (suc j) a b p q = let z : b ≡ 0 = omega arith in rw (eq-eqb b 0 z)
enough (suc k) zero a b p q = let z : b ≡ 0 = omega arith in rw (eq-eqb b 0 z)
enough (suc k) (suc j) a b p q = by (eqb b 0) refl (λ l. enough k j b (a % b) (omega arith) (omega arith))
  where
    by : (c : Bool) → eqb b 0 ≡ c → (a % b < b → euclid k b (a % b) ≡ euclid j b (a % b)) → ite c a (euclid k b (a % b)) ≡ ite c a (euclid j b (a % b))
    by true e h = refl
    by false e h = h (below a b (eqb-false b 0 e))

pub gcd_next : (a b : ℕ) → b ≢ 0 → gcd b (a % b) ≡ gcd a b
unfolding gcd euclid ite
gcd_next a zero z = absurd (z refl)
gcd_next a (suc k) z = let l = below a (suc k) z in rw (ne_eqb (suc k) 0 z) (enough (a % suc k) k (suc k) (a % suc k) (omega arith) (omega arith))

pub gcd_zero : (a b : ℕ) → b ≡ 0 → gcd a b ≡ a
unfolding gcd euclid
gcd_zero a b z = rw z

-- ---- the greatest common divisor

module _ (d : ℕ) where
  greatest : (k a b : ℕ) → d ∣ a → d ∣ b → d ∣ euclid k a b
  unfolding euclid ite
  greatest zero a b p q = p
  greatest (suc k) a b p q = by (eqb b 0) (greatest k b (a % b) q ((dvd-mod_iff d q).1 p))
    where
      by : (c : Bool) → d ∣ euclid k b (a % b) → d ∣ ite c a (euclid k b (a % b))
      by true h = p
      by false h = h

common : (k a b : ℕ) → b ≤ k → (euclid k a b ∣ a) × (euclid k a b ∣ b)
unfolding euclid ite
common zero a b h = let z : b ≡ 0 = omega arith in (dvd_refl a, rw z (dvd-zero a))
common (suc k) a b h = by (eqb b 0) refl (λ l. common k b (a % b) (omega arith))
  where
    by : (c : Bool) → eqb b 0 ≡ c → (a % b < b → (euclid k b (a % b) ∣ b) × (euclid k b (a % b) ∣ a % b)) → (ite c a (euclid k b (a % b)) ∣ a) × (ite c a (euclid k b (a % b)) ∣ b)
    by true e f = (dvd_refl a, rw (eqb-true b 0 e) (dvd-zero a))
    by false e f = let (p, q) = f (below a b (eqb-false b 0 e)) in ((dvd-mod_iff _ p).0 q, p)

-- ---- the average

module _ (s n : ℕ) (z : n ≢ 0) where
  abbrev g : ℕ
  g = gcd s n

  left : g ∣ s
  unfolding gcd
  left = (common n s n (omega arith)).0

  right : g ∣ n
  unfolding gcd
  right = (common n s n (omega arith)).1

  pub gcd_positive : 0 < g
  gcd_positive = pos_of_dvd_of_pos right (omega arith)

  lowest : Lowest (ratio (s / g) (n / g))
  unfolding gcd
  lowest d p q =
      let whole : d * g ∣ s = rw (div-mul_cancel g left) at (mul-dvd-mul_right d p g) in
      let part : d * g ∣ n = rw (div-mul_cancel g right) at (mul-dvd-mul_right d q g) in
      let own : 1 * g ≡ g = omega arith in
      let one : d * g ∣ 1 * g = rw own (greatest (d * g) n s n whole part) in
      eq-one_of_dvd-one (dvd_of_mul-dvd-mul_right d gcd_positive one)

  same : SameRatio s n (ratio (s / g) (n / g))
  same =
      let p : s / g * g ≡ s = div-mul_cancel g left in
      let q : n / g * g ≡ n = div-mul_cancel g right in
      ap (λ (x : ℕ). s / g * x) (sym q ∙ mul_comm (n / g) g) ∙ (sym (mul_assoc (s / g) g (n / g)) ∙ ap (λ (x : ℕ). x * (n / g)) p)

pub average_some : (s n : ℕ) → n ≢ 0 → average s n ≡ ratio (s / gcd s n) (n / gcd s n)
unfolding average ite
average_some s n z = rw (ne_eqb n 0 z)

pub average_none : (s n : ℕ) → n ≡ 0 → average s n ≡ ratio 0 1
unfolding average ite
average_none s n z = rw (eq-eqb n 0 z)

average_lowest : (s n : ℕ) → Lowest (average s n)
average_lowest s n = by (eqb n 0) refl
  where
    by : (c : Bool) → eqb n 0 ≡ c → Lowest (average s n)
    by true e = rw (average_none s n (eqb-true n 0 e)) (λ d p q. eq-one_of_dvd-one q)
    by false e = rw (average_some s n (eqb-false n 0 e)) (lowest s n (eqb-false n 0 e))

pub average_rule : AverageRule
average_rule s n = (average_lowest s n, λ z. rw (average_some s n z) (same s n z))
