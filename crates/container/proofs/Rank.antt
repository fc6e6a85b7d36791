-- A set bit is known by how many set bits stand below it; the select table's definition finds it by that number. Assumes nothing.
use mathlib.Core.Path.{◌≡◌, refl, sym, ◌∙◌, ap}
use mathlib.Core.Bool.{true, false, ◌&&◌}
use mathlib.Core.Logic.{inl, inr}
use Prim.Native.Nat.{ℕ, zero, suc, ◌+◌, ◌*◌, ◌/◌, ◌%◌, ◌^◌, ◌<◌, ◌≤◌}
use native.Mathlib.Nat.{pow-suc, mul_comm, zero-add, suc-add, div-one, div-div-eq-div-mul}
use native.Mathlib.Decide.{ℕ_discrete, dec_lt}
use native.Mathlib.Omega.{arith}
use lib.Count.{ones_in}
use lib.Dec.{eqb}
use lib.Pow.{shl-shr}
use borrow.Author.Tests.{eq-eqb, eqb-true}
use Rattle.container.specs.Choice.{ite}
use Rattle.container.specs.Container.{has}
use Rattle.container.specs.Select.{seek, selected}
use Rattle.container.proofs.Digits.{bit_at, has_is, test, on, off, digit, odd_of, low_even, low_half, low_in, high_out}
use Rattle.container.proofs.Sizes.{ones_none}

-- ---- digits from k on

shift : (k c : ℕ) → c / 2 ^ suc k ≡ c / 2 / 2 ^ k
shift k c = rw (pow-suc 2 k, mul_comm (2 ^ k) 2, ← (div-div-eq-div-mul c 2 (2 ^ k)))

pub bit_from : (k s c : ℕ) → bit_at c (k + s) ≡ bit_at (c / 2 ^ k) s
bit_from zero s c = rw (zero-add s, div-one c)
bit_from (suc k) s c = rw (suc-add k s, shift k c) (bit_from k s (c / 2))

-- ---- how many set digits stand below a place

pub ones_parts : (k j c : ℕ) → ones_in (k + j) c ≡ ones_in k c + ones_in j (c / 2 ^ k)
unfolding ones_in
ones_parts zero j c = rw (zero-add j, div-one c, zero-add (ones_in j c))
ones_parts (suc k) j c = rw (suc-add k j, shift k c) (omega (arith, ones_parts k j (c / 2)))

pub ones_low : (s k c : ℕ) → s ≤ k → ones_in s (c % 2 ^ k) ≡ ones_in s c
unfolding ones_in
ones_low zero k c h = refl
ones_low (suc s) zero c h = absurd (omega arith)
ones_low (suc s) (suc k) c h = rw (low_even c k, low_half c k, ones_low s k (c / 2) (omega arith))

-- those below k, and those of the number without its k lowest digits
pub ones_cut : (k j c : ℕ) → ones_in (k + j) c ≡ ones_in k c + ones_in (k + j) (c / 2 ^ k * 2 ^ k)
ones_cut k j c =
    let none : ones_in k (c / 2 ^ k * 2 ^ k) ≡ 0 = ones_none k (c / 2 ^ k * 2 ^ k) (λ s l. high_out s k c l) in
    let rest : ones_in j (c / 2 ^ k * 2 ^ k / 2 ^ k) ≡ ones_in j (c / 2 ^ k) = ap (ones_in j) (shl-shr (c / 2 ^ k) k) in
    omega (arith, ones_parts k j c, ones_parts k j (c / 2 ^ k * 2 ^ k))

pub ones_next : (p c : ℕ) → bit_at c p ≡ true → ones_in (suc p) c ≡ suc (ones_in p c)
unfolding ones_in
ones_next zero c h = rw (odd_of c h)
ones_next (suc p) c h = omega (arith, ones_next p (c / 2) h)

pub ones_mono : (p q c : ℕ) → p ≤ q → ones_in p c ≤ ones_in q c
unfolding ones_in
ones_mono zero q c h = omega arith
ones_mono (suc p) zero c h = absurd (omega arith)
ones_mono (suc p) (suc q) c h = omega (arith, ones_mono p q (c / 2) (omega arith))

-- two set digits with as many set digits below them are one
pub one_place : (c p q : ℕ) → bit_at c p ≡ true → bit_at c q ≡ true → ones_in p c ≡ ones_in q c → p ≡ q
one_place c p q a b e =
    elim (dec_lt p q) [
      | yes l ↦ absurd (omega (arith, ones_next p c a, ones_mono (suc p) q c (omega arith)))
      | no l ↦ elim (dec_lt q p) [
        | yes m ↦ absurd (omega (arith, ones_next q c b, ones_mono (suc q) p c (omega arith)))
        | no m ↦ omega arith
      ]
    ]

-- one of n digits, set and with h set digits below it
pub record Ranked (n c h p : ℕ) : Type 0 where
  pub inside : p < n
  pub there : bit_at c p ≡ true
  pub below : ones_in p c ≡ h

-- a place in the half, one further up
up : (n c h g : ℕ) → g ≡ c % 2 + h → (p : ℕ) × Ranked n (c / 2) h p → (p : ℕ) × Ranked (suc n) c g p
unfolding ones_in
up n c h g e (p, r) = (suc p, record { inside = omega (arith, r.inside); there = r.there; below = rw r.below (sym e) })

pub ranked : (n c h : ℕ) → h < ones_in n c → (p : ℕ) × Ranked n c h p
unfolding ones_in
ranked zero c h l = absurd (omega arith)
ranked (suc n) c zero l = elim (digit c) [ inl e ↦ up n c 0 0 (omega arith) (ranked n (c / 2) 0 (omega arith)) | inr e ↦ (0, record { inside = omega arith; there = rw e; below = refl }) ]
ranked (suc n) c (suc h) l =
    elim (digit c) [
      | inl e ↦ up n c (suc h) (suc h) (omega arith) (ranked n (c / 2) (suc h) (omega arith))
      | inr e ↦ up n c h (suc h) (omega arith) (ranked n (c / 2) h (omega arith))
    ]

-- ---- the search of the definition ends at that place

found : (n s p c h : ℕ) → Ranked (s + n) c h p → s ≤ p → seek n s c h ≡ p
unfolding seek ite
found zero s p c h r l = omega (arith, r.inside)
found (suc n) s p c h r l =
    elim (ℕ_discrete s p) [
      | yes e ↦ rw (hit e) e
      | no d ↦ rw (miss d) (found n (suc s) p c h (record { inside = omega (arith, r.inside); there = r.there; below = r.below }) (omega arith))
    ]
  where
    hit : s ≡ p → (has c s && eqb (ones_in s c) h) ≡ true
    hit e = rw (e, has_is c p, r.there) (eq-eqb (ones_in p c) h r.below)

    miss : (s ≡ p → ⊥) → (has c s && eqb (ones_in s c) h) ≡ false
    miss d =
        elim (test (has c s)) [
          | on e ↦ rw e (elim (test (eqb (ones_in s c) h)) [
            | on q ↦ absurd (d (one_place c s p (sym (has_is c s) ∙ e) r.there (eqb-true (ones_in s c) h q ∙ sym r.below)))
            | off q ↦ q
          ])
          | off e ↦ rw e
        ]

pub selected_is : (b h p : ℕ) → Ranked 8 b h p → selected b h ≡ p
unfolding selected
selected_is b h p r = found 8 0 p b h r (omega arith)

-- the byte from place k on: what it has set with h set below is the word's, with those below k added
pub ranked_from : (k c h p : ℕ) → Ranked 8 (c / 2 ^ k % 256) h p → Ranked (k + 8) c (ones_in k c + h) (k + p)
ranked_from k c h p r = record {
  inside = omega (arith, r.inside);
  there = bit_from k p c ∙ sym (low_in p 8 (c / 2 ^ k) r.inside) ∙ r.there;
  below = rw (ones_parts k p c, ← (ones_low p 8 (c / 2 ^ k) (omega (arith, r.inside))), r.below);
}
