-- Ones counted in all fields of a word at once: neighbouring fields are added, `(y & m) + ((y >> k) & m)`, where m has the k low bits of
-- every field of k + k bits. Assumes nothing.
use mathlib.Core.Path.{◌≡◌, refl, sym, ap, ◌∙◌}
use Prim.Native.Nat.{ℕ, zero, suc, ◌+◌, ◌-◌, ◌*◌, ◌/◌, ◌%◌, ◌^◌, ◌<◌, ◌≤◌}
use native.Mathlib.Nat.{mod-lt, mod-one, mod-eq_of_lt, add-mul, lt_of_lt_of_le, lt_of_le_of_lt, le-add_right, pow-suc}
use native.Mathlib.Numerals.{add-one}
use native.Mathlib.Omega.{arith}
use lib.Arith.{digits_div, digits_mod}
use lib.Bits.{bit_and, and_block, and_mask, and_zero_r, and_le_l, and_le_r}
use lib.Count.{ones_in}
use lib.Dec.{lit<}
use lib.Pow.{pow_pos, pow_mono, split, shr-shr, mod-mod-pow, mod-pow-add, ones_lt}
use Rattle.container.proofs.Sizes.{ones_le}
use Rattle.container.proofs.Rank.{ones_parts}

-- the mask for m fields of k + k bits
unfoldable pub halves : ℕ → ℕ → ℕ
halves k zero = 0
halves k (suc m) = halves k m * 2 ^ (k + k) + (2 ^ k - 1)

-- in each of the m lowest fields of k bits of x, the count of the field's ones
unfoldable pub counts : ℕ → ℕ → ℕ → ℕ
counts k zero x = 0
counts k (suc m) x = counts k m (x / 2 ^ k) * 2 ^ k + ones_in k x

-- twice m, so that a count of 2 m fields unfolds two fields at a time
twice : ℕ → ℕ
twice zero = zero
twice (suc m) = suc (suc (twice m))

-- a field of one bit holds its own count
counts_bits : (m x : ℕ) → counts 1 m x ≡ x % 2 ^ m
unfolding counts ones_in
counts_bits zero x = sym (mod-one x)
counts_bits (suc m) x = rw (counts_bits m (x / 2 ^ 1), ← (add-one m), mod-pow-add x m 1) (omega arith)

-- the count of a field fits in the field
lt_pow : (k : ℕ) → k < 2 ^ k
lt_pow zero = omega arith
lt_pow (suc k) = omega (arith, lt_pow k, pow-suc 2 k)

ones_fit : (k x : ℕ) → ones_in k x < 2 ^ k
ones_fit k x = lt_of_le_of_lt (ones_le k x) (lt_pow k)

-- the mask's lowest field keeps the k low bits of y, and the rest of the mask meets the rest of y
low_field : (k y e : ℕ) → bit_and y (e * 2 ^ (k + k) + (2 ^ k - 1)) ≡ bit_and (y / 2 ^ (k + k)) e * 2 ^ (k + k) + y % 2 ^ k
low_field k y e =
    ap (λ (n : ℕ). bit_and n (e * 2 ^ (k + k) + (2 ^ k - 1))) (sym (split y (k + k)))
    ∙ and_block (k + k) (y / 2 ^ (k + k)) e (y % 2 ^ (k + k)) (2 ^ k - 1) (mod-lt y (pow_pos (k + k))) (lt_of_lt_of_le (ones_lt k) (pow_mono (le-add_right k k)))
    ∙ ap (λ (n : ℕ). bit_and (y / 2 ^ (k + k)) e * 2 ^ (k + k) + n) (and_mask (y % 2 ^ (k + k)) k ∙ mod-mod-pow y k k)

-- what the code computes, of a word with the fields o and p below the rest a
added : (k a p o e : ℕ) {y : ℕ} → y ≡ (a * 2 ^ k + p) * 2 ^ k + o → p < 2 ^ k → o < 2 ^ k
    → bit_and y (e * 2 ^ (k + k) + (2 ^ k - 1)) + bit_and (y / 2 ^ k) (e * 2 ^ (k + k) + (2 ^ k - 1)) ≡ (bit_and a e + bit_and (a / 2 ^ k) e) * 2 ^ (k + k) + (o + p)
added k a p o e {y} w lp lo =
    let q : y / 2 ^ k ≡ a * 2 ^ k + p = rw w (digits_div (a * 2 ^ k + p) lo) in
    let r : y % 2 ^ k ≡ o = rw w (digits_mod (a * 2 ^ k + p) lo) in
    let s : y / 2 ^ (k + k) ≡ a = sym (shr-shr y k k) ∙ ap (λ (n : ℕ). n / 2 ^ k) q ∙ digits_div a lp in
    let t : y / 2 ^ k % 2 ^ k ≡ p = ap (λ (n : ℕ). n % 2 ^ k) q ∙ digits_mod a lp in
    let u : y / 2 ^ k / 2 ^ (k + k) ≡ a / 2 ^ k = sym (shr-shr (y / 2 ^ k) k k) ∙ ap (λ (n : ℕ). n / 2 ^ k / 2 ^ k) q ∙ ap (λ (n : ℕ). n / 2 ^ k) (digits_div a lp) in
    rw (low_field k y e, low_field k (y / 2 ^ k) e, s, r, u, t, add-mul (bit_and a e) (bit_and (a / 2 ^ k) e) (2 ^ (k + k))) (omega arith)

-- neighbouring counts added are the counts of fields twice as wide
paired : (k m x : ℕ) → bit_and (counts k (twice m) x) (halves k m) + bit_and (counts k (twice m) x / 2 ^ k) (halves k m) ≡ counts (k + k) m x
unfolding counts halves twice
paired k zero x = rw (and_zero_r 0, and_zero_r (0 / 2 ^ k))
paired k (suc m) x =
    added k (counts k (twice m) (x / 2 ^ k / 2 ^ k)) (ones_in k (x / 2 ^ k)) (ones_in k x) (halves k m) refl (ones_fit k (x / 2 ^ k)) (ones_fit k x)
    ∙ rw (paired k m (x / 2 ^ k / 2 ^ k), shr-shr x k k, ones_parts k k x)

-- ---- what the code computes

-- first, where a field has one bit: the word less every second bit of each pair is the sum of both
in_pairs : (m w : ℕ) → w < 4 ^ m → w ≡ bit_and w (halves 1 m) + 2 * bit_and (w / 2) (halves 1 m)
unfolding halves
in_pairs zero w l = rw (and_zero_r w, and_zero_r (w / 2)) (omega arith)
in_pairs (suc m) w l =
    let r = in_pairs m (w / 4) (omega (arith, pow-suc 4 m)) in
    let e : w / 2 / 2 ^ 2 ≡ w / 4 / 2 = shr-shr w 1 2 ∙ sym (shr-shr w 2 1) in
    let f : bit_and w (halves 1 m * 2 ^ 2 + 1) ≡ bit_and (w / 4) (halves 1 m) * 2 ^ 2 + w % 2 ^ 1 = low_field 1 w (halves 1 m) in
    let g : bit_and (w / 2) (halves 1 m * 2 ^ 2 + 1) ≡ bit_and (w / 4 / 2) (halves 1 m) * 2 ^ 2 + w / 2 % 2 ^ 1 = low_field 1 (w / 2) (halves 1 m) ∙ rw e in
    rw (f, g) (omega arith)

abbrev pub pairs : ℕ → ℕ
pairs w = w - bit_and (w / 2 ^ 1) 0x5555_5555_5555_5555

pub pairs_fit : (w : ℕ) → bit_and (w / 2 ^ 1) 0x5555_5555_5555_5555 ≤ w
pairs_fit w = omega (arith, and_le_l (w / 2 ^ 1) 0x5555_5555_5555_5555)

pairs_is : (w : ℕ) → w < 2 ^ 64 → pairs w ≡ counts 2 32 w
unfolding halves twice
pairs_is w l =
    let sum : ℕ → ℕ = λ n. bit_and n 0x5555_5555_5555_5555 + bit_and (n / 2 ^ 1) 0x5555_5555_5555_5555 in
    let e : bit_and w 0x5555_5555_5555_5555 + bit_and (w / 2 ^ 1) 0x5555_5555_5555_5555 ≡ counts 2 32 w = ap sum (sym (counts_bits 64 w ∙ mod-eq_of_lt l)) ∙ paired 1 32 w in
    let f : w ≡ bit_and w 0x5555_5555_5555_5555 + 2 * bit_and (w / 2 ^ 1) 0x5555_5555_5555_5555 = in_pairs 32 w l in
    omega arith

-- then fields of two bits
abbrev pub nibbles : ℕ → ℕ
nibbles w = bit_and (pairs w) 0x3333_3333_3333_3333 + bit_and (pairs w / 2 ^ 2) 0x3333_3333_3333_3333

nibbles_le : (w : ℕ) → nibbles w ≤ 2 * 0x3333_3333_3333_3333
nibbles_le w = omega (arith, and_le_r (pairs w) 0x3333_3333_3333_3333, and_le_r (pairs w / 2 ^ 2) 0x3333_3333_3333_3333)

pub nibbles_fit : (w : ℕ) → nibbles w < 2 ^ 64
nibbles_fit w = omega (arith, nibbles_le w)

nibbles_is : (w : ℕ) → w < 2 ^ 64 → nibbles w ≡ counts 4 16 w
unfolding halves twice
nibbles_is w l = ap (λ (n : ℕ). bit_and n 0x3333_3333_3333_3333 + bit_and (n / 2 ^ 2) 0x3333_3333_3333_3333) (pairs_is w l) ∙ paired 2 16 w

-- last, fields of four bits: no sum of two leaves its field, so the mask comes after the sum
count_le : (m x : ℕ) → counts 4 m x % 16 ≤ 4
unfolding counts
count_le zero x = omega arith
count_le (suc m) x = omega (arith, ones_le 4 x)

summed : (a p o e : ℕ) {y : ℕ} → y ≡ (a * 2 ^ 4 + p) * 2 ^ 4 + o → a % 16 ≤ 4 → p ≤ 4 → o ≤ 4 → bit_and (y + y / 2 ^ 4) (e * 2 ^ 8 + 15) ≡ bit_and (a + a / 2 ^ 4) e * 2 ^ 8 + (o + p)
summed a p o e {y} w la lp lo =
    let s : y + y / 2 ^ 4 ≡ (a + a / 2 ^ 4) * 2 ^ 8 + (p * 16 + a % 16 * 16 + o + p) = omega arith in
    let low : bit_and (p * 16 + a % 16 * 16 + o + p) 15 ≡ o + p = and_mask (p * 16 + a % 16 * 16 + o + p) 4 ∙ omega arith in
    rw s (and_block 8 (a + a / 2 ^ 4) e (p * 16 + a % 16 * 16 + o + p) 15 (omega arith) (lit< tt) ∙ ap (λ (n : ℕ). bit_and (a + a / 2 ^ 4) e * 2 ^ 8 + n) low)

paired_after : (m x : ℕ) → bit_and (counts 4 (twice m) x + counts 4 (twice m) x / 2 ^ 4) (halves 4 m) ≡ counts 8 m x
unfolding counts halves twice
paired_after zero x = and_zero_r (0 + 0 / 2 ^ 4)
paired_after (suc m) x =
    summed (counts 4 (twice m) (x / 2 ^ 4 / 2 ^ 4)) (ones_in 4 (x / 2 ^ 4)) (ones_in 4 x) (halves 4 m) refl (count_le (twice m) (x / 2 ^ 4 / 2 ^ 4)) (ones_le 4 (x / 2 ^ 4)) (ones_le 4 x)
    ∙ rw (paired_after m (x / 2 ^ 4 / 2 ^ 4), shr-shr x 4 4, ones_parts 4 4 x)

-- the counts of a word's bytes
abbrev pub bytes : ℕ → ℕ
bytes w = bit_and (nibbles w + nibbles w / 2 ^ 4) 0x0f0f_0f0f_0f0f_0f0f

pub bytes_fit : (w : ℕ) → nibbles w + nibbles w / 2 ^ 4 < 2 ^ 64
bytes_fit w = omega (arith, nibbles_le w)

pub bytes_is : (w : ℕ) → w < 2 ^ 64 → bytes w ≡ counts 8 8 w
unfolding halves twice
bytes_is w l = ap (λ (n : ℕ). bit_and (n + n / 2 ^ 4) 0x0f0f_0f0f_0f0f_0f0f) (nibbles_is w l) ∙ paired_after 8 w
