-- Running counts of ones, made in all bytes of a word at once. Assumes nothing.
use mathlib.Core.Path.{◌≡◌, ◌∙◌, ap}
use mathlib.Core.Bool.{cond}
use Prim.Native.Nat.{ℕ, zero, suc, ◌+◌, ◌-◌, ◌*◌, ◌/◌, ◌%◌, ◌^◌, ◌<◌, ◌≤◌}
use native.Mathlib.Omega.{arith}
use lib.Count.{ones_in}
use lib.Dec.{ltb}
use Rattle.container.specs.Select.{running}
use Rattle.container.proofs.Digits.{test, on, off}
use Rattle.container.proofs.Sizes.{ones_le}
use Rattle.container.proofs.Fields.{counts, bytes, bytes_is}

-- ---- counts to running counts

-- a word by its bytes
abbrev word : (ℕ → ℕ) → ℕ
word o = ((((((o 7 * 256 + o 6) * 256 + o 5) * 256 + o 4) * 256 + o 3) * 256 + o 2) * 256 + o 1) * 256 + o 0

-- one of the code's sums, and what it does to the bytes: to each is added the one n below it
abbrev pub onto : ℕ → ℕ → ℕ
onto k y = y + (y * 2 ^ k) % 2 ^ 64

abbrev with_below : ℕ → (ℕ → ℕ) → ℕ → ℕ
with_below n o i = o i + cond (ltb i n) 0 (o (i - n))

twofold : (n m : ℕ) (o : ℕ → ℕ) → ((i : ℕ) → o i ≤ m) → (i : ℕ) → with_below n o i ≤ m + m
twofold n m o l i = elim (test (ltb i n)) [ on e ↦ rw e (omega (arith, l i)) | off e ↦ rw e (omega (arith, l i, l (i - n))) ]

module _ (o : ℕ → ℕ) (l : (i : ℕ) → o i ≤ 32) where
  by_one : onto 8 (word o) ≡ word (with_below 1 o)
  by_one = omega (arith, l 0, l 1, l 2, l 3, l 4, l 5, l 6, l 7)

  by_two : onto 16 (word o) ≡ word (with_below 2 o)
  by_two = omega (arith, l 0, l 1, l 2, l 3, l 4, l 5, l 6, l 7)

  by_four : onto 32 (word o) ≡ word (with_below 4 o)
  by_four = omega (arith, l 0, l 1, l 2, l 3, l 4, l 5, l 6, l 7)

word_fits : (o : ℕ → ℕ) → ((i : ℕ) → o i ≤ 64) → word o < 2 ^ 64
word_fits o l = omega (arith, l 0, l 1, l 2, l 3, l 4, l 5, l 6, l 7)

-- the three sums of the counts of bytes fit in the word, and the last is the running counts
module _ (w : ℕ) where
  byte_from : ℕ → ℕ
  byte_from zero = w
  byte_from (suc i) = byte_from i / 256

  abbrev once : ℕ → ℕ
  once = with_below 1 (λ i. ones_in 8 (byte_from i))

  once_le : (i : ℕ) → once i ≤ 16
  once_le = twofold 1 8 (λ i. ones_in 8 (byte_from i)) (λ i. ones_le 8 (byte_from i))

  twice_le : (i : ℕ) → with_below 2 once i ≤ 32
  twice_le = twofold 2 16 once once_le

  counted : counts 8 8 w ≡ word (λ i. ones_in 8 (byte_from i))
  unfolding counts byte_from
  counted = omega arith

  module _ (l : w < 2 ^ 64) where
    first : onto 8 (bytes w) ≡ word once
    first = ap (onto 8) (bytes_is w l ∙ counted) ∙ by_one (λ i. ones_in 8 (byte_from i)) (λ i. omega (arith, ones_le 8 (byte_from i)))

    second : onto 16 (onto 8 (bytes w)) ≡ word (with_below 2 once)
    second = ap (onto 16) first ∙ by_two once (λ i. omega (arith, once_le i))

    third : onto 32 (onto 16 (onto 8 (bytes w))) ≡ word (with_below 4 (with_below 2 once))
    third = ap (onto 32) second ∙ by_four (with_below 2 once) twice_le

    pub first_fits : onto 8 (bytes w) < 2 ^ 64
    first_fits = rw first (word_fits once (λ i. omega (arith, once_le i)))

    pub second_fits : onto 16 (onto 8 (bytes w)) < 2 ^ 64
    second_fits = rw second (word_fits (with_below 2 once) (λ i. omega (arith, twice_le i)))

    pub third_fits : onto 32 (onto 16 (onto 8 (bytes w))) < 2 ^ 64
    third_fits = rw third (word_fits (with_below 4 (with_below 2 once)) (twofold 4 32 (with_below 2 once) twice_le))

    pub third_is : onto 32 (onto 16 (onto 8 (bytes w))) ≡ running 8 0 w
    unfolding running byte_from
    third_is = third ∙ omega arith
