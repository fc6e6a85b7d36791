-- The byte in which the running counts pass h: the code marks every byte that is over h, and takes the lowest mark. Assumes nothing.
use mathlib.Core.Path.{◌≡◌, refl, ◌∙◌, ap}
use Prim.Native.Nat.{ℕ, zero, suc, ◌+◌, ◌-◌, ◌*◌, ◌/◌, ◌%◌, ◌^◌, ◌<◌, ◌≤◌}
use native.Mathlib.Nat.{mul-one, mul-add, mul_assoc, pow-suc, suc-add, zero-add, div-one, mul_comm, div-div-eq-div-mul, div-add-mod'}
use native.Mathlib.Decide.{dec_lt}
use native.Mathlib.Omega.{arith}
use lib.Arith.{digits_div, digits_mod}
use lib.Bits.{bit_and, and_block, and_high, shifted_half, shifted_even}
use lib.Count.{ones_in, count_trailing_zeros}
use lib.Dec.{lit<, ltb}
use lib.Pow.{shr-shr}
use borrow.Author.Tests.{lt-ltb, le-ltb}
use Rattle.container.specs.Choice.{ite}
use Rattle.container.specs.Select.{running, passing, Low}
use Rattle.container.proofs.Digits.{test, on, off}
use Rattle.container.proofs.Sizes.{ones_le}
use Rattle.container.proofs.Rank.{ones_parts}

-- ---- trailing zeros of a shifted word

zeros_shifted : (j k z : ℕ) → count_trailing_zeros (j + k) (z * 2 ^ j) ≡ j + count_trailing_zeros k z
unfolding count_trailing_zeros
zeros_shifted zero k z = rw (zero-add k, mul-one z, zero-add (count_trailing_zeros k z))
zeros_shifted (suc j) k z = rw (suc-add j k, shifted_even z j, shifted_half z j, zeros_shifted j k z, suc-add j (count_trailing_zeros k z))

zeros_odd : (k z : ℕ) → count_trailing_zeros (suc k) (z * 2 + 1) ≡ 0
unfolding count_trailing_zeros
zeros_odd k z = let e : (z * 2 + 1) % 2 ≡ 1 = omega arith in rw e

-- ---- the marks

-- 1 in each of n bytes, and 128 in each
unfoldable pub units : ℕ → ℕ
units zero = 0
units (suc n) = units n * 256 + 1

unfoldable pub tops : ℕ → ℕ
tops zero = 0
tops (suc n) = tops n * 256 + 128

-- the lowest byte b of a word is marked where b is over h; w marks the last byte
marked : (t b h u m w : ℕ) → b < 128
    → bit_and (t * 256 + b + ((127 - h) * (u * 256 + 1) + 128 * (w * 256))) (m * 256 + 128) ≡ bit_and (t + ((127 - h) * u + 128 * w)) m * 256 + (b + (127 - h)) / 128 % 2 * 128
marked t b h u m w l =
    let e : t * 256 + b + ((127 - h) * (u * 256 + 1) + 128 * (w * 256)) ≡ (t + ((127 - h) * u + 128 * w)) * 256 + (b + (127 - h)) =
    rw (mul-add (127 - h) (u * 256) 1, ← (mul_assoc (127 - h) u 256)) (omega arith) in
    ap (λ (n : ℕ). bit_and n (m * 256 + 128)) e
    ∙ and_block 8 (t + ((127 - h) * u + 128 * w)) m (b + (127 - h)) 128 (omega arith) (lit< tt)
    ∙ ap (λ (n : ℕ). bit_and (t + ((127 - h) * u + 128 * w)) m * 256 + n) (and_high (b + (127 - h)) 1 7)

-- the lowest mark, where the lowest byte has one and where it has none
over : (k x v : ℕ) → 128 ≤ v → v < 256 → count_trailing_zeros (8 + k) (x * 256 + v / 128 % 2 * 128) ≡ 7
over k x v l m =
    let e : x * 256 + v / 128 % 2 * 128 ≡ (x * 2 + 1) * 2 ^ 7 = omega arith in
    let f : 8 + k ≡ 7 + suc k = omega arith in
    rw (e, f) (zeros_shifted 7 (suc k) (x * 2 + 1) ∙ ap (λ (n : ℕ). 7 + n) (zeros_odd k x))

not_over : (k x v : ℕ) → v < 128 → count_trailing_zeros (8 + k) (x * 256 + v / 128 % 2 * 128) ≡ 8 + count_trailing_zeros k x
not_over k x v l =
    let e : x * 256 + v / 128 % 2 * 128 ≡ x * 2 ^ 8 = omega arith in
    rw e (zeros_shifted 8 k x)

-- one byte, the last, is marked
last_mark : (t : ℕ) → t % 256 < 128 → bit_and (t + 128) 128 ≡ 128
last_mark t l = and_high (t + 128) 1 7 ∙ omega arith

-- what the code computes for n + 1 bytes
pub lowest_mark : (n t h : ℕ) → h < 128 → Low (suc n) t → count_trailing_zeros (8 * n + 8) (bit_and (t + ((127 - h) * units n + 128 * 256 ^ n)) (tops (suc n))) ≡ 7 + passing n t h
unfolding units tops passing Low ite
lowest_mark zero t h l (b, s) =
    let e : t + ((127 - h) * 0 + 128 * 256 ^ 0) ≡ t + 128 = omega arith in
    ap (λ (n : ℕ). count_trailing_zeros 8 (bit_and n 128)) e
    ∙ ap (count_trailing_zeros 8) (last_mark t b)
    ∙ zeros_shifted 7 1 1
    ∙ ap (λ (n : ℕ). 7 + n) (zeros_odd 0 0)
lowest_mark (suc n) t h l (b, s) =
    let e : 8 * suc n + 8 ≡ 8 + (8 * n + 8) = omega arith in
    let x = bit_and (t / 256 + ((127 - h) * units n + 128 * 256 ^ n)) (tops n * 256 + 128) in
    let f : bit_and (t + ((127 - h) * (units n * 256 + 1) + 128 * (256 ^ n * 256))) ((tops n * 256 + 128) * 256 + 128) ≡ x * 256 + (t % 256 + (127 - h)) / 128 % 2 * 128 =
    rw (div-add-mod' t 256) at (marked (t / 256) (t % 256) h (units n) (tops n * 256 + 128) (256 ^ n) b) in
    rw (e, pow-suc 256 n, f) (elim (dec_lt h (t % 256)) [
      | yes q ↦ rw (lt-ltb h (t % 256) q) (over (8 * n + 8) x (t % 256 + (127 - h)) (omega arith) (omega arith))
      | no q ↦ rw (le-ltb h (t % 256) (omega arith), not_over (8 * n + 8) x (t % 256 + (127 - h)) (omega arith), lowest_mark n (t / 256) h l s) (omega arith)
    ])

passing_le : (n t h : ℕ) → passing n t h ≤ 8 * n
unfolding passing ite
passing_le zero t h = omega arith
passing_le (suc n) t h = elim (test (ltb h (t % 256))) [ on e ↦ rw e (omega arith) | off e ↦ rw e (omega (arith, passing_le n (t / 256) h)) ]

-- a word whose bytes are under 128 is at most 127 in each
low_le : (n t : ℕ) → t < 256 ^ n → Low n t → t ≤ 127 * units n
unfolding Low units
low_le zero t l s = omega arith
low_le (suc n) t l (b, s) = omega (arith, pow-suc 256 n, low_le n (t / 256) (omega (arith, pow-suc 256 n)) s)

-- the code's numbers for eight bytes
abbrev raise : ℕ → ℕ
raise h = 0x807f_7f7f_7f7f_7f7f - h * 0x0001_0101_0101_0101

raise_is : (h : ℕ) → h < 128 → raise h ≡ (127 - h) * 0x0001_0101_0101_0101 + 0x8000_0000_0000_0000
raise_is h l = omega arith

pub raise_fits : (h : ℕ) → h < 128 → h * 0x0001_0101_0101_0101 ≤ 0x807f_7f7f_7f7f_7f7f
raise_fits h l = omega arith

pub times_fits : (h : ℕ) → h < 128 → h * 0x0001_0101_0101_0101 < 2 ^ 64
times_fits h l = omega arith

pub raised_fits : (t h : ℕ) → t < 2 ^ 64 → Low 8 t → t + raise h < 2 ^ 64
unfolding units
raised_fits t h l s = omega (arith, low_le 8 t l s)

abbrev marks : ℕ → ℕ → ℕ
marks t h = bit_and (t + raise h) 0x8080_8080_8080_8080

pub lowest_of_eight : (t h : ℕ) → Low 8 t → h < 128 → count_trailing_zeros 64 (marks t h) ≡ 7 + passing 7 t h
unfolding units tops
lowest_of_eight t h s l = ap (λ (n : ℕ). count_trailing_zeros 64 (bit_and (t + n) 0x8080_8080_8080_8080)) (raise_is h l) ∙ lowest_mark 7 t h l s

pub lowest_fits : (t h : ℕ) → Low 8 t → h < 128 → count_trailing_zeros 64 (marks t h) - 7 < 256
lowest_fits t h s l = omega (arith, lowest_of_eight t h s l, passing_le 7 t h)

-- ---- the running counts

running_none : (a w : ℕ) → running 0 a w ≡ 0
unfolding running
running_none a w = refl

running_step : (n a w : ℕ) → running (suc n) a w ≡ running n (a + ones_in 8 w) (w / 256) * 256 + (a + ones_in 8 w)
unfolding running
running_step n a w = refl

-- the lowest of them, and the others
running_first : (n a w : ℕ) → a < 128 → running (suc n) a w % 256 ≡ a + ones_in 8 w
running_first n a w l = rw (running_step n a w) (digits_mod (running n (a + ones_in 8 w) (w / 256)) (omega (arith, ones_le 8 w)))

running_rest : (n a w : ℕ) → a < 128 → running (suc n) a w / 256 ≡ running n (a + ones_in 8 w) (w / 256)
running_rest n a w l = rw (running_step n a w) (digits_div (running n (a + ones_in 8 w) (w / 256)) (omega (arith, ones_le 8 w)))

pub running_low : (n a w : ℕ) → a + 8 * n < 128 → Low n (running n a w)
unfolding Low
running_low zero a w l = tt
running_low (suc n) a w l =
    rw (running_first n a w (omega arith), running_rest n a w (omega arith))
    (omega (arith, ones_le 8 w), running_low n (a + ones_in 8 w) (w / 256) (omega (arith, ones_le 8 w)))

-- the last of them is the whole count
pub running_last : (n a w : ℕ) → a + 8 * n < 128 → running (suc n) a w / 256 ^ n ≡ a + ones_in (8 * n + 8) w
running_last zero a w l = rw (div-one (running 1 a w), running_step 0 a w, running_none (a + ones_in 8 w) (w / 256)) (omega arith)
running_last (suc n) a w l =
    let e : 8 * suc n + 8 ≡ 8 + (8 * n + 8) = omega arith in
    let f : running (suc (suc n)) a w / 256 ^ suc n ≡ running (suc n) (a + ones_in 8 w) (w / 256) / 256 ^ n =
    rw (pow-suc 256 n, mul_comm (256 ^ n) 256, ← (div-div-eq-div-mul (running (suc (suc n)) a w) 256 (256 ^ n)), running_rest (suc n) a w (omega arith)) in
    rw (e, ones_parts 8 (8 * n + 8) w, f, running_last n (a + ones_in 8 w) (w / 256) (omega (arith, ones_le 8 w))) (omega arith)

-- k is where the byte begins in which h is passed: no more than h stand below it, more with it; the count below it is read one byte further down
pub record Passes (n a w h k : ℕ) : Type 0 where
  pub inside : k ≤ 8 * n
  pub before : a + ones_in k w ≤ h
  pub after : h < a + ones_in (8 * n + 8) w → h < a + ones_in (k + 8) w
  pub read : (running (suc n) a w * 256 + a) / 2 ^ k % 256 ≡ a + ones_in k w

here : (n a w h : ℕ) → a < 128 → a ≤ h → (h < a + ones_in (8 * n + 8) w → h < a + ones_in 8 w) → Passes n a w h 0
unfolding ones_in
here n a w h l q r = record {
  inside = omega arith;
  before = omega arith;
  after = r;
  read = rw (div-one (running (suc n) a w * 256 + a)) (omega arith);
}

further : (n a w h k : ℕ) → a + 8 * suc n < 128 → Passes n (a + ones_in 8 w) (w / 256) h k → Passes (suc n) a w h (8 + k)
further n a w h k l p =
    let e : 8 * suc n + 8 ≡ 8 + (8 * n + 8) = omega arith in
    let f : 8 + k + 8 ≡ 8 + (k + 8) = omega arith in
    record {
      inside = omega (arith, p.inside);
      before = rw (ones_parts 8 k w) (omega (arith, p.before));
      after = λ r. let q = rw (e, ones_parts 8 (8 * n + 8) w) at r in rw (f, ones_parts 8 (k + 8) w) (omega (arith, p.after (omega arith)));
      read = rw (← (shr-shr (running (suc (suc n)) a w * 256 + a) 8 k), digits_div (running (suc (suc n)) a w) byte, running_step (suc n) a w, p.read, ones_parts 8 k w) (omega arith);
    }
  where
    byte : a < 2 ^ 8
    byte = omega arith

pub passes : (n a w h : ℕ) → a + 8 * n < 128 → a ≤ h → Passes n a w h (passing n (running (suc n) a w) h)
unfolding passing ite
passes zero a w h l q = here 0 a w h (omega arith) q (λ r. r)
passes (suc n) a w h l q =
    rw (running_first (suc n) a w (omega arith), running_rest (suc n) a w (omega arith)) (elim (dec_lt h (a + ones_in 8 w)) [
      | yes r ↦ rw (lt-ltb h (a + ones_in 8 w) r) (here (suc n) a w h (omega arith) q (λ _. r))
      | no r ↦ rw (le-ltb h (a + ones_in 8 w) (omega arith))
          (further n a w h (passing n (running (suc n) (a + ones_in 8 w) (w / 256)) h) l (passes n (a + ones_in 8 w) (w / 256) h (omega (arith, ones_le 8 w)) (omega arith)))
    ])
