-- The split key as the code finds it: the byte by running counts, the place in the byte by the table. Assumes nothing.
use mathlib.Core.Path.{◌≡◌, sym, ◌∙◌, ap}
use Prim.Native.Nat.{ℕ, ◌+◌, ◌-◌, ◌*◌, ◌/◌, ◌%◌, ◌^◌, ◌<◌, ◌≤◌}
use native.Mathlib.Nat.{add-zero, zero-add}
use native.Mathlib.Decide.{ℕ_discrete}
use native.Mathlib.Omega.{arith}
use lib.Count.{ones_in}
use lib.Pow.{field, mod-mod-pow}
use Rattle.container.specs.Choice.{ite}
use Rattle.container.specs.Container.{has, size, split_key}
use Rattle.container.specs.Select.{running, passing, seek, selected, Low}
use Rattle.container.proofs.Sizes.{ones_le}
use Rattle.container.proofs.Rank.{ranked, ranked_from, selected_is, ones_parts, ones_low, one_place}
use Rattle.container.proofs.Laws.{size_le, size_none, key_none, key_ranked, key_lt}
use Rattle.container.proofs.Passing.{Passes, passes, running_last, running_low}

-- the code's numbers: half of the last running count; the count below the byte at k; the byte at k
abbrev half : ℕ → ℕ
half t = t / 2 ^ 56 / 2

abbrev below : ℕ → ℕ → ℕ
below t k = (t * 2 ^ 8) % 2 ^ 64 / 2 ^ k % 256

abbrev byte : ℕ → ℕ → ℕ
byte c k = c / 2 ^ k % 256

-- a byte read from a word whose digits from m on are lost
lost : (x k m : ℕ) → k + 8 ≤ m → x % 2 ^ m / 2 ^ k % 2 ^ 8 ≡ x / 2 ^ k % 2 ^ 8
lost x k m l =
    let e : m - k - 8 + 8 + k ≡ m = omega arith in
    rw e at (ap (λ (n : ℕ). n % 2 ^ 8) (field x (m - k - 8 + 8) k) ∙ mod-mod-pow (x / 2 ^ k) (m - k - 8) 8)

-- half of the last running count is half of the stations
half_is : (c : ℕ) → half (running 8 0 c) ≡ size c / 2
unfolding size
half_is c = let e : running 8 0 c / 2 ^ 56 ≡ 0 + ones_in 64 c = running_last 7 0 c (omega arith) in omega arith

-- what the byte found at k is, of the word c with running counts t
record Found (c t k : ℕ) : Type 0 where
  middle : half t ≡ size c / 2
  inside : k ≤ 56
  count : below t k ≡ ones_in k c
  under : ones_in k c ≤ size c / 2
  over : size c / 2 < size c → size c / 2 < ones_in (k + 8) c

found : (c : ℕ) {t k : ℕ} → t ≡ running 8 0 c → k ≡ passing 7 t (half t) → Found c t k
unfolding size
found c {t} {k} e f =
    let m : half t ≡ size c / 2 = ap half e ∙ half_is c in
    let p : Passes 7 0 c (size c / 2) k = rw (f, m, e) (passes 7 0 c (size c / 2) (omega arith) (omega arith)) in
    record {
      middle = m;
      inside = p.inside;
      count = lost (t * 2 ^ 8) k 64 (omega (arith, p.inside)) ∙ ap (λ (n : ℕ). n / 2 ^ k % 256) (ap (λ (n : ℕ). n * 256) e ∙ sym (add-zero (running 8 0 c * 256))) ∙ p.read ∙ zero-add (ones_in k c);
      under = omega (arith, p.before);
      over = λ q. omega (arith, p.after (omega arith));
    }

-- ---- what the code needs of them, one law for each

pub bytes_low : (c : ℕ) {t : ℕ} → t ≡ running 8 0 c → Low 8 t
bytes_low c e = rw e (running_low 8 0 c (omega arith))

pub half_lt : (c : ℕ) {t : ℕ} → t ≡ running 8 0 c → half t < 128
half_lt c e = rw (e, half_is c) (omega (arith, size_le c))

pub begin_lt : (c : ℕ) {t k : ℕ} → t ≡ running 8 0 c → k ≡ passing 7 t (half t) → k < 64
begin_lt c e f = omega (arith, (found c e f).inside)

pub below_le : (c : ℕ) {t k : ℕ} → t ≡ running 8 0 c → k ≡ passing 7 t (half t) → below t k ≤ half t
below_le c e f = let p = found c e f in omega arith

-- the byte's share of the half
within : (c t k : ℕ) → Found c t k → 0 < size c → half t - below t k < ones_in 8 (byte c k)
within c t k p l = rw (ones_low 8 8 (c / 2 ^ k) (omega arith)) (omega (arith, p.middle, p.count, p.under, p.over (omega arith), ones_parts k 8 c))

pub position_lt : (c : ℕ) {t k : ℕ} → t ≡ running 8 0 c → k ≡ passing 7 t (half t) → half t - below t k < 8
position_lt c {t} {k} e f =
    let p = found c e f in
    elim (ℕ_discrete (size c) 0) [ yes z ↦ omega arith | no z ↦ omega (arith, within c t k p (omega arith), ones_le 8 (byte c k)) ]

-- no station: the last byte, and 8 in it
key_empty : {t k : ℕ} → t ≡ running 8 0 0 → k ≡ passing 7 t (half t) → k + selected (byte 0 k) (half t - below t k) ≡ split_key 0
unfolding running passing ite selected seek has ones_in
key_empty e f = rw (f, e) (sym key_none)

pub key_is : (c : ℕ) {t k : ℕ} → c < 2 ^ 64 → t ≡ running 8 0 c → k ≡ passing 7 t (half t) → k + selected (byte c k) (half t - below t k) ≡ split_key c
key_is c {t} {k} l e f = elim (ℕ_discrete (size c) 0) [ yes z ↦ empty (size_none c l z) | no z ↦ station (omega arith) ]
  where
    empty : c ≡ 0 → k + selected (byte c k) (half t - below t k) ≡ split_key c
    empty z = rw z (key_empty (rw z at e) f)

    station : 0 < size c → k + selected (byte c k) (half t - below t k) ≡ split_key c
    station z =
        let p = found c e f in
        let (q, r) = ranked 8 (byte c k) (half t - below t k) (within c t k p z) in
        let s = ranked_from k c (half t - below t k) q r in
        let u = key_ranked c z in
        rw (selected_is (byte c k) (half t - below t k) q r) (one_place c (k + q) (split_key c) s.there u.there (omega (arith, s.below, u.below)))

pub key_fits : (c : ℕ) {t k v : ℕ} → c < 2 ^ 64 → t ≡ running 8 0 c → k ≡ passing 7 t (half t) → v ≡ selected (byte c k) (half t - below t k) → k + v < 256
key_fits c l e f g = rw g (omega (arith, key_is c l e f, key_lt c))

pub key_found : (c : ℕ) {t k v : ℕ} → c < 2 ^ 64 → t ≡ running 8 0 c → k ≡ passing 7 t (half t) → v ≡ selected (byte c k) (half t - below t k) → k + v ≡ split_key c
key_found c l e f g = rw g (key_is c l e f)

pub ruleset key_cases = (bytes_low, half_lt, begin_lt, below_le, position_lt, key_fits, key_found)
