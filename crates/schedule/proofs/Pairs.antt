-- The records of a version 1 file are its bytes after the header, two at a time. Assumes nothing.
use mathlib.Core.Path.{◌≡◌, ap, ◌∙◌}
use mathlib.Core.List.{List, []}
use Prim.Native.Nat.{ℕ, zero, suc, ◌+◌, ◌-◌, ◌*◌, ◌/◌, ◌<◌}
use native.Mathlib.Omega.{arith}
use lib.ListN.{length, get_or, take, drop, length-take, length-drop}
use Rattle.std.proofs.lemmas.List.{get_or-drop, get_or-take}
use Rattle.std.specs.Simd.{first_chunks}
use Rattle.schedule.specs.Proper.{Plain}
use Rattle.schedule.specs.Records.{Pairs}

-- byte b of chunk k of n
pub chunk_byte : (n count k b : ℕ) (xs : List ℕ) → k < count → b < n → get_or (get_or (first_chunks n count xs) k []) b 0 ≡ get_or xs (n * k + b) 0
chunk_byte n zero k b xs h i = absurd (omega arith)
chunk_byte n (suc count) zero b xs h i = get_or-take n xs b 0 i ∙ ap (λ j. get_or xs j 0) (omega arith)
chunk_byte n (suc count) (suc k) b xs h i =
    chunk_byte n count k b (drop n xs) (omega arith) i ∙ get_or-drop n xs (n * k + b) 0 ∙ ap (λ j. get_or xs j 0) (omega arith)

-- the bytes after the header
abbrev pub rest : List ℕ → List ℕ
rest file = take (length file - 3) (drop 3 file)

rest_length : (file : List ℕ) → length (rest file) ≡ length file - 3
rest_length file = omega (arith, length-take (length file - 3) (drop 3 file), length-drop 3 file)

module _ (file : List ℕ) {records : List (List ℕ)} (p : Plain file) (e : records ≡ first_chunks 2 (length (rest file) / 2) (rest file)) (n : length records ≡ length (rest file) / 2) where
  byte : (k b : ℕ) → k < length records → b < 2 → get_or (get_or records k []) b 0 ≡ get_or file (3 + (2 * k + b)) 0
  byte k b h i =
      ap (λ l. get_or (get_or l k []) b 0) e ∙ chunk_byte 2 (length (rest file) / 2) k b (rest file) (omega (arith, n)) i
      ∙ get_or-take (length file - 3) (drop 3 file) (2 * k + b) 0 (omega (arith, p.whole, n, rest_length file)) ∙ get_or-drop 3 file (2 * k + b) 0

  pub pairs_are : Pairs file records
  pairs_are = record {
    many = omega (arith, n, rest_length file, p.whole);
    first = λ k h. byte k 0 h (omega arith) ∙ ap (λ j. get_or file j 0) (omega arith);
    second = λ k h. byte k 1 h (omega arith) ∙ ap (λ j. get_or file j 0) (omega arith);
  }
