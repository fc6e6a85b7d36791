-- The bytes of module bytes, part by part. Assumes nothing.
use mathlib.Core.Path.{◌≡◌, refl, sym, ap, ◌∙◌}
use mathlib.Core.List.{List, [], ◌∷◌, ◌++◌}
use Prim.Native.Nat.{ℕ, zero, suc, ◌+◌, ◌-◌, ◌/◌, ◌%◌, ◌≤◌}
use native.Mathlib.Omega.{arith}
use lib.ListN.{length, take, drop, length-append, length-drop, length-replicate, replicate-append-replicate}
use Rattle.std.proofs.lemmas.List.{drop-append-le, drop_all}
use lib.Seq.{length-take-le}
use Rattle.std.specs.Int.{to_be_bytes}
use Rattle.std.proofs.Common.{w64}
use Rattle.std.specs.List.{between}
use Rattle.std.proofs.lemmas.Slice.{between_to_end}
use borrow.Rule.Slice.PartMut.{put_mid}
use Rattle.buffer.specs.Page.{page, put_all}
use Rattle.buffer.proofs.Writes.{word_bytes}
use Rattle.buffer.proofs.Laws.{at_mid}
use Rattle.definitions.specs.Run.{bytes_of}
use Rattle.snapshot.specs.Layout.{zeros}

pub zeros_more : (k : ℕ) → zeros (k + 1) ≡ zeros k ++ 0 ∷ []
zeros_more k = sym (replicate-append-replicate k 1 0)

pub zeros_filled : (l : List ℕ) (at n : ℕ) {k : ℕ} {z : List ℕ} → at + n ≤ length l → k ≡ n → z ≡ zeros (length (take k (drop at l))) → page (put_mid at k l z) (at + n) ≡ put_all (page l at) (zeros n)
zeros_filled l at n h f e =
    let rest : n ≤ length (drop at l) = rw length-drop (omega arith) in
    rw (e, f, length-take-le n (drop at l) rest) (at_mid l at n (zeros n) (length-replicate n 0) h)

-- ---- the last bytes of a number

bytes_size : (k n : ℕ) → length (bytes_of k n) ≡ k
unfolding bytes_of
bytes_size zero n = refl
bytes_size (suc k) n = length-append (bytes_of k (n / 256)) (n % 256 ∷ []) ∙ rw (bytes_size k (n / 256)) (omega arith)

-- all but the first j
low_bytes : (j k n : ℕ) → drop j (bytes_of (j + k) n) ≡ bytes_of k n
unfolding bytes_of
low_bytes j zero n = drop_all j (bytes_of (j + 0) n) (omega (arith, bytes_size (j + 0) n))
low_bytes j (suc k) n =
    let e : j + suc k ≡ suc (j + k) = omega arith in
    rw e (drop-append-le j (bytes_of (j + k) (n / 256)) (n % 256 ∷ []) (omega (arith, bytes_size (j + k) (n / 256))) ∙ ap (λ (x : List ℕ). x ++ n % 256 ∷ []) (low_bytes j k (n / 256)))

pub number_bytes : (k n : ℕ) {z : List ℕ} → k ≤ 8 → z ≡ to_be_bytes w64 n → between (8 - k) 8 z ≡ bytes_of k n
number_bytes k n {z} h i =
    let e : 8 ≡ 8 - k + k = omega arith in
    between_to_end z (8 - k) 8 (omega (arith, ap length i)) ∙ rw (i, word_bytes) (ap (λ (j : ℕ). drop (8 - k) (bytes_of j n)) e ∙ low_bytes (8 - k) k n)
