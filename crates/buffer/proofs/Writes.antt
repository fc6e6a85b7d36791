-- What a write of several bytes is made of: the parts of which `search` and `grind` put it together. Assumes nothing.
use Rattle.std.specs.Int.{to_be_bytes}
use Rattle.std.proofs.Common.{w16, w64}
use Rattle.std.proofs.Math.Nat.{div-div-eq-div-mul}
use mathlib.Core.Path.{◌≡◌, refl, sym, ap, ◌∙◌}
use mathlib.Core.List.{List, [], ◌∷◌, ◌++◌}
use Prim.Native.Nat.{ℕ, ◌+◌, ◌-◌, ◌/◌, ◌%◌, ◌≤◌, ◌<◌}
use native.Mathlib.Omega.{arith}
use borrow.Rule.Slice.PartMut.{put_mid}
use lib.ListN.{set, length, take, get_or}
use Rattle.std.proofs.lemmas.List.{take_more}
use Rattle.definitions.specs.Run.{bytes_of}
use Rattle.buffer.specs.Page.{Page, page, put_all}
use Rattle.buffer.proofs.Laws.{put_room, put_full, put_all_append, at_mid}

pub none : (p : Page) → put_all p [] ≡ p
unfolding put_all
none p = refl

-- one byte, and more after it
pub one : (p : Page) (x : ℕ) (xs : List ℕ) → put_all p (x ∷ xs) ≡ put_all (put_all p (x ∷ [])) xs
unfolding put_all
one p x xs = refl

pub one_room : (l : List ℕ) (n x : ℕ) → n < length l → put_all (page l n) (x ∷ []) ≡ page (set l n x) (n + 1)
unfolding put_all
one_room l n x h = sym (put_room l n x h)

pub one_full : (l : List ℕ) (n x : ℕ) → length l ≤ n → put_all (page l n) (x ∷ []) ≡ page l n
unfolding put_all
one_full l n x h = sym (put_full l n x h)

-- the first bytes of a list, one more at a time
pub one_more : (p : Page) (xs : List ℕ) (n : ℕ) → n < length xs → put_all p (take (n + 1) xs) ≡ put_all (put_all p (take n xs)) (get_or xs n 0 ∷ [])
one_more p xs n h = rw (take_more xs n 0 h) (put_all_append p (take n xs) (get_or xs n 0 ∷ []))

-- several at once, where there is room for all
pub at_once : (l : List ℕ) (n : ℕ) (xs : List ℕ) → n < length l → length xs ≤ length l - n → page (put_mid n (n + length xs - n) l xs) (n + length xs) ≡ put_all (page l n) xs
at_once l n xs h i = let k : n + length xs - n ≡ length xs = omega arith in rw k (at_mid l n (length xs) xs refl (omega arith))

-- two writes, one after the other, and the same bytes in other words; a, b and c are the buffer's name
pub next : {N : Type 0} {a b c : N} (p : Page) (xs ys : List ℕ) {q r : Page} → (b ≡ a) × (q ≡ put_all p xs) → (c ≡ b) × (r ≡ put_all q ys) → (c ≡ a) × (r ≡ put_all p (xs ++ ys))
next p xs ys w v = (v.0 ∙ w.0, v.1 ∙ rw w.1 (sym (put_all_append p xs ys)))

pub said : {N : Type 0} {a b : N} (p : Page) {xs ys : List ℕ} {q : Page} → xs ≡ ys → (b ≡ a) × (q ≡ put_all p xs) → (b ≡ a) × (q ≡ put_all p ys)
said p e w = (w.0, w.1 ∙ ap (put_all p) e)

pub ruleset bytes = (none, one_room, one_full, one_more, at_once)

pub ruleset writes = (none, one, put_all_append)

-- ---- numbers as bytes, the high one first

pub pair_bytes : (n : ℕ) → n < 65536 → to_be_bytes w16 n ≡ n / 256 ∷ n % 256 ∷ []
pair_bytes n h = let small : n / 256 % 256 ≡ n / 256 = omega arith in rw small

pub word_bytes : (n : ℕ) → to_be_bytes w64 n ≡ bytes_of 8 n
unfolding bytes_of
word_bytes n = simp div-div-eq-div-mul
