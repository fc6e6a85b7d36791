-- The first k records of a file as a file of their own: it is not refused where the whole one is not, it has k records, and it stands after
-- them where the whole one stands after k records. Assumes nothing.
use mathlib.Core.Path.{◌≡◌, refl, ap, ◌∙◌}
use mathlib.Core.Bool.{Bool, true, false, ◌||◌}
use mathlib.Core.List.{List, [], ◌∷◌}
use Rattle.std.specs.Int.{to_be_bytes}
use Rattle.std.proofs.Common.{w16}
use borrow.Rule.Slice.PartMut.{put_mid}
use Rattle.buffer.proofs.Writes.{pair_bytes}
use Prim.Native.Nat.{ℕ, zero, suc, ◌+◌, ◌*◌, ◌/◌, ◌%◌, ◌≤◌, ◌<◌}
use native.Mathlib.Omega.{arith}
use borrow.Author.Tests.{eq-eqb, le-ltb}
use lib.Dec.{eqb, ltb}
use lib.ListN.{length, get_or, set, take, length-set}
use lib.Seq.{length-take-le, take-set-lt, get_or-take, get_or-set_same, get_or-set_other}
use Rattle.container.specs.Choice.{ite}
use Rattle.schedule.specs.Proper.{Proper}
use Rattle.schedule.proofs.Laws.{proper}
use Rattle.definitions.specs.Versions.{version, width}
use Rattle.definitions.specs.Records.{no_row, row, Result, refused, carried, record_step}
use Rattle.definitions.specs.Schedule.{Rec, count_of, record_at, file_refusal}
use Rattle.definitions.specs.Run.{Progress, advance_by, advance, after}
use Rattle.writer.specs.Part.{part}

-- ---- a file that has the version of another, and the bytes of its first k records

module _ (p file : List ℕ) (k : ℕ) (head : get_or p 0 0 ≡ get_or file 0 0) (rest : (i : ℕ) → 3 ≤ i → i < 3 + width file * k → get_or p i 0 ≡ get_or file i 0) where
  abbrev bytes : List ℕ → Bool → ℕ → Rec
  bytes l v i = record {
    last = ite v 5 6;
    first = get_or l (3 + ite v 2 4 * i) 0;
    second = get_or l (4 + ite v 2 4 * i) 0;
    extra = ite v 0 (get_or l (5 + ite v 2 4 * i) 0 * 256 + get_or l (6 + ite v 2 4 * i) 0);
  }

  fields : (v : Bool) → ((i : ℕ) → 3 ≤ i → i < 3 + ite v 2 4 * k → get_or p i 0 ≡ get_or file i 0) → (i : ℕ) → i < k → bytes p v i ≡ bytes file v i
  unfolding ite
  fields true r i l = rw (r (3 + 2 * i) (omega arith) (omega arith), r (4 + 2 * i) (omega arith) (omega arith))
  fields false r i l = rw (r (3 + 4 * i) (omega arith) (omega arith), r (4 + 4 * i) (omega arith) (omega arith), r (5 + 4 * i) (omega arith) (omega arith), r (6 + 4 * i) (omega arith) (omega arith))

  record_same : (i : ℕ) → i < k → record_at p i ≡ record_at file i
  unfolding record_at
  record_same i l = ap (λ v. bytes p (eqb v 1) i) head ∙ fields (eqb (version file) 1) rest i l

  by_same : (q : Progress) (t : ℕ) (o : Result) → advance_by p q t o ≡ advance_by file q t o
  by_same q t (refused n) = refl
  by_same q t (carried b no_row) = refl
  by_same q t (carried b (row a d c)) = rw head

  advance_same : (q : Progress) (r : Rec) → advance p q r ≡ advance file q r
  unfolding advance
  advance_same q r = ap (λ o. ite (eqb q.refusal 0) o q) (by_same q (r.first / 16) (record_step q.bench r.last r.first r.second r.extra))

  pub after_same : (j : ℕ) → j ≤ k → after p j ≡ after file j
  unfolding after
  after_same zero l = rw head
  after_same (suc j) l =
      ap (λ q. advance p q (record_at p j)) (after_same j (omega arith))
      ∙ (ap (advance p (after file j)) (record_same j (omega arith)) ∙ advance_same (after file j) (record_at file j))

-- ---- the part of a file that is not refused

-- two bytes written at 1
put_in : (out : List ℕ) (a b : ℕ) → 3 ≤ length out → put_mid 1 2 out (a ∷ b ∷ []) ≡ set (set out 1 a) 2 b
put_in [] a b h = absurd (omega arith)
put_in (x ∷ []) a b h = absurd (omega arith)
put_in (x ∷ y ∷ []) a b h = absurd (omega arith)
put_in (x ∷ y ∷ z ∷ out) a b h = refl

known_version : (file : List ℕ) → file_refusal file ≡ 0 → eqb (version file) 1 || (eqb (version file) 2 || eqb (version file) 3) ≡ true
unfolding file_refusal ite
known_version file = by (ltb (length file) 3) (eqb (version file) 1 || (eqb (version file) 2 || eqb (version file) 3))
    (ite (ltb 4096 (count_of file)) 3 (ite (eqb (length file) (3 + width file * count_of file)) 0 4))
  where
    by : (a b : Bool) (n : ℕ) → ◌≡◌ {A = ℕ} (ite a 1 (ite b n 2)) 0 → b ≡ true
    by true b n z = absurd (omega arith)
    by false true n z = refl
    by false false n z = absurd (omega arith)

module _ (file : List ℕ) (k : ℕ) (z : file_refusal file ≡ 0) (l : k ≤ count_of file) where
  fine : Proper file
  fine = proper file z

  pub inside : 3 + width file * k ≤ length file
  unfolding ite
  inside = by (eqb (version file) 1) fine.whole
    where
      by : (v : Bool) → length file ≡ 3 + ite v 2 4 * count_of file → 3 + ite v 2 4 * k ≤ length file
      by true e = omega arith
      by false e = omega arith

  -- room for the longest file
  pub end_few : 3 + width file * k ≤ 16387
  unfolding ite
  end_few = by (eqb (version file) 1) fine.few
    where
      by : (v : Bool) → count_of file ≤ 4096 → 3 + ite v 2 4 * k ≤ 16387
      by true h = omega arith
      by false h = omega arith

  taken : List ℕ
  taken = take (3 + width file * k) file

  taken_length : length taken ≡ 3 + width file * k
  unfolding taken
  taken_length = length-take-le (3 + width file * k) file inside

  one_length : length (set taken 1 (k / 256)) ≡ 3 + width file * k
  one_length = length-set taken 1 (k / 256) ∙ taken_length

  size : length (part file k) ≡ 3 + width file * k
  unfolding taken
  size = length-set (set taken 1 (k / 256)) 2 (k % 256) ∙ one_length

  -- a byte that is none of the count's
  other : (i : ℕ) → (i ≡ 1 → ⊥) → (i ≡ 2 → ⊥) → i < 3 + width file * k → get_or (part file k) i 0 ≡ get_or file i 0
  unfolding taken
  other i a b h = get_or-set_other (set taken 1 (k / 256)) 2 i (k % 256) 0 b ∙ (get_or-set_other taken 1 i (k / 256) 0 a ∙ get_or-take (3 + width file * k) file i 0 h)

  pub head : get_or (part file k) 0 0 ≡ get_or file 0 0
  head = other 0 (λ e. omega arith) (λ e. omega arith) (omega arith)

  rest : (i : ℕ) → 3 ≤ i → i < 3 + width file * k → get_or (part file k) i 0 ≡ get_or file i 0
  rest i a h = other i (λ e. omega arith) (λ e. omega arith) h

  high : get_or (part file k) 1 0 ≡ k / 256
  unfolding taken
  high = get_or-set_other (set taken 1 (k / 256)) 2 1 (k % 256) 0 (λ e. omega arith) ∙ get_or-set_same taken 1 (k / 256) 0 (omega (arith, taken_length))

  low : get_or (part file k) 2 0 ≡ k % 256
  unfolding taken
  low = get_or-set_same (set taken 1 (k / 256)) 2 (k % 256) 0 (omega (arith, one_length))

  pub count : count_of (part file k) ≡ k
  unfolding count_of
  count = ap (λ x. x * 256 + get_or (part file k) 2 0) high ∙ (ap (λ x. k / 256 * 256 + x) low ∙ whole k)
    where
      whole : (k : ℕ) → k / 256 * 256 + k % 256 ≡ k
      whole k = omega arith

  -- the part, as any list with these bytes
  accepted : (p : List ℕ) → length p ≡ 3 + width file * k → get_or p 0 0 ≡ get_or file 0 0 → count_of p ≡ k → file_refusal p ≡ 0
  unfolding file_refusal ite
  accepted p s h c = rw (
    le-ltb (length p) 3 (omega arith),
    h,
    known_version file z,
    c,
    le-ltb 4096 k (omega (arith, fine.few)),
    eq-eqb (length p) (3 + width file * k) s,
  )

  pub part_fine : file_refusal (part file k) ≡ 0
  part_fine = accepted (part file k) size head count

  pub same : after (part file k) k ≡ after file k
  same = after_same (part file k) file k head rest k (omega arith)

  -- out has the part's bytes, and the count goes into it
  pub made : (out : List ℕ) {end : ℕ} {high : List ℕ} → end ≡ 3 + width file * k → 3 ≤ length out → take end out ≡ take end file → high ≡ to_be_bytes w16 k
      → take end (put_mid 1 2 out high) ≡ part file k
  made out {end} e m h g =
      ap (λ x. take end (put_mid 1 2 out x)) (g ∙ pair_bytes k (omega (arith, fine.few, l)))
      ∙ (ap (take end) (put_in out (k / 256) (k % 256) m)
      ∙ (take-set-lt end (set out 1 (k / 256)) 2 (k % 256) (omega arith)
      ∙ (ap (λ x. set x 2 (k % 256)) (take-set-lt end out 1 (k / 256) (omega arith) ∙ ap (λ x. set x 1 (k / 256)) h)
      ∙ ap (λ i. set (set (take i file) 1 (k / 256)) 2 (k % 256)) e)))
