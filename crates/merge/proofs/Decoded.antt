-- The bytes of a file as records: those from a record on, and those written in turns. Assumes nothing.
use mathlib.Core.Path.{◌≡◌, refl, sym, ap, ◌∙◌}
use mathlib.Core.Bool.{Bool, true, false}
use mathlib.Core.List.{List, [], ◌∷◌, ◌++◌, append_assoc, append-nil}
use Prim.Native.Nat.{ℕ, zero, suc, ◌+◌, ◌*◌, ◌/◌, ◌≤◌}
use native.Mathlib.Omega.{arith}
use borrow.Author.Tests.{eqb-true, eq-eqb, ne_eqb}
use lib.Dec.{eqb}
use lib.ListN.{length, get_or, drop, length-append}
use lib.Seq.{drop-cons, drop-length}
use Rattle.container.specs.Choice.{ite}
use Rattle.definitions.specs.Schedule.{Rec, record_at, records_of}
use Rattle.definitions.specs.Merge.{first_byte, second_byte, foreign, turns}
use Rattle.definitions.specs.Merged.{in_turns, kept, is_of}
use Rattle.merge.proofs.Sorted.{turns_append, kept_append}

-- two bytes a record
pub pairs : List ℕ → List Rec
pairs [] = []
pairs (x ∷ []) = []
pairs (x ∷ y ∷ l) = record { last = 5; first = x; second = y; extra = 0 } ∷ pairs l

abbrev record_of : List ℕ → ℕ → Rec
record_of file k = record { last = 5; first = first_byte file k; second = second_byte file k; extra = 0 }

-- the first k records of a version 1 file
unfoldable pub plain_of : List ℕ → ℕ → List Rec
plain_of file zero = []
plain_of file (suc k) = plain_of file k ++ record_of file k ∷ []

pub records_plain : (file : List ℕ) → get_or file 0 0 ≡ 1 → (k : ℕ) → records_of file k ≡ plain_of file k
unfolding records_of record_at plain_of ite
records_plain file v zero = refl
records_plain file v (suc k) = rw (records_plain file v k, eq-eqb _ _ v)

pub records_length : (file : List ℕ) (k : ℕ) → length (plain_of file k) ≡ k
unfolding plain_of
records_length file zero = refl
records_length file (suc k) = length-append (plain_of file k) _ ∙ rw (records_length file k) (omega arith)

-- ---- from record k on

two : (x y : ℕ) (rest : List ℕ) → pairs (x ∷ y ∷ rest) ≡ record { last = 5; first = x; second = y; extra = 0 } ∷ pairs rest
unfolding pairs
two x y rest = refl

module _ (file : List ℕ) where
  bytes_from : (k : ℕ) → 5 + 2 * k ≤ length file → drop (3 + 2 * k) file ≡ first_byte file k ∷ second_byte file k ∷ drop (3 + 2 * suc k) file
  bytes_from k h =
      let e : suc (3 + 2 * k) ≡ 4 + 2 * k = omega arith in
      let f : suc (4 + 2 * k) ≡ 3 + 2 * suc k = omega arith in
      drop-cons file (3 + 2 * k) 0 (omega arith) ∙ rw (e, drop-cons file (4 + 2 * k) 0 (omega arith), f)

  pairs_from : (k : ℕ) → 5 + 2 * k ≤ length file → pairs (drop (3 + 2 * k) file) ≡ record_of file k ∷ pairs (drop (3 + 2 * suc k) file)
  pairs_from k h = ap pairs (bytes_from k h) ∙ two _ _ _

  -- the first k, then what the bytes after them say
  pub records_from : (d k n : ℕ) → k + d ≡ n → length file ≡ 3 + 2 * n → plain_of file k ++ pairs (drop (3 + 2 * k) file) ≡ plain_of file n
  unfolding plain_of pairs
  records_from zero k n e h =
      let q : k ≡ n = omega arith in
      let l : 3 + 2 * n ≡ length file = omega arith in
      rw (q, l, drop-length file, append-nil)
  records_from (suc d) k n e h =
      rw (pairs_from k (omega arith), ← append_assoc (plain_of file k) (record_of file k ∷ []) (pairs (drop (3 + 2 * suc k) file)))
      (records_from d (suc k) n (omega arith) h)

-- ---- written in turns

pub pairs_turns : (first second rest : List ℕ) (k : ℕ) → pairs (turns first second k ++ rest) ≡ in_turns (plain_of first k) (plain_of second k) ++ pairs rest
unfolding turns plain_of in_turns
pairs_turns first second rest zero = refl
pairs_turns first second rest (suc k) =
    let e : length (plain_of first k) ≡ length (plain_of second k) = records_length first k ∙ sym (records_length second k) in
    rw (
      append_assoc (turns first second k),
      pairs_turns first second (first_byte first k ∷ second_byte first k ∷ first_byte second k ∷ second_byte second k ∷ rest) k,
      turns_append (plain_of first k) (plain_of second k) (record_of first k ∷ []) (record_of second k ∷ []) e,
      append_assoc (in_turns (plain_of first k) (plain_of second k)),
    )
    (ap (λ (l : List Rec). in_turns (plain_of first k) (plain_of second k) ++ l) (two _ _ _ ∙ ap (λ (m : List Rec). record_of first k ∷ m) (two _ _ rest)))

-- ---- a file has no record of another file's threads

module _ (f : ℕ) (file : List ℕ) where
  own_so_far : (k : ℕ) → foreign f file (suc k) ≡ 0 → (first_byte file k / 16 / 2 ≡ f) × (foreign f file k ≡ 0)
  unfolding foreign ite
  own_so_far k = by (eqb (first_byte file k / 16 / 2) f) refl
    where
      by : (t : Bool) → eqb (first_byte file k / 16 / 2) f ≡ t → ite t (foreign f file k) 17 ≡ 0 → (first_byte file k / 16 / 2 ≡ f) × (foreign f file k ≡ 0)
      by true e z = (eqb-true _ _ e, z)
      by false e z = absurd (omega arith)

  pub none_of : (t : ℕ) → (t / 2 ≡ f → ⊥) → (k : ℕ) → foreign f file k ≡ 0 → kept (is_of t) (plain_of file k) ≡ []
  unfolding plain_of kept ite
  none_of t i zero z = refl
  none_of t i (suc k) z =
      let o = own_so_far k z in
      let off : eqb (first_byte file k / 16) t ≡ false = ne_eqb (first_byte file k / 16) t (λ e. i (rw e at o.0)) in
      kept_append (is_of t) (plain_of file k) (record_of file k ∷ []) ∙ rw (none_of t i k o.1, off)
