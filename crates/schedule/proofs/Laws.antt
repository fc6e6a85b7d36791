-- The cases of a file's refusal and of a record, each with the code's own facts as premises. Assumes nothing.
use mathlib.Core.Path.{◌≡◌, refl, sym, ap, ◌∙◌}
use mathlib.Core.Bool.{Bool, true, false, ◌||◌}
use mathlib.Core.List.{List}
use mathlib.Core.Logic.{◌⊎◌}
use Rattle.std.proofs.Common.{add-zero}
use Prim.Native.Nat.{ℕ, suc, ◌+◌, ◌*◌, ◌≤◌, ◌<◌}
use native.Mathlib.Decide.{ℕ_discrete}
use native.Mathlib.Omega.{arith}
use borrow.Author.Tests.{eq-eqb, ne_eqb, lt-ltb, le-ltb, eqb-true, ltb-false}
use lib.Dec.{eqb, ltb}
use lib.ListN.{length, get_or}
use Rattle.std.specs.Prelude.{Result, Ok, Err, OnOk, Option, Some, None}
use Rattle.container.specs.Choice.{ite}
use Rattle.definitions.specs.declared.Refusal.{Refusal}
use Rattle.definitions.specs.Refusal.{code_of}
use Rattle.definitions.specs.Versions.{known}
use Rattle.definitions.specs.Schedule.{version, width, count_of, record_at, file_refusal}
use Rattle.definitions.specs.Merge.{fault}
use Rattle.schedule.specs.Proper.{Proper, Plain}
use Rattle.std.specs.List.{slice_range}
use Rattle.std.proofs.lemmas.List.{get_or-drop, get_or-take}
use Rattle.schedule.specs.declared.Reader.{Reader}
use Rattle.schedule.specs.Reader.{Taken, Reads, next_of, ended, two_from, four_from, taken_from}
use Rattle.schedule.specs.declared.Record.{Record}

-- ---- the length of a file, and its version
pub length_one : (v n : ℕ) → v ≡ 1 → 3 + 2 * n ≡ 3 + ite (eqb v 1) 2 4 * n
unfolding ite
length_one v n e = rw (eq-eqb _ _ e)

pub length_two : (v n : ℕ) → (v ≡ 1 → ⊥) → 3 + 4 * n ≡ 3 + ite (eqb v 1) 2 4 * n
unfolding ite
length_two v n e = rw (ne_eqb _ _ e)

pub ruleset length_cases = (length_one, length_two)

pub is_one : (v : ℕ) → v ≡ 1 → true ≡ (eqb v 1 || (eqb v 2 || eqb v 3))
is_one v e = rw (eq-eqb _ _ e)

pub is_two : (v : ℕ) → v ≡ 2 → true ≡ (eqb v 1 || (eqb v 2 || eqb v 3))
is_two v e = rw e

pub is_three : (v : ℕ) → v ≡ 3 → true ≡ (eqb v 1 || (eqb v 2 || eqb v 3))
is_three v e = rw e

pub is_none : (v : ℕ) → (v ≡ 1 → ⊥) → (v ≡ 2 → ⊥) → (v ≡ 3 → ⊥) → false ≡ (eqb v 1 || (eqb v 2 || eqb v 3))
is_none v e f g = rw (ne_eqb _ _ e, ne_eqb _ _ f, ne_eqb _ _ g)

pub ruleset known_cases = (is_one, is_two, is_three, is_none)

-- ---- the refusals; w is the length that the file should have
module _ (file : List ℕ) where
  pub short : length file < 3 → 1 ≡ file_refusal file
  unfolding file_refusal ite
  short h = simp (lt-ltb _ _ h)

  module _ {b : Bool} (h : 3 ≤ length file) (i : b ≡ known file) where
    pub other : b ≡ false → 2 ≡ file_refusal file
    unfolding file_refusal ite
    other j = rw (le-ltb _ _ h, sym i ∙ j)

    module _ {n : ℕ} (j : b ≡ true) (c : n ≡ count_of file) where
      pub many : 4096 < n → 3 ≡ file_refusal file
      unfolding file_refusal ite
      many l = rw (le-ltb _ _ h, sym i ∙ j, ← c, lt-ltb _ _ l)

      pub uneven : {w : ℕ} → n ≤ 4096 → w ≡ 3 + ite (eqb (version file) 1) 2 4 * n → (length file ≡ w → ⊥) → 4 ≡ file_refusal file
      unfolding file_refusal ite
      uneven l e m = rw (le-ltb _ _ h, sym i ∙ j, ← c, le-ltb _ _ l, ne_eqb (length file) (3 + ite (eqb (version file) 1) 2 4 * n) (λ q. m (q ∙ sym e)))

      pub right : {w : ℕ} → n ≤ 4096 → w ≡ 3 + ite (eqb (version file) 1) 2 4 * n → length file ≡ w → 0 ≡ file_refusal file
      unfolding file_refusal ite
      right l e m = rw (le-ltb _ _ h, sym i ∙ j, ← c, le-ltb _ _ l, eq-eqb (length file) (3 + ite (eqb (version file) 1) 2 4 * n) (m ∙ e))

      pub right_proper : {w : ℕ} → n ≤ 4096 → w ≡ 3 + ite (eqb (version file) 1) 2 4 * n → length file ≡ w → Proper file
      right_proper l e m = record { header = h; few = omega arith; whole = rw (← c) (m ∙ e) }

  -- a file of version 1
  pub right_one : 3 ≤ length file → version file ≡ 1 → count_of file ≤ 4096 → length file ≡ 3 + 2 * count_of file → 0 ≡ file_refusal file
  unfolding file_refusal ite
  right_one h k l m = simp (le-ltb _ _ h, eq-eqb _ _ k, le-ltb _ _ l, eq-eqb _ _ m)

-- a file that is not refused
pub proper : (file : List ℕ) → file_refusal file ≡ 0 → Proper file
unfolding file_refusal ite
proper file =
    by (ltb (length file) 3) (eqb (version file) 1 || (eqb (version file) 2 || eqb (version file) 3)) (ltb 4096 (count_of file)) (eqb (length file) (3 + width file * count_of file)) refl refl refl
  where
    by : (a b c d : Bool) → ltb (length file) 3 ≡ a → ltb 4096 (count_of file) ≡ c → eqb (length file) (3 + width file * count_of file) ≡ d
        → ◌≡◌ {A = ℕ} (ite a 1 (ite b (ite c 3 (ite d 0 4)) 2)) 0 → Proper file
    by true b c d e f g z = absurd (omega arith)
    by false false c d e f g z = absurd (omega arith)
    by false true true d e f g z = absurd (omega arith)
    by false true false false e f g z = absurd (omega arith)
    by false true false true e f g z = record { header = ltb-false _ _ e; few = ltb-false _ _ f; whole = eqb-true _ _ g }

-- ---- the fault of a file that has to be of version 1

module _ (file : List ℕ) where
  pub fault_short : length file < 3 → 1 ≡ fault file
  unfolding fault ite
  fault_short h = rw (lt-ltb _ _ h)

  pub fault_version : 3 ≤ length file → (get_or file 0 0 ≡ 1 → ⊥) → 2 ≡ fault file
  unfolding fault ite
  fault_version h i = rw (le-ltb _ _ h, ne_eqb _ _ i)

  pub fault_file : {r : ℕ} → 3 ≤ length file → get_or file 0 0 ≡ 1 → r ≡ file_refusal file → r ≡ fault file
  unfolding fault ite
  fault_file h e f = rw (le-ltb _ _ h, eq-eqb _ _ e) f

  pub plain : fault file ≡ 0 → Plain file
  unfolding fault ite
  plain = by (ltb (length file) 3) (eqb (get_or file 0 0) 1) refl
    where
      by : (s t : Bool) → eqb (get_or file 0 0) 1 ≡ t → ◌≡◌ {A = ℕ} (ite s 1 (ite t (file_refusal file) 2)) 0 → Plain file
      by true t e z = absurd (omega arith)
      by false false e z = absurd (omega arith)
      by false true e z = let p = proper file z in record { version = eqb-true _ _ e; few = p.few; whole = rw e at p.whole }

pub plain_ok : {A : Type 0} (file : List ℕ) (r : Result A Refusal) → code_of r ≡ fault file → OnOk r (Plain file)
plain_ok file (Ok a) e = plain file (sym e)
plain_ok file (Err k) e = tt

pub ruleset fault_cases = (fault_short, fault_version, fault_file, plain_ok)

-- ---- the record at a position of a file of version v
module _ (file : List ℕ) (at : ℕ) where
  two_there : at + 1 < length file → two_from file at ≡ record { found = Some (record { first = get_or file at 0; second = get_or file (at + 1) 0; extra = 0 }); at = at + 2 }
  unfolding two_from ite
  two_there h = rw (lt-ltb _ _ h)

  two_gone : length file ≤ at + 1 → two_from file at ≡ ended at
  unfolding two_from ite
  two_gone h = rw (le-ltb _ _ h)

  four_there : at + 3 < length file → four_from file at ≡ record {
    found = Some (record { first = get_or file at 0; second = get_or file (at + 1) 0; extra = get_or file (at + 2) 0 * 256 + get_or file (at + 3) 0 });
    at = at + 4;
  }
  unfolding four_from ite
  four_there h = rw (lt-ltb _ _ h)

  four_gone : length file ≤ at + 3 → four_from file at ≡ ended at
  unfolding four_from ite
  four_gone h = rw (le-ltb _ _ h)

  module _ (v : ℕ) where
    by_one : v ≡ 1 → taken_from v file at ≡ two_from file at
    unfolding taken_from ite
    by_one e = rw (eq-eqb _ _ e)

    by_two : (v ≡ 1 → ⊥) → taken_from v file at ≡ four_from file at
    unfolding taken_from ite
    by_two e = rw (ne_eqb _ _ e)

-- a call of `next`, where `rest` is what the reader has left
module _ (r : Reader) {rest : List ℕ} (h : (r.at ≤ length r.schedule.now) × (length r.schedule.now ≤ length r.schedule.now)
    × (rest ≡ slice_range r.schedule.now r.at (length r.schedule.now)) × (length rest + r.at ≡ length r.schedule.now)) where
  byte_of : (i : ℕ) → i < length rest → get_or rest i 0 ≡ get_or r.schedule.now (r.at + i) 0
  byte_of i l = rw h.2 (get_or-take _ _ i 0 (omega arith) ∙ get_or-drop r.at r.schedule.now i 0)

  first_of : 0 < length rest → get_or rest 0 0 ≡ get_or r.schedule.now r.at 0
  first_of l = byte_of 0 l ∙ rw add-zero

  pub reads_two : r.version ≡ 1 → 2 ≤ length rest
      → Reads r (Some (record { first = get_or rest 0 0; second = get_or rest 1 0; extra = 0 })) (record { schedule = r.schedule; version = r.version; at = r.at + 2 })
  reads_two v l =
      let e : next_of r ≡ _ = by_one r.schedule.now r.at r.version v ∙ two_there r.schedule.now r.at (omega arith) in
      record { given = rw (e, first_of (omega arith), byte_of 1 (omega arith)); position = rw e; file = refl; version = refl }

  pub reads_four : {x : ℕ} → (r.version ≡ 1 → ⊥) → 4 ≤ length rest → x ≡ get_or rest 2 0 * 256 + get_or rest 3 0
      → Reads r (Some (record { first = get_or rest 0 0; second = get_or rest 1 0; extra = x })) (record { schedule = r.schedule; version = r.version; at = r.at + 4 })
  reads_four v l f =
      let e : next_of r ≡ _ = by_two r.schedule.now r.at r.version v ∙ four_there r.schedule.now r.at (omega arith) in
      record { given = rw (e, f, first_of (omega arith), byte_of 1 (omega arith), byte_of 2 (omega arith), byte_of 3 (omega arith)); position = rw e; file = refl; version = refl }

  pub reads_less : (length rest < 2) ⊎ ((r.version ≡ 1 → ⊥) × (length rest < 4)) → Reads r None r
  reads_less l = elim (ℕ_discrete r.version 1) [
    | yes v ↦ (let e : next_of r ≡ _ = by_one r.schedule.now r.at r.version v ∙ two_gone r.schedule.now r.at (omega arith) in record { given = rw e; position = rw e; file = refl; version = refl })
    | no v ↦ (let e : next_of r ≡ _ = by_two r.schedule.now r.at r.version v ∙ four_gone r.schedule.now r.at (omega arith) in record { given = rw e; position = rw e; file = refl; version = refl })
  ]

-- where the position lies past the end
pub reads_none : (r : Reader) {found : Option Record} → (length r.schedule.now < r.at) ⊎ (length r.schedule.now < length r.schedule.now) → found ≡ None → Reads r found r
reads_none r l f = elim (ℕ_discrete r.version 1) [
  | yes v ↦ (let e : next_of r ≡ _ = by_one r.schedule.now r.at r.version v ∙ two_gone r.schedule.now r.at (omega arith) in record { given = rw (e, f); position = rw e; file = refl; version = refl })
  | no v ↦ (let e : next_of r ≡ _ = by_two r.schedule.now r.at r.version v ∙ four_gone r.schedule.now r.at (omega arith) in record { given = rw (e, f); position = rw e; file = refl; version = refl })
]

-- ---- record k, which the file holds
abbrev record_taken : List ℕ → ℕ → Taken
record_taken file k = record { found = Some (record { first = (record_at file k).first; second = (record_at file k).second; extra = (record_at file k).extra }); at = 3 + width file * suc k }

pub read_in : (file : List ℕ) (k : ℕ) → 3 + width file * suc k ≤ length file → taken_from (version file) file (3 + width file * k) ≡ record_taken file k
unfolding record_at ite
read_in file k h = elim (ℕ_discrete (version file) 1) [
  | yes e ↦ (let z : eqb (version file) 1 ≡ true = eq-eqb _ _ e in by_one file (3 + width file * k) (version file) e ∙ rw z (one (rw z at h)))
  | no e ↦ (let z : eqb (version file) 1 ≡ false = ne_eqb _ _ e in by_two file (3 + width file * k) (version file) e ∙ rw z (two (rw z at h)))
]
  where
    one : 3 + 2 * suc k ≤ length file
        → two_from file (3 + 2 * k) ≡ record { found = Some (record { first = get_or file (3 + 2 * k) 0; second = get_or file (4 + 2 * k) 0; extra = 0 }); at = 3 + 2 * suc k }
    one l =
        let e : 3 + 2 * k + 1 ≡ 4 + 2 * k = omega arith in
        let n : 3 + 2 * k + 2 ≡ 3 + 2 * suc k = omega arith in
        two_there file (3 + 2 * k) (omega arith) ∙ rw (e, n)

    two : 3 + 4 * suc k ≤ length file
        → four_from file (3 + 4 * k) ≡ record {
          found = Some (record { first = get_or file (3 + 4 * k) 0; second = get_or file (4 + 4 * k) 0; extra = get_or file (5 + 4 * k) 0 * 256 + get_or file (6 + 4 * k) 0 });
          at = 3 + 4 * suc k;
        }
    two l =
        let e : 3 + 4 * k + 1 ≡ 4 + 4 * k = omega arith in
        let f : 3 + 4 * k + 2 ≡ 5 + 4 * k = omega arith in
        let g : 3 + 4 * k + 3 ≡ 6 + 4 * k = omega arith in
        let n : 3 + 4 * k + 4 ≡ 3 + 4 * suc k = omega arith in
        four_there file (3 + 4 * k) (omega arith) ∙ rw (e, f, g, n)

-- its bytes, and the position after it; it is not the end
module _ (file : List ℕ) (k : ℕ) {t : Taken} (h : 3 + width file * suc k ≤ length file) (e : t ≡ taken_from (version file) file (3 + width file * k)) where
  pub read_next : t.at ≡ 3 + width file * suc k
  read_next = ap (λ (u : Taken). u.at) (e ∙ read_in file k h)

  is_it : t.found ≡ (record_taken file k).found
  is_it = ap (λ (u : Taken). u.found) (e ∙ read_in file k h)

  pub read_of : {r : Record} → t.found ≡ Some r → (r.first ≡ (record_at file k).first) × ((r.second ≡ (record_at file k).second) × (r.extra ≡ (record_at file k).extra))
  read_of {r} f =
      let same : Some r ≡ (record_taken file k).found = sym f ∙ is_it in
      (cc, (cc, cc))

  pub no_end : t.found ≡ None → ⊥
  no_end f =
      let same : (record_taken file k).found ≡ None = sym is_it ∙ f in cc
