-- What `may_ask` has looked at: the first bytes of a file's records. Where none asks for a query, the file does not; and a file of up to 259 bytes has up
-- to 64 records (`few_records`). Assumes nothing.
use mathlib.Core.Path.{◌≡◌, refl, subst}
use mathlib.Core.Bool.{Bool, true, false}
use mathlib.Core.List.{List}
use Prim.Native.Nat.{ℕ, ◌+◌, ◌*◌, ◌%◌, ◌≤◌, ◌<◌}
use native.Mathlib.Omega.{arith}
use native.Mathlib.Decide.{dec_lt}
use borrow.Author.Tests.{eqb-true}
use lib.Dec.{eqb}
use lib.ListN.{length, get_or, get_or-eq_default}
use Rattle.container.specs.Choice.{ite}
use Rattle.answers.specs.Reachable.{Unasked}
use Rattle.definitions.specs.Versions.{version}
use Rattle.definitions.specs.Schedule.{count_of, record_at}
use Rattle.schedule.specs.Proper.{Proper}

-- a record of four bytes starts at `from`, and those before it ask for no query
pub record Looked (file : List ℕ) (from : ℕ) : Type 0 where
  pub starts : from % 4 ≡ 3
  pub none : (j : ℕ) → 3 + 4 * j < from → get_or file (3 + 4 * j) 0 % 16 ≡ 6 → ⊥

pub looked_more : (file : List ℕ) (from : ℕ) → Looked file from → (get_or file from 0 % 16 ≡ 6 → ⊥) → Looked file (from + 4)
looked_more file from h o = record { starts = omega (arith, h.starts); none = at }
  where
    at : (j : ℕ) → 3 + 4 * j < from + 4 → get_or file (3 + 4 * j) 0 % 16 ≡ 6 → ⊥
    at j l z = elim (dec_lt (3 + 4 * j) from) [
      | yes i ↦ h.none j i z
      | no i ↦ let same : 3 + 4 * j ≡ from = omega (arith, h.starts) in o (subst (λ n. get_or file n 0 % 16 ≡ 6) same z)
    ]

-- past the end there is no record
pub looked_all : (file : List ℕ) (from : ℕ) → Looked file from → length file ≤ from → Unasked file
unfolding record_at ite
looked_all file from h l j = by (eqb (version file) 1) refl
  where
    none : get_or file (3 + 4 * j) 0 % 16 ≡ 6 → ⊥
    none z = elim (dec_lt (3 + 4 * j) from) [ yes i ↦ h.none j i z | no i ↦ let zero : get_or file (3 + 4 * j) 0 ≡ 0 = get_or-eq_default file 0 (omega arith) in omega arith ]

    by : (c : Bool) → eqb (version file) 1 ≡ c → get_or file (3 + ite c 2 4 * j) 0 % 16 ≡ 6 → version file ≡ 1
    by true e z = eqb-true (version file) 1 e
    by false e z = absurd (none z)

-- a short file from version 2 on has at most 64 records
pub few_records : (file : List ℕ) → Proper file → (version file ≡ 1 → ⊥) → length file ≤ 259 → count_of file ≤ 64
unfolding ite
few_records file h n l = by (eqb (version file) 1) refl h.whole
  where
    by : (c : Bool) → eqb (version file) 1 ≡ c → length file ≡ 3 + ite c 2 4 * count_of file → count_of file ≤ 64
    by true e w = absurd (n (eqb-true (version file) 1 e))
    by false e w = omega arith
