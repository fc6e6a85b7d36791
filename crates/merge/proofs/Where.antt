-- Where the part lies that Merge hands back: it goes to the end of its file, so its length tells. Assumes nothing.
use mathlib.Core.Path.{◌≡◌, sym, ◌∙◌}
use mathlib.Core.List.{List}
use Prim.Native.Nat.{ℕ, ◌+◌, ◌-◌, ◌*◌, ◌≤◌, ◌<◌}
use native.Mathlib.Omega.{arith}
use borrow.Author.Tests.{eq-eqb, ne_eqb, lt-ltb, le-ltb}
use lib.ListN.{length}
use Rattle.container.specs.Choice.{ite}
use Rattle.definitions.specs.Schedule.{count_of}
use Rattle.definitions.specs.Merge.{smaller, total, merge_report, left_over}
use Rattle.merge.specs.Accepted.{Accepted}
use Rattle.merge.specs.Merging.{Merging}
use Rattle.merge.proofs.Refusals.{accepted}
use Rattle.merge.proofs.Merged.{completes}

module _ (first second out : List ℕ) {refusal : ℕ} {written part : List ℕ} (h : Merging first second out refusal written part) where
  pub report_refused : (refusal ≡ 0 → ⊥) → record { refusal = refusal; file = 0; start = 0; length = 0 } ≡ merge_report first second (length out)
  unfolding merge_report ite
  report_refused i = rw (← h.refused, ne_eqb _ _ i)

  module _ (z : refusal ≡ 0) where
    report_left : merge_report first second (length out) ≡ left_over first second
    unfolding merge_report ite
    report_left = rw (← h.refused, eq-eqb _ _ z)

    known : Accepted first second (length out)
    known = accepted first second (length out) (sym h.refused ∙ z)

    size : length part + 4 * smaller first second ≡ 2 * total first second
    size = rw (h.rest, report_left) (completes first second known).size

    -- the second file is the longer one
    module _ (l : length first < length second) where
      start_second : length second - length part ≡ 3 + 2 * count_of first
      start_second = omega (arith, size, known.one.whole, known.other.whole)

      pub fits_second : length part ≤ length second
      fits_second = omega (arith, size, known.one.whole, known.other.whole)

      pub report_second : record { refusal = 0; file = 1; start = length second - length part; length = length part } ≡ merge_report first second (length out)
      unfolding ite
      report_second =
          let less : count_of first < count_of second = omega (arith, known.one.whole, known.other.whole) in
          let n : length part ≡ 2 * (count_of second - count_of first) = omega (arith, size) in
          rw (report_left, lt-ltb _ _ less, start_second, n)

    -- the first is, or they are as long
    module _ (l : length second ≤ length first) where
      start_first : length first - length part ≡ 3 + 2 * count_of second
      start_first = omega (arith, size, known.one.whole, known.other.whole)

      pub fits_first : length part ≤ length first
      fits_first = omega (arith, size, known.one.whole, known.other.whole)

      pub report_first : record { refusal = 0; file = 0; start = length first - length part; length = length part } ≡ merge_report first second (length out)
      unfolding ite
      report_first =
          let less : count_of second ≤ count_of first = omega (arith, known.one.whole, known.other.whole) in
          let n : length part ≡ 2 * (count_of first - count_of second) = omega (arith, size) in
          rw (report_left, le-ltb _ _ less, start_first, n)
