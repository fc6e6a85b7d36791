-- Run over the first k records of a file, as a file of their own, is where Run stands after k records of the whole one. Assumes nothing.
use mathlib.Core.Path.{◌≡◌, refl, ap, ◌∙◌}
use mathlib.Core.Bool.{Bool, true, false}
use mathlib.Core.List.{List}
use Prim.Native.Nat.{ℕ, zero, suc, ◌*◌, ◌≤◌}
use native.Mathlib.Omega.{arith}
use borrow.Author.Tests.{eq-eqb, ne_eqb, le-ltb}
use lib.Dec.{eqb, ltb}
use lib.ListN.{length}
use Rattle.container.specs.Choice.{ite}
use Rattle.definitions.specs.Versions.{version, row_room}
use Rattle.definitions.specs.Schedule.{count_of, file_refusal}
use Rattle.definitions.specs.Run.{after, report_of, overlay, run_refusal, run_report, run_buffer}
use Rattle.definitions.specs.declared.Report.{Report}
use Rattle.writer.specs.Part.{part}
use Rattle.writer.proofs.First.{head, count, part_fine, same}

pub file_fine : (file : List ℕ) (n : ℕ) → run_refusal file n ≡ 0 → file_refusal file ≡ 0
unfolding run_refusal ite
file_fine file n = by (file_refusal file) (ite (ltb n (row_room file (count_of file))) 5 0)
  where
    by : (f m : ℕ) → ite (eqb f 0) m f ≡ 0 → f ≡ 0
    by zero m z = refl
    by (suc f) m z = rw (ne_eqb (suc f) 0 (λ e. omega arith)) at z

module _ (file : List ℕ) (n k : ℕ) (z : run_refusal file n ≡ 0) (r : row_room file (count_of file) ≤ n) (l : k ≤ count_of file) where
  fine : file_refusal file ≡ 0
  fine = file_fine file n z

  room : row_room file k ≤ n
  unfolding ite
  room = by (eqb (version file) 1) r
    where
      by : (v : Bool) → ite v 2 7 * count_of file ≤ n → ite v 2 7 * k ≤ n
      by true e = omega arith
      by false e = omega arith

  -- the part, as any list of its version and count
  accepted : (p : List ℕ) → file_refusal p ≡ 0 → version p ≡ version file → count_of p ≡ k → run_refusal p n ≡ 0
  unfolding run_refusal ite
  accepted p s h c = rw (s, h, c, le-ltb n (row_room file k) room)

  fits : run_refusal (part file k) n ≡ 0
  fits = accepted (part file k) (part_fine file k fine l) (head file k fine l) (count file k fine l)

  reports : (p : List ℕ) → run_refusal p n ≡ 0 → count_of p ≡ k → after p k ≡ after file k → run_report p n ≡ report_of (after file k)
  unfolding run_report ite
  reports p e c a = rw (eq-eqb (run_refusal p n) 0 e, c, a)

  buffers : (p rows : List ℕ) → run_refusal p (length rows) ≡ 0 → count_of p ≡ k → after p k ≡ after file k → run_buffer p rows ≡ overlay (after file k).rows rows
  unfolding run_buffer ite
  buffers p rows e c a = rw (eq-eqb (run_refusal p (length rows)) 0 e, c, a)

  -- p is the part
  pub part_report : (p : List ℕ) {r : Report} → p ≡ part file k → r ≡ run_report p n → r ≡ report_of (after file k)
  part_report p e q = q ∙ (ap (λ i. run_report i n) e ∙ reports (part file k) fits (count file k fine l) (same file k fine l))

  pub part_buffer : (p rows : List ℕ) {w : List ℕ} → length rows ≡ n → p ≡ part file k → w ≡ run_buffer p rows → w ≡ overlay (after file k).rows rows
  part_buffer p rows i e q =
      q ∙ (ap (λ x. run_buffer x rows) e
      ∙ buffers (part file k) rows (ap (run_refusal (part file k)) i ∙ fits) (count file k fine l) (same file k fine l))
