-- One file added to a tally: what the code's parts come to, where the counts are added as they come and where they are added at the end.
-- Assumes nothing.
use mathlib.Core.Path.{◌≡◌, refl, sym, ap, ◌∙◌, fun_ext}
use mathlib.Core.Bool.{true, false}
use mathlib.Core.List.{List}
use Prim.Native.Nat.{ℕ, zero, suc, ◌+◌, ◌≤◌, ◌<◌}
use native.Mathlib.Omega.{arith}
use lib.ListN.{length, get_or, replicate}
use Rattle.container.specs.Choice.{ite}
use Rattle.definitions.specs.Run.{run_report}
use Rattle.definitions.specs.declared.Report.{Report}
use Rattle.season.specs.Tally.{Tally, join, sum, refused_once, records_tally, file_tally, fits, added, add_refusal, numbers, tally_report, tally_numbers}
use Rattle.run.specs.Tallying.{Room}
use Rattle.season.proofs.Sums.{sum_at, join_zero, sum_assoc, sum_comm, none_sum}
use Rattle.tally.proofs.Laid.{laid_list}
use Rattle.tally.proofs.Refusals.{refusals_rule}
use Rattle.tally.proofs.Unused.{past, records_zero}
use Rattle.tally.proofs.Cases.{within_all}

-- ---- all that a file adds, where every number is low

pub room_low : (l : List ℕ) → ((i : ℕ) → get_or l i 0 < 2147483648) → Room l 33554432
room_low l low = record { at = λ i h. omega (arith, low i) }

module _ (file : List ℕ) (n : ℕ) (l k : List ℕ) (p : Report) (ep : p ≡ run_report file n) (e : numbers k ≡ sum (numbers l) (records_tally file n)) where
  refusal_is : p.refusal ≡ (run_report file n).refusal
  refusal_is = ap (λ (r : Report). r.refusal) ep

  -- the records add nothing to the refusals
  at_refusal : (i : ℕ) → 48 ≤ i → get_or k i 0 ≡ get_or l i 0
  at_refusal i h =
      ap (λ (t : Tally). t i) e
      ∙ (sum_at (numbers l) (records_tally file n) i ∙ (ap (join i (get_or l i 0)) (records_zero i (past i (omega arith)) file n) ∙ join_zero i (get_or l i 0)))

  pub refusal_fits : ((i : ℕ) → get_or l i 0 < 2147483648) → (p.refusal < 17) × ((p.refusal ≡ 0 → ⊥) → get_or k (48 + p.refusal) 0 < 4294967295)
  refusal_fits low = (
    omega (arith, refusal_is, (refusals_rule file n).0),
    λ _. omega (arith, at_refusal (48 + p.refusal) (omega arith), low (48 + p.refusal)),
  )

  pub file_added : (m : List ℕ) → numbers m ≡ sum (numbers k) (refused_once p.refusal) → numbers m ≡ sum (numbers l) (file_tally file n)
  unfolding file_tally
  file_added m f =
      f
      ∙ (ap (λ (t : Tally). sum t (refused_once p.refusal)) e
      ∙ (sum_assoc (numbers l) (records_tally file n) (refused_once p.refusal)
      ∙ ap (sum (numbers l)) (sum_comm (records_tally file n) (refused_once p.refusal) ∙ ap (λ (k : ℕ). sum (refused_once k) (records_tally file n)) refusal_is)))

-- ---- the answer
module _ (file : List ℕ) (n : ℕ) (l : List ℕ) (p : Report) (ep : p ≡ run_report file n) where
  abbrev whole : Tally
  whole = sum (numbers l) (file_tally file n)

  pub fits_report : fits (sum (numbers l) (file_tally file n)) ≡ true → record { report = p; refusal = 0 } ≡ tally_report file n l
  unfolding tally_report add_refusal ite
  fits_report e = rw (e, ep)

  pub past_report : fits (sum (numbers l) (file_tally file n)) ≡ false → record { report = p; refusal = 19 } ≡ tally_report file n l
  unfolding tally_report add_refusal ite
  past_report e = rw (e, ep)

  pub fits_numbers : (m : List ℕ) → length m ≡ 65 → numbers m ≡ sum (numbers l) (file_tally file n) → fits (sum (numbers l) (file_tally file n)) ≡ true → m ≡ tally_numbers file n l
  unfolding tally_numbers added ite
  fits_numbers m h f e = rw e (laid_list m (sum (numbers l) (file_tally file n)) h (λ i _. ap (λ (t : Tally). t i) f))

  pub past_numbers : length l ≡ 65 → fits (sum (numbers l) (file_tally file n)) ≡ false → l ≡ tally_numbers file n l
  unfolding tally_numbers added ite
  past_numbers h e = rw e (laid_list l (numbers l) h (λ i _. refl))

  -- what lies in 32 bits fits
  pub words_fit : (m : List ℕ) → ((i : ℕ) → get_or m i 0 < 4294967296) → numbers m ≡ sum (numbers l) (file_tally file n) → fits (sum (numbers l) (file_tally file n)) ≡ true
  words_fit m w f = sym (rw (← f) (within_all 65 (numbers m) (λ i _. w i)))

-- ---- a tally of nothing
zeros : (n i : ℕ) → ◌≡◌ {A = ℕ} (get_or (replicate n 0) i 0) 0
zeros zero i = refl
zeros (suc n) zero = refl
zeros (suc n) (suc i) = zeros n i

pub none_low : (i : ℕ) → get_or (replicate 65 0) i 0 < 2147483648
none_low i = omega (arith, zeros 65 i)

pub none_numbers : (t : Tally) → sum (numbers (replicate 65 0)) t ≡ t
none_numbers t = ap (λ (u : Tally). sum u t) (fun_ext (zeros 65)) ∙ none_sum t
