-- The tally of many files, begun empty, is the sum of the single tallies of those not refused with 19 (`season_rule`); and where none is,
-- any other order of the files refuses none and gives the same tally (`order_rule`). Assumes nothing.
use mathlib.Core.Path.{◌≡◌, refl, sym, ap, ◌∙◌}
use mathlib.Core.Bool.{Bool, true, false, ◌&&◌}
use mathlib.Core.List.{List, [], ◌∷◌}
use Prim.Native.Nat.{ℕ, zero, suc, ◌^◌}
use native.Mathlib.Omega.{arith}
use borrow.Author.Tests.{ltb-true, lt-ltb}
use lib.Dec.{eqb, ltb}
use Rattle.container.specs.Choice.{ite}
use Rattle.season.specs.Tally.{Tally, empty, sum, within, fits, added, add_refusal, laid, tally_numbers}
use Rattle.season.specs.Season.{Lent, single, refusal_at, season, kept, total, blank, SeasonRule, NoneRefused, Reordered, same, keep, swap, then, OrderRule}
use Rattle.season.proofs.Sums.{sum_at, join_least, sum_assoc, sum_none, none_sum, sum_swap}
use Rattle.tally.proofs.Laid.{tally_back, report_back}

pub both : (a b : Bool) → (a && b) ≡ true → (a ≡ true) × (b ≡ true)
both true true e = (refl, refl)
both true false e = (refl, e)
both false b e = (e, absurd (let z : ◌≡◌ {A = ℕ} 0 1 = cc in omega arith))

two : (a b : Bool) → a ≡ true → b ≡ true → (a && b) ≡ true
two a b p q = rw (p, q)

-- ---- one file, by whether it fits

module _ (t one : Tally) where
  added_in : fits (sum t one) ≡ true → added t one ≡ sum t one
  unfolding added ite
  added_in e = rw e

  added_not : fits (sum t one) ≡ false → added t one ≡ t
  unfolding added ite
  added_not e = rw e

  refusal_in : fits (sum t one) ≡ true → add_refusal t one ≡ 0
  unfolding add_refusal ite
  refusal_in e = rw e

  refusal_not : fits (sum t one) ≡ false → add_refusal t one ≡ 19
  unfolding add_refusal ite
  refusal_not e = rw e

  fits_when : add_refusal t one ≡ 0 → fits (sum t one) ≡ true
  unfolding add_refusal ite
  fits_when = by (fits (sum t one))
    where
      by : (c : Bool) → ◌≡◌ {A = ℕ} (ite c 0 19) 0 → c ≡ true
      by true e = refl
      by false e = absurd (omega arith)

-- ---- the sum of those not refused

-- from any tally that is lent
pub season_from : (t : Tally) (fs : List Lent) → season (laid t) fs ≡ laid (sum t (total (kept (laid t) fs)))
unfolding season kept total ite
season_from t [] = ap laid (sym (sum_none t))
season_from t (f ∷ fs) =
    ap (λ (l : List ℕ). season l fs) (tally_back f.file f.room t)
    ∙ (season_from (added t (single f)) fs ∙ by (fits (sum t (single f))) refl)
  where
    rest : List Lent
    rest = kept (tally_numbers f.file f.room (laid t)) fs

    rest_is : rest ≡ kept (laid (added t (single f))) fs
    rest_is = ap (λ (l : List ℕ). kept l fs) (tally_back f.file f.room t)

    by : (c : Bool) → fits (sum t (single f)) ≡ c
        → laid (sum (added t (single f)) (total (kept (laid (added t (single f))) fs))) ≡ laid (sum t (total (ite (eqb (refusal_at (laid t) f) 0) (f ∷ rest) rest)))
    by true e =
        ap laid
        (ap (λ (u : Tally). sum u (total (kept (laid (added t (single f))) fs))) (added_in t (single f) e)
        ∙ (sum_assoc t (single f) (total (kept (laid (added t (single f))) fs))
        ∙ (ap (λ (gs : List Lent). sum t (sum (single f) (total gs))) (sym rest_is)
        ∙ ap (λ (n : ℕ). sum t (total (ite (eqb n 0) (f ∷ rest) rest))) (sym (report_back f.file f.room t ∙ refusal_in t (single f) e)))))
    by false e =
        ap laid
        (ap (λ (u : Tally). sum u (total (kept (laid (added t (single f))) fs))) (added_not t (single f) e)
        ∙ (ap (λ (gs : List Lent). sum t (total gs)) (sym rest_is)
        ∙ ap (λ (n : ℕ). sum t (total (ite (eqb n 0) (f ∷ rest) rest))) (sym (report_back f.file f.room t ∙ refusal_not t (single f) e))))

pub season_rule : SeasonRule
season_rule fs = season_from empty fs ∙ ap laid (none_sum (total (kept blank fs)))

-- ---- any order

-- what a sum keeps within 32 bits its first part keeps
within_part : (n : ℕ) (t u : Tally) → within n (sum t u) ≡ true → within n t ≡ true
unfolding within
within_part zero t u e = refl
within_part (suc n) t u e =
    let (a, b) = both (ltb (sum t u n) (2 ^ 32)) (within n (sum t u)) e in
    two _ _ (lt-ltb (t n) (2 ^ 32) (omega (arith, ltb-true (sum t u n) (2 ^ 32) a, sum_at t u n, join_least n (t n) (u n)))) (within_part n t u b)

-- what fits as a whole fits file by file
none_refused : (t : Tally) (fs : List Lent) → fits (sum t (total fs)) ≡ true → NoneRefused (laid t) fs × (season (laid t) fs ≡ laid (sum t (total fs)))
unfolding total season
none_refused t [] e = (tt, ap laid (sym (sum_none t)))
none_refused t (f ∷ fs) e =
    let e' : fits (sum (sum t (single f)) (total fs)) ≡ true = rw (sum_assoc t (single f) (total fs)) e in
    let h : fits (sum t (single f)) ≡ true = within_part 65 (sum t (single f)) (total fs) e' in
    let (n, q) = none_refused (sum t (single f)) fs e' in
    rw (tally_back f.file f.room t, added_in t (single f) h) ((report_back f.file f.room t ∙ refusal_in t (single f) h, n), q ∙ ap laid (sum_assoc t (single f) (total fs)))

-- and the other way round
all_fit : (t : Tally) (fs : List Lent) → fits t ≡ true → NoneRefused (laid t) fs → fits (sum t (total fs)) ≡ true
unfolding total
all_fit t [] e n = rw (sum_none t) e
all_fit t (f ∷ fs) e (o, n) =
    let h = fits_when t (single f) (sym (report_back f.file f.room t) ∙ o) in
    rw (← sum_assoc t (single f) (total fs)) (all_fit (sum t (single f)) fs h (rw (tally_back f.file f.room t, added_in t (single f) h) at n))

total_reordered : {fs gs : List Lent} → Reordered fs gs → total fs ≡ total gs
unfolding total
total_reordered same = refl
total_reordered (keep {f} r) = ap (sum (single f)) (total_reordered r)
total_reordered (swap {f} {g} {fs}) = sum_swap (single f) (single g) (total fs)
total_reordered (then r q) = total_reordered r ∙ total_reordered q

fits_empty : fits empty ≡ true
unfolding within
fits_empty = refl

pub order_rule : OrderRule
order_rule fs gs r n =
    let e = all_fit empty fs fits_empty n in
    let t = total_reordered r in
    let (_, p) = none_refused empty fs e in
    let (m, q) = none_refused empty gs (rw t at e) in
    (m, p ∙ (ap (λ (u : Tally). laid (sum empty u)) t ∙ sym q))
