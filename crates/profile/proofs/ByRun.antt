-- A profile run by Run's own loop: carry out the records before the first barred one; if none of those is refused and there is a barred one, the refusal is 24.
use Prim.Native.Nat.{ℕ, zero, suc, ◌/◌, ◌<◌, ◌≤◌}
use mathlib.Core.Path.{◌≡◌, refl, sym, ◌∙◌, ap}
use mathlib.Core.Logic.{◌≢◌}
use mathlib.Core.Bool.{true, false}
use mathlib.Core.List.{List}
use native.Mathlib.Omega.{arith}
use lib.Dec.{ltb}
use borrow.Author.Tests.{eq-eqb, ne_eqb, ltb-true, ltb-false}
use Rattle.container.specs.Choice.{ite}
use Rattle.definitions.specs.Bench.{Bench}
use Rattle.definitions.specs.Records.{refused}
use Rattle.definitions.specs.Schedule.{Rec, record_at}
use Rattle.definitions.specs.Run.{Progress, advance_by, advance, after}
use Rattle.definitions.specs.Profile.{barred, profile_step, profile_advance, profile_after}
use Rattle.answers.proofs.Tools.{on, off, test, ◌==?◌}
use Rattle.profile.specs.Cut.{stopped_run, Cut, cut_run}

-- ---- one record

pub on_step : (file : List ℕ) (p : Progress) (r : Rec) → p.refusal ≡ 0 → profile_advance file p r ≡ advance_by file p (r.first / 16) (profile_step p.bench r)
unfolding profile_advance ite
on_step file p r e = rw (eq-eqb p.refusal 0 e)

pub off_step : (file : List ℕ) (p : Progress) (r : Rec) → p.refusal ≢ 0 → profile_advance file p r ≡ p
unfolding profile_advance ite
off_step file p r h = rw (ne_eqb p.refusal 0 h)

pub stopped_at : (b : Bench) (r : Rec) → barred r ≡ true → profile_step b r ≡ refused 24
unfolding profile_step ite
stopped_at b r e = rw e

as_run : (file : List ℕ) (p : Progress) (r : Rec) → barred r ≡ false → profile_advance file p r ≡ advance file p r
unfolding profile_advance advance profile_step ite
as_run file p r e = rw e

module _ (file : List ℕ) where
  upto : (j : ℕ) → ((i : ℕ) → i < j → barred (record_at file i) ≡ false) → profile_after file j ≡ after file j
  unfolding profile_after after
  upto zero h = refl
  upto (suc j) h = ap (λ p. profile_advance file p (record_at file j)) (upto j (λ i l. h i (omega arith))) ∙ as_run file (after file j) (record_at file j) (h j (omega arith))

  -- a run that has ended stays
  stay : (k k' : ℕ) → k ≤ k' → (profile_after file k).refusal ≢ 0 → profile_after file k' ≡ profile_after file k
  unfolding profile_after
  stay k zero l h = ap (profile_after file) (none k l)
    where
      none : (k : ℕ) → k ≤ 0 → 0 ≡ k
      none k l = omega arith
  stay k (suc k') l h = go (stay k k')
    where
      go : (k ≤ k' → (profile_after file k).refusal ≢ 0 → profile_after file k' ≡ profile_after file k) → profile_after file (suc k') ≡ profile_after file k
      go ih = elim (k ==? suc k') [
        | yes e ↦ ap (profile_after file) (sym e)
        | no e ↦ ap (λ p. profile_advance file p (record_at file k')) (ih (omega arith) h) ∙ off_step file (profile_after file k) (record_at file k') h
      ]

  module _ (count j : ℕ) (c : Cut file count j) where
    at_cut : profile_after file j ≡ after file j
    at_cut = upto j c.free

    stops : (after file j).refusal ≡ 0 → j < count → profile_after file (suc j) ≡ stopped_run (after file j)
    unfolding profile_after
    stops e l = ap (λ p. profile_advance file p (record_at file j)) at_cut ∙ on_step file (after file j) (record_at file j) e
        ∙ ap (advance_by file (after file j) ((record_at file j).first / 16)) (stopped_at (after file j).bench (record_at file j) (c.bars l))

    pub profile_by_run : profile_after file count ≡ cut_run (ltb j count) (after file j)
    unfolding cut_run ite
    profile_by_run = elim (test (ltb j count)) [
      | on m ↦ elim ((after file j).refusal ==? 0) [
        | yes e ↦ rw (m, eq-eqb (after file j).refusal 0 e)
            (stay (suc j) count (ltb-true j count m) (λ z. ended (sym (ap (λ p. p.refusal) (stops e (ltb-true j count m))) ∙ z)) ∙ stops e (ltb-true j count m))
        | no e ↦ rw (m, ne_eqb (after file j).refusal 0 e) (stay j count c.low (λ z. e (sym (ap (λ p. p.refusal) at_cut) ∙ z)) ∙ at_cut)
      ]
      | off m ↦ rw m (ap (profile_after file) (all (ltb-false j count m) c.low) ∙ at_cut)
    ]
      where
        ended : ◌≡◌ {A = ℕ} 24 0 → ⊥
        ended e = omega arith

        all : count ≤ j → j ≤ count → count ≡ j
        all a b = omega arith
