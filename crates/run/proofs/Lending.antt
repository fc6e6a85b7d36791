-- The depths that a run is lent hold those of every node that it makes: a step's new nodes have the first numbers not used (`step_inside`), and a run
-- uses 65 numbers at most where its file has up to 64 records, else 256 (`enough`). Rests on Credit.antt, and on crate answers, by what a step at each
-- place writes (StepEffects.antt) and by the numbers that a run uses (UsedRun.antt).
use mathlib.Core.Path.{◌≡◌, refl, subst}
use mathlib.Core.Bool.{Bool, true, false, cond}
use mathlib.Core.List.{List}
use mathlib.Core.Logic.{◌⊎◌, inl, inr, ⊎_elim}
use Prim.Native.Nat.{ℕ, suc, ◌+◌, ◌≤◌}
use native.Mathlib.Omega.{arith}
use borrow.Author.Tests.{eqb-true, ltb-false}
use lib.Dec.{eqb, ltb}
use Rattle.container.specs.Choice.{ite}
use Rattle.depths.specs.Rows.{Holds}
use Rattle.effects.specs.Used.{used_after, within}
use Rattle.definitions.specs.Bench.{Store, sight_of}
use Rattle.definitions.specs.Threads.{Frame, Thread, Turn}
use Rattle.definitions.specs.Places.{Place, place_of}
use Rattle.definitions.specs.Steps.{step}
use Rattle.definitions.specs.Schedule.{count_of}
use Rattle.definitions.specs.Run.{after}
use Rattle.definitions.specs.declared.Effect.{Effect}
use Rattle.definitions.specs.declared.Effect.TheVariants.{Quiet, Raise, Lower}
use Rattle.answers.proofs.StepEffects.{Each, each}
use Rattle.answers.proofs.UsedRun.{reach_used}
use Rattle.steps.specs.declared.Notes.{Notes}
use Rattle.effects.specs.Writes.{effect_of}
use Rattle.steps.specs.declared.Decision.{Decision}
use Rattle.steps.specs.declared.Decision.TheVariants.{Goes, Answers, NodesOut, Back}
use Rattle.steps.specs.Decision.{thread, turn_of}
use Rattle.run.specs.Standing.{numbers_for}
use Rattle.run.proofs.Numbers.{back_moves}
use Rattle.run.proofs.Decided.{written, counted, tallied, Decided}
use Rattle.run.proofs.Credit.{reach_few}

-- ---- a step, where u numbers are used

-- what holds the depths of all nodes used after an effect holds those of its new nodes, and of those used before
abbrev pub Inside : ℕ → Effect → Type 0
Inside u e = (n : ℕ) → Holds n (used_after u e) → within e n × Holds n u

-- fewer nodes
less : (u v n : ℕ) → u ≤ v → Holds n v → Holds n u
less u v n i h = let l = h.1 in (h.0, omega arith)

quiet_inside : (u : ℕ) → Inside u Quiet
quiet_inside u n h = (tt, h)

pub step_inside : (s : Store) (p : Place) (th : Thread) → Each (Inside s.used) (step p (sight_of s) th)
step_inside s p th = each s p th (Inside s.used) (record {
  quiet = quiet_inside s.used;
  raise = λ n h. (tt, h);
  lower = λ n h. (tt, h);
  mark = λ r l n h. (tt, h);
  settle = λ m v n h. (tt, h);
  void = λ r n h. (tt, h);
  swing = λ v x n h. (tt, h);
  fill = λ k c n h. (tt, h);
  base = λ v k l c m i g n h. (h, less s.used _ n (omega arith) h);
  fork = λ v q e a g n h. (
    (less (s.used + 1) _ n (omega arith) h, (less (s.used + 1 + 1) _ n (omega arith) h, less (s.used + 2 + 1) _ n (omega arith) h)),
    less s.used _ n (omega arith) h,
  );
  commit = λ m l b a o g n h. (h, less s.used _ n (omega arith) h);
  ask_old = λ v l y a b k g n h. (h, less s.used _ n (omega arith) h);
  ask_new = λ v l y a b g k n h. (h, less s.used _ n (omega arith) h);
})

-- ---- a decision below 60

-- the effect of its turn, with the count beside it; where numbers have run out nothing is written
effect_of_turn : (Q : Effect → Type 0) (p : ℕ) (f : Frame) (v : Thread) (d : Decision) → Each Q (tallied p (turn_of f v d)) → (written d ≡ Quiet) ⊎ Q (counted p (written d))
effect_of_turn Q p f v (Goes e n m) q = inr q
effect_of_turn Q p f v (Answers e a) q = inr q
effect_of_turn Q p f v NodesOut q = inl refl
effect_of_turn Q p f v (Back e) q = inr (back_moves (λ (t : Turn). Each Q (tallied p t) → Q (counted p (effect_of e))) (effect_of e) v (λ _ _ i. i) q)

pub decided_inside : (s : Store) (th : Notes) (r : ℕ) (fs : List Frame) (d : Decision) → Decided (sight_of s) th r d → Inside s.used (written d)
decided_inside s th r fs d i =
    ⊎_elim
    quiet
    (by (eqb th.place 4) (eqb th.place 5) refl refl)
    (effect_of_turn (Inside s.used) th.place _ _ d (subst (Each (Inside s.used)) (i.turn fs) (step_inside s (place_of th.place) (thread th fs))))
  where
    quiet : written d ≡ Quiet → Inside s.used (written d)
    quiet e = rw e (quiet_inside s.used)

    by : (a b : Bool) → eqb th.place 4 ≡ a → eqb th.place 5 ≡ b → Inside s.used (cond a Raise (cond b Lower (written d))) → Inside s.used (written d)
    by true b f g q = quiet (i.quiet (inl (eqb-true th.place 4 f)))
    by false true f g q = quiet (i.quiet (inr (eqb-true th.place 5 g)))
    by false false f g q = q

-- ---- every run
pub enough : (file : List ℕ) (k : ℕ) → k ≤ count_of file → (after file k).bench.store.used ≤ numbers_for file
unfolding ite
enough file k l = by (ltb 64 (count_of file)) refl
  where
    by : (c : Bool) → ltb 64 (count_of file) ≡ c → (after file k).bench.store.used ≤ ite c 256 65
    by true e = reach_used file k
    by false e = omega (arith, reach_few file k, ltb-false 64 (count_of file) e)

-- as many numbers as are lent, m, and are still there, m', hold the depths after record k
pub lent_to : (file : List ℕ) (k : ℕ) {m m' : ℕ} → suc k ≤ count_of file → m' ≡ m → Holds m (numbers_for file) → Holds m' (after file (k + 1)).bench.store.used
lent_to file k {m} {m'} i e h = let u = enough file (k + 1) (omega arith) in let r = h.0 in let j = h.1 in (omega arith, omega arith)
