-- The count of the stop is the number of searches between its two steps, at every moment of every list of records
-- (definitions/specs/Count.antt). It rests on CountSteps.antt.
use mathlib.Core.Path.{◌≡◌, refl, ◌∙◌, ap}
use mathlib.Core.Logic.{◌⊎◌, inl, inr}
use mathlib.Core.Bool.{Bool, true, false}
use mathlib.Core.List.{List, [], ◌∷◌}
use Prim.Native.Nat.{ℕ, zero, suc, ◌+◌, ◌/◌, ◌%◌, ◌<◌, ◌≤◌}
use native.Mathlib.Omega.{arith}
use lib.Dec.{eqb, ltb}
use borrow.Author.Tests.{eq-eqb, ne_eqb, eqb-true, ltb-false}
use Rattle.container.specs.Choice.{ite, upd}
use Rattle.definitions.specs.declared.Action.{Action}
use Rattle.definitions.specs.declared.Action.TheVariants.{Lookup, Insert, Remove, Split, Join}
use Rattle.definitions.specs.Threads.{Thread, begun, asking, idle, Turn, Moves, Finishes, Finds, Full, NoStore}
use Rattle.definitions.specs.Bench.{Bench, bench, fresh, sight_of}
use Rattle.definitions.specs.Places.{place_of}
use Rattle.definitions.specs.Steps.{step}
use Rattle.definitions.specs.Records.{no_row, Result, refused, carried, taken, is_idle, stepped, started, asked, acted, record_step}
use Rattle.definitions.specs.Schedule.{Rec, stop_of, record_at}
use Rattle.definitions.specs.Run.{Progress, advance_by, advance, after}
use Rattle.definitions.specs.Count.{crossed, between, one, searches, Unstopped, CountRight, CountOnward, CountFrom, CountRule}
use Rattle.answers.proofs.Tools.{◌==?◌, on, off, test}
use Rattle.answers.proofs.CountAside.{Noted, aside_noted, aside_not, counted}
use Rattle.answers.proofs.CountSteps.{Kept, kept}

-- `sw` is the switch; i t: thread t is between the two steps
pub record Tally (sw : Bool) (b : Bench) (i : ℕ → Bool) : Type 0 where
  pub switch : b.store.stop.on ≡ sw
  pub count : b.store.stop.count ≡ searches i
  pub notes : (t : ℕ) → Noted sw (i t) (b.threads t)

-- ---- sums over the four threads

sum_upd : (i : ℕ → Bool) (t : ℕ) → t < 4 → (v : Bool) → searches (upd i t v) + one (i t) ≡ searches i + one v
sum_upd i zero h v = omega arith
sum_upd i (suc zero) h v = omega arith
sum_upd i (suc (suc zero)) h v = omega arith
sum_upd i (suc (suc (suc zero))) h v = omega arith
sum_upd i (suc (suc (suc (suc t)))) h v = absurd (omega arith)

sum_has : (i : ℕ → Bool) (t : ℕ) → t < 4 → i t ≡ true → 0 < searches i
sum_has i t h e = let a = sum_upd i t h false in let z : one (i t) ≡ 1 = rw e in omega (arith, a, z)

-- ---- a moment

four_out : {sw i : Bool} {th : Thread} → Noted sw i th → th.place ≡ 4 → i ≡ false
four_out {sw} k e = elim (test sw) [ on z ↦ k.stands z ∙ rw e | off z ↦ k.off_out z ]

five_in : {sw i : Bool} {th : Thread} → Noted sw i th → th.place ≡ 5 → i ≡ true
five_in {sw} k e = elim (test sw) [ on z ↦ k.stands z ∙ rw e | off z ↦ absurd ((k.off_place z).1 e) ]

pub right : (sw : Bool) (b : Bench) (i : ℕ → Bool) → Tally sw b i → CountRight sw b i
right sw b i z = (
  z.switch,
  z.count,
  (λ e. (z.count ∙ none e, λ t. (z.notes t).off_place e)),
  (λ t h e. rw z.count (sum_has i t h (five_in (z.notes t) e))),
  (λ t e. out t e),
  λ h. z.count ∙ rest h,
)
  where
    out : (t : ℕ) → (b.threads t).place ≡ 0 ⊎ (b.threads t).place ≡ 1 → i t ≡ false
    out t (inl e) = aside_not (z.notes t) (rw e, rw e, rw e)
    out t (inr e) = aside_not (z.notes t) (rw e, rw e, rw e)

    rest : ((t : ℕ) → t < 4 → (b.threads t).place ≡ 0) → searches i ≡ 0
    rest h = rw (out 0 (inl (h 0 (omega arith))), out 1 (inl (h 1 (omega arith))), out 2 (inl (h 2 (omega arith))), out 3 (inl (h 3 (omega arith))))

    none : sw ≡ false → searches i ≡ 0
    none e = let n : (t : ℕ) → i t ≡ false = λ t. (z.notes t).off_out e in rw (n 0, n 1, n 2, n 3)

-- ---- one record

module _ (sw : Bool) {b : Bench} {i : ℕ → Bool} (z : Tally sw b i) (t : ℕ) (low : t < 4) where
  abbrev th : Thread
  th = b.threads t

  -- the count after a step of thread t
  count_next : counted th.place (searches i) ≡ searches (upd i t (crossed th.place (i t)))
  count_next = elim (test (eqb th.place 4)) [
    | on h4 ↦ (let n : one (i t) ≡ 0 = rw (four_out (z.notes t) (eqb-true th.place 4 h4)) in let a = sum_upd i t low true in rw h4 (omega (arith, a, n)))
    | off h4 ↦ elim (test (eqb th.place 5)) [
      | on h5 ↦ (let n : one (i t) ≡ 1 = rw (five_in (z.notes t) (eqb-true th.place 5 h5)) in let a = sum_upd i t low false in rw (h4, h5) (omega (arith, a, n)))
      | off h5 ↦ (let a = sum_upd i t low (i t) in rw (h4, h5) (omega (arith, a)))
    ]
  ]

  abbrev pub Ok : ℕ → Result → Type 0
  Ok a (refused _) = Unit {0}
  Ok a (carried b' w) = Tally sw b' (between a t th.place i)

  pick : (a : ℕ) (c : Bool) (r r' : Result) → (c ≡ true → Ok a r) → (c ≡ false → Ok a r') → Ok a (ite c r r')
  unfolding ite
  pick a true r r' p q = p refl
  pick a false r r' p q = q refl

  -- thread t replaced, and it is between as v says
  replaced : (v : Bool) (th' : Thread) → Noted sw v th' → (u : ℕ) → Noted sw (upd i t v u) (upd b.threads t th' u)
  replaced v th' n u = elim (u ==? t) [ yes q ↦ rw (eq-eqb u t q) n | no q ↦ rw (ne_eqb u t q) (z.notes u) ]

  taken_ok : (o : Turn) → Kept b.store th sw (i t) z.switch (z.notes t) o → Ok 0 (taken b t o)
  unfolding taken
  taken_ok (Moves th' e) (n, q) = record {
    switch = ap (λ v. v.on) q ∙ z.switch;
    count = ap (λ v. v.count) q ∙ ap (counted th.place) z.count ∙ count_next;
    notes = replaced _ th' n;
  }
  taken_ok (Finishes e a) (n, q) = record {
    switch = ap (λ v. v.on) q ∙ z.switch;
    count = ap (λ v. v.count) q ∙ ap (counted th.place) z.count ∙ count_next;
    notes = replaced _ idle (rw n (aside_noted sw idle refl));
  }
  taken_ok (Finds c) (n, q) = record {
    switch = ap (λ v. v.on) q ∙ z.switch;
    count = ap (λ v. v.count) q ∙ ap (counted th.place) z.count ∙ count_next;
    notes = replaced _ idle (rw n (aside_noted sw idle refl));
  }
  taken_ok Full k = tt
  taken_ok NoStore k = tt

  steps_ok : (y d : ℕ) → Ok 0 (stepped b t y d)
  unfolding stepped
  steps_ok y d = pick 0 _ _ _ (λ _. pick 0 _ _ _ (λ _. pick 0 _ _ _ (λ _. tt) (λ _. taken_ok (step (place_of th.place) (sight_of b.store) th)
      (kept b.store th sw (i t) z.switch (z.notes t)))) (λ _. tt)) (λ _. tt)

  -- a start: the thread was idle, so it was not between
  begins_with : (n : ℕ) (th' : Thread) → is_idle th ≡ true → Noted sw false th' → Ok (suc n) (carried (bench b.store (upd b.threads t th')) no_row)
  begins_with n th' h new = record {
    switch = z.switch;
    count = z.count;
    notes = λ u. elim (u ==? t) [ yes q ↦ rw (eq-eqb u t q, ap i q ∙ not_in) new | no q ↦ rw (ne_eqb u t q) (z.notes u) ];
  }
    where
      not_in : i t ≡ false
      not_in = let e : th.place ≡ 0 = eqb-true th.place 0 h in aside_not (z.notes t) (rw e, rw e, rw e)

  starts_ok : (n : ℕ) (a : Action) (y d : ℕ) → Ok (suc n) (started b t a y d)
  unfolding started
  starts_ok n a y d = pick (suc n) _ _ _ (λ _. tt) (λ _. pick (suc n) _ _ _ (λ _. pick (suc n) _ _ _ (λ h. begins_with n (begun a y d 1) h (aside_noted sw _ refl)) (λ _. tt)) (λ _. tt))

  asks_ok : (n y d : ℕ) → Ok (suc n) (asked b t y d)
  unfolding asked
  asks_ok n y d = pick (suc n) _ _ _ (λ _. tt)
      (λ _. pick (suc n) _ _ _ (λ _. tt) (λ _. pick (suc n) _ _ _ (λ _. tt) (λ _. pick (suc n) _ _ _ (λ h. begins_with n (asking y d) h (aside_noted sw _ refl)) (λ _. tt))))

  acted_ok : (n y d : ℕ) → Ok n (acted n b t y d)
  acted_ok zero y d = steps_ok y d
  acted_ok (suc zero) y d = starts_ok 0 Lookup y d
  acted_ok (suc (suc zero)) y d = starts_ok 1 Insert y d
  acted_ok (suc (suc (suc zero))) y d = starts_ok 2 Remove y d
  acted_ok (suc (suc (suc (suc zero)))) y d = starts_ok 3 Split y d
  acted_ok (suc (suc (suc (suc (suc zero))))) y d = starts_ok 4 Join y d
  acted_ok (suc (suc (suc (suc (suc (suc zero)))))) y d = asks_ok 5 y d
  acted_ok (suc (suc (suc (suc (suc (suc (suc _))))))) y d = tt

-- what a record leaves
abbrev pub Next : Bool → Bench → Rec → (ℕ → Bool) → Result → Type 0
Next sw b r i (refused _) = Unit {0}
Next sw b r i (carried b' w) = Tally sw b' (between (r.first % 16) (r.first / 16) (b.threads (r.first / 16)).place i)

pub next : (sw : Bool) (b : Bench) (r : Rec) (i : ℕ → Bool) → Tally sw b i → Next sw b r i (record_step b r.last r.first r.second r.extra)
unfolding record_step ite
next sw b r i z = cases (ltb 3 (r.first / 16)) 7 _ (λ h. cases (ltb r.last (r.first % 16)) 8 _ (λ _. let low : r.first / 16 < 4 = omega (arith, ltb-false 3 (r.first / 16) h) in
    open_up (acted (r.first % 16) b (r.first / 16) r.second r.extra) low (acted_ok sw z (r.first / 16) low (r.first % 16) r.second r.extra)))
  where
    open_up : (res : Result) (low : r.first / 16 < 4) → Ok sw z (r.first / 16) low (r.first % 16) res → Next sw b r i res
    open_up (refused _) low o = tt
    open_up (carried b' w) low o = o

    cases : (c : Bool) (k : ℕ) (res : Result) → (c ≡ false → Next sw b r i res) → Next sw b r i (ite c (refused k) res)
    cases true k res f = tt
    cases false k res f = f refl

-- ---- the whole list

from : (sw : Bool) (rs : List Rec) (b : Bench) (i : ℕ → Bool) → Tally sw b i → CountFrom sw rs b i
from sw [] b i z = right sw b i z
from sw (r ∷ rs) b i z = (right sw b i z, go (record_step b r.last r.first r.second r.extra) (next sw b r i z) (λ b' i' z'. from sw rs b' i' z'))
  where
    go : (res : Result) → Next sw b r i res → ((b' : Bench) (i' : ℕ → Bool) → Tally sw b' i' → CountFrom sw rs b' i')
        → CountOnward res sw b r i (λ b' i'. CountFrom sw rs b' i')
    go (refused _) _ ih = right sw b i z
    go (carried b' w) z' ih = ih b' _ z'

pub begins : (sw : Bool) → Tally sw (fresh sw) (λ _. false)
begins sw = record { switch = refl; count = refl; notes = λ t. aside_noted sw idle refl }

-- 02, h: the count is right at every moment of every list, with the stop off or on
pub count_rule : CountRule
count_rule sw rs = from sw rs (fresh sw) (λ _. false) (begins sw)

-- ---- every file, after its first k records: what the code that carries them out needs

record Tallied (sw : Bool) (b : Bench) : Type 0 where
  who : ℕ → Bool
  tally : Tally sw b who

tallied_on : (file : List ℕ) (sw : Bool) (p : Progress) (r : Rec) → Tallied sw p.bench → Tallied sw (advance file p r).bench
unfolding advance ite
tallied_on file sw p r z = outer (eqb p.refusal 0)
  where
    go : (res : Result) → Next sw p.bench r z.who res → Tallied sw (advance_by file p (r.first / 16) res).bench
    go (refused _) n = z
    go (carried b' w) n = record { who = _; tally = n }

    outer : (c : Bool) → Tallied sw (ite c (advance_by file p (r.first / 16) (record_step p.bench r.last r.first r.second r.extra)) p).bench
    outer true = go (record_step p.bench r.last r.first r.second r.extra) (next sw p.bench r z.who z.tally)
    outer false = z

run_tally : (file : List ℕ) (k : ℕ) → Tallied (stop_of file) (after file k).bench
unfolding after
run_tally file zero = record { who = λ _. false; tally = begins (stop_of file) }
run_tally file (suc k) = tallied_on file (stop_of file) (after file k) (record_at file k) (run_tally file k)

at_most : (i : ℕ → Bool) → searches i ≤ 4
at_most i = let a = bit (i 0) in let b = bit (i 1) in let c = bit (i 2) in let d = bit (i 3) in omega (arith, a, b, c, d)
  where
    bit : (v : Bool) → one v ≤ 1
    bit true = omega arith
    bit false = omega arith

pub reach_count : (file : List ℕ) (k : ℕ) → (after file k).bench.store.stop.count ≤ 4
reach_count file k = let z = run_tally file k in rw z.tally.count (at_most z.who)

pub reach_take : (file : List ℕ) (k t : ℕ) → t < 4 → ((after file k).bench.threads t).place ≡ 5 → 0 < (after file k).bench.store.stop.count
reach_take file k = let z = run_tally file k in (right _ _ _ z.tally).3

-- versions 1 and 2: no thread comes to 4, 5 or 19, and the count stays 0
pub reach_off : (file : List ℕ) (k : ℕ) → stop_of file ≡ false → Unstopped (after file k).bench
reach_off file k = let z = run_tally file k in (right _ _ _ z.tally).2
