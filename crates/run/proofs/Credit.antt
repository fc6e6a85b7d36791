-- A run uses at most as many numbers as it has had records, and one. By a credit: an idle thread owes 0, one at 1, 2 or 60 owes 1, any other 2; a
-- record adds at most 1 to the numbers used and what the four threads owe, together. A split's swap takes three numbers and ends; every other step
-- takes one at most, and none at 1, 2 and 60. Rests on crate answers, by what a step at each place writes (StepEffects.antt).
use Rattle.std.specs.Prelude.{Option, Some, None}
use mathlib.Core.Path.{◌≡◌, refl}
use mathlib.Core.Logic.{◌⊎◌, inl, inr}
use mathlib.Core.Bool.{Bool, true, false, cond}
use mathlib.Core.List.{List, [], ◌∷◌}
use Prim.Native.Nat.{ℕ, zero, suc, ◌+◌, ◌/◌, ◌%◌, ◌<◌, ◌≤◌}
use native.Mathlib.Omega.{arith}
use native.Mathlib.Decide.{ℕ_discrete, dec_lt}
use borrow.Author.Tests.{ne_eqb, le-ltb, ltb-false, eqb-false}
use lib.Dec.{eqb, ltb, leb}
use Rattle.container.specs.Choice.{ite, upd}
use Rattle.definitions.specs.Nodes.{Shapes}
use Rattle.definitions.specs.Bench.{Store, Bench, Sight, sight_of}
use Rattle.definitions.specs.Threads.{Frame, Thread, begun, asking, idle, Turn, Moves, Finishes, Finds, Full, NoStore}
use Rattle.definitions.specs.Places.{Place, p1, p2, p60, swap, own, place_of}
use Rattle.definitions.specs.Frames.{in_frame, next_from, adding, found_first}
use Rattle.definitions.specs.Effects.{hang, perform}
use Rattle.definitions.specs.Steps.{room, at_leaf, reached, onward, followed, lost_as, lost, probe, replaced_as, replaced, own_by, reached_first, step}
use Rattle.definitions.specs.Records.{Result, refused, carried, taken, stepped, started, asked, acted, record_step}
use Rattle.definitions.specs.Schedule.{Rec, record_at}
use Rattle.definitions.specs.Run.{Progress, advance_by, advance, after}
use Rattle.definitions.specs.declared.Action.{Action}
use Rattle.definitions.specs.declared.Action.TheVariants.{Lookup, Insert, Remove, Split, Join, Query}
use Rattle.definitions.specs.declared.Effect.TheVariants.{Quiet}
use Rattle.definitions.specs.declared.Node.{Node}
use Rattle.definitions.specs.declared.Probe.{Probe}
use Rattle.definitions.specs.declared.Probe.TheVariants.{Hit, Next, Miss}
use Rattle.definitions.specs.declared.Quarter.{Quarter}
use Rattle.definitions.specs.declared.Quarter.TheVariants.{ReadLeft, SwapLeft, ReadRight, SwapRight}
use Rattle.definitions.specs.declared.Spot.{Spot}
use Rattle.definitions.specs.declared.Spot.TheVariants.{Root, Under}
use Rattle.answers.proofs.PlaceNumbers.{number_of}
use Rattle.answers.proofs.StepEffects.{Allowed, Each, each}

-- ---- what a thread owes, by its place
abbrev owed : ℕ → ℕ
owed n = cond (eqb n 0) 0 (cond (ltb n 3) 1 (cond (eqb n 60) 1 2))

owed_most : (n : ℕ) → owed n ≤ 2
owed_most n = by (eqb n 0) (ltb n 3) (eqb n 60)
  where
    by : (a b c : Bool) → cond a 0 (cond b 1 (cond c 1 2)) ≤ 2
    by true b c = omega arith
    by false true c = omega arith
    by false false true = omega arith
    by false false false = omega arith

owed_some : (n : ℕ) → (n ≡ 0 → ⊥) → 1 ≤ owed n
owed_some n z = rw (ne_eqb n 0 z) (by (ltb n 3) (eqb n 60))
  where
    by : (b c : Bool) → 1 ≤ cond b 1 (cond c 1 2)
    by true c = omega arith
    by false true = omega arith
    by false false = omega arith

owed_two : (n : ℕ) → 2 < n → (n ≡ 60 → ⊥) → owed n ≡ 2
owed_two n l z = rw (ne_eqb n 0 (λ e. omega arith), le-ltb n 3 (omega arith), ne_eqb n 60 z)

-- ---- a step at place n

abbrev Spent : Store → ℕ → Turn → Type 0
Spent s n (Moves th e) = (perform e s).used + owed th.place ≤ s.used + owed n + 1
Spent s n (Finishes e a) = (perform e s).used ≤ s.used + owed n + 1
Spent s n (Finds c) = Unit {0}
Spent s n Full = Unit {0}
Spent s n NoStore = Unit {0}

-- it writes nothing
abbrev Still : Turn → Type 0
Still o = Each (λ e. e ≡ Quiet) o

still_spent : (s : Store) (n : ℕ) (o : Turn) → (n ≡ 0 → ⊥) → Still o → Spent s n o
still_spent s n (Moves th e) z q = rw q (omega (arith, owed_most th.place, owed_some n z))
still_spent s n (Finishes e a) z q = rw q (omega arith)
still_spent s n (Finds c) z q = tt
still_spent s n Full z q = tt
still_spent s n NoStore z q = tt

-- it takes one number at most
one_spent : (s : Store) (n : ℕ) (o : Turn) → owed n ≡ 2 → Each (λ e. (perform e s).used ≤ s.used + 1) o → Spent s n o
one_spent s n (Moves th e) z q = omega (arith, owed_most th.place)
one_spent s n (Finishes e a) z q = omega arith
one_spent s n (Finds c) z q = tt
one_spent s n Full z q = tt
one_spent s n NoStore z q = tt

-- it writes nothing or takes three at most and ends
abbrev Ends : Store → Turn → Type 0
Ends s (Moves th e) = e ≡ Quiet
Ends s (Finishes e a) = (perform e s).used ≤ s.used + 3
Ends s (Finds c) = Unit {0}
Ends s Full = Unit {0}
Ends s NoStore = Unit {0}

ends_spent : (s : Store) (n : ℕ) (o : Turn) → owed n ≡ 2 → Ends s o → Spent s n o
ends_spent s n (Moves th e) z q = rw q (omega (arith, owed_most th.place))
ends_spent s n (Finishes e a) z q = omega arith
ends_spent s n (Finds c) z q = tt
ends_spent s n Full z q = tt
ends_spent s n NoStore z q = tt

-- ---- 1, 2, 60
pick : (c : Bool) (o o' : Turn) → Still o → Still o' → Still (ite c o o')
unfolding ite
pick true o o' f g = f
pick false o o' f g = g

module _ (n : Shapes) where
  still_leaf : (a : Action) (th : Thread) (x : ℕ) → Still (at_leaf a n th x)
  still_leaf Lookup th x = refl
  still_leaf Insert th x = refl
  still_leaf Remove th x = refl
  still_leaf Split th x = refl
  still_leaf Join th x = refl
  still_leaf Query th x = tt

  still_reached : (th : Thread) (x : ℕ) → Still (reached n th x)
  unfolding reached
  still_reached th x = pick _ _ _ refl (still_leaf th.action th x)

  still_followed : (on : Bool) (th : Thread) (x : ℕ) → Still (followed on n th x)
  unfolding followed onward
  still_followed false th x = still_reached th x
  still_followed true th x = pick _ _ _ (still_reached th x) (pick _ _ _ refl (pick _ _ _ refl refl))

module _ (th : Thread) where
  still_next : (l : List ℕ) (f : Frame) (fs : List Frame) → Still (next_from l Quiet f fs th)
  still_next [] f fs = refl
  still_next (x ∷ []) f fs = refl
  still_next (x ∷ y ∷ l) f fs = refl

  still_added : (c : ℕ) (f : Frame) (fs : List Frame) → Still (adding Quiet c f fs th)
  unfolding adding
  still_added c f fs = pick _ _ _ refl (still_next f.stack _ fs)

  still_found : (l : Option ℕ) (b : Node) (f : Frame) (fs : List Frame) → Still (found_first l b f fs th)
  still_found None b f fs = refl
  still_found (Some k) b f fs = pick _ _ _ (still_added _ f fs) refl

  still_first : (n : Shapes) (x : ℕ) (l : List ℕ) (f : Frame) (fs : List Frame) → Still (reached_first n x l f fs th)
  unfolding reached_first
  still_first n x l f fs = pick _ _ _ refl (still_found f.store _ _ fs)

  still_framed : (l : List Frame) (k : Frame → List Frame → Turn) → ((f : Frame) (fs : List Frame) → Still (k f fs)) → Still (in_frame l k)
  still_framed [] k g = tt
  still_framed (f ∷ fs) k g = g f fs

still_1 : (s : Sight) (th : Thread) → Still (step p1 s th)
unfolding step
still_1 s th = still_reached s.nodes _ _

still_2 : (s : Sight) (th : Thread) → Still (step p2 s th)
unfolding step
still_2 s th = still_followed s.nodes s.stop.on _ _

still_60 : (s : Sight) (th : Thread) → Still (step p60 s th)
unfolding step
still_60 s th = still_framed th th.frames _ (λ f fs. still_first th s.nodes _ _ f fs)

-- ---- 10 to 13
hung : (v : Spot) (x : ℕ) (s : Store) (n : ℕ) → s.used ≤ n → (hang v x s).used ≤ n
hung Root x s n l = l
hung (Under r d) x s n l = l

module _ (s : Store) (th : Thread) where
  roomy : (k : ℕ) (o : Turn) → Ends s o → Ends s (room k s.used o)
  unfolding ite
  roomy k o f = by (leb (s.used + k) 256)
    where
      by : (c : Bool) → Ends s (ite c o Full)
      by true = f
      by false = tt

  replacing : (a : Action) (v : Spot) (b : Node) → Ends s (replaced_as a v b s.used th)
  replacing Lookup v b = tt
  replacing Insert v b = roomy 1 _ (hung v _ _ _ (omega arith))
  replacing Remove v b = roomy 1 _ (hung v _ _ _ (omega arith))
  replacing Split v b = roomy 3 _ (hung v _ _ _ (omega arith))
  replacing Join v b = tt
  replacing Query v b = tt

  losing : (a : Action) → Ends s (lost_as a th)
  losing Lookup = omega arith
  losing Insert = refl
  losing Remove = refl
  losing Split = omega arith
  losing Join = omega arith
  losing Query = tt

  by_own : (o : Probe) (b : Node) → Ends s (own_by o b s.used th)
  unfolding replaced lost
  by_own (Hit v) b = replacing th.action v b
  by_own (Next q) b = refl
  by_own Miss b = losing th.action

  own_ends : (q : Quarter) → Ends s (step (swap own q) (sight_of s) th)
  unfolding step
  own_ends q = by_own (probe q (s.nodes th.base).parent (sight_of s).nodes s.root th.base) ((sight_of s).nodes th.base)

  -- any other place
  light : (p : Place) → ((q : Quarter) → p ≡ swap own q → ⊥) → Allowed s p th (λ e. (perform e s).used ≤ s.used + 1)
  light p w = record {
    quiet = omega arith;
    raise = omega arith;
    lower = omega arith;
    mark = λ r l. omega arith;
    settle = λ m v. omega arith;
    void = λ r. omega arith;
    swing = λ v x. hung v _ _ _ (omega arith);
    fill = λ k c. omega arith;
    base = λ v k l c m i g. hung v _ _ _ (omega arith);
    fork = λ v q e a g. absurd (w q e);
    commit = λ m l n gp o g. omega arith;
    ask_old = λ v l y a u k g. hung v _ _ _ (omega arith);
    ask_new = λ v l y a u g k. hung v _ _ _ (omega arith);
  }

  spent_at : (n : ℕ) → (n ≡ 0 → ⊥) → Spent s n (step (place_of n) (sight_of s) th)
  spent_at n z = elim (ℕ_discrete n 1) [
    | yes e ↦ rw e (still_spent s 1 (step p1 (sight_of s) th) (λ i. omega arith) (still_1 (sight_of s) th))
    | no a ↦ elim (ℕ_discrete n 2) [
      | yes e ↦ rw e (still_spent s 2 (step p2 (sight_of s) th) (λ i. omega arith) (still_2 (sight_of s) th))
      | no b ↦ elim (ℕ_discrete n 60) [
        | yes e ↦ rw e (still_spent s 60 (step p60 (sight_of s) th) (λ i. omega arith) (still_60 (sight_of s) th))
        | no c ↦ others (omega arith) c
      ]
    ]
  ]
    where
      away : (n < 10) ⊎ (13 < n) → 10 ≤ n → n < 14 → ⊥
      away (inl l) i j = omega arith
      away (inr l) i j = omega arith

      not_own : (n < 10) ⊎ (13 < n) → (q : Quarter) → place_of n ≡ swap own q → ⊥
      not_own l ReadLeft e = let m = number_of n (swap own ReadLeft) e (omega arith) in away l (omega arith) (omega arith)
      not_own l SwapLeft e = let m = number_of n (swap own SwapLeft) e (omega arith) in away l (omega arith) (omega arith)
      not_own l ReadRight e = let m = number_of n (swap own ReadRight) e (omega arith) in away l (omega arith) (omega arith)
      not_own l SwapRight e = let m = number_of n (swap own SwapRight) e (omega arith) in away l (omega arith) (omega arith)

      other : owed n ≡ 2 → (n < 10) ⊎ (13 < n) → Spent s n (step (place_of n) (sight_of s) th)
      other two l = one_spent s n (step (place_of n) (sight_of s) th) two (each s (place_of n) th (λ e. (perform e s).used ≤ s.used + 1) (light (place_of n) (not_own l)))

      -- 10 to 13, one by one
      mine : 9 < n → n < 14 → Spent s n (step (place_of n) (sight_of s) th)
      mine l m = elim (ℕ_discrete n 10) [
        | yes e ↦ rw e (ends_spent s 10 (step (swap own ReadLeft) (sight_of s) th) refl (own_ends ReadLeft))
        | no a ↦ elim (ℕ_discrete n 11) [
          | yes e ↦ rw e (ends_spent s 11 (step (swap own SwapLeft) (sight_of s) th) refl (own_ends SwapLeft))
          | no b ↦ elim (ℕ_discrete n 12) [
            | yes e ↦ rw e (ends_spent s 12 (step (swap own ReadRight) (sight_of s) th) refl (own_ends ReadRight))
            | no c ↦ let last : n ≡ 13 = omega arith in rw last (ends_spent s 13 (step (swap own SwapRight) (sight_of s) th) refl (own_ends SwapRight))
          ]
        ]
      ]

      others : 2 < n → (n ≡ 60 → ⊥) → Spent s n (step (place_of n) (sight_of s) th)
      others l c = let two : owed n ≡ 2 = owed_two n l c in elim (dec_lt n 10) [
        | yes i ↦ other two (inl i)
        | no i ↦ elim (dec_lt n 14) [ yes j ↦ mine (omega arith) j | no j ↦ other two (inr (omega arith)) ]
      ]

-- ---- one record

abbrev four : (ℕ → Thread) → ℕ
four f = owed (f 0).place + owed (f 1).place + owed (f 2).place + owed (f 3).place

abbrev worth : Bench → ℕ
worth b = b.store.used + four b.threads

four_with : (f : ℕ → Thread) (t : ℕ) (th : Thread) → t < 4 → four (upd f t th) + owed (f t).place ≡ four f + owed th.place
unfolding ite
four_with f zero th l = omega arith
four_with f (suc zero) th l = omega arith
four_with f (suc (suc zero)) th l = omega arith
four_with f (suc (suc (suc zero))) th l = omega arith
four_with f (suc (suc (suc (suc t)))) th l = absurd (omega arith)

abbrev Keeps : Bench → Result → Type 0
Keeps b (refused k) = Unit {0}
Keeps b (carried b' w) = worth b' ≤ worth b + 1

either : (b : Bench) (c : Bool) (r r' : Result) → (c ≡ true → Keeps b r) → (c ≡ false → Keeps b r') → Keeps b (ite c r r')
unfolding ite
either b true r r' p q = p refl
either b false r r' p q = q refl

module _ (b : Bench) (t y d : ℕ) (l : t < 4) where
  taken_keeps : (o : Turn) → Spent b.store (b.threads t).place o → Keeps b (taken b t o)
  unfolding taken
  taken_keeps (Moves th e) f = omega (arith, f, four_with b.threads t th l)
  taken_keeps (Finishes e a) f = omega (arith, f, four_with b.threads t idle l)
  taken_keeps (Finds c) f = omega (arith, four_with b.threads t idle l)
  taken_keeps Full f = tt
  taken_keeps NoStore f = tt

  -- a start: its thread was idle, and owes 1
  opened : (th : Thread) → owed th.place ≡ 1 → worth (record { store = b.store; threads = upd b.threads t th }) ≤ worth b + 1
  opened th e = omega (arith, e, four_with b.threads t th l)

  started_keeps : (a : Action) → Keeps b (started b t a y d)
  unfolding started
  started_keeps a = either b _ _ _ (λ _. tt) (λ _. either b _ _ _ (λ _. either b _ _ _ (λ _. opened (begun a y d 1) refl) (λ _. tt)) (λ _. tt))

  asked_keeps : Keeps b (asked b t y d)
  unfolding asked
  asked_keeps = either b _ _ _ (λ _. tt) (λ _. either b _ _ _ (λ _. tt) (λ _. either b _ _ _ (λ _. tt) (λ _. either b _ _ _ (λ _. opened (asking y d) refl) (λ _. tt))))

  -- a step
  own_keeps : eqb (b.threads t).place 0 ≡ false → Keeps b (taken b t (step (place_of (b.threads t).place) (sight_of b.store) (b.threads t)))
  own_keeps e = taken_keeps (step (place_of (b.threads t).place) (sight_of b.store) (b.threads t)) (spent_at b.store (b.threads t) (b.threads t).place (eqb-false _ _ e))

  stepped_keeps : Keeps b (stepped b t y d)
  unfolding stepped
  stepped_keeps = either b _ _ _ (λ _. either b _ _ _ (λ _. either b _ _ _ (λ _. tt) own_keeps) (λ _. tt)) (λ _. tt)

  acted_keeps : (n : ℕ) → Keeps b (acted n b t y d)
  acted_keeps zero = stepped_keeps
  acted_keeps (suc zero) = started_keeps Lookup
  acted_keeps (suc (suc zero)) = started_keeps Insert
  acted_keeps (suc (suc (suc zero))) = started_keeps Remove
  acted_keeps (suc (suc (suc (suc zero)))) = started_keeps Split
  acted_keeps (suc (suc (suc (suc (suc zero))))) = started_keeps Join
  acted_keeps (suc (suc (suc (suc (suc (suc zero)))))) = asked_keeps
  acted_keeps (suc (suc (suc (suc (suc (suc (suc n))))))) = tt

record_keeps : (b : Bench) (l x y d : ℕ) → Keeps b (record_step b l x y d)
unfolding record_step
record_keeps b l x y d = either b _ _ _ (λ _. tt) (λ i. either b _ _ _ (λ _. tt) (λ _. acted_keeps b (x / 16) y d (omega (arith, ltb-false 3 (x / 16) i)) (x % 16)))

-- ---- every run
advance_worth : (file : List ℕ) (p : Progress) (r : Rec) → worth (advance file p r).bench ≤ worth p.bench + 1
unfolding advance ite
advance_worth file p r = by (eqb p.refusal 0) (advance_by file p (r.first / 16) next) (onwards next (record_keeps p.bench r.last r.first r.second r.extra))
  where
    next : Result
    next = record_step p.bench r.last r.first r.second r.extra

    onwards : (v : Result) → Keeps p.bench v → worth (advance_by file p (r.first / 16) v).bench ≤ worth p.bench + 1
    onwards (refused k) g = omega arith
    onwards (carried b w) g = g

    by : (c : Bool) (q : Progress) → worth q.bench ≤ worth p.bench + 1 → worth (ite c q p).bench ≤ worth p.bench + 1
    by true q g = g
    by false q g = omega arith

run_worth : (file : List ℕ) (k : ℕ) → worth (after file k).bench ≤ k + 1
unfolding after
run_worth file zero = omega arith
run_worth file (suc k) = omega (arith, advance_worth file (after file k) (record_at file k), run_worth file k)

pub reach_few : (file : List ℕ) (k : ℕ) → (after file k).bench.store.used ≤ k + 1
reach_few file k = omega (arith, run_worth file k)
