-- A record does what it asks of its thread. A record of version 2 that is neither refused nor a query's start asks what its first two bytes
-- ask in version 1; a query's start asks what a lookup's asks there. A query's upper end is a station. A step's first byte has the action 0, a start's
-- its own. Assumes nothing.
use Rattle.std.specs.Prelude.{None, Result, Ok, Err}
use mathlib.Core.Path.{◌≡◌, refl, sym, ap, ◌∙◌}
use mathlib.Core.Logic.{◌≢◌}
use mathlib.Core.Bool.{Bool, true, false}
use mathlib.Core.List.{[], ◌∷◌}
use Prim.Native.Nat.{ℕ, zero, suc, ◌-◌, ◌/◌, ◌%◌, ◌<◌, ◌≤◌}
use native.Mathlib.Omega.{arith}
use lib.Dec.{eqb, ltb}
use borrow.Author.Tests.{eq-eqb, ne_eqb, lt-ltb, le-ltb, eqb-true, eqb-false, ltb-false}
use Rattle.container.specs.Choice.{ite, upd}
use Rattle.definitions.specs.Threads.{Thread, new_frame, begun, asking}
use Rattle.definitions.specs.Bench.{Bench, bench, sight_of}
use Rattle.definitions.specs.Places.{place_of, to_frames}
use Rattle.definitions.specs.Steps.{step}
use Rattle.definitions.specs.Records.{action_number, no_row, refused, carried, taken, stepped, started, asked as queried, acted, record_step}
use Rattle.definitions.specs.declared.Action.{Action}
use Rattle.definitions.specs.declared.Action.TheVariants.{Lookup, Insert, Remove, Split, Join, Query}
use Rattle.definitions.specs.declared.Refusal.{Refusal}
use Rattle.steps.specs.declared.Notes.{Notes}
use Rattle.steps.specs.Decision.{thread}
use Rattle.machine.specs.declared.Asked.{Asked}
use Rattle.machine.specs.declared.Asked.TheVariants.{Step, Start}
use Rattle.machine.specs.Asked.{action_started, first_place, thread_started, extra_of, unrefused, asked_by, asked, answered}

-- ---- what a start of the action c asks: o, c is over the last; s, the station is over 63; r is its last two bytes'; i, its thread is idle
abbrev starts : Bool → Bool → Result (Unit {0}) Refusal → Bool → Action → Result Asked Refusal
starts o s r i c = ite o (Err Refusal.Action) (ite s (Err Refusal.Station) (unrefused r (ite i (Ok (Start c)) (Err Refusal.Busy))))

-- its last two bytes': u, they are 0, or the depth is over 9,999; of a query u, the upper end is over 63, w, it is below the lower
abbrev unused : Bool → Result (Unit {0}) Refusal
unused u = ite u (Ok tt) (Err Refusal.UnusedBytes)

abbrev deep : Bool → Result (Unit {0}) Refusal
deep u = ite u (Err Refusal.Depth) (Ok tt)

abbrev ends : Bool → Bool → Result (Unit {0}) Refusal
ends u w = ite u (Err Refusal.UpperEnd) (ite w (Err Refusal.UpperEnd) (Ok tt))

-- ---- the bench does what the record asks

module _ (b : Bench) (t y d : ℕ) where
  steps_so : (c e f : Bool) → ite c (ite e (ite f (refused 12) (taken b t (step (place_of (b.threads t).place) (sight_of b.store) (b.threads t)))) (refused 10)) (refused 10)
      ≡ answered (ite c (ite e (ite f (Err Refusal.Idle) (Ok Step)) (Err Refusal.UnusedBytes)) (Err Refusal.UnusedBytes)) b t y d
  unfolding ite
  steps_so true true true = refl
  steps_so true true false = refl
  steps_so true false f = refl
  steps_so false e f = refl

  unused_so : (c : Action) → thread_started c y d ≡ begun c y d 1 → (o s u i : Bool)
      → ite o (refused 8) (ite s (refused 9) (ite (eqb (ite u 0 10) 0) (ite i (carried (bench b.store (upd b.threads t (begun c y d 1))) no_row) (refused 11)) (refused (ite u 0 10))))
      ≡ answered (starts o s (unused u) i c) b t y d
  unfolding ite
  unused_so c e true s u i = refl
  unused_so c e false true u i = refl
  unused_so c e false false true true = rw e
  unused_so c e false false true false = refl
  unused_so c e false false false i = refl

  deep_so : (o s u i : Bool)
      → ite o (refused 8) (ite s (refused 9) (ite (eqb (ite u 14 0) 0) (ite i (carried (bench b.store (upd b.threads t (begun Insert y d 1))) no_row) (refused 11)) (refused (ite u 14 0))))
      ≡ answered (starts o s (deep u) i Insert) b t y d
  unfolding ite
  deep_so true s u i = refl
  deep_so false true u i = refl
  deep_so false false true i = refl
  deep_so false false false true = refl
  deep_so false false false false = refl

  ends_so : (o s u w i : Bool)
      → ite o (refused 8) (ite s (refused 9) (ite u (refused 15) (ite w (refused 15) (ite i (carried (bench b.store (upd b.threads t (asking y d))) no_row) (refused 11)))))
      ≡ answered (starts o s (ends u w) i Query) b t y d
  unfolding ite
  ends_so true s u w i = refl
  ends_so false true u w i = refl
  ends_so false false true w i = refl
  ends_so false false false true i = refl
  ends_so false false false false true = refl
  ends_so false false false false false = refl

  acts_so : (l a : ℕ) → l ≤ 6 → ite (ltb l a) (refused 8) (acted a b t y d) ≡ answered (asked_by l a y d (b.threads t).place) b t y d
  unfolding stepped started queried asked_by action_started ite
  acts_so l zero h = rw (le-ltb l 0 (omega arith)) (steps_so (eqb y 0) (eqb d 0) (eqb (b.threads t).place 0))
  acts_so l (suc zero) h = unused_so Lookup refl (ltb l 1) (ltb 63 y) (eqb d 0) (eqb (b.threads t).place 0)
  acts_so l (suc (suc zero)) h = deep_so (ltb l 2) (ltb 63 y) (ltb 9999 d) (eqb (b.threads t).place 0)
  acts_so l (suc (suc (suc zero))) h = unused_so Remove refl (ltb l 3) (ltb 63 y) (eqb d 0) (eqb (b.threads t).place 0)
  acts_so l (suc (suc (suc (suc zero)))) h = unused_so Split refl (ltb l 4) (ltb 63 y) (eqb d 0) (eqb (b.threads t).place 0)
  acts_so l (suc (suc (suc (suc (suc zero))))) h = unused_so Join refl (ltb l 5) (ltb 63 y) (eqb d 0) (eqb (b.threads t).place 0)
  acts_so l (suc (suc (suc (suc (suc (suc zero)))))) h = ends_so (ltb l 6) (ltb 63 y) (ltb 63 d) (ltb d y) (eqb (b.threads t).place 0)
  acts_so l (suc (suc (suc (suc (suc (suc (suc a))))))) h =
      rw (lt-ltb l (suc (suc (suc (suc (suc (suc (suc a))))))) (omega arith), ne_eqb (suc (suc (suc (suc (suc (suc (suc a))))))) 0 (λ e. omega arith))

-- thread t is the record's own, where it has one
pub asked_so : (b : Bench) (t l x y d : ℕ) → l ≤ 6 → (x / 16 ≤ 3 → t ≡ x / 16) → record_step b l x y d ≡ answered (asked l x y d (b.threads t).place) b t y d
unfolding record_step asked ite
asked_so b t l x y d h same = by (ltb 3 (x / 16)) refl
  where
    by : (c : Bool) → ltb 3 (x / 16) ≡ c
        → ite c (refused 7) (ite (ltb l (x % 16)) (refused 8) (acted (x % 16) b (x / 16) y d)) ≡ answered (ite c (Err Refusal.Thread) (asked_by l (x % 16) y d (b.threads t).place)) b t y d
    by true e = refl
    by false e = rw (← same (ltb-false _ _ e)) (acts_so b t y d l (x % 16) h)

-- ---- a record of version 2 by its first two bytes: its last two, e, count only where it is refused or a query's start

module _ {a : Asked} where
  step_less : (c f i : Bool) → ite c (ite f (ite i (Err Refusal.Idle) (Ok Step)) (Err Refusal.UnusedBytes)) (Err Refusal.UnusedBytes) ≡ Ok a
      → ite c (ite i (Err Refusal.Idle) (Ok Step)) (Err Refusal.UnusedBytes) ≡ Ok a
  unfolding ite
  step_less true true i h = h
  step_less true false i h = cc
  step_less false f i h = h

  start_less : (s : Bool) (r : Result (Unit {0}) Refusal) (i : Bool) (c : Action) → starts false s r i c ≡ Ok a → starts false s (Ok tt) i c ≡ Ok a
  unfolding ite
  start_less true r i c h = h
  start_less false (Ok _) i c h = h
  start_less false (Err r) i c h = cc

  only_start : (o s : Bool) (r : Result (Unit {0}) Refusal) (i : Bool) (c : Action) → starts o s r i c ≡ Ok a → a ≡ Start c
  unfolding ite
  only_start true s r i c h = cc
  only_start false true r i c h = cc
  only_start false false (Err r) i c h = cc
  only_start false false (Ok _) true c h = cc
  only_start false false (Ok _) false c h = cc

  less : (n y e p : ℕ) → (a ≡ Start Query → ⊥) → asked_by 6 n y e p ≡ Ok a → asked_by 5 n y 0 p ≡ Ok a
  unfolding asked_by action_started ite
  less zero y e p f h = step_less (eqb y 0) (eqb e 0) (eqb p 0) h
  less (suc zero) y e p f h = start_less (ltb 63 y) (unused (eqb e 0)) (eqb p 0) Lookup h
  less (suc (suc zero)) y e p f h = start_less (ltb 63 y) (deep (ltb 9999 e)) (eqb p 0) Insert h
  less (suc (suc (suc zero))) y e p f h = start_less (ltb 63 y) (unused (eqb e 0)) (eqb p 0) Remove h
  less (suc (suc (suc (suc zero)))) y e p f h = start_less (ltb 63 y) (unused (eqb e 0)) (eqb p 0) Split h
  less (suc (suc (suc (suc (suc zero))))) y e p f h = start_less (ltb 63 y) (unused (eqb e 0)) (eqb p 0) Join h
  less (suc (suc (suc (suc (suc (suc zero)))))) y e p f h = absurd (f (only_start false (ltb 63 y) (ends (ltb 63 e) (ltb e y)) (eqb p 0) Query h))
  less (suc (suc (suc (suc (suc (suc (suc n))))))) y e p f h =
      let k = rw (ne_eqb (suc (suc (suc (suc (suc (suc (suc n))))))) 0 (λ i. omega arith), lt-ltb 6 (suc (suc (suc (suc (suc (suc (suc n))))))) (omega arith)) at h in cc

pub asked_less : (x y e p : ℕ) {a : Asked} → (a ≡ Start Query → ⊥) → asked 6 x y e p ≡ Ok a → asked 5 x y 0 p ≡ Ok a
unfolding asked ite
asked_less x y e p {a} f = by (ltb 3 (x / 16))
  where
    by : (c : Bool) → ite c (Err Refusal.Thread) (asked_by 6 (x % 16) y e p) ≡ Ok a → ite c (Err Refusal.Thread) (asked_by 5 (x % 16) y 0 p) ≡ Ok a
    by true h = cc
    by false h = less (x % 16) y e p f h

-- ---- what a record asks, by its first byte: a step has the action 0, a start its own

-- what a step asks: c and f, its other bytes are 0; i, its thread is idle
abbrev steps : Bool → Bool → Bool → Result Asked Refusal
steps c f i = ite c (ite f (ite i (Err Refusal.Idle) (Ok Step)) (Err Refusal.UnusedBytes)) (Err Refusal.UnusedBytes)

no_start : (c f i : Bool) (b : Action) → steps c f i ≡ Ok (Start b) → ⊥
unfolding ite
no_start true true true b h = cc
no_start true true false b h = cc
no_start true false i b h = cc
no_start false f i b h = cc

number_started : (a : ℕ) → a ≢ 0 → a ≤ 6 → action_number (action_started a) ≡ a
unfolding action_started
number_started zero z h = absurd (z refl)
number_started (suc zero) z h = refl
number_started (suc (suc zero)) z h = refl
number_started (suc (suc (suc zero))) z h = refl
number_started (suc (suc (suc (suc zero)))) z h = refl
number_started (suc (suc (suc (suc (suc zero))))) z h = refl
number_started (suc (suc (suc (suc (suc (suc zero)))))) z h = refl
number_started (suc (suc (suc (suc (suc (suc (suc a))))))) z h = absurd (omega arith)

module _ (l x y d p : ℕ) where
  pub asks_step : asked l x y d p ≡ Ok Step → x % 16 ≡ 0
  unfolding asked asked_by ite
  asks_step = by (ltb 3 (x / 16)) (eqb (x % 16) 0) refl
    where
      by : (c f : Bool) → eqb (x % 16) 0 ≡ f
          → ite c (Err Refusal.Thread) (ite f (steps (eqb y 0) (eqb d 0) (eqb p 0))
          (starts (ltb l (x % 16)) (ltb 63 y) (extra_of (action_started (x % 16)) y d) (eqb p 0) (action_started (x % 16)))) ≡ Ok Step → x % 16 ≡ 0
      by true f g h = absurd cc
      by false true g h = eqb-true _ _ g
      by false false g h =
          let e : Step ≡ Start (action_started (x % 16)) =
          only_start (ltb l (x % 16)) (ltb 63 y) (extra_of (action_started (x % 16)) y d) (eqb p 0) (action_started (x % 16)) h in absurd cc

  pub asks_start : (b : Action) → l ≤ 6 → asked l x y d p ≡ Ok (Start b) → x % 16 ≡ action_number b
  unfolding asked asked_by ite
  asks_start b few = by (ltb 3 (x / 16)) (eqb (x % 16) 0) refl (ltb l (x % 16)) refl
    where
      by : (c f : Bool) → eqb (x % 16) 0 ≡ f → (o : Bool) → ltb l (x % 16) ≡ o
          → ite c (Err Refusal.Thread) (ite f (steps (eqb y 0) (eqb d 0) (eqb p 0))
          (starts o (ltb 63 y) (extra_of (action_started (x % 16)) y d) (eqb p 0) (action_started (x % 16)))) ≡ Ok (Start b) → x % 16 ≡ action_number b
      by true f g o k h = absurd cc
      by false true g o k h = absurd (no_start (eqb y 0) (eqb d 0) (eqb p 0) b h)
      by false false g true k h = absurd cc
      by false false g false k h =
          let e : Start b ≡ Start (action_started (x % 16)) = only_start false (ltb 63 y) (extra_of (action_started (x % 16)) y d) (eqb p 0) (action_started (x % 16)) h in
          let i : b ≡ action_started (x % 16) = cc in
          sym (ap action_number i ∙ number_started (x % 16) (eqb-false _ _ g) (omega (arith, few, ltb-false _ _ k)))

-- ---- a thread that takes a step is not idle
pub busy : (l x y d p : ℕ) → asked l x y d p ≡ Ok Step → 0 < p
unfolding asked asked_by ite
busy l x y d zero h = absurd (by (ltb 3 (x / 16)) (eqb (x % 16) 0) (eqb y 0) (eqb d 0) h)
  where
    by : (b c f g : Bool)
        → ite b (Err Refusal.Thread) (ite c (ite f (ite g (Err Refusal.Idle) (Err Refusal.UnusedBytes)) (Err Refusal.UnusedBytes))
        (starts (ltb l (x % 16)) (ltb 63 y) (extra_of (action_started (x % 16)) y d) true (action_started (x % 16)))) ≡ Ok Step → ⊥
    by true c f g i = cc
    by false true true true i = cc
    by false true true false i = cc
    by false true false g i = cc
    by false false f g i = let e : Step ≡ Start (action_started (x % 16)) = only_start (ltb l (x % 16)) (ltb 63 y) (extra_of (action_started (x % 16)) y d) true (action_started (x % 16)) i in cc
busy l x y d (suc p) h = omega arith

-- ---- a query's start: its action, its ends, and that its thread is idle
pub record Asking (l a y d p : ℕ) : Type 0 where
  pub action : a ≡ 6
  pub last : 6 ≤ l
  pub lower : y ≤ d
  pub upper : d ≤ 63
  pub free : p ≡ 0

opens : (l y d p : ℕ) (o s u w i : Bool) → ltb l 6 ≡ o → ltb 63 d ≡ u → ltb d y ≡ w → eqb p 0 ≡ i → starts o s (ends u w) i Query ≡ Ok (Start Query) → Asking l 6 y d p
unfolding ite
opens l y d p true s u w i e f g j h = cc
opens l y d p false true u w i e f g j h = cc
opens l y d p false false true w i e f g j h = cc
opens l y d p false false false true i e f g j h = cc
opens l y d p false false false false false e f g j h = cc
opens l y d p false false false false true e f g j h = record { action = refl; last = ltb-false _ _ e; lower = ltb-false _ _ g; upper = ltb-false _ _ f; free = eqb-true p 0 j }

query_by : (l a y d p : ℕ) → asked_by l a y d p ≡ Ok (Start Query) → Asking l a y d p
unfolding asked_by action_started ite
query_by l zero y d p h = absurd (no_start (eqb y 0) (eqb d 0) (eqb p 0) Query h)
query_by l (suc zero) y d p h = let e : Start Query ≡ Start Lookup = only_start (ltb l 1) (ltb 63 y) (unused (eqb d 0)) (eqb p 0) Lookup h in cc
query_by l (suc (suc zero)) y d p h = let e : Start Query ≡ Start Insert = only_start (ltb l 2) (ltb 63 y) (deep (ltb 9999 d)) (eqb p 0) Insert h in cc
query_by l (suc (suc (suc zero))) y d p h = let e : Start Query ≡ Start Remove = only_start (ltb l 3) (ltb 63 y) (unused (eqb d 0)) (eqb p 0) Remove h in cc
query_by l (suc (suc (suc (suc zero)))) y d p h = let e : Start Query ≡ Start Split = only_start (ltb l 4) (ltb 63 y) (unused (eqb d 0)) (eqb p 0) Split h in cc
query_by l (suc (suc (suc (suc (suc zero))))) y d p h = let e : Start Query ≡ Start Join = only_start (ltb l 5) (ltb 63 y) (unused (eqb d 0)) (eqb p 0) Join h in cc
query_by l (suc (suc (suc (suc (suc (suc zero)))))) y d p h = opens l y d p (ltb l 6) (ltb 63 y) (ltb 63 d) (ltb d y) (eqb p 0) refl refl refl refl h
query_by l (suc (suc (suc (suc (suc (suc (suc a))))))) y d p h =
    let n : ℕ = suc (suc (suc (suc (suc (suc (suc a)))))) in
    let e : Start Query ≡ Start Join = only_start (ltb l n) (ltb 63 y) (unused (eqb d 0)) (eqb p 0) Join (rw (ne_eqb n 0 (λ i. omega arith)) at h) in cc

query_of : (l x y d p : ℕ) → asked l x y d p ≡ Ok (Start Query) → (x / 16 ≤ 3) × Asking l (x % 16) y d p
unfolding asked ite
query_of l x y d p = by (ltb 3 (x / 16)) refl
  where
    by : (c : Bool) → ltb 3 (x / 16) ≡ c → ite c (Err Refusal.Thread) (asked_by l (x % 16) y d p) ≡ Ok (Start Query) → (x / 16 ≤ 3) × Asking l (x % 16) y d p
    by true e h = cc
    by false e h = (ltb-false _ _ e, query_by l (x % 16) y d p h)

pub query_ends : (l x y d p : ℕ) → asked l x y d p ≡ Ok (Start Query) → (y ≤ d) × (d ≤ 63)
query_ends l x y d p h = let q : Asking l (x % 16) y d p = (query_of l x y d p h).1 in (q.lower, q.upper)

pub query_action : (l x y d p : ℕ) → asked l x y d p ≡ Ok (Start Query) → x % 16 ≡ 6
query_action l x y d p h = (query_of l x y d p h).1.action

-- a lookup's start at the same thread and station is asked of version 1: five less in the first byte
pub asked_query : (x y e p : ℕ) → asked 6 x y e p ≡ Ok (Start Query) → asked 5 (x - 5) y 0 p ≡ Ok (Start Lookup)
unfolding asked asked_by action_started ite
asked_query x y e p h =
    let q : (x / 16 ≤ 3) × Asking 6 (x % 16) y e p = query_of 6 x y e p h in
    let a : x % 16 ≡ 6 = q.1.action in
    let t : (x - 5) / 16 ≡ x / 16 = omega arith in
    let b : (x - 5) % 16 ≡ 1 = omega arith in
    rw (t, b, le-ltb 3 (x / 16) q.0, le-ltb 63 y (omega (arith, q.1.lower, q.1.upper)), eq-eqb p 0 q.1.free)

-- ---- the thread of a start

-- a query's first frame is its own: its ends, and no store
pub query_begun : (y d : ℕ) {r : Notes} → thread r [] ≡ begun Query y d 60 → thread r (new_frame y d None ∷ []) ≡ asking y d
query_begun y d {r} q = ap (λ (w : Thread). to_frames w.place (new_frame y d None ∷ []) w) q

-- no other has one
pub start_begun : (c : Action) (y d : ℕ) → (c ≡ Query → ⊥) → thread_started c y d ≡ begun c y d (first_place c)
start_begun Lookup y d f = refl
start_begun Insert y d f = refl
start_begun Remove y d f = refl
start_begun Split y d f = refl
start_begun Join y d f = refl
start_begun Query y d f = absurd (f refl)
