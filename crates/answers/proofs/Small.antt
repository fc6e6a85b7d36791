-- Every depth of every run is at most 9,999 (02, request a: "a depth, 0 to 9,999 mm"): four digits print it.
use mathlib.Core.Path.{◌≡◌, refl}
use mathlib.Core.Bool.{Bool, true, false}
use mathlib.Core.List.{List}
use Prim.Native.Nat.{ℕ, zero, suc, ◌/◌, ◌%◌, ◌≤◌}
use native.Mathlib.Omega.{arith}
use native.Mathlib.Decide.{ℕ_discrete}
use lib.Dec.{eqb, ltb}
use borrow.Author.Tests.{eq-eqb, ne_eqb, eqb-true, ltb-false}
use Rattle.container.specs.Choice.{ite, upd}
use Rattle.container.specs.Container.{has}
use Rattle.container.specs.Depths.{Container, put, take_out, merge, lower, upper}
use Rattle.definitions.specs.Nodes.{Nodes, Entry}
use Rattle.definitions.specs.Bench.{Store, Bench, fresh, sight_of}
use Rattle.definitions.specs.Places.{place_of}
use Rattle.definitions.specs.Effects.{hang, perform}
use Rattle.definitions.specs.Records.{Result, refused, carried, taken, stepped, depth_refusal, started, asked, acted, record_step}
use Rattle.definitions.specs.Schedule.{Rec, stop_of, record_at}
use Rattle.definitions.specs.Run.{Progress, advance_by, advance, after}
use Rattle.definitions.specs.declared.Content.TheVariants.{Of, With, Without}
use Rattle.definitions.specs.declared.Spot.{Spot}
use Rattle.definitions.specs.declared.Spot.TheVariants.{Root, Under}
use Rattle.definitions.specs.declared.Effect.{Effect}
use Rattle.definitions.specs.declared.Effect.TheVariants.{Quiet, Mark, Settle, Invalid, Swing, Raise, Lower, Base, Fork, Commit, Ask, Fill}
use Rattle.definitions.specs.declared.Action.{Action}
use Rattle.definitions.specs.declared.Action.TheVariants.{Lookup, Insert, Remove, Split, Join, Query}
use Rattle.definitions.specs.Threads.{Thread}
use Rattle.definitions.specs.Threads.{Turn}
use Rattle.definitions.specs.Threads.{Moves, Finishes, Finds, Full, NoStore}
use Rattle.answers.proofs.Tools.{on, off, test}
use Rattle.answers.proofs.SameOperation.{Puts, Same, same_op}

abbrev Shallow : Container → Type 0
Shallow c = (s : ℕ) → c.depth s ≤ 9999

pub record Small (b : Bench) : Type 0 where
  pub nodes : (x : ℕ) → Shallow (b.store.nodes x).container
  pub threads : (t : ℕ) → (b.threads t).extra ≤ 9999

-- ---- containers

put_small : (c : Container) (s d : ℕ) → Shallow c → d ≤ 9999 → Shallow (put c s d)
unfolding put ite
put_small c s d h l t = elim (test (ltb s 64)) [
  | on e ↦ rw e (elim (ℕ_discrete t s) [ yes q ↦ rw (eq-eqb t s q) l | no q ↦ rw (ne_eqb t s q) (h t) ])
  | off e ↦ rw e (h t)
]

out_small : (c : Container) (s : ℕ) → Shallow c → Shallow (take_out c s)
unfolding take_out
out_small c s h = h

merge_small : (a b : Container) → Shallow a → Shallow b → Shallow (merge a b)
unfolding merge ite
merge_small a b h i s = elim (test (has a.set s)) [ on e ↦ rw e (h s) | off e ↦ rw e (i s) ]

halves_small : (c : Container) → Shallow c → Shallow (lower c) × Shallow (upper c)
unfolding lower upper
halves_small c h = (h, h)

-- ---- effects

abbrev All : Nodes → Type 0
All n = (x : ℕ) → Shallow (n x).container

all_upd : (n : Nodes) (x : ℕ) (v : Entry) → All n → Shallow v.container → All (upd n x v)
all_upd n x v h i y = elim (ℕ_discrete y x) [ yes e ↦ rw (eq-eqb y x e) i | no e ↦ rw (ne_eqb y x e) (h y) ]

hang_small : (v : Spot) (x : ℕ) (s : Store) → All s.nodes → All (hang v x s).nodes
hang_small Root x s h = h
hang_small (Under r d) x s h = all_upd s.nodes r _ h (h r)

perform_small : (th : Thread) (e : Effect) (s : Store) → All s.nodes → th.extra ≤ 9999 → Puts th e → All (perform e s).nodes
perform_small th Quiet s h l p = h
perform_small th (Mark r k) s h l p = all_upd s.nodes r _ h (h r)
perform_small th (Settle m v) s h l p = all_upd s.nodes m _ h (h m)
perform_small th (Invalid r) s h l p = all_upd s.nodes r _ h (h r)
perform_small th (Swing v x) s h l p = hang_small v x s h
perform_small th Raise s h l p = h
perform_small th Lower s h l p = h
perform_small th (Base v x k q (Of y) m) s h l p = hang_small v x _ (all_upd s.nodes x _ h (h y))
perform_small th (Base v x k q (With y t d) m) s h l p = hang_small v x _ (all_upd s.nodes x _ h (put_small (s.nodes y).container t d (h y) (rw p l)))
perform_small th (Base v x k q (Without y t) m) s h l p = hang_small v x _ (all_upd s.nodes x _ h (out_small (s.nodes y).container t (h y)))
perform_small th (Fork v x a c k y) s h l p = let o = halves_small (s.nodes y).container (h y) in
    hang_small v x _ (all_upd _ c _ (all_upd _ a _ (all_upd s.nodes x _ h (h y)) o.0) o.1)
perform_small th (Commit m x q n g o) s h l p = let a = all_upd s.nodes x _ h (merge_small (s.nodes m).container (s.nodes n).container (h m) (h n)) in all_upd _ m _ a (a m)
perform_small th (Ask v x q y a c k n) s h l p = hang_small v x _ (all_upd s.nodes x _ h (h y))
perform_small th (Fill k c) s h l p = h

-- ---- records

threads_small : (f : ℕ → Thread) (t : ℕ) (v : Thread) → ((u : ℕ) → (f u).extra ≤ 9999) → v.extra ≤ 9999 → (u : ℕ) → (upd f t v u).extra ≤ 9999
threads_small f t v h i u = elim (ℕ_discrete u t) [ yes e ↦ rw (eq-eqb u t e) i | no e ↦ rw (ne_eqb u t e) (h u) ]

abbrev Then : Result → Type 0
Then (refused k) = Unit {0}
Then (carried b w) = Small b

either : (c : Bool) (r r' : Result) → (c ≡ true → Then r) → (c ≡ false → Then r') → Then (ite c r r')
unfolding ite
either true r r' f g = f refl
either false r r' f g = g refl

unused : (d : ℕ) → ◌≡◌ {A = ℕ} (ite (eqb d 0) 0 10) 0 → d ≤ 9999
unfolding ite
unused d e = elim (test (eqb d 0)) [ on f ↦ (let q = eqb-true d 0 f in omega arith) | off f ↦ absurd (let z : ◌≡◌ {A = ℕ} 10 0 = rw f at e in omega arith) ]

module _ (b : Bench) (h : Small b) (t : ℕ) where
  taken_small : (o : Turn) → Same (b.threads t) o → Then (taken b t o)
  unfolding taken
  taken_small (Moves th e) (_, _, d, p) = record { nodes = perform_small (b.threads t) e b.store h.nodes (h.threads t) p; threads = threads_small b.threads t th h.threads (rw d (h.threads t)) }
  taken_small (Finishes e a) p = record { nodes = perform_small (b.threads t) e b.store h.nodes (h.threads t) p; threads = threads_small b.threads t _ h.threads (omega arith) }
  taken_small (Finds c) p = record { nodes = h.nodes; threads = threads_small b.threads t _ h.threads (omega arith) }
  taken_small Full p = tt
  taken_small NoStore p = tt

  -- a depth that is not refused
  fits : (a : Action) (d : ℕ) → depth_refusal a d ≡ 0 → d ≤ 9999
  unfolding ite
  fits Insert d e = elim (test (ltb 9999 d)) [ on f ↦ absurd (let z : ◌≡◌ {A = ℕ} 14 0 = rw f at e in omega arith) | off f ↦ ltb-false 9999 d f ]
  fits Lookup d e = unused d e
  fits Remove d e = unused d e
  fits Split d e = unused d e
  fits Join d e = unused d e
  fits Query d e = unused d e

  starts_small : (a : Action) (y d : ℕ) → Then (started b t a y d)
  unfolding started
  starts_small a y d = either _ _ _ (λ _. tt) (λ _. either _ _ _ (λ e. either _ _ _
      (λ _. record { nodes = h.nodes; threads = threads_small b.threads t _ h.threads (fits a d (eqb-true _ _ e)) }) (λ _. tt)) (λ _. tt))

  asks_small : (y z : ℕ) → Then (asked b t y z)
  unfolding asked
  asks_small y z = either _ _ _ (λ _. tt) (λ _. either _ _ _ (λ _. tt) (λ i. either _ _ _ (λ _. tt) (λ _. either _ _ _
      (λ _. record { nodes = h.nodes; threads = threads_small b.threads t _ h.threads (omega (arith, ltb-false 63 z i)) }) (λ _. tt))))

  steps_small : (y d : ℕ) → Then (stepped b t y d)
  unfolding stepped
  steps_small y d = either _ _ _ (λ _. either _ _ _ (λ _. either _ _ _ (λ _. tt) (λ _. taken_small _ (same_op (sight_of b.store) (b.threads t) (place_of (b.threads t).place)))) (λ _. tt)) (λ _. tt)

  acts_small : (n y d : ℕ) → Then (acted n b t y d)
  acts_small zero y d = steps_small y d
  acts_small (suc zero) y d = starts_small Lookup y d
  acts_small (suc (suc zero)) y d = starts_small Insert y d
  acts_small (suc (suc (suc zero))) y d = starts_small Remove y d
  acts_small (suc (suc (suc (suc zero)))) y d = starts_small Split y d
  acts_small (suc (suc (suc (suc (suc zero))))) y d = starts_small Join y d
  acts_small (suc (suc (suc (suc (suc (suc zero)))))) y d = asks_small y d
  acts_small (suc (suc (suc (suc (suc (suc (suc _))))))) y d = tt

record_small : (b : Bench) (l x y d : ℕ) → Small b → Then (record_step b l x y d)
unfolding record_step
record_small b l x y d h = either _ _ _ (λ _. tt) (λ _. either _ _ _ (λ _. tt) (λ _. acts_small b h (x / 16) (x % 16) y d))

-- ---- runs

fresh_small : (sw : Bool) → Small (fresh sw)
fresh_small sw = record { nodes = λ x s. omega arith; threads = λ t. omega arith }

advance_small : (file : List ℕ) (p : Progress) (r : Rec) → Small p.bench → Small (advance file p r).bench
unfolding advance ite
advance_small file p r h = elim (test (eqb p.refusal 0)) [
  | on e ↦ rw e (go (record_step p.bench r.last r.first r.second r.extra) (record_small p.bench r.last r.first r.second r.extra h))
  | off e ↦ rw e h
]
  where
    go : (res : Result) → Then res → Small (advance_by file p (r.first / 16) res).bench
    go (refused k) _ = h
    go (carried b w) i = i

-- after the first k records of any file, of either version
pub small : (file : List ℕ) (k : ℕ) → Small (after file k).bench
unfolding after
small file zero = fresh_small (stop_of file)
small file (suc k) = advance_small file (after file k) (record_at file k) (small file k)
