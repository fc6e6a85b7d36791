-- In the run of a file that asks for no query none is ever under way: no thread stands at 60 or above or has a frame, no node is a range base, no
-- store is shown and none is set (`unasked`); so it is in version 1 (`version_1`). The code lends such a run no memory for queries. It rests on
-- QuerylessSteps.antt.
use mathlib.Core.Path.{◌≡◌, refl, ◌∙◌, ap}
use mathlib.Core.Logic.{◌≢◌}
use mathlib.Core.Bool.{Bool, true, false}
use mathlib.Core.List.{List}
use Prim.Native.Nat.{ℕ, zero, suc, ◌+◌, ◌/◌, ◌%◌}
use native.Mathlib.Omega.{arith}
use lib.Dec.{eqb}
use borrow.Author.Tests.{eq-eqb, ne_eqb, ltb-false}
use Rattle.container.specs.Choice.{ite, upd}
use Rattle.definitions.specs.declared.Kind.TheVariants.{Range}
use Rattle.definitions.specs.declared.Action.{Action}
use Rattle.definitions.specs.declared.Action.TheVariants.{Lookup, Insert, Remove, Split, Join, Query}
use Rattle.definitions.specs.declared.Spot.{Spot}
use Rattle.definitions.specs.declared.Spot.TheVariants.{Root, Under}
use Rattle.definitions.specs.declared.Effect.{Effect}
use Rattle.definitions.specs.declared.Effect.TheVariants.{Quiet, Mark, Settle, Invalid, Swing, Raise, Lower, Base, Fork, Commit, Ask, Fill}
use Rattle.definitions.specs.Threads.{Thread, begun, Turn, Moves, Finishes, Finds, Full, NoStore}
use Rattle.definitions.specs.Nodes.{Nodes, Stores, Entry, new_base}
use Rattle.definitions.specs.Bench.{Store, store, sight_of, Bench}
use Rattle.definitions.specs.Effects.{hang, push, content_of, forked, perform}
use Rattle.definitions.specs.Records.{Result, refused, carried, taken, stepped, started, acted, record_step}
use Rattle.definitions.specs.Versions.{version}
use Rattle.definitions.specs.Schedule.{Rec, record_at}
use Rattle.definitions.specs.Run.{Progress, advance_by, advance, after}
use Rattle.answers.specs.Reachable.{Unasked}
use Rattle.answers.proofs.Tools.{◌==?◌, clash}
use Rattle.answers.proofs.QuerylessSteps.{Unasking, Untouched, Queryless, Mild, Level, normal_range, neighbour_range, route_range, level_at}

-- ---- what a mild effect leaves

upd_kind : (n : Nodes) (x : ℕ) (v : Entry) → v.kind ≢ Range → ((y : ℕ) → (n y).kind ≢ Range) → (y : ℕ) → (upd n x v y).kind ≢ Range
upd_kind n x v a f y = elim (y ==? x) [ yes q ↦ rw (eq-eqb y x q) a | no q ↦ rw (ne_eqb y x q) (f y) ]

hang_kind : (v : Spot) (x : ℕ) (s : Store) → ((y : ℕ) → (s.nodes y).kind ≢ Range) → (y : ℕ) → ((hang v x s).nodes y).kind ≢ Range
hang_kind Root x s f y = f y
hang_kind (Under r d) x s f y = upd_kind s.nodes r _ (f r) f y

hang_stores : (v : Spot) (x : ℕ) (s : Store) → ((hang v x s).stores ≡ s.stores) × ((hang v x s).shown ≡ s.shown)
hang_stores Root x s = (refl, refl)
hang_stores (Under r d) x s = (refl, refl)

mild_nodes : (e : Effect) (s : Store) → Mild e → ((y : ℕ) → (s.nodes y).kind ≢ Range) → (y : ℕ) → ((perform e s).nodes y).kind ≢ Range
mild_nodes Quiet s m f = f
mild_nodes (Mark r l) s m f = upd_kind s.nodes r _ (f r) f
mild_nodes (Settle x v) s m f = upd_kind s.nodes x _ (f x) f
mild_nodes (Invalid r) s m f = upd_kind s.nodes r _ (f r) f
mild_nodes (Swing v x) s m f = hang_kind v x s f
mild_nodes Raise s m f = f
mild_nodes Lower s m f = f
mild_nodes (Base v x k p c o) s m f = hang_kind v x (push x (new_base k p (content_of c s.nodes) o) s) (upd_kind s.nodes x _ m f)
mild_nodes (Fork v x l r k b) s m f =
    hang_kind v x (store (forked x l r k (s.nodes b).container s.nodes) s.root (x + 3) s.stores s.shown s.stop)
    (upd_kind _ r _ normal_range (upd_kind _ l _ normal_range (upd_kind s.nodes x _ route_range f)))
mild_nodes (Commit a x p n g o) s m f =
    upd_kind _ a _ (upd_kind s.nodes x _ neighbour_range f a) (upd_kind s.nodes x _ neighbour_range f)
mild_nodes (Ask v x p y l h k new) s m f = absurd m
mild_nodes (Fill k c) s m f = absurd m

mild_stores : (e : Effect) (s : Store) → Mild e → ((perform e s).stores ≡ s.stores) × ((perform e s).shown ≡ s.shown)
mild_stores Quiet s m = (refl, refl)
mild_stores (Mark r l) s m = (refl, refl)
mild_stores (Settle x v) s m = (refl, refl)
mild_stores (Invalid r) s m = (refl, refl)
mild_stores (Swing v x) s m = hang_stores v x s
mild_stores Raise s m = (refl, refl)
mild_stores Lower s m = (refl, refl)
mild_stores (Base v x k p c o) s m = hang_stores v x _
mild_stores (Fork v x l r k b) s m = hang_stores v x _
mild_stores (Commit a x p n g o) s m = (refl, refl)
mild_stores (Ask v x p y l h k new) s m = absurd m
mild_stores (Fill k c) s m = absurd m

mild : (e : Effect) (s : Store) → Mild e → Untouched s → Untouched (perform e s)
mild e s m u = let z = mild_stores e s m in
    record { nodes = mild_nodes e s m u.nodes; stores = λ k. ap (λ (f : Stores). f k) z.0 ∙ u.stores k; shown = z.1 ∙ u.shown }

-- ---- one record that asks for no query

abbrev Keeps : Result → Type 0
Keeps (refused k) = Unit {0}
Keeps (carried b w) = Queryless b

either : (c : Bool) (r r' : Result) → (c ≡ true → Keeps r) → (c ≡ false → Keeps r') → Keeps (ite c r r')
unfolding ite
either true r r' p q = p refl
either false r r' p q = q refl

module _ (b : Bench) (h : Queryless b) (t y d : ℕ) where
  put : (th : Thread) → Unasking th → (u : ℕ) → Unasking (upd b.threads t th u)
  put th a u = elim (u ==? t) [ yes q ↦ rw (eq-eqb u t q) a | no q ↦ rw (ne_eqb u t q) (h.threads u) ]

  taken_keeps : (o : Turn) → Level o → Keeps (taken b t o)
  unfolding taken
  taken_keeps (Moves th e) (a, m) = record { store = mild e b.store m h.store; threads = put th a }
  taken_keeps (Finishes e a) m = record { store = mild e b.store m h.store; threads = put _ (record { place = omega arith; frames = refl; action = λ e. clash (cc) }) }
  taken_keeps (Finds c) m = absurd m
  taken_keeps Full m = tt
  taken_keeps NoStore m = tt

  started_keeps : (a : Action) → a ≢ Query → Keeps (started b t a y d)
  unfolding started
  started_keeps a q = either _ _ _ (λ _. tt)
      (λ _. either _ _ _ (λ _. either _ _ _ (λ _. record { store = h.store; threads = put (begun a y d 1) (record { place = omega arith; frames = refl; action = q }) }) (λ _. tt)) (λ _. tt))

  stepped_keeps : Keeps (stepped b t y d)
  unfolding stepped
  stepped_keeps = either _ _ _
      (λ _. either _ _ _ (λ _. either _ _ _ (λ _. tt) (λ _. taken_keeps _ (level_at (sight_of b.store) h.store.nodes (b.threads t) (h.threads t) (b.threads t).place (h.threads t).place))) (λ _. tt))
      (λ _. tt)

  acted_keeps : (n : ℕ) → (n ≡ 6 → ⊥) → Keeps (acted n b t y d)
  acted_keeps zero o = stepped_keeps
  acted_keeps (suc zero) o = started_keeps Lookup (λ e. clash (cc))
  acted_keeps (suc (suc zero)) o = started_keeps Insert (λ e. clash (cc))
  acted_keeps (suc (suc (suc zero))) o = started_keeps Remove (λ e. clash (cc))
  acted_keeps (suc (suc (suc (suc zero)))) o = started_keeps Split (λ e. clash (cc))
  acted_keeps (suc (suc (suc (suc (suc zero))))) o = started_keeps Join (λ e. clash (cc))
  acted_keeps (suc (suc (suc (suc (suc (suc zero)))))) o = absurd (o refl)
  acted_keeps (suc (suc (suc (suc (suc (suc (suc n))))))) o = tt

-- action 6 is none, or is past the last one, l
record_keeps : (b : Bench) (l x y d : ℕ) → (x % 16 ≡ 6 → l ≡ 5) → Queryless b → Keeps (record_step b l x y d)
unfolding record_step
record_keeps b l x y d o h = either _ _ _ (λ _. tt) (λ _. either _ _ _ (λ _. tt) (λ e. acted_keeps b h (x / 16) y d (x % 16) (λ z. omega (arith, ltb-false l (x % 16) e, o z))))

-- ---- every run

last_five : (file : List ℕ) (k : ℕ) → version file ≡ 1 → (record_at file k).last ≡ 5
unfolding record_at ite
last_five file k e = rw (eq-eqb (version file) 1 e)

advance_keeps : (file : List ℕ) (p : Progress) (r : Rec) → (r.first % 16 ≡ 6 → r.last ≡ 5) → Queryless p.bench → Queryless (advance file p r).bench
unfolding advance ite
advance_keeps file p r o h =
    by (eqb p.refusal 0) (onward (record_step p.bench r.last r.first r.second r.extra) (record_keeps p.bench r.last r.first r.second r.extra o h))
  where
    onward : (v : Result) → Keeps v → Queryless (advance_by file p (r.first / 16) v).bench
    onward (refused k) g = h
    onward (carried b w) g = g

    by : (c : Bool) → Queryless (advance_by file p (r.first / 16) (record_step p.bench r.last r.first r.second r.extra)).bench
        → Queryless (ite c (advance_by file p (r.first / 16) (record_step p.bench r.last r.first r.second r.extra)) p).bench
    by true g = g
    by false g = h

pub unasked : (file : List ℕ) (k : ℕ) → Unasked file → Queryless (after file k).bench
unfolding after
unasked file zero o = record {
  store = record { nodes = λ x. normal_range; stores = λ k. refl; shown = refl };
  threads = λ t. record { place = omega arith; frames = refl; action = λ z. clash (cc) };
}
unasked file (suc k) o = advance_keeps file (after file k) (record_at file k) (λ z. last_five file k (o k z)) (unasked file k o)

pub version_1 : (file : List ℕ) (k : ℕ) → version file ≡ 1 → Queryless (after file k).bench
version_1 file k e = unasked file k (λ _ _. e)
