-- A query's thread has a frame at every moment of every run (`query_framed`), so that none is at 1, 2, 4 or 5 (`no_query`). Rests on crate
-- answers: a thread at one of these has no frame (`Know`).
use mathlib.Core.Path.{◌≡◌, refl, sym, ap, ◌∙◌, subst}
use mathlib.Core.Bool.{Bool, true, false}
use mathlib.Core.List.{List, []}
use Prim.Native.Nat.{ℕ, zero, suc, ◌/◌, ◌%◌, ◌<◌}
use native.Mathlib.Omega.{arith}
use native.Mathlib.Decide.{ℕ_discrete}
use borrow.Author.Tests.{eq-eqb, ne_eqb}
use lib.Dec.{eqb}
use Rattle.container.specs.Choice.{ite, upd}
use Rattle.definitions.specs.declared.Action.{Action}
use Rattle.definitions.specs.declared.Action.TheVariants.{Lookup, Insert, Remove, Split, Join, Query}
use Rattle.definitions.specs.Threads.{Thread, begun, asking, Turn, Moves, Finishes, Finds, Full, NoStore}
use Rattle.definitions.specs.Bench.{sight_of, Bench}
use Rattle.definitions.specs.Places.{p1, p2, p4, p5, place_of}
use Rattle.definitions.specs.Steps.{is_query}
use Rattle.definitions.specs.Records.{Result, refused, carried, taken, stepped, started, asked, acted, record_step}
use Rattle.definitions.specs.Schedule.{Rec, record_at}
use Rattle.definitions.specs.Run.{Progress, advance_by, advance, after}
use Rattle.answers.proofs.SameOperation.{Same, same_op}
use Rattle.answers.proofs.RunSet.{run_ends}
use Rattle.answers.proofs.ReadPlaces.{know_now}
use Rattle.run.proofs.FramedSteps.{HasFrame, Framed, other, Leaves, step_leaves}

-- ---- a record
abbrev Keeps : Result → Type 0
Keeps (refused k) = Unit {0}
Keeps (carried b w) = (u : ℕ) → Framed (b.threads u)

choice : (c : Bool) (r r' : Result) → Keeps r → Keeps r' → Keeps (ite c r r')
unfolding ite
choice true r r' p q = p
choice false r r' p q = q

module _ (b : Bench) (h : (u : ℕ) → Framed (b.threads u)) (t y d : ℕ) where
  put : (th : Thread) → Framed th → (u : ℕ) → Framed (upd b.threads t th u)
  put th a u = elim (ℕ_discrete u t) [ yes q ↦ rw (eq-eqb u t q) a | no q ↦ rw (ne_eqb u t q) (h u) ]

  taken_keeps : (o : Turn) → Same (b.threads t) o → ((b.threads t).action ≡ Query → Leaves o) → Keeps (taken b t o)
  unfolding taken
  taken_keeps (Moves th e) w q = put th (λ z. q (sym w.0 ∙ z))
  taken_keeps (Finishes e a) w q = put _ (other Lookup refl)
  taken_keeps (Finds c) w q = put _ (other Lookup refl)
  taken_keeps Full w q = tt
  taken_keeps NoStore w q = tt

  started_keeps : (a : Action) → is_query a ≡ false → Keeps (started b t a y d)
  unfolding started
  started_keeps a q = choice _ _ _ tt (choice _ _ _ (choice _ _ _ (put (begun a y d 1) (other a q)) tt) tt)

  stepped_keeps : Keeps (stepped b t y d)
  unfolding stepped
  stepped_keeps =
      let th = b.threads t in
      let s = sight_of b.store in
      choice _ _ _ (choice _ _ _ (choice _ _ _ tt (taken_keeps _ (same_op s th (place_of th.place)) (λ z. step_leaves s th z (h t z) (place_of th.place)))) tt) tt

  asked_keeps : Keeps (asked b t y d)
  unfolding asked
  asked_keeps = choice _ _ _ tt (choice _ _ _ tt (choice _ _ _ tt (choice _ _ _ (put (asking y d) (λ z. tt)) tt)))

  acted_keeps : (n : ℕ) → Keeps (acted n b t y d)
  acted_keeps zero = stepped_keeps
  acted_keeps (suc zero) = started_keeps Lookup refl
  acted_keeps (suc (suc zero)) = started_keeps Insert refl
  acted_keeps (suc (suc (suc zero))) = started_keeps Remove refl
  acted_keeps (suc (suc (suc (suc zero)))) = started_keeps Split refl
  acted_keeps (suc (suc (suc (suc (suc zero))))) = started_keeps Join refl
  acted_keeps (suc (suc (suc (suc (suc (suc zero)))))) = asked_keeps
  acted_keeps (suc (suc (suc (suc (suc (suc (suc n))))))) = tt

record_keeps : (b : Bench) (l x y d : ℕ) → ((u : ℕ) → Framed (b.threads u)) → Keeps (record_step b l x y d)
unfolding record_step
record_keeps b l x y d h = choice _ _ _ tt (choice _ _ _ tt (acted_keeps b h (x / 16) y d (x % 16)))

-- ---- every run
advance_keeps : (file : List ℕ) (p : Progress) (r : Rec) → ((u : ℕ) → Framed (p.bench.threads u)) → (u : ℕ) → Framed ((advance file p r).bench.threads u)
unfolding advance ite
advance_keeps file p r h = by (eqb p.refusal 0) (on (record_step p.bench r.last r.first r.second r.extra) (record_keeps p.bench r.last r.first r.second r.extra h))
  where
    on : (v : Result) → Keeps v → (u : ℕ) → Framed ((advance_by file p (r.first / 16) v).bench.threads u)
    on (refused k) g = h
    on (carried b w) g = g

    by : (c : Bool) → ((u : ℕ) → Framed ((advance_by file p (r.first / 16) (record_step p.bench r.last r.first r.second r.extra)).bench.threads u))
        → (u : ℕ) → Framed ((ite c (advance_by file p (r.first / 16) (record_step p.bench r.last r.first r.second r.extra)) p).bench.threads u)
    by true g = g
    by false g = h

query_framed : (file : List ℕ) (k u : ℕ) → Framed ((after file k).bench.threads u)
unfolding after
query_framed file zero u = other Lookup refl
query_framed file (suc k) u = advance_keeps file (after file k) (record_at file k) (query_framed file k) u

bare : (file : List ℕ) (k t : ℕ) → ((after file k).bench.threads t).frames ≡ [] → ((after file k).bench.threads t).action ≡ Query → ⊥
bare file k t e z = subst HasFrame e (query_framed file k t z)

-- a thread at 1, 2, 4 or 5 is no query's
pub no_query : (file : List ℕ) (k t p : ℕ) → ((after file k).bench.threads t).place ≡ p → 0 < p → p < 6 → (p ≡ 3 → ⊥) → ((after file k).bench.threads t).action ≡ Query → ⊥
no_query file k t zero e g h o = absurd (omega arith)
no_query file k t (suc zero) e g h o = bare file k t (know_now (run_ends file k).inv t p1 (ap place_of e))
no_query file k t (suc (suc zero)) e g h o = bare file k t (know_now (run_ends file k).inv t p2 (ap place_of e)).2
no_query file k t (suc (suc (suc zero))) e g h o = absurd (o refl)
no_query file k t (suc (suc (suc (suc zero)))) e g h o = bare file k t (know_now (run_ends file k).inv t p4 (ap place_of e)).2
no_query file k t (suc (suc (suc (suc (suc zero))))) e g h o = bare file k t (know_now (run_ends file k).inv t p5 (ap place_of e)).3
no_query file k t (suc (suc (suc (suc (suc (suc p)))))) e g h o = absurd (omega arith)
