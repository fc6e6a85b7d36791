-- The one writer's places 1 to 24: nothing is written but by a swap that finishes.
use Rattle.std.specs.Prelude.{Option, Some, None}
use mathlib.Core.Path.{◌≡◌, refl, sym, ◌∙◌, ap, subst}
use mathlib.Core.Logic.{◌≢◌, inl, inr}
use mathlib.Core.Bool.{Bool, true, false, not, false≢true}
use Prim.Native.Nat.{ℕ, suc, ◌+◌}
use native.Mathlib.Omega.{arith}
use lib.Dec.{ltb}
use borrow.Author.Tests.{eq-eqb, eqb-true, eqb-false, ltb-true}
use Rattle.container.specs.Choice.{ite}
use Rattle.container.specs.Depths.{Container}
use Rattle.definitions.specs.declared.Kind.{Kind}
use Rattle.definitions.specs.declared.Kind.TheVariants.{Normal, Route, Main, Range}
use Rattle.definitions.specs.declared.Action.{Action}
use Rattle.definitions.specs.declared.Action.TheVariants.{Lookup, Insert, Remove, Split, Join, Query}
use Rattle.definitions.specs.declared.Answer.{Answer}
use Rattle.definitions.specs.declared.Answer.TheVariants.{Lacking}
use Rattle.definitions.specs.declared.Quarter.{Quarter}
use Rattle.definitions.specs.declared.Quarter.TheVariants.{ReadLeft}
use Rattle.definitions.specs.declared.Spot.{Spot}
use Rattle.definitions.specs.declared.Probe.{Probe}
use Rattle.definitions.specs.Threads.{Thread, Turn, Moves, Finishes, Finds, Full, NoStore}
use Rattle.definitions.specs.Nodes.{new_base, child_for, shape}
use Rattle.definitions.specs.Bench.{sight_of, Store, store, Bench}
use Rattle.definitions.specs.Places.{p1, p2, p3, p20, p21, p22, p23, p24, swap, own, place_of, reading, at}
use Rattle.definitions.specs.Effects.{perform, push, hang}
use Rattle.definitions.specs.Steps.{goes, at_leaf, reached, one_more, followed, join_under, is_nil, lacks_as, lacks, cleared_as, cleared, replaced_as, replaced, own_by, beside, step}
use Rattle.definitions.specs.Answers.{shown}
use Rattle.definitions.specs.Records.{row}
use Rattle.profile.specs.Claim.{Joined}
use Rattle.answers.specs.Reachable.{Reached, top, step as down}
use Rattle.answers.proofs.Tools.{clash}
use Rattle.answers.proofs.Memory.{kid_at, World, Hist, Live, Mem}
use Rattle.answers.proofs.Invariant.{Inv, seen, Stands}
use Rattle.answers.proofs.Shown.{kind_route, kind_base}
use Rattle.answers.proofs.ReadPlaces.{here}
use Rattle.answers.proofs.PlaceNumbers.{place_number, number_of}
use Rattle.answers.proofs.Descent.{reached_live, reached_depth}
use Rattle.profile.proofs.Tidy.{Tidy, Quiet, tidy_used, tidy_fill, tidy_hang}
use Rattle.profile.proofs.Alone.{up_parent, base_ready, base_hangs}
use Rattle.profile.proofs.Mine.{Probed, struck, onward, probed, Spotted, Seek, Mine}

-- what is shown of the writer's turn, c own steps having been taken before it
abbrev pub OkTurn : Store → Thread → ℕ → Turn → Type 0
OkTurn s th c (Moves th' e) = Mine (place_of th'.place) (perform e s) th' (suc c)
OkTurn s th c (Finishes e a) = Quiet (perform e s) × Joined (row (shown a) 0 0) s th
OkTurn s th c (Finds r) = ⊥
OkTurn s th c Full = Unit {0}
OkTurn s th c NoStore = Unit {0}

pub fork : (s : Store) (th : Thread) (c : ℕ) (k : Bool) (o o' : Turn) → (k ≡ true → OkTurn s th c o) → (k ≡ false → OkTurn s th c o') → OkTurn s th c (ite k o o')
unfolding ite
fork s th c true o o' f h = f refl
fork s th c false o o' f h = h refl

-- an answer of neither a join nor a split
pub neither : (s : Store) (th : Thread) (a : Answer) → (th.action ≡ Join → ⊥) → (th.action ≡ Split → ⊥) → Joined (row a 0 0) s th
neither s th a j k = ((λ z. absurd (j z)), (λ z. absurd (k z)))

pub pick_true {ℓ} : {A : Type ℓ} (P : A → Type 0) (k : Bool) (o o' : A) → k ≡ true → P o → P (ite k o o')
unfolding ite
pick_true P k o o' e h = rw e h

pub pick_false {ℓ} : {A : Type ℓ} (P : A → Type 0) (k : Bool) (o o' : A) → k ≡ false → P o' → P (ite k o o')
unfolding ite
pick_false P k o o' e h = rw e h

-- a new base that is no main, put where another was
pub quiet_base : (s : Store) (v : Spot) (k : Kind) (p : Option ℕ) (x : Container) (m : ℕ) {l g : Option ℕ} → k ≢ Main → k ≢ Range → Tidy s.nodes s.used l g
    → Tidy (hang v s.used (push s.used (new_base k p x m) s)).nodes (hang v s.used (push s.used (new_base k p x m) s)).used l g
quiet_base s v k p x m h ra t =
    tidy_hang v s.used (push s.used (new_base k p x m) s) (tidy_used (tidy_fill t s.used (new_base k p x m) (omega arith) h refl (λ z. clash (cc)) ra) (suc s.used) (omega arith))

module _ {b : Bench} {hist : Hist} {now : ℕ} {first : ℕ → Option ℕ} (inv : Inv b hist now first) (c : ℕ) where
  abbrev th : Thread
  th = b.threads 0

  abbrev s : Store
  s = b.store

  abbrev pub w : World
  w = seen s.nodes s (here inv 0).ghost now

  pub mem : Mem w hist
  mem = (here inv 0).mem

  abbrev Ok : Turn → Type 0
  Ok = OkTurn s th c

  pub live_of : (x : ℕ) → Spotted s x → Live w x
  live_of x q = (reached_live mem q.depth x q.lo q.hi q.path).0

  pub child_of : (x : ℕ) (f : Bool) → (q : Spotted s x) → (s.nodes x).kind ≡ Route → Spotted s (kid_at f (s.nodes x))
  child_of x f q k = record { depth = suc q.depth; lo = _; hi = _; path = down q.depth x q.lo q.hi f q.path k refl refl refl refl }

  -- ---- 1, 2

  -- with i routes read where the stop is on
  arrive : (i x : ℕ) → Quiet s → (q : Spotted s x) → c ≡ q.depth → Ok (reached (λ z. shape (s.nodes z)) (reading s.stop.on i th) x)
  unfolding reached
  arrive r x t q e = fork s th c _ _ _ (λ k. (t, q, ap suc e, kind_route _ k)) (λ k. leaf th.action refl (kind_base _ k))
    where
      leaf : (a : Action) → th.action ≡ a → (s.nodes x).kind ≢ Route → Ok (at_leaf a (λ z. shape (s.nodes z)) (reading s.stop.on r th) x)
      leaf Lookup i k = (t, neither s th _ (λ z. clash (cc)) (λ z. clash (cc)))
      leaf Insert i k = (t, q, ap suc e, k)
      leaf Remove i k = (t, q, ap suc e, k)
      leaf Split i k = (t, q, ap suc e, k)
      leaf Join i k = (t, q, ap suc e, k)
      leaf Query i k = tt

  pub at_1 : Mine p1 s th c → Ok (step p1 (sight_of s) th)
  unfolding step
  at_1 (t, e) = arrive 0 s.root t (record { depth = 0; lo = 0; hi = 64; path = top refl refl refl refl }) e

  pub at_2 : s.stop.on ≡ false → Mine p2 s th c → Ok (step p2 (sight_of s) th)
  unfolding step followed child_of
  at_2 off (t, q, e, k) = subst (λ v. Ok (followed v (λ z. shape (s.nodes z)) (reading s.stop.on (one_more th.read) th) child)) (sym off)
      (arrive (one_more th.read) child t (child_of th.route (ltb th.station (s.nodes th.route).key) q k) e)
    where
      child : ℕ
      child = child_for th.station (shape (s.nodes th.route))

  -- ---- 3

  -- the route above a reachable base is its parent
  abbrev Above : ℕ → ℕ → Type 0
  Above p x = Spotted s p × ((s.nodes p).kind ≡ Route) × (f : Bool) × (kid_at f (s.nodes p) ≡ x)

  above : (x p : ℕ) → Quiet s → (q : Spotted s x) → (s.nodes x).kind ≢ Route → (s.nodes x).parent ≡ Some p → Above p x
  above x p t q ib e = go q.path
    where
      up : w.up x ≡ Some p
      up = up_parent mem t x ib (live_of x q) ∙ e

      go : {d lo hi : ℕ} → Reached s.nodes s.root d x lo hi → Above p x
      go (top _ i _ _) = absurd (clash (let z = mem.shape.root_up in let u = up in cc))
      go (down d r l h f c k _ i _ _) = let q' : Spotted s r = record { depth = d; lo = l; hi = h; path = c } in
          let z : r ≡ p = (let a = mem.routes.live_up r f k (live_of r q') in let u = up in cc) in
          subst (λ v. Above v x) z (q', k, f, sym i)

  -- too few stations, or no parent
  lacking : (a : Action) → th.action ≡ a → th.place ≡ 3 → lacks_as a (shape (s.nodes th.base)) ≡ true → Joined (row Lacking 0 0) s th
  lacking Lookup i p e = absurd (false≢true e)
  lacking Insert i p e = absurd (false≢true e)
  lacking Remove i p e = absurd (false≢true e)
  lacking Split i p e = ((λ z. absurd (clash (cc))), (λ _. inr (refl, p, ltb-true _ _ e)))
  lacking Query i p e = absurd (false≢true e)
  lacking Join i p e = ((λ _. inr (refl, p, none (s.nodes th.base).parent e)), (λ z. absurd (clash (cc))))
    where
      none : (l : Option ℕ) → is_nil l ≡ true → l ≡ None
      none None e = refl
      none (Some p) e = absurd (false≢true e)

  pub at_3 : s.stop.on ≡ false → Stands b 0 p3 → Mine p3 s th c → Ok (step p3 (sight_of s) th)
  unfolding step cleared lacks
  at_3 off e (t, q, n, ib) = fork s th c _ _ _ (λ z. (t, lacking th.action refl (number_of th.place p3 e (omega arith)) z))
      (λ _. pick_true Ok _ _ _ (base_ready mem t th.base ib (live_of th.base q)) (go th.action refl))
    where
      swaps : Ok (goes (at (swap own ReadLeft) th))
      swaps = let (v, o) = base_hangs mem t th.base ib (live_of th.base q) in (t, v, o, tt, omega (arith, reached_depth mem q.depth th.base q.lo q.hi q.path))

      link : (l : Option ℕ) → (s.nodes th.base).parent ≡ l → th.action ≡ Join → Ok (join_under false l th)
      link None z i = (t, ((λ _. inr (refl, number_of th.place p3 e (omega arith), z)), (λ y. absurd (clash (cc)))))
      link (Some p) z i = let (r, k, f, h) = above th.base p t q ib z in (f, record { act = i; quiet = t; reach = r; route = k; here = h })

      go : (a : Action) → th.action ≡ a → Ok (cleared_as a s.stop.on (shape (s.nodes th.base)) th)
      go Lookup i = (t, neither s th _ (λ z. clash (cc)) (λ z. clash (cc)))
      go Insert i = swaps
      go Remove i = swaps
      go Split i = swaps
      go Join i = subst (λ v. Ok (join_under v (s.nodes th.base).parent th)) (sym off) (link (s.nodes th.base).parent refl i)
      go Query i = tt

  -- ---- 10 to 13

  pub at_own : (q : Quarter) → Mine (swap own q) s th c → Ok (step (swap own q) (sight_of s) th)
  unfolding step replaced
  at_own q (t, v, o, h, n) = by _ (probed s th.base q v o h)
    where
      put : (a : Action) (v : Spot) → th.action ≡ a → Ok (replaced_as a v (shape (s.nodes th.base)) s.used th)
      put Lookup v i = tt
      put Insert v i = fork s th c _ _ _ (λ _. (quiet_base s v Normal _ _ 0 (λ z. clash (cc)) (λ z. clash (cc)) t, neither s th _ (λ z. clash (cc)) (λ z. clash (cc)))) (λ _. tt)
      put Remove v i = fork s th c _ _ _ (λ _. (quiet_base s v Normal _ _ 0 (λ z. clash (cc)) (λ z. clash (cc)) t, neither s th _ (λ z. clash (cc)) (λ z. clash (cc)))) (λ _. tt)
      put Split v i = fork s th c _ _ _ (λ _. (
        tidy_hang v s.used (store _ s.root (s.used + 3) s.stores s.shown s.stop) (tidy_used
            (tidy_fill (tidy_fill (tidy_fill t s.used _ (omega arith) (λ z. clash (cc)) refl (λ z. clash (cc)) (λ z. clash (cc))) (s.used + 1) _ (omega arith)
            (λ z. clash (cc)) refl (λ z. clash (cc)) (λ z. clash (cc))) (s.used + 2) _ (omega arith) (λ z. clash (cc)) refl (λ z. clash (cc)) (λ z. clash (cc)))
            (s.used + 3) (omega arith)),
        ((λ z. absurd (clash (cc))), (λ _. inl refl)),
      )) (λ _. tt)
      put Join v i = tt
      put Query v i = tt

      by : (p : Probe) → Probed s th.base q p → Ok (own_by p (shape (s.nodes th.base)) s.used th)
      by _ (struck v' o') = put th.action v' refl
      by _ (onward q' v' o' h' l) = rw (place_number (swap own q')) (t, v', o', h', omega arith)

  -- ---- 20 to 24

  pub at_20 : Mine p20 s th c → Ok (step p20 (sight_of s) th)
  unfolding step child_of
  at_20 (f, k) = fork s th c _ _ _ (λ e. record { act = k.act; quiet = k.quiet; reach = k.reach; route = k.route; here = eqb-true _ _ e })
      (λ e. record { act = k.act; quiet = k.quiet; reach = k.reach; route = k.route; here = other f k.here (eqb-false _ _ e) })
    where
      other : (f : Bool) → kid_at f (s.nodes th.parent) ≡ th.base → ((s.nodes th.parent).left ≡ th.base → ⊥) → (s.nodes th.parent).right ≡ th.base
      other true i z = absurd (z i)
      other false i z = i

  pub at_21 : Mine p21 s th c → Ok (step p21 (sight_of s) th)
  unfolding step child_of
  at_21 k = pick_true Ok _ _ _ (eq-eqb _ _ k.here) (record { act = k.act; quiet = k.quiet; reach = k.reach; route = k.route; here = k.here })

  besides : (x : ℕ) → Seek s th.action th.parent th.base th.left → Spotted s x → Ok (beside (λ z. shape (s.nodes z)) th x)
  unfolding beside
  besides x k q = fork s th c _ _ _ (λ e. (k, q, kind_route _ e)) (λ e. (k, q, kind_base _ e))

  pub at_22 : Mine p22 s th c → Ok (step p22 (sight_of s) th)
  unfolding step child_of
  at_22 k = besides _ k (child_of th.parent (not th.left) k.reach k.route)

  pub at_23 : Mine p23 s th c → Ok (step p23 (sight_of s) th)
  unfolding step child_of
  at_23 (k, q, r) = besides _ k (child_of th.route th.left q r)

  pub at_24 : Mine p24 s th c → Ok (step p24 (sight_of s) th)
  unfolding step child_of
  at_24 (k, q, ib) = pick_true Ok _ _ _ (base_ready mem k.quiet th.found ib (live_of th.found q)) (k, q, ib)
