-- The one writer's places 25 to 35: its join, up to the swap that makes its main's stage a node number.
use Rattle.std.specs.Prelude.{Option, Some, None}
use mathlib.Core.Path.{◌≡◌, refl, sym, ◌∙◌, ap, subst}
use mathlib.Core.Logic.{◌≢◌, ◌⊎◌, inl, inr}
use mathlib.Core.Bool.{Bool, true, false, cond}
use Prim.Native.Nat.{ℕ, suc, ◌<◌, ◌≤◌}
use native.Mathlib.Omega.{arith}
use lib.Dec.{eqb, ltb}
use borrow.Author.Tests.{eq-eqb, ne_eqb, eqb-true, eqb-false}
use Rattle.container.specs.Choice.{upd}
use Rattle.container.specs.Depths.{Container}
use Rattle.definitions.specs.declared.Kind.TheVariants.{Main, Neighbour}
use Rattle.definitions.specs.declared.Action.{Action}
use Rattle.definitions.specs.declared.Quarter.{Quarter}
use Rattle.definitions.specs.declared.Quarter.TheVariants.{ReadLeft}
use Rattle.definitions.specs.declared.Spot.{Spot}
use Rattle.definitions.specs.declared.Spot.TheVariants.{Root, Under}
use Rattle.definitions.specs.declared.Probe.{Probe}
use Rattle.definitions.specs.Threads.{Thread, Turn}
use Rattle.definitions.specs.Nodes.{Nodes, new_base, child_for, with_mark, committed, is_route, is_preparing, Entry, shape, over}
use Rattle.definitions.specs.Bench.{sight_of, Store, Bench}
use Rattle.definitions.specs.Places.{p25, p30, p31, p32, p33, p34, p35, p40, swap, found, at}
use Rattle.definitions.specs.Effects.{push, hang, write}
use Rattle.definitions.specs.Steps.{found_by, is_nil, step}
use Rattle.answers.proofs.Tools.{◌==?◌, clash}
use Rattle.answers.proofs.Memory.{kid_at, World, Hist, Live, Born, lives, key_of}
use Rattle.answers.proofs.Facts.{goal}
use Rattle.answers.proofs.Invariant.{Inv, Stands}
use Rattle.answers.proofs.Shown.{kind_route}
use Rattle.answers.proofs.ReadPlaces.{know_now}
use Rattle.answers.proofs.PlaceNumbers.{place_number}
use Rattle.answers.proofs.Descent.{reached_live}
use Rattle.answers.specs.Reachable.{top}
use Rattle.profile.proofs.Tidy.{Tidy, at_same, at_other_lem, alike_hang, used_hang, tidy_used, tidy_fill, tidy_hang, tidy_main, new_unmarked, tidy_parent, tidy_grand, tidy_close}
use Rattle.profile.proofs.Alone.{base_hangs, unmarked, top_inside, top_route, below}
use Rattle.profile.proofs.Mine.{Sits, Probed, struck, onward, probed, keep_sits, new_sits, push_sits, Spotted, Seek, Work, Unmarked, Hung, Climb, Over, Mine}
use Rattle.profile.proofs.EarlyPlaces.{OkTurn, fork, pick_true, quiet_base, w, mem, live_of, child_of}

-- ---- a node with kind, parent and children as they were

pub record Frame (v v' : Entry) : Type 0 where
  pub kind : v.kind ≡ v'.kind
  pub parent : v.parent ≡ v'.parent
  pub left : v.left ≡ v'.left
  pub right : v.right ≡ v'.right

pub frame_kid : (v v' : Entry) → Frame v v' → (f : Bool) → kid_at f v ≡ kid_at f v'
frame_kid v v' k true = k.left
frame_kid v v' k false = k.right

pub frame_upd : (n : Nodes) (i : ℕ) (v : Entry) → Frame v (n i) → (x : ℕ) → Frame (upd n i v x) (n x)
frame_upd n i v a x = elim (x ==? i) [
  | yes e ↦ rw (eq-eqb x i e, e) a
  | no e ↦ rw (ne_eqb x i e) (record { kind = refl; parent = refl; left = refl; right = refl })
]

-- every node used so far
abbrev pub Framed : Store → Store → Type 0
Framed s s' = (x : ℕ) → x < s.used → Frame (s'.nodes x) (s.nodes x)

pub framed_mark : (s : Store) (r : ℕ) (k : Option ℕ) → Framed s (write r (over (with_mark k) (s.nodes r)) s)
framed_mark s r k x _ = frame_upd s.nodes r _ (record { kind = refl; parent = refl; left = refl; right = refl }) x

module _ (s s' : Store) (fr : Framed s s') (u : s.used ≤ s'.used) where
  pub hung_on : s'.root ≡ s.root → (x : ℕ) → Hung s x → Hung s' x
  hung_on r x h = record { spot = h.spot; sits = go h.spot h.sits; low = omega (arith, h.low); base = λ e. h.base (sym (fr x h.low).kind ∙ e) }
    where
      go : (v : Spot) → Sits s v x → Sits s' v x
      go Root (e, i) = ((fr x h.low).parent ∙ e, r ∙ i)
      go (Under p f) (e, i, l) = ((fr x h.low).parent ∙ e, frame_kid _ _ (fr p l) f ∙ i, omega arith)

  pub work_on : {a : Action} {o : Bool} {m P : ℕ} {g g' : Option ℕ} → Work s a o m P g → Tidy s'.nodes s'.used (Some m) g' → (s'.nodes m).stage ≡ (s.nodes m).stage → Work s' a o m P g'
  work_on {m = m} {P = P} k t e = let l = (k.tidy.mains m k.kind).0 in record {
    act = k.act;
    owner = k.owner;
    tidy = t;
    kind = (fr m l).kind ∙ k.kind;
    stage = e ∙ k.stage;
    parent = (fr m l).parent ∙ k.parent;
    route = (fr P k.low).kind ∙ k.route;
    low = omega (arith, k.low);
  }

  pub over_on : s'.root ≡ s.root → ((x : ℕ) → x < s.used → (s'.nodes x).mark ≡ (s.nodes x).mark) → (m P : ℕ) (g : Option ℕ) → Over s m P g → Over s' m P g
  over_on r k m P None h = r ∙ h
  over_on r k m P (Some G) (f, (i, j, l)) = (f, (frame_kid _ _ (fr G l) f ∙ i, k G l ∙ j, omega arith))

module _ {b : Bench} {hist : Hist} {now : ℕ} {first : ℕ → Option ℕ} (inv : Inv b hist now first) (c : ℕ) where
  abbrev th : Thread
  th = b.threads 0

  abbrev s : Store
  s = b.store

  abbrev W : World
  W = w inv c

  abbrev Ok : Turn → Type 0
  Ok = OkTurn s th c

  -- the new nodes of 25 and of 26 to 29
  abbrev M : Entry
  M = new_base Main (s.nodes th.base).parent (s.nodes th.base).container 0

  abbrev N : Entry
  N = new_base Neighbour (s.nodes th.found).parent (s.nodes th.found).container th.main

  abbrev s1 : Store
  s1 = push s.used N s

  -- a route's mark set
  abbrev marked : ℕ → Store
  marked r = write r (over (with_mark (Some th.main)) (s.nodes r)) s

  stage_mark : (r x : ℕ) → ((marked r).nodes x).stage ≡ (s.nodes x).stage
  stage_mark r x = elim (x ==? r) [ yes e ↦ rw (eq-eqb x r e, e) refl | no e ↦ rw (ne_eqb x r e) refl ]

  -- ---- 25

  -- the base found is another
  other_base : Stands b 0 p25 → Seek s th.action th.parent th.base th.left → th.base ≢ th.found
  other_base e k z = go th.left _ _ ((mem inv c).routes.live_lo th.parent th.left k.route lp) ((mem inv c).routes.live_hi th.parent th.left k.route lp)
      (subst (λ v. (W.lo v ≤ goal W th.parent th.left) × (goal W th.parent th.left < W.hi v)) (sym z ∙ sym k.here) ((know_now inv 0 p25 e).1.search k.here))
    where
      lp : Live W th.parent
      lp = live_of inv c th.parent k.reach

      go : (f : Bool) (x y : ℕ) → x ≡ cond f (W.lo th.parent) (key_of W th.parent) → y ≡ cond f (key_of W th.parent) (W.hi th.parent) → (x ≤ goal W th.parent f) × (goal W th.parent f < y) → ⊥
      go true x y i j h = omega arith
      go false x y i j h = omega (arith, (mem inv c).routes.key th.parent k.route (lives lp))

  pub at_25 : Stands b 0 p25 → Mine p25 s th c → Ok (step p25 (sight_of s) th)
  unfolding step
  at_25 e (k, q, ib) = pick_true Ok _ _ _ (eq-eqb _ _ k.here) (fork s th c _ _ _ (λ _. made) (λ _. tt))
    where
      made : Mine (swap found ReadLeft) (hang (Under th.parent th.left) s.used (push s.used M s))
          (record {
            action = th.action;
            station = th.station;
            extra = th.extra;
            place = 26;
            route = th.route;
            read = th.read;
            base = th.base;
            parent = th.parent;
            left = th.left;
            found = th.found;
            neighbour = th.neighbour;
            main = s.used;
            owner = true;
            grandparent = th.grandparent;
            other = th.other;
            frames = th.frames;
          }) (suc c)
      made = let u = s.used in let v = M in let sp = Under th.parent th.left in let s1 = push u v s in
          let lp : th.parent < u = (mem inv c).shape.low th.parent (lives (live_of inv c th.parent k.reach)) in
          let lf : th.found < u = (mem inv c).shape.low th.found (lives (live_of inv c th.found q)) in
          let zp : s1.nodes th.parent ≡ s.nodes th.parent = at_other_lem s.nodes u th.parent v (λ z. omega arith) in
          let zf : s1.nodes th.found ≡ s.nodes th.found = at_other_lem s.nodes u th.found v (λ z. omega arith) in
          let zu : s1.nodes u ≡ v = at_same s.nodes u v in
          let (v0, o) = base_hangs (mem inv c) k.quiet th.found ib (live_of inv c th.found q) in (
            record {
              act = k.act;
              owner = refl;
              tidy = tidy_hang sp u s1 (tidy_main k.quiet v refl (λ z. clash (cc)) (λ z. clash (cc)));
              kind = (alike_hang sp u s1 u).kind ∙ ap (λ z. z.kind) zu;
              stage = (alike_hang sp u s1 u).stage ∙ ap (λ z. z.stage) zu;
              parent = (alike_hang sp u s1 u).parent ∙ ap (λ z. z.parent) zu ∙ (know_now inv 0 p25 e).0.parent;
              route = (alike_hang sp u s1 th.parent).kind ∙ ap (λ z. z.kind) zp ∙ k.route;
              low = omega arith;
            },
            (λ r z. new_unmarked k.quiet v refl r (sym (alike_hang sp u s1 r).mark ∙ z)),
            v0,
            keep_sits sp u s1 v0 th.found (λ z. other_base e k (sym (ap (kid_at th.left) zp ∙ k.here) ∙ z)) (push_sits s v0 th.found v lf o),
            tt,
            omega arith,
            (λ z. ib (sym (ap (λ y. y.kind) zf) ∙ sym (alike_hang sp u s1 th.found).kind ∙ z)),
          )

  -- ---- 26 to 29

  pub at_found_lem : (q : Quarter) → Mine (swap found q) s th c → Ok (step (swap found q) (sight_of s) th)
  unfolding step
  at_found_lem q (k, um, v, o, h, l, ib) = by _ (probed s th.found q v o h)
    where
      neigh : (v : Spot) → Sits s v th.found → Work (hang v s.used s1) th.action th.owner th.main th.parent None × Unmarked (hang v s.used s1) th.main × Hung (hang v s.used s1) s.used
      neigh v o = let u = s.used in
          let lm : th.main < u = (k.tidy.mains th.main k.kind).0 in
          let zm : s1.nodes th.main ≡ s.nodes th.main = at_other_lem s.nodes u th.main N (λ z. omega arith) in
          let zp : s1.nodes th.parent ≡ s.nodes th.parent = at_other_lem s.nodes u th.parent N (λ z. omega (arith, k.low)) in
          let zf : s1.nodes th.found ≡ s.nodes th.found = at_other_lem s.nodes u th.found N (λ z. omega arith) in
          let zu : s1.nodes u ≡ N = at_same s.nodes u N in (
            record {
              act = k.act;
              owner = k.owner;
              tidy = quiet_base s v Neighbour _ _ _ (λ z. clash (cc)) (λ z. clash (cc)) k.tidy;
              kind = (alike_hang v u s1 th.main).kind ∙ ap (λ z. z.kind) zm ∙ k.kind;
              stage = (alike_hang v u s1 th.main).stage ∙ ap (λ z. z.stage) zm ∙ k.stage;
              parent = (alike_hang v u s1 th.main).parent ∙ ap (λ z. z.parent) zm ∙ k.parent;
              route = (alike_hang v u s1 th.parent).kind ∙ ap (λ z. z.kind) zp ∙ k.route;
              low = rw (used_hang v u s1) (omega (arith, k.low));
            },
            (λ r z. none r (sym (alike_hang v u s1 r).mark ∙ z)),
            record {
              spot = v;
              sits = new_sits v s1 u th.found (ap (λ z. z.parent) zu ∙ sym (ap (λ z. z.parent) zf)) (push_sits s v th.found N l o);
              low = rw (used_hang v u s1) (omega arith);
              base = λ z. clash (let a = (alike_hang v u s1 u).kind in let y = ap (λ z. z.kind) zu in cc);
            },
          )
        where
          none : (r : ℕ) → (s1.nodes r).mark ≢ Some th.main
          none r = elim (r ==? s.used) [ yes e ↦ rw (eq-eqb r s.used e) (λ z. clash (cc)) | no e ↦ rw (ne_eqb r s.used e) (um r) ]

      by : (p : Probe) → Probed s th.found q p → Ok (found_by p (shape (s.nodes th.found)) s.used th)
      by _ (struck v' o') = fork s th c _ _ _ (λ _. neigh v' o') (λ _. tt)
      by _ (onward q' v' o' h' _) = rw (place_number (swap found q')) (k, um, v', o', h', l, ib)

  -- ---- 30 to 33

  -- the parent is live as long as the main is preparing
  live_parent : Born W th.main → Work s th.action th.owner th.main th.parent None → Live W th.parent
  live_parent bo k = ((mem inv c).mains.prep th.main th.parent k.kind bo k.stage k.parent).0

  pub free_30 : Stands b 0 p30 → Mine p30 s th c → (s.nodes th.parent).mark ≡ None
  free_30 e (k, um, h) = unmarked (mem inv c) k.tidy th.parent k.route (live_parent (know_now inv 0 p30 e).0.owns.born k) (λ m z i. um th.parent (i ∙ sym z))

  pub at_30 : Stands b 0 p30 → Mine p30 s th c → Ok (step p30 (sight_of s) th)
  unfolding step
  at_30 e (k, um, h) = pick_true Ok _ _ _ (ap is_nil (free_30 e (k, um, h))) (
    work_on s (marked th.parent) (framed_mark s th.parent (Some th.main)) (omega arith) k (tidy_parent s.nodes s.used th.main k.kind th.parent k.tidy k.parent) (stage_mark th.parent th.main),
    hung_on s (marked th.parent) (framed_mark s th.parent (Some th.main)) (omega arith) refl th.neighbour h,
  )

  pub at_31 : Stands b 0 p31 → Mine p31 s th c → Ok (step p31 (sight_of s) th)
  unfolding step
  at_31 e (k, h) = fork s th c _ _ _ (λ z. (k, h, eqb-true _ _ z)) (λ z. let lp = live_parent (know_now inv 0 p31 e).0.owns.born k in
      let tr = top_route (mem inv c) th.parent k.route lp in let (i, j) = top_inside (mem inv c) th.parent k.route lp in
      pick_true Ok _ _ _ tr (
        k,
        h,
        record {
          reach = record { depth = 0; lo = 0; hi = 64; path = top refl refl refl refl };
          route = kind_route _ tr;
          apart = eqb-false _ _ z;
          from_lo = rw (mem inv c).shape.root_lo at i;
          to_hi = rw (mem inv c).shape.root_hi at j;
        },
      ))

  abbrev x : ℕ
  x = child_for (s.nodes th.parent).key (shape (s.nodes th.route))

  pub at_32 : Stands b 0 p32 → Mine p32 s th c → Ok (step p32 (sight_of s) th)
  unfolding step
  at_32 e (k, h, u) = fork s th c _ _ _
      (λ z. (k, h, th.route, refl, record { reach = u.reach; route = u.route; apart = u.apart; side = side; here = eqb-true _ _ z }))
      (λ z. pick_true Ok _ _ _ next.0 (k, h, climbs z))
    where
      lp : Live W th.parent
      lp = live_parent (know_now inv 0 p32 e).0.owns.born k

      side : Bool
      side = ltb (s.nodes th.parent).key (s.nodes th.route).key

      from : Live W th.route × (W.lo th.route ≡ u.reach.lo) × (W.hi th.route ≡ u.reach.hi)
      from = let (a, i, j, _) = reached_live (mem inv c) u.reach.depth th.route u.reach.lo u.reach.hi u.reach.path in (a, i, j)

      next : (is_route (s.nodes x).kind ≡ true) × ((W.lo x < (s.nodes th.parent).key) × ((s.nodes th.parent).key < W.hi x))
      next = let (a, i, j) = from in below (mem inv c) th.parent k.route lp th.route u.route a u.apart (omega (arith, u.from_lo), omega (arith, u.to_hi))

      there : Spotted s x
      there = child_of inv c th.route (ltb (s.nodes th.parent).key (s.nodes th.route).key) u.reach u.route

      climbs : eqb x th.parent ≡ false → Climb s x th.parent
      climbs z = let (_, i, j, _) = reached_live (mem inv c) there.depth x there.lo there.hi there.path in let (_, (p, q)) = next in
          record { reach = there; route = kind_route _ next.0; apart = eqb-false _ _ z; from_lo = omega arith; to_hi = omega arith }

  pub free_33 : (o : Mine p33 s th c) → (s.nodes o.2).mark ≡ None
  free_33 (k, h, G, e, a) = unmarked (mem inv c) k.tidy G a.route (live_of inv c G a.reach) (λ m z i. go m z i (k.tidy.marks G m i).1)
    where
      go : (m : ℕ) → ◌≡◌ {A = Option ℕ} (Some th.main) (Some m) → (s.nodes G).mark ≡ Some m
          → ((s.nodes m).parent ≡ Some G) ⊎ ((◌≡◌ {A = Option ℕ} (Some th.main) (Some m)) × (◌≡◌ {A = Option ℕ} None (Some G))) → ⊥
      go m z i (inl p) = a.apart (let v = k.parent in let y : th.main ≡ m = cc in cc)
      go m z i (inr (_, p)) = clash (cc)

  pub at_33 : Mine p33 s th c → Ok (step p33 (sight_of s) th)
  unfolding step
  at_33 (k, h, G, e, a) = rw e (pick_true Ok _ _ _ (ap is_nil (free_33 (k, h, G, e, a))) (rw e (
    work_on s (marked G) (framed_mark s G (Some th.main)) (omega arith) k (tidy_grand s.nodes s.used th.main k.kind G k.tidy) (stage_mark G th.main),
    hung_on s (marked G) (framed_mark s G (Some th.main)) (omega arith) refl th.neighbour h,
    (a.side, (frame_kid _ _ (framed_mark s G (Some th.main) G lg) a.side ∙ a.here, ap (λ z. z.mark) (at_same s.nodes G (over (with_mark (Some th.main)) (s.nodes G))), lg)),
  )))
    where
      lg : G < s.used
      lg = (mem inv c).shape.low G (lives (live_of inv c G a.reach))

  -- ---- 34, 35

  pub at_34 : Mine p34 s th c → Ok (step p34 (sight_of s) th)
  unfolding step
  at_34 k = k

  -- the union node U, and the main closed
  abbrev united : Option ℕ → Container → Entry
  united p x = new_base Neighbour p x th.main

  abbrev s2 : Option ℕ → Container → Store
  s2 p x = push s.used (united p x) s

  abbrev C : Option ℕ → Container → Entry
  C p x = over (committed s.used th.neighbour th.grandparent th.other) ((s2 p x).nodes th.main)

  abbrev s3 : Option ℕ → Container → Store
  s3 p x = write th.main (C p x) (s2 p x)

  closes : (p : Option ℕ) (x : Container) → Mine p35 s th c → Mine p40 (s3 p x) (at p40 th) (suc c)
  closes p x (k, h, o) = (
    th.parent,
    record {
      act = k.act;
      owner = k.owner;
      tidy = subst (λ z. Tidy (s3 p x).nodes (s3 p x).used (Some th.main) z) (sym (ap (λ z. z.grandparent) zm))
          (tidy_close (s2 p x).nodes (suc s.used) th.main (C p x) (record { kind = refl; mark = refl; parent = refl })
          (tidy_used (tidy_fill k.tidy s.used (united p x) (omega arith) (λ z. clash (cc)) refl (λ z. clash (cc)) (λ z. clash (cc))) (suc s.used) (omega arith)) (λ z. clash (cc)));
      kind = (fr th.main lm).kind ∙ k.kind;
      stage = ap (λ z. z.stage) zm;
      parent = (fr th.main lm).parent ∙ k.parent;
      route = (fr th.parent k.low).kind ∙ k.route;
    },
    subst (λ z. Over (s3 p x) th.main th.parent z) (sym (ap (λ z. z.grandparent) zm)) (over_on s (s3 p x) fr (omega arith) refl marks th.main th.parent th.grandparent o),
    subst (λ z. Hung (s3 p x) z) (sym (ap (λ z. z.neighbour) zm)) (hung_on s (s3 p x) fr (omega arith) refl th.neighbour h),
  )
    where
      lm : th.main < s.used
      lm = (k.tidy.mains th.main k.kind).0

      zm : (s3 p x).nodes th.main ≡ C p x
      zm = at_same (s2 p x).nodes th.main (C p x)

      old : (y : ℕ) → y < s.used → (s2 p x).nodes y ≡ s.nodes y
      old y l = at_other_lem s.nodes s.used y (united p x) (λ z. omega arith)

      fr : Framed s (s3 p x)
      fr y l = let a = frame_upd (s2 p x).nodes th.main (C p x) (record { kind = refl; parent = refl; left = refl; right = refl }) y in let z = old y l in
          record { kind = a.kind ∙ ap (λ v. v.kind) z; parent = a.parent ∙ ap (λ v. v.parent) z; left = a.left ∙ ap (λ v. v.left) z; right = a.right ∙ ap (λ v. v.right) z }

      marks : (y : ℕ) → y < s.used → ((s3 p x).nodes y).mark ≡ (s.nodes y).mark
      marks y l = elim (y ==? th.main) [
        | yes e ↦ ap (λ v. ((s3 p x).nodes v).mark) e ∙ ap (λ v. v.mark) zm ∙ ap (λ v. v.mark) (old th.main lm) ∙ ap (λ v. (s.nodes v).mark) (sym e)
        | no e ↦ ap (λ v. v.mark) (at_other_lem (s2 p x).nodes th.main y (C p x) e) ∙ ap (λ v. v.mark) (old y l)
      ]

  pub at_35 : Mine p35 s th c → Ok (step p35 (sight_of s) th)
  unfolding step
  at_35 o = pick_true Ok _ _ _ (ap is_preparing o.0.stage) (fork s th c _ _ _ (λ _. closes _ _ o) (λ _. tt))
