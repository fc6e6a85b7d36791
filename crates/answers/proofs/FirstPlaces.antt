-- 60, 61 and 62: a frame's search for its first base. It rests on FrameSteps.antt and Adding.antt.
use Rattle.std.specs.Prelude.{Option, Some, None}
use mathlib.Core.Path.{◌≡◌, refl, sym, ◌∙◌, ap, subst}
use mathlib.Core.Logic.{◌⊎◌, inl, inr}
use mathlib.Core.Bool.{Bool, true, false, cond, true≢false, false≢true}
use mathlib.Core.List.{List, [], ◌∷◌}
use Prim.Native.Nat.{ℕ, suc, ◌<◌, ◌≤◌}
use native.Mathlib.Omega.{arith}
use lib.Dec.{eqb, leb, ltb}
use borrow.Author.Tests.{eq-eqb, leb-true}
use Rattle.definitions.specs.declared.Kind.{Kind}
use Rattle.definitions.specs.declared.Kind.TheVariants.{Normal, Route, Main, Neighbour, Range}
use Rattle.definitions.specs.declared.Node.{Node}
use Rattle.definitions.specs.declared.Effect.TheVariants.{Quiet}
use Rattle.definitions.specs.Nodes.{Shapes, Nodes, child_for, check_store, check_as, check, is_replaceable, replaceable, is_route, shape}
use Rattle.definitions.specs.Bench.{Bench, sight_of}
use Rattle.definitions.specs.Threads.{Frame, Thread, Turn}
use Rattle.definitions.specs.Places.{Place, p60, p61, p62, at_frames}
use Rattle.definitions.specs.Frames.{top_of, pushed, in_hand, asks, adds, is_of, is_range, in_frame, found_first}
use Rattle.definitions.specs.Steps.{goes, reached_first, is_query, step}
use Rattle.definitions.specs.Claim.{moment, opened}
use Rattle.answers.proofs.Tools.{clash}
use Rattle.answers.proofs.Memory.{World, Hist, Live, Born, lives, In, kind_of, IsBase, Waits, Of, Mem}
use Rattle.answers.proofs.Facts.{Replaceable, Fresh}
use Rattle.answers.proofs.FrameFacts.{Blocks, first_base, Climb, Asks, free, rides, Own, PileOf, Unless, Downward, Opening, TopOf, Member, Hung, Over, top_routed}
use Rattle.answers.proofs.Readings.{down}
use Rattle.answers.proofs.Knows.{looks, Know, asks_of}
use Rattle.answers.proofs.Invariant.{Ghost, Agrees, Inv, alike, NotBack, Stands, seen, pile_alike}
use Rattle.answers.proofs.Shown.{kind_route, kind_base, Good, either, T'}
use Rattle.answers.proofs.ReadPlaces.{go_on, go_frames, know_now, repl_at}
use Rattle.answers.proofs.Returns.{pile_moved}
use Rattle.answers.proofs.Adding.{Adds, adding_by, pile_asks, pile_takes}
use Rattle.answers.proofs.StackSteps.{kid_hung, over_top}
use Rattle.answers.proofs.FrameSteps.{first_of, first_asks, range_within, root_parent}

pub is_of_lem : (S : ℕ) (v : Node) → v.kind ≡ Range → v.store ≡ S → is_of S v ≡ true
is_of_lem S v k e = rw k (eq-eqb v.store S e)

pub range_kind : (k : Kind) → is_range k ≡ true → k ≡ Range
range_kind Normal e = absurd (false≢true e)
range_kind Route e = absurd (false≢true e)
range_kind Main e = absurd (false≢true e)
range_kind Neighbour e = absurd (false≢true e)
range_kind Range e = refl

pub two_of : (c d : Bool) → cond c d false ≡ true → (c ≡ true) × (d ≡ true)
two_of true d e = (refl, e)
two_of false d e = absurd (false≢true e)

pub of_is : (S : ℕ) (v : Node) → is_of S v ≡ true → (v.kind ≡ Range) × (v.store ≡ S)
of_is S v e = let (a, c) = two_of (is_range v.kind) (eqb v.store S) e in (range_kind v.kind a, borrow.Author.Tests.eqb-true v.store S c)

-- an unset range base is what is not replaceable among range bases
not_set : (v : Option ℕ) (b : Node) → is_replaceable (check_store v b) ≡ false → v ≡ None
not_set None b e = refl
not_set (Some c) b e = absurd (true≢false e)

range_unset : (n : Shapes) (st : ℕ → Option ℕ) (x : ℕ) → (n x).kind ≡ Range → replaceable n st x ≡ false → st (n x).store ≡ None
unfolding check replaceable
range_unset n st x k e = not_set _ (n x) (ap (λ v. is_replaceable (check_as v n st x)) (sym k) ∙ e)

module _ {b : Bench} {hist : Hist} {now : ℕ} {first : ℕ → Option ℕ} (inv : Inv b hist now first) (t : ℕ) where
  abbrev th : Thread
  th = b.threads t

  abbrev W' : Nodes → Ghost → World
  W' n g = seen n b.store g (suc now)

  -- the frame that is carried on
  pub framed_ok : (fs : List Frame) → th.frames ≡ fs → (k : Frame → List Frame → Turn) → ((f : Frame) (gs : List Frame) → th.frames ≡ f ∷ gs → Good inv t (k f gs)) → Good inv t (in_frame fs k)
  framed_ok [] e k h = tt
  framed_ok (f ∷ fs) e k h = h f fs e

  -- a thread that goes on is no lookup
  pub on_not_back : (th' : Thread) → looks th.action ≡ false → th'.action ≡ th.action → NotBack th'
  on_not_back th' l e _ i = true≢false (sym i ∙ ap looks e ∙ l)

  pub first_on : 0 < T' inv t
  first_on = rw (eq-eqb t t refl) (go (first t) (inv.counted t))
    where
      go : (l : Option ℕ) → ((k : ℕ) → l ≡ Some k → 0 < k) → 0 < moment (opened l now)
      go None h = omega arith
      go (Some k) h = h k refl

  module _ (p : Place) (e : Stands b t p) (f : Frame) (fs : List Frame) (E : th.frames ≡ f ∷ fs) (nl : looks th.action ≡ false) where
    abbrev PileF : World → Type 0
    PileF w = PileOf w hist (T' inv t) th (f ∷ fs)

    -- the node x reached, with s below it on the stack
    abbrev Reaching : ℕ → List ℕ → Type 0
    Reaching x s = (n : Nodes) (g : Ghost) → Agrees b.store n → Mem (W' n g) hist → Know p (W' n g) (moment (first t)) th → PileF (W' n g)
        → (f.begun ≡ false) × Born (W' n g) x × In (W' n g) f.lower x × Climb (W' n g) s × Unless (W' n g) f (λ S. Fresh (W' n g) (g.tale S).birth x) × (s ≡ [] → x ≡ b.store.root)
        × ((z : ℕ) → Member z s → In (W' n g) f.lower z) × ((kind_of (W' n g) x ≡ Route) ⊎ Live (W' n g) x → Hung (g.up x) s) × (kind_of (W' n g) x ≡ Route → Over x s)

    module _ (x : ℕ) (s : List ℕ) (R : Reaching x s) where
      bx : ℕ
      bx = x

      base_at_lem : (n : Nodes) (g : Ghost) → Agrees b.store n → Mem (W' n g) hist → Born (W' n g) x → is_route (b.store.nodes x).kind ≡ false → IsBase (W' n g) x
      base_at_lem n g a m bo h = rw (a x (m.shape.low x bo)) (kind_base _ h)

      -- 82: the store is set, since an unset one's first base would have been found
      is_ready : (S : ℕ) → f.store ≡ Some S → is_route (b.store.nodes x).kind ≡ false → is_of S (shape (b.store.nodes x)) ≡ false → (n : Nodes) (g : Ghost) → Agrees b.store n → Mem (W' n g) hist
          → Know p (W' n g) (moment (first t)) th → PileF (W' n g) → (v : Option ℕ) → b.store.stores S ≡ v → (S c : ℕ) × (f.store ≡ Some S) × (b.store.stores S ≡ Some c)
      is_ready S i h o n g a m k pl (Some c) q = (S, c, i, q)
      is_ready S i h o n g a m k pl None q = let (bg, bo, ir, cl, fr, _, _, _, _) = R n g a m k pl in let as₀ = asks_of (W' n g) hist (T' inv t) th (f ∷ fs) pl S i in
          let v = first_of m S x as₀.low q (base_at_lem n g a m bo h) (rw (← as₀.lower) ir) (fr S i q) in let z = a x (m.shape.low x bo) in
          absurd (true≢false (sym (is_of_lem S (shape (b.store.nodes x)) (sym (ap (λ v. v.kind) z) ∙ v.0) (sym (ap (λ v. v.store) z) ∙ v.1)) ∙ o))

      to_add : (S : ℕ) → f.store ≡ Some S → is_route (b.store.nodes x).kind ≡ false → is_of S (shape (b.store.nodes x)) ≡ true → (th' : Thread)
          → Adds th (adds (b.store.nodes x).container.set (in_hand x s f)) fs (b.store.nodes x).container.set th'
          → Good inv t (goes th')
      to_add S i h o th' ad = go_frames inv t p th' e ad.station (on_not_back th' nl ad.action) ad.apart (λ n g a m k pl₀.
          let pl : PileF (W' n g) = subst (λ v. PileOf (W' n g) hist (T' inv t) th v) E pl₀ in let (bg, bo, ir, cl, fr, rt, en, hu, ov) = R n g a m k pl in
          let as₀ = asks_of (W' n g) hist (T' inv t) th (f ∷ fs) pl S i in let z = a x (m.shape.low x bo) in let (kk, ks) = of_is S (shape (b.store.nodes x)) o in
          let ox : Of (W' n g) S x = (ap (λ v. v.kind) z ∙ kk, ap (λ v. v.store) z ∙ ks) in
          let as₁ = first_asks m f S x s (b.store.nodes x).container.set as₀ bg (ap (λ v. v.container.set) (sym z)) ox bo ir cl (λ y. ap (λ v. g.hi v) (rt y) ∙ m.shape.root_hi) (λ l. hu (inr l)) en in
          ad.knows (W' n g) hist (T' inv t) nl (pile_asks (W' n g) hist (T' inv t) th f (adds (b.store.nodes x).container.set (in_hand x s f)) fs S i as₁ pl)
          (λ S' i' q y v. let u : S ≡ S' = cc in let q' : Waits (W' n g) S = rw u q in (range_within m S x y ox (m.tales.holds S x ox bo q').0 (rw z v)).1) (ap (λ v. v.container.set) (sym z)))

      at_base_lem : (l : Option ℕ) → f.store ≡ l → is_route (b.store.nodes x).kind ≡ false → Good inv t (found_first l (shape (b.store.nodes x)) (in_hand x s f) fs th)
      at_base_lem None i h = go_frames inv t p _ e refl (λ z _. clash (cc)) refl (λ n g a m k pl₀.
          let pl : PileF (W' n g) = subst (λ v. PileOf (W' n g) hist (T' inv t) th v) E pl₀ in let (bg, bo, ir, cl, fr, rt, en, hu, ov) = R n g a m k pl in let ib = base_at_lem n g a m bo h in (
            (
              record {
                begun = bg;
                free = i;
                at = record { kind = ib; born = bo; range = ir };
                climb = cl;
                alone = λ y. ap (λ v. (n v).parent) (rt y) ∙ root_parent m (λ v. ib (ap (λ u. (n u).kind) (rt y) ∙ v));
                entries = en;
                hung = λ l. hu (inr l);
              },
              nl,
            ),
            pile_alike (W' n g) hist (T' inv t) th _ (in_hand x s f ∷ fs) refl refl refl (pile_moved (W' n g) hist (T' inv t) th (x ∷ s) x f.popped f.key f fs pl),
          ))
      at_base_lem (Some S) i h = either inv t _ _ _
          (λ o. adding_by th Quiet (Good inv t) (either inv t) (b.store.nodes x).container.set (in_hand x s f) fs (to_add S i h o))
          (λ o. go_frames inv t p _ e refl (λ z _. clash (cc)) refl (λ n g a m k pl₀.
          let pl : PileF (W' n g) = subst (λ v. PileOf (W' n g) hist (T' inv t) th v) E pl₀ in (
            (is_ready S i h o n g a m k pl _ refl, nl),
            pile_alike (W' n g) hist (T' inv t) th _ (in_hand x s f ∷ fs) refl refl refl (pile_moved (W' n g) hist (T' inv t) th (x ∷ s) x f.popped f.key f fs pl),
          )))

      push_in : (w : World) (σ x : ℕ) (s : List ℕ) → In w σ x → ((z : ℕ) → Member z s → In w σ z) → (z : ℕ) → Member z (x ∷ s) → In w σ z
      push_in w σ x s i h z (inl q) = rw q i
      push_in w σ x s i h z (inr v) = h z v

      pub reach_first : Good inv t (reached_first (sight_of b.store).nodes x s f fs th)
      unfolding reached_first
      reach_first = either inv t _ _ _
          (λ h. go_frames inv t p _ e refl (λ z _. clash (cc)) refl (λ n g a m k pl₀.
          let pl : PileF (W' n g) = subst (λ v. PileOf (W' n g) hist (T' inv t) th v) E pl₀ in let (bg, bo, ir, cl, fr, rt, en, hu, ov) = R n g a m k pl in
          let kr : (n x).kind ≡ Route = rw (a x (m.shape.low x bo)) (kind_route _ h) in (
            (record { begun = bg; climb = ((kr, bo), hu (inl kr), ov kr, cl); some = λ z. clash (cc); range = ir; entries = λ z v. push_in (W' n g) f.lower x s ir en z v; fresh = fr }, nl),
            pile_alike (W' n g) hist (T' inv t) th _ (pushed x s f ∷ fs) refl refl refl (pile_moved (W' n g) hist (T' inv t) th (x ∷ s) f.base f.popped f.key f fs pl),
          )))
          (λ h. at_base_lem f.store refl h)

  -- the lower end is a station
  lower_small : (w : World) → Mem w hist → (T : ℕ) (f : Frame) (fs : List Frame) → PileOf w hist T th (f ∷ fs) → f.lower < 64
  lower_small w m T f [] p = go (is_query th.action) p
    where
      go : (c : Bool) → Own c w hist T th f → f.lower < 64
      go true (free _ _ _ l u i j) = omega arith
      go true (rides S a _ _ _ _) = let o = m.tales.asked S a.low in omega (arith, a.lower)
      go false (S, a) = let o = m.tales.asked S a.low in omega (arith, a.lower)
  lower_small w m T f (g ∷ fs) ((S, a), _, p) = let o = m.tales.asked S a.low in omega (arith, a.lower)

  pub ok_60 : Stands b t p60 → Good inv t (step p60 (sight_of b.store) th)
  unfolding step
  ok_60 e = framed_ok th.frames refl _ (λ f fs E. reach_first p60 e f fs E (know_now inv t p60 e).1 b.store.root [] (λ n g a m k pl. (
    subst (λ v. TopOf v (λ f. f.begun ≡ false)) E k.0,
    lives m.shape.root_live,
    (let z = lower_small (W' n g) m (T' inv t) f fs pl in rw (m.shape.root_lo, m.shape.root_hi) (omega arith)),
    tt,
    (λ S _ _. Fresh.lives m.shape.root_live),
    (λ _. refl),
    (λ z v. absurd v),
    (λ _. subst (λ v. Hung v []) (sym m.shape.root_up) tt),
    (λ _. tt),
  )))

  pub ok_61 : Stands b t p61 → Good inv t (step p61 (sight_of b.store) th)
  unfolding step
  ok_61 e = framed_ok th.frames refl _ (λ f fs E. reach_first p61 e f fs E (know_now inv t p61 e).1 (child_for f.lower (shape (b.store.nodes (top_of f.stack)))) f.stack (λ n g a m k pl.
      let d : Downward (W' n g) f = subst (λ v. TopOf v (λ f. Downward (W' n g) f)) E k.0 in let (kr, bo) = top_routed (W' n g) f.stack d.climb d.some in
      let z : n (top_of f.stack) ≡ b.store.nodes (top_of f.stack) = a _ (m.shape.low _ bo) in
      let o = down m false 0 f.lower (top_of f.stack) (record { kind = kr; born = bo; range = d.range; fresh = λ v. absurd (false≢true v) }) in rw (← z) (
        d.begun,
        o.0,
        o.1,
        d.climb,
        (λ S i q. (down m true (g.tale S).birth f.lower (top_of f.stack) (record { kind = kr; born = bo; range = d.range; fresh = λ _. d.fresh S i q })).2 refl),
        (λ y. absurd (d.some y)),
        d.entries,
        (λ c. kid_hung m f.stack (ltb f.lower (n (top_of f.stack)).key) d.climb d.some c),
        (λ c. over_top m _ f.stack (m.routes.rise _ (ltb f.lower (n (top_of f.stack)).key) kr bo c)),
      )))

  pub ok_62 : Stands b t p62 → Good inv t (step p62 (sight_of b.store) th)
  unfolding step
  ok_62 e = framed_ok th.frames refl _ (λ f fs E. either inv t _ _ _
      (λ h. go_on inv t p62 _ e (alike refl refl refl refl) (λ z _. clash (cc)) refl (λ n g a m k. let o = opening_at n g f fs E k in
      (subst (λ v. TopOf v (λ f. Opening (W' n g) f × Replaceable (W' n g) f.base)) (sym E) (o, repl_at inv t n g _ a m o.at.born h), k.1)))
      (λ h. either inv t _ _ _
      (λ v. let (kr, le) = two_of (is_range (b.store.nodes f.base).kind) (leb f.upper (b.store.nodes f.base).upper) v in ride f fs E h (range_kind _ kr) (leb-true _ _ le))
      (λ v. go_on inv t p62 _ e (alike refl refl refl refl) (λ z _. clash (cc)) refl (λ n g a m k. let o = opening_at n g f fs E k in
      (record { kind = o.at.kind; born = o.at.born }, k.1, inr (λ z. clash (let y = E in cc)), subst (λ v. TopOf v (λ h. Blocks (W' n g) f.base h)) (sym E) (first_base o.free o.begun))))))
    where
      opening_at : (n : Nodes) (g : Ghost) (f : Frame) (fs : List Frame) → th.frames ≡ f ∷ fs → Know p62 (W' n g) (moment (first t)) th → Opening (W' n g) f
      opening_at n g f fs E k = subst (λ v. TopOf v (λ f. Opening (W' n g) f)) E k.0

      free_done : (w : World) (T : ℕ) (f : Frame) (fs : List Frame) → f.store ≡ None → PileOf w hist T th (f ∷ fs) → f.done ≡ 0
      free_done w T f [] i p = go (is_query th.action) p
        where
          go : (c : Bool) → Own c w hist T th f → f.done ≡ 0
          go true (free _ _ d _ _ _ _) = d
          go true (rides S a _ _ _ _) = absurd (clash (let v = a.store in cc))
          go false (S, a) = absurd (clash (let v = a.store in cc))
      free_done w T f (g ∷ fs) i ((S, a), _, _) = absurd (clash (let v = a.store in cc))

      ride : (f : Frame) (fs : List Frame) → th.frames ≡ f ∷ fs → replaceable (sight_of b.store).nodes b.store.stores f.base ≡ false → (b.store.nodes f.base).kind ≡ Range
          → f.upper ≤ (b.store.nodes f.base).upper
          → Good inv t (goes (at_frames p60 (asks (b.store.nodes f.base).lower (b.store.nodes f.base).upper (b.store.nodes f.base).store f ∷ fs) th))
      ride f fs E h kr le = go_frames inv t p62 _ e refl (λ z _. clash (cc)) refl (λ n g a m k pl₀.
          let pl : PileOf (W' n g) hist (T' inv t) th (f ∷ fs) = subst (λ v. PileOf (W' n g) hist (T' inv t) th v) E pl₀ in let o = opening_at n g f fs E k in
          let x = f.base in let S = (b.store.nodes x).store in let z = a x (m.shape.low x o.at.born) in
          let ox : Of (W' n g) S x = (ap (λ v. v.kind) z ∙ kr, ap (λ v. v.store) z) in let q : Waits (W' n g) S = range_unset (sight_of b.store).nodes b.store.stores x kr h in
          let nm : (S < b.store.shown) × ((b.store.nodes x).lower ≡ (g.tale S).lower) × ((b.store.nodes x).upper ≡ (g.tale S).upper) = rw z at (m.tales.named x ox.0 o.at.born) in
          let ask = m.tales.asked S nm.0 in let hd = m.tales.holds S x ox o.at.born q in
          let f' = asks (b.store.nodes x).lower (b.store.nodes x).upper S f in
          let as₁ : Asks (W' n g) hist f' S = record {
            store = refl;
            low = nm.0;
            lower = nm.1;
            upper = nm.2;
            small = rw nm.2 ask.1;
            added = λ v. absurd (true≢false (sym v ∙ o.begun));
            empty = λ _. free_done (W' n g) (T' inv t) f fs o.free pl;
          } in (
            (o.begun, k.1),
            pile_alike (W' n g) hist (T' inv t) th _ (f' ∷ fs) refl refl refl
                (pile_takes (W' n g) (W' n g) hist (T' inv t) (T' inv t) th f f' fs S o.free pl as₁ (first_on) (λ y. let r = o.at.range in omega (arith, hd.1)) (λ y. let r = nm.2 in omega arith) q),
          ))
