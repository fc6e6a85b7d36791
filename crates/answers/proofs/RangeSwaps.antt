-- 64 to 67 and 77 to 80: the swaps of a base for a range base, of a new store and of the frame's. They rest on GraftBase.antt and GraftTales.antt.
use Rattle.std.specs.Prelude.{Option, None}
use mathlib.Core.Path.{◌≡◌, refl, sym, ◌∙◌, ap, subst}
use mathlib.Core.Logic.{inl, inr}
use mathlib.Core.Bool.{Bool, true, false, true≢false}
use mathlib.Core.List.{List, [], ◌∷◌}
use Prim.Native.Nat.{ℕ, suc, ◌<◌, ◌≤◌}
use native.Mathlib.Omega.{arith}
use native.Mathlib.Decide.{dec_lt}
use borrow.Author.Tests.{eq-eqb, ne_eqb}
use Rattle.container.specs.Depths.{is_in, find}
use Rattle.container.specs.Choice.{upd}
use Rattle.container.specs.Container.{has, union}
use Rattle.definitions.specs.declared.Kind.TheVariants.{Route}
use Rattle.definitions.specs.declared.Effect.TheVariants.{Ask}
use Rattle.definitions.specs.declared.Quarter.{Quarter}
use Rattle.definitions.specs.declared.Spot.{Spot}
use Rattle.definitions.specs.declared.Spot.TheVariants.{Root, Under}
use Rattle.definitions.specs.Nodes.{Entry, Nodes, new_range, shape}
use Rattle.definitions.specs.Bench.{Bench, sight_of}
use Rattle.definitions.specs.Threads.{Frame, Thread, Moves}
use Rattle.definitions.specs.Places.{p60, swap, opening, next, at}
use Rattle.definitions.specs.Frames.{reaches, tail_of, store_of, in_hand, asks, adds}
use Rattle.definitions.specs.Steps.{opened_by, extended_by, is_query, step}
use Rattle.definitions.specs.Claim.{moment}
use Rattle.answers.proofs.Tools.{◌==?◌, clash}
use Rattle.answers.proofs.Memory.{Tale, World, Hist, Live, Born, lives, died, alive, In, IsBase, Waits, Of, Mem}
use Rattle.answers.proofs.Facts.{Replaceable, not_waiting}
use Rattle.answers.proofs.FrameFacts.{Short, Hung, top_routed, top_member, member_routed, prev_of, Asks, free, rides, Own, PileOf, Opening, Nexts, TopOf}
use Rattle.answers.proofs.Swing.{shifted}
use Rattle.answers.proofs.GraftBase.{exchanging, any_graft, to_range}
use Rattle.answers.proofs.GraftTales.{tales_again, tales_new}
use Rattle.answers.proofs.GraftKnown.{graft_kept, graft_rely}
use Rattle.answers.proofs.PlaceNumbers.{place_number}
use Rattle.answers.proofs.Knows.{looks, Know, Rely}
use Rattle.answers.proofs.Stays.{climbs}
use Rattle.answers.proofs.Invariant.{Ghost, Agrees, Inv, alike, Stands, seen, away, pile_after}
use Rattle.answers.proofs.Shown.{Good, Still, either, T'}
use Rattle.answers.proofs.ReadPlaces.{go_on, go_on_at, know_now, back_quiet}
use Rattle.answers.proofs.SwapPlaces.{HookPile, hook_pile, At, swap_ok, hits, only, one, top_one}
use Rattle.answers.proofs.Returns.{asks_begun}
use Rattle.answers.proofs.RangeSets.{union_empty}
use Rattle.answers.proofs.Adding.{Adds, adding_by, pile_asks, pile_takes}
use Rattle.answers.proofs.FrameSteps.{agrees_set, repl_within, union_at, or_on}
use Rattle.answers.proofs.FirstPlaces.{framed_ok, on_not_back, first_on}

-- what is told of a store that is shown now, with the base x as its first
abbrev showing : ℕ → ℕ → ℕ → ℕ → ℕ → Tale
showing l u s e now = record { lower = l; upper = u; start = s; end = e; birth = now; time = 0 }

-- of one that a base is put to
abbrev ending : ℕ → Tale → Tale
ending e t = record { lower = t.lower; upper = t.upper; start = t.start; end = e; birth = t.birth; time = t.time }

was_live : {hist : Hist} {Mine : ℕ → Type 0} (w w' : World) → Rely w w' hist Mine → (z : ℕ) → Born w z → Live w' z → Live w z
was_live w w' r z (lives l) q = l
was_live w w' r z (died e) q = absurd (alive q (r.dead z e))

-- a frame without a store is a query's own
free_ends : (w : World) (hist : Hist) (T : ℕ) (th : Thread) (f : Frame) (fs : List Frame) → f.store ≡ None → PileOf w hist T th (f ∷ fs) → (f.lower ≤ f.upper) × (f.upper < 64) × (f.done ≡ 0)
free_ends w hist T th f [] i p = go (is_query th.action) p
  where
    go : (c : Bool) → Own c w hist T th f → (f.lower ≤ f.upper) × (f.upper < 64) × (f.done ≡ 0)
    go true (free _ _ d l u j k) = (omega arith, omega arith, d)
    go true (rides S a _ _ _ _) = absurd (clash (let v = a.store in cc))
    go false (S, a) = absurd (clash (let v = a.store in cc))
free_ends w hist T th f (g ∷ fs) i ((S, a), _, _) = absurd (clash (let v = a.store in cc))

module _ {b : Bench} {hist : Hist} {now : ℕ} {first : ℕ → Option ℕ} (inv : Inv b hist now first) (t : ℕ) where
  abbrev th : Thread
  th = b.threads t

  abbrev W : Nodes → Ghost → World
  W n g = seen n b.store g now

  abbrev u : ℕ
  u = b.store.used

  abbrev sn : ℕ
  sn = b.store.shown

  -- ---- 64 to 67
  module _ (r : Quarter) (e : Stands b t (swap opening r)) (f : Frame) (fs : List Frame) (E : th.frames ≡ f ∷ fs) (nl : looks th.action ≡ false) where
    abbrev x : ℕ
    x = f.base

    abbrev c : ℕ
    c = (b.store.nodes f.base).container.set

    abbrev node : Entry
    node = new_range (b.store.nodes x).parent (b.store.nodes x).container f.lower f.upper sn

    -- the frame then
    abbrev f₁ : Frame
    f₁ = adds c (asks f.lower f.upper sn (in_hand u (tail_of f.stack) f))

    open_at : (n : Nodes) (g : Ghost) → Know (swap opening r) (W n g) (moment (first t)) th → Opening (W n g) f × Replaceable (W n g) x
    open_at n g k = subst (λ v. TopOf v (λ f. Opening (W n g) f × Replaceable (W n g) f.base)) E k.0

    opens : (v : Spot) → At inv t v x → (th' : Thread) → Adds th f₁ fs c th' → Good inv t (Moves th' (Ask v u (b.store.nodes x).parent x f.lower f.upper sn true))
    opens v i th' ad = λ q. hook_pile inv t (swap opening r) v u (upd b.store.nodes u node) (suc u) (suc sn) th' (λ _. Unit {0}) e (omega arith) (one inv t node)
        (rw ad.station (inv.stations t)) (on_not_back inv t th' nl ad.action)
        (away inv t th' ad.apart) (λ _ _ _. tt)
        (λ n g a m k pl. let (o, re) = open_at n g k in (hits inv t v x i n g a m o.at.kind o.at.born re).2)
        (λ n g a fr m k pl₀. made q n g a (top_one inv t n node fr) m (open_at n g k) (subst (λ v. PileOf (W n g) hist (moment (first t)) th v) E pl₀))
      where
        made : Still inv t → (n : Nodes) (g : Ghost) → Agrees b.store n → n u ≡ node → Mem (W n g) hist → Opening (W n g) f × Replaceable (W n g) x → PileOf (W n g) hist (moment (first t)) th (f ∷ fs)
            → HookPile inv t v u (suc u) (suc sn) th' (λ _. Unit {0}) n g
        made q n g a z m (o, rx) pl = let w = W n g in let (hv, lx, _) = hits inv t v x i n g a m o.at.kind o.at.born rx in let zx = a x (m.shape.low x o.at.born) in
            let pz : (n u).parent ≡ (n x).parent = ap (λ v. v.parent) z ∙ ap (λ v. v.parent) (sym zx) in
            let cz : (s : ℕ) → find (n u).container s ≡ find (n x).container s = λ s. ap (λ v. find v s) (ap (λ v. v.container) z ∙ ap (λ v. v.container) (sym zx)) in
            let by : IsBase w u = λ i. clash (cc (ap (λ v. v.kind) z)) in
            let ra = m.shape.range x (lives lx) in let lo : In w (g.lo x) x = omega arith in
            let ta = upd g.tale sn (showing f.lower f.upper (g.lo x) (g.hi x) (suc now)) in
            let fe = free_ends w hist (moment (first t)) th f fs o.free pl in
            let gr = any_graft v m x (g.lo x) (hist now (g.lo x)) hv o.at.kind rx lx lo by pz (λ s _. cz s) (cz _ ∙ m.bases.agrees x _ o.at.kind lx lo) (q _) (λ s _. q s) (suc sn) ta in
            let tn = tales_new m gr f.lower f.upper (ap (λ v. v.kind) z) (ap (λ v. v.store) z) (ap (λ v. v.lower) z) (ap (λ v. v.upper) z) fe.0 fe.1 o.at.range refl
            (λ S h. rw (ne_eqb S sn h)) (rw (eq-eqb sn sn refl) (refl, refl, refl, refl, refl)) in
            let kp = graft_kept m gr (omega arith) (λ S h. rw (ne_eqb S sn (omega arith)) (refl, refl, refl, refl, refl)) in
            let re = graft_rely m gr kp in
            let w' = shifted w (exchanging v w (suc u) x u (suc sn) ta) in
            let as₁ : Asks w' hist f₁ sn = record {
              store = refl;
              low = omega arith;
              lower = rw (eq-eqb sn sn refl);
              upper = rw (eq-eqb sn sn refl);
              small = fe.1;
              added = λ _. record {
                of = (ap (λ v. v.kind) z, ap (λ v. v.store) z);
                born = lives gr.live_y;
                climb = climbs w w' hist (λ _. Unit {0}) re (tail_of f.stack) o.climb;
                agrees = λ _ s j k. let j' : g.lo x ≤ s = rw (eq-eqb sn sn refl) at j in let k' : s < g.hi x = rw gr.hi_y at k in
                    union_empty f.done c s fe.2 ∙ ap (λ v. has v.container.set s) (sym zx) ∙ agrees_set m x s o.at.kind lx (j', k') ∙ ap is_in (sym (q s));
                within = λ _ s h. rw gr.hi_y (in_c n g m o rx lx zx s (sym (union_empty f.done c s fe.2) ∙ h));
                whole = λ _ h. gr.hi_y ∙ root_end v i n g m zx (o.alone h);
                hung = λ _. subst (λ l. Hung l (tail_of f.stack)) (sym gr.up_y) (o.hung lx);
                sight = λ _. record {
                  at = f.lower;
                  mine = (let j = o.at.range in let j₁ = gr.lo_y in let j₂ = gr.hi_y in omega arith);
                  tops = λ h. re.range _ _ (top_routed w (tail_of f.stack) o.climb h).1 (o.entries _ (top_member (tail_of f.stack) h));
                  entries = λ z mm _. re.range z _ (member_routed w z (tail_of f.stack) o.climb mm).1 (o.entries z mm);
                };
              };
              empty = λ y. absurd (true≢false y);
            } in
            let kn = ad.knows w' hist (T' inv t) nl
            (pile_takes w w' hist (moment (first t)) (T' inv t) th f f₁ fs sn o.free pl as₁ (first_on inv t)
            (λ y. rw (eq-eqb sn sn refl) (let h = o.at.range in omega arith)) (λ y. rw (eq-eqb sn sn refl) (omega arith)) (m.tales.rest sn (omega arith)))
            (λ S _ _ s h. rw gr.hi_y (in_c n g m o rx lx zx s h)) (sym (ap (λ v. v.container.set) z)) in
            record {
              ghost = _;
              mem = to_range v m x (g.lo x) (hist now (g.lo x)) hv o.at.kind rx lx lo by pz (λ s _. cz s) (cz _ ∙ m.bases.agrees x _ o.at.kind lx lo) (q _) (λ s _. q s)
                  (suc sn) ta (ap (λ v. v.kind) z) tn;
              rely = re;
              know = kn.0;
              pile = kn.1;
              linked = λ _ i j e. absurd (by (subst (λ v. (n v).kind ≡ Route) (only inv t i j) e));
            }
          where
            in_c : (n : Nodes) (g : Ghost) → Mem (W n g) hist → Opening (W n g) f → Replaceable (W n g) x → Live (W n g) x → n x ≡ b.store.nodes x → (s : ℕ) → has c s ≡ true → s < g.hi x
            in_c n g m o rx lx zx s h = (repl_within m x s o.at.kind rx lx (ap (λ v. has v.container.set s) zx ∙ h)).1

            root_end : (v : Spot) → At inv t v x → (n : Nodes) (g : Ghost) → Mem (W n g) hist → n x ≡ b.store.nodes x → (n x).parent ≡ None → g.hi x ≡ 64
            root_end Root (_, j) n g m zx h = ap (λ v. g.hi v) (sym j) ∙ m.shape.root_hi
            root_end (Under p d) (j, _) n g m zx h = absurd (clash (let y = ap (λ v. v.parent) zx in cc))

  pub ok_opening : (r : Quarter) → Stands b t (swap opening r) → Good inv t (step (swap opening r) (sight_of b.store) th)
  unfolding step
  ok_opening r e = framed_ok inv t th.frames refl _ (λ f fs E. let nl = (know_now inv t (swap opening r) e).1 in
      swap_ok inv t r f.base (λ o. opened_by o (shape (b.store.nodes f.base)) (sight_of b.store) f fs th) _ refl
      (λ v i _. either inv t _ _ _ (λ _. either inv t _ _ _ (λ _. adding_by th _ (Good inv t) (either inv t) _ _ fs (λ th' ad. opens r e f fs E nl v i th' ad)) (λ _. tt)) (λ _. tt))
      (λ r'. go_on_at inv t (swap opening r) (swap opening r') (at (swap opening r') th) e (place_number (swap opening r')) (alike refl refl refl refl) (λ z _. clash (cc)) refl (λ n g a m k. k))
      (go_on inv t (swap opening r) (at p60 th) e (alike refl refl refl refl) (λ z _. clash (cc)) refl (λ n g a m k.
      (subst (λ v. TopOf v (λ f. f.begun ≡ false)) (sym E) (subst (λ v. TopOf v (λ f. Opening (seen n b.store g (suc now)) f × Replaceable (seen n b.store g (suc now)) f.base)) E k.0).0.begun, k.1))))

  -- ---- 77 to 80
  module _ (r : Quarter) (e : Stands b t (swap next r)) (f : Frame) (fs : List Frame) (E : th.frames ≡ f ∷ fs) (nl : looks th.action ≡ false) where
    abbrev y : ℕ
    y = f.base

    abbrev d : ℕ
    d = (b.store.nodes f.base).container.set

    abbrev S : ℕ
    S = store_of f.store

    abbrev node₂ : Entry
    node₂ = new_range (b.store.nodes y).parent (b.store.nodes y).container f.lower f.upper S

    abbrev f₂ : Frame
    f₂ = adds d (in_hand u (tail_of f.stack) f)

    next_at : (n : Nodes) (g : Ghost) → Know (swap next r) (W n g) (moment (first t)) th → Nexts (W n g) f × Replaceable (W n g) y
    next_at n g k = subst (λ v. TopOf v (λ f. Nexts (W n g) f × Replaceable (W n g) f.base)) E k.0

    -- the base is where the store ends
    edge_of : (w : World) → Mem w hist → (S y : ℕ) → S < w.shown → Waits w S → IsBase w y → Live w y → Replaceable w y → (z : ℕ) → Of w S z → Born w z → In w (w.hi z) y
        → ((w.tale S).end ≡ w.lo y) × (w.lo y ≡ w.hi z)
    edge_of w m S y h q b l re z o bz i = let hz = m.tales.holds S z o bz q in let rz = m.shape.range z bz in elim (m.tales.sole S y h q b l) [
      | inr v ↦ absurd (not_waiting re v.0 v.1 q)
      | inl (inl v) ↦ absurd (omega arith)
      | inl (inr v) ↦ (omega arith, omega arith)
    ]

    -- a range base that ends where the last one does is that one
    one_last : (w : World) → Mem w hist → (S z v : ℕ) → Of w S z → Born w z → Of w S v → Born w v → Waits w S → w.hi v ≡ w.hi z → reaches (w.nodes v).container.set (w.tale S).upper ≡ true
        → reaches (w.nodes z).container.set (w.tale S).upper ≡ false → ⊥
    one_last w m S z v oz bz ov bv q e r s = elim (v ==? z) [
      | yes y ↦ true≢false (sym r ∙ ap (λ u. reaches (w.nodes u).container.set (w.tale S).upper) y ∙ s)
      | no y ↦ (let a = m.shape.range v bv in let a' = m.shape.range z bz in
          elim (m.bases.apart v z (λ i. clash (cc ov.0)) (λ i. clash (cc oz.0)) (m.tales.holds S v ov bv q).0 (m.tales.holds S z oz bz q).0 y) [ inl c ↦ omega arith | inr c ↦ omega arith ])
    ]

    extends : (v : Spot) → At inv t v y → (th' : Thread) → Adds th f₂ fs d th' → Good inv t (Moves th' (Ask v u (b.store.nodes y).parent y f.lower f.upper S false))
    extends v i th' ad = λ q. hook_pile inv t (swap next r) v u (upd b.store.nodes u node₂) (suc u) sn th' (λ _. Unit {0}) e (omega arith) (one inv t node₂)
        (rw ad.station (inv.stations t)) (on_not_back inv t th' nl ad.action)
        (away inv t th' ad.apart) (λ _ _ _. tt)
        (λ n g a m k pl. let (o, re) = next_at n g k in (hits inv t v y i n g a m o.kind o.born re).2)
        (λ n g a fr m k pl₀. let pl = subst (λ v. PileOf (W n g) hist (moment (first t)) th v) E pl₀ in let (o, rx) = next_at n g k in
        let (S₀, as₀) = asks_begun (W n g) hist (moment (first t)) th f fs pl o.begun in let z : S₀ ≡ S = sym (ap store_of as₀.store) in
        made q n g a (top_one inv t n node₂ fr) m o rx pl (subst (λ v. Asks (W n g) hist f v) z as₀))
      where
        made : Still inv t → (n : Nodes) (g : Ghost) → Agrees b.store n → n u ≡ node₂ → Mem (W n g) hist → Nexts (W n g) f → Replaceable (W n g) y
            → PileOf (W n g) hist (moment (first t)) th (f ∷ fs) → Asks (W n g) hist f S
            → HookPile inv t v u (suc u) sn th' (λ _. Unit {0}) n g
        made q n g a z m o rx pl ask = let w = W n g in let (hv, lx, _) = hits inv t v y i n g a m o.kind o.born rx in let zx = a y (m.shape.low y o.born) in
            let pz : (n u).parent ≡ (n y).parent = ap (λ v. v.parent) z ∙ ap (λ v. v.parent) (sym zx) in
            let cz : (s : ℕ) → find (n u).container s ≡ find (n y).container s = λ s. ap (λ v. find v s) (ap (λ v. v.container) z ∙ ap (λ v. v.container) (sym zx)) in
            let by : IsBase w u = λ i. clash (cc (ap (λ v. v.kind) z)) in
            let ra = m.shape.range y (lives lx) in let lo : In w (g.lo y) y = omega arith in
            let ta = upd g.tale S (ending (g.hi y) (g.tale S)) in
            let de = ask.added o.begun in
            let ed : Waits w S → ((g.tale S).end ≡ g.lo y) × (g.lo y ≡ g.hi (prev_of f)) = λ qq. edge_of w m S y ask.low qq o.kind lx rx (prev_of f) de.of de.born (o.beyond S ask.store qq).0 in
            let gr = any_graft v m y (g.lo y) (hist now (g.lo y)) hv o.kind rx lx lo by pz (λ s _. cz s) (cz _ ∙ m.bases.agrees y _ o.kind lx lo) (q _) (λ s _. q s) sn ta in
            let eqS = eq-eqb S S refl in
            let tn = tales_again m gr S (ap (λ v. v.kind) z) (ap (λ v. v.store) z) ask.low (ap (λ v. v.lower) z ∙ ask.lower) (ap (λ v. v.upper) z ∙ ask.upper) refl
            (λ Z h. rw (ne_eqb Z S h)) (rw eqS) (rw eqS) (rw eqS) (rw eqS) (rw eqS) (λ qq. (ed qq).0) (λ _. rw eqS) (λ qq v ov bv re. one_last w m S (prev_of f) v de.of de.born ov bv qq
            (m.tales.last S v ov bv qq re ∙ (ed qq).0 ∙ (ed qq).1) re (subst (λ c. reaches (n (prev_of f)).container.set c ≡ false) ask.upper o.short)) in
            let kp = graft_kept m gr (omega arith) (λ Z h. elim (Z ==? S) [ yes p ↦ rw (eq-eqb Z S p, p) (refl, refl, refl, refl, refl) | no p ↦ rw (ne_eqb Z S p) (refl, refl, refl, refl, refl) ]) in
            let re = graft_rely m gr kp in
            let w' = shifted w (exchanging v w (suc u) y u sn ta) in
            let pts : Waits w S → (s : ℕ) → (s < g.hi (prev_of f) → has (union f.done d) s ≡ has f.done s) × (g.hi (prev_of f) ≤ s → has (union f.done d) s ≡ has d s)
            = λ qq s. union_at m f.done d s (g.hi (prev_of f)) (λ s e. de.within qq s e) (λ s e. let k = (ed qq).1 in let j = in_d n g m o rx lx zx s e in omega arith) in
            let as₁ : Asks w' hist f₂ S = record {
              store = ask.store;
              low = ask.low;
              lower = rw eqS ask.lower;
              upper = rw eqS ask.upper;
              small = ask.small;
              added = λ _. record {
                of = (ap (λ v. v.kind) z, ap (λ v. v.store) z);
                born = lives gr.live_y;
                climb = climbs w w' hist (λ _. Unit {0}) re (tail_of f.stack) o.climb;
                agrees = λ qq s j k. let j' : (g.tale S).start ≤ s = rw eqS at j in let k' : s < g.hi y = rw gr.hi_y at k in elim (dec_lt s (g.hi (prev_of f))) [
                  | yes h ↦ (pts qq s).0 h ∙ de.agrees qq s j' h ∙ ap is_in (sym (q s))
                  | no h ↦ (pts qq s).1 (omega arith) ∙ ap (λ v. has v.container.set s) (sym zx) ∙ agrees_set m y s o.kind lx (let p = (ed qq).1 in (omega arith, k')) ∙ ap is_in (sym (q s))
                ];
                within = λ qq s h. rw gr.hi_y (elim (or_on m f.done d s h) [ inl p ↦ (let k = (ed qq).1 in omega (arith, de.within qq s p)) | inr p ↦ (in_d n g m o rx lx zx s p).1 ]);
                whole = λ _ h. absurd (o.some h);
                hung = λ _. subst (λ l. Hung l (tail_of f.stack)) (sym gr.up_y) (o.hung lx);
                sight = λ qq. let (b₀, b₁, b₂) = o.beyond S ask.store qq in record {
                  at = g.hi (prev_of f);
                  mine = (let j₁ = gr.lo_y in let j₂ = gr.hi_y in omega arith);
                  tops = λ h. re.range _ _ (top_routed w (tail_of f.stack) o.climb h).1 b₁;
                  entries = λ z mm l. let bz = (member_routed w z (tail_of f.stack) o.climb mm).1 in re.range z _ bz (b₂ z mm (was_live w w' re z bz l));
                };
              };
              empty = λ y. absurd (true≢false y);
            } in
            let kn = ad.knows w' hist (T' inv t) nl
            (pile_asks w' hist (T' inv t) th f f₂ fs S ask.store as₁ (pile_after inv t w w' (λ _. Unit {0}) th (f ∷ fs) re refl refl refl refl pl))
            (λ Z _ _ s h. rw gr.hi_y (in_d n g m o rx lx zx s h).1) (sym (ap (λ v. v.container.set) z)) in
            record {
              ghost = _;
              mem = to_range v m y (g.lo y) (hist now (g.lo y)) hv o.kind rx lx lo by pz (λ s _. cz s) (cz _ ∙ m.bases.agrees y _ o.kind lx lo) (q _) (λ s _. q s) sn ta (ap (λ v. v.kind) z) tn;
              rely = re;
              know = kn.0;
              pile = kn.1;
              linked = λ _ i j e. absurd (by (subst (λ v. (n v).kind ≡ Route) (only inv t i j) e));
            }
          where
            in_d : (n : Nodes) (g : Ghost) → Mem (W n g) hist → Nexts (W n g) f → Replaceable (W n g) y → Live (W n g) y → n y ≡ b.store.nodes y → (s : ℕ) → has d s ≡ true → In (W n g) s y
            in_d n g m o rx lx zx s h = repl_within m y s o.kind rx lx (ap (λ v. has v.container.set s) zx ∙ h)

  pub ok_next : (r : Quarter) → Stands b t (swap next r) → Good inv t (step (swap next r) (sight_of b.store) th)
  unfolding step
  ok_next r e = framed_ok inv t th.frames refl _ (λ f fs E. let nl = (know_now inv t (swap next r) e).1 in
      swap_ok inv t r f.base (λ o. extended_by o (shape (b.store.nodes f.base)) (sight_of b.store) f fs th) _ refl
      (λ v i _. either inv t _ _ _ (λ _. adding_by th _ (Good inv t) (either inv t) _ _ fs (λ th' ad. extends r e f fs E nl v i th' ad)) (λ _. tt))
      (λ r'. go_on_at inv t (swap next r) (swap next r') (at (swap next r') th) e (place_number (swap next r')) (alike refl refl refl refl) (λ z _. clash (cc)) refl (λ n g a m k. k))
      (back_quiet inv t (swap next r) e nl (λ n g k. subst (λ v. TopOf v (λ h. Short (seen n b.store g (suc now)) h)) (sym E)
      (λ _. (subst (λ v. TopOf v (λ h. Nexts (seen n b.store g (suc now)) h × Replaceable (seen n b.store g (suc now)) h.base)) E k.0).0.short))))
