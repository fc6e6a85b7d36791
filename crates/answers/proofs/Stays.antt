-- What a thread knows outlives what another thread's effect leaves (`Rely`): at each place (`stays`), and of its pile of frames (`pile_stays`).
use Rattle.std.specs.Prelude.{Option, Some, None}
use mathlib.Core.Path.{◌≡◌, refl, sym, ◌∙◌, ap, subst}
use mathlib.Core.Logic.{◌≢◌, inl, inr}
use mathlib.Core.Bool.{Bool, true, false}
use mathlib.Core.List.{List, [], ◌∷◌}
use Prim.Native.Nat.{ℕ, ◌<◌, ◌≤◌}
use native.Mathlib.Omega.{arith}
use Rattle.container.specs.Depths.{is_in}
use Rattle.definitions.specs.declared.Kind.TheVariants.{Route}
use Rattle.definitions.specs.declared.Quarter.{Quarter}
use Rattle.definitions.specs.declared.Quarter.TheVariants.{ReadLeft, SwapLeft, ReadRight, SwapRight}
use Rattle.definitions.specs.Threads.{Frame, Thread}
use Rattle.definitions.specs.Frames.{top_of, tail_of, reaches}
use Rattle.definitions.specs.Steps.{is_query}
use Rattle.definitions.specs.Places.{own, found, united, opening, next, Place, nowhere, p1, p2, p3, p4, p5, p15, p16, p19, p20, p21, p22, p23, p24, p25, p30, p31, p32}
use Rattle.definitions.specs.Places.{p33, p34, p35, p36, p37, p38, p40, p45, p46, p47, p48, p49, p50, p51, p60, p61, p62, p70, p71, p72, p73, p74, p76, p81, p82, swap}
use Rattle.answers.proofs.Memory.{World, Live, Born, lives, died, alive, In, kind_of, Waits, Of, Hist}
use Rattle.answers.proofs.FrameFacts.{Short, Waiting, own_free, blocked, Blocks, first_base, stands, Outside, Routed, Climb, prev_of, Added}
use Rattle.answers.proofs.FrameFacts.{Asks, Bottom, free, rides, Own, PileOf, Pile, Unless, Downward, Opening, Upward, Turns, Nearing}
use Rattle.answers.proofs.FrameFacts.{Nexts, Complete, Ready, TopOf, Hung, Member, Sight, Ahead, Beside, top_routed, member_routed}
use Rattle.answers.proofs.Facts.{Fresh, AtBase, goal, InPlace, AtSide, AtFound, Grand, none, some}
use Rattle.answers.proofs.Knows.{OnMain, Seeks, Holds, Neighed, Topped, Helps, PStale, PDead, KnowU, Know, owning, Rely, asks_of, on_top}

module _ (w w' : World) (hist : Hist) (Mine : ℕ → Type 0) (r : Rely w w' hist Mine) where
  base : (s x : ℕ) → AtBase w s x → AtBase w' s x
  base s x a = record { kind = λ e. a.kind (sym (r.kind x) ∙ e); born = r.born x a.born; range = r.range x s a.born a.range }

  goals : (par : ℕ) (sd : Bool) → goal w' par sd ≡ goal w par sd
  goals par sd = rw (r.key par)

  on_main : (m : ℕ) → OnMain w m → OnMain w' m
  on_main m a = record { kind = r.kind m ∙ a.kind; born = r.born m a.born }

  seeks : (th : Thread) → Seeks w th → Seeks w' th
  seeks th a = record { act = a.act; at = base _ _ a.at; repl = r.replaceable _ a.repl; parent = r.parent _ ∙ a.parent }

  side_by : (Q Q' : Type 0) (par x : ℕ) (sd : Bool) → (Q' → Q) → AtSide w Q par sd x → AtSide w' Q' par sd x
  side_by Q Q' par x sd h a = record { kind = r.kind x ∙ a.kind; born = r.born x a.born; search = λ q. let o = a.search (h q) in (o.0, rw (goals par sd) (r.range x _ a.born o.1)) }

  found_by_lem : (Q Q' : Type 0) (par x : ℕ) (sd : Bool) → (Q' → Q) → AtFound w Q par sd x → AtFound w' Q' par sd x
  found_by_lem Q Q' par x sd h a = record { kind = λ e. a.kind (sym (r.kind x) ∙ e); born = r.born x a.born; search = λ q. rw (goals par sd) (r.range x _ a.born (a.search (h q))) }

  back_in_lem : (th : Thread) → Seeks w th → InPlace w' th.parent th.left th.base → InPlace w th.parent th.left th.base
  back_in_lem th a q = r.in_place th.parent th.base th.left a.at.born a.repl q

  -- containers never change
  short_stays : (f : Frame) → Short w f → Short w' f
  short_stays f h b = ap (λ c. reaches c.set f.upper) (r.container (prev_of f)) ∙ h b

  pub shorts : (fs : List Frame) → TopOf fs (λ f. Short w f) → TopOf fs (λ f. Short w' f)
  shorts [] h = tt
  shorts (f ∷ fs) h = short_stays f h

  helps : (th : Thread) → Helps w th → Helps w' th
  helps th a = record { act = a.act; no_look = a.no_look; main = on_main _ a.main; closed = r.closed _ a.closed; top = λ e. shorts th.frames (a.top e) }

  p_stale : (m : ℕ) → PStale w m → PStale w' m
  p_stale m a P e = r.stores.invalid P (a P (sym (r.parent m) ∙ e))

  p_dead : (m : ℕ) → PDead w m → PDead w' m
  p_dead m a P e = r.dead P (a P (sym (r.parent m) ∙ e))

  module _ (th : Thread) (mine : Mine th.main) where
    holds : Holds w th → Holds w' th
    holds a = record { act = a.act; own = a.own; owns = r.owns _ _ _ mine a.owns }

    topped : Holds w th → Topped w th → Topped w' th
    topped a b = r.marked _ _ _ _ mine a.owns b

    neighed : Neighed w th → Neighed w' th
    neighed a = r.has_neigh _ _ _ _ a

    grand : Holds w th → Topped w th → Grand w th.main th.parent th.grandparent → Grand w' th.main th.parent th.grandparent
    grand a b (none e q) = none e (r.root _ _ _ a.owns b q)
    grand a b (some G e k i) = some G e (r.marked _ _ _ _ mine a.owns k) (r.above _ _ _ _ a.owns b i)

  union_stays : (q : Quarter) (th : Thread) → KnowU q w th → KnowU q w' th
  union_stays ReadLeft th a = helps th a
  union_stays SwapLeft th (a, b) = (helps th a, r.there_n _ true a.main a.closed b)
  union_stays ReadRight th (a, b) = (helps th a, r.off_n _ true a.main a.closed b)
  union_stays SwapRight th (a, b) = (helps th a, r.there_n _ false a.main a.closed b)

  -- ---- frames

  pub climbs : (s : List ℕ) → Climb w s → Climb w' s
  climbs s k = r.stores.climb s k

  was_live : (x : ℕ) → Born w x → Live w' x → Live w x
  was_live x (lives l) q = l
  was_live x (died e) q = absurd (alive q (r.dead x e))

  -- entries that are live after it were so before, and have the stations that they had
  entries_stay : (s : List ℕ) (a a' : ℕ) → Climb w s → a' ≡ a → ((z : ℕ) → Member z s → Live w z → In w a z) → (z : ℕ) → Member z s → Live w' z → In w' a' z
  entries_stay s a a' c e h z m l = let b = (member_routed w z s c m).1 in rw e (r.range z a b (h z m (was_live z b l)))

  sight_stays : (S x : ℕ) (s : List ℕ) → Of w S x → Born w x → Waits w' S → Climb w s → Sight w x s → Sight w' x s
  sight_stays S x s o b q c v = record {
    at = v.at;
    mine = r.range x v.at b v.mine;
    tops = λ h. r.range _ v.at (top_routed w s c h).1 (v.tops h);
    entries = entries_stay s v.at v.at c refl v.entries;
  }

  of_stays : (S x : ℕ) → Of w S x → Of w' S x
  of_stays S x (k, e) = (r.kind x ∙ k, r.stores.store x ∙ e)

  added_stays : (f : Frame) (S : ℕ) → S < w.shown → Added w hist f S → Added w' hist f S
  added_stays f S h a = record {
    of = of_stays S _ a.of;
    born = r.born _ a.born;
    climb = climbs (tail_of f.backup) a.climb;
    agrees = λ q s i j. let o = r.stores.told S h in let v = r.stores.still S _ a.of a.born q in let i' : (w.tale S).start ≤ s = rw o.2 at i in let j' : s < w.hi (prev_of f) = rw v.1 at j in
        a.agrees (r.stores.waited S q) s i' j' ∙ ap is_in (sym (r.stores.calm S _ s a.of a.born q i' j'));
    within = λ q s e. let v = r.stores.still S _ a.of a.born q in rw v.1 (a.within (r.stores.waited S q) s e);
    whole = λ q e. let v = r.stores.still S _ a.of a.born q in v.1 ∙ a.whole (r.stores.waited S q) e;
    hung = λ q. let v = r.stores.still S _ a.of a.born q in subst (λ l. Hung l (tail_of f.backup)) (sym v.2) (a.hung (r.stores.waited S q));
    sight = λ q. sight_stays S _ (tail_of f.backup) a.of a.born q a.climb (a.sight (r.stores.waited S q));
  }

  pub asks_stays : (f : Frame) (S : ℕ) → Asks w hist f S → Asks w' hist f S
  asks_stays f S a = let o = r.stores.told S a.low in record {
    store = a.store;
    low = omega (arith, a.low, r.stores.shown);
    lower = a.lower ∙ sym o.0;
    upper = a.upper ∙ sym o.1;
    small = a.small;
    added = λ e. added_stays f S a.low (a.added e);
    empty = a.empty;
  }

  bottom_stays : (t : ℕ) (th : Thread) (f : Frame) → t ≤ w.now → Bottom w hist t th f → Bottom w' hist t th f
  bottom_stays t th f h (free a b c d e i j) = free a b c d e i j
  bottom_stays t th f h (rides S a i j p m) = let o = r.stores.told S a.low in
      rides S (asks_stays f S a) (rw o.2 i) (rw o.1 j) p (λ c e. go (w.stores S) refl c e)
    where
      go : (v : Option ℕ) → w.stores S ≡ v → (c : ℕ) → w'.stores S ≡ Some c → t ≤ (w'.tale S).time
      go None q c e = omega (arith, r.stores.timed S c a.low q e)
      go (Some c') q c e = let o = r.stores.set S c' q in rw o.1 (m c' q)

  waiting_stays : (f g : Frame) (S : ℕ) → Asks w hist f S → ((Z : ℕ) → g.store ≡ Some Z → Asks w hist g Z) → Waiting w f g → Waiting w' f g
  waiting_stays f g S a ag (own_free e i) = own_free e i
  waiting_stays f g S a ag (blocked b s h) = blocked b (ap (λ c. reaches c.set g.upper) (r.container (prev_of g)) ∙ s) (λ S' Z e i q. let u : S ≡ S' = (let v = a.store in cc) in
      let (wz, eq) = h S' Z e i (r.stores.waited S' q) in let az = ag Z i in let d = az.added b in let lowS : S' < w.shown = rw (← u) a.low in
      let q' = r.stores.hold Z S' (prev_of g) az.low lowS d.of d.born wz q eq (subst (λ v. reaches (w.nodes (prev_of g)).container.set v ≡ false) az.upper s) in
      (q', (r.stores.still Z _ d.of d.born q').1 ∙ eq ∙ sym (r.stores.told S' lowS).2))

  blocks_stays : (x : ℕ) (f : Frame) → ((Z : ℕ) → f.store ≡ Some Z → Asks w hist f Z) → Blocks w x f → Blocks w' x f
  blocks_stays x f af (first_base e b) = first_base e b
  blocks_stays x f af (stands b s h) = stands b (ap (λ c. reaches c.set f.upper) (r.container (prev_of f)) ∙ s) (λ S Z o i q.
      let (lowS, wz, eq) = h S Z (sym (r.kind x) ∙ o.0, sym (r.stores.store x) ∙ o.1) i (r.stores.waited S q) in let az = af Z i in let d = az.added b in
      let q' = r.stores.hold Z S (prev_of f) az.low lowS d.of d.born wz q eq (subst (λ v. reaches (w.nodes (prev_of f)).container.set v ≡ false) az.upper s) in
      (omega (arith, lowS, r.stores.shown), q', (r.stores.still Z _ d.of d.born q').1 ∙ eq ∙ sym (r.stores.told S lowS).2))

  pub pile_stays : (t : ℕ) (th : Thread) (fs : List Frame) → t ≤ w.now → PileOf w hist t th fs → PileOf w' hist t th fs
  pile_stays t th [] h p = tt
  pile_stays t th (f ∷ []) h p = go (is_query th.action) p
    where
      go : (c : Bool) → Own c w hist t th f → Own c w' hist t th f
      go true b = bottom_stays t th f h b
      go false (S, a) = (S, asks_stays f S a)
  pile_stays t th (f ∷ g ∷ fs) h ((S, a), v, p) = ((S, asks_stays f S a), waiting_stays f g S a (asks_of w hist t th (g ∷ fs) p) v, pile_stays t th (g ∷ fs) h p)

  unless : (f : Frame) (Q Q' : ℕ → Type 0) → ((S : ℕ) → f.store ≡ Some S → Waits w' S → Q S → Q' S) → Unless w f Q → Unless w' f Q'
  unless f Q Q' h k S e q = h S e q (k S e (r.stores.waited S q))

  -- of the frame on top; its store is told of
  module _ (f : Frame) (tell : (S : ℕ) → f.store ≡ Some S → Asks w hist f S) where
    added_at : (S : ℕ) → f.store ≡ Some S → f.begun ≡ true → Added w hist f S
    added_at S e b = (tell S e).added b

    downward : Downward w f → Downward w' f
    downward k = record {
      begun = k.begun;
      climb = climbs f.stack k.climb;
      some = k.some;
      range = r.range _ _ (top_born f.stack k.climb k.some).1 k.range;
      entries = λ z m. r.range z _ (member_routed w z f.stack k.climb m).1 (k.entries z m);
      fresh = unless f _ _ (λ S e q v. let o = r.stores.told S (tell S e).low in let b = top_born f.stack k.climb k.some in
          subst (λ z. Fresh w' z (top_of f.stack)) (sym o.3) (r.fresh _ _ o.4 v)) k.fresh;
    }
      where
        top_born : (s : List ℕ) → Climb w s → s ≢ [] → Routed w (top_of s)
        top_born s c h = top_routed w s c h

    opening_stays : Opening w f → Opening w' f
    opening_stays k = record {
      begun = k.begun;
      free = k.free;
      at = base _ _ k.at;
      climb = climbs (tail_of f.stack) k.climb;
      alone = λ e. r.parent _ ∙ k.alone e;
      entries = λ z m. r.range z _ (member_routed w z (tail_of f.stack) k.climb m).1 (k.entries z m);
      hung = r.stores.hang _ _ k.at.born k.climb k.hung;
    }

    upward : Upward w f → Upward w' f
    upward k = record { begun = k.begun; climb = climbs f.stack k.climb; some = k.some; short = ap (λ c. reaches c.set f.upper) (r.container (prev_of f)) ∙ k.short }

    hi_still : (S : ℕ) → f.store ≡ Some S → f.begun ≡ true → Waits w' S → w'.hi (prev_of f) ≡ w.hi (prev_of f)
    hi_still S e b q = let a = added_at S e b in (r.stores.still S _ a.of a.born q).1

    turns : Upward w f → Turns w f → Turns w' f
    turns u = unless f _ _ (λ S e q v. let a = added_at S e u.begun in
        (r.stores.turn S _ _ a.of a.born q (top_kind f.stack u.climb u.some) v.0 v.1, r.key _ ∙ v.1 ∙ sym (hi_still S e u.begun q)))
      where
        top_kind : (s : List ℕ) → Climb w s → s ≢ [] → kind_of w (top_of s) ≡ Route
        top_kind s c h = (top_routed w s c h).0

    nearing : Upward w f → Nearing w f → Nearing w' f
    nearing u = unless f _ _ (λ S e q v. let (X, k, l, i, j, n, en) = v in let a = added_at S e u.begun in let z = hi_still S e u.begun q in
        (X, r.kind X ∙ k, r.stores.turn S _ _ a.of a.born q k l i, r.key X ∙ i ∙ sym z, j, rw z (r.range _ _ (top_born f.stack u.climb u.some) n), entries_stay f.stack _ _ u.climb z en))
      where
        top_born : (s : List ℕ) → Climb w s → s ≢ [] → Born w (top_of s)
        top_born s c h = (top_routed w s c h).1

    nexts : Nexts w f → Nexts w' f
    nexts k = record {
      begun = k.begun;
      kind = λ e. k.kind (sym (r.kind _) ∙ e);
      born = r.born _ k.born;
      top = k.top;
      climb = climbs (tail_of f.stack) k.climb;
      some = k.some;
      beyond = unless f _ _ (λ S e q v. let z = hi_still S e k.begun q in (
        rw z (r.range _ _ k.born v.0),
        rw z (r.range _ _ (top_routed w (tail_of f.stack) k.climb k.some).1 v.1),
        entries_stay (tail_of f.stack) _ _ k.climb z v.2,
      )) k.beyond;
      hung = r.stores.hang _ _ k.born k.climb k.hung;
      short = ap (λ c. reaches c.set f.upper) (r.container (prev_of f)) ∙ k.short;
    }

    outside : Nexts w f → Outside w f → Outside w' f
    outside k o = record {
      other = λ S e v. o.other S e (sym (r.kind _) ∙ v.0, sym (r.stores.store _) ∙ v.1);
      waits = λ S e l. let q = o.waits S e (was_live _ k.born l) in let a = tell S e in let d = a.added k.begun in
          r.stores.hold_base S (prev_of f) f.base a.low d.of d.born q (subst (λ v. reaches (w.nodes (prev_of f)).container.set v ≡ false) a.upper k.short) k.kind l (o.other S e) (k.beyond S e q).0;
    }

    aheads : Upward w f → Ahead w f → Ahead w' f
    aheads u = unless f _ _ (λ S e q v i. let z = hi_still S e u.begun q in let (X, k, l, j, m) = v (rw z at i) in let a = added_at S e u.begun in
        (X, r.kind X ∙ k, r.stores.turn S _ _ a.of a.born q k l j, r.key X ∙ j ∙ sym z, m))

    besides : Upward w f → Beside w f → Beside w' f
    besides u k = record {
      some = k.some;
      key = k.key ∙ sym (r.key _);
      off = unless f _ _ (λ S e q v. let a = added_at S e u.begun in r.stores.off S _ _ true a.of a.born q v) k.off;
    }

    complete : Complete w f → Complete w' f
    complete k = record {
      begun = k.begun;
      passed = unless f _ _ (λ S e q v. rw (hi_still S e k.begun q) v) k.passed;
      full = unless f _ _ (λ S e q v. elim v [ inl c ↦ inl (ap (λ u. reaches u.set f.upper) (r.container (prev_of f)) ∙ c) | inr c ↦ inr (hi_still S e k.begun q ∙ c) ]) k.full;
    }

    ready : Ready w f → Ready w' f
    ready (S, c, e, q) = (S, c, e, (r.stores.set S c q).0)

  pub stays : (p : Place) (t : ℕ) (th : Thread) → (owning p ≡ true → Mine th.main) → Pile w hist t th → Know p w t th → Know p w' t th
  stays nowhere t th mine pl k = k
  stays p1 t th mine pl k = k
  stays p2 t th mine pl (a, h, e) = (record { kind = r.kind _ ∙ a.kind; born = r.born _ a.born; range = r.range _ _ a.born a.range; fresh = λ i. r.fresh _ _ h (a.fresh i) }, omega (arith, r.now), e)
  stays p3 t th mine pl (a, h, e) = (base _ _ a, h, e)
  stays p4 t th mine pl (a, h, e) = (record { born = r.born _ a.born; range = r.range _ _ a.born a.range; fresh = λ i. r.fresh _ _ h (a.fresh i) }, omega (arith, r.now), e)
  stays p5 t th mine pl (a, f, h, e) = (base _ _ a, (λ i. r.fresh _ _ h (f i)), omega (arith, r.now), e)
  stays (swap own q) t th mine pl a = record { act = a.act; at = base _ _ a.at; repl = r.replaceable _ a.repl; two = λ e. rw (r.container th.base) (a.two e); bare = a.bare }
  stays p15 t th mine pl (a, h, c, v) = (record { kind = λ e. a.kind (sym (r.kind _) ∙ e); born = r.born _ a.born }, h, c, on_top w hist t th th.frames _ _ pl (λ f s k. blocks_stays th.base f s k) v)
  stays p16 t th mine pl (a, h, c) = (on_main _ a, h, shorts th.frames c)
  stays p19 t th mine pl a = seeks th a
  stays p20 t th mine pl a = seeks th a
  stays p21 t th mine pl a = seeks th a
  stays p22 t th mine pl a = seeks th a
  stays p23 t th mine pl (a, b) = (seeks th a, side_by _ _ _ _ _ (back_in_lem th a) b)
  stays p24 t th mine pl (a, b) = (seeks th a, found_by_lem _ _ _ _ _ (back_in_lem th a) b)
  stays p25 t th mine pl (a, b, c) = (seeks th a, found_by_lem _ _ _ _ _ (back_in_lem th a) b, r.replaceable _ c)
  stays (swap found q) t th mine pl (a, b, c) = (holds th (mine refl) a, found_by_lem _ _ _ _ _ (r.prep_was _) b, r.replaceable _ c)
  stays p30 t th mine pl (a, b) = (holds th (mine refl) a, neighed th (mine refl) b)
  stays p31 t th mine pl (a, b, c) = (holds th (mine refl) a, neighed th (mine refl) b, topped th (mine refl) a c)
  stays p32 t th mine pl (a, b, c, d) = (holds th (mine refl) a, neighed th (mine refl) b, topped th (mine refl) a c, record { kind = r.kind _ ∙ d.kind; born = r.born _ d.born })
  stays p33 t th mine pl (a, b, c, (G, e, i)) = (holds th (mine refl) a, neighed th (mine refl) b, topped th (mine refl) a c, (G, e, r.above _ _ _ _ a.owns c i))
  stays p34 t th mine pl (a, b, c, d) = (holds th (mine refl) a, neighed th (mine refl) b, topped th (mine refl) a c, grand th (mine refl) a c d)
  stays p35 t th mine pl (a, b, c, d, s) = (
    holds th (mine refl) a,
    neighed th (mine refl) b,
    topped th (mine refl) a c,
    grand th (mine refl) a c d,
    λ e. r.other _ _ _ _ (r.prep_was _ e) a.owns c b ∙ s (r.prep_was _ e),
  )
  stays p36 t th mine pl (a, c, d) = (holds th (mine refl) a, topped th (mine refl) a c, grand th (mine refl) a c d)
  stays p37 t th mine pl (a, c) = (holds th (mine refl) a, topped th (mine refl) a c)
  stays p38 t th mine pl a = holds th (mine refl) a
  stays p40 t th mine pl a = helps th a
  stays (swap united q) t th mine pl a = union_stays q th a
  stays p45 t th mine pl (a, b) = (helps th a, r.n_dead _ a.closed b)
  stays p46 t th mine pl (a, (b, i)) = (helps th a, (r.n_dead _ a.closed b, p_stale _ i))
  stays p47 t th mine pl (a, (b, i), c) = (helps th a, (r.n_dead _ a.closed b, p_stale _ i), r.there_p _ true a.main a.closed c)
  stays p48 t th mine pl (a, (b, i), c) = (helps th a, (r.n_dead _ a.closed b, p_stale _ i), r.off_p _ true a.main a.closed c)
  stays p49 t th mine pl (a, (b, i), c) = (helps th a, (r.n_dead _ a.closed b, p_stale _ i), r.there_p _ false a.main a.closed c)
  stays p50 t th mine pl (a, b) = (helps th a, p_dead _ b)
  stays p51 t th mine pl (a, b) = (helps th a, p_dead _ b)
  stays p60 t th mine pl (a, h) = (a, h)
  stays p61 t th mine pl (a, h) = (on_top w hist t th th.frames _ _ pl (λ f s k. downward f s k) a, h)
  stays p62 t th mine pl (a, h) = (on_top w hist t th th.frames _ _ pl (λ f s k. opening_stays f s k) a, h)
  stays (swap opening q) t th mine pl (a, h) = (on_top w hist t th th.frames _ _ pl (λ f s (k, v). (opening_stays f s k, r.replaceable _ v)) a, h)
  stays p70 t th mine pl (a, h) = (on_top w hist t th th.frames _ _ pl (λ f s (k, v, x). (upward f s k, v, x)) a, h)
  stays p71 t th mine pl (a, h) = (on_top w hist t th th.frames _ _ pl (λ f s (k, v, x). (upward f s k, turns f s k v, x)) a, h)
  stays p72 t th mine pl (a, h) = (on_top w hist t th th.frames _ _ pl (λ f s (k, x, v, o). (upward f s k, x, aheads f s k v, besides f s k o)) a, h)
  stays p73 t th mine pl (a, h) = (on_top w hist t th th.frames _ _ pl (λ f s (k, v). (upward f s k, nearing f s k v)) a, h)
  stays p74 t th mine pl (a, h) = (on_top w hist t th th.frames _ _ pl (λ f s k. nexts f s k) a, h)
  stays p76 t th mine pl (a, h) = (on_top w hist t th th.frames _ _ pl (λ f s (k, o). (nexts f s k, outside f s k o)) a, h)
  stays (swap next q) t th mine pl (a, h) = (on_top w hist t th th.frames _ _ pl (λ f s (k, v). (nexts f s k, r.replaceable _ v)) a, h)
  stays p81 t th mine pl (a, h) = (on_top w hist t th th.frames _ _ pl (λ f s k. complete f s k) a, h)
  stays p82 t th mine pl (a, h) = (on_top w hist t th th.frames _ _ pl (λ f s k. ready f s k) a, h)
