-- An update (insert or remove) in a calm tree that nobody else changes: place by place it moves on, no swap fails, and at most n steps are
-- left (`Solo`), two of them at 4 and 5 with the stop on. A fact of the store and the thread alone.
use Rattle.std.specs.Prelude.{Option, Some, None}
use mathlib.Core.Path.{◌≡◌, refl, sym, ◌∙◌, ap, subst}
use mathlib.Core.Logic.{◌≢◌, inl, inr}
use mathlib.Core.Bool.{Bool, true, false, not, cond, false≢true}
use Prim.Native.Nat.{ℕ, suc, ◌+◌, ◌<◌, ◌≤◌}
use native.Mathlib.Omega.{arith}
use lib.Dec.{eqb, ltb}
use borrow.Author.Tests.{eq-eqb, eqb-true, eqb-false, le-leb, ltb-true, ltb-false}
use Rattle.container.specs.Choice.{ite}
use Rattle.container.specs.Container.{has}
use Rattle.definitions.specs.declared.Kind.TheVariants.{Route}
use Rattle.definitions.specs.declared.Action.{Action}
use Rattle.definitions.specs.declared.Action.TheVariants.{Insert, Remove}
use Rattle.definitions.specs.declared.Quarter.TheVariants.{ReadLeft, SwapLeft, ReadRight, SwapRight}
use Rattle.definitions.specs.declared.Spot.{Spot}
use Rattle.definitions.specs.declared.Spot.TheVariants.{Root, Under}
use Rattle.definitions.specs.declared.Probe.TheVariants.{Next}
use Rattle.definitions.specs.Threads.{Thread, Turn, Moves, Finishes, Finds, Full, NoStore}
use Rattle.definitions.specs.Answers.{said, depth_in}
use Rattle.definitions.specs.Nodes.{Nodes, shape, kid_of, child_for}
use Rattle.definitions.specs.Bench.{Store, sight_of}
use Rattle.definitions.specs.declared.Effect.{Effect}
use Rattle.definitions.specs.declared.Effect.TheVariants.{Quiet, Raise}
use Rattle.definitions.specs.Effects.{recount, perform}
use Rattle.definitions.specs.Places.{place_of, reading}
use Rattle.definitions.specs.Steps.{lacks_as, lacks, at_leaf, reached, onward, one_more, followed, released, cleared_as, cleared, probe, replaced_as, replaced, own_by, step}
use Rattle.answers.specs.Reachable.{Reached}
use Rattle.answers.proofs.Tools.{clash}
use Rattle.answers.proofs.Shown.{kind_route, kind_base}
use Rattle.answers.proofs.CountSteps.{few_read, many_read}
use Rattle.laws.specs.Jobs.{Updating}
use Rattle.laws.proofs.Owners.{hang_used}
use Rattle.laws.proofs.Calm.{Calm, Hangs, first, under}

-- the steps that the stop may add
abbrev more : Store → ℕ
more s = cond s.stop.on 2 0

-- where an update stands, with at most n steps to go: 1 reads the root, 2 at most 63 routes, then 3, 10, 12 and 13; with the stop on it goes from
-- 2 to 4 and counted on by 2 (at2') to 5
pub data Solo (s : Store) (th : Thread) (n : ℕ) : Type 0 where
  at1 : th.place ≡ 1 → 68 + more s ≤ n → Solo s th n
  at2 : (d lo hi : ℕ) → th.place ≡ 2 → Reached s.nodes s.root d th.route lo hi → (s.nodes th.route).kind ≡ Route → (s.stop.on ≡ true → th.read < 8) → 67 + more s ≤ n + d → Solo s th n
  at4 : (d lo hi : ℕ) → th.place ≡ 4 → s.stop.on ≡ true → Reached s.nodes s.root d th.route lo hi → 7 < th.read → 69 ≤ n + d → Solo s th n
  at2' : (d lo hi : ℕ) → th.place ≡ 2 → s.stop.on ≡ true → Reached s.nodes s.root d th.route lo hi → (s.nodes th.route).kind ≡ Route → 7 < th.read → 68 ≤ n + d
      → Solo s th n
  at5 : (d lo hi : ℕ) → th.place ≡ 5 → Reached s.nodes s.root d th.base lo hi → (s.nodes th.base).kind ≢ Route → 5 ≤ n → Solo s th n
  at3 : (d lo hi : ℕ) → th.place ≡ 3 → Reached s.nodes s.root d th.base lo hi → (s.nodes th.base).kind ≢ Route → 4 ≤ n → Solo s th n
  at10 : th.place ≡ 10 → Hangs s th.base → 3 ≤ n → Solo s th n
  at11 : (p : ℕ) → th.place ≡ 11 → (s.nodes th.base).parent ≡ Some p → (s.nodes p).left ≡ th.base → 1 ≤ n → Solo s th n
  at12 : (p : ℕ) → th.place ≡ 12 → (s.nodes th.base).parent ≡ Some p → (s.nodes p).right ≡ th.base → 2 ≤ n → Solo s th n
  at13 : (p : ℕ) → th.place ≡ 13 → (s.nodes th.base).parent ≡ Some p → (s.nodes p).right ≡ th.base → 1 ≤ n → Solo s th n

pub solo_busy : (s : Store) (th : Thread) (n : ℕ) → Solo s th n → th.place ≢ 0
solo_busy s th n (at1 e _) z = omega arith
solo_busy s th n (at2 _ _ _ e _ _ _ _) z = omega arith
solo_busy s th n (at4 _ _ _ e _ _ _ _) z = omega arith
solo_busy s th n (at2' _ _ _ e _ _ _ _ _) z = omega arith
solo_busy s th n (at5 _ _ _ e _ _ _) z = omega arith
solo_busy s th n (at3 _ _ _ e _ _ _) z = omega arith
solo_busy s th n (at10 e _ _) z = omega arith
solo_busy s th n (at11 _ e _ _ _) z = omega arith
solo_busy s th n (at12 _ e _ _ _) z = omega arith
solo_busy s th n (at13 _ e _ _ _) z = omega arith

-- a step: on to a place with fewer steps to go and at most the count changed, or the row, with one number used; never refused
abbrev pub SoloTurn : Store → ℕ → Turn → Type 0
SoloTurn s n (Moves th' e) = (c : ℕ) × (perform e s ≡ recount c s) × Updating th'.action × Solo (recount c s) th' n
SoloTurn s n (Finishes e a) = ((perform e s).used ≡ suc s.used) × ((m : Nodes) (k : ℕ) → depth_in a m k ≡ 0)
SoloTurn s n (Finds c) = ⊥
SoloTurn s n Full = ⊥
SoloTurn s n NoStore = ⊥

-- by action, for updates only
pub updating : (Q : Action → Type 0) → Q Insert → Q Remove → (a : Action) → Updating a → Q a
updating Q i r a (inl e) = subst Q (sym e) i
updating Q i r a (inr e) = subst Q (sym e) r

no_depth : (c : Bool) (m : Nodes) (k : ℕ) → depth_in (said c) m k ≡ 0
no_depth true m k = refl
no_depth false m k = refl

module _ (s : Store) (calm : Calm s) (th : Thread) (upd : Updating th.action) (fits : s.used + 1 ≤ 256) where
  either : (n : ℕ) (c : Bool) (o o' : Turn) → (c ≡ true → SoloTurn s n o) → (c ≡ false → SoloTurn s n o') → SoloTurn s n (ite c o o')
  unfolding ite
  either n true o o' f g = f refl
  either n false o o' f g = g refl

  leaf : (n k d x lo hi : ℕ) → Reached s.nodes s.root d x lo hi → (s.nodes x).kind ≢ Route → 4 ≤ n
      → SoloTurn s n (at_leaf th.action (sight_of s).nodes (reading s.stop.on k th) x)
  leaf n k d x lo hi c h l = updating (λ a. SoloTurn s n (at_leaf a (sight_of s).nodes (reading s.stop.on k th) x)) (s.stop.count, refl, upd, at3 d lo hi refl c h l)
      (s.stop.count, refl, upd, at3 d lo hi refl c h l) th.action upd

  -- with k routes read since 1, not counted
  arrives : (n k d x lo hi : ℕ) → Reached s.nodes s.root d x lo hi → (s.stop.on ≡ true → k < 8) → ((s.nodes x).kind ≡ Route → 67 + more s ≤ n + d) → 4 ≤ n
      → SoloTurn s n (reached (sight_of s).nodes (reading s.stop.on k th) x)
  unfolding reached
  arrives n k d x lo hi c f h l =
      either n _ _ _ (λ i. (s.stop.count, refl, upd, at2 d lo hi refl c (kind_route _ i) (λ z. rw z (f z)) (h (kind_route _ i)))) (λ i. leaf n k d x lo hi c (kind_base _ i) l)

  -- counted
  passes : (n : ℕ) (e : Effect) (c d x lo hi : ℕ) → perform e s ≡ recount c s → s.stop.on ≡ true → Reached s.nodes s.root d x lo hi → 68 ≤ n + d → 5 ≤ n
      → (v : Bool) (k : ℕ) → 7 < (reading v k th).read → SoloTurn s n (onward e (sight_of s).nodes (reading v k th) x)
  unfolding onward
  passes n e c d x lo hi z o r h l v k m = either n _ _ _ (λ i. (c, z, upd, at2' d lo hi refl o r (kind_route _ i) m h)) (λ i. (c, z, upd, at5 d lo hi refl r (kind_base _ i) l))

  lets_go : (n d lo hi : ℕ) → Reached s.nodes s.root d th.base lo hi → (s.nodes th.base).kind ≢ Route → 4 ≤ n → SoloTurn s n (released th.action (sight_of s).nodes th)
  lets_go n d lo hi c h l = updating (λ a. SoloTurn s n (released a (sight_of s).nodes th)) (_, refl, upd, at3 d lo hi refl c h l) (_, refl, upd, at3 d lo hi refl c h l) th.action upd

  swaps : (n : ℕ) (v : Spot) → SoloTurn s n (replaced v ((sight_of s).nodes th.base) s.used th)
  unfolding replaced ite
  swaps n v = updating (λ a. SoloTurn s n (replaced_as a v ((sight_of s).nodes th.base) s.used th))
      (rw (le-leb (s.used + 1) 256 fits) (hang_used v s.used _, no_depth (not (has (s.nodes th.base).container.set th.station))))
      (rw (le-leb (s.used + 1) 256 fits) (hang_used v s.used _, no_depth (has (s.nodes th.base).container.set th.station)))
      th.action upd

  clears : (n : ℕ) → Hangs s th.base → 3 ≤ n → SoloTurn s n (cleared s.stop.on ((sight_of s).nodes th.base) th)
  unfolding cleared
  clears n h l = updating (λ a. SoloTurn s n (cleared_as a s.stop.on ((sight_of s).nodes th.base) th)) (s.stop.count, refl, upd, at10 refl h l) (s.stop.count, refl, upd, at10 refl h l) th.action upd

  -- an update lacks nothing
  lacks_not : lacks ((sight_of s).nodes th.base) th ≡ false
  unfolding lacks
  lacks_not = updating (λ a. lacks_as a ((sight_of s).nodes th.base) ≡ false) refl refl th.action upd

  -- ---- 10 to 13

  same_link : {p r : ℕ} (l : Option ℕ) → Some p ≡ l → l ≡ Some r → p ≡ r
  same_link l e i = cc

  reads_left : (n : ℕ) (l : Option ℕ) → l ≡ (s.nodes th.base).parent → Hangs s th.base → 2 ≤ n
      → SoloTurn s n (own_by (probe ReadLeft l (sight_of s).nodes s.root th.base) ((sight_of s).nodes th.base) s.used th)
  unfolding probe ite
  reads_left n None e (first i j) h = rw (eq-eqb s.root th.base j) (swaps n Root)
  reads_left n None e (under r f i j) h = absurd (clash (cc))
  reads_left n (Some p) e (first i j) h = absurd (clash (cc))
  reads_left n (Some p) e (under r f i j) h = go (eqb (s.nodes p).left th.base) refl
    where
      on_right : (f : Bool) → (s.nodes p).left ≢ th.base → kid_of f (shape (s.nodes p)) ≡ th.base → (s.nodes p).right ≡ th.base
      on_right true o k = absurd (o k)
      on_right false o k = k

      go : (c : Bool) → eqb (s.nodes p).left th.base ≡ c → SoloTurn s n (own_by (ite c (Next SwapLeft) (Next ReadRight)) ((sight_of s).nodes th.base) s.used th)
      go true c = (s.stop.count, refl, upd, at11 p refl (sym e) (eqb-true _ _ c) (omega arith))
      go false c = (s.stop.count, refl, upd, at12 p refl (sym e) (on_right f (eqb-false _ _ c) (ap (λ v. kid_of f (shape (s.nodes v))) (same_link _ e i) ∙ j)) h)

  swaps_left : (n p : ℕ) (l : Option ℕ) → l ≡ Some p → (s.nodes p).left ≡ th.base
      → SoloTurn s n (own_by (probe SwapLeft l (sight_of s).nodes s.root th.base) ((sight_of s).nodes th.base) s.used th)
  unfolding probe ite
  swaps_left n p l e h = rw (e, eq-eqb (s.nodes p).left th.base h) (swaps n (Under p true))

  reads_right : (n p : ℕ) (l : Option ℕ) → (s.nodes th.base).parent ≡ Some p → l ≡ Some p → (s.nodes p).right ≡ th.base → 1 ≤ n
      → SoloTurn s n (own_by (probe ReadRight l (sight_of s).nodes s.root th.base) ((sight_of s).nodes th.base) s.used th)
  unfolding probe ite
  reads_right n p l i e h k = rw (e, eq-eqb (s.nodes p).right th.base h) (s.stop.count, refl, upd, at13 p refl i h k)

  swaps_right : (n p : ℕ) (l : Option ℕ) → l ≡ Some p → (s.nodes p).right ≡ th.base
      → SoloTurn s n (own_by (probe SwapRight l (sight_of s).nodes s.root th.base) ((sight_of s).nodes th.base) s.used th)
  unfolding probe ite
  swaps_right n p l e h = rw (e, eq-eqb (s.nodes p).right th.base h) (swaps n (Under p false))

  -- ---- 2: the child of a route that was reached, one deeper

  abbrev child : ℕ
  child = child_for th.station ((sight_of s).nodes th.route)

  deeper : (d lo hi : ℕ) → Reached s.nodes s.root d th.route lo hi → (s.nodes th.route).kind ≡ Route → (l : ℕ) × (h : ℕ) × Reached s.nodes s.root (suc d) child l h
  deeper d lo hi c k = (_, _, Reached.step {d = suc d} {x = child} d th.route lo hi (ltb th.station (s.nodes th.route).key) c k refl refl refl refl)

  -- the routes read since 1, this one among them, and the thread with them
  abbrev reads : ℕ
  reads = one_more th.read

  abbrev th' : Thread
  th' = reading s.stop.on reads th

  reads_is : s.stop.on ≡ true → th'.read ≡ reads
  reads_is e = rw e

  down : (n d lo hi : ℕ) → Reached s.nodes s.root d th.route lo hi → (s.nodes th.route).kind ≡ Route → (s.stop.on ≡ true → th.read < 8) → 67 + more s ≤ suc n + d
      → (v : Bool) → s.stop.on ≡ v → SoloTurn s n (followed v (sight_of s).nodes th' child)
  unfolding followed
  down n d lo hi c k f l false e = let (a, h, z) = deeper d lo hi c k in
      arrives n reads (suc d) child a h z (λ o. absurd (false≢true (sym e ∙ o))) (λ _. omega arith) (omega (arith, calm.depth _ _ _ _ z))
  down n d lo hi c k f l true e = let (a, h, z) = deeper d lo hi c k in let l' : 69 ≤ suc n + d = rw e at l in let r = reads_is e in
      either n _ _ _ (λ i. arrives n reads (suc d) child a h z (λ _. omega (arith, r, ltb-true th'.read 8 i)) (λ _. omega arith) (omega (arith, calm.depth _ _ _ _ z)))
      (λ i. either n _ _ _ (λ j. (s.stop.count, refl, upd, at4 (suc d) a h refl e z (omega (arith, eqb-true th'.read 8 j)) (omega arith)))
      (λ j. absurd (over th'.read reads th.read r (ltb-false th'.read 8 i) (eqb-false th'.read 8 j) (f e) (many_read th.read))))
    where
      over : (m k q : ℕ) → m ≡ k → 8 ≤ m → m ≢ 8 → q < 8 → (8 < k → 7 < q) → ⊥
      over m k q a b c d g = let h = g (omega (arith, a, b, c)) in omega (arith, h, d)

  counted : (n d lo hi : ℕ) → s.stop.on ≡ true → Reached s.nodes s.root d th.route lo hi → (s.nodes th.route).kind ≡ Route → 7 < th.read → 68 ≤ suc n + d
      → (v : Bool) → s.stop.on ≡ v → SoloTurn s n (followed v (sight_of s).nodes th' child)
  unfolding followed
  counted n d lo hi o c k f l false e = absurd (false≢true (sym e ∙ o))
  counted n d lo hi o c k f l true e = let (a, h, z) = deeper d lo hi c k in let r = reads_is o in
      either n _ _ _ (λ i. absurd (under_8 th'.read reads th.read r (omega (arith, ltb-true th'.read 8 i)) f (few_read th.read)))
      (λ i. either n _ _ _ (λ j. absurd (under_8 th'.read reads th.read r (omega (arith, eqb-true th'.read 8 j)) f (few_read th.read)))
      (λ _. passes n Quiet s.stop.count (suc d) child a h refl o z (omega arith) (omega (arith, calm.depth _ _ _ _ z)) s.stop.on reads (omega (arith, ltb-false th'.read 8 i))))
    where
      under_8 : (m k q : ℕ) → m ≡ k → m ≤ 8 → 7 < q → (k ≤ 8 → q ≤ 7) → ⊥
      under_8 m k q a b d g = let h = g (omega (arith, a, b)) in omega (arith, h, d)

  -- ---- every place

  abbrev Here : ℕ → ℕ → Type 0
  Here n p = SoloTurn s n (step (place_of p) (sight_of s) th)

  pub solo : (n : ℕ) → Solo s th (suc n) → SoloTurn s n (step (place_of th.place) (sight_of s) th)
  unfolding step ite
  solo n (at1 e l) = subst (Here n) (sym e) (arrives n 0 0 s.root 0 64 (Reached.top refl refl refl refl) (λ _. omega arith) (λ _. omega arith) (omega arith))
  solo n (at2 d lo hi e c k f l) = subst (Here n) (sym e) (down n d lo hi c k f l s.stop.on refl)
  solo n (at4 d lo hi e o c f l) = subst (Here n) (sym e) (passes n Raise (suc s.stop.count) d th.route lo hi refl o c (omega arith) (omega (arith, calm.depth _ _ _ _ c)) false 0 f)
  solo n (at2' d lo hi e o c k f l) = subst (Here n) (sym e) (counted n d lo hi o c k f l s.stop.on refl)
  solo n (at5 d lo hi e c k l) = subst (Here n) (sym e) (lets_go n d lo hi c k (omega arith))
  solo n (at3 d lo hi e c k l) = subst (Here n) (sym e) (rw (lacks_not, calm.free d _ lo hi c k) (clears n (calm.hangs d _ lo hi c k) (omega arith)))
  solo n (at10 e h l) = subst (Here n) (sym e) (reads_left n _ refl h (omega arith))
  solo n (at11 p e i h l) = subst (Here n) (sym e) (swaps_left n p _ i h)
  solo n (at12 p e i h l) = subst (Here n) (sym e) (reads_right n p _ i i h (omega arith))
  solo n (at13 p e i h l) = subst (Here n) (sym e) (swaps_right n p _ i h)

-- with no step to go it stands nowhere
pub solo_some : (s : Store) (th : Thread) → Calm s → Solo s th 0 → ⊥
solo_some s th calm (at1 _ l) = omega arith
solo_some s th calm (at2 d lo hi _ c k _ l) = omega (arith, calm.depth _ _ _ _ c)
solo_some s th calm (at4 d lo hi _ _ c _ l) = omega (arith, calm.depth _ _ _ _ c)
solo_some s th calm (at2' d lo hi _ _ c _ _ l) = omega (arith, calm.depth _ _ _ _ c)
solo_some s th calm (at5 _ _ _ _ _ _ l) = omega arith
solo_some s th calm (at3 _ _ _ _ _ _ l) = omega arith
solo_some s th calm (at10 _ _ l) = omega arith
solo_some s th calm (at11 _ _ _ _ l) = omega arith
solo_some s th calm (at12 _ _ _ _ l) = omega arith
solo_some s th calm (at13 _ _ _ _ l) = omega arith
