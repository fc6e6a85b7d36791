-- A run makes at most 63 routes (`few_routes`): a live route has a key of its own, which was ever in; a dead one has a closed main of its own; and what
-- they cost is in Worth.antt. It rests on the invariant's ranges and marks, and on its `linked`: every route was in the tree. So a lookup has its row by its
-- 64th step: at every step but the first and the last it reads a route with more routes below its number (`lookups_end_sooner`).
use Rattle.std.specs.Prelude.{Option, Some, None}
use mathlib.Core.Path.{◌≡◌, refl, sym, ◌∙◌, ap, subst}
use mathlib.Core.Logic.{◌≢◌, inl, inr}
use mathlib.Core.Bool.{Bool, true, false, not, ◌&&◌, true≢false, false≢true}
use Prim.Native.Nat.{ℕ, zero, suc, ◌+◌, ◌<◌, ◌≤◌}
use native.Mathlib.Omega.{arith}
use native.Mathlib.Decide.{dec_lt}
use borrow.Author.Tests.{ne_eqb}
use Rattle.container.specs.Container.{size}
use Rattle.container.proofs.Laws.{has_none}
use Rattle.definitions.specs.declared.Kind.{Kind}
use Rattle.definitions.specs.declared.Kind.TheVariants.{Normal, Route, Main, Neighbour, Range}
use Rattle.definitions.specs.declared.Quarter.{Quarter}
use Rattle.definitions.specs.declared.Action.TheVariants.{Split}
use Rattle.definitions.specs.Nodes.{Nodes, is_route}
use Rattle.definitions.specs.Bench.{Store, Bench, fresh, sight_of}
use Rattle.definitions.specs.Places.{swap, own, place_of}
use Rattle.definitions.specs.Claim.{moment}
use Rattle.definitions.specs.Effects.{perform}
use Rattle.definitions.specs.Steps.{step}
use Rattle.definitions.specs.Plain.{Plain}
use Rattle.answers.proofs.Tools.{clash}
use Rattle.answers.proofs.Memory.{Life, unborn, live, dead, World, Hist, Live, since, Born, lives, died, kind_of, key_of, Mem, Gone}
use Rattle.answers.proofs.Invariant.{seen, Linked}
use Rattle.answers.proofs.Knows.{Know}
use Rattle.answers.proofs.Gaps.{Fits}
use Rattle.answers.proofs.StepEffects.{Each, each}
use Rattle.laws.specs.Jobs.{Reachable, begins, past}
use Rattle.laws.proofs.Kept.{Kept, kept_held}
use Rattle.polls.specs.Bound.{count, FewRoutes, LookupsEndSooner}
use Rattle.polls.proofs.Counts.{one, count_suc, count_same, count_more, count_into}
use Rattle.polls.proofs.Worth.{routes, closed, Worth, worths}
use Rattle.polls.proofs.Rulers.{Ruler, Local}
use Rattle.polls.proofs.Walks.{Ground, ground_next, ground_fresh, within}

-- ---- at most 63 routes

abbrev alive : Life → Bool
alive unborn = false
alive live = true
alive (dead k) = false

is_live : (l : Life) → alive l ≡ true → l ≡ live
is_live unborn e = absurd (false≢true e)
is_live live e = refl
is_live (dead k) e = absurd (false≢true e)

abbrev target : Option ℕ → ℕ
target None = 0
target (Some m) = m

route_is : (k : Kind) → is_route k ≡ true → k ≡ Route
route_is Normal e = absurd (false≢true e)
route_is Route e = refl
route_is Main e = absurd (false≢true e)
route_is Neighbour e = absurd (false≢true e)
route_is Range e = absurd (false≢true e)

both : (a b : Bool) → a && b ≡ true → (a ≡ true) × (b ≡ true)
both true b e = (refl, e)
both false b e = absurd (false≢true e)

count_split : (n : ℕ) (p a : ℕ → Bool) → count n p ≤ count n (λ x. p x && a x) + count n (λ x. p x && not (a x))
unfolding count
count_split zero p a = omega arith
count_split (suc n) p a = omega (arith, parts (p n) (a n), count_split n p a)
  where
    parts : (c d : Bool) → one c ≤ one (c && d) + one (c && not d)
    parts true true = omega arith
    parts true false = omega arith
    parts false d = omega arith

module _ {w : World} {hist : Hist} (mem : Mem w hist) (s : Store) (en : w.nodes ≡ s.nodes) (eu : w.used ≡ s.used) (worth : Worth s)
    (linked : Linked 0 w) where
  abbrev live_r : ℕ → Bool
  live_r x = routes w.nodes x && alive (w.life x)

  abbrev dead_r : ℕ → Bool
  dead_r x = routes w.nodes x && not (alive (w.life x))

  live_of : (x : ℕ) → live_r x ≡ true → (kind_of w x ≡ Route) × Live w x
  live_of x e = let o = both _ _ e in (route_is _ o.0, is_live _ o.1)

  -- live routes have keys of their own
  apart : (x y : ℕ) → live_r x ≡ true → live_r y ≡ true → x < y → key_of w x ≡ key_of w y → ⊥
  apart x y e i l q = let a = live_of x e in let c = live_of y i in let k = mem.routes.key y c.0 (lives c.1) in
      elim (mem.sep.young x y a.0 a.1 (lives c.1) l) [ inl z ↦ omega arith | inr z ↦ omega arith ]

  live_few : count w.used live_r ≤ count 64 worth.ever
  live_few = count_into w.used 64 live_r worth.ever (key_of w)
      (λ x _ e. let a = live_of x e in let k = mem.routes.key x a.0 (lives a.1) in let r = mem.shape.range x (lives a.1) in
      (omega arith, ap (λ v. worth.ever (v x).key) en ∙ worth.keys x (ap (λ v. (v x).kind) (sym en) ∙ a.0)))
      (λ x y _ _ e i q. elim (dec_lt x y) [ yes l ↦ absurd (apart x y e i l q) | no l ↦ elim (dec_lt y x) [ yes l' ↦ absurd (apart y x i e l' (sym q)) | no l' ↦ omega arith ] ])

  -- dead routes have closed mains of their own
  record Buried (x : ℕ) : Type 0 where
    k : ℕ
    m : ℕ
    d : Bool
    gone : Gone w x k m d

  dead_of : (x : ℕ) → x < w.used → dead_r x ≡ true → Buried x
  dead_of x l e = let o = both _ _ e in go (linked x (omega arith) l (route_is _ o.0)) (route_is _ o.0) o.1
    where
      go : Born w x → kind_of w x ≡ Route → not (alive (w.life x)) ≡ true → Buried x
      go (lives a) q i = absurd (false≢true (ap (λ v. not (alive v)) (sym a) ∙ i))
      go (died (since k a)) q i = let (m, d, g) = mem.routes.gone x k q a in record { k = k; m = m; d = d; gone = g }

  closed_main : (m : ℕ) → kind_of w m ≡ Main → (w.nodes m).union ≢ 0 → closed w.nodes m ≡ true
  closed_main m e h = rw (e, ne_eqb (w.nodes m).union 0 h)

  dead_few : count w.used dead_r ≤ count w.used (closed w.nodes)
  dead_few = count_into w.used w.used dead_r (closed w.nodes) (λ x. target (w.nodes x).mark)
      (λ x l e. let g = dead_of x l e in let z : target (w.nodes x).mark ≡ g.m = ap target g.gone.mark in let q = route_is _ (both _ _ e).0 in
      let o = mem.marks.main x g.m q (linked x (omega arith) l q) g.gone.mark in let (P, R, d, j) = mem.mains.joint g.m o.0 o.1 g.gone.closed in
      rw z (mem.shape.low g.m o.1, closed_main g.m o.0 (λ u. worth.first (ap (λ v. (v 0).kind) (sym en) ∙ ap (λ v. (w.nodes v).kind) (sym u) ∙ j.kind_u))))
      (λ x y l l' e i q. let g = dead_of x l e in let h = dead_of y l' i in
      same x y g.m h.m (sym (ap target g.gone.mark) ∙ q ∙ ap target h.gone.mark) g.gone.parent h.gone.parent)
    where
      same : (x y m m' : ℕ) → m ≡ m' → (w.nodes m).parent ≡ Some x → (w.nodes m').parent ≡ Some y → x ≡ y
      same x y m m' e i j = let z : (w.nodes m).parent ≡ Some y = ap (λ v. (w.nodes v).parent) e ∙ j in cc

  routes_few : s.used ≤ 256 → count s.used (routes s.nodes) ≤ 63
  routes_few f = let a = count_split w.used (routes w.nodes) (λ x. alive (w.life x)) in
      let r : count w.used (routes w.nodes) ≡ count s.used (routes s.nodes) = rw (en, eu) in
      let c : count w.used (closed w.nodes) ≡ count s.used (closed s.nodes) = rw (en, eu) in
      omega (arith, live_few, dead_few, worth.sum)

-- ---- at every moment

two_stations : (b : Bench) (P : Plain) → Kept b P → (t : ℕ) (q : Quarter) → place_of (b.threads t).place ≡ swap own q → (b.threads t).action ≡ Split
    → 2 ≤ size (b.store.nodes (b.threads t).base).container.set
two_stations b P kept t q e = let h = kept_held kept in let w = seen b.store.nodes b.store h.ghost kept.now in
    let k : Know (swap own q) w (moment (kept.first t)) (b.threads t) = subst (λ p. Know p w (moment (kept.first t)) (b.threads t)) e (h.knows t) in k.two

worth_step : (b : Bench) (P : Plain) (t : ℕ) → Kept b P → Fits b.store → Worth b.store
    → Each (λ e. Worth (perform e b.store)) (step (place_of (b.threads t).place) (sight_of b.store) (b.threads t))
worth_step b P t kept f w = each b.store _ (b.threads t) _ (worths b.store _ (b.threads t) f.some (two_stations b P kept t) w)

none_of : (n : ℕ) → count n (λ _. false) ≡ 0
unfolding count
none_of zero = refl
none_of (suc n) = omega (arith, none_of n)

worth_fresh : (on : Bool) → Worth (fresh on).store
worth_fresh on = record {
  ever = λ _. false;
  first = λ e. clash (cc);
  stocks = λ x st e. absurd (true≢false (sym e ∙ has_none st));
  keys = λ x e. absurd (clash (cc));
  sum = rw (none_of 64, none_of 1) (omega arith);
}

few : (b : Bench) (P : Plain) → Kept b P → Fits b.store → Worth b.store → count b.store.used (routes b.store.nodes) ≤ 63
few b P kept f worth = routes_few (kept_held kept).mem b.store refl refl worth (kept_held kept).linked f.numbers

-- ---- the marks: how many routes there are up to a number

abbrev upto : Nodes → ℕ → ℕ
upto n x = count (suc x) (routes n)

with_route : (n : Nodes) (x : ℕ) → (n x).kind ≡ Route → upto n x ≡ 1 + count x (routes n)
with_route n x e = count_suc x (routes n) ∙ ap (λ v. one (is_route v) + count x (routes n)) e

upto_local : Local upto
upto_local n n' x h = count_same (suc x) (routes n') (routes n) (λ y l. ap is_route (h y (omega arith)))

rising : (b : Bench) (P : Plain) → Kept b P → Fits b.store → Worth b.store → Ruler 63 upto b.store
rising b P kept f w = record {
  first = λ x l e. rw (with_route b.store.nodes x e) (omega arith);
  more = λ r x l h i e. rw (with_route b.store.nodes x e) (omega (arith, count_more (suc r) x (routes b.store.nodes) (omega arith)));
  most = λ x l e. omega (arith, count_more (suc x) b.store.used (routes b.store.nodes) (omega arith), few b P kept f w);
}

-- ---- the theorems

pub few_routes : FewRoutes
few_routes b z = let g = (ground b z).1 in few b g.plain g.kept g.fits g.also
  where
    ground : (b : Bench) → Reachable b → (on : Bool) × Ground 63 upto upto_local Worth worth_step rising on b
    ground b (begins on e) = (on, subst (Ground 63 upto upto_local Worth worth_step rising on) (sym e) (ground_fresh 63 upto upto_local Worth worth_step rising worth_fresh on))
    ground b (past c r w z e) = let (on, g) = ground c z in (on, ground_next 63 upto upto_local Worth worth_step rising on c b r w g e)

pub lookups_end_sooner : LookupsEndSooner
lookups_end_sooner = within 63 upto upto_local Worth worth_step rising worth_fresh
