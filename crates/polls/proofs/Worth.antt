-- What the numbers are spent on: one for each station that was ever in, three for each route, one for each join that closed. So four for
-- each route: a live route has a key of its own that was ever in, a dead one a closed main of its own. A range base costs one and adds no station.
use Rattle.std.specs.Prelude.{Option, Some}
use mathlib.Core.Path.{◌≡◌, refl, sym, ◌∙◌, ap}
use mathlib.Core.Logic.{◌≢◌, ◌⊎◌, inl, inr}
use mathlib.Core.Bool.{Bool, true, false, not, ◌&&◌, ◌||◌, true≢false, false≢true}
use Prim.Native.Nat.{ℕ, suc, ◌+◌, ◌*◌, ◌<◌, ◌≤◌}
use native.Mathlib.Omega.{arith}
use native.Mathlib.Decide.{dec_lt}
use lib.Dec.{eqb}
use borrow.Author.Tests.{eq-eqb, ne_eqb}
use Rattle.container.specs.Choice.{upd}
use Rattle.container.specs.Container.{has, size, lower_half, upper_half, split_key}
use Rattle.container.specs.Depths.{Container, put, take_out, merge, lower, upper}
use Rattle.container.proofs.Laws.{has_union, insert_other, remove_other, lower_in, lower_out, upper_in, upper_out, split_key_lem, has_none}
use Rattle.definitions.specs.declared.Kind.{Kind}
use Rattle.definitions.specs.declared.Kind.TheVariants.{Normal, Route, Main, Neighbour, Range}
use Rattle.definitions.specs.declared.Spot.{Spot}
use Rattle.definitions.specs.declared.Spot.TheVariants.{Root, Under}
use Rattle.definitions.specs.declared.Content.{Content}
use Rattle.definitions.specs.declared.Content.TheVariants.{Of, With, Without}
use Rattle.definitions.specs.declared.Action.TheVariants.{Split}
use Rattle.definitions.specs.declared.Quarter.{Quarter}
use Rattle.definitions.specs.Threads.{Thread}
use Rattle.definitions.specs.Nodes.{Nodes, Entry, entry, over, is_route, new_base, new_range, new_route, committed}
use Rattle.definitions.specs.Bench.{Store, store}
use Rattle.definitions.specs.Effects.{hang, push, content_of, forked, perform}
use Rattle.definitions.specs.Places.{Place, swap, own}
use Rattle.answers.proofs.Tools.{◌==?◌, clash}
use Rattle.answers.proofs.StepEffects.{Allowed}
use Rattle.polls.specs.Bound.{count}
use Rattle.polls.proofs.Counts.{one, count_suc, count_le, count_same, count_upd}
use Rattle.polls.proofs.SameKinds.{based, trio, ranged}

-- station st is stored somewhere
abbrev Stored : Store → ℕ → Type 0
Stored s st = (y : ℕ) × (has (s.nodes y).container.set st ≡ true)

-- a new base's stations were stored already, or one is new
content : (s : Store) (c : Content) → (new : ℕ) × ((st : ℕ) → has (content_of c s.nodes).set st ≡ true → Stored s st ⊎ (st ≡ new))
unfolding put take_out
content s (Of y) = (0, λ st e. inl (y, e))
content s (With y n d) = (n, λ st e. elim (st ==? n) [ yes q ↦ inr q | no q ↦ inl (y, sym (insert_other (s.nodes y).container.set n st q) ∙ e) ])
content s (Without y n) = (n, λ st e. elim (st ==? n) [ yes q ↦ inr q | no q ↦ inl (y, sym (remove_other (s.nodes y).container.set n st q) ∙ e) ])

either_of : (a b : Bool) → a || b ≡ true → (a ≡ true) ⊎ (b ≡ true)
either_of true b e = inl refl
either_of false b e = inr e

both : (s : Store) (m n st : ℕ) → has (merge (s.nodes m).container (s.nodes n).container).set st ≡ true → Stored s st
unfolding merge
both s m n st e = elim (either_of (has (s.nodes m).container.set st) (has (s.nodes n).container.set st)
    (sym (has_union (s.nodes m).container.set (s.nodes n).container.set st) ∙ e)) [ inl i ↦ (m, i) | inr i ↦ (n, i) ]

abbrev pub is_main : Kind → Bool
is_main Normal = false
is_main Route = false
is_main Main = true
is_main Neighbour = false
is_main Range = false

abbrev pub routes : Nodes → ℕ → Bool
routes n x = is_route (n x).kind

-- a main whose stage became a node number: `union` is then not 0
abbrev pub closed : Nodes → ℕ → Bool
closed n x = is_main (n x).kind && not (eqb (n x).union 0)

pub record Worth (s : Store) : Type 0 where
  pub ever : ℕ → Bool
  pub first : (s.nodes 0).kind ≢ Neighbour
  pub stocks : (x st : ℕ) → has (s.nodes x).container.set st ≡ true → ever st ≡ true
  pub keys : (x : ℕ) → (s.nodes x).kind ≡ Route → ever (s.nodes x).key ≡ true
  pub sum : 1 + count 64 ever + 3 * count s.used (routes s.nodes) + count s.used (closed s.nodes) ≤ s.used

-- ---- where nothing of this changes

record Alike (n n' : Nodes) (x : ℕ) : Type 0 where
  kind : (n' x).kind ≡ (n x).kind
  key : (n' x).key ≡ (n x).key
  stations : (n' x).container.set ≡ (n x).container.set
  union : (n' x).union ≡ (n x).union

same_worth : (s s' : Store) → s'.used ≡ s.used → ((x : ℕ) → Alike s.nodes s'.nodes x) → Worth s → Worth s'
same_worth s s' u k w = record {
  ever = w.ever;
  first = λ e. w.first (sym (k 0).kind ∙ e);
  stocks = λ x st e. w.stocks x st (ap (λ c. has c st) (sym (k x).stations) ∙ e);
  keys = λ x e. ap w.ever (k x).key ∙ w.keys x (sym (k x).kind ∙ e);
  sum = rw (
    u,
    count_same s.used (routes s'.nodes) (routes s.nodes) (λ x _. ap is_route (k x).kind),
    count_same s.used (closed s'.nodes) (closed s.nodes) (λ x _. rw ((k x).kind, (k x).union)),
  ) w.sum;
}

alike_upd : (n : Nodes) (x y : ℕ) (v : Entry) → v.kind ≡ (n x).kind → v.key ≡ (n x).key → v.container.set ≡ (n x).container.set → v.union ≡ (n x).union → Alike n (upd n x v) y
alike_upd n x y v a b c d = elim (y ==? x) [
  | yes q ↦ rw q (record { kind = rw (eq-eqb x x refl) a; key = rw (eq-eqb x x refl) b; stations = rw (eq-eqb x x refl) c; union = rw (eq-eqb x x refl) d })
  | no q ↦ record { kind = rw (ne_eqb y x q); key = rw (ne_eqb y x q); stations = rw (ne_eqb y x q); union = rw (ne_eqb y x q) }
]

alike_self : (n : Nodes) (x : ℕ) → Alike n n x
alike_self n x = record { kind = refl; key = refl; stations = refl; union = refl }

alike_hang : (v : Spot) (x : ℕ) (s : Store) (y : ℕ) → Alike s.nodes (hang v x s).nodes y
alike_hang Root x s y = record { kind = refl; key = refl; stations = refl; union = refl }
alike_hang (Under r d) x s y = alike_upd s.nodes r y _ refl refl refl refl

-- ---- one new base, perhaps with one new station

more : (p : ℕ → Bool) (y x : ℕ) → p x ≡ true → upd p y true x ≡ true
more p y x e = elim (x ==? y) [ yes q ↦ rw (eq-eqb x y q) | no q ↦ rw (ne_eqb x y q) e ]

none : (a b c : ℕ) → a ≡ 0 → b ≡ c → a + b ≡ c
none a b c e i = omega arith

old_count : (s : Store) (v : Entry) (f : Entry → Bool) → f v ≡ false → count (suc s.used) (λ x. f (upd s.nodes s.used v x)) ≡ count s.used (λ x. f (s.nodes x))
old_count s v f e = let z : f (upd s.nodes s.used v s.used) ≡ false = rw (eq-eqb s.used s.used refl) e in
    count_suc s.used _ ∙ none _ _ _ (ap one z) (count_same s.used _ _ (λ x l. rw (ne_eqb x s.used (λ z. omega arith))))

push_worth : (s : Store) (v : Entry) (new : ℕ) → 0 < s.used → is_route v.kind ≡ false → v.union ≡ 0
    → ((st : ℕ) → has v.container.set st ≡ true → Stored s st ⊎ (st ≡ new)) → Worth s → Worth (push s.used v s)
push_worth s v new z r c h w = record {
  ever = upd w.ever new true;
  first = rw (ne_eqb 0 s.used (λ q. omega arith)) w.first;
  stocks = λ x st. elim (x ==? s.used) [
    | yes q ↦ rw (eq-eqb x s.used q) (λ e. elim (h st e) [ inl (y, i) ↦ more w.ever new st (w.stocks y st i) | inr i ↦ rw (eq-eqb st new i) ])
    | no q ↦ rw (ne_eqb x s.used q) (λ e. more w.ever new st (w.stocks x st e))
  ];
  keys = λ x. elim (x ==? s.used) [
    | yes q ↦ rw (eq-eqb x s.used q) (λ e. absurd (false≢true (sym r ∙ ap is_route e)))
    | no q ↦ rw (ne_eqb x s.used q) (λ e. more w.ever new _ (w.keys x e))
  ];
  sum = rw (old_count s v (λ u. is_route u.kind) r, old_count s v (λ u. is_main u.kind && not (eqb u.union 0)) (flat (is_main v.kind) c)) (omega (arith, w.sum, count_upd 64 new w.ever));
}
  where
    flat : (a : Bool) → v.union ≡ 0 → a && not (eqb v.union 0) ≡ false
    flat true e = rw (eq-eqb v.union 0 e)
    flat false e = refl

-- ---- a split's three nodes

module _ (s : Store) (k : ℕ) (c : Container) where
  abbrev l : ℕ
  l = s.used + 1

  abbrev r : ℕ
  r = s.used + 2

  abbrev n' : Nodes
  n' = forked s.used l r k c s.nodes

  at_x : n' s.used ≡ entry (new_route k l r) c.depth
  at_x = rw (ne_eqb s.used r (λ z. omega arith), ne_eqb s.used l (λ z. omega arith), eq-eqb s.used s.used refl)

  at_l : n' l ≡ new_base Normal (Some s.used) (lower c) 0
  at_l = rw (ne_eqb l r (λ z. omega arith), eq-eqb l l refl)

  at_r : n' r ≡ new_base Normal (Some s.used) (upper c) 0
  at_r = rw (eq-eqb r r refl)

  at_old : (y : ℕ) → y ≢ s.used → y ≢ l → y ≢ r → n' y ≡ s.nodes y
  at_old y a b c = rw (ne_eqb y r c, ne_eqb y l b, ne_eqb y s.used a)

  three_count : (f : Entry → Bool) → count (s.used + 3) (λ x. f (n' x)) ≡ one (f (n' r)) + (one (f (n' l)) + (one (f (n' s.used)) + count s.used (λ x. f (s.nodes x))))
  three_count f = ap (λ m. count m (λ x. f (n' x))) (up s.used) ∙ count_suc (suc (suc s.used)) _
      ∙ ap (λ v. one (f (n' (suc (suc s.used)))) + v) (count_suc (suc s.used) _ ∙ ap (λ v. one (f (n' (suc s.used))) + v) (count_suc s.used _))
      ∙ same (suc (suc s.used)) r (suc s.used) l (omega arith) (omega arith)
      (count_same s.used (λ x. f (n' x)) (λ x. f (s.nodes x)) (λ x i. ap f (at_old x (λ z. omega arith) (λ z. omega arith) (λ z. omega arith))))
    where
      up : (m : ℕ) → m + 3 ≡ suc (suc (suc m))
      up m = omega arith

      same : (a a' b b' : ℕ) {c c' : ℕ} → a ≡ a' → b ≡ b' → c ≡ c'
          → one (f (n' a)) + (one (f (n' b)) + (one (f (n' s.used)) + c)) ≡ one (f (n' a')) + (one (f (n' b')) + (one (f (n' s.used)) + c'))
      same a a' b b' i j h = rw (i, j, h)

  fork_worth : 0 < s.used → (w : Worth s) → ((st : ℕ) → has (lower_half c.set) st ≡ true → w.ever st ≡ true)
      → ((st : ℕ) → has (upper_half c.set) st ≡ true → w.ever st ≡ true) → w.ever k ≡ true → Worth (trio s k c)
  unfolding lower upper
  fork_worth z w hl hr hk = record {
    ever = w.ever;
    first = rw (at_old 0 (λ q. omega arith) (λ q. omega arith) (λ q. omega arith)) w.first;
    stocks = λ x st e. which x (λ v. has v.container.set st ≡ true → w.ever st ≡ true) (λ i. absurd (true≢false (sym i ∙ has_none st))) (hl st) (hr st) (w.stocks x st) e;
    keys = λ x e. which x (λ v. v.kind ≡ Route → w.ever v.key ≡ true) (λ _. hk) (λ i. absurd (clash (cc))) (λ i. absurd (clash (cc))) (w.keys x) e;
    sum = rw (three_count (λ u. is_route u.kind), three_count (λ u. is_main u.kind && not (eqb u.union 0)), at_x, at_l, at_r) (omega (arith, w.sum));
  }
    where
      which : (x : ℕ) (Q : Entry → Type 0) → Q (entry (new_route k l r) c.depth) → Q (new_base Normal (Some s.used) (lower c) 0)
          → Q (new_base Normal (Some s.used) (upper c) 0) → Q (s.nodes x) → Q (n' x)
      which x Q a b c d = elim (x ==? s.used) [
        | yes q ↦ rw (q, at_x) a
        | no q ↦ elim (x ==? l) [ yes q' ↦ rw (q', at_l) b | no q' ↦ elim (x ==? r) [ yes q'' ↦ rw (q'', at_r) c | no q'' ↦ rw (at_old x q q' q'') d ] ]
      ]

-- ---- 35: a new union node, and its main is closed

module _ (s : Store) (m n o : ℕ) (pr g : Option ℕ) where
  abbrev v : Entry
  v = new_base Neighbour pr (merge (s.nodes m).container (s.nodes n).container) m

  abbrev pushed : Nodes
  pushed = upd s.nodes s.used v

  abbrev done : Nodes
  done = upd pushed m (over (committed s.used n g o) (pushed m))

  same_kind : (y : ℕ) → (done y).kind ≡ (pushed y).kind
  same_kind y = elim (y ==? m) [ yes q ↦ rw (q, eq-eqb m m refl) | no q ↦ rw (ne_eqb y m q) ]

  same_key : (y : ℕ) → (done y).key ≡ (pushed y).key
  same_key y = elim (y ==? m) [ yes q ↦ rw (q, eq-eqb m m refl) | no q ↦ rw (ne_eqb y m q) ]

  same_box : (y : ℕ) → (done y).container.set ≡ (pushed y).container.set
  same_box y = elim (y ==? m) [ yes q ↦ rw (q, eq-eqb m m refl) | no q ↦ rw (ne_eqb y m q) ]

  -- y is the new number, or as before
  which : (y : ℕ) (Q : Entry → Type 0) → Q v → Q (s.nodes y) → Q (pushed y)
  which y Q a b = elim (y ==? s.used) [ yes q ↦ rw (eq-eqb y s.used q) a | no q ↦ rw (ne_eqb y s.used q) b ]

  commit_worth : 0 < s.used → Worth s → Worth (store done s.root (suc s.used) s.stores s.shown s.stop)
  commit_worth z w = record {
    ever = w.ever;
    first = λ e. w.first (sym (same_kind 0 ∙ rw (ne_eqb 0 s.used (λ q. omega arith))) ∙ e);
    stocks = λ x st e. which x (λ u. has u.container.set st ≡ true → w.ever st ≡ true)
        (λ i. let (y, i') = both s m n st i in w.stocks y st i') (w.stocks x st) (ap (λ c. has c st) (sym (same_box x)) ∙ e);
    keys = λ x e. ap w.ever (same_key x) ∙ which x (λ u. u.kind ≡ Route → w.ever u.key ≡ true) (λ i. absurd (clash (cc))) (w.keys x) (sym (same_kind x) ∙ e);
    sum = omega (arith, w.sum, routes_same, closed_more);
  }
    where
      routes_same : count (suc s.used) (routes done) ≡ count s.used (routes s.nodes)
      routes_same = count_same (suc s.used) (routes done) (routes pushed) (λ x _. ap is_route (same_kind x)) ∙ old_count s v (λ u. is_route u.kind) refl

      closed_more : count (suc s.used) (closed done) ≤ suc (count s.used (closed s.nodes))
      closed_more = omega (
        arith,
        count_le (suc s.used) (closed done) (upd (closed pushed) m true) (λ x _. elim (x ==? m) [ yes q ↦ rw (eq-eqb x m q) (λ _. refl) | no q ↦ rw (ne_eqb x m q) (λ e. e) ]),
        count_upd (suc s.used) m (closed pushed),
        old_count s v (λ u. is_main u.kind && not (eqb u.union 0)) refl,
      )

-- ---- every effect

not_route : (k : Kind) → k ≢ Route → is_route k ≡ false
not_route Normal h = refl
not_route Route h = absurd (h refl)
not_route Main h = refl
not_route Neighbour h = refl
not_route Range h = refl

lower_part : (c st : ℕ) → 2 ≤ size c → has (lower_half c) st ≡ true → has c st ≡ true
lower_part c st l e = elim (dec_lt st (split_key c)) [ yes i ↦ sym (lower_in c st l i) ∙ e | no i ↦ absurd (true≢false (sym e ∙ lower_out c st l (omega arith))) ]

upper_part : (c st : ℕ) → 2 ≤ size c → has (upper_half c) st ≡ true → has c st ≡ true
upper_part c st l e = elim (dec_lt st (split_key c)) [ yes i ↦ absurd (true≢false (sym e ∙ upper_out c st l i)) | no i ↦ sym (upper_in c st l (omega arith)) ∙ e ]

hang_used : (v : Spot) (x : ℕ) (s : Store) → (hang v x s).used ≡ s.used
hang_used Root x s = refl
hang_used (Under r d) x s = refl

hung_worth : (v : Spot) (x : ℕ) (s : Store) → Worth s → Worth (hang v x s)
hung_worth v x s w = same_worth s (hang v x s) (hang_used v x s) (alike_hang v x s) w

pub worths : (s : Store) (p : Place) (th : Thread) → 0 < s.used → ((q : Quarter) → p ≡ swap own q → th.action ≡ Split → 2 ≤ size (s.nodes th.base).container.set)
    → Worth s → Allowed s p th (λ e. Worth (perform e s))
worths s p th z two w = record {
  quiet = w;
  raise = same_worth s _ refl (alike_self s.nodes) w;
  lower = same_worth s _ refl (alike_self s.nodes) w;
  mark = λ r l. same_worth s _ refl (λ x. alike_upd s.nodes r x _ refl refl refl refl) w;
  settle = λ m v. same_worth s _ refl (λ x. alike_upd s.nodes m x _ refl refl refl refl) w;
  void = λ r. same_worth s _ refl (λ x. alike_upd s.nodes r x _ refl refl refl refl) w;
  swing = λ v x. hung_worth v x s w;
  fill = λ k c. same_worth s _ refl (alike_self s.nodes) w;
  base = λ v k l c m i _. let (new, h) = content s c in hung_worth v s.used (based s k l c m) (push_worth s (new_base k l (content_of c s.nodes) m) new z (not_route k i) refl h w);
  fork = λ v q e a _. let c = (s.nodes th.base).container in let t = two q e a in
      hung_worth v s.used (trio s (split_key c.set) c) (fork_worth s (split_key c.set) c z w (λ st j. w.stocks th.base st (lower_part c.set st t j))
      (λ st j. w.stocks th.base st (upper_part c.set st t j)) (w.stocks th.base _ (split_key_lem c.set t).0));
  commit = λ m l n g o _. commit_worth s m n o l g z w;
  ask_old = λ v l y a u k _. hung_worth v s.used (ranged s l y a u k false)
      (same_worth (push s.used (new_range l (s.nodes y).container a u k) s) _ refl (alike_self _) (asked_worth l y a u k));
  ask_new = λ v l y a u _ _. hung_worth v s.used (ranged s l y a u s.shown true)
      (same_worth (push s.used (new_range l (s.nodes y).container a u s.shown) s) _ refl (alike_self _) (asked_worth l y a u s.shown));
}
  where
    asked_worth : (l : Option ℕ) (y a u k : ℕ) → Worth (push s.used (new_range l (s.nodes y).container a u k) s)
    asked_worth l y a u k = push_worth s (new_range l (s.nodes y).container a u k) 0 z refl refl (λ st i. inl (y, i)) w
