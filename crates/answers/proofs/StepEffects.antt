-- What a step may write, place by place: whatever takes a number stands under a test for room (01: refusal 13), and takes the next ones; whatever shows a
-- store too (02 b: refusal 16); only a split's own swap makes a route. For showing of each effect, once, what is to hold after every step. Assumes nothing.
use Rattle.std.specs.Prelude.{Option, Some, None}
use mathlib.Core.Path.{◌≡◌, refl}
use mathlib.Core.Logic.{◌≢◌}
use mathlib.Core.Bool.{Bool, true, false}
use mathlib.Core.List.{List, [], ◌∷◌}
use Prim.Native.Nat.{ℕ, ◌+◌, ◌≤◌}
use borrow.Author.Tests.{leb-true}
use lib.Dec.{leb}
use Rattle.container.specs.Choice.{ite}
use Rattle.container.specs.Container.{split_key}
use Rattle.definitions.specs.Nodes.{check}
use Rattle.definitions.specs.Bench.{Store, Sight, sight_of}
use Rattle.definitions.specs.Threads.{Frame, Thread, Turn, Moves, Finishes, Finds, Full, NoStore}
use Rattle.definitions.specs.Places.{Place, nowhere, p1, p2, p3, p4, p5, p15, p16, p19, p20, p21, p22, p23, p24, p25, p30, p31, p32, p33, p34, p35, p36, p37, p38, p40}
use Rattle.definitions.specs.Places.{p45, p46, p47, p48, p49, p50, p51, p60, p61, p62, p70, p71, p72, p73, p74, p76, p81, p82, swap, own, found, united, opening, next}
use Rattle.definitions.specs.Frames.{tail_of, in_frame, next_from, adding, found_first, back_in, back, store_of}
use Rattle.definitions.specs.Steps.{room, store_room, at_leaf, reached, onward, followed, released, lost_as, lost, join_under, cleared_as}
use Rattle.definitions.specs.Steps.{cleared, probe, replaced_as, replaced, own_by, found_by, united_by, help_by, blocked_as, blocked, beside}
use Rattle.definitions.specs.Steps.{grand_marking, unmark, invalid, replacement, cut_at, cut_on, cut_right, freeing, ended, reached_first}
use Rattle.definitions.specs.Steps.{reached_next, pop_on, opened_by, extended_by, met_by, filling, leaving, read_out, step}
use Rattle.definitions.specs.declared.Action.{Action}
use Rattle.definitions.specs.declared.Action.TheVariants.{Lookup, Insert, Remove, Split, Join, Query}
use Rattle.definitions.specs.declared.Kind.{Kind}
use Rattle.definitions.specs.declared.Kind.TheVariants.{Normal, Route, Main, Neighbour}
use Rattle.definitions.specs.declared.Stage.{Stage}
use Rattle.definitions.specs.declared.Stage.TheVariants.{Aborted, Done}
use Rattle.definitions.specs.declared.Node.{Node}
use Rattle.definitions.specs.declared.Content.{Content}
use Rattle.definitions.specs.declared.Content.TheVariants.{Of, With, Without}
use Rattle.definitions.specs.declared.Probe.{Probe}
use Rattle.definitions.specs.declared.Probe.TheVariants.{Hit, Next, Miss}
use Rattle.definitions.specs.declared.Quarter.{Quarter}
use Rattle.definitions.specs.declared.Spot.{Spot}
use Rattle.definitions.specs.declared.Spot.TheVariants.{Under}
use Rattle.definitions.specs.declared.Check.{Check}
use Rattle.definitions.specs.declared.Effect.{Effect}
use Rattle.definitions.specs.declared.Effect.TheVariants.{Quiet, Mark, Settle, Invalid, Swing, Raise, Lower, Base, Fork, Commit, Ask, Fill}
use Rattle.answers.proofs.Tools.{clash}

-- Q of each effect that thread th at place p may have: a field for each kind
pub record Allowed (s : Store) (p : Place) (th : Thread) (Q : Effect → Type 0) : Type 0 where
  pub quiet : Q Quiet
  pub raise : Q Raise
  pub lower : Q Lower
  pub mark : (r : ℕ) (l : Option ℕ) → Q (Mark r l)
  pub settle : (m : ℕ) (v : Stage) → Q (Settle m v)
  pub void : (r : ℕ) → Q (Invalid r)
  pub swing : (v : Spot) (x : ℕ) → Q (Swing v x)
  pub fill : (k c : ℕ) → Q (Fill k c)
  pub base : (v : Spot) (k : Kind) (l : Option ℕ) (c : Content) (m : ℕ) → k ≢ Route → s.used + 1 ≤ 256 → Q (Base v s.used k l c m)
  -- only here a route is made: "a split's swap at 10 to 13", of its own base at that base's key
  pub fork : (v : Spot) (q : Quarter) → p ≡ swap own q → th.action ≡ Split → s.used + 3 ≤ 256
      → Q (Fork v s.used (s.used + 1) (s.used + 2) (split_key (s.nodes th.base).container.set) th.base)
  pub commit : (m : ℕ) (l : Option ℕ) (n : ℕ) (g : Option ℕ) (o : ℕ) → s.used + 1 ≤ 256 → Q (Commit m s.used l n g o)
  pub ask_old : (v : Spot) (l : Option ℕ) (y a h k : ℕ) → s.used + 1 ≤ 256 → Q (Ask v s.used l y a h k false)
  pub ask_new : (v : Spot) (l : Option ℕ) (y a h : ℕ) → s.used + 1 ≤ 256 → s.shown + 1 ≤ 64 → Q (Ask v s.used l y a h s.shown true)

-- Q of the effect of a turn
abbrev pub Each : (Effect → Type 0) → Turn → Type 0
Each Q (Moves th e) = Q e
Each Q (Finishes e a) = Q e
Each Q (Finds c) = Unit {0}
Each Q Full = Unit {0}
Each Q NoStore = Unit {0}

module _ (s : Store) (p : Place) (th : Thread) (Q : Effect → Type 0) (may : Allowed s p th Q) where
  abbrev w : Sight
  w = sight_of s

  pick : (c : Bool) (o o' : Turn) → Each Q o → Each Q o' → Each Q (ite c o o')
  unfolding ite
  pick true o o' f g = f
  pick false o o' f g = g

  with_room : (k : ℕ) (o : Turn) → (s.used + k ≤ 256 → Each Q o) → Each Q (room k s.used o)
  unfolding ite
  with_room k o f = by (leb (s.used + k) 256) (leb-true (s.used + k) 256)
    where
      by : (c : Bool) → (c ≡ true → s.used + k ≤ 256) → Each Q (ite c o Full)
      by true g = f (g refl)
      by false g = tt

  with_store : (o : Turn) → (s.shown + 1 ≤ 64 → Each Q o) → Each Q (store_room s.shown o)
  unfolding ite
  with_store o f = by (leb (s.shown + 1) 64) (leb-true (s.shown + 1) 64)
    where
      by : (c : Bool) → (c ≡ true → s.shown + 1 ≤ 64) → Each Q (ite c o NoStore)
      by true g = f (g refl)
      by false g = tt

  normal : Normal ≢ Route
  normal e = clash (cc)

  main : Main ≢ Route
  main e = clash (cc)

  neighbour : Neighbour ≢ Route
  neighbour e = clash (cc)

  -- 1 to 5
  at_leaf_lem : (a : Action) (v : Thread) (x : ℕ) → Each Q (at_leaf a w.nodes v x)
  at_leaf_lem Lookup v x = may.quiet
  at_leaf_lem Insert v x = may.quiet
  at_leaf_lem Remove v x = may.quiet
  at_leaf_lem Split v x = may.quiet
  at_leaf_lem Join v x = may.quiet
  at_leaf_lem Query v x = tt

  reaching : (v : Thread) (x : ℕ) → Each Q (reached w.nodes v x)
  unfolding reached
  reaching v x = pick _ _ _ may.quiet (at_leaf_lem v.action v x)

  going_on : (e : Effect) (v : Thread) (x : ℕ) → Q e → Each Q (onward e w.nodes v x)
  unfolding onward
  going_on e v x g = pick _ _ _ g g

  following : (on : Bool) (v : Thread) (x : ℕ) → Each Q (followed on w.nodes v x)
  unfolding followed
  following false v x = reaching v x
  following true v x = pick _ _ _ (reaching v x) (pick _ _ _ may.quiet (going_on Quiet v x may.quiet))

  releasing : (a : Action) → Each Q (released a w.nodes th)
  releasing Lookup = may.lower
  releasing Insert = may.lower
  releasing Remove = may.lower
  releasing Split = may.lower
  releasing Join = may.lower
  releasing Query = tt

  losing : (a : Action) → Each Q (lost_as a th)
  losing Lookup = may.quiet
  losing Insert = may.quiet
  losing Remove = may.quiet
  losing Split = may.quiet
  losing Join = may.quiet
  losing Query = tt

  under : (on : Bool) (l : Option ℕ) → Each Q (join_under on l th)
  under on None = may.quiet
  under false (Some r) = may.quiet
  under true (Some r) = may.quiet

  clearing : (a : Action) (on : Bool) (b : Node) → Each Q (cleared_as a on b th)
  clearing Lookup on b = may.quiet
  clearing Insert on b = may.quiet
  clearing Remove on b = may.quiet
  clearing Split on b = may.quiet
  clearing Join on b = under on b.parent
  clearing Query on b = tt

  -- the four-step swaps
  replacing : (a : Action) (v : Spot) (q : Quarter) → p ≡ swap own q → th.action ≡ a → Each Q (replaced_as a v (w.nodes th.base) s.used th)
  replacing Lookup v q e i = tt
  replacing Insert v q e i = with_room 1 _ (may.base v Normal _ (With th.base th.station th.extra) 0 normal)
  replacing Remove v q e i = with_room 1 _ (may.base v Normal _ (Without th.base th.station) 0 normal)
  replacing Split v q e i = with_room 3 _ (may.fork v q e i)
  replacing Join v q e i = tt
  replacing Query v q e i = tt

  by_own : (o : Probe) (q : Quarter) → p ≡ swap own q → Each Q (own_by o (w.nodes th.base) s.used th)
  unfolding replaced lost
  by_own (Hit v) q e = replacing th.action v q e refl
  by_own (Next r) q e = may.quiet
  by_own Miss q e = losing th.action

  by_found : (o : Probe) (b : Node) → Each Q (found_by o b s.used th)
  by_found (Hit v) b = with_room 1 _ (may.base v Neighbour b.parent (Of th.found) th.main neighbour)
  by_found (Next q) b = may.quiet
  by_found Miss b = may.quiet

  by_united : (o : Probe) (m : Node) → Each Q (united_by o m th)
  by_united (Hit v) m = may.swing v m.union
  by_united (Next q) m = may.quiet
  by_united Miss m = may.quiet

  -- what costs no step
  nexting : (l : List ℕ) (e : Effect) (f : Frame) (fs : List Frame) → Q e → Each Q (next_from l e f fs th)
  nexting [] e f fs g = g
  nexting (x ∷ []) e f fs g = g
  nexting (x ∷ y ∷ l) e f fs g = g

  added : (e : Effect) (c : ℕ) (f : Frame) (fs : List Frame) → Q e → Each Q (adding e c f fs th)
  unfolding adding
  added e c f fs g = pick _ _ _ g (nexting f.stack e _ fs g)

  backed_in : (l : List Frame) (e : Effect) → Q e → Each Q (back_in l e th)
  backed_in [] e g = g
  backed_in (f ∷ fs) e g = pick _ _ _ (nexting f.backup e f fs g) g

  backed : (e : Effect) → Q e → Each Q (back e th)
  unfolding back
  backed e g = backed_in th.frames e g

  found_first_lem : (l : Option ℕ) (b : Node) (f : Frame) (fs : List Frame) → Each Q (found_first l b f fs th)
  found_first_lem None b f fs = may.quiet
  found_first_lem (Some k) b f fs = pick _ _ _ (added Quiet _ f fs may.quiet) may.quiet

  framed : (l : List Frame) (k : Frame → List Frame → Turn) → ((f : Frame) (fs : List Frame) → Each Q (k f fs)) → Each Q (in_frame l k)
  framed [] k g = tt
  framed (f ∷ fs) k g = g f fs

  -- 3 after a no, 15 to 25
  helping : (c : Check) → Each Q (help_by c th)
  helping Check.Replaceable = backed Quiet may.quiet
  helping (Check.Preparing m) = may.quiet
  helping (Check.Completing m) = may.quiet
  helping Check.Stale = backed Quiet may.quiet
  helping (Check.Unset l u k) = may.quiet

  blocking : (a : Action) (c : Check) → Each Q (blocked_as a c th)
  blocking Lookup c = may.quiet
  blocking Insert c = helping c
  blocking Remove c = helping c
  blocking Split c = may.quiet
  blocking Join c = may.quiet
  blocking Query c = tt

  -- 33 to 51
  grand : (l : Option ℕ) → Each Q (grand_marking l w.nodes th)
  grand None = may.quiet
  grand (Some g) = pick _ _ _ (may.mark g _) may.quiet

  unmarking : (l : Option ℕ) → Q (unmark l)
  unmarking None = may.quiet
  unmarking (Some r) = may.mark r _

  voiding : (l : Option ℕ) → Q (invalid l)
  voiding None = may.quiet
  voiding (Some r) = may.void r

  at_46 : (l : Option ℕ) (m : Node) → Each Q (cut_at l m w.nodes w.root th)
  at_46 None m = pick _ _ _ (may.swing _ _) may.quiet
  at_46 (Some g) m = pick _ _ _ may.quiet may.quiet

  at_47 : (d : Bool) (l : Option ℕ) (m : Node) → Each Q (cut_on d l m w.nodes th)
  at_47 d None m = may.quiet
  at_47 d (Some g) m = pick _ _ _ (may.swing (Under g d) (replacement m)) may.quiet

  at_48 : (l : Option ℕ) (m : Node) → Each Q (cut_right l m w.nodes th)
  at_48 None m = may.quiet
  at_48 (Some g) m = pick _ _ _ may.quiet may.quiet

  at_50 : (l : Option ℕ) → Each Q (freeing l w.nodes th)
  at_50 None = may.quiet
  at_50 (Some g) = pick _ _ _ (may.mark g _) may.quiet

  ending : (e : Effect) → Q e → Each Q (ended e th)
  ending e g = pick _ _ _ g (backed e g)

  -- 60 to 82
  reach_first : (x : ℕ) (l : List ℕ) (f : Frame) (fs : List Frame) → Each Q (reached_first w.nodes x l f fs th)
  unfolding reached_first
  reach_first x l f fs = pick _ _ _ may.quiet (found_first_lem f.store _ _ fs)

  reach_next : (x : ℕ) (f : Frame) (fs : List Frame) → Each Q (reached_next w.nodes x f fs th)
  unfolding reached_next
  reach_next x f fs = pick _ _ _ may.quiet may.quiet

  opened : (o : Probe) (b : Node) (f : Frame) (fs : List Frame) → Each Q (opened_by o b w f fs th)
  opened (Hit v) b f fs = with_room 1 _ (λ g. with_store _ (λ k. added _ _ _ fs (may.ask_new v b.parent f.base f.lower f.upper g k)))
  opened (Next q) b f fs = may.quiet
  opened Miss b f fs = may.quiet

  extended : (o : Probe) (b : Node) (f : Frame) (fs : List Frame) → Each Q (extended_by o b w f fs th)
  extended (Hit v) b f fs = with_room 1 _ (λ g. added _ _ _ fs (may.ask_old v b.parent f.base f.lower f.upper (store_of f.store) g))
  extended (Next q) b f fs = may.quiet
  extended Miss b f fs = backed Quiet may.quiet

  popped : (l : List ℕ) (f : Frame) (fs : List Frame) → Each Q (pop_on l f fs th)
  popped [] f fs = may.quiet
  popped (x ∷ l) f fs = may.quiet

  met : (v : Option ℕ) (b : Node) (f : Frame) (fs : List Frame) → Each Q (met_by v b f fs th)
  met None b f fs = pick _ _ _ (added Quiet _ f fs may.quiet) may.quiet
  met (Some _) b f fs = may.quiet

  fills : (v : Option ℕ) (f : Frame) → Each Q (filling v f th)
  fills None f = may.fill _ _
  fills (Some _) f = may.quiet

  leaves : (l : List Frame) (r : ℕ) → Each Q (leaving l r th)
  leaves [] r = pick _ _ _ tt may.quiet
  leaves (f ∷ fs) r = backed_in (f ∷ fs) Quiet may.quiet

  reads_out : (v : Option ℕ) (l : List Frame) → Each Q (read_out v l th)
  reads_out None l = tt
  reads_out (Some r) l = leaves l r

  -- the step that is taken at a place z
  at_place : (z : Place) → p ≡ z → Each Q (step z w th)
  unfolding step beside cleared blocked
  at_place nowhere e = may.quiet
  at_place p1 e = reaching _ _
  at_place p2 e = following s.stop.on _ _
  at_place p3 e = pick _ _ _ may.quiet (pick _ _ _ (clearing th.action s.stop.on _) (blocking th.action (check w.nodes w.stores th.base)))
  at_place p4 e = going_on Raise th th.route may.raise
  at_place p5 e = releasing th.action
  at_place (swap own q) e = by_own (probe q (w.nodes th.base).parent w.nodes w.root th.base) q e
  at_place p15 e = helping (check w.nodes w.stores th.base)
  at_place p16 e = pick _ _ _ (backed (Settle th.main Aborted) (may.settle _ _)) (backed Quiet may.quiet)
  at_place p19 e = pick _ _ _ may.quiet may.quiet
  at_place p20 e = pick _ _ _ may.quiet may.quiet
  at_place p21 e = pick _ _ _ may.quiet may.quiet
  at_place p22 e = pick _ _ _ may.quiet may.quiet
  at_place p23 e = pick _ _ _ may.quiet may.quiet
  at_place p24 e = pick _ _ _ may.quiet may.quiet
  at_place p25 e = pick _ _ _ (with_room 1 _ (may.base (Under th.parent th.left) Main (w.nodes th.base).parent (Of th.base) 0 main)) may.quiet
  at_place (swap found q) e = by_found (probe q (w.nodes th.found).parent w.nodes w.root th.found) _
  at_place p30 e = pick _ _ _ (may.mark _ _) may.quiet
  at_place p31 e = pick _ _ _ may.quiet (pick _ _ _ may.quiet may.quiet)
  at_place p32 e = pick _ _ _ may.quiet (pick _ _ _ may.quiet may.quiet)
  at_place p33 e = grand th.grandparent
  at_place p34 e = may.quiet
  at_place p35 e = pick _ _ _ (with_room 1 _ (may.commit th.main _ th.neighbour th.grandparent th.other)) may.quiet
  at_place p36 e = unmarking th.grandparent
  at_place p37 e = may.mark _ _
  at_place p38 e = may.settle _ _
  at_place p40 e = pick _ _ _ (ending Quiet may.quiet) may.quiet
  at_place (swap united q) e = by_united (probe q (w.nodes (w.nodes th.main).neighbour).parent w.nodes w.root (w.nodes th.main).neighbour) _
  at_place p45 e = voiding (w.nodes th.main).parent
  at_place p46 e = at_46 (w.nodes th.main).grandparent _
  at_place p47 e = at_47 true (w.nodes th.main).grandparent _
  at_place p48 e = at_48 (w.nodes th.main).grandparent _
  at_place p49 e = at_47 false (w.nodes th.main).grandparent _
  at_place p50 e = at_50 (w.nodes th.main).grandparent
  at_place p51 e = ending (Settle th.main Done) (may.settle _ _)
  at_place p60 e = framed th.frames _ (λ f fs. reach_first _ _ f fs)
  at_place p61 e = framed th.frames _ (λ f fs. reach_first _ _ f fs)
  at_place p62 e = framed th.frames _ (λ f fs. pick _ _ _ may.quiet (pick _ _ _ may.quiet may.quiet))
  at_place (swap opening q) e = framed th.frames _ (λ f fs. opened (probe q (w.nodes f.base).parent w.nodes w.root f.base) _ f fs)
  at_place p70 e = framed th.frames _ (λ f fs. pick _ _ _ may.quiet may.quiet)
  at_place p71 e = framed th.frames _ (λ f fs. reach_next _ f fs)
  at_place p72 e = framed th.frames _ (λ f fs. pick _ _ _ may.quiet (popped (tail_of f.stack) f fs))
  at_place p73 e = framed th.frames _ (λ f fs. reach_next _ f fs)
  at_place p74 e = framed th.frames _ (λ f fs. met (w.stores (store_of f.store)) _ f fs)
  at_place p76 e = framed th.frames _ (λ f fs. pick _ _ _ may.quiet may.quiet)
  at_place (swap next q) e = framed th.frames _ (λ f fs. extended (probe q (w.nodes f.base).parent w.nodes w.root f.base) _ f fs)
  at_place p81 e = framed th.frames _ (λ f fs. fills (w.stores (store_of f.store)) f)
  at_place p82 e = framed th.frames _ (λ f fs. reads_out (w.stores (store_of f.store)) fs)

  pub each : Each Q (step p w th)
  each = at_place p refl
