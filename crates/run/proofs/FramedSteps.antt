-- A step of a query's thread that has a frame leaves it one (`step_leaves`). Assumes nothing.
use Rattle.std.specs.Prelude.{Option, Some, None}
use mathlib.Core.Path.{◌≡◌, sym, ap, ◌∙◌}
use mathlib.Core.Bool.{Bool, true, false, true≢false}
use mathlib.Core.List.{List, [], ◌∷◌}
use Prim.Native.Nat.{ℕ}
use Rattle.container.specs.Choice.{ite}
use Rattle.definitions.specs.declared.Action.{Action}
use Rattle.definitions.specs.declared.Action.TheVariants.{Lookup, Insert, Remove, Split, Join, Query}
use Rattle.definitions.specs.declared.Check.{Check}
use Rattle.definitions.specs.declared.Effect.{Effect}
use Rattle.definitions.specs.declared.Node.{Node}
use Rattle.definitions.specs.declared.Probe.{Probe}
use Rattle.definitions.specs.declared.Probe.TheVariants.{Hit, Next, Miss}
use Rattle.definitions.specs.declared.Spot.{Spot}
use Rattle.definitions.specs.Threads.{Frame, Thread, Turn, Moves, Finishes, Finds, Full, NoStore}
use Rattle.definitions.specs.Nodes.{child_for, check}
use Rattle.definitions.specs.Bench.{Sight}
use Rattle.definitions.specs.Places.{own, found, united, opening, next, reading, Place, nowhere, p1, p2, p3, p4, p5, p15, p16, p19, p20, p21, p22, p23, p24, p25, p30, p31, p32, p33, p34}
use Rattle.definitions.specs.Places.{p35, p36, p37, p38, p40, p45, p46, p47, p48, p49, p50, p51}
use Rattle.definitions.specs.Places.{p60, p61, p62, p70, p71, p72, p73, p74, p76, p81, p82, swap}
use Rattle.definitions.specs.Steps.{at_leaf, reached, onward, one_more, followed, released, lost_as, lost, join_under, cleared_as, cleared, probe, replaced_as, replaced, own_by, found_by, united_by}
use Rattle.definitions.specs.Steps.{help_by, blocked_as, blocked, beside, grand_marking, cut_at, cut_on, cut_right}
use Rattle.definitions.specs.Steps.{freeing, reached_first, reached_next, opened_by, extended_by, pop_on, met_by, filling, leaving, read_out, is_query, step}
use Rattle.definitions.specs.Frames.{tail_of, store_of, in_frame, next_from, adding, found_first, back_in, back}

abbrev pub HasFrame : List Frame → Type 0
HasFrame [] = ⊥
HasFrame (f ∷ fs) = Unit {0}

abbrev pub Framed : Thread → Type 0
Framed th = th.action ≡ Query → HasFrame th.frames

pub other : {A : Type 0} (a : Action) → is_query a ≡ false → a ≡ Query → A
other a e z = absurd (true≢false (sym (ap is_query z) ∙ e))

-- ---- a turn leaves a query a frame
abbrev pub Leaves : Turn → Type 0
Leaves (Moves th e) = HasFrame th.frames
Leaves (Finishes e a) = Unit {0}
Leaves (Finds c) = Unit {0}
Leaves Full = Unit {0}
Leaves NoStore = Unit {0}

fork : (c : Bool) (o o' : Turn) → Leaves o → Leaves o' → Leaves (ite c o o')
unfolding ite
fork true o o' p q = p
fork false o o' p q = q

-- of a query's thread that has one
module _ (s : Sight) (th : Thread) (a : th.action ≡ Query) (q : HasFrame th.frames) where
  leaf : (v : Action) (c : Bool) (k x : ℕ) → Leaves (at_leaf v s.nodes (reading c k th) x)
  leaf Lookup c k x = tt
  leaf Insert c k x = q
  leaf Remove c k x = q
  leaf Split c k x = q
  leaf Join c k x = q
  leaf Query c k x = tt

  reach : (c : Bool) (k x : ℕ) → Leaves (reached s.nodes (reading c k th) x)
  unfolding reached
  reach c k x = fork _ _ _ q (leaf th.action c k x)

  pass : (e : Effect) (c : Bool) (k x : ℕ) → Leaves (onward e s.nodes (reading c k th) x)
  unfolding onward
  pass e c k x = fork _ _ _ q q

  follow : (on c : Bool) (k x : ℕ) → Leaves (followed on s.nodes (reading c k th) x)
  unfolding followed
  follow false c k x = reach c k x
  follow true c k x = fork _ _ _ (reach c k x) (fork _ _ _ q (pass _ c k x))

  release : (v : Action) → Leaves (released v s.nodes th)
  release Lookup = tt
  release Insert = q
  release Remove = q
  release Split = q
  release Join = q
  release Query = tt

  lose : (v : Action) → Leaves (lost_as v th)
  lose Lookup = tt
  lose Insert = q
  lose Remove = q
  lose Split = tt
  lose Join = tt
  lose Query = tt

  link : (on : Bool) (l : Option ℕ) → Leaves (join_under on l th)
  link on None = tt
  link false (Some p) = q
  link true (Some p) = q

  clear : (v : Action) → Leaves (cleared_as v s.stop.on (s.nodes th.base) th)
  clear Lookup = tt
  clear Insert = q
  clear Remove = q
  clear Split = q
  clear Join = link s.stop.on (s.nodes th.base).parent
  clear Query = tt

  replace : (v : Action) (w : Spot) → Leaves (replaced_as v w (s.nodes th.base) s.used th)
  replace Lookup w = tt
  replace Insert w = fork _ _ _ tt tt
  replace Remove w = fork _ _ _ tt tt
  replace Split w = fork _ _ _ tt tt
  replace Join w = tt
  replace Query w = tt

  by_own : (o : Probe) → Leaves (own_by o (s.nodes th.base) s.used th)
  unfolding replaced lost
  by_own (Hit v) = replace th.action v
  by_own (Next w) = q
  by_own Miss = lose th.action

  by_found : (o : Probe) → Leaves (found_by o (s.nodes th.found) s.used th)
  by_found (Hit v) = fork _ _ _ q tt
  by_found (Next w) = q
  by_found Miss = q

  by_united : (o : Probe) (m : Node) → Leaves (united_by o m th)
  by_united (Hit v) m = q
  by_united (Next w) m = q
  by_united Miss m = q

  nexted : (l : List ℕ) (e : Effect) (f : Frame) (fs : List Frame) → Leaves (next_from l e f fs th)
  nexted [] e f fs = tt
  nexted (x ∷ []) e f fs = tt
  nexted (x ∷ y ∷ l) e f fs = tt

  backed : (fs : List Frame) (e : Effect) → HasFrame fs → Leaves (back_in fs e th)
  backed [] e r = absurd r
  backed (f ∷ fs) e r = fork _ _ _ (nexted f.backup e f fs) tt

  goes_back : (e : Effect) → Leaves (back e th)
  unfolding back
  goes_back e = backed th.frames e q

  added : (e : Effect) (c : ℕ) (f : Frame) (fs : List Frame) → Leaves (adding e c f fs th)
  unfolding adding
  added e c f fs = fork _ _ _ tt (nexted f.stack e _ fs)

  first_found : (l : Option ℕ) (n : Node) (f : Frame) (fs : List Frame) → Leaves (found_first l n f fs th)
  first_found None n f fs = tt
  first_found (Some k) n f fs = fork _ _ _ (added _ _ _ fs) tt

  first_reached : (x : ℕ) (l : List ℕ) (f : Frame) (fs : List Frame) → Leaves (reached_first s.nodes x l f fs th)
  unfolding reached_first
  first_reached x l f fs = fork _ _ _ tt (first_found f.store (s.nodes x) _ fs)

  next_reached : (x : ℕ) (f : Frame) (fs : List Frame) → Leaves (reached_next s.nodes x f fs th)
  unfolding reached_next
  next_reached x f fs = fork _ _ _ tt tt

  popped : (l : List ℕ) (f : Frame) (fs : List Frame) → Leaves (pop_on l f fs th)
  popped [] f fs = tt
  popped (x ∷ l) f fs = tt

  met : (v : Option ℕ) (n : Node) (f : Frame) (fs : List Frame) → Leaves (met_by v n f fs th)
  met (Some c) n f fs = q
  met None n f fs = fork _ _ _ (added _ _ _ fs) q

  fills : (v : Option ℕ) (f : Frame) → Leaves (filling v f th)
  fills None f = q
  fills (Some c) f = q

  -- the last frame of a query: it finishes
  left : (fs : List Frame) (r : ℕ) → Leaves (leaving fs r th)
  unfolding ite
  left [] r = rw a tt
  left (f ∷ fs) r = backed (f ∷ fs) _ tt

  read_out_lem : (v : Option ℕ) (fs : List Frame) → Leaves (read_out v fs th)
  read_out_lem None fs = tt
  read_out_lem (Some r) fs = left fs r

  by_opening : (o : Probe) (n : Node) (f : Frame) (fs : List Frame) → Leaves (opened_by o n s f fs th)
  by_opening (Hit v) n f fs = fork _ _ _ (fork _ _ _ (added _ _ _ fs) tt) tt
  by_opening (Next w) n f fs = q
  by_opening Miss n f fs = q

  by_next : (o : Probe) (n : Node) (f : Frame) (fs : List Frame) → Leaves (extended_by o n s f fs th)
  by_next (Hit v) n f fs = fork _ _ _ (added _ _ _ fs) tt
  by_next (Next w) n f fs = q
  by_next Miss n f fs = goes_back _

  in_frame_lem : (fs : List Frame) (k : Frame → List Frame → Turn) → ((f : Frame) (gs : List Frame) → Leaves (k f gs)) → Leaves (in_frame fs k)
  in_frame_lem [] k h = tt
  in_frame_lem (f ∷ fs) k h = h f fs

  help : (c : Check) → Leaves (help_by c th)
  help Check.Replaceable = goes_back _
  help (Check.Preparing m) = q
  help (Check.Completing m) = q
  help Check.Stale = goes_back _
  help (Check.Unset l h k) = tt

  block : (v : Action) (c : Check) → Leaves (blocked_as v c th)
  block Lookup c = tt
  block Insert c = help c
  block Remove c = help c
  block Split c = tt
  block Join c = tt
  block Query c = tt

  grand : (l : Option ℕ) → Leaves (grand_marking l s.nodes th)
  grand None = q
  grand (Some g) = fork _ _ _ q q

  at_46 : (l : Option ℕ) (m : Node) → Leaves (cut_at l m s.nodes s.root th)
  at_46 None m = fork _ _ _ q q
  at_46 (Some g) m = fork _ _ _ q q

  at_47 : (d : Bool) (l : Option ℕ) (m : Node) → Leaves (cut_on d l m s.nodes th)
  at_47 d None m = q
  at_47 d (Some g) m = fork _ _ _ q q

  at_48 : (l : Option ℕ) (m : Node) → Leaves (cut_right l m s.nodes th)
  at_48 None m = q
  at_48 (Some g) m = fork _ _ _ q q

  at_50 : (l : Option ℕ) → Leaves (freeing l s.nodes th)
  at_50 None = q
  at_50 (Some g) = fork _ _ _ q q

  pub step_leaves : (p : Place) → Leaves (step p s th)
  unfolding step beside cleared blocked
  step_leaves nowhere = q
  step_leaves p1 = reach s.stop.on 0 s.root
  step_leaves p2 = follow s.stop.on s.stop.on (one_more th.read) (child_for th.station (s.nodes th.route))
  step_leaves p3 = fork _ _ _ tt (fork _ _ _ (clear th.action) (block th.action (check s.nodes s.stores th.base)))
  step_leaves p4 = pass _ false 0 th.route
  step_leaves p5 = release th.action
  step_leaves (swap own w) = by_own (probe w (s.nodes th.base).parent s.nodes s.root th.base)
  step_leaves p15 = help (check s.nodes s.stores th.base)
  step_leaves p16 = fork _ _ _ (goes_back _) (goes_back _)
  step_leaves p19 = fork _ _ _ q tt
  step_leaves p20 = fork _ _ _ q q
  step_leaves p21 = fork _ _ _ q tt
  step_leaves p22 = fork _ _ _ q q
  step_leaves p23 = fork _ _ _ q q
  step_leaves p24 = fork _ _ _ q tt
  step_leaves p25 = fork _ _ _ (fork _ _ _ q tt) tt
  step_leaves (swap found w) = by_found (probe w (s.nodes th.found).parent s.nodes s.root th.found)
  step_leaves p30 = fork _ _ _ q q
  step_leaves p31 = fork _ _ _ q (fork _ _ _ q q)
  step_leaves p32 = fork _ _ _ q (fork _ _ _ q q)
  step_leaves p33 = grand th.grandparent
  step_leaves p34 = q
  step_leaves p35 = fork _ _ _ (fork _ _ _ q tt) q
  step_leaves p36 = q
  step_leaves p37 = q
  step_leaves p38 = tt
  step_leaves p40 = fork _ _ _ (fork _ _ _ tt (goes_back _)) q
  step_leaves (swap united w) = by_united (probe w (s.nodes (s.nodes th.main).neighbour).parent s.nodes s.root (s.nodes th.main).neighbour) (s.nodes th.main)
  step_leaves p45 = q
  step_leaves p46 = at_46 (s.nodes th.main).grandparent (s.nodes th.main)
  step_leaves p47 = at_47 true (s.nodes th.main).grandparent (s.nodes th.main)
  step_leaves p48 = at_48 (s.nodes th.main).grandparent (s.nodes th.main)
  step_leaves p49 = at_47 false (s.nodes th.main).grandparent (s.nodes th.main)
  step_leaves p50 = at_50 (s.nodes th.main).grandparent
  step_leaves p51 = fork _ _ _ tt (goes_back _)
  step_leaves p60 = in_frame_lem th.frames _ (λ f fs. first_reached s.root [] f fs)
  step_leaves p61 = in_frame_lem th.frames _ (λ f fs. first_reached _ f.stack f fs)
  step_leaves p62 = in_frame_lem th.frames _ (λ f fs. fork _ _ _ q (fork _ _ _ tt q))
  step_leaves (swap opening w) = in_frame_lem th.frames _ (λ f fs. by_opening (probe w (s.nodes f.base).parent s.nodes s.root f.base) (s.nodes f.base) f fs)
  step_leaves p70 = in_frame_lem th.frames _ (λ f fs. fork _ _ _ q tt)
  step_leaves p71 = in_frame_lem th.frames _ (λ f fs. next_reached _ f fs)
  step_leaves p72 = in_frame_lem th.frames _ (λ f fs. fork _ _ _ q (popped (tail_of f.stack) f fs))
  step_leaves p73 = in_frame_lem th.frames _ (λ f fs. next_reached _ f fs)
  step_leaves p74 = in_frame_lem th.frames _ (λ f fs. met (s.stores (store_of f.store)) (s.nodes f.base) f fs)
  step_leaves p76 = in_frame_lem th.frames _ (λ f fs. fork _ _ _ q q)
  step_leaves (swap next w) = in_frame_lem th.frames _ (λ f fs. by_next (probe w (s.nodes f.base).parent s.nodes s.root f.base) (s.nodes f.base) f fs)
  step_leaves p81 = in_frame_lem th.frames _ (λ f fs. fills (s.stores (store_of f.store)) f)
  step_leaves p82 = in_frame_lem th.frames _ (λ f fs. read_out_lem (s.stores (store_of f.store)) fs)
