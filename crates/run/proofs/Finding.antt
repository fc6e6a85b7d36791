-- A step at a place below 60: one that finds a depth leaves the depths, so its depth may be read after what it writes; one that puts a frame on
-- top writes nothing, and the frame is that of the range base which it has reached. Assumes nothing.
use Rattle.std.specs.Prelude.{Option, Some, None}
use mathlib.Core.Path.{◌≡◌, refl, sym, ap, ◌∙◌, subst}
use mathlib.Core.Bool.{Bool, true, false, cond, not, true≢false}
use mathlib.Core.List.{List, ◌∷◌}
use mathlib.Core.Logic.{◌⊎◌, inl, inr}
use Prim.Native.Nat.{ℕ, ◌<◌}
use native.Mathlib.Omega.{arith}
use borrow.Author.Tests.{eqb-true}
use lib.Dec.{eqb}
use lib.ListN.{length}
use Rattle.container.specs.Choice.{ite}
use Rattle.container.specs.Container.{has}
use Rattle.depths.specs.Rows.{Rows, full}
use Rattle.effects.specs.Used.{deepened}
use Rattle.machine.specs.Enacted.{depth_by}
use Rattle.definitions.specs.declared.Effect.{Effect}
use Rattle.definitions.specs.declared.Effect.TheVariants.{Quiet, Raise, Lower}
use Rattle.definitions.specs.declared.Answer.{Answer}
use Rattle.definitions.specs.declared.Answer.TheVariants.{No, Yes, At, Lacking, Blocked, Lost, NeighbourBlocked, StoodDown, Stopped}
use Rattle.definitions.specs.declared.Node.{Node}
use Rattle.definitions.specs.declared.Kind.{Kind}
use Rattle.definitions.specs.declared.Kind.TheVariants.{Normal, Route, Main, Neighbour, Range}
use Rattle.definitions.specs.declared.Stage.{Stage}
use Rattle.definitions.specs.declared.Stage.TheVariants.{Preparing, Completing, Aborted, Done}
use Rattle.definitions.specs.declared.Action.{Action}
use Rattle.definitions.specs.declared.Action.TheVariants.{Lookup, Insert, Remove, Split, Join, Query}
use Rattle.definitions.specs.declared.Spot.{Spot}
use Rattle.definitions.specs.declared.Probe.{Probe}
use Rattle.definitions.specs.declared.Probe.TheVariants.{Hit, Next, Miss}
use Rattle.definitions.specs.declared.Check.{Check}
use Rattle.definitions.specs.Nodes.{Shapes, Stores, child_for, check_stage, check_store, check_as, check}
use Rattle.definitions.specs.Threads.{Frame, Thread, new_frame, Turn, Moves, Finishes, Finds, Full, NoStore}
use Rattle.definitions.specs.Frames.{back}
use Rattle.definitions.specs.Answers.{said, depth_in}
use Rattle.definitions.specs.Bench.{Sight}
use Rattle.definitions.specs.Places.{own, found, united, opening, next, Place, nowhere, p1, p2, p3, p4, p5, p15, p16, p19, p20, p21}
use Rattle.definitions.specs.Places.{p22, p23, p24, p25, p30, p31, p32, p33, p34, p35, p36, p37, p38, p40, p45, p46, p47, p48, p49}
use Rattle.definitions.specs.Places.{p50, p51, p60, p61, p62, p70, p71, p72, p73, p74, p76, p81, p82, swap, place_of, reading}
use Rattle.definitions.specs.Steps.{looked, at_leaf, reached, onward, one_more, followed, released, lost_as, lost, join_under}
use Rattle.definitions.specs.Steps.{cleared_as, cleared, probe, replaced_as, replaced, own_by, found_by, united_by, help_by}
use Rattle.definitions.specs.Steps.{blocked_as, blocked, beside, grand_marking, ended, cut_at, cut_on, cut_right, freeing, step}
use Rattle.steps.specs.declared.Notes.{Notes}
use Rattle.effects.specs.declared.Write.{Write}
use Rattle.steps.specs.declared.Note.{Note}
use Rattle.steps.specs.declared.Decision.{Decision}
use Rattle.steps.specs.declared.Decision.TheVariants.{Goes, Answers}
use Rattle.steps.specs.Decision.{thread, noted, turn_of, top_of, top_after}
use Rattle.run.specs.Query.{helping}
use Rattle.run.proofs.Numbers.{below, below_60, fork, back_moves}
use Rattle.run.proofs.Decided.{reread, written, counted, tallied, Decided}

-- ---- what is known of a turn

abbrev FindsBy : Answer → Effect → Type 0
FindsBy No e = Unit {0}
FindsBy Yes e = Unit {0}
FindsBy (At x) e = (n : Shapes) (d : Rows) → deepened e n d ≡ d
FindsBy Lacking e = Unit {0}
FindsBy Blocked e = Unit {0}
FindsBy Lost e = Unit {0}
FindsBy NeighbourBlocked e = Unit {0}
FindsBy StoodDown e = Unit {0}
FindsBy Stopped e = Unit {0}

-- the thread has as many frames as th, or one more, which helps the base b, and nothing is written
abbrev Framed : Node → Thread → Thread → Effect → Type 0
Framed b th v e = (length v.frames ≡ length th.frames) ⊎ ((e ≡ Quiet) × (v.frames ≡ helping b ∷ th.frames))

abbrev Finding : Node → Thread → Turn → Type 0
Finding b th (Moves v e) = Framed b th v e
Finding b th (Finishes e a) = FindsBy a e
Finding b th (Finds c) = Unit {0}
Finding b th Full = Unit {0}
Finding b th NoStore = Unit {0}

quiet : (a : Answer) → FindsBy a Quiet
quiet No = tt
quiet Yes = tt
quiet (At x) = λ n d. refl
quiet Lacking = tt
quiet Blocked = tt
quiet Lost = tt
quiet NeighbourBlocked = tt
quiet StoodDown = tt
quiet Stopped = tt

lowered : (a : Answer) → FindsBy a Lower
lowered No = tt
lowered Yes = tt
lowered (At x) = λ n d. refl
lowered Lacking = tt
lowered Blocked = tt
lowered Lost = tt
lowered NeighbourBlocked = tt
lowered StoodDown = tt
lowered Stopped = tt

plain : (b : Bool) (e : Effect) → FindsBy (said b) e
plain true e = tt
plain false e = tt

-- an unset range base has the ends and the store that its check says
abbrev Told : Node → Check → Type 0
Told b Check.Replaceable = Unit {0}
Told b (Check.Preparing m) = Unit {0}
Told b (Check.Completing m) = Unit {0}
Told b Check.Stale = Unit {0}
Told b (Check.Unset l h k) = new_frame l h (Some k) ≡ helping b

told : (n : Shapes) (k : Stores) (x : ℕ) → Told (n x) (check n k x)
unfolding check
told n k x = by (n x).kind
  where
    staged : (s : Stage) (m : ℕ) (c : Check) → Told (n x) c → Told (n x) (check_stage s m c)
    staged Preparing m c q = tt
    staged Completing m c q = tt
    staged Aborted m c q = tt
    staged Done m c q = q

    stored : (r : Option ℕ) → Told (n x) (check_store r (n x))
    stored None = refl
    stored (Some c) = tt

    by : (t : Kind) → Told (n x) (check_as t n k x)
    by Normal = tt
    by Route = tt
    by Main = staged (n x).stage x Check.Stale tt
    by Neighbour = staged (n (n x).main).stage (n x).main Check.Replaceable tt
    by Range = stored (k (n x).store)

module _ (s : Sight) (th : Thread) where
  abbrev Here : Turn → Type 0
  Here = Finding (s.nodes th.base) th

  either : (c : Bool) (o o' : Turn) → Here o → Here o' → Here (ite c o o')
  either = fork Here

  return : (e : Effect) → Here (back e th)
  return e = back_moves Here e th (λ v i. inl i)

  -- with k routes read, or as many as before
  module _ (b : Bool) (k : ℕ) where
    leaf : (a : Action) (x : ℕ) → Here (at_leaf a s.nodes (reading b k th) x)
    leaf Lookup x = quiet (looked s.nodes th x)
    leaf Insert x = inl refl
    leaf Remove x = inl refl
    leaf Split x = inl refl
    leaf Join x = inl refl
    leaf Query x = tt

    reach : (x : ℕ) → Here (reached s.nodes (reading b k th) x)
    unfolding reached
    reach x = either _ _ _ (inl refl) (leaf th.action x)

    pass : (e : Effect) (x : ℕ) → Here (onward e s.nodes (reading b k th) x)
    unfolding onward
    pass e x = either _ _ _ (inl refl) (inl refl)

    follow : (o : Bool) (x : ℕ) → Here (followed o s.nodes (reading b k th) x)
    unfolding followed
    follow false x = reach x
    follow true x = either _ _ _ (reach x) (either _ _ _ (inl refl) (pass Quiet x))

  free : (a : Action) → Here (released a s.nodes th)
  free Lookup = lowered (looked s.nodes th th.base)
  free Insert = inl refl
  free Remove = inl refl
  free Split = inl refl
  free Join = inl refl
  free Query = tt

  help : (c : Check) → Told (s.nodes th.base) c → Here (help_by c th)
  help Check.Replaceable q = return Quiet
  help (Check.Preparing m) q = inl refl
  help (Check.Completing m) q = inl refl
  help Check.Stale q = return Quiet
  help (Check.Unset l h k) q = inr (refl, ap (λ (f : Frame). f ∷ th.frames) q)

  checked : Told (s.nodes th.base) (check s.nodes s.stores th.base)
  checked = told s.nodes s.stores th.base

  block : (a : Action) (c : Check) → Told (s.nodes th.base) c → Here (blocked_as a c th)
  block Lookup c q = tt
  block Insert c q = help c q
  block Remove c q = help c q
  block Split c q = tt
  block Join c q = tt
  block Query c q = tt

  lose : (a : Action) → Here (lost_as a th)
  lose Lookup = tt
  lose Insert = inl refl
  lose Remove = inl refl
  lose Split = tt
  lose Join = tt
  lose Query = tt

  link : (o : Bool) (l : Option ℕ) → Here (join_under o l th)
  link o None = tt
  link false (Some p) = inl refl
  link true (Some p) = inl refl

  clear : (a : Action) → Here (cleared_as a s.stop.on (s.nodes th.base) th)
  clear Lookup = tt
  clear Insert = inl refl
  clear Remove = inl refl
  clear Split = inl refl
  clear Join = link s.stop.on (s.nodes th.base).parent
  clear Query = tt

  replace : (a : Action) (v : Spot) → Here (replaced_as a v (s.nodes th.base) s.used th)
  replace Lookup v = tt
  replace Insert v = either _ _ _ (plain (not (has (s.nodes th.base).container th.station)) _) tt
  replace Remove v = either _ _ _ (plain (has (s.nodes th.base).container th.station) _) tt
  replace Split v = either _ _ _ tt tt
  replace Join v = tt
  replace Query v = tt

  by_own : (o : Probe) → Here (own_by o (s.nodes th.base) s.used th)
  unfolding replaced lost
  by_own (Hit v) = replace th.action v
  by_own (Next q) = inl refl
  by_own Miss = lose th.action

  by_found : (o : Probe) → Here (found_by o (s.nodes th.found) s.used th)
  by_found (Hit v) = either _ _ _ (inl refl) tt
  by_found (Next q) = inl refl
  by_found Miss = inl refl

  by_united : (o : Probe) (m : Node) → Here (united_by o m th)
  by_united (Hit v) m = inl refl
  by_united (Next q) m = inl refl
  by_united Miss m = inl refl

  grand : (l : Option ℕ) → Here (grand_marking l s.nodes th)
  grand None = inl refl
  grand (Some g) = either _ _ _ (inl refl) (inl refl)

  end : (e : Effect) → Here (ended e th)
  end e = either _ _ _ tt (return e)

  at_46 : (l : Option ℕ) (m : Node) → Here (cut_at l m s.nodes s.root th)
  at_46 None m = either _ _ _ (inl refl) (inl refl)
  at_46 (Some g) m = either _ _ _ (inl refl) (inl refl)

  at_47 : (d : Bool) (l : Option ℕ) (m : Node) → Here (cut_on d l m s.nodes th)
  at_47 d None m = inl refl
  at_47 d (Some g) m = either _ _ _ (inl refl) (inl refl)

  at_48 : (l : Option ℕ) (m : Node) → Here (cut_right l m s.nodes th)
  at_48 None m = inl refl
  at_48 (Some g) m = either _ _ _ (inl refl) (inl refl)

  at_50 : (l : Option ℕ) → Here (freeing l s.nodes th)
  at_50 None = inl refl
  at_50 (Some g) = either _ _ _ (inl refl) (inl refl)

  finding : (p : Place) → below p ≡ true → Here (step p s th)
  unfolding step beside cleared blocked
  finding nowhere z = inl refl
  finding p1 z = reach s.stop.on 0 s.root
  finding p2 z = follow s.stop.on (one_more th.read) s.stop.on (child_for th.station (s.nodes th.route))
  finding p3 z = either _ _ _ tt (either _ _ _ (clear th.action) (block th.action (check s.nodes s.stores th.base) checked))
  finding p4 z = pass false 0 Raise th.route
  finding p5 z = free th.action
  finding (swap own q) z = by_own (probe q (s.nodes th.base).parent s.nodes s.root th.base)
  finding p15 z = help (check s.nodes s.stores th.base) checked
  finding p16 z = either _ _ _ (return _) (return _)
  finding p19 z = either _ _ _ (inl refl) tt
  finding p20 z = either _ _ _ (inl refl) (inl refl)
  finding p21 z = either _ _ _ (inl refl) tt
  finding p22 z = either _ _ _ (inl refl) (inl refl)
  finding p23 z = either _ _ _ (inl refl) (inl refl)
  finding p24 z = either _ _ _ (inl refl) tt
  finding p25 z = either _ _ _ (either _ _ _ (inl refl) tt) tt
  finding (swap found q) z = by_found (probe q (s.nodes th.found).parent s.nodes s.root th.found)
  finding p30 z = either _ _ _ (inl refl) (inl refl)
  finding p31 z = either _ _ _ (inl refl) (either _ _ _ (inl refl) (inl refl))
  finding p32 z = either _ _ _ (inl refl) (either _ _ _ (inl refl) (inl refl))
  finding p33 z = grand th.grandparent
  finding p34 z = inl refl
  finding p35 z = either _ _ _ (either _ _ _ (inl refl) tt) (inl refl)
  finding p36 z = inl refl
  finding p37 z = inl refl
  finding p38 z = tt
  finding p40 z = either _ _ _ (end Quiet) (inl refl)
  finding (swap united q) z = by_united (probe q (s.nodes (s.nodes th.main).neighbour).parent s.nodes s.root (s.nodes th.main).neighbour) (s.nodes th.main)
  finding p45 z = inl refl
  finding p46 z = at_46 (s.nodes th.main).grandparent (s.nodes th.main)
  finding p47 z = at_47 true (s.nodes th.main).grandparent (s.nodes th.main)
  finding p48 z = at_48 (s.nodes th.main).grandparent (s.nodes th.main)
  finding p49 z = at_47 false (s.nodes th.main).grandparent (s.nodes th.main)
  finding p50 z = at_50 (s.nodes th.main).grandparent
  finding p51 z = end _
  finding p60 z = absurd (true≢false (sym z))
  finding p61 z = absurd (true≢false (sym z))
  finding p62 z = absurd (true≢false (sym z))
  finding p70 z = absurd (true≢false (sym z))
  finding p71 z = absurd (true≢false (sym z))
  finding p72 z = absurd (true≢false (sym z))
  finding p73 z = absurd (true≢false (sym z))
  finding p74 z = absurd (true≢false (sym z))
  finding p76 z = absurd (true≢false (sym z))
  finding p81 z = absurd (true≢false (sym z))
  finding p82 z = absurd (true≢false (sym z))
  finding (swap opening q) z = absurd (true≢false (sym z))
  finding (swap next q) z = absurd (true≢false (sym z))

-- ---- the depth found, read in the depths after the effect e
found_after : (a : Answer) (e : Effect) (n : Shapes) (d : Rows) (s : ℕ) → FindsBy a e → depth_by a (deepened e n d) s ≡ depth_in a (full n d) s
found_after No e n d s f = refl
found_after Yes e n d s f = refl
found_after (At x) e n d s f = rw (f n d)
found_after Lacking e n d s f = refl
found_after Blocked e n d s f = refl
found_after Lost e n d s f = refl
found_after NeighbourBlocked e n d s f = refl
found_after StoodDown e n d s f = refl
found_after Stopped e n d s f = refl

-- ---- a step that decides d, below 60, with k routes read
module _ (s : Sight) (th : Notes) (h : th.place < 60) (k : ℕ) (d : Decision) (q : Decided s th k d) (fs : List Frame) where
  -- the frame that it puts on top, where it does
  abbrev top : Frame
  top = top_after (step (place_of th.place) s (thread th fs))

  abbrev now : Thread
  now = thread (reread k th) fs

  abbrev effect : Effect
  effect = written d

  finds : {v : Decision} → d ≡ v → Finding (s.nodes th.base) (thread th fs) (tallied th.place (turn_of top now v))
  finds e = subst (λ (t : Turn). Finding (s.nodes th.base) (thread th fs) t) (q.turn fs ∙ ap (λ (v : Decision). tallied th.place (turn_of top now v)) e)
      (finding s (thread th fs) (place_of th.place) (below_60 th.place h))

  -- where the count changes nothing is written
  quiet_or : (effect ≡ Quiet) ⊎ (counted th.place effect ≡ effect)
  quiet_or = by (eqb th.place 4) (eqb th.place 5) refl refl
    where
      by : (a b : Bool) → eqb th.place 4 ≡ a → eqb th.place 5 ≡ b → (effect ≡ Quiet) ⊎ (cond a Raise (cond b Lower effect) ≡ effect)
      by true b e f = inl (q.quiet (inl (eqb-true th.place 4 e)))
      by false true e f = inl (q.quiet (inr (eqb-true th.place 5 f)))
      by false false e f = inr refl

  -- the depth that it finds
  pub depth_still : {w : Write} {a : Answer} (n : Shapes) (r : Rows) (t : ℕ) → d ≡ Answers w a → depth_by a (deepened effect n r) t ≡ depth_in a (full n r) t
  depth_still {w} {a} n r t e = by quiet_or
    where
      by : (effect ≡ Quiet) ⊎ (counted th.place effect ≡ effect) → depth_by a (deepened effect n r) t ≡ depth_in a (full n r) t
      by (inl i) = found_after a effect n r t (rw i (quiet a))
      by (inr i) = found_after a effect n r t (subst (λ (v : Effect). FindsBy a v) i (rw e (finds e)))

  -- the frame that it opens
  pub opened : {w : Write} {p : ℕ} → d ≡ Goes w p Note.Opened → (effect ≡ Quiet) × (top ≡ helping (s.nodes th.base))
  opened {w} {p} e = by (rw e (finds e))
    where
      still : (effect ≡ Quiet) ⊎ (counted th.place effect ≡ effect) → counted th.place effect ≡ Quiet → effect ≡ Quiet
      still (inl i) j = i
      still (inr i) j = sym i ∙ j

      by : Framed (s.nodes th.base) (thread th fs) (noted Note.Opened top p now) (counted th.place effect) → (effect ≡ Quiet) × (top ≡ helping (s.nodes th.base))
      by (inl i) = absurd (omega arith)
      by (inr i) = (still quiet_or i.0, ap top_of i.1)
