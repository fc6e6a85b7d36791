-- A step that does not finish leaves its thread busy. Assumes nothing.
use Rattle.std.specs.Prelude.{Option, Some, None}
use mathlib.Core.Path.{◌≡◌, refl}
use mathlib.Core.Bool.{Bool, true, false}
use mathlib.Core.List.{List, [], ◌∷◌}
use Prim.Native.Nat.{ℕ, ◌+◌}
use native.Mathlib.Omega.{arith}
use lib.Dec.{eqb}
use borrow.Author.Tests.{ne_eqb}
use Rattle.definitions.specs.declared.Quarter.{Quarter}
use Rattle.definitions.specs.Records.{is_idle}
use Rattle.container.specs.Choice.{ite}
use Rattle.definitions.specs.declared.Node.{Node}
use Rattle.definitions.specs.declared.Action.{Action}
use Rattle.definitions.specs.declared.Action.TheVariants.{Lookup, Insert, Remove, Split, Join, Query}
use Rattle.definitions.specs.declared.Spot.{Spot}
use Rattle.definitions.specs.declared.Probe.{Probe}
use Rattle.definitions.specs.declared.Probe.TheVariants.{Hit, Next, Miss}
use Rattle.definitions.specs.declared.Check.{Check}
use Rattle.definitions.specs.declared.Effect.{Effect}
use Rattle.definitions.specs.declared.Effect.TheVariants.{Quiet}
use Rattle.definitions.specs.Threads.{Frame, Thread, Turn, Moves, Finishes, Finds, Full, NoStore}
use Rattle.definitions.specs.Frames.{tail_of, store_of, in_frame, next_from, adding, found_first, back_in, back}
use Rattle.definitions.specs.Nodes.{child_for, check}
use Rattle.definitions.specs.Bench.{Sight}
use Rattle.definitions.specs.Places.{Swap, own, found, united, opening, next, quarter_number, first_of, number, reading, Place, nowhere, p1, p2}
use Rattle.definitions.specs.Places.{p3, p4, p5, p15, p16, p19, p20, p21, p22, p23, p24, p25, p30, p31, p32, p33, p34, p35, p36, p37, p38, p40}
use Rattle.definitions.specs.Places.{p45, p46, p47, p48, p49, p50, p51, p60, p61, p62, p70, p71, p72, p73, p74, p76, p81, p82, swap}
use Rattle.definitions.specs.Steps.{back_out, at_leaf, reached, onward, one_more, followed, released, help_by, blocked_as, blocked, lost_as, lost, join_under}
use Rattle.definitions.specs.Steps.{cleared_as, cleared, probe, replaced_as, replaced, own_by, found_by, united_by, beside, grand_marking, cut_at, cut_on}
use Rattle.definitions.specs.Steps.{cut_right, freeing, reached_first, reached_next, opened_by, extended_by, pop_on, met_by, filling, read_out, step}

abbrev pub Stays : Turn → Type 0
Stays (Moves th' e) = is_idle th' ≡ false
Stays (Finishes e a) = Unit {0}
Stays (Finds c) = Unit {0}
Stays Full = Unit {0}
Stays NoStore = Unit {0}

number_busy : (k : Swap) (q : Quarter) → eqb (first_of k + quarter_number q) 0 ≡ false
number_busy own q = ne_eqb (10 + quarter_number q) 0 (λ e. omega arith)
number_busy found q = ne_eqb (26 + quarter_number q) 0 (λ e. omega arith)
number_busy united q = ne_eqb (41 + quarter_number q) 0 (λ e. omega arith)
number_busy opening q = ne_eqb (64 + quarter_number q) 0 (λ e. omega arith)
number_busy next q = ne_eqb (77 + quarter_number q) 0 (λ e. omega arith)

back_busy : (l : Option ℕ) → eqb (number (back_out l)) 0 ≡ false
back_busy None = refl
back_busy (Some g) = refl

fork : (th : Thread) (c : Bool) (o o' : Turn) → Stays o → Stays o' → Stays (ite c o o')
unfolding ite
fork th true o o' p q = p
fork th false o o' p q = q

-- what costs no step
nexted : (l : List ℕ) (e : Effect) (f : Frame) (fs : List Frame) (th : Thread) → Stays (next_from l e f fs th)
nexted [] e f fs th = refl
nexted (x ∷ []) e f fs th = refl
nexted (x ∷ y ∷ l) e f fs th = refl

backed : (fs : List Frame) (e : Effect) (th : Thread) → Stays (back_in fs e th)
backed [] e th = refl
backed (f ∷ fs) e th = fork th _ _ _ (nexted f.backup e f fs th) refl

returns : (e : Effect) (th : Thread) → Stays (back e th)
unfolding back
returns e th = backed th.frames e th

added : (e : Effect) (c : ℕ) (f : Frame) (fs : List Frame) (th : Thread) → Stays (adding e c f fs th)
unfolding adding
added e c f fs th = fork th _ _ _ refl (nexted f.stack e _ fs th)

first_found : (l : Option ℕ) (n : Node) (f : Frame) (fs : List Frame) (th : Thread) → Stays (found_first l n f fs th)
first_found None n f fs th = refl
first_found (Some k) n f fs th = fork th _ _ _ (added Quiet _ f fs th) refl

in_frame_lem : (fs : List Frame) (k : Frame → List Frame → Turn) → ((f : Frame) (gs : List Frame) → Stays (k f gs)) → Stays (in_frame fs k)
in_frame_lem [] k h = tt
in_frame_lem (f ∷ fs) k h = h f fs

module _ (s : Sight) (th : Thread) (busy : is_idle th ≡ false) where
  -- th' is th with the routes read
  leaf : (a : Action) (th' : Thread) (x : ℕ) → Stays (at_leaf a s.nodes th' x)
  leaf Lookup th' x = tt
  leaf Insert th' x = refl
  leaf Remove th' x = refl
  leaf Split th' x = refl
  leaf Join th' x = refl
  leaf Query th' x = tt

  reach : (th' : Thread) (x : ℕ) → Stays (reached s.nodes th' x)
  unfolding reached
  reach th' x = fork th _ _ _ refl (leaf th'.action th' x)

  carry_on : (e : Effect) (th' : Thread) (x : ℕ) → Stays (onward e s.nodes th' x)
  unfolding onward
  carry_on e th' x = fork th _ _ _ refl refl

  follow : (on : Bool) (th' : Thread) (x : ℕ) → Stays (followed on s.nodes th' x)
  unfolding followed
  follow false th' x = reach th' x
  follow true th' x = fork th _ _ _ (reach th' x) (fork th _ _ _ refl (carry_on Quiet th' x))

  release : (a : Action) → Stays (released a s.nodes th)
  release Lookup = tt
  release Insert = refl
  release Remove = refl
  release Split = refl
  release Join = refl
  release Query = tt

  lose : (a : Action) → Stays (lost_as a th)
  lose Lookup = tt
  lose Insert = refl
  lose Remove = refl
  lose Split = tt
  lose Join = tt
  lose Query = tt

  help : (c : Check) → Stays (help_by c th)
  help Check.Replaceable = returns Quiet th
  help (Check.Preparing m) = refl
  help (Check.Completing m) = refl
  help Check.Stale = returns Quiet th
  help (Check.Unset l h k) = refl

  block : (a : Action) (c : Check) → Stays (blocked_as a c th)
  block Lookup c = tt
  block Insert c = help c
  block Remove c = help c
  block Split c = tt
  block Join c = tt
  block Query c = tt

  link : (on : Bool) (l : Option ℕ) → Stays (join_under on l th)
  link on None = tt
  link false (Some p) = refl
  link true (Some p) = refl

  clear : (a : Action) → Stays (cleared_as a s.stop.on (s.nodes th.base) th)
  clear Lookup = tt
  clear Insert = refl
  clear Remove = refl
  clear Split = refl
  clear Join = link s.stop.on (s.nodes th.base).parent
  clear Query = tt

  replace : (a : Action) (v : Spot) → Stays (replaced_as a v (s.nodes th.base) s.used th)
  replace Lookup v = tt
  replace Insert v = fork th _ _ _ tt tt
  replace Remove v = fork th _ _ _ tt tt
  replace Split v = fork th _ _ _ tt tt
  replace Join v = tt
  replace Query v = tt

  by_own : (o : Probe) → Stays (own_by o (s.nodes th.base) s.used th)
  unfolding replaced lost
  by_own (Hit v) = replace th.action v
  by_own (Next q) = number_busy own q
  by_own Miss = lose th.action

  by_found : (o : Probe) → Stays (found_by o (s.nodes th.found) s.used th)
  by_found (Hit v) = fork th _ _ _ refl tt
  by_found (Next q) = number_busy found q
  by_found Miss = refl

  by_united : (o : Probe) (m : Node) → Stays (united_by o m th)
  by_united (Hit v) m = refl
  by_united (Next q) m = number_busy united q
  by_united Miss m = refl

  grand : (l : Option ℕ) → Stays (grand_marking l s.nodes th)
  grand None = refl
  grand (Some g) = fork th _ _ _ refl refl

  at_46 : (l : Option ℕ) (m : Node) → Stays (cut_at l m s.nodes s.root th)
  at_46 None m = fork th _ _ _ refl refl
  at_46 (Some g) m = fork th _ _ _ refl refl

  at_47 : (d : Bool) (l : Option ℕ) (m : Node) → Stays (cut_on d l m s.nodes th)
  at_47 d None m = refl
  at_47 d (Some g) m = fork th _ _ _ refl refl

  at_48 : (l : Option ℕ) (m : Node) → Stays (cut_right l m s.nodes th)
  at_48 None m = refl
  at_48 (Some g) m = fork th _ _ _ refl refl

  at_50 : (l : Option ℕ) → Stays (freeing l s.nodes th)
  at_50 None = refl
  at_50 (Some g) = fork th _ _ _ refl refl

  -- 60 to 82
  first_reached : (x : ℕ) (l : List ℕ) (f : Frame) (fs : List Frame) → Stays (reached_first s.nodes x l f fs th)
  unfolding reached_first
  first_reached x l f fs = fork th _ _ _ refl (first_found f.store (s.nodes x) _ fs th)

  next_reached : (x : ℕ) (f : Frame) (fs : List Frame) → Stays (reached_next s.nodes x f fs th)
  unfolding reached_next
  next_reached x f fs = fork th _ _ _ refl refl

  popped : (l : List ℕ) (f : Frame) (fs : List Frame) → Stays (pop_on l f fs th)
  popped [] f fs = refl
  popped (x ∷ l) f fs = refl

  met : (v : Option ℕ) (n : Node) (f : Frame) (fs : List Frame) → Stays (met_by v n f fs th)
  met None n f fs = fork th _ _ _ (added Quiet _ f fs th) refl
  met (Some c) n f fs = refl

  fills : (v : Option ℕ) (f : Frame) → Stays (filling v f th)
  fills None f = refl
  fills (Some c) f = refl

  read_out_lem : (v : Option ℕ) (fs : List Frame) → Stays (read_out v fs th)
  read_out_lem None fs = tt
  read_out_lem (Some r) [] = fork th _ _ _ tt refl
  read_out_lem (Some r) (f ∷ fs) = backed (f ∷ fs) Quiet th

  by_opening : (o : Probe) (n : Node) (f : Frame) (fs : List Frame) → Stays (opened_by o n s f fs th)
  by_opening (Hit v) n f fs = fork th _ _ _ (fork th _ _ _ (added _ _ _ fs th) tt) tt
  by_opening (Next q) n f fs = number_busy opening q
  by_opening Miss n f fs = refl

  by_next : (o : Probe) (n : Node) (f : Frame) (fs : List Frame) → Stays (extended_by o n s f fs th)
  by_next (Hit v) n f fs = fork th _ _ _ (added _ _ _ fs th) tt
  by_next (Next q) n f fs = number_busy next q
  by_next Miss n f fs = returns Quiet th

  pub stays_busy : (p : Place) → Stays (step p s th)
  unfolding step beside cleared blocked lost
  stays_busy nowhere = busy
  stays_busy p1 = reach (reading s.stop.on 0 th) s.root
  stays_busy p2 = follow s.stop.on (reading s.stop.on (one_more th.read) th) (child_for th.station (s.nodes th.route))
  stays_busy p3 = fork th _ _ _ tt (fork th _ _ _ (clear th.action) (block th.action (check s.nodes s.stores th.base)))
  stays_busy p4 = carry_on _ th th.route
  stays_busy p5 = release th.action
  stays_busy (swap own q) = by_own (probe q (s.nodes th.base).parent s.nodes s.root th.base)
  stays_busy p15 = help (check s.nodes s.stores th.base)
  stays_busy p16 = fork th _ _ _ (returns _ th) (returns _ th)
  stays_busy p19 = fork th _ _ _ refl tt
  stays_busy p20 = fork th _ _ _ refl refl
  stays_busy p21 = fork th _ _ _ refl tt
  stays_busy p22 = fork th _ _ _ refl refl
  stays_busy p23 = fork th _ _ _ refl refl
  stays_busy p24 = fork th _ _ _ refl tt
  stays_busy p25 = fork th _ _ _ (fork th _ _ _ refl tt) tt
  stays_busy (swap found q) = by_found (probe q (s.nodes th.found).parent s.nodes s.root th.found)
  stays_busy p30 = fork th _ _ _ refl refl
  stays_busy p31 = fork th _ _ _ refl (fork th _ _ _ refl refl)
  stays_busy p32 = fork th _ _ _ refl (fork th _ _ _ refl refl)
  stays_busy p33 = grand th.grandparent
  stays_busy p34 = refl
  stays_busy p35 = fork th _ _ _ (fork th _ _ _ refl tt) (back_busy th.grandparent)
  stays_busy p36 = refl
  stays_busy p37 = refl
  stays_busy p38 = tt
  stays_busy p40 = fork th _ _ _ (fork th _ _ _ tt (returns _ th)) refl
  stays_busy (swap united q) = by_united (probe q (s.nodes (s.nodes th.main).neighbour).parent s.nodes s.root (s.nodes th.main).neighbour) (s.nodes th.main)
  stays_busy p45 = refl
  stays_busy p46 = at_46 (s.nodes th.main).grandparent (s.nodes th.main)
  stays_busy p47 = at_47 true (s.nodes th.main).grandparent (s.nodes th.main)
  stays_busy p48 = at_48 (s.nodes th.main).grandparent (s.nodes th.main)
  stays_busy p49 = at_47 false (s.nodes th.main).grandparent (s.nodes th.main)
  stays_busy p50 = at_50 (s.nodes th.main).grandparent
  stays_busy p51 = fork th _ _ _ tt (returns _ th)
  stays_busy p60 = in_frame_lem th.frames _ (λ f fs. first_reached s.root [] f fs)
  stays_busy p61 = in_frame_lem th.frames _ (λ f fs. first_reached _ f.stack f fs)
  stays_busy p62 = in_frame_lem th.frames _ (λ f fs. fork th _ _ _ refl (fork th _ _ _ refl refl))
  stays_busy (swap opening q) = in_frame_lem th.frames _ (λ f fs. by_opening (probe q (s.nodes f.base).parent s.nodes s.root f.base) (s.nodes f.base) f fs)
  stays_busy p70 = in_frame_lem th.frames _ (λ f fs. fork th _ _ _ refl refl)
  stays_busy p71 = in_frame_lem th.frames _ (λ f fs. next_reached _ f fs)
  stays_busy p72 = in_frame_lem th.frames _ (λ f fs. fork th _ _ _ refl (popped (tail_of f.stack) f fs))
  stays_busy p73 = in_frame_lem th.frames _ (λ f fs. next_reached _ f fs)
  stays_busy p74 = in_frame_lem th.frames _ (λ f fs. met (s.stores (store_of f.store)) (s.nodes f.base) f fs)
  stays_busy p76 = in_frame_lem th.frames _ (λ f fs. fork th _ _ _ refl refl)
  stays_busy (swap next q) = in_frame_lem th.frames _ (λ f fs. by_next (probe q (s.nodes f.base).parent s.nodes s.root f.base) (s.nodes f.base) f fs)
  stays_busy p81 = in_frame_lem th.frames _ (λ f fs. fills (s.stores (store_of f.store)) f)
  stays_busy p82 = in_frame_lem th.frames _ (λ f fs. read_out_lem (s.stores (store_of f.store)) fs)
