-- A step of a thread that neither asks nor helps a query, where no node is a range base: the thread stays so, and no range base is made
-- (`level_at`). What is claimed of a whole run stands here too (`Queryless`). Assumes nothing.
use Rattle.std.specs.Prelude.{Option, Some, None}
use mathlib.Core.Path.{◌≡◌, refl, sym, ◌∙◌, subst}
use mathlib.Core.Logic.{◌≢◌}
use mathlib.Core.Bool.{Bool, true, false}
use mathlib.Core.List.{[]}
use Prim.Native.Nat.{ℕ, ◌<◌}
use native.Mathlib.Omega.{arith}
use native.Mathlib.Decide.{dec_lt}
use Rattle.container.specs.Choice.{ite}
use Rattle.definitions.specs.declared.Quarter.{Quarter}
use Rattle.definitions.specs.declared.Quarter.TheVariants.{ReadLeft, SwapLeft, ReadRight, SwapRight}
use Rattle.definitions.specs.declared.Kind.{Kind}
use Rattle.definitions.specs.declared.Kind.TheVariants.{Normal, Route, Main, Neighbour, Range}
use Rattle.definitions.specs.declared.Stage.{Stage}
use Rattle.definitions.specs.declared.Stage.TheVariants.{Preparing, Completing, Aborted, Done}
use Rattle.definitions.specs.declared.Node.{Node}
use Rattle.definitions.specs.declared.Action.{Action}
use Rattle.definitions.specs.declared.Action.TheVariants.{Lookup, Insert, Remove, Split, Join, Query}
use Rattle.definitions.specs.declared.Spot.{Spot}
use Rattle.definitions.specs.declared.Probe.{Probe}
use Rattle.definitions.specs.declared.Probe.TheVariants.{Hit, Next, Miss}
use Rattle.definitions.specs.declared.Check.{Check}
use Rattle.definitions.specs.declared.Effect.{Effect}
use Rattle.definitions.specs.declared.Effect.TheVariants.{Quiet, Mark, Settle, Invalid, Swing, Raise, Lower, Base, Fork, Commit, Ask, Fill}
use Rattle.definitions.specs.Threads.{Thread, Turn, Moves, Finishes, Finds, Full, NoStore, goes}
use Rattle.definitions.specs.Frames.{back_in, back}
use Rattle.definitions.specs.Nodes.{Shapes, Stores, child_for, check_stage, check, check_as}
use Rattle.definitions.specs.Bench.{Store, Sight, Bench}
use Rattle.definitions.specs.Places.{own, found, united, opening, next, quarter_number, number, reading, Place, nowhere, p1, p2, p3, p4, p5}
use Rattle.definitions.specs.Places.{p15, p16, p19, p20, p21, p22, p23, p24, p25, p30, p31, p32, p33, p34, p35, p36, p37, p38, p40, p45, p46}
use Rattle.definitions.specs.Places.{p47, p48, p49, p50, p51, p60, p61, p62, p70, p71, p72, p73, p74, p76, p81, p82, swap, place_of}
use Rattle.definitions.specs.Steps.{back_out, at_leaf, reached, onward, one_more, followed, released, help_by, blocked_as, blocked}
use Rattle.definitions.specs.Steps.{lost_as, lost, join_under, cleared_as, cleared, probe, replaced_as, replaced, own_by, found_by}
use Rattle.definitions.specs.Steps.{united_by, beside, grand_marking, unmark, invalid, cut_at, cut_on, cut_right, freeing, step}
use Rattle.answers.proofs.Tools.{clash}
use Rattle.answers.proofs.PlaceNumbers.{number_of}

-- ---- what is claimed

-- a thread that neither asks nor helps a query
pub record Unasking (th : Thread) : Type 0 where
  pub place : th.place < 60
  pub frames : th.frames ≡ []
  pub action : th.action ≢ Query

-- a store that no query has touched
pub record Untouched (s : Store) : Type 0 where
  pub nodes : (x : ℕ) → (s.nodes x).kind ≢ Range
  pub stores : (k : ℕ) → s.stores k ≡ None
  pub shown : s.shown ≡ 0

pub record Queryless (b : Bench) : Type 0 where
  pub store : Untouched b.store
  pub threads : (t : ℕ) → Unasking (b.threads t)

-- ---- one step

-- an effect that makes no range base and sets no store
abbrev pub Mild : Effect → Type 0
Mild Quiet = Unit {0}
Mild (Mark r l) = Unit {0}
Mild (Settle m v) = Unit {0}
Mild (Invalid r) = Unit {0}
Mild (Swing v x) = Unit {0}
Mild Raise = Unit {0}
Mild Lower = Unit {0}
Mild (Base v x k p c m) = k ≢ Range
Mild (Fork v x l r k y) = Unit {0}
Mild (Commit m x p n g o) = Unit {0}
Mild (Ask v x p y l h k new) = ⊥
Mild (Fill k c) = ⊥

abbrev pub Level : Turn → Type 0
Level (Moves th e) = Unasking th × Mild e
Level (Finishes e a) = Mild e
Level (Finds c) = ⊥
Level Full = Unit {0}
Level NoStore = Unit {0}

fork : (c : Bool) (o o' : Turn) → Level o → Level o' → Level (ite c o o')
unfolding ite
fork true o o' p q = p
fork false o o' p q = q

four : (q : Quarter) → quarter_number q < 4
four ReadLeft = omega arith
four SwapLeft = omega arith
four ReadRight = omega arith
four SwapRight = omega arith

quarter_own : (q : Quarter) → number (swap own q) < 60
quarter_own q = omega (arith, four q)

quarter_found : (q : Quarter) → number (swap found q) < 60
quarter_found q = omega (arith, four q)

quarter_united : (q : Quarter) → number (swap united q) < 60
quarter_united q = omega (arith, four q)

backs_out : (l : Option ℕ) → number (back_out l) < 60
backs_out None = omega arith
backs_out (Some g) = omega arith

-- the check meets no range base
abbrev Met : Check → Type 0
Met Check.Replaceable = Unit {0}
Met (Check.Preparing m) = Unit {0}
Met (Check.Completing m) = Unit {0}
Met Check.Stale = Unit {0}
Met (Check.Unset l h k) = ⊥

staged : (v : Stage) (m : ℕ) (c : Check) → Met c → Met (check_stage v m c)
staged Preparing m c h = tt
staged Completing m c h = tt
staged Aborted m c h = tt
staged Done m c h = h

checked : (n : Shapes) (k : Stores) (x : ℕ) → (n x).kind ≢ Range → Met (check n k x)
unfolding check
checked n k x h = go (n x).kind refl
  where
    go : (v : Kind) → (n x).kind ≡ v → Met (check_as v n k x)
    go Normal e = tt
    go Route e = tt
    go Main e = staged (n x).stage x Check.Stale tt
    go Neighbour e = staged (n (n x).main).stage (n x).main Check.Replaceable tt
    go Range e = absurd (h e)

pub normal_range : Normal ≢ Range
normal_range e = clash (cc)

main_range : Main ≢ Range
main_range e = clash (cc)

pub neighbour_range : Neighbour ≢ Range
neighbour_range e = clash (cc)

pub route_range : Route ≢ Range
route_range e = clash (cc)

module _ (s : Sight) (none : (x : ℕ) → (s.nodes x).kind ≢ Range) (th : Thread) (h : Unasking th) where
  -- on to another place below 60, with its frames and its action as they were
  to_place : (th' : Thread) → th'.place < 60 → th'.frames ≡ th.frames → th'.action ≡ th.action → Unasking th'
  to_place th' l f a = record { place = l; frames = f ∙ h.frames; action = λ e. h.action (sym a ∙ e) }

  on : (th' : Thread) → th'.place < 60 → th'.frames ≡ th.frames → th'.action ≡ th.action → Level (goes th')
  on th' l f a = (to_place th' l f a, tt)

  returns : (e : Effect) → Mild e → Level (back e th)
  unfolding back
  returns e m = subst (λ fs. Level (back_in fs e th)) (sym h.frames) (record { place = omega arith; frames = refl; action = h.action }, m)

  -- with k routes read where c is true
  leaf : (a : Action) (c : Bool) (k x : ℕ) → Level (at_leaf a s.nodes (reading c k th) x)
  leaf Lookup c k x = tt
  leaf Insert c k x = on _ (omega arith) refl refl
  leaf Remove c k x = on _ (omega arith) refl refl
  leaf Split c k x = on _ (omega arith) refl refl
  leaf Join c k x = on _ (omega arith) refl refl
  leaf Query c k x = tt

  reach : (c : Bool) (k x : ℕ) → Level (reached s.nodes (reading c k th) x)
  unfolding reached
  reach c k x = fork _ _ _ (on _ (omega arith) refl refl) (leaf th.action c k x)

  -- with the stop on: a search that is counted, and where it is taken off
  pass : (e : Effect) (c : Bool) (k x : ℕ) → Mild e → Level (onward e s.nodes (reading c k th) x)
  unfolding onward
  pass e c k x m = fork _ _ _ (to_place _ (omega arith) refl refl, m) (to_place _ (omega arith) refl refl, m)

  follow : (v c : Bool) (k x : ℕ) → Level (followed v s.nodes (reading c k th) x)
  unfolding followed
  follow false c k x = reach c k x
  follow true c k x = fork _ _ _ (reach c k x) (fork _ _ _ (on _ (omega arith) refl refl) (pass Quiet c k x tt))

  release : (a : Action) → Level (released a s.nodes th)
  release Lookup = tt
  release Insert = (to_place _ (omega arith) refl refl, tt)
  release Remove = (to_place _ (omega arith) refl refl, tt)
  release Split = (to_place _ (omega arith) refl refl, tt)
  release Join = (to_place _ (omega arith) refl refl, tt)
  release Query = tt

  lose : (a : Action) → Level (lost_as a th)
  lose Lookup = tt
  lose Insert = on _ (omega arith) refl refl
  lose Remove = on _ (omega arith) refl refl
  lose Split = tt
  lose Join = tt
  lose Query = tt

  help : (c : Check) → Met c → Level (help_by c th)
  help Check.Replaceable z = returns Quiet tt
  help (Check.Preparing m) z = on _ (omega arith) refl refl
  help (Check.Completing m) z = on _ (omega arith) refl refl
  help Check.Stale z = returns Quiet tt
  help (Check.Unset l u k) z = absurd z

  block : (a : Action) (c : Check) → Met c → Level (blocked_as a c th)
  block Lookup c z = tt
  block Insert c z = help c z
  block Remove c z = help c z
  block Split c z = tt
  block Join c z = tt
  block Query c z = tt

  link : (c : Bool) (l : Option ℕ) → Level (join_under c l th)
  link c None = tt
  link false (Some p) = on _ (omega arith) refl refl
  link true (Some p) = on _ (omega arith) refl refl

  clear : (a : Action) → Level (cleared_as a s.stop.on (s.nodes th.base) th)
  clear Lookup = tt
  clear Insert = on _ (omega arith) refl refl
  clear Remove = on _ (omega arith) refl refl
  clear Split = on _ (omega arith) refl refl
  clear Join = link s.stop.on (s.nodes th.base).parent
  clear Query = tt

  replace : (a : Action) (v : Spot) → Level (replaced_as a v (s.nodes th.base) s.used th)
  replace Lookup v = tt
  replace Insert v = fork _ _ _ normal_range tt
  replace Remove v = fork _ _ _ normal_range tt
  replace Split v = fork _ _ _ tt tt
  replace Join v = tt
  replace Query v = tt

  by_own : (o : Probe) → Level (own_by o (s.nodes th.base) s.used th)
  unfolding replaced lost
  by_own (Hit v) = replace th.action v
  by_own (Next q) = on _ (quarter_own q) refl refl
  by_own Miss = lose th.action

  by_found : (o : Probe) → Level (found_by o (s.nodes th.found) s.used th)
  by_found (Hit v) = fork _ _ _ (to_place _ (omega arith) refl refl, neighbour_range) tt
  by_found (Next q) = on _ (quarter_found q) refl refl
  by_found Miss = on _ (omega arith) refl refl

  by_united : (o : Probe) (m : Node) → Level (united_by o m th)
  by_united (Hit v) m = (to_place _ (omega arith) refl refl, tt)
  by_united (Next q) m = on _ (quarter_united q) refl refl
  by_united Miss m = on _ (omega arith) refl refl

  grand : (l : Option ℕ) → Level (grand_marking l s.nodes th)
  grand None = on _ (omega arith) refl refl
  grand (Some g) = fork _ _ _ (to_place _ (omega arith) refl refl, tt) (on _ (omega arith) refl refl)

  unmarks : (l : Option ℕ) → Mild (unmark l)
  unmarks None = tt
  unmarks (Some g) = tt

  voids : (l : Option ℕ) → Mild (invalid l)
  voids None = tt
  voids (Some g) = tt

  at_46 : (l : Option ℕ) (m : Node) → Level (cut_at l m s.nodes s.root th)
  at_46 None m = fork _ _ _ (to_place _ (omega arith) refl refl, tt) (on _ (omega arith) refl refl)
  at_46 (Some g) m = fork _ _ _ (on _ (omega arith) refl refl) (on _ (omega arith) refl refl)

  at_47 : (d : Bool) (l : Option ℕ) (m : Node) → Level (cut_on d l m s.nodes th)
  at_47 d None m = on _ (omega arith) refl refl
  at_47 d (Some g) m = fork _ _ _ (to_place _ (omega arith) refl refl, tt) (on _ (omega arith) refl refl)

  at_48 : (l : Option ℕ) (m : Node) → Level (cut_right l m s.nodes th)
  at_48 None m = on _ (omega arith) refl refl
  at_48 (Some g) m = fork _ _ _ (on _ (omega arith) refl refl) (on _ (omega arith) refl refl)

  at_50 : (l : Option ℕ) → Level (freeing l s.nodes th)
  at_50 None = on _ (omega arith) refl refl
  at_50 (Some g) = fork _ _ _ (to_place _ (omega arith) refl refl, tt) (on _ (omega arith) refl refl)

  level : (p : Place) → number p < 60 → Level (step p s th)
  unfolding step beside cleared blocked lost
  level nowhere l = (h, tt)
  level p1 l = reach s.stop.on 0 s.root
  level p2 l = follow s.stop.on s.stop.on (one_more th.read) (child_for th.station (s.nodes th.route))
  level p3 l = fork _ _ _ tt (fork _ _ _ (clear th.action) (block th.action (check s.nodes s.stores th.base) (checked s.nodes s.stores th.base (none th.base))))
  level p4 l = pass Raise false 0 th.route tt
  level p5 l = release th.action
  level (swap own q) l = by_own (probe q (s.nodes th.base).parent s.nodes s.root th.base)
  level p15 l = help (check s.nodes s.stores th.base) (checked s.nodes s.stores th.base (none th.base))
  level p16 l = fork _ _ _ (returns _ tt) (returns _ tt)
  level p19 l = fork _ _ _ (on _ (omega arith) refl refl) tt
  level p20 l = fork _ _ _ (on _ (omega arith) refl refl) (on _ (omega arith) refl refl)
  level p21 l = fork _ _ _ (on _ (omega arith) refl refl) tt
  level p22 l = fork _ _ _ (on _ (omega arith) refl refl) (on _ (omega arith) refl refl)
  level p23 l = fork _ _ _ (on _ (omega arith) refl refl) (on _ (omega arith) refl refl)
  level p24 l = fork _ _ _ (on _ (omega arith) refl refl) tt
  level p25 l = fork _ _ _ (fork _ _ _ (to_place _ (omega arith) refl refl, main_range) tt) tt
  level (swap found q) l = by_found (probe q (s.nodes th.found).parent s.nodes s.root th.found)
  level p30 l = fork _ _ _ (to_place _ (omega arith) refl refl, tt) (on _ (omega arith) refl refl)
  level p31 l = fork _ _ _ (on _ (omega arith) refl refl) (fork _ _ _ (on _ (omega arith) refl refl) (on _ (omega arith) refl refl))
  level p32 l = fork _ _ _ (on _ (omega arith) refl refl) (fork _ _ _ (on _ (omega arith) refl refl) (on _ (omega arith) refl refl))
  level p33 l = grand th.grandparent
  level p34 l = on _ (omega arith) refl refl
  level p35 l = fork _ _ _ (fork _ _ _ (to_place _ (omega arith) refl refl, tt) tt) (on _ (backs_out th.grandparent) refl refl)
  level p36 l = (to_place _ (omega arith) refl refl, (unmarks th.grandparent))
  level p37 l = (to_place _ (omega arith) refl refl, tt)
  level p38 l = tt
  level p40 l = fork _ _ _ (fork _ _ _ tt (returns _ tt)) (on _ (omega arith) refl refl)
  level (swap united q) l = by_united (probe q (s.nodes (s.nodes th.main).neighbour).parent s.nodes s.root (s.nodes th.main).neighbour) (s.nodes th.main)
  level p45 l = (to_place _ (omega arith) refl refl, (voids (s.nodes th.main).parent))
  level p46 l = at_46 (s.nodes th.main).grandparent (s.nodes th.main)
  level p47 l = at_47 true (s.nodes th.main).grandparent (s.nodes th.main)
  level p48 l = at_48 (s.nodes th.main).grandparent (s.nodes th.main)
  level p49 l = at_47 false (s.nodes th.main).grandparent (s.nodes th.main)
  level p50 l = at_50 (s.nodes th.main).grandparent
  level p51 l = fork _ _ _ tt (returns _ tt)
  level p60 l = absurd (omega arith)
  level p61 l = absurd (omega arith)
  level p62 l = absurd (omega arith)
  level (swap opening q) l = absurd (omega arith)
  level p70 l = absurd (omega arith)
  level p71 l = absurd (omega arith)
  level p72 l = absurd (omega arith)
  level p73 l = absurd (omega arith)
  level p74 l = absurd (omega arith)
  level p76 l = absurd (omega arith)
  level (swap next q) l = absurd (omega arith)
  level p81 l = absurd (omega arith)
  level p82 l = absurd (omega arith)

  -- of every number below 60, whether it is a place's or not
  pub level_at : (n : ℕ) → n < 60 → Level (step (place_of n) s th)
  level_at n l = level (place_of n) (elim (dec_lt 0 (number (place_of n))) [ yes z ↦ subst (λ m. m < 60) (number_of n (place_of n) refl z) l | no z ↦ omega arith ])
