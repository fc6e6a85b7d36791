-- What a thread's notes say of the count of the stop (definitions/specs/Count.antt, `Noted`), and the steps that leave the count: all but
-- those at 1, 2, 4 and 5. It rests on the places alone: no fact of the memory is needed.
use Rattle.std.specs.Prelude.{Option, Some, None}
use mathlib.Core.Path.{◌≡◌, refl, ◌∙◌}
use mathlib.Core.Logic.{◌≢◌}
use mathlib.Core.Bool.{Bool, true, false, not, cond, ◌||◌, ◌&&◌, false≢true}
use mathlib.Core.List.{List, [], ◌∷◌}
use Prim.Native.Nat.{ℕ, suc, ◌-◌, ◌<◌}
use lib.Dec.{eqb, ltb}
use borrow.Author.Tests.{eqb-false}
use Rattle.container.specs.Choice.{ite}
use Rattle.definitions.specs.declared.Check.{Check}
use Rattle.definitions.specs.declared.Node.{Node}
use Rattle.definitions.specs.declared.Action.{Action}
use Rattle.definitions.specs.declared.Action.TheVariants.{Lookup, Insert, Remove, Split, Join, Query}
use Rattle.definitions.specs.declared.Quarter.TheVariants.{ReadLeft, SwapLeft, ReadRight, SwapRight}
use Rattle.definitions.specs.declared.Spot.{Spot}
use Rattle.definitions.specs.declared.Spot.TheVariants.{Root, Under}
use Rattle.definitions.specs.declared.Probe.{Probe}
use Rattle.definitions.specs.declared.Probe.TheVariants.{Hit, Next, Miss}
use Rattle.definitions.specs.Threads.{Frame, Thread, Turn, Moves, Finishes, Finds, Full, NoStore}
use Rattle.definitions.specs.declared.Effect.{Effect}
use Rattle.definitions.specs.declared.Effect.TheVariants.{Quiet, Mark, Settle, Invalid, Swing, Raise, Lower, Base, Fork, Commit, Ask, Fill}
use Rattle.definitions.specs.Bench.{Store, Sight}
use Rattle.definitions.specs.Nodes.{check}
use Rattle.definitions.specs.Places.{own, found, united, opening, next, Place, nowhere, p1, p2, p3, p4, p5, p15, p16, p19, p20}
use Rattle.definitions.specs.Places.{p21, p22, p23, p24, p25, p30, p31, p32, p33, p34, p35, p36, p37, p38, p40, p45, p46, p47}
use Rattle.definitions.specs.Places.{p48, p49, p50, p51, p60, p61, p62, p70, p71, p72, p73, p74, p76, p81, p82, swap, number}
use Rattle.definitions.specs.Effects.{perform}
use Rattle.definitions.specs.Steps.{lost_as, lost, join_under, cleared_as, cleared, probe, replaced_as, replaced, own_by, found_by, united_by}
use Rattle.definitions.specs.Steps.{help_by, blocked_as, blocked, beside, grand_marking, back_out, unmark, invalid, cut_at, cut_on, cut_right}
use Rattle.definitions.specs.Steps.{freeing, reached_first, reached_next, opened_by, extended_by, pop_on, met_by, filling, read_out, step}
use Rattle.definitions.specs.Frames.{tail_of, store_of, in_frame, next_from, adding, found_first, back_in, back}
use Rattle.answers.proofs.Tools.{on, off, test}

-- ---- a thread's notes

-- with the switch on a thread is between the two steps by its notes: it stands at 5, or at 2 with its 8th route read
abbrev pub standing : Thread → Bool
standing th = eqb th.place 5 || (eqb th.place 2 && ltb 7 th.read)

-- `sw` is the switch, i whether the thread is between the two steps
pub record Noted (sw i : Bool) (th : Thread) : Type 0 where
  pub stands : sw ≡ true → i ≡ standing th
  pub ready : th.place ≡ 4 → 7 < th.read
  pub off_out : sw ≡ false → i ≡ false
  pub off_place : sw ≡ false → (th.place ≢ 4) × (th.place ≢ 5) × (th.place ≢ 19)

-- the count after a step at `place`
abbrev pub counted : ℕ → ℕ → ℕ
counted place c = cond (eqb place 4) (suc c) (cond (eqb place 5) (c - 1) c)

-- a place number that is not 2, 4 or 5
abbrev pub Elsewhere : ℕ → Type 0
Elsewhere p = (eqb p 2 ≡ false) × (eqb p 4 ≡ false) × (eqb p 5 ≡ false)

-- the same as one test, and not 19 either with the switch off
abbrev pub apart : Bool → ℕ → Bool
apart sw p = not (eqb p 2) && (not (eqb p 4) && (not (eqb p 5) && not (eqb p 19 && not sw)))

both : (a b : Bool) → (not a && b) ≡ true → (a ≡ false) × (b ≡ true)
both true b h = absurd (false≢true h)
both false b h = (refl, h)

neither : (a sw : Bool) → not (a && not sw) ≡ true → sw ≡ false → a ≡ false
neither false sw h e = refl
neither true sw h e = absurd (false≢true (rw e at h))

apart_of : (sw : Bool) (p : ℕ) → apart sw p ≡ true → Elsewhere p × (sw ≡ false → eqb p 19 ≡ false)
apart_of sw p h = let (h2, a) = both (eqb p 2) _ h in let (h4, c) = both (eqb p 4) _ a in let (h5, d) = both (eqb p 5) _ c in ((h2, h4, h5), neither (eqb p 19) sw d)

-- a thread apart is not between
pub aside_noted : (sw : Bool) (th : Thread) → apart sw th.place ≡ true → Noted sw false th
aside_noted sw th h = let ((h2, h4, h5), h19) = apart_of sw th.place h in record {
  stands = λ _. rw (h2, h5);
  ready = λ e. absurd (eqb-false _ _ h4 e);
  off_out = λ _. refl;
  off_place = λ z. (eqb-false _ _ h4, eqb-false _ _ h5, eqb-false _ _ (h19 z));
}

pub aside_not : {sw i : Bool} {th : Thread} → Noted sw i th → Elsewhere th.place → i ≡ false
aside_not {sw} {i} {th} k (h2, h4, h5) = elim (test sw) [ on z ↦ k.stands z ∙ rw (h2, h5) | off z ↦ k.off_out z ]

-- ---- steps aside: they leave the count, and lead to a place elsewhere

abbrev pub silent : Effect → Bool
silent Quiet = true
silent (Mark _ _) = true
silent (Settle _ _) = true
silent (Invalid _) = true
silent (Swing _ _) = true
silent Raise = false
silent Lower = false
silent (Base _ _ _ _ _ _) = true
silent (Fork _ _ _ _ _ _) = true
silent (Commit _ _ _ _ _ _) = true
silent (Ask _ _ _ _ _ _ _ _) = true
silent (Fill _ _) = true

pub silent_stop : (e : Effect) (s : Store) → silent e ≡ true → (perform e s).stop ≡ s.stop
silent_stop Quiet s h = refl
silent_stop (Mark r l) s h = refl
silent_stop (Settle m v) s h = refl
silent_stop (Invalid r) s h = refl
silent_stop (Swing Root x) s h = refl
silent_stop (Swing (Under r d) x) s h = refl
silent_stop Raise s h = absurd (false≢true h)
silent_stop Lower s h = absurd (false≢true h)
silent_stop (Base Root x k p c m) s h = refl
silent_stop (Base (Under r d) x k p c m) s h = refl
silent_stop (Fork Root x l r k y) s h = refl
silent_stop (Fork (Under g d) x l r k y) s h = refl
silent_stop (Commit m x p n g o) s h = refl
silent_stop (Ask Root x p y l u k new) s h = refl
silent_stop (Ask (Under g d) x p y l u k new) s h = refl
silent_stop (Fill k c) s h = refl

-- `sw` is the switch
abbrev pub Aside : Bool → Turn → Type 0
Aside sw (Moves th' e) = (apart sw th'.place ≡ true) × (silent e ≡ true)
Aside sw (Finishes e a) = silent e ≡ true
Aside sw (Finds c) = Unit {0}
Aside sw Full = Unit {0}
Aside sw NoStore = Unit {0}

fork : (sw c : Bool) (o o' : Turn) → Aside sw o → Aside sw o' → Aside sw (ite c o o')
unfolding ite
fork sw true o o' p q = p
fork sw false o o' p q = q

module _ (s : Sight) (th : Thread) where
  abbrev sw₀ : Bool
  sw₀ = s.stop.on

  lose : (a : Action) → Aside sw₀ (lost_as a th)
  lose Lookup = refl
  lose Insert = (refl, refl)
  lose Remove = (refl, refl)
  lose Split = refl
  lose Join = refl
  lose Query = tt

  link : (sw : Bool) (l : Option ℕ) → Aside sw (join_under sw l th)
  link sw None = refl
  link false (Some p) = (refl, refl)
  link true (Some p) = (refl, refl)

  clear : (a : Action) → Aside sw₀ (cleared_as a s.stop.on (s.nodes th.base) th)
  clear Lookup = refl
  clear Insert = (refl, refl)
  clear Remove = (refl, refl)
  clear Split = (refl, refl)
  clear Join = link s.stop.on (s.nodes th.base).parent
  clear Query = tt

  replace : (a : Action) (v : Spot) → Aside sw₀ (replaced_as a v (s.nodes th.base) s.used th)
  replace Lookup v = tt
  replace Insert v = fork sw₀ _ _ _ refl tt
  replace Remove v = fork sw₀ _ _ _ refl tt
  replace Split v = fork sw₀ _ _ _ refl tt
  replace Join v = tt
  replace Query v = tt

  by_own : (o : Probe) → Aside sw₀ (own_by o (s.nodes th.base) s.used th)
  unfolding replaced lost
  by_own (Hit v) = replace th.action v
  by_own (Next ReadLeft) = (refl, refl)
  by_own (Next SwapLeft) = (refl, refl)
  by_own (Next ReadRight) = (refl, refl)
  by_own (Next SwapRight) = (refl, refl)
  by_own Miss = lose th.action

  by_found : (o : Probe) → Aside sw₀ (found_by o (s.nodes th.found) s.used th)
  by_found (Hit v) = fork sw₀ _ _ _ (refl, refl) tt
  by_found (Next ReadLeft) = (refl, refl)
  by_found (Next SwapLeft) = (refl, refl)
  by_found (Next ReadRight) = (refl, refl)
  by_found (Next SwapRight) = (refl, refl)
  by_found Miss = (refl, refl)

  by_united : (o : Probe) (m : Node) → Aside sw₀ (united_by o m th)
  by_united (Hit v) m = (refl, refl)
  by_united (Next ReadLeft) m = (refl, refl)
  by_united (Next SwapLeft) m = (refl, refl)
  by_united (Next ReadRight) m = (refl, refl)
  by_united (Next SwapRight) m = (refl, refl)
  by_united Miss m = (refl, refl)

  nexted : (l : List ℕ) (e : Effect) (f : Frame) (fs : List Frame) → silent e ≡ true → Aside sw₀ (next_from l e f fs th)
  nexted [] e f fs p = (refl, p)
  nexted (x ∷ []) e f fs p = (refl, p)
  nexted (x ∷ y ∷ l) e f fs p = (refl, p)

  backed : (fs : List Frame) (e : Effect) → silent e ≡ true → Aside sw₀ (back_in fs e th)
  backed [] e p = (refl, p)
  backed (f ∷ fs) e p = fork sw₀ _ _ _ (nexted f.backup e f fs p) (refl, p)

  goes_back : (e : Effect) → silent e ≡ true → Aside sw₀ (back e th)
  unfolding back
  goes_back e p = backed th.frames e p

  help : (c : Check) → Aside sw₀ (help_by c th)
  help Check.Replaceable = goes_back _ refl
  help (Check.Preparing m) = (refl, refl)
  help (Check.Completing m) = (refl, refl)
  help Check.Stale = goes_back _ refl
  help (Check.Unset l h k) = (refl, refl)

  block : (a : Action) (c : Check) → Aside sw₀ (blocked_as a c th)
  block Lookup c = refl
  block Insert c = help c
  block Remove c = help c
  block Split c = refl
  block Join c = refl
  block Query c = tt

  grand : (l : Option ℕ) → Aside sw₀ (grand_marking l s.nodes th)
  grand None = (refl, refl)
  grand (Some g) = fork sw₀ _ _ _ (refl, refl) (refl, refl)

  backs_out : (l : Option ℕ) → apart sw₀ (number (back_out l)) ≡ true
  backs_out None = refl
  backs_out (Some g) = refl

  unmarks : (l : Option ℕ) → silent (unmark l) ≡ true
  unmarks None = refl
  unmarks (Some r) = refl

  invalids : (l : Option ℕ) → silent (invalid l) ≡ true
  invalids None = refl
  invalids (Some r) = refl

  at_46 : (l : Option ℕ) (m : Node) → Aside sw₀ (cut_at l m s.nodes s.root th)
  at_46 None m = fork sw₀ _ _ _ (refl, refl) (refl, refl)
  at_46 (Some g) m = fork sw₀ _ _ _ (refl, refl) (refl, refl)

  at_47 : (d : Bool) (l : Option ℕ) (m : Node) → Aside sw₀ (cut_on d l m s.nodes th)
  at_47 d None m = (refl, refl)
  at_47 d (Some g) m = fork sw₀ _ _ _ (refl, refl) (refl, refl)

  at_48 : (l : Option ℕ) (m : Node) → Aside sw₀ (cut_right l m s.nodes th)
  at_48 None m = (refl, refl)
  at_48 (Some g) m = fork sw₀ _ _ _ (refl, refl) (refl, refl)

  at_50 : (l : Option ℕ) → Aside sw₀ (freeing l s.nodes th)
  at_50 None = (refl, refl)
  at_50 (Some g) = fork sw₀ _ _ _ (refl, refl) (refl, refl)

  -- ---- a query's places

  added : (e : Effect) (c : ℕ) (f : Frame) (fs : List Frame) → silent e ≡ true → Aside sw₀ (adding e c f fs th)
  unfolding adding
  added e c f fs p = fork sw₀ _ _ _ (refl, p) (nexted f.stack e _ fs p)

  first_found : (l : Option ℕ) (n : Node) (f : Frame) (fs : List Frame) → Aside sw₀ (found_first l n f fs th)
  first_found None n f fs = (refl, refl)
  first_found (Some k) n f fs = fork sw₀ _ _ _ (added _ _ _ fs refl) (refl, refl)

  first_reached : (x : ℕ) (l : List ℕ) (f : Frame) (fs : List Frame) → Aside sw₀ (reached_first s.nodes x l f fs th)
  unfolding reached_first
  first_reached x l f fs = fork sw₀ _ _ _ (refl, refl) (first_found f.store (s.nodes x) _ fs)

  next_reached : (x : ℕ) (f : Frame) (fs : List Frame) → Aside sw₀ (reached_next s.nodes x f fs th)
  unfolding reached_next
  next_reached x f fs = fork sw₀ _ _ _ (refl, refl) (refl, refl)

  popped : (l : List ℕ) (f : Frame) (fs : List Frame) → Aside sw₀ (pop_on l f fs th)
  popped [] f fs = (refl, refl)
  popped (x ∷ l) f fs = (refl, refl)

  met : (v : Option ℕ) (n : Node) (f : Frame) (fs : List Frame) → Aside sw₀ (met_by v n f fs th)
  met (Some c) n f fs = (refl, refl)
  met None n f fs = fork sw₀ _ _ _ (added _ _ _ fs refl) (refl, refl)

  fills : (v : Option ℕ) (f : Frame) → Aside sw₀ (filling v f th)
  fills None f = (refl, refl)
  fills (Some c) f = (refl, refl)

  read_out_lem : (v : Option ℕ) (fs : List Frame) → Aside sw₀ (read_out v fs th)
  read_out_lem None fs = tt
  read_out_lem (Some r) [] = fork sw₀ _ _ _ tt (refl, refl)
  read_out_lem (Some r) (f ∷ fs) = backed (f ∷ fs) _ refl

  by_opening : (o : Probe) (n : Node) (f : Frame) (fs : List Frame) → Aside sw₀ (opened_by o n s f fs th)
  by_opening (Hit v) n f fs = fork sw₀ _ _ _ (fork sw₀ _ _ _ (added _ _ _ fs refl) tt) tt
  by_opening (Next ReadLeft) n f fs = (refl, refl)
  by_opening (Next SwapLeft) n f fs = (refl, refl)
  by_opening (Next ReadRight) n f fs = (refl, refl)
  by_opening (Next SwapRight) n f fs = (refl, refl)
  by_opening Miss n f fs = (refl, refl)

  by_next : (o : Probe) (n : Node) (f : Frame) (fs : List Frame) → Aside sw₀ (extended_by o n s f fs th)
  by_next (Hit v) n f fs = fork sw₀ _ _ _ (added _ _ _ fs refl) tt
  by_next (Next ReadLeft) n f fs = (refl, refl)
  by_next (Next SwapLeft) n f fs = (refl, refl)
  by_next (Next ReadRight) n f fs = (refl, refl)
  by_next (Next SwapRight) n f fs = (refl, refl)
  by_next Miss n f fs = goes_back _ refl

  in_frame_lem : (fs : List Frame) (k : Frame → List Frame → Turn) → ((f : Frame) (gs : List Frame) → Aside sw₀ (k f gs)) → Aside sw₀ (in_frame fs k)
  in_frame_lem [] k h = tt
  in_frame_lem (f ∷ fs) k h = h f fs

  -- every place but 1, 2, 4 and 5
  pub aside_op : (p : Place) → apart sw₀ th.place ≡ true → p ≢ p1 → p ≢ p2 → p ≢ p4 → p ≢ p5 → Aside sw₀ (step p s th)
  unfolding step beside cleared blocked
  aside_op nowhere h h1 h2 h4 h5 = (h, refl)
  aside_op p1 h h1 h2 h4 h5 = absurd (h1 refl)
  aside_op p2 h h1 h2 h4 h5 = absurd (h2 refl)
  aside_op p4 h h1 h2 h4 h5 = absurd (h4 refl)
  aside_op p5 h h1 h2 h4 h5 = absurd (h5 refl)
  aside_op p3 _ _ _ _ _ = fork sw₀ _ _ _ refl (fork sw₀ _ _ _ (clear th.action) (block th.action (check s.nodes s.stores th.base)))
  aside_op p15 _ _ _ _ _ = (help (check s.nodes s.stores th.base))
  aside_op p16 _ _ _ _ _ = (fork sw₀ _ _ _ (goes_back _ refl) (goes_back _ refl))
  aside_op p19 _ _ _ _ _ = (fork sw₀ _ _ _ (refl, refl) refl)
  aside_op p20 _ _ _ _ _ = (fork sw₀ _ _ _ (refl, refl) (refl, refl))
  aside_op p21 _ _ _ _ _ = (fork sw₀ _ _ _ (refl, refl) refl)
  aside_op p22 _ _ _ _ _ = (fork sw₀ _ _ _ (refl, refl) (refl, refl))
  aside_op p23 _ _ _ _ _ = (fork sw₀ _ _ _ (refl, refl) (refl, refl))
  aside_op p24 _ _ _ _ _ = (fork sw₀ _ _ _ (refl, refl) refl)
  aside_op p25 _ _ _ _ _ = (fork sw₀ _ _ _ (fork sw₀ _ _ _ (refl, refl) tt) refl)
  aside_op p30 _ _ _ _ _ = (fork sw₀ _ _ _ (refl, refl) (refl, refl))
  aside_op p31 _ _ _ _ _ = (fork sw₀ _ _ _ (refl, refl) (fork sw₀ _ _ _ (refl, refl) (refl, refl)))
  aside_op p32 _ _ _ _ _ = (fork sw₀ _ _ _ (refl, refl) (fork sw₀ _ _ _ (refl, refl) (refl, refl)))
  aside_op p33 _ _ _ _ _ = (grand th.grandparent)
  aside_op p34 _ _ _ _ _ = (refl, refl)
  aside_op p35 _ _ _ _ _ = (fork sw₀ _ _ _ (fork sw₀ _ _ _ (refl, refl) tt) (backs_out th.grandparent, refl))
  aside_op p36 _ _ _ _ _ = (refl, unmarks th.grandparent)
  aside_op p37 _ _ _ _ _ = (refl, refl)
  aside_op p38 _ _ _ _ _ = refl
  aside_op p40 _ _ _ _ _ = (fork sw₀ _ _ _ (fork sw₀ _ _ _ refl (goes_back _ refl)) (refl, refl))
  aside_op p45 _ _ _ _ _ = (refl, invalids (s.nodes th.main).parent)
  aside_op p46 _ _ _ _ _ = (at_46 (s.nodes th.main).grandparent (s.nodes th.main))
  aside_op p47 _ _ _ _ _ = (at_47 true (s.nodes th.main).grandparent (s.nodes th.main))
  aside_op p48 _ _ _ _ _ = (at_48 (s.nodes th.main).grandparent (s.nodes th.main))
  aside_op p49 _ _ _ _ _ = (at_47 false (s.nodes th.main).grandparent (s.nodes th.main))
  aside_op p50 _ _ _ _ _ = (at_50 (s.nodes th.main).grandparent)
  aside_op p51 _ _ _ _ _ = (fork sw₀ _ _ _ refl (goes_back _ refl))
  aside_op (swap own q) _ _ _ _ _ = (by_own (probe q (s.nodes th.base).parent s.nodes s.root th.base))
  aside_op (swap found q) _ _ _ _ _ = (by_found (probe q (s.nodes th.found).parent s.nodes s.root th.found))
  aside_op (swap united q) _ _ _ _ _ = (by_united (probe q (s.nodes (s.nodes th.main).neighbour).parent s.nodes s.root (s.nodes th.main).neighbour) (s.nodes th.main))
  aside_op p60 _ _ _ _ _ = in_frame_lem th.frames _ (λ f fs. first_reached s.root [] f fs)
  aside_op p61 _ _ _ _ _ = in_frame_lem th.frames _ (λ f fs. first_reached _ f.stack f fs)
  aside_op p62 _ _ _ _ _ = in_frame_lem th.frames _ (λ f fs. fork sw₀ _ _ _ (refl, refl) (fork sw₀ _ _ _ (refl, refl) (refl, refl)))
  aside_op (swap opening q) _ _ _ _ _ = in_frame_lem th.frames _ (λ f fs. by_opening (probe q (s.nodes f.base).parent s.nodes s.root f.base) (s.nodes f.base) f fs)
  aside_op p70 _ _ _ _ _ = in_frame_lem th.frames _ (λ f fs. fork sw₀ _ _ _ (refl, refl) (refl, refl))
  aside_op p71 _ _ _ _ _ = in_frame_lem th.frames _ (λ f fs. next_reached _ f fs)
  aside_op p72 _ _ _ _ _ = in_frame_lem th.frames _ (λ f fs. fork sw₀ _ _ _ (refl, refl) (popped (tail_of f.stack) f fs))
  aside_op p73 _ _ _ _ _ = in_frame_lem th.frames _ (λ f fs. next_reached _ f fs)
  aside_op p74 _ _ _ _ _ = in_frame_lem th.frames _ (λ f fs. met (s.stores (store_of f.store)) (s.nodes f.base) f fs)
  aside_op p76 _ _ _ _ _ = in_frame_lem th.frames _ (λ f fs. fork sw₀ _ _ _ (refl, refl) (refl, refl))
  aside_op (swap next q) _ _ _ _ _ = in_frame_lem th.frames _ (λ f fs. by_next (probe q (s.nodes f.base).parent s.nodes s.root f.base) (s.nodes f.base) f fs)
  aside_op p81 _ _ _ _ _ = in_frame_lem th.frames _ (λ f fs. fills (s.stores (store_of f.store)) f)
  aside_op p82 _ _ _ _ _ = in_frame_lem th.frames _ (λ f fs. read_out_lem (s.stores (store_of f.store)) fs)
