-- What a step does to frames: it keeps what its thread owns, puts no fifth frame on, and owns the store that it shows.
use Rattle.std.specs.Prelude.{Option, Some, None}
use mathlib.Core.Path.{◌≡◌, refl, sym, ◌∙◌, ap, subst}
use mathlib.Core.Bool.{Bool, true, false, true≢false}
use Prim.Native.Nat.{ℕ, ◌≤◌}
use native.Mathlib.Omega.{arith}
use lib.ListN.{length}
use Rattle.answers.proofs.Tools.{clash}
use Rattle.answers.proofs.FrameFacts.{TopOf}
use Rattle.answers.proofs.Owners.{Bears, Owner}
use Rattle.definitions.specs.declared.Effect.TheVariants.{Quiet, Mark, Settle, Invalid, Swing, Raise, Lower, Base, Fork, Commit, Ask, Fill}
use Rattle.container.specs.Choice.{ite}
use Rattle.definitions.specs.declared.Kind.{Kind}
use Rattle.definitions.specs.declared.Kind.TheVariants.{Normal, Route, Main, Neighbour, Range}
use Rattle.definitions.specs.declared.Effect.{Effect}
use Rattle.definitions.specs.declared.Check.{Check}
use Rattle.definitions.specs.declared.Stage.{Stage}
use Rattle.definitions.specs.declared.Stage.TheVariants.{Preparing, Completing, Aborted, Done}
use Rattle.definitions.specs.declared.Node.{Node}
use Rattle.definitions.specs.declared.Action.{Action}
use Rattle.definitions.specs.declared.Action.TheVariants.{Lookup, Insert, Remove, Split, Join, Query}
use Rattle.definitions.specs.declared.Quarter.{Quarter}
use Rattle.definitions.specs.declared.Spot.{Spot}
use Rattle.definitions.specs.declared.Probe.{Probe}
use Rattle.definitions.specs.declared.Probe.TheVariants.{Hit, Next, Miss}
use Rattle.definitions.specs.Threads.{Thread}
use Rattle.definitions.specs.Threads.{Turn}
use Rattle.definitions.specs.Threads.{Moves, Finishes, Finds, Full, NoStore}
use Rattle.definitions.specs.Nodes.{child_for, check_stage, check_store, check_as, check}
use Rattle.definitions.specs.Bench.{Sight}
use Rattle.definitions.specs.Places.{to_frames, own, found, united, opening, next, reading, Place, nowhere, p1, p2, p3, p4, p5, p15}
use Rattle.definitions.specs.Places.{p16, p19, p20, p21, p22, p23, p24, p25, p30, p31, p32, p33, p34, p35, p36, p37, p38, p40, p45}
use Rattle.definitions.specs.Places.{p46, p47, p48, p49, p50, p51, p60, p61, p62, p70, p71, p72, p73, p74, p76, p81, p82, swap}
use Rattle.definitions.specs.Steps.{at_leaf, reached, onward, one_more, followed, released, lost_as, lost, join_under, cleared_as, cleared, probe, replaced_as, replaced}
use Rattle.definitions.specs.Steps.{own_by, found_by, united_by, help_by, blocked_as, blocked, beside, grand_marking, cut_at, cut_on, cut_right, freeing, reached_first}
use Rattle.definitions.specs.Steps.{reached_next, opened_by, extended_by, pop_on, met_by, filling, leaving, read_out, is_query, unmark, invalid, step}
use Rattle.definitions.specs.Threads.{Frame, new_frame}
use Rattle.definitions.specs.Frames.{top_of, tail_of, store_of, pushed, in_hand, with_stack, popping, noting, asks, adds, in_frame, next_from, adding, found_first, back_in, back}
use mathlib.Core.List.{List, [], ◌∷◌}

-- what a step that shows a store shows
abbrev pub Shows : Effect → ℕ → Type 0
Shows (Ask v x p c l h j true) k = j ≡ k
Shows (Ask v x p c l h j false) k = ⊥
Shows Quiet k = ⊥
Shows (Mark r l) k = ⊥
Shows (Settle m v) k = ⊥
Shows (Invalid r) k = ⊥
Shows (Swing v x) k = ⊥
Shows Raise k = ⊥
Shows Lower k = ⊥
Shows (Base v x d p c m) k = ⊥
Shows (Fork v x l r d y) k = ⊥
Shows (Commit m x p n g o) k = ⊥
Shows (Fill j c) k = ⊥

-- a step keeps what its thread owns, puts no fifth frame on, and owns the store that it shows; a query that ends has its store set
abbrev pub Stay : Sight → Thread → Turn → Type 0
Stay s th (Moves th' e) = ((S : ℕ) → Owner th S → Owner th' S) × (length th.frames ≤ 4 → length th'.frames ≤ 4) × ((k : ℕ) → Shows e k → (k ≡ s.shown) × Owner th' k)
Stay s th (Finishes e a) = (k : ℕ) → Shows e k → ⊥
Stay s th (Finds c) = (S : ℕ) → Bears th.frames S → s.stores S ≡ None → ⊥
Stay s th Full = Unit {0}
Stay s th NoStore = Unit {0}

fork : (s : Sight) (th : Thread) (c : Bool) (o o' : Turn) → Stay s th o → Stay s th o' → Stay s th (ite c o o')
unfolding ite
fork s th true o o' p q = p
fork s th false o o' p q = q

fork_eq : (s : Sight) (th : Thread) (c : Bool) (o o' : Turn) → (c ≡ true → Stay s th o) → (c ≡ false → Stay s th o') → Stay s th (ite c o o')
unfolding ite
fork_eq s th true o o' p q = p refl
fork_eq s th false o o' p q = q refl

-- the bottom frame's store and that it has begun are all that counts
bears_top : (f f' : Frame) (fs : List Frame) (S : ℕ) → f'.store ≡ f.store → (f.begun ≡ true → f'.begun ≡ true) → Bears (f ∷ fs) S → Bears (f' ∷ fs) S
bears_top f f' [] S e b (i, j) = (e ∙ i, b j)
bears_top f f' (g ∷ fs) S e b v = v

-- what is asked of the invariant at four places
abbrev pub Room : Sight → Thread → Type 0
Room s th = (s.nodes th.base).kind ≡ Range → s.stores (s.nodes th.base).store ≡ None → length th.frames ≤ 3

abbrev pub Single : Thread → Type 0
Single th = (f : Frame) (fs : List Frame) → th.frames ≡ f ∷ fs → (f.begun ≡ false) × (fs ≡ []) × (is_query th.action ≡ true)

pub record Sem (p : Place) (s : Sight) (th : Thread) : Type 0 where
  pub unhelped : p ≡ p3 → Room s th
  pub fits : p ≡ p15 → Room s th
  pub new : p ≡ p62 → TopOf th.frames (λ f. f.begun ≡ false)
  pub single : (q : Quarter) → p ≡ swap opening q → Single th

module _ (s : Sight) (th : Thread) where
  -- with i routes read where c is true
  leaf : (a : Action) (c : Bool) (i x : ℕ) → Stay s th (at_leaf a s.nodes (reading c i th) x)
  leaf Lookup c i x = (λ k v. v)
  leaf Insert c i x = (λ S o. o, λ h. h, λ k v. absurd v)
  leaf Remove c i x = (λ S o. o, λ h. h, λ k v. absurd v)
  leaf Split c i x = (λ S o. o, λ h. h, λ k v. absurd v)
  leaf Join c i x = (λ S o. o, λ h. h, λ k v. absurd v)
  leaf Query c i x = tt

  reach : (c : Bool) (i x : ℕ) → Stay s th (reached s.nodes (reading c i th) x)
  unfolding reached
  reach c i x = fork s th _ _ _ (λ S o. o, λ h. h, λ k v. absurd v) (leaf th.action c i x)

  pass : (e : Effect) (c : Bool) (i x : ℕ) → ((k : ℕ) → Shows e k → ⊥) → Stay s th (onward e s.nodes (reading c i th) x)
  unfolding onward
  pass e c i x none = fork s th _ _ _ (λ S o. o, λ h. h, λ k v. absurd (none k v)) (λ S o. o, λ h. h, λ k v. absurd (none k v))

  follow : (on c : Bool) (i x : ℕ) → Stay s th (followed on s.nodes (reading c i th) x)
  unfolding followed
  follow false c i x = reach c i x
  follow true c i x = fork s th _ _ _ (reach c i x) (fork s th _ _ _ (λ S o. o, λ h. h, λ k v. absurd v) (pass Quiet c i x (λ k v. v)))

  release : (a : Action) → Stay s th (released a s.nodes th)
  release Lookup = (λ k v. v)
  release Insert = (λ S o. o, λ h. h, λ k v. absurd v)
  release Remove = (λ S o. o, λ h. h, λ k v. absurd v)
  release Split = (λ S o. o, λ h. h, λ k v. absurd v)
  release Join = (λ S o. o, λ h. h, λ k v. absurd v)
  release Query = tt

  lose : (a : Action) → Stay s th (lost_as a th)
  lose Lookup = (λ k v. v)
  lose Insert = (λ S o. o, λ h. h, λ k v. absurd v)
  lose Remove = (λ S o. o, λ h. h, λ k v. absurd v)
  lose Split = (λ k v. v)
  lose Join = (λ k v. v)
  lose Query = tt

  link : (on : Bool) (l : Option ℕ) → Stay s th (join_under on l th)
  link on None = (λ k v. v)
  link false (Some p) = (λ S o. o, λ h. h, λ k v. absurd v)
  link true (Some p) = (λ S o. o, λ h. h, λ k v. absurd v)

  clear : (a : Action) → Stay s th (cleared_as a s.stop.on (s.nodes th.base) th)
  clear Lookup = (λ k v. v)
  clear Insert = (λ S o. o, λ h. h, λ k v. absurd v)
  clear Remove = (λ S o. o, λ h. h, λ k v. absurd v)
  clear Split = (λ S o. o, λ h. h, λ k v. absurd v)
  clear Join = link s.stop.on (s.nodes th.base).parent
  clear Query = tt

  replace : (a : Action) (v : Spot) → Stay s th (replaced_as a v (s.nodes th.base) s.used th)
  replace Lookup v = tt
  replace Insert v = fork s th _ _ _ (λ k v. v) tt
  replace Remove v = fork s th _ _ _ (λ k v. v) tt
  replace Split v = fork s th _ _ _ (λ k v. v) tt
  replace Join v = tt
  replace Query v = tt

  by_own : (o : Probe) → Stay s th (own_by o (s.nodes th.base) s.used th)
  unfolding replaced lost
  by_own (Hit v) = replace th.action v
  by_own (Next q) = (λ S o. o, λ h. h, λ k v. absurd v)
  by_own Miss = lose th.action

  by_found : (o : Probe) → Stay s th (found_by o (s.nodes th.found) s.used th)
  by_found (Hit v) = fork s th _ _ _ (λ S o. o, λ h. h, λ k v. absurd v) tt
  by_found (Next q) = (λ S o. o, λ h. h, λ k v. absurd v)
  by_found Miss = (λ S o. o, λ h. h, λ k v. absurd v)

  by_united : (o : Probe) (m : Node) → Stay s th (united_by o m th)
  by_united (Hit v) m = (λ S o. o, λ h. h, λ k v. absurd v)
  by_united (Next q) m = (λ S o. o, λ h. h, λ k v. absurd v)
  by_united Miss m = (λ S o. o, λ h. h, λ k v. absurd v)

  bears_next : (e : Effect) (f f' : Frame) (fs : List Frame) → f'.store ≡ f.store → (f.begun ≡ true → f'.begun ≡ true)
      → ((S : ℕ) → Owner th S → Bears (f ∷ fs) S) → (length th.frames ≤ 4 → length (f ∷ fs) ≤ 4)
      → ((k : ℕ) → Shows e k → (k ≡ s.shown) × (is_query th.action ≡ true) × (f.store ≡ Some k) × (f.begun ≡ true) × (fs ≡ []))
      → (n : ℕ) → Stay s th (Moves (to_frames n (f' ∷ fs) th) e)
  bears_next e f f' fs i j ow fw sh n = (
    (λ S o. (o.0, bears_top f f' fs S i j (ow S o))),
    fw,
    (λ k v. let (a, q, c, d, z) = sh k v in (a, (q, subst (λ l. Bears (f' ∷ l) k) (sym z) (i ∙ c, j d)))),
  )

  nexted : (l : List ℕ) (e : Effect) (f : Frame) (fs : List Frame) → ((S : ℕ) → Owner th S → Bears (f ∷ fs) S) → (length th.frames ≤ 4 → length (f ∷ fs) ≤ 4)
      → ((k : ℕ) → Shows e k → (k ≡ s.shown) × (is_query th.action ≡ true) × (f.store ≡ Some k) × (f.begun ≡ true) × (fs ≡ [])) → Stay s th (next_from l e f fs th)
  nexted [] e f fs ow fw sh = bears_next e f f fs refl (λ v. v) ow fw sh 81
  nexted (x ∷ []) e f fs ow fw sh = bears_next e f (popping x [] f) fs refl (λ v. v) ow fw sh 81
  nexted (x ∷ y ∷ l) e f fs ow fw sh = bears_next e f (popping x (y ∷ l) f) fs refl (λ v. v) ow fw sh 70

  backed : (fs : List Frame) (e : Effect) → ((k : ℕ) → Shows e k → ⊥) → ((S : ℕ) → Owner th S → Bears fs S) → (length th.frames ≤ 4 → length fs ≤ 4) → Stay s th (back_in fs e th)
  backed [] e n ow fw = ((λ S o. absurd (ow S o)), fw, λ k v. absurd (n k v))
  backed (f ∷ fs) e n ow fw = fork s th _ _ _ (nexted f.backup e f fs ow fw (λ k v. absurd (n k v))) (bears_next e f f fs refl (λ v. v) ow fw (λ k v. absurd (n k v)) 60)

  goes_back : (e : Effect) → ((k : ℕ) → Shows e k → ⊥) → Stay s th (back e th)
  unfolding back
  goes_back e n = backed th.frames e n (λ S o. o.1) (λ h. h)

  added : (e : Effect) (c : ℕ) (f : Frame) (fs : List Frame) → ((S : ℕ) → Owner th S → Bears (f ∷ fs) S) → (length th.frames ≤ 4 → length (f ∷ fs) ≤ 4)
      → ((k : ℕ) → Shows e k → (k ≡ s.shown) × (is_query th.action ≡ true) × (f.store ≡ Some k) × (fs ≡ [])) → Stay s th (adding e c f fs th)
  unfolding adding
  added e c f fs ow fw sh = fork s th _ _ _ (bears_next e (adds c f) (adds c f) fs refl (λ v. v) ow' fw sh' 81) (nexted f.stack e (adds c f) fs ow' fw sh')
    where
      ow' : (S : ℕ) → Owner th S → Bears (adds c f ∷ fs) S
      ow' S o = bears_top f (adds c f) fs S refl (λ _. refl) (ow S o)

      sh' : (k : ℕ) → Shows e k → (k ≡ s.shown) × (is_query th.action ≡ true) × (f.store ≡ Some k) × (true ≡ true) × (fs ≡ [])
      sh' k v = let (a, q, d, z) = sh k v in (a, q, d, refl, z)

  -- of the frame that is carried on
  module _ (f : Frame) (fs : List Frame) (E : th.frames ≡ f ∷ fs) where
    mine : (S : ℕ) → Owner th S → Bears (f ∷ fs) S
    mine S o = subst (λ v. Bears v S) E o.1

    few : length th.frames ≤ 4 → length (f ∷ fs) ≤ 4
    few h = subst (λ v. length v ≤ 4) E h

    moves : (f' : Frame) → f'.store ≡ f.store → (f.begun ≡ true → f'.begun ≡ true) → (n : ℕ) → Stay s th (Moves (to_frames n (f' ∷ fs) th) Quiet)
    moves f' i j n = bears_next Quiet f f' fs i j mine few (λ k v. absurd v) n

    with_top : (e : Effect) (c : ℕ) (f' : Frame) → ((k : ℕ) → Shows e k → ⊥) → f'.store ≡ f.store → (f.begun ≡ true → f'.begun ≡ true) → Stay s th (adding e c f' fs th)
    with_top e c f' n i j = added e c f' fs (λ S o. bears_top f f' fs S i j (mine S o)) few (λ k v. absurd (n k v))

    first_found : (l : Option ℕ) (n : Node) (x : ℕ) (st : List ℕ) → Stay s th (found_first l n (in_hand x st f) fs th)
    first_found None n x st = moves (in_hand x st f) refl (λ v. v) 62
    first_found (Some k) n x st = fork s th _ _ _ (with_top Quiet _ (in_hand x st f) (λ k v. v) refl (λ v. v)) (moves (in_hand x st f) refl (λ v. v) 82)

    first_reached : (x : ℕ) (l : List ℕ) → Stay s th (reached_first s.nodes x l f fs th)
    unfolding reached_first
    first_reached x l = fork s th _ _ _ (moves (pushed x l f) refl (λ v. v) 61) (first_found f.store (s.nodes x) x l)

    next_reached : (x : ℕ) → Stay s th (reached_next s.nodes x f fs th)
    unfolding reached_next
    next_reached x = fork s th _ _ _ (moves (pushed x f.stack f) refl (λ v. v) 73) (moves (in_hand x f.stack f) refl (λ v. v) 74)

    popped : (l : List ℕ) → Stay s th (pop_on l f fs th)
    popped [] = moves (with_stack [] f) refl (λ v. v) 81
    popped (x ∷ l) = moves (with_stack (x ∷ l) f) refl (λ v. v) 72

    met : (v : Option ℕ) (n : Node) → Stay s th (met_by v n f fs th)
    met (Some c) n = (λ S o. o, λ h. h, λ k v. absurd v)
    met None n = fork s th _ _ _ (with_top Quiet _ f (λ k v. v) refl (λ v. v)) (λ S o. o, λ h. h, λ k v. absurd v)

    -- 62: the frame takes another store; it has not begun
    ride : f.begun ≡ false → (l h k n : ℕ) → Stay s th (Moves (to_frames n (asks l h k f ∷ fs) th) Quiet)
    ride b l h k n = ((λ S o. (o.0, other fs S (mine S o))), few, λ k v. absurd v)
      where
        other : (fs : List Frame) (S : ℕ) → Bears (f ∷ fs) S → Bears (asks l h k f ∷ fs) S
        other [] S (_, j) = absurd (true≢false (sym j ∙ b))
        other (g ∷ fs) S v = v

    by_opening : (f.begun ≡ false) × (fs ≡ []) × (is_query th.action ≡ true) → (o : Probe) (n : Node) → Stay s th (opened_by o n s f fs th)
    by_opening (b, z, q) (Next r) n = (λ S o. o, λ h. h, λ k v. absurd v)
    by_opening (b, z, q) Miss n = (λ S o. o, λ h. h, λ k v. absurd v)
    by_opening (b, z, q) (Hit v) n = fork s th _ _ _ (fork s th _ _ _ (added _ _ _ fs (λ S o. other fs S (mine S o)) few (λ k v. (sym v, q, ap Some v, z))) tt) tt
      where
        other : (fs : List Frame) (S : ℕ) → Bears (f ∷ fs) S → Bears (asks f.lower f.upper s.shown (in_hand s.used (tail_of f.stack) f) ∷ fs) S
        other [] S (_, j) = absurd (true≢false (sym j ∙ b))
        other (g ∷ fs) S v = v

    by_next : (o : Probe) (n : Node) → Stay s th (extended_by o n s f fs th)
    by_next (Hit v) n = fork s th _ _ _ (with_top _ _ (in_hand s.used (tail_of f.stack) f) (λ k v. v) refl (λ v. v)) tt
    by_next (Next q) n = (λ S o. o, λ h. h, λ k v. absurd v)
    by_next Miss n = goes_back _ (λ k v. v)

    -- 82
    under : (gs : List Frame) → fs ≡ gs → (r : ℕ) → s.stores (store_of f.store) ≡ Some r → Stay s th (leaving gs r th)
    under [] z r q = fork_eq s th _ _ _ (λ _ S v u. clash (let (i, _) : (f.store ≡ Some S) × (f.begun ≡ true) = subst (λ l. Bears (f ∷ l) S) z (subst (λ l. Bears l S) E v) in
        let y : s.stores S ≡ Some r = ap (λ v. s.stores (store_of v)) (sym i) ∙ q in cc))
        (λ c. backed [] Quiet (λ k v. v) (λ S o. absurd (true≢false (sym o.0 ∙ c))) (λ h. omega arith))
    under (g ∷ gs) z r q = backed (g ∷ gs) Quiet (λ k v. v) (λ S o. subst (λ l. Bears (f ∷ l) S) z (mine S o)) (λ h. let k = subst (λ l. length (f ∷ l) ≤ 4) z (few h) in omega arith)

    read_out_lem : (v : Option ℕ) → s.stores (store_of f.store) ≡ v → Stay s th (read_out v fs th)
    read_out_lem None q = tt
    read_out_lem (Some r) q = under fs refl r q

    fills : (v : Option ℕ) → Stay s th (filling v f th)
    fills None = (λ S o. o, λ h. h, λ k v. absurd v)
    fills (Some c) = (λ S o. o, λ h. h, λ k v. absurd v)

  in_frame_lem : (fs : List Frame) (k : Frame → List Frame → Turn) → th.frames ≡ fs → ((f : Frame) (gs : List Frame) → th.frames ≡ f ∷ gs → Stay s th (k f gs)) → Stay s th (in_frame fs k)
  in_frame_lem [] k E h = tt
  in_frame_lem (f ∷ fs) k E h = h f fs E

  helped : (v : Stage) (m : ℕ) (c : Check) → Stay s th (help_by c th) → Stay s th (help_by (check_stage v m c) th)
  helped Preparing m c h = (λ S o. o, λ h. h, λ k v. absurd v)
  helped Completing m c h = (λ S o. o, λ h. h, λ k v. absurd v)
  helped Aborted m c h = goes_back _ (λ k v. v)
  helped Done m c h = h

  range_helped : (v : Option ℕ) (n : Node) → (v ≡ None → length th.frames ≤ 3) → Stay s th (help_by (check_store v n) th)
  range_helped (Some c) n h = goes_back _ (λ k v. v)
  range_helped None n h = ((λ S o. (o.0, on_top_lem th.frames S o.1)), (λ _. let k = h refl in omega arith), λ k v. absurd v)
    where
      on_top_lem : (fs : List Frame) (S : ℕ) → Bears fs S → Bears (new_frame n.lower n.upper (Some n.store) ∷ fs) S
      on_top_lem [] S v = absurd v
      on_top_lem (g ∷ fs) S v = v

  -- 15, and 3 after a no
  help : (k : Kind) → (s.nodes th.base).kind ≡ k → Room s th → Stay s th (help_by (check_as k s.nodes s.stores th.base) th)
  help Normal e h = goes_back _ (λ k v. v)
  help Route e h = goes_back _ (λ k v. v)
  help Main e h = helped (s.nodes th.base).stage th.base Check.Stale (goes_back _ (λ k v. v))
  help Neighbour e h = helped (s.nodes (s.nodes th.base).main).stage (s.nodes th.base).main Check.Replaceable (goes_back _ (λ k v. v))
  help Range e h = range_helped (s.stores (s.nodes th.base).store) (s.nodes th.base) (λ u. h e u)

  block : (a : Action) → Room s th → Stay s th (blocked_as a (check s.nodes s.stores th.base) th)
  unfolding check
  block Lookup h = (λ k v. v)
  block Insert h = help (s.nodes th.base).kind refl h
  block Remove h = help (s.nodes th.base).kind refl h
  block Split h = (λ k v. v)
  block Join h = (λ k v. v)
  block Query h = tt

  shows_unmark : (l : Option ℕ) (k : ℕ) → Shows (unmark l) k → ⊥
  shows_unmark None k v = v
  shows_unmark (Some r) k v = v

  shows_invalid : (l : Option ℕ) (k : ℕ) → Shows (invalid l) k → ⊥
  shows_invalid None k v = v
  shows_invalid (Some r) k v = v

  grand : (l : Option ℕ) → Stay s th (grand_marking l s.nodes th)
  grand None = (λ S o. o, λ h. h, λ k v. absurd v)
  grand (Some g) = fork s th _ _ _ (λ S o. o, λ h. h, λ k v. absurd v) (λ S o. o, λ h. h, λ k v. absurd v)

  at_46 : (l : Option ℕ) (m : Node) → Stay s th (cut_at l m s.nodes s.root th)
  at_46 None m = fork s th _ _ _ (λ S o. o, λ h. h, λ k v. absurd v) (λ S o. o, λ h. h, λ k v. absurd v)
  at_46 (Some g) m = fork s th _ _ _ (λ S o. o, λ h. h, λ k v. absurd v) (λ S o. o, λ h. h, λ k v. absurd v)

  at_47 : (d : Bool) (l : Option ℕ) (m : Node) → Stay s th (cut_on d l m s.nodes th)
  at_47 d None m = (λ S o. o, λ h. h, λ k v. absurd v)
  at_47 d (Some g) m = fork s th _ _ _ (λ S o. o, λ h. h, λ k v. absurd v) (λ S o. o, λ h. h, λ k v. absurd v)

  at_48 : (l : Option ℕ) (m : Node) → Stay s th (cut_right l m s.nodes th)
  at_48 None m = (λ S o. o, λ h. h, λ k v. absurd v)
  at_48 (Some g) m = fork s th _ _ _ (λ S o. o, λ h. h, λ k v. absurd v) (λ S o. o, λ h. h, λ k v. absurd v)

  at_50 : (l : Option ℕ) → Stay s th (freeing l s.nodes th)
  at_50 None = (λ S o. o, λ h. h, λ k v. absurd v)
  at_50 (Some g) = fork s th _ _ _ (λ S o. o, λ h. h, λ k v. absurd v) (λ S o. o, λ h. h, λ k v. absurd v)

  pub stay_op : (p : Place) → Sem p s th → Stay s th (step p s th)
  unfolding step beside cleared blocked check
  stay_op nowhere sem = (λ S o. o, λ h. h, λ k v. absurd v)
  stay_op p1 sem = reach s.stop.on 0 s.root
  stay_op p2 sem = follow s.stop.on s.stop.on (one_more th.read) (child_for th.station (s.nodes th.route))
  stay_op p3 sem = fork s th _ _ _ (λ k v. v) (fork s th _ _ _ (clear th.action) (block th.action (sem.unhelped refl)))
  stay_op p4 sem = pass Raise false 0 th.route (λ k v. v)
  stay_op p5 sem = release th.action
  stay_op (swap own q) sem = by_own (probe q (s.nodes th.base).parent s.nodes s.root th.base)
  stay_op p15 sem = help (s.nodes th.base).kind refl (sem.fits refl)
  stay_op p16 sem = fork s th _ _ _ (goes_back _ (λ k v. v)) (goes_back _ (λ k v. v))
  stay_op p19 sem = fork s th _ _ _ (λ S o. o, λ h. h, λ k v. absurd v) (λ k v. v)
  stay_op p20 sem = fork s th _ _ _ (λ S o. o, λ h. h, λ k v. absurd v) (λ S o. o, λ h. h, λ k v. absurd v)
  stay_op p21 sem = fork s th _ _ _ (λ S o. o, λ h. h, λ k v. absurd v) (λ k v. v)
  stay_op p22 sem = fork s th _ _ _ (λ S o. o, λ h. h, λ k v. absurd v) (λ S o. o, λ h. h, λ k v. absurd v)
  stay_op p23 sem = fork s th _ _ _ (λ S o. o, λ h. h, λ k v. absurd v) (λ S o. o, λ h. h, λ k v. absurd v)
  stay_op p24 sem = fork s th _ _ _ (λ S o. o, λ h. h, λ k v. absurd v) (λ k v. v)
  stay_op p25 sem = fork s th _ _ _ (fork s th _ _ _ (λ S o. o, λ h. h, λ k v. absurd v) tt) (λ k v. v)
  stay_op (swap found q) sem = by_found (probe q (s.nodes th.found).parent s.nodes s.root th.found)
  stay_op p30 sem = fork s th _ _ _ (λ S o. o, λ h. h, λ k v. absurd v) (λ S o. o, λ h. h, λ k v. absurd v)
  stay_op p31 sem = fork s th _ _ _ (λ S o. o, λ h. h, λ k v. absurd v) (fork s th _ _ _ (λ S o. o, λ h. h, λ k v. absurd v) (λ S o. o, λ h. h, λ k v. absurd v))
  stay_op p32 sem = fork s th _ _ _ (λ S o. o, λ h. h, λ k v. absurd v) (fork s th _ _ _ (λ S o. o, λ h. h, λ k v. absurd v) (λ S o. o, λ h. h, λ k v. absurd v))
  stay_op p33 sem = grand th.grandparent
  stay_op p34 sem = (λ S o. o, λ h. h, λ k v. absurd v)
  stay_op p35 sem = fork s th _ _ _ (fork s th _ _ _ (λ S o. o, λ h. h, λ k v. absurd v) tt) (λ S o. o, λ h. h, λ k v. absurd v)
  stay_op p36 sem = (λ S o. o, λ h. h, λ k v. absurd (shows_unmark th.grandparent k v))
  stay_op p37 sem = (λ S o. o, λ h. h, λ k v. absurd v)
  stay_op p38 sem = (λ k v. v)
  stay_op p40 sem = fork s th _ _ _ (fork s th _ _ _ (λ k v. v) (goes_back _ (λ k v. v))) (λ S o. o, λ h. h, λ k v. absurd v)
  stay_op (swap united q) sem = by_united (probe q (s.nodes (s.nodes th.main).neighbour).parent s.nodes s.root (s.nodes th.main).neighbour) (s.nodes th.main)
  stay_op p45 sem = (λ S o. o, λ h. h, λ k v. absurd (shows_invalid (s.nodes th.main).parent k v))
  stay_op p46 sem = at_46 (s.nodes th.main).grandparent (s.nodes th.main)
  stay_op p47 sem = at_47 true (s.nodes th.main).grandparent (s.nodes th.main)
  stay_op p48 sem = at_48 (s.nodes th.main).grandparent (s.nodes th.main)
  stay_op p49 sem = at_47 false (s.nodes th.main).grandparent (s.nodes th.main)
  stay_op p50 sem = at_50 (s.nodes th.main).grandparent
  stay_op p51 sem = fork s th _ _ _ (λ k v. v) (goes_back _ (λ k v. v))
  stay_op p60 sem = in_frame_lem th.frames _ refl (λ f fs E. first_reached f fs E s.root [])
  stay_op p61 sem = in_frame_lem th.frames _ refl (λ f fs E. first_reached f fs E _ f.stack)
  stay_op p62 sem = in_frame_lem th.frames _ refl (λ f fs E. fork s th _ _ _ (λ S o. o, λ h. h, λ k v. absurd v) (fork s th _ _ _
      (ride f fs E (subst (λ v. TopOf v (λ f. f.begun ≡ false)) E (sem.new refl)) (s.nodes f.base).lower (s.nodes f.base).upper (s.nodes f.base).store 60) (λ S o. o, λ h. h, λ k v. absurd v)))
  stay_op (swap opening q) sem = in_frame_lem th.frames _ refl (λ f fs E. by_opening f fs E (sem.single q refl f fs E) (probe q (s.nodes f.base).parent s.nodes s.root f.base) (s.nodes f.base))
  stay_op p70 sem = in_frame_lem th.frames _ refl (λ f fs E. fork s th _ _ _ (λ S o. o, λ h. h, λ k v. absurd v) (moves f fs E (noting (s.nodes (top_of f.stack)).key f) refl (λ v. v) 72))
  stay_op p71 sem = in_frame_lem th.frames _ refl (λ f fs E. next_reached f fs E _)
  stay_op p72 sem = in_frame_lem th.frames _ refl (λ f fs E. fork s th _ _ _ (λ S o. o, λ h. h, λ k v. absurd v) (popped f fs E (tail_of f.stack)))
  stay_op p73 sem = in_frame_lem th.frames _ refl (λ f fs E. next_reached f fs E _)
  stay_op p74 sem = in_frame_lem th.frames _ refl (λ f fs E. met f fs E (s.stores (store_of f.store)) (s.nodes f.base))
  stay_op p76 sem = in_frame_lem th.frames _ refl (λ f fs E. fork s th _ _ _ (λ S o. o, λ h. h, λ k v. absurd v) (λ S o. o, λ h. h, λ k v. absurd v))
  stay_op (swap next q) sem = in_frame_lem th.frames _ refl (λ f fs E. by_next f fs E (probe q (s.nodes f.base).parent s.nodes s.root f.base) (s.nodes f.base))
  stay_op p81 sem = in_frame_lem th.frames _ refl (λ f fs E. fills f fs E (s.stores (store_of f.store)))
  stay_op p82 sem = in_frame_lem th.frames _ refl (λ f fs E. read_out_lem f fs E (s.stores (store_of f.store)) refl)
