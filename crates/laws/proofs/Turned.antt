-- What every place's step does, whatever the state: a main that is neither aborted nor done keeps a thread that owns it and stands at 26 to 51
-- (`Turned`, Tending.antt). No invariant is needed here.
use Rattle.std.specs.Prelude.{Option, Some, None}
use mathlib.Core.Path.{◌≡◌, refl, sym, ◌∙◌}
use mathlib.Core.Bool.{Bool, true, false, false≢true}
use mathlib.Core.List.{List, [], ◌∷◌}
use Prim.Native.Nat.{ℕ}
use borrow.Author.Tests.{eq-eqb}
use Rattle.container.specs.Choice.{ite}
use Rattle.definitions.specs.declared.Check.{Check}
use Rattle.definitions.specs.declared.Stage.{Stage}
use Rattle.definitions.specs.declared.Stage.TheVariants.{Preparing, Completing, Aborted, Done}
use Rattle.definitions.specs.declared.Node.{Node}
use Rattle.definitions.specs.declared.Action.{Action}
use Rattle.definitions.specs.declared.Action.TheVariants.{Lookup, Insert, Remove, Split, Join, Query}
use Rattle.definitions.specs.declared.Spot.{Spot}
use Rattle.definitions.specs.declared.Quarter.{Quarter}
use Rattle.definitions.specs.declared.Quarter.TheVariants.{ReadLeft, SwapLeft, ReadRight, SwapRight}
use Rattle.definitions.specs.declared.Probe.{Probe}
use Rattle.definitions.specs.declared.Probe.TheVariants.{Hit, Next, Miss}
use Rattle.definitions.specs.declared.Answer.TheVariants.{No}
use Rattle.definitions.specs.Threads.{Frame, Thread, Turn, Moves}
use Rattle.definitions.specs.Frames.{tail_of, store_of, in_frame, next_from, adding, found_first, back_in, back}
use Rattle.definitions.specs.declared.Effect.{Effect}
use Rattle.definitions.specs.declared.Effect.TheVariants.{Raise, Quiet, Settle, Fill}
use Rattle.definitions.specs.Nodes.{child_for, check, is_done}
use Rattle.definitions.specs.Bench.{Store, sight_of}
use Rattle.definitions.specs.Effects.{perform}
use Rattle.definitions.specs.Places.{own, found, united, opening, next, reading, Place, nowhere, p1, p2, p3, p4, p5, p15, p16, p19, p20}
use Rattle.definitions.specs.Places.{p21, p22, p23, p24, p25, p30, p31, p32, p33, p34, p35, p36, p37, p38, p40, p45, p46, p47, p48, p49}
use Rattle.definitions.specs.Places.{p50, p51, p60, p61, p62, p70, p71, p72, p73, p74, p76, p81, p82, swap, place_of, number, at}
use Rattle.definitions.specs.Steps.{goes, says, hooked, marking, at_leaf, reached, onward, one_more, followed, released, lost_as, lost}
use Rattle.definitions.specs.Steps.{join_under, cleared_as, cleared, probe, replaced_as, replaced, own_by, found_by, united_by, help_by}
use Rattle.definitions.specs.Steps.{blocked_as, blocked, beside, grand_marking, back_out, cut_at, cut_on, cut_right, freeing, ended, unmark}
use Rattle.definitions.specs.Steps.{invalid, reached_first, reached_next, opened_by, extended_by, pop_on, met_by, filling, read_out, step}
use Rattle.laws.proofs.Tending.{is_over, tending, Tends, Apt, NewMain, Turned, normal_main, neighbour_main}

done_over : (v : Stage) → is_done v ≡ true → is_over v ≡ true
done_over Preparing e = absurd (false≢true e)
done_over Completing e = absurd (false≢true e)
done_over Aborted e = absurd (false≢true e)
done_over Done e = refl

own_away : (q : Quarter) → tending (swap own q) ≡ false
own_away ReadLeft = refl
own_away SwapLeft = refl
own_away ReadRight = refl
own_away SwapRight = refl

opening_away : (q : Quarter) → tending (swap opening q) ≡ false
opening_away ReadLeft = refl
opening_away SwapLeft = refl
opening_away ReadRight = refl
opening_away SwapRight = refl

next_away : (q : Quarter) → tending (swap next q) ≡ false
next_away ReadLeft = refl
next_away SwapLeft = refl
next_away ReadRight = refl
next_away SwapRight = refl

quarter_found : (q : Quarter) → tending (place_of (number (swap found q))) ≡ true
quarter_found ReadLeft = refl
quarter_found SwapLeft = refl
quarter_found ReadRight = refl
quarter_found SwapRight = refl

quarter_united : (q : Quarter) → tending (place_of (number (swap united q))) ≡ true
quarter_united ReadLeft = refl
quarter_united SwapLeft = refl
quarter_united ReadRight = refl
quarter_united SwapRight = refl

module _ (s : Store) (p : Place) (th : Thread) where
  either : (c : Bool) (o o' : Turn) → (c ≡ true → Turned s p th o) → (c ≡ false → Turned s p th o') → Turned s p th (ite c o o')
  unfolding ite
  either true o o' f g = f refl
  either false o o' f g = g refl

  fork : (c : Bool) (o o' : Turn) → Turned s p th o → Turned s p th o' → Turned s p th (ite c o o')
  fork c o o' f g = either c o o' (λ _. f) (λ _. g)

  -- within 26 to 51
  tends : (th' : Thread) → tending (place_of th'.place) ≡ true → th'.owner ≡ th.owner → th'.main ≡ th.main → tending p ≡ true → th.owner ≡ true → Tends th' th.main
  tends th' q i j _ o = record { place = q; owner = i ∙ o; main = j }

  goes_on_lem : (th' : Thread) → tending (place_of th'.place) ≡ true → th'.owner ≡ th.owner → th'.main ≡ th.main → Turned s p th (goes th')
  goes_on_lem th' q i j = (tt, λ y z. absurd z, tends th' q i j)

  -- back from helping: the thread does not own the main
  leaves : (e : Effect) → Apt s e → ((y : ℕ) → NewMain e y → ⊥) → (tending p ≡ true → th.owner ≡ true → ⊥) → (th' : Thread) → Turned s p th (Moves th' e)
  leaves e a n o th' = (a, λ y z. absurd (n y z), λ z i. absurd (o z i))

  nexted : (l : List ℕ) (e : Effect) (f : Frame) (fs : List Frame) → Apt s e → ((y : ℕ) → NewMain e y → ⊥) → (tending p ≡ true → th.owner ≡ true → ⊥)
      → Turned s p th (next_from l e f fs th)
  nexted [] e f fs a n o = leaves e a n o _
  nexted (x ∷ []) e f fs a n o = leaves e a n o _
  nexted (x ∷ y ∷ l) e f fs a n o = leaves e a n o _

  backed : (fs : List Frame) (e : Effect) → Apt s e → ((y : ℕ) → NewMain e y → ⊥) → (tending p ≡ true → th.owner ≡ true → ⊥) → Turned s p th (back_in fs e th)
  backed [] e a n o = leaves e a n o _
  backed (f ∷ fs) e a n o = fork _ _ _ (nexted f.backup e f fs a n o) (leaves e a n o _)

  returns : (e : Effect) → Apt s e → ((y : ℕ) → NewMain e y → ⊥) → (tending p ≡ true → th.owner ≡ true → ⊥) → Turned s p th (back e th)
  unfolding back
  returns e a n o = backed th.frames e a n o

  -- at another place
  module _ (away : tending p ≡ false) where
    out : tending p ≡ true → ⊥
    out z = false≢true (sym away ∙ z)

    moves : (th' : Thread) → Turned s p th (goes th')
    moves th' = (tt, λ y z. absurd z, λ z. absurd (out z))

    ends : Turned s p th (says No)
    ends = (tt, λ y z. z, λ z. absurd (out z))

    -- th' is th with the routes read
    leaf : (a : Action) (th' : Thread) (x : ℕ) → Turned s p th (at_leaf a (sight_of s).nodes th' x)
    leaf Lookup th' x = ends
    leaf Insert th' x = moves _
    leaf Remove th' x = moves _
    leaf Split th' x = moves _
    leaf Join th' x = moves _
    leaf Query th' x = tt

    reach : (th' : Thread) (x : ℕ) → Turned s p th (reached (sight_of s).nodes th' x)
    unfolding reached
    reach th' x = fork _ _ _ (moves _) (leaf th'.action th' x)

    -- the stop: the count is no node
    counts : (e : Effect) → Apt s e → ((y : ℕ) → NewMain e y → ⊥) → (th' : Thread) (x : ℕ) → Turned s p th (onward e (sight_of s).nodes th' x)
    unfolding onward
    counts e a n th' x = fork _ _ _ (a, λ y z. absurd (n y z), λ z. absurd (out z)) (a, λ y z. absurd (n y z), λ z. absurd (out z))

    follow : (on : Bool) (th' : Thread) (x : ℕ) → Turned s p th (followed on (sight_of s).nodes th' x)
    unfolding followed
    follow false th' x = reach th' x
    follow true th' x = fork _ _ _ (reach th' x) (fork _ _ _ (moves _) (counts Quiet tt (λ y z. z) th' x))

    release : (a : Action) → Turned s p th (released a (sight_of s).nodes th)
    release Lookup = (tt, λ y z. z, λ z. absurd (out z))
    release Insert = (tt, λ y z. absurd z, λ z. absurd (out z))
    release Remove = (tt, λ y z. absurd z, λ z. absurd (out z))
    release Split = (tt, λ y z. absurd z, λ z. absurd (out z))
    release Join = (tt, λ y z. absurd z, λ z. absurd (out z))
    release Query = tt

    lose : (a : Action) → Turned s p th (lost_as a th)
    lose Lookup = ends
    lose Insert = moves _
    lose Remove = moves _
    lose Split = ends
    lose Join = ends
    lose Query = tt

    link : (on : Bool) (l : Option ℕ) → Turned s p th (join_under on l th)
    link on None = ends
    link false (Some q) = moves _
    link true (Some q) = moves _

    clear : (a : Action) → Turned s p th (cleared_as a s.stop.on ((sight_of s).nodes th.base) th)
    clear Lookup = ends
    clear Insert = moves _
    clear Remove = moves _
    clear Split = moves _
    clear Join = link s.stop.on (s.nodes th.base).parent
    clear Query = tt

    replace : (a : Action) (v : Spot) → Turned s p th (replaced_as a v ((sight_of s).nodes th.base) s.used th)
    replace Lookup v = tt
    replace Insert v = fork _ _ _ (tt, λ y z. normal_main z.0, λ z. absurd (out z)) tt
    replace Remove v = fork _ _ _ (tt, λ y z. normal_main z.0, λ z. absurd (out z)) tt
    replace Split v = fork _ _ _ (tt, λ y z. z, λ z. absurd (out z)) tt
    replace Join v = tt
    replace Query v = tt

    by_own : (o : Probe) → Turned s p th (own_by o ((sight_of s).nodes th.base) s.used th)
    unfolding replaced lost
    by_own (Hit v) = replace th.action v
    by_own (Next q) = moves _
    by_own Miss = lose th.action

    goes_back : (e : Effect) → Apt s e → ((y : ℕ) → NewMain e y → ⊥) → Turned s p th (back e th)
    goes_back e a n = returns e a n (λ z _. out z)

    help : (c : Check) → Turned s p th (help_by c th)
    help Check.Replaceable = goes_back Quiet tt (λ y z. z)
    help (Check.Preparing m) = moves _
    help (Check.Completing m) = moves _
    help Check.Stale = goes_back Quiet tt (λ y z. z)
    help (Check.Unset l h k) = moves _

    block : (a : Action) (c : Check) → Turned s p th (blocked_as a c th)
    block Lookup c = ends
    block Insert c = help c
    block Remove c = help c
    block Split c = ends
    block Join c = ends
    block Query c = tt

    hook : Turned s p th (hooked (sight_of s).nodes s.used th)
    hook = fork _ _ _ (fork _ _ _ (tt, λ y z. record { place = refl; owner = refl; main = z.1 }, λ z. absurd (out z)) tt) (ends)

    -- ---- 60 to 82

    shows : (e : Effect) → Apt s e → ((y : ℕ) → NewMain e y → ⊥) → (th' : Thread) → Turned s p th (Moves th' e)
    shows e a n th' = (a, λ y z. absurd (n y z), λ z. absurd (out z))

    added : (e : Effect) (c : ℕ) (f : Frame) (fs : List Frame) → Apt s e → ((y : ℕ) → NewMain e y → ⊥) → Turned s p th (adding e c f fs th)
    unfolding adding
    added e c f fs a n = fork _ _ _ (shows e a n _) (nexted f.stack e _ fs a n (λ z _. out z))

    first_found : (l : Option ℕ) (n : Node) (f : Frame) (fs : List Frame) → Turned s p th (found_first l n f fs th)
    first_found None n f fs = moves _
    first_found (Some k) n f fs = fork _ _ _ (added Quiet _ _ fs tt (λ y z. z)) (moves _)

    first_reached : (x : ℕ) (l : List ℕ) (f : Frame) (fs : List Frame) → Turned s p th (reached_first (sight_of s).nodes x l f fs th)
    unfolding reached_first
    first_reached x l f fs = fork _ _ _ (moves _) (first_found f.store ((sight_of s).nodes x) _ fs)

    next_reached : (x : ℕ) (f : Frame) (fs : List Frame) → Turned s p th (reached_next (sight_of s).nodes x f fs th)
    unfolding reached_next
    next_reached x f fs = fork _ _ _ (moves _) (moves _)

    popped : (l : List ℕ) (f : Frame) (fs : List Frame) → Turned s p th (pop_on l f fs th)
    popped [] f fs = moves _
    popped (x ∷ l) f fs = moves _

    met : (v : Option ℕ) (n : Node) (f : Frame) (fs : List Frame) → Turned s p th (met_by v n f fs th)
    met None n f fs = fork _ _ _ (added Quiet _ f fs tt (λ y z. z)) (moves _)
    met (Some c) n f fs = moves _

    fills : (v : Option ℕ) (f : Frame) → Turned s p th (filling v f th)
    fills None f = shows (Fill (store_of f.store) f.done) tt (λ y z. z) _
    fills (Some c) f = moves _

    read_out_lem : (v : Option ℕ) (fs : List Frame) → Turned s p th (read_out v fs th)
    read_out_lem None fs = tt
    read_out_lem (Some r) [] = fork _ _ _ out (moves _)
    read_out_lem (Some r) (f ∷ fs) = backed (f ∷ fs) Quiet tt (λ y z. z) (λ z _. out z)

    by_opening : (o : Probe) (n : Node) (f : Frame) (fs : List Frame) → Turned s p th (opened_by o n (sight_of s) f fs th)
    by_opening (Hit v) n f fs = fork _ _ _ (fork _ _ _ (added _ _ _ fs tt (λ y z. z)) tt) tt
    by_opening (Next q) n f fs = moves _
    by_opening Miss n f fs = moves _

    by_next : (o : Probe) (n : Node) (f : Frame) (fs : List Frame) → Turned s p th (extended_by o n (sight_of s) f fs th)
    by_next (Hit v) n f fs = fork _ _ _ (added _ _ _ fs tt (λ y z. z)) tt
    by_next (Next q) n f fs = moves _
    by_next Miss n f fs = goes_back Quiet tt (λ y z. z)

    in_frame_lem : (fs : List Frame) (k : Frame → List Frame → Turn) → ((f : Frame) (gs : List Frame) → Turned s p th (k f gs)) → Turned s p th (in_frame fs k)
    in_frame_lem [] k h = tt
    in_frame_lem (f ∷ fs) k h = h f fs

  -- ---- 26 to 51

  by_found : (o : Probe) → Turned s p th (found_by o ((sight_of s).nodes th.found) s.used th)
  by_found (Hit v) = fork _ _ _ (tt, λ y z. absurd (neighbour_main z.0), tends _ refl refl refl) tt
  by_found (Next q) = goes_on_lem _ (quarter_found q) refl refl
  by_found Miss = goes_on_lem _ refl refl refl

  by_united : (o : Probe) (m : Node) → Turned s p th (united_by o m th)
  by_united (Hit v) m = (tt, λ y z. absurd z, tends _ refl refl refl)
  by_united (Next q) m = goes_on_lem _ (quarter_united q) refl refl
  by_united Miss m = goes_on_lem _ refl refl refl

  marks : (r i j : ℕ) → tending (place_of i) ≡ true → tending (place_of j) ≡ true → Turned s p th (marking (sight_of s).nodes r i j th)
  marks r i j a c = fork _ _ _ (tt, λ y z. absurd z, tends _ a refl refl) (goes_on_lem _ c refl refl)

  grand : (l : Option ℕ) → Turned s p th (grand_marking l (sight_of s).nodes th)
  grand None = goes_on_lem _ refl refl refl
  grand (Some g) = marks g _ _ refl refl

  backs_out : (l : Option ℕ) → tending (place_of (number (back_out l))) ≡ true
  backs_out None = refl
  backs_out (Some g) = refl

  unmarks : (l : Option ℕ) → Turned s p th (Moves (at p37 th) (unmark l))
  unmarks None = goes_on_lem _ refl refl refl
  unmarks (Some g) = (tt, λ y z. absurd z, tends _ refl refl refl)

  voids : (l : Option ℕ) → Turned s p th (Moves (at p46 th) (invalid l))
  voids None = goes_on_lem _ refl refl refl
  voids (Some g) = (tt, λ y z. absurd z, tends _ refl refl refl)

  at_46 : (l : Option ℕ) (m : Node) → Turned s p th (cut_at l m (sight_of s).nodes s.root th)
  at_46 None m = fork _ _ _ (tt, λ y z. absurd z, tends _ refl refl refl) (goes_on_lem _ refl refl refl)
  at_46 (Some g) m = fork _ _ _ (goes_on_lem _ refl refl refl) (goes_on_lem _ refl refl refl)

  at_47 : (d : Bool) (l : Option ℕ) (m : Node) → Turned s p th (cut_on d l m (sight_of s).nodes th)
  at_47 d None m = goes_on_lem _ refl refl refl
  at_47 d (Some g) m = fork _ _ _ (tt, λ y z. absurd z, tends _ refl refl refl) (goes_on_lem _ refl refl refl)

  at_48 : (l : Option ℕ) (m : Node) → Turned s p th (cut_right l m (sight_of s).nodes th)
  at_48 None m = goes_on_lem _ refl refl refl
  at_48 (Some g) m = fork _ _ _ (goes_on_lem _ refl refl refl) (goes_on_lem _ refl refl refl)

  at_50 : (l : Option ℕ) → Turned s p th (freeing l (sight_of s).nodes th)
  at_50 None = goes_on_lem _ refl refl refl
  at_50 (Some g) = fork _ _ _ (tt, λ y z. absurd z, tends _ refl refl refl) (goes_on_lem _ refl refl refl)

  -- the end: the owner's main is aborted or done; a helper owns none
  settles : (v : Stage) → is_over v ≡ true → is_over ((perform (Settle th.main v) s).nodes th.main).stage ≡ true
  settles v h = rw (eq-eqb th.main th.main refl) h

  end : (e : Effect) → Apt s e → ((y : ℕ) → NewMain e y → ⊥) → is_over ((perform e s).nodes th.main).stage ≡ true → Turned s p th (ended e th)
  end e a n h = either _ _ _ (λ _. (a, n, λ _. h)) (λ o. returns e a n (λ _ i. false≢true (sym o ∙ i)))

-- every place
pub turned : (s : Store) (th : Thread) (p : Place) → Turned s p th (step p (sight_of s) th)
unfolding step beside cleared blocked
turned s th nowhere = moves s nowhere th refl th
turned s th p1 = reach s p1 th refl (reading s.stop.on 0 th) s.root
turned s th p2 = follow s p2 th refl s.stop.on (reading s.stop.on (one_more th.read) th) (child_for th.station ((sight_of s).nodes th.route))
turned s th p3 = fork s p3 th _ _ _ (ends s p3 th refl) (fork s p3 th _ _ _ (clear s p3 th refl th.action) (block s p3 th refl th.action (check (sight_of s).nodes s.stores th.base)))
turned s th p4 = counts s p4 th refl Raise tt (λ y z. z) th th.route
turned s th p5 = release s p5 th refl th.action
turned s th (swap own q) = by_own s (swap own q) th (own_away q) (probe q (s.nodes th.base).parent (sight_of s).nodes s.root th.base)
turned s th p15 = help s p15 th refl (check (sight_of s).nodes s.stores th.base)
turned s th p16 = fork s p16 th _ _ _ (goes_back s p16 th refl (Settle th.main Aborted) refl (λ y z. z)) (goes_back s p16 th refl Quiet tt (λ y z. z))
turned s th p19 = fork s p19 th _ _ _ (moves s p19 th refl _) (ends s p19 th refl)
turned s th p20 = fork s p20 th _ _ _ (moves s p20 th refl _) (moves s p20 th refl _)
turned s th p21 = fork s p21 th _ _ _ (moves s p21 th refl _) (ends s p21 th refl)
turned s th p22 = fork s p22 th _ _ _ (moves s p22 th refl _) (moves s p22 th refl _)
turned s th p23 = fork s p23 th _ _ _ (moves s p23 th refl _) (moves s p23 th refl _)
turned s th p24 = fork s p24 th _ _ _ (moves s p24 th refl _) (ends s p24 th refl)
turned s th p25 = hook s p25 th refl
turned s th (swap found q) = by_found s (swap found q) th (probe q (s.nodes th.found).parent (sight_of s).nodes s.root th.found)
turned s th p30 = marks s p30 th _ _ _ refl refl
turned s th p31 = fork s p31 th _ _ _ (goes_on_lem s p31 th _ refl refl refl) (fork s p31 th _ _ _ (goes_on_lem s p31 th _ refl refl refl) (goes_on_lem s p31 th _ refl refl refl))
turned s th p32 = fork s p32 th _ _ _ (goes_on_lem s p32 th _ refl refl refl) (fork s p32 th _ _ _ (goes_on_lem s p32 th _ refl refl refl) (goes_on_lem s p32 th _ refl refl refl))
turned s th p33 = grand s p33 th th.grandparent
turned s th p34 = goes_on_lem s p34 th _ refl refl refl
turned s th p35 = either s p35 th _ _ _ (λ h. fork s p35 th _ _ _ (h, λ y z. absurd z, tends s p35 th _ refl refl refl) tt)
    (λ _. goes_on_lem s p35 th _ (backs_out s p35 th th.grandparent) refl refl)
turned s th p36 = unmarks s p36 th th.grandparent
turned s th p37 = (tt, λ y z. absurd z, tends s p37 th _ refl refl refl)
turned s th p38 = (refl, λ y z. z, λ _. settles s p38 th Aborted refl)
turned s th p40 = either s p40 th _ _ _ (λ h. end s p40 th Quiet tt (λ y z. z) (done_over (s.nodes th.main).stage h)) (λ _. goes_on_lem s p40 th _ refl refl refl)
turned s th (swap united q) =
    by_united s (swap united q) th (probe q (s.nodes (s.nodes th.main).neighbour).parent (sight_of s).nodes s.root (s.nodes th.main).neighbour) ((sight_of s).nodes th.main)
turned s th p45 = voids s p45 th (s.nodes th.main).parent
turned s th p46 = at_46 s p46 th (s.nodes th.main).grandparent ((sight_of s).nodes th.main)
turned s th p47 = at_47 s p47 th true (s.nodes th.main).grandparent ((sight_of s).nodes th.main)
turned s th p48 = at_48 s p48 th (s.nodes th.main).grandparent ((sight_of s).nodes th.main)
turned s th p49 = at_47 s p49 th false (s.nodes th.main).grandparent ((sight_of s).nodes th.main)
turned s th p50 = at_50 s p50 th (s.nodes th.main).grandparent
turned s th p51 = end s p51 th (Settle th.main Done) refl (λ y z. z) (settles s p51 th Done refl)
turned s th p60 = in_frame_lem s p60 th refl th.frames _ (λ f fs. first_reached s p60 th refl s.root [] f fs)
turned s th p61 = in_frame_lem s p61 th refl th.frames _ (λ f fs. first_reached s p61 th refl _ f.stack f fs)
turned s th p62 = in_frame_lem s p62 th refl th.frames _ (λ f fs. fork s p62 th _ _ _ (moves s p62 th refl _) (fork s p62 th _ _ _ (moves s p62 th refl _) (moves s p62 th refl _)))
turned s th (swap opening q) = in_frame_lem s (swap opening q) th (opening_away q) th.frames _
    (λ f fs. by_opening s (swap opening q) th (opening_away q) (probe q (s.nodes f.base).parent (sight_of s).nodes s.root f.base) ((sight_of s).nodes f.base) f fs)
turned s th p70 = in_frame_lem s p70 th refl th.frames _ (λ f fs. fork s p70 th _ _ _ (moves s p70 th refl _) (moves s p70 th refl _))
turned s th p71 = in_frame_lem s p71 th refl th.frames _ (λ f fs. next_reached s p71 th refl _ f fs)
turned s th p72 = in_frame_lem s p72 th refl th.frames _ (λ f fs. fork s p72 th _ _ _ (moves s p72 th refl _) (popped s p72 th refl (tail_of f.stack) f fs))
turned s th p73 = in_frame_lem s p73 th refl th.frames _ (λ f fs. next_reached s p73 th refl _ f fs)
turned s th p74 = in_frame_lem s p74 th refl th.frames _ (λ f fs. met s p74 th refl (s.stores (store_of f.store)) ((sight_of s).nodes f.base) f fs)
turned s th p76 = in_frame_lem s p76 th refl th.frames _ (λ f fs. fork s p76 th _ _ _ (moves s p76 th refl _) (moves s p76 th refl _))
turned s th (swap next q) = in_frame_lem s (swap next q) th (next_away q) th.frames _
    (λ f fs. by_next s (swap next q) th (next_away q) (probe q (s.nodes f.base).parent (sight_of s).nodes s.root f.base) ((sight_of s).nodes f.base) f fs)
turned s th p81 = in_frame_lem s p81 th refl th.frames _ (λ f fs. fills s p81 th refl (s.stores (store_of f.store)) f)
turned s th p82 = in_frame_lem s p82 th refl th.frames _ (λ f fs. read_out_lem s p82 th refl (s.stores (store_of f.store)) fs)
