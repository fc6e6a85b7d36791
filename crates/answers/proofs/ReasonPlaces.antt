-- What each place answers a split or join, and that it has made its change by then (definitions/specs/Reasons.antt): `told` shows it of
-- every place.
use Rattle.std.specs.Prelude.{Option, Some, None}
use mathlib.Core.Path.{◌≡◌, refl, sym, ◌∙◌, ap, subst}
use mathlib.Core.Logic.{inl, inr}
use mathlib.Core.Bool.{Bool, true, false, not, ◌||◌, ◌&&◌, false≢true}
use Prim.Native.Nat.{ℕ, ◌+◌, ◌<◌, ◌≤◌}
use native.Mathlib.Omega.{arith}
use lib.Dec.{ltb, leb}
use borrow.Author.Tests.{eq-eqb, lt-ltb, le-ltb, ltb-true}
use Rattle.container.specs.Choice.{ite}
use Rattle.container.specs.Container.{has}
use Rattle.definitions.specs.declared.Check.{Check}
use Rattle.definitions.specs.declared.Node.{Node}
use Rattle.definitions.specs.declared.Action.{Action}
use Rattle.definitions.specs.declared.Action.TheVariants.{Lookup, Insert, Remove, Split, Join, Query}
use Rattle.definitions.specs.declared.Quarter.{Quarter}
use Rattle.definitions.specs.declared.Quarter.TheVariants.{ReadLeft, SwapLeft, ReadRight, SwapRight}
use Rattle.definitions.specs.declared.Spot.{Spot}
use Rattle.definitions.specs.declared.Spot.TheVariants.{Root, Under}
use Rattle.definitions.specs.declared.Probe.{Probe}
use Rattle.definitions.specs.declared.Probe.TheVariants.{Hit, Next, Miss}
use Rattle.definitions.specs.declared.Effect.{Effect}
use Rattle.definitions.specs.declared.Effect.TheVariants.{Fork, Commit, Quiet, Raise}
use Rattle.definitions.specs.declared.Answer.TheVariants.{Yes, Lacking}
use Rattle.definitions.specs.Threads.{Thread, Turn}
use Rattle.definitions.specs.Nodes.{child_for, check, is_preparing}
use Rattle.definitions.specs.Bench.{Store, Sight, sight_of}
use Rattle.definitions.specs.Places.{own, found, united, opening, next, reading, Place, nowhere, p1, p2, p3, p4, p5, p15, p16, p19, p20}
use Rattle.definitions.specs.Places.{p21, p22, p23, p24, p25, p30, p31, p32, p33, p34, p35, p36, p37, p38, p40, p45, p46, p47, p48, p49}
use Rattle.definitions.specs.Places.{p50, p51, p60, p61, p62, p70, p71, p72, p73, p74, p76, p81, p82, swap, place_of, number, at}
use Rattle.definitions.specs.Effects.{perform}
use Rattle.definitions.specs.Frames.{back}
use Rattle.definitions.specs.Steps.{says, at_leaf, reached, onward, one_more, followed, released, help_by, blocked_as, blocked, lacks_as}
use Rattle.definitions.specs.Steps.{lacks, join_under, cleared_as, cleared, probe, lost_as, lost, replaced_as, replaced, own_by, found_by}
use Rattle.definitions.specs.Steps.{united_by, beside, grand_marking, back_out, ended, cut_at, cut_on, cut_right, freeing, step}
use Rattle.definitions.specs.Reasons.{changes, Reason}
use Rattle.answers.proofs.PlaceNumbers.{place_number, number_of}
use Rattle.answers.proofs.ReasonParts.{part_of, Stand, Stands, Told, same, either, one_shown, one_looked, or_off, apart, all_of, none}
use Rattle.answers.proofs.ReasonQueries.{Free, fork, goes_back, at_60, at_61, at_62, at_opening, at_70, at_71, at_72, at_73, at_74, at_76, at_next, at_81, at_82}

-- where nothing is written, none either
not_less : (n : ℕ) → ltb n n ≡ false
not_less n = le-ltb n n (omega arith)

in_own : (q : Quarter) → leb 10 (number (swap own q)) && leb (number (swap own q)) 13 ≡ true
in_own ReadLeft = refl
in_own SwapLeft = refl
in_own ReadRight = refl
in_own SwapRight = refl

own_range : (q : Quarter) → (10 ≤ number (swap own q)) × (number (swap own q) ≤ 13)
own_range ReadLeft = (omega arith, omega arith)
own_range SwapLeft = (omega arith, omega arith)
own_range ReadRight = (omega arith, omega arith)
own_range SwapRight = (omega arith, omega arith)

module _ (s : Store) (th : Thread) where
  -- what the step reads
  abbrev r : Sight
  r = sight_of s

  abbrev after : ℕ → Bool → Effect → Bool
  after n d e = d || changes th.action n s (perform e s) th

  -- a step at place p, that leaves d as it was or makes the change
  abbrev Step : Place → Bool → Type 0
  Step p d = Told th th.place (after th.place d) (step p r th)

  placed : (p : Place) (d : Bool) → place_of th.place ≡ p → 0 < number p → Told th (number p) (after (number p) d) (step p r th) → Step p d
  placed p d e h k = subst (λ n. Told th n (after n d) (step p r th)) (sym (number_of th.place p e h)) k

  calmly : (p : Place) (c d : Bool) → place_of th.place ≡ p → apart (number p) ≡ true → d ≡ c → Told th (number p) (λ _. c) (step p r th) → Step p d
  calmly p c d e h i k = let (o, u, v) = all_of (ltb 0 (number p)) _ _ h in
      placed p d e (ltb-true 0 (number p) o) (same th (number p) (after (number p) d) c (step p r th) (λ z. ap (λ x. d || x) (none th.action (number p) s (perform z s) th u v) ∙ or_off d ∙ i) k)

  abbrev Calm : ℕ → Turn → Type 0
  Calm n o = Free r th n o

  split : (n : ℕ) (c : Bool) (o o' : Turn) → Calm n o → Calm n o' → Calm n (ite c o o')
  split n c o o' p q = fork r th n c o o' p q

  -- ---- 1 to 3

  -- with k routes read where c is true
  leaf : (n : ℕ) (a : Action) (c : Bool) (k x : ℕ) → th.action ≡ a → Calm n (at_leaf a r.nodes (reading c k th) x)
  leaf n Lookup c k x i = rw i (one_looked (has (r.nodes x).container th.station) x)
  leaf n Insert c k x i = refl
  leaf n Remove c k x i = refl
  leaf n Split c k x i = refl
  leaf n Join c k x i = refl
  leaf n Query c k x i = tt

  reach : (n : ℕ) (c : Bool) (k x : ℕ) → Calm n (reached r.nodes (reading c k th) x)
  unfolding reached
  reach n c k x = split n _ _ _ refl (leaf n th.action c k x refl)

  pass : (n : ℕ) (e : Effect) (c : Bool) (k x : ℕ) → Calm n (onward e r.nodes (reading c k th) x)
  unfolding onward
  pass n e c k x = split n _ _ _ refl refl

  follow : (on c : Bool) (k x : ℕ) → Calm 2 (followed on r.nodes (reading c k th) x)
  unfolding followed
  follow false c k x = reach 2 c k x
  follow true c k x = split 2 _ _ _ (reach 2 c k x) (split 2 _ _ _ refl (pass 2 Quiet c k x))

  release : (a : Action) → th.action ≡ a → Calm 5 (released a r.nodes th)
  release Lookup i = rw i (one_looked (has (r.nodes th.base).container th.station) th.base)
  release Insert i = refl
  release Remove i = refl
  release Split i = refl
  release Join i = refl
  release Query i = tt

  lacking : (a : Action) (b : Node) → th.action ≡ a → lacks_as a b ≡ true → Calm 3 (says Lacking)
  lacking Lookup b i h = absurd (false≢true h)
  lacking Insert b i h = absurd (false≢true h)
  lacking Remove b i h = absurd (false≢true h)
  lacking Query b i h = absurd (false≢true h)
  lacking Split b i h = rw i (refl, refl)
  lacking Join b i h = rw i (refl, refl)

  -- 20, or 19 with the stop on
  link : (on : Bool) (l : Option ℕ) → th.action ≡ Join → Calm 3 (join_under on l th)
  link on None i = rw i (refl, refl)
  link false (Some p) i = (i, refl)
  link true (Some p) i = (i, refl)

  clear : (a : Action) (b : Node) → th.action ≡ a → Calm 3 (cleared_as a r.stop.on b th)
  clear Lookup b i = rw i (inl refl)
  clear Insert b i = refl
  clear Remove b i = refl
  clear Split b i = refl
  clear Join b i = link r.stop.on b.parent i
  clear Query b i = tt

  help : (n : ℕ) (c : Check) → Calm n (help_by c th)
  help n Check.Replaceable = goes_back r th n _
  help n (Check.Preparing m) = refl
  help n (Check.Completing m) = refl
  help n Check.Stale = goes_back r th n _
  help n (Check.Unset l h k) = refl

  block : (a : Action) (c : Check) → th.action ≡ a → Calm 3 (blocked_as a c th)
  block Lookup c i = rw i (inl refl)
  block Insert c i = help 3 c
  block Remove c i = help 3 c
  block Query c i = tt
  block Split c i = rw i (refl, refl)
  block Join c i = rw i (refl, refl)

  -- ---- 10 to 13

  quiet_own : (a : Action) (q : Quarter) → changes a (number (swap own q)) s s th ≡ false
  quiet_own Lookup q = refl
  quiet_own Insert q = refl
  quiet_own Remove q = refl
  quiet_own Query q = refl
  quiet_own Split q = rw (in_own q) (not_less s.used)
  quiet_own Join ReadLeft = refl
  quiet_own Join SwapLeft = refl
  quiet_own Join ReadRight = refl
  quiet_own Join SwapRight = refl

  lost_own : (a : Action) (q : Quarter) → th.action ≡ a → Told th (number (swap own q)) (after (number (swap own q)) false) (lost_as a th)
  lost_own Lookup q i = rw i (inl refl)
  lost_own Insert q i = rw i refl
  lost_own Remove q i = rw i refl
  lost_own Query q i = tt
  lost_own Split q i = rw i (sym (quiet_own Split q), inl (own_range q))
  lost_own Join q i = rw i (sym (quiet_own Join q), inl (own_range q))

  -- a split's swap hands out three numbers
  forks : (v : Spot) (l u k y : ℕ) → ltb s.used (perform (Fork v s.used l u k y) s).used ≡ true
  forks Root l u k y = lt-ltb s.used (s.used + 3) (omega arith)
  forks (Under p d) l u k y = lt-ltb s.used (s.used + 3) (omega arith)

  hit_own : (a : Action) (q : Quarter) (v : Spot) (b : Node) → th.action ≡ a → Told th (number (swap own q)) (after (number (swap own q)) false) (replaced_as a v b s.used th)
  hit_own Lookup q v b i = tt
  hit_own Insert q v b i = either th _ _ _ _ _ (λ _. rw i (one_shown (not (has b.container th.station)))) (λ _. tt)
  hit_own Remove q v b i = either th _ _ _ _ _ (λ _. rw i (one_shown (has b.container th.station))) (λ _. tt)
  hit_own Query q v b i = tt
  hit_own Split q v b i = either th _ _ _ _ _ (λ _. rw (i, in_own q) (sym (forks v _ _ _ _), tt)) (λ _. tt)
  hit_own Join q v b i = tt

  by_own : (q : Quarter) (o : Probe) (b : Node) → Told th (number (swap own q)) (after (number (swap own q)) false) (own_by o b s.used th)
  unfolding replaced lost
  by_own q (Hit v) b = hit_own th.action q v b refl
  by_own q (Next q') b = rw (place_number (swap own q')) (quiet_own th.action q)
  by_own q Miss b = lost_own th.action q refl

  -- ---- 26 to 38

  module _ (i : th.action ≡ Join) (o : th.owner ≡ true) where
    by_found : (n : ℕ) (p : Probe) (b : Node) → Calm n (found_by p b s.used th)
    by_found n (Hit v) b = split n _ _ _ (i, o, refl) tt
    by_found n (Next q) b = rw (place_number (swap found q)) (i, o, refl)
    by_found n Miss b = (i, o, refl)

    grand : (l : Option ℕ) → Calm 33 (grand_marking l r.nodes th)
    grand None = (i, o, refl)
    grand (Some g) = split 33 _ _ _ (i, o, refl) (i, o, refl)

    -- 35: the stage of its main becomes a node number, or it goes back
    backs : (l : Option ℕ) → Stands (at (back_out l) th) false
    backs None = (i, o, refl)
    backs (Some g) = (i, o, refl)

    made : is_preparing (s.nodes th.main).stage ≡ true → (x : ℕ) (p : Option ℕ) (n : ℕ) (g : Option ℕ) (y : ℕ) → changes th.action 35 s (perform (Commit th.main x p n g y) s) th ≡ true
    made e x p n g y = rw (i, e, eq-eqb th.main th.main refl)

    not_made : is_preparing (s.nodes th.main).stage ≡ false → changes th.action 35 s s th ≡ false
    not_made e = rw (i, e)

    at_35 : Told th 35 (after 35 false) (step p35 r th)
    unfolding step
    at_35 = either th 35 _ _ _ _ (λ e. either th 35 _ _ _ _ (λ _. made e _ _ _ _ _ ∙ sym o) (λ _. tt)) (λ e. rw (not_made e) (backs th.grandparent))

  -- ---- 40 to 51

  abbrev Helps : ℕ → Turn → Type 0
  Helps n o = Told th n (λ _. th.owner) o

  on_the_way : (n : ℕ) (c : Bool) (o o' : Turn) → Helps n o → Helps n o' → Helps n (ite c o o')
  on_the_way n c o o' p q = either th n (λ _. th.owner) c o o' (λ _. p) (λ _. q)

  says_yes : (n : ℕ) (a : Action) → th.owner ≡ true → Reason a n th.owner Yes
  says_yes n Lookup e = inr refl
  says_yes n Insert e = inr refl
  says_yes n Remove e = inr refl
  says_yes n Query e = inr refl
  says_yes n Split e = (sym e, tt)
  says_yes n Join e = (sym e, tt)

  ends : (n : ℕ) (v : Effect) → Helps n (ended v th)
  ends n v = either th n _ _ _ _ (λ e. says_yes n th.action e) (λ e. subst (λ c. Told th n (λ _. c) (back v th)) (sym e) (goes_back r th n v))

  by_united : (n : ℕ) (p : Probe) (m : Node) → Helps n (united_by p m th)
  by_united n (Hit v) m = refl
  by_united n (Next q) m = rw (place_number (swap united q)) refl
  by_united n Miss m = refl

  at_46 : (l : Option ℕ) (m : Node) → Helps 46 (cut_at l m r.nodes r.root th)
  at_46 None m = on_the_way 46 _ _ _ refl refl
  at_46 (Some g) m = on_the_way 46 _ _ _ refl refl

  at_47 : (n : ℕ) (d : Bool) (l : Option ℕ) (m : Node) → Helps n (cut_on d l m r.nodes th)
  at_47 n d None m = refl
  at_47 n d (Some g) m = on_the_way n _ _ _ refl refl

  at_48 : (l : Option ℕ) (m : Node) → Helps 48 (cut_right l m r.nodes th)
  at_48 None m = refl
  at_48 (Some g) m = on_the_way 48 _ _ _ refl refl

  at_50 : (l : Option ℕ) → Helps 50 (freeing l r.nodes th)
  at_50 None = refl
  at_50 (Some g) = on_the_way 50 _ _ _ refl refl

  -- ---- every place

  apart_found : (q : Quarter) → apart (number (swap found q)) ≡ true
  apart_found ReadLeft = refl
  apart_found SwapLeft = refl
  apart_found ReadRight = refl
  apart_found SwapRight = refl

  apart_united : (q : Quarter) → apart (number (swap united q)) ≡ true
  apart_united ReadLeft = refl
  apart_united SwapLeft = refl
  apart_united ReadRight = refl
  apart_united SwapRight = refl

  apart_opening : (q : Quarter) → apart (number (swap opening q)) ≡ true
  apart_opening ReadLeft = refl
  apart_opening SwapLeft = refl
  apart_opening ReadRight = refl
  apart_opening SwapRight = refl

  apart_next : (q : Quarter) → apart (number (swap next q)) ≡ true
  apart_next ReadLeft = refl
  apart_next SwapLeft = refl
  apart_next ReadRight = refl
  apart_next SwapRight = refl

  pub told : (p : Place) (d : Bool) → place_of th.place ≡ p → Stand (part_of p) th d → Step p d
  unfolding step beside lacks cleared blocked
  told nowhere d e h = rw e tt
  told p1 d e h = calmly p1 false d e refl h (reach 1 r.stop.on 0 r.root)
  told p2 d e h = calmly p2 false d e refl h (follow r.stop.on r.stop.on (one_more th.read) (child_for th.station (r.nodes th.route)))
  told p3 d e h = calmly p3 false d e refl h
      (either th 3 _ _ _ _ (λ z. lacking th.action (r.nodes th.base) refl z) (λ _. split 3 _ _ _ (clear th.action (r.nodes th.base) refl) (block th.action (check r.nodes r.stores th.base) refl)))
  told p4 d e h = calmly p4 false d e refl h (pass 4 Raise false 0 th.route)
  told p5 d e h = calmly p5 false d e refl h (release th.action refl)
  told (swap own q) d e h = placed (swap own q) d e (omega (arith, own_range q)) (rw h (by_own q (probe q (r.nodes th.base).parent r.nodes r.root th.base) (r.nodes th.base)))
  told p15 d e h = calmly p15 false d e refl h (help 15 (check r.nodes r.stores th.base))
  told p16 d e h = calmly p16 false d e refl h (split 16 _ _ _ (goes_back r th 16 _) (goes_back r th 16 _))
  told p19 d e (i, h) = calmly p19 false d e refl h (split 19 _ _ _ (i, refl) (rw i (refl, refl)))
  told p20 d e (i, h) = calmly p20 false d e refl h (split 20 _ _ _ (i, refl) (i, refl))
  told p21 d e (i, h) = calmly p21 false d e refl h (split 21 _ _ _ (i, refl) (rw i (refl, inr (inl refl))))
  told p22 d e (i, h) = calmly p22 false d e refl h (split 22 _ _ _ (i, refl) (i, refl))
  told p23 d e (i, h) = calmly p23 false d e refl h (split 23 _ _ _ (i, refl) (i, refl))
  told p24 d e (i, h) = calmly p24 false d e refl h (split 24 _ _ _ (i, refl) (rw i (refl, refl)))
  told p25 d e (i, h) = calmly p25 false d e refl h (split 25 _ _ _ (split 25 _ _ _ (i, refl, refl) tt) (rw i (refl, inr (inr refl))))
  told (swap found q) d e (i, o, h) =
      calmly (swap found q) false d e (apart_found q) h (by_found i o (number (swap found q)) (probe q (r.nodes th.found).parent r.nodes r.root th.found) (r.nodes th.found))
  told p30 d e (i, o, h) = calmly p30 false d e refl h (split 30 _ _ _ (i, o, refl) (i, o, refl))
  told p31 d e (i, o, h) = calmly p31 false d e refl h (split 31 _ _ _ (i, o, refl) (split 31 _ _ _ (i, o, refl) (i, o, refl)))
  told p32 d e (i, o, h) = calmly p32 false d e refl h (split 32 _ _ _ (i, o, refl) (split 32 _ _ _ (i, o, refl) (i, o, refl)))
  told p33 d e (i, o, h) = calmly p33 false d e refl h (grand i o th.grandparent)
  told p34 d e (i, o, h) = calmly p34 false d e refl h (i, o, refl)
  told p35 d e (i, o, h) = placed p35 d e (omega arith) (rw h (at_35 i o))
  told p36 d e (i, o, h) = calmly p36 false d e refl h (i, o, refl)
  told p37 d e (i, o, h) = calmly p37 false d e refl h (i, o, refl)
  told p38 d e (i, o, h) = calmly p38 false d e refl h (rw i (refl, refl))
  told p40 d e h = calmly p40 th.owner d e refl h (on_the_way 40 _ _ _ (ends 40 _) refl)
  told (swap united q) d e h = calmly (swap united q) th.owner d e (apart_united q) h
      (by_united (number (swap united q)) (probe q (r.nodes (r.nodes th.main).neighbour).parent r.nodes r.root (r.nodes th.main).neighbour) (r.nodes th.main))
  told p45 d e h = calmly p45 th.owner d e refl h refl
  told p46 d e h = calmly p46 th.owner d e refl h (at_46 (r.nodes th.main).grandparent (r.nodes th.main))
  told p47 d e h = calmly p47 th.owner d e refl h (at_47 47 true (r.nodes th.main).grandparent (r.nodes th.main))
  told p48 d e h = calmly p48 th.owner d e refl h (at_48 (r.nodes th.main).grandparent (r.nodes th.main))
  told p49 d e h = calmly p49 th.owner d e refl h (at_47 49 false (r.nodes th.main).grandparent (r.nodes th.main))
  told p50 d e h = calmly p50 th.owner d e refl h (at_50 (r.nodes th.main).grandparent)
  told p51 d e h = calmly p51 th.owner d e refl h (ends 51 _)
  told p60 d e h = calmly p60 false d e refl h (at_60 r th)
  told p61 d e h = calmly p61 false d e refl h (at_61 r th)
  told p62 d e h = calmly p62 false d e refl h (at_62 r th)
  told (swap opening q) d e h = calmly (swap opening q) false d e (apart_opening q) h (at_opening r th (number (swap opening q)) q)
  told p70 d e h = calmly p70 false d e refl h (at_70 r th)
  told p71 d e h = calmly p71 false d e refl h (at_71 r th)
  told p72 d e h = calmly p72 false d e refl h (at_72 r th)
  told p73 d e h = calmly p73 false d e refl h (at_73 r th)
  told p74 d e h = calmly p74 false d e refl h (at_74 r th)
  told p76 d e h = calmly p76 false d e refl h (at_76 r th)
  told (swap next q) d e h = calmly (swap next q) false d e (apart_next q) h (at_next r th (number (swap next q)) q)
  told p81 d e h = calmly p81 false d e refl h (at_81 r th)
  told p82 d e h = calmly p82 false d e refl h (at_82 r th)
