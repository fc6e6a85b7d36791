-- Failing is exactly the way out that 01 names: where a comparison fails the step is that way out, and where it does not fail the step is another.
-- Of every place, store and thread; but a query has no step at 10 to 13. Assumes nothing.
use Rattle.std.specs.Prelude.{Option, Some, None}
use Prim.Native.Nat.{ℕ, ◌+◌, ◌≤◌}
use mathlib.Core.Path.{◌≡◌, refl, sym, ◌∙◌, ap}
use mathlib.Core.Logic.{◌≢◌}
use mathlib.Core.Bool.{Bool, true, false, not, false≢true}
use mathlib.Core.List.{List, [], ◌∷◌}
use native.Mathlib.Omega.{arith}
use lib.Dec.{leb}
use Rattle.container.specs.Choice.{ite}
use Rattle.definitions.specs.declared.Stage.TheVariants.{Aborted}
use Rattle.definitions.specs.declared.Quarter.{Quarter}
use Rattle.definitions.specs.declared.Quarter.TheVariants.{ReadLeft, SwapLeft, ReadRight, SwapRight}
use Rattle.definitions.specs.declared.Probe.{Probe}
use Rattle.definitions.specs.declared.Probe.TheVariants.{Hit, Next, Miss}
use Rattle.definitions.specs.declared.Spot.{Spot}
use Rattle.definitions.specs.declared.Effect.{Effect}
use Rattle.definitions.specs.declared.Effect.TheVariants.{Quiet, Mark, Settle, Invalid, Swing, Raise, Lower, Base, Fork, Commit, Ask, Fill}
use Rattle.definitions.specs.Threads.{Frame, Thread, Turn, Moves, Finishes, Finds, Full, NoStore}
use Rattle.definitions.specs.Frames.{next_from, back_in, back}
use Rattle.definitions.specs.declared.Node.{Node}
use Rattle.definitions.specs.declared.Action.{Action}
use Rattle.definitions.specs.declared.Action.TheVariants.{Lookup, Insert, Remove, Split, Join, Query}
use Rattle.definitions.specs.Bench.{Sight}
use Rattle.definitions.specs.Places.{nowhere, p1, p2, p3, p4, p5, p15, p16, p19, p20, p21, p22, p23, p24, p25, p30, p31, p32, p33, p34}
use Rattle.definitions.specs.Places.{p35, p36, p37, p38, p40, p45, p46, p47, p48, p49, p50, p51, p60, p61, p62, p70, p71, p72, p73, p74}
use Rattle.definitions.specs.Places.{p76, p81, p82, swap, own, found, united, opening, next as next_of, quarter_number, at, at_frames}
use Rattle.definitions.specs.Steps.{goes, room, lost_as, lost, back_out, probe, replaced_as, replaced, own_by, found_by, united_by, grand_marking, names, cut_at, cut_on, cut_right, freeing, step}
use Rattle.profile.specs.Claim.{missed, grand_taken, root_lost, side_lost, mark_lost, cut_to, compares, fails, FailsExactly}

-- ---- steps told apart: where they lead to, and whether they write

-- the place that a step leads to, 52 and 54 where it finishes, 53 and 55 where it is refused
leads : Turn → ℕ
leads (Moves th e) = th.place
leads (Finishes e a) = 52
leads (Finds r) = 54
leads Full = 53
leads NoStore = 55

writes : Effect → ℕ
writes Quiet = 0
writes (Mark r l) = 1
writes (Settle m v) = 1
writes (Invalid r) = 1
writes (Swing v x) = 1
writes Raise = 1
writes Lower = 1
writes (Base v x k p c m) = 1
writes (Fork v x l r k y) = 1
writes (Commit m x p n g o) = 1
writes (Ask v x p y l h k new) = 1
writes (Fill k c) = 1

wrote : Turn → ℕ
wrote (Moves th e) = writes e
wrote (Finishes e a) = writes e
wrote (Finds r) = 0
wrote Full = 0
wrote NoStore = 0

abbrev Apart : Turn → Turn → Type 0
Apart o o' = o ≡ o' → ⊥

-- what a way back writes
next_wrote : (l : List ℕ) (e : Effect) (f : Frame) (fs : List Frame) (th : Thread) → wrote (next_from l e f fs th) ≡ writes e
unfolding wrote
next_wrote [] e f fs th = refl
next_wrote (x ∷ []) e f fs th = refl
next_wrote (x ∷ y ∷ l) e f fs th = refl

back_wrote : (fs : List Frame) (e : Effect) (th : Thread) → wrote (back_in fs e th) ≡ writes e
unfolding wrote ite
back_wrote [] e th = refl
back_wrote (f ∷ fs) e th = by f.begun
  where
    by : (c : Bool) → wrote (ite c (next_from f.backup e f fs th) (Moves (at_frames p60 (f ∷ fs) th) e)) ≡ writes e
    by true = next_wrote f.backup e f fs th
    by false = refl

-- where there is room for new nodes or not
with_room : (k used : ℕ) (o out : Turn) → Apart o out → Apart Full out → Apart (room k used o) out
unfolding ite
with_room k used o out h f = by (leb (used + k) 256)
  where
    by : (c : Bool) → Apart (ite c o Full) out
    by true = h
    by false = f

-- ---- a test: where it fails the step is the way out

abbrev Exactly : Bool → Turn → Turn → Type 0
Exactly f o out = (f ≡ true → o ≡ out) × (o ≡ out → f ≡ true)

tested : (c : Bool) (o out : Turn) → Apart o out → Exactly (not c) (ite c o out) out
unfolding ite
tested true o out h = ((λ e. absurd (false≢true e)), λ e. absurd (h e))
tested false o out h = ((λ _. refl), λ _. refl)

always : (out : Turn) → Exactly true out out
always out = ((λ _. refl), λ _. refl)

never : (o out : Turn) → Apart o out → Exactly false o out
never o out h = ((λ e. absurd (false≢true e)), λ e. absurd (h e))

-- wherever there is a step
anyway : (H : Type 0) {f : Bool} {o out : Turn} → Exactly f o out → (f ≡ true → o ≡ out) × (H → o ≡ out → f ≡ true)
anyway H (a, b) = (a, λ _. b)

-- ---- the four-step swaps

early : (q : Quarter) → quarter_number q ≤ 3
early ReadLeft = omega arith
early SwapLeft = omega arith
early ReadRight = omega arith
early SwapRight = omega arith

module _ (s : Sight) (th : Thread) where
  own_hit : (a : Action) (v : Spot) (b : Node) → a ≢ Query → Apart (replaced_as a v b s.used th) (lost_as a th)
  unfolding leads wrote writes
  own_hit Lookup v b _ = λ e. omega (arith, ap leads e)
  own_hit Insert v b _ = with_room 1 s.used _ _ (λ e. omega (arith, ap wrote e)) (λ e. omega (arith, ap leads e))
  own_hit Remove v b _ = with_room 1 s.used _ _ (λ e. omega (arith, ap wrote e)) (λ e. omega (arith, ap leads e))
  own_hit Split v b _ = with_room 3 s.used _ _ (λ e. omega (arith, ap wrote e)) (λ e. omega (arith, ap leads e))
  own_hit Join v b _ = λ e. omega (arith, ap leads e)
  own_hit Query v b h = absurd (h refl)

  own_next : (a : Action) (q : Quarter) → Apart (goes (at (swap own q) th)) (lost_as a th)
  unfolding leads
  own_next Lookup q = λ e. omega (arith, ap leads e, early q)
  own_next Insert q = λ e. omega (arith, ap leads e, early q)
  own_next Remove q = λ e. omega (arith, ap leads e, early q)
  own_next Split q = λ e. omega (arith, ap leads e, early q)
  own_next Join q = λ e. omega (arith, ap leads e, early q)
  own_next Query q = λ e. omega (arith, ap leads e, early q)

  own_out : (p : Probe) → (missed p ≡ true → own_by p (s.nodes th.base) s.used th ≡ lost th)
      × (th.action ≢ Query → own_by p (s.nodes th.base) s.used th ≡ lost th → missed p ≡ true)
  unfolding lost replaced
  own_out (Hit v) = ((λ e. absurd (false≢true e)), λ h e. absurd (own_hit th.action v (s.nodes th.base) h e))
  own_out (Next q) = ((λ e. absurd (false≢true e)), λ h e. absurd (own_next th.action q e))
  own_out Miss = ((λ _. refl), λ _ _. refl)

  found_out : (p : Probe) → Exactly (missed p) (found_by p (s.nodes th.found) s.used th) (goes (at p38 th))
  unfolding leads wrote writes
  found_out (Hit v) = never _ _ (with_room 1 s.used _ _ (λ e. omega (arith, ap leads e)) (λ e. omega (arith, ap leads e)))
  found_out (Next q) = never _ _ (λ e. omega (arith, ap leads e, early q))
  found_out Miss = always _

  united_out : (p : Probe) → Exactly (missed p) (united_by p (s.nodes th.main) th) (goes (at p45 th))
  unfolding leads wrote writes
  united_out (Hit v) = never _ _ (λ e. omega (arith, ap wrote e))
  united_out (Next q) = never _ _ (λ e. omega (arith, ap leads e, early q))
  united_out Miss = always _

  -- ---- 33 to 50

  grand_out : (l : Option ℕ) → Exactly (grand_taken l s) (grand_marking l s.nodes th) (goes (at p37 th))
  unfolding leads
  grand_out None = always _
  grand_out (Some g) = tested _ _ _ (λ e. omega (arith, ap leads e))

  back_apart : (l : Option ℕ) (o : Turn) → (leads o ≡ 36 → ⊥) → (leads o ≡ 37 → ⊥) → Apart o (goes (at (back_out l) th))
  unfolding leads
  back_apart None o a b = λ e. b (ap leads e)
  back_apart (Some g) o a b = λ e. a (ap leads e)

  -- 46 reads the grandparent's left
  left_read : (c : Bool) → Apart (ite c (goes (at p47 th)) (goes (at p48 th))) (goes (at p51 th))
  unfolding leads ite
  left_read true = λ e. omega (arith, ap leads e)
  left_read false = λ e. omega (arith, ap leads e)

  root_out : (l : Option ℕ) (m : Node) → Exactly (root_lost l m s) (cut_at l m s.nodes s.root th) (goes (at p51 th))
  unfolding wrote writes
  root_out None m = tested _ _ _ (λ e. omega (arith, ap wrote e))
  root_out (Some g) m = never _ _ (left_read (names m.parent (s.nodes g).left))

  side_out : (d : Bool) (l : Option ℕ) (m : Node) → Exactly (side_lost d l m s) (cut_on d l m s.nodes th) (goes (at (cut_to l) th))
  unfolding wrote writes
  side_out d None m = always _
  side_out d (Some g) m = tested _ _ _ (λ e. omega (arith, ap wrote e))

  right_out : (l : Option ℕ) (m : Node) → Exactly (side_lost false l m s) (cut_right l m s.nodes th) (goes (at (cut_to l) th))
  unfolding leads
  right_out None m = always _
  right_out (Some g) m = tested _ _ _ (λ e. omega (arith, ap leads e))

  mark_out : (l : Option ℕ) → Exactly (mark_lost l th.main s) (freeing l s.nodes th) (goes (at p51 th))
  unfolding wrote writes
  mark_out None = always _
  mark_out (Some g) = tested _ _ _ (λ e. omega (arith, ap wrote e))

-- ---- every place

pub fails_exactly : FailsExactly
unfolding step compares fails leads wrote writes back
fails_exactly (swap own q) s th = let (a, b) = own_out s th (probe q (s.nodes th.base).parent s.nodes s.root th.base) in (a, λ h. b (h q refl))
fails_exactly p16 s th = anyway _ (tested _ _ _ (λ e. omega (arith, sym (back_wrote th.frames (Settle th.main Aborted) th) ∙ ap wrote e ∙ back_wrote th.frames Quiet th)))
fails_exactly p21 s th = anyway _ (tested _ _ _ (λ e. omega (arith, ap leads e)))
fails_exactly p25 s th = anyway _ (tested _ _ _ (with_room 1 s.used _ _ (λ e. omega (arith, ap leads e)) (λ e. omega (arith, ap leads e))))
fails_exactly (swap found q) s th = anyway _ (found_out s th (probe q (s.nodes th.found).parent s.nodes s.root th.found))
fails_exactly p30 s th = anyway _ (tested _ _ _ (λ e. omega (arith, ap leads e)))
fails_exactly p33 s th = anyway _ (grand_out s th th.grandparent)
fails_exactly p35 s th =
    anyway _ (tested _ _ _ (with_room 1 s.used _ _ (back_apart s th th.grandparent _ (λ e. omega arith) (λ e. omega arith)) (back_apart s th th.grandparent _ (λ e. omega arith) (λ e. omega arith))))
fails_exactly (swap united q) s th = anyway _ (united_out s th (probe q (s.nodes (s.nodes th.main).neighbour).parent s.nodes s.root (s.nodes th.main).neighbour))
fails_exactly p46 s th = anyway _ (root_out s th (s.nodes th.main).grandparent (s.nodes th.main))
fails_exactly p47 s th = anyway _ (side_out s th true (s.nodes th.main).grandparent (s.nodes th.main))
fails_exactly p48 s th = anyway _ (right_out s th (s.nodes th.main).grandparent (s.nodes th.main))
fails_exactly p49 s th = anyway _ (side_out s th false (s.nodes th.main).grandparent (s.nodes th.main))
fails_exactly p50 s th = anyway _ (mark_out s th (s.nodes th.main).grandparent)
fails_exactly nowhere s th = ((λ e. absurd (false≢true e)), λ _ o. absurd o)
fails_exactly p1 s th = ((λ e. absurd (false≢true e)), λ _ o. absurd o)
fails_exactly p2 s th = ((λ e. absurd (false≢true e)), λ _ o. absurd o)
fails_exactly p3 s th = ((λ e. absurd (false≢true e)), λ _ o. absurd o)
fails_exactly p4 s th = ((λ e. absurd (false≢true e)), λ _ o. absurd o)
fails_exactly p5 s th = ((λ e. absurd (false≢true e)), λ _ o. absurd o)
fails_exactly p15 s th = ((λ e. absurd (false≢true e)), λ _ o. absurd o)
fails_exactly p19 s th = ((λ e. absurd (false≢true e)), λ _ o. absurd o)
fails_exactly p20 s th = ((λ e. absurd (false≢true e)), λ _ o. absurd o)
fails_exactly p22 s th = ((λ e. absurd (false≢true e)), λ _ o. absurd o)
fails_exactly p23 s th = ((λ e. absurd (false≢true e)), λ _ o. absurd o)
fails_exactly p24 s th = ((λ e. absurd (false≢true e)), λ _ o. absurd o)
fails_exactly p31 s th = ((λ e. absurd (false≢true e)), λ _ o. absurd o)
fails_exactly p32 s th = ((λ e. absurd (false≢true e)), λ _ o. absurd o)
fails_exactly p34 s th = ((λ e. absurd (false≢true e)), λ _ o. absurd o)
fails_exactly p36 s th = ((λ e. absurd (false≢true e)), λ _ o. absurd o)
fails_exactly p37 s th = ((λ e. absurd (false≢true e)), λ _ o. absurd o)
fails_exactly p38 s th = ((λ e. absurd (false≢true e)), λ _ o. absurd o)
fails_exactly p40 s th = ((λ e. absurd (false≢true e)), λ _ o. absurd o)
fails_exactly p45 s th = ((λ e. absurd (false≢true e)), λ _ o. absurd o)
fails_exactly p51 s th = ((λ e. absurd (false≢true e)), λ _ o. absurd o)
fails_exactly p60 s th = ((λ e. absurd (false≢true e)), λ _ o. absurd o)
fails_exactly p61 s th = ((λ e. absurd (false≢true e)), λ _ o. absurd o)
fails_exactly p62 s th = ((λ e. absurd (false≢true e)), λ _ o. absurd o)
fails_exactly p70 s th = ((λ e. absurd (false≢true e)), λ _ o. absurd o)
fails_exactly p71 s th = ((λ e. absurd (false≢true e)), λ _ o. absurd o)
fails_exactly p72 s th = ((λ e. absurd (false≢true e)), λ _ o. absurd o)
fails_exactly p73 s th = ((λ e. absurd (false≢true e)), λ _ o. absurd o)
fails_exactly p74 s th = ((λ e. absurd (false≢true e)), λ _ o. absurd o)
fails_exactly p76 s th = ((λ e. absurd (false≢true e)), λ _ o. absurd o)
fails_exactly p81 s th = ((λ e. absurd (false≢true e)), λ _ o. absurd o)
fails_exactly p82 s th = ((λ e. absurd (false≢true e)), λ _ o. absurd o)
fails_exactly (swap opening q) s th = ((λ e. absurd (false≢true e)), λ _ o. absurd o)
fails_exactly (swap next_of q) s th = ((λ e. absurd (false≢true e)), λ _ o. absurd o)
