-- The places 60 to 82, and the way back from helping, make no change of a split or join, and lead to parts where none is made.
use Rattle.std.specs.Prelude.{Option, Some, None}
use mathlib.Core.Path.{◌≡◌, refl}
use mathlib.Core.Bool.{Bool, true, false, not, false≢true}
use mathlib.Core.List.{List, [], ◌∷◌}
use Prim.Native.Nat.{ℕ}
use lib.Dec.{eqb}
use Rattle.container.specs.Choice.{ite}
use Rattle.container.specs.Container.{cut}
use Rattle.definitions.specs.declared.Node.{Node}
use Rattle.definitions.specs.declared.Action.{Action}
use Rattle.definitions.specs.declared.Action.TheVariants.{Lookup, Insert, Remove, Split, Join, Query}
use Rattle.definitions.specs.declared.Effect.{Effect}
use Rattle.definitions.specs.declared.Quarter.{Quarter}
use Rattle.definitions.specs.declared.Probe.{Probe}
use Rattle.definitions.specs.declared.Probe.TheVariants.{Hit, Next, Miss}
use Rattle.definitions.specs.Threads.{Frame, Thread, Turn}
use Rattle.definitions.specs.Bench.{Sight}
use Rattle.definitions.specs.Places.{opening, next, swap, p60, p61, p62, p70, p71, p72, p73, p74, p76, p81, p82}
use Rattle.definitions.specs.Frames.{between, tail_of, store_of, in_frame, next_from, adding, found_first, back_in, back}
use Rattle.definitions.specs.Steps.{probe, is_query, reached_first, reached_next, opened_by, extended_by, pop_on, met_by, filling, leaving, read_out, step}
use Rattle.definitions.specs.Answers.{said}
use Rattle.definitions.specs.Reasons.{Reason}
use Rattle.answers.proofs.PlaceNumbers.{place_number}
use Rattle.answers.proofs.ReasonParts.{Told, either, one_of}

module _ (s : Sight) (th : Thread) where
  -- a step at place n where no change has been made
  abbrev pub Free : ℕ → Turn → Type 0
  Free n o = Told th n (λ _. false) o

  pub fork : (n : ℕ) (c : Bool) (o o' : Turn) → Free n o → Free n o' → Free n (ite c o o')
  fork n c o o' p q = either th n (λ _. false) c o o' (λ _. p) (λ _. q)

  nexted : (n : ℕ) (l : List ℕ) (e : Effect) (f : Frame) (fs : List Frame) → Free n (next_from l e f fs th)
  nexted n [] e f fs = refl
  nexted n (x ∷ []) e f fs = refl
  nexted n (x ∷ y ∷ l) e f fs = refl

  backed : (n : ℕ) (fs : List Frame) (e : Effect) → Free n (back_in fs e th)
  backed n [] e = refl
  backed n (f ∷ fs) e = fork n _ _ _ (nexted n f.backup e f fs) refl

  pub goes_back : (n : ℕ) (e : Effect) → Free n (back e th)
  unfolding back
  goes_back n e = backed n th.frames e

  added : (n : ℕ) (e : Effect) (c : ℕ) (f : Frame) (fs : List Frame) → Free n (adding e c f fs th)
  unfolding adding
  added n e c f fs = fork n _ _ _ refl (nexted n f.stack e _ fs)

  first_found : (n : ℕ) (l : Option ℕ) (b : Node) (f : Frame) (fs : List Frame) → Free n (found_first l b f fs th)
  first_found n None b f fs = refl
  first_found n (Some k) b f fs = fork n _ _ _ (added n _ _ _ fs) refl

  first_reached : (n x : ℕ) (l : List ℕ) (f : Frame) (fs : List Frame) → Free n (reached_first s.nodes x l f fs th)
  unfolding reached_first
  first_reached n x l f fs = fork n _ _ _ refl (first_found n f.store (s.nodes x) _ fs)

  next_reached : (n x : ℕ) (f : Frame) (fs : List Frame) → Free n (reached_next s.nodes x f fs th)
  unfolding reached_next
  next_reached n x f fs = fork n _ _ _ refl refl

  popped : (l : List ℕ) (f : Frame) (fs : List Frame) → Free 72 (pop_on l f fs th)
  popped [] f fs = refl
  popped (x ∷ l) f fs = refl

  met : (v : Option ℕ) (b : Node) (f : Frame) (fs : List Frame) → Free 74 (met_by v b f fs th)
  met (Some c) b f fs = refl
  met None b f fs = fork 74 _ _ _ (added 74 _ _ _ fs) refl

  fills : (v : Option ℕ) (f : Frame) → Free 81 (filling v f th)
  fills None f = refl
  fills (Some c) f = refl

  -- a query says no or yes
  finds : (a : Action) (v : Bool) → is_query a ≡ true → Reason a 82 false (said v)
  finds Lookup v h = one_of v
  finds Insert v h = one_of v
  finds Remove v h = one_of v
  finds Split v h = absurd (false≢true h)
  finds Join v h = absurd (false≢true h)
  finds Query v h = one_of v

  left : (fs : List Frame) (r : ℕ) → Free 82 (leaving fs r th)
  left [] r = either th 82 (λ _. false) _ _ _ (λ e. finds th.action (not (eqb (cut r (between th.station th.extra)) 0)) e) (λ _. refl)
  left (f ∷ fs) r = backed 82 (f ∷ fs) _

  read_out_lem : (v : Option ℕ) (fs : List Frame) → Free 82 (read_out v fs th)
  read_out_lem None fs = tt
  read_out_lem (Some r) fs = left fs r

  by_opening : (n : ℕ) (o : Probe) (b : Node) (f : Frame) (fs : List Frame) → Free n (opened_by o b s f fs th)
  by_opening n (Hit v) b f fs = fork n _ _ _ (fork n _ _ _ (added n _ _ _ fs) tt) tt
  by_opening n (Next q) b f fs = rw (place_number (swap opening q)) refl
  by_opening n Miss b f fs = refl

  by_next : (n : ℕ) (o : Probe) (b : Node) (f : Frame) (fs : List Frame) → Free n (extended_by o b s f fs th)
  by_next n (Hit v) b f fs = fork n _ _ _ (added n _ _ _ fs) tt
  by_next n (Next q) b f fs = rw (place_number (swap next q)) refl
  by_next n Miss b f fs = goes_back n _

  in_frame_lem : (n : ℕ) (fs : List Frame) (k : Frame → List Frame → Turn) → ((f : Frame) (gs : List Frame) → Free n (k f gs)) → Free n (in_frame fs k)
  in_frame_lem n [] k h = tt
  in_frame_lem n (f ∷ fs) k h = h f fs

  -- ---- the places

  pub at_60 : Free 60 (step p60 s th)
  unfolding step
  at_60 = in_frame_lem 60 th.frames _ (λ f fs. first_reached 60 s.root [] f fs)

  pub at_61 : Free 61 (step p61 s th)
  unfolding step
  at_61 = in_frame_lem 61 th.frames _ (λ f fs. first_reached 61 _ f.stack f fs)

  pub at_62 : Free 62 (step p62 s th)
  unfolding step
  at_62 = in_frame_lem 62 th.frames _ (λ f fs. fork 62 _ _ _ refl (fork 62 _ _ _ refl refl))

  pub at_opening : (n : ℕ) (q : Quarter) → Free n (step (swap opening q) s th)
  unfolding step
  at_opening n q = in_frame_lem n th.frames _ (λ f fs. by_opening n (probe q (s.nodes f.base).parent s.nodes s.root f.base) (s.nodes f.base) f fs)

  pub at_70 : Free 70 (step p70 s th)
  unfolding step
  at_70 = in_frame_lem 70 th.frames _ (λ f fs. fork 70 _ _ _ refl refl)

  pub at_71 : Free 71 (step p71 s th)
  unfolding step
  at_71 = in_frame_lem 71 th.frames _ (λ f fs. next_reached 71 _ f fs)

  pub at_72 : Free 72 (step p72 s th)
  unfolding step
  at_72 = in_frame_lem 72 th.frames _ (λ f fs. fork 72 _ _ _ refl (popped (tail_of f.stack) f fs))

  pub at_73 : Free 73 (step p73 s th)
  unfolding step
  at_73 = in_frame_lem 73 th.frames _ (λ f fs. next_reached 73 _ f fs)

  pub at_74 : Free 74 (step p74 s th)
  unfolding step
  at_74 = in_frame_lem 74 th.frames _ (λ f fs. met (s.stores (store_of f.store)) (s.nodes f.base) f fs)

  pub at_76 : Free 76 (step p76 s th)
  unfolding step
  at_76 = in_frame_lem 76 th.frames _ (λ f fs. fork 76 _ _ _ refl refl)

  pub at_next : (n : ℕ) (q : Quarter) → Free n (step (swap next q) s th)
  unfolding step
  at_next n q = in_frame_lem n th.frames _ (λ f fs. by_next n (probe q (s.nodes f.base).parent s.nodes s.root f.base) (s.nodes f.base) f fs)

  pub at_81 : Free 81 (step p81 s th)
  unfolding step
  at_81 = in_frame_lem 81 th.frames _ (λ f fs. fills (s.stores (store_of f.store)) f)

  pub at_82 : Free 82 (step p82 s th)
  unfolding step
  at_82 = in_frame_lem 82 th.frames _ (λ f fs. read_out_lem (s.stores (store_of f.store)) fs)
