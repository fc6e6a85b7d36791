-- A step at a place from 60 on writes nothing, a range base or the result of a store. Assumes nothing.
use Rattle.std.specs.Prelude.{Option, Some, None}
use mathlib.Core.Path.{◌≡◌, sym, subst}
use mathlib.Core.Bool.{Bool, true, true≢false}
use mathlib.Core.List.{List, [], ◌∷◌}
use Prim.Native.Nat.{ℕ, ◌≤◌}
use Rattle.container.specs.Choice.{ite}
use Rattle.definitions.specs.declared.Effect.{Effect}
use Rattle.definitions.specs.declared.Effect.TheVariants.{Quiet}
use Rattle.definitions.specs.declared.Node.{Node}
use Rattle.definitions.specs.declared.Probe.{Probe}
use Rattle.definitions.specs.declared.Probe.TheVariants.{Hit, Next, Miss}
use Rattle.definitions.specs.Nodes.{child_for}
use Rattle.definitions.specs.Threads.{Frame, Thread, Turn, Moves, Finishes, Finds, Full, NoStore}
use Rattle.definitions.specs.Frames.{top_of, tail_of, store_of, in_hand, in_frame, found_first}
use Rattle.definitions.specs.Queries.{reached_first, opened_by, reached_next, pop_on, met_by, extended_by, filling, read_out}
use Rattle.definitions.specs.Bench.{Sight}
use Rattle.definitions.specs.Places.{own, found, united, opening, next, Place, nowhere, p1, p2, p3, p4, p5, p15, p16, p19, p20}
use Rattle.definitions.specs.Places.{p21, p22, p23, p24, p25, p30, p31, p32, p33, p34, p35, p36, p37, p38, p40, p45, p46, p47, p48}
use Rattle.definitions.specs.Places.{p49, p50, p51, p60, p61, p62, p70, p71, p72, p73, p74, p76, p81, p82, swap, place_of}
use Rattle.definitions.specs.Steps.{probe, step}
use Rattle.run.specs.Query.{Ranged}
use Rattle.run.proofs.Numbers.{above, above_60, fork, add_moves, back_in_lem, back_moves}

abbrev Ranging : Turn → Type 0
Ranging (Moves th e) = Ranged e
Ranging (Finishes e a) = Unit {0}
Ranging (Finds c) = Unit {0}
Ranging Full = Unit {0}
Ranging NoStore = Unit {0}

either : (c : Bool) (o o' : Turn) → Ranging o → Ranging o' → Ranging (ite c o o')
either = fork Ranging

module _ (s : Sight) (th : Thread) where
  -- in the frame that is carried on
  in_frame_lem : (fs : List Frame) (k : Frame → List Frame → Turn) → ((f : Frame) (gs : List Frame) → Ranging (k f gs)) → Ranging (in_frame fs k)
  in_frame_lem [] k q = tt
  in_frame_lem (f ∷ fs) k q = q f fs

  first : (l : Option ℕ) (b : Node) (f : Frame) (fs : List Frame) → Ranging (found_first l b f fs th)
  first None b f fs = tt
  first (Some k) b f fs = either _ _ _ (add_moves Ranging Quiet b.container f fs th (λ v i. tt)) tt

  reach_first : (x : ℕ) (t : List ℕ) (f : Frame) (fs : List Frame) → Ranging (reached_first s.nodes x t f fs th)
  unfolding reached_first
  reach_first x t f fs = either _ _ _ tt (first f.store (s.nodes x) (in_hand x t f) fs)

  reach_next : (x : ℕ) (f : Frame) (fs : List Frame) → Ranging (reached_next s.nodes x f fs th)
  unfolding reached_next
  reach_next x f fs = either _ _ _ tt tt

  opens : (o : Probe) (b : Node) (f : Frame) (fs : List Frame) → Ranging (opened_by o b s f fs th)
  opens (Hit v) b f fs = either _ _ _ (either _ _ _ (add_moves Ranging _ b.container _ fs th (λ w i. tt)) tt) tt
  opens (Next q) b f fs = tt
  opens Miss b f fs = tt

  extends : (o : Probe) (b : Node) (f : Frame) (fs : List Frame) → Ranging (extended_by o b s f fs th)
  extends (Hit v) b f fs = either _ _ _ (add_moves Ranging _ b.container _ fs th (λ w i. tt)) tt
  extends (Next q) b f fs = tt
  extends Miss b f fs = back_moves Ranging Quiet th (λ v i. tt)

  pops : (t : List ℕ) (f : Frame) (fs : List Frame) → Ranging (pop_on t f fs th)
  pops [] f fs = tt
  pops (x ∷ t) f fs = tt

  meets : (r : Option ℕ) (b : Node) (f : Frame) (fs : List Frame) → Ranging (met_by r b f fs th)
  meets (Some _) b f fs = tt
  meets None b f fs = either _ _ _ (add_moves Ranging Quiet b.container f fs th (λ v i. tt)) tt

  fills : (r : Option ℕ) (f : Frame) → Ranging (filling r f th)
  fills None f = tt
  fills (Some _) f = tt

  reads : (r : Option ℕ) (fs : List Frame) → Ranging (read_out r fs th)
  reads None fs = tt
  reads (Some c) [] = either _ _ _ tt (back_in_lem Ranging [] Quiet th (λ v i. tt))
  reads (Some c) (f ∷ fs) = back_in_lem Ranging (f ∷ fs) Quiet th (λ v i. tt)

  ranging : (p : Place) → above p ≡ true → Ranging (step p s th)
  unfolding step
  ranging nowhere z = tt
  ranging p60 z = in_frame_lem th.frames _ (λ f fs. reach_first s.root [] f fs)
  ranging p61 z = in_frame_lem th.frames _ (λ f fs. reach_first (child_for f.lower (s.nodes (top_of f.stack))) f.stack f fs)
  ranging p62 z = in_frame_lem th.frames _ (λ f fs. either _ _ _ tt (either _ _ _ tt tt))
  ranging (swap opening q) z = in_frame_lem th.frames _ (λ f fs. opens (probe q (s.nodes f.base).parent s.nodes s.root f.base) (s.nodes f.base) f fs)
  ranging p70 z = in_frame_lem th.frames _ (λ f fs. either _ _ _ tt tt)
  ranging p71 z = in_frame_lem th.frames _ (λ f fs. reach_next (s.nodes (top_of f.stack)).right f fs)
  ranging p72 z = in_frame_lem th.frames _ (λ f fs. either _ _ _ tt (pops (tail_of f.stack) f fs))
  ranging p73 z = in_frame_lem th.frames _ (λ f fs. reach_next (s.nodes (top_of f.stack)).left f fs)
  ranging p74 z = in_frame_lem th.frames _ (λ f fs. meets (s.stores (store_of f.store)) (s.nodes f.base) f fs)
  ranging p76 z = in_frame_lem th.frames _ (λ f fs. either _ _ _ tt tt)
  ranging (swap next q) z = in_frame_lem th.frames _ (λ f fs. extends (probe q (s.nodes f.base).parent s.nodes s.root f.base) (s.nodes f.base) f fs)
  ranging p81 z = in_frame_lem th.frames _ (λ f fs. fills (s.stores (store_of f.store)) f)
  ranging p82 z = in_frame_lem th.frames _ (λ f fs. reads (s.stores (store_of f.store)) fs)
  ranging p1 z = absurd (true≢false (sym z))
  ranging p2 z = absurd (true≢false (sym z))
  ranging p3 z = absurd (true≢false (sym z))
  ranging p4 z = absurd (true≢false (sym z))
  ranging p5 z = absurd (true≢false (sym z))
  ranging p15 z = absurd (true≢false (sym z))
  ranging p16 z = absurd (true≢false (sym z))
  ranging p19 z = absurd (true≢false (sym z))
  ranging p20 z = absurd (true≢false (sym z))
  ranging p21 z = absurd (true≢false (sym z))
  ranging p22 z = absurd (true≢false (sym z))
  ranging p23 z = absurd (true≢false (sym z))
  ranging p24 z = absurd (true≢false (sym z))
  ranging p25 z = absurd (true≢false (sym z))
  ranging p30 z = absurd (true≢false (sym z))
  ranging p31 z = absurd (true≢false (sym z))
  ranging p32 z = absurd (true≢false (sym z))
  ranging p33 z = absurd (true≢false (sym z))
  ranging p34 z = absurd (true≢false (sym z))
  ranging p35 z = absurd (true≢false (sym z))
  ranging p36 z = absurd (true≢false (sym z))
  ranging p37 z = absurd (true≢false (sym z))
  ranging p38 z = absurd (true≢false (sym z))
  ranging p40 z = absurd (true≢false (sym z))
  ranging p45 z = absurd (true≢false (sym z))
  ranging p46 z = absurd (true≢false (sym z))
  ranging p47 z = absurd (true≢false (sym z))
  ranging p48 z = absurd (true≢false (sym z))
  ranging p49 z = absurd (true≢false (sym z))
  ranging p50 z = absurd (true≢false (sym z))
  ranging p51 z = absurd (true≢false (sym z))
  ranging (swap own q) z = absurd (true≢false (sym z))
  ranging (swap found q) z = absurd (true≢false (sym z))
  ranging (swap united q) z = absurd (true≢false (sym z))

-- where it goes on
pub ranged : (s : Sight) (th : Thread) (p : ℕ) → 60 ≤ p → {v : Thread} {e : Effect} → Moves v e ≡ step (place_of p) s th → Ranged e
ranged s th p h q = subst (λ (t : Turn). Ranging t) (sym q) (ranging s th (place_of p) (above_60 p h))
