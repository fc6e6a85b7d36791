-- The writer's places put together: each turn keeps `Mine`, no comparison fails, no main is aborted, an update is brief.
use Rattle.std.specs.Prelude.{Option, Some, None}
use mathlib.Core.Path.{◌≡◌, refl, sym, ◌∙◌, ap, subst}
use mathlib.Core.Logic.{◌≢◌}
use mathlib.Core.Bool.{Bool, true, false, not, true≢false, false≢true}
use Prim.Native.Nat.{ℕ, suc, ◌≤◌}
use native.Mathlib.Omega.{arith}
use borrow.Author.Tests.{eq-eqb}
use Rattle.definitions.specs.declared.Stage.TheVariants.{Aborted}
use Rattle.definitions.specs.declared.Action.TheVariants.{Join}
use Rattle.definitions.specs.declared.Quarter.{Quarter}
use Rattle.definitions.specs.declared.Quarter.TheVariants.{ReadLeft, SwapLeft, ReadRight, SwapRight}
use Rattle.definitions.specs.declared.Probe.{Probe}
use Rattle.definitions.specs.Threads.{Thread}
use Rattle.definitions.specs.Nodes.{is_preparing, shape}
use Rattle.definitions.specs.Bench.{sight_of, Store, Bench}
use Rattle.definitions.specs.Places.{Place, nowhere, p1, p2, p3, p4, p5, p15, p16, p19, p20, p21, p22, p23, p24, p25, p30, p31}
use Rattle.definitions.specs.Places.{p32, p33, p34, p35, p36, p37, p38, p40, p45, p46, p47, p48, p49, p50, p51, p60, p61, p62, p70}
use Rattle.definitions.specs.Places.{p71, p72, p73, p74, p76, p81, p82, swap, own, found, united, opening, next as next_of}
use Rattle.definitions.specs.Steps.{step, is_nil}
use Rattle.definitions.specs.Records.{is_idle}
use Rattle.profile.specs.Claim.{missed, grand_taken, root_lost, side_lost, mark_lost, compares, fails, updates}
use Rattle.answers.proofs.Memory.{Hist, kid_at}
use Rattle.answers.proofs.Invariant.{Inv, Stands}
use Rattle.answers.proofs.ReadPlaces.{know_now}
use Rattle.answers.proofs.Descent.{reached_depth}
use Rattle.profile.proofs.Mine.{steps_left, Probed, struck, onward, probed, Over, OnSide, Close, Mine}
use Rattle.profile.proofs.EarlyPlaces.{OkTurn, mem, at_1, at_2, at_3, at_own, at_20, at_21, at_22, at_23, at_24}
use Rattle.profile.proofs.JoinPlaces.{at_25, at_found_lem, at_30, at_31, at_32, at_33, at_34, at_35, free_30, free_33}
use Rattle.profile.proofs.ClosePlaces.{names_it, at_40, at_united, at_45, at_46, at_47, at_48, at_49, at_50, at_51}

not_missed : {s : Store} {x : ℕ} {q : Quarter} (p : Probe) → Probed s x q p → missed p ≡ false
not_missed _ (struck v o) = refl
not_missed _ (onward q' v o h l) = refl

one_left : (q : Quarter) → 1 ≤ steps_left q
one_left ReadLeft = omega arith
one_left SwapLeft = omega arith
one_left ReadRight = omega arith
one_left SwapRight = omega arith

-- no main is aborted
pub upright : (p : Place) (s : Store) (th : Thread) (c : ℕ) → Mine p s th c → (x : ℕ) → (s.nodes x).stage ≢ Aborted
upright nowhere s th c m = m.upright
upright p1 s th c m = m.0.upright
upright p2 s th c m = m.0.upright
upright p3 s th c m = m.0.upright
upright (swap own q) s th c m = m.0.upright
upright p4 s th c m = absurd m
upright p5 s th c m = absurd m
upright p15 s th c m = absurd m
upright p16 s th c m = absurd m
upright p19 s th c m = absurd m
upright p20 s th c m = m.1.quiet.upright
upright p21 s th c m = m.quiet.upright
upright p22 s th c m = m.quiet.upright
upright p23 s th c m = m.0.quiet.upright
upright p24 s th c m = m.0.quiet.upright
upright p25 s th c m = m.0.quiet.upright
upright (swap found q) s th c m = m.0.tidy.upright
upright p30 s th c m = m.0.tidy.upright
upright p31 s th c m = m.0.tidy.upright
upright p32 s th c m = m.0.tidy.upright
upright p33 s th c m = m.0.tidy.upright
upright p34 s th c m = m.0.tidy.upright
upright p35 s th c m = m.0.tidy.upright
upright p36 s th c m = absurd m
upright p37 s th c m = absurd m
upright p38 s th c m = absurd m
upright p40 s th c m = m.1.tidy.upright
upright (swap united q) s th c m = m.1.tidy.upright
upright p45 s th c m = m.1.tidy.upright
upright p46 s th c m = m.1.tidy.upright
upright p47 s th c m = m.2.tidy.upright
upright p48 s th c m = m.2.tidy.upright
upright p49 s th c m = m.2.tidy.upright
upright p50 s th c m = m.1.tidy.upright
upright p51 s th c m = m.tidy.upright
upright p60 s th c m = absurd m
upright p61 s th c m = absurd m
upright p62 s th c m = absurd m
upright p70 s th c m = absurd m
upright p71 s th c m = absurd m
upright p72 s th c m = absurd m
upright p73 s th c m = absurd m
upright p74 s th c m = absurd m
upright p76 s th c m = absurd m
upright p81 s th c m = absurd m
upright p82 s th c m = absurd m
upright (swap opening q) s th c m = absurd m
upright (swap next_of q) s th c m = absurd m

module _ {b : Bench} {hist : Hist} {now : ℕ} {first : ℕ → Option ℕ} (inv : Inv b hist now first) (c : ℕ) where
  abbrev th : Thread
  th = b.threads 0

  abbrev s : Store
  s = b.store

  busy : Stands b 0 nowhere → is_idle th ≡ false → ⊥
  busy e h = true≢false (sym (eq-eqb _ _ (know_now inv 0 nowhere e).0) ∙ h)

  pub turn : s.stop.on ≡ false → (p : Place) → Stands b 0 p → is_idle th ≡ false → Mine p s th c → OkTurn s th c (step p (sight_of s) th)
  turn off nowhere e h m = absurd (busy e h)
  turn off p1 e h m = at_1 inv c m
  turn off p2 e h m = at_2 inv c off m
  turn off p3 e h m = at_3 inv c off e m
  turn off (swap own q) e h m = at_own inv c q m
  turn off p4 e h m = absurd m
  turn off p5 e h m = absurd m
  turn off p15 e h m = absurd m
  turn off p16 e h m = absurd m
  turn off p19 e h m = absurd m
  turn off p20 e h m = at_20 inv c m
  turn off p21 e h m = at_21 inv c m
  turn off p22 e h m = at_22 inv c m
  turn off p23 e h m = at_23 inv c m
  turn off p24 e h m = at_24 inv c m
  turn off p25 e h m = at_25 inv c e m
  turn off (swap found q) e h m = at_found_lem inv c q m
  turn off p30 e h m = at_30 inv c e m
  turn off p31 e h m = at_31 inv c e m
  turn off p32 e h m = at_32 inv c e m
  turn off p33 e h m = at_33 inv c m
  turn off p34 e h m = at_34 inv c m
  turn off p35 e h m = at_35 inv c m
  turn off p36 e h m = absurd m
  turn off p37 e h m = absurd m
  turn off p38 e h m = absurd m
  turn off p40 e h m = at_40 s th c m
  turn off (swap united q) e h m = at_united s th c q m
  turn off p45 e h m = at_45 s th c m
  turn off p46 e h m = at_46 s th c m
  turn off p47 e h m = at_47 s th c m
  turn off p48 e h m = at_48 s th c m
  turn off p49 e h m = at_49 s th c m
  turn off p50 e h m = at_50 s th c m
  turn off p51 e h m = at_51 s th c m
  turn off p60 e h m = absurd m
  turn off p61 e h m = absurd m
  turn off p62 e h m = absurd m
  turn off p70 e h m = absurd m
  turn off p71 e h m = absurd m
  turn off p72 e h m = absurd m
  turn off p73 e h m = absurd m
  turn off p74 e h m = absurd m
  turn off p76 e h m = absurd m
  turn off p81 e h m = absurd m
  turn off p82 e h m = absurd m
  turn off (swap opening q) e h m = absurd m
  turn off (swap next_of q) e h m = absurd m

  side_found : (d : Bool) (P G : ℕ) → Close s th.action th.owner th.main P → (s.nodes th.main).grandparent ≡ Some G → OnSide s th.main P G d
      → side_lost d (s.nodes th.main).grandparent (shape (s.nodes th.main)) (sight_of s) ≡ false
  side_found d P G k e i = subst (λ z. side_lost d z (shape (s.nodes th.main)) (sight_of s) ≡ false) (sym e) (ap not (names_it (s.nodes th.main).parent P (kid_at d (s.nodes G)) k.parent i.0))

  -- no swap fails
  pub finds : (p : Place) → Stands b 0 p → Mine p s th c → fails p (sight_of s) th ≡ false
  unfolding fails compares
  finds nowhere e m = refl
  finds p1 e m = refl
  finds p2 e m = refl
  finds p3 e m = refl
  finds (swap own q) e (t, v, o, h, n) = not_missed _ (probed s th.base q v o h)
  finds p4 e m = refl
  finds p5 e m = refl
  finds p15 e m = refl
  finds p16 e m = absurd m
  finds p19 e m = refl
  finds p20 e m = refl
  finds p21 e m = ap not (eq-eqb _ _ m.here)
  finds p22 e m = refl
  finds p23 e m = refl
  finds p24 e m = refl
  finds p25 e m = ap not (eq-eqb _ _ m.0.here)
  finds (swap found q) e (k, um, v, o, h, l, ib) = not_missed _ (probed s th.found q v o h)
  finds p30 e m = ap (λ l. not (is_nil l)) (free_30 inv c e m)
  finds p31 e m = refl
  finds p32 e m = refl
  finds p33 e m = subst (λ z. grand_taken z (sight_of s) ≡ false) (sym m.3) (ap (λ l. not (is_nil l)) (free_33 inv c m))
  finds p34 e m = refl
  finds p35 e m = ap (λ l. not (is_preparing l)) m.0.stage
  finds p36 e m = refl
  finds p37 e m = refl
  finds p38 e m = refl
  finds p40 e m = refl
  finds (swap united q) e (P, k, o, v, i, h, ib) = not_missed _ (probed s (s.nodes th.main).neighbour q v i h)
  finds p45 e m = refl
  finds p46 e (P, k, o) = go (s.nodes th.main).grandparent o
    where
      go : (l : Option ℕ) → Over s th.main P l → root_lost l (shape (s.nodes th.main)) (sight_of s) ≡ false
      go None i = ap not (names_it (s.nodes th.main).parent P s.root k.parent i)
      go (Some G) i = refl
  finds p47 e (P, G, k, i, o) = side_found true P G k i o
  finds p48 e (P, G, k, i, o) = side_found false P G k i o
  finds p49 e (P, G, k, i, o) = side_found false P G k i o
  finds p50 e (G, k) = subst (λ z. mark_lost z th.main (sight_of s) ≡ false) (sym k.grand) (ap not (names_it (s.nodes G).mark th.main th.main k.mark refl))
  finds p51 e m = refl
  finds p60 e m = refl
  finds p61 e m = refl
  finds p62 e m = refl
  finds p70 e m = refl
  finds p71 e m = refl
  finds p72 e m = refl
  finds p73 e m = refl
  finds p74 e m = refl
  finds p76 e m = refl
  finds p81 e m = refl
  finds p82 e m = refl
  finds (swap opening q) e m = refl
  finds (swap next_of q) e m = refl

  joins : {n : ℕ} → th.action ≡ Join → updates th.action ≡ true → suc n ≤ 68
  joins e a = absurd (false≢true (sym (ap updates e) ∙ a))

  -- an update takes at most 68 steps
  pub brief : (p : Place) → Stands b 0 p → is_idle th ≡ false → Mine p s th c → updates th.action ≡ true → suc c ≤ 68
  brief nowhere e h m a = absurd (busy e h)
  brief p1 e h m a = omega (arith, m.1)
  brief p2 e h (t, q, n, k) a = omega (arith, reached_depth (mem inv c) q.depth th.route q.lo q.hi q.path)
  brief p3 e h (t, q, n, k) a = omega (arith, reached_depth (mem inv c) q.depth th.base q.lo q.hi q.path)
  brief (swap own q) e h (t, v, o, i, n) a = omega (arith, one_left q)
  brief p4 e h m a = absurd m
  brief p5 e h m a = absurd m
  brief p15 e h m a = absurd m
  brief p16 e h m a = absurd m
  brief p19 e h m a = absurd m
  brief p20 e h m a = joins m.1.act a
  brief p21 e h m a = joins m.act a
  brief p22 e h m a = joins m.act a
  brief p23 e h m a = joins m.0.act a
  brief p24 e h m a = joins m.0.act a
  brief p25 e h m a = joins m.0.act a
  brief (swap found q) e h m a = joins m.0.act a
  brief p30 e h m a = joins m.0.act a
  brief p31 e h m a = joins m.0.act a
  brief p32 e h m a = joins m.0.act a
  brief p33 e h m a = joins m.0.act a
  brief p34 e h m a = joins m.0.act a
  brief p35 e h m a = joins m.0.act a
  brief p36 e h m a = absurd m
  brief p37 e h m a = absurd m
  brief p38 e h m a = absurd m
  brief p40 e h m a = joins m.1.act a
  brief (swap united q) e h m a = joins m.1.act a
  brief p45 e h m a = joins m.1.act a
  brief p46 e h m a = joins m.1.act a
  brief p47 e h m a = joins m.2.act a
  brief p48 e h m a = joins m.2.act a
  brief p49 e h m a = joins m.2.act a
  brief p50 e h m a = joins m.1.act a
  brief p51 e h m a = joins m.act a
  brief p60 e h m a = absurd m
  brief p61 e h m a = absurd m
  brief p62 e h m a = absurd m
  brief p70 e h m a = absurd m
  brief p71 e h m a = absurd m
  brief p72 e h m a = absurd m
  brief p73 e h m a = absurd m
  brief p74 e h m a = absurd m
  brief p76 e h m a = absurd m
  brief p81 e h m a = absurd m
  brief p82 e h m a = absurd m
  brief (swap opening q) e h m a = absurd m
  brief (swap next_of q) e h m a = absurd m
