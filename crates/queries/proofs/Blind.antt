-- A step from 60 on sees nothing of the stop (`blind`). Assumes nothing.
use mathlib.Core.Path.{◌≡◌, refl}
use mathlib.Core.List.{List, [], ◌∷◌}
use Prim.Native.Nat.{ℕ, ◌<◌, ◌≤◌}
use native.Mathlib.Omega.{arith}
use native.Mathlib.Decide.{dec_lt}
use Rattle.definitions.specs.declared.Probe.{Probe}
use Rattle.definitions.specs.declared.Probe.TheVariants.{Hit, Next, Miss}
use Rattle.definitions.specs.declared.Node.{Node}
use Rattle.definitions.specs.declared.Stop.{Stop}
use Rattle.definitions.specs.Threads.{Frame, Thread, Turn}
use Rattle.definitions.specs.Nodes.{Shapes, Stores}
use Rattle.definitions.specs.Bench.{Sight, sight}
use Rattle.definitions.specs.Frames.{in_frame}
use Rattle.definitions.specs.Places.{own, found, united, opening, next, number, Place, nowhere, p1, p2, p3, p4, p5, p15, p16, p19}
use Rattle.definitions.specs.Places.{p20, p21, p22, p23, p24, p25, p30, p31, p32, p33, p34, p35, p36, p37, p38, p40, p45, p46, p47}
use Rattle.definitions.specs.Places.{p48, p49, p50, p51, p60, p61, p62, p70, p71, p72, p73, p74, p76, p81, p82, swap, place_of}
use Rattle.definitions.specs.Steps.{probe, opened_by, extended_by, step}
use Rattle.answers.proofs.PlaceNumbers.{number_of}

module _ (n : Shapes) (r u : ℕ) (k : Stores) (j : ℕ) (z z' : Stop) (th : Thread) where
  abbrev s : Sight
  s = sight n r u k j z

  abbrev s' : Sight
  s' = sight n r u k j z'

  opens : (w : Probe) (b : Node) (f : Frame) (fs : List Frame) → opened_by w b s f fs th ≡ opened_by w b s' f fs th
  opens (Hit v) b f fs = refl
  opens (Next q) b f fs = refl
  opens Miss b f fs = refl

  extends : (w : Probe) (b : Node) (f : Frame) (fs : List Frame) → extended_by w b s f fs th ≡ extended_by w b s' f fs th
  extends (Hit v) b f fs = refl
  extends (Next q) b f fs = refl
  extends Miss b f fs = refl

  framed : (fs : List Frame) (g g' : Frame → List Frame → Turn) → ((f : Frame) (l : List Frame) → g f l ≡ g' f l) → in_frame fs g ≡ in_frame fs g'
  framed [] g g' h = refl
  framed (f ∷ fs) g g' h = h f fs

  by_place : (p : Place) → (number p < 60 → number p ≡ 0) → step p s th ≡ step p s' th
  unfolding step
  by_place nowhere l = refl
  by_place p1 l = absurd (omega (arith, l (omega arith)))
  by_place p2 l = absurd (omega (arith, l (omega arith)))
  by_place p3 l = absurd (omega (arith, l (omega arith)))
  by_place p4 l = refl
  by_place p5 l = refl
  by_place p15 l = refl
  by_place p16 l = refl
  by_place p19 l = absurd (omega (arith, l (omega arith)))
  by_place p20 l = refl
  by_place p21 l = refl
  by_place p22 l = refl
  by_place p23 l = refl
  by_place p24 l = refl
  by_place p25 l = refl
  by_place p30 l = refl
  by_place p31 l = refl
  by_place p32 l = refl
  by_place p33 l = refl
  by_place p34 l = refl
  by_place p35 l = refl
  by_place p36 l = refl
  by_place p37 l = refl
  by_place p38 l = refl
  by_place p40 l = refl
  by_place p45 l = refl
  by_place p46 l = refl
  by_place p47 l = refl
  by_place p48 l = refl
  by_place p49 l = refl
  by_place p50 l = refl
  by_place p51 l = refl
  by_place p60 l = refl
  by_place p61 l = refl
  by_place p62 l = refl
  by_place p70 l = refl
  by_place p71 l = refl
  by_place p72 l = refl
  by_place p73 l = refl
  by_place p74 l = refl
  by_place p76 l = refl
  by_place p81 l = refl
  by_place p82 l = refl
  by_place (swap own q) l = refl
  by_place (swap found q) l = refl
  by_place (swap united q) l = refl
  by_place (swap opening q) l = framed th.frames _ _ (λ f fs. opens (probe q (n f.base).parent n r f.base) (n f.base) f fs)
  by_place (swap next q) l = framed th.frames _ _ (λ f fs. extends (probe q (n f.base).parent n r f.base) (n f.base) f fs)

  -- of every number from 60 on, whether it is a place's or not
  pub blind : (p : ℕ) → 60 ≤ p → step (place_of p) s th ≡ step (place_of p) s' th
  blind p l = by_place (place_of p) (λ h. elim (dec_lt 0 (number (place_of p))) [ yes i ↦ absurd (omega (arith, h, number_of p (place_of p) refl i)) | no i ↦ omega arith ])
