-- Which places have numbers below 60, and which from 60 on; that a step that goes on or back writes what it was to write and keeps the number
-- of frames; the numbers of a match's last arm. Assumes nothing.
use mathlib.Core.Path.{◌≡◌, refl, sym, ap, ◌∙◌}
use mathlib.Core.Bool.{Bool, true, false, ◌&&◌, true≢false}
use mathlib.Core.List.{List, [], ◌∷◌}
use mathlib.Core.Logic.{inl, inr}
use Prim.Native.Nat.{ℕ, zero, suc, ◌+◌, ◌-◌, ◌<◌, ◌≤◌}
use native.Mathlib.Omega.{arith}
use borrow.Author.Tests.{ltb-true}
use types.Run.{OneOf}
use lib.Dec.{ltb}
use lib.ListN.{length, get_or, drop}
use Rattle.container.specs.Choice.{ite}
use Rattle.definitions.specs.declared.Effect.{Effect}
use Rattle.definitions.specs.Threads.{Frame, Thread, Turn, Moves}
use Rattle.definitions.specs.Frames.{adds, next_from, adding, back_in, back}
use Rattle.definitions.specs.Places.{own, found, united, opening, next, Place, nowhere, p1, p2, p3, p4, p5, p15, p16, p19, p20, p21}
use Rattle.definitions.specs.Places.{p22, p23, p24, p25, p30, p31, p32, p33, p34, p35, p36, p37, p38, p40, p45, p46, p47, p48, p49}
use Rattle.definitions.specs.Places.{p50, p51, p60, p61, p62, p70, p71, p72, p73, p74, p76, p81, p82, swap, places, place_of}

-- ---- which place a number names

-- a place with a number below 60, or none
abbrev pub below : Place → Bool
below nowhere = true
below p1 = true
below p2 = true
below p3 = true
below p4 = true
below p5 = true
below p15 = true
below p16 = true
below p19 = true
below p20 = true
below p21 = true
below p22 = true
below p23 = true
below p24 = true
below p25 = true
below p30 = true
below p31 = true
below p32 = true
below p33 = true
below p34 = true
below p35 = true
below p36 = true
below p37 = true
below p38 = true
below p40 = true
below p45 = true
below p46 = true
below p47 = true
below p48 = true
below p49 = true
below p50 = true
below p51 = true
below p60 = false
below p61 = false
below p62 = false
below p70 = false
below p71 = false
below p72 = false
below p73 = false
below p74 = false
below p76 = false
below p81 = false
below p82 = false
below (swap own q) = true
below (swap found q) = true
below (swap united q) = true
below (swap opening q) = false
below (swap next q) = false

-- a place with a number from 60 on, or none
abbrev pub above : Place → Bool
above nowhere = true
above p1 = false
above p2 = false
above p3 = false
above p4 = false
above p5 = false
above p15 = false
above p16 = false
above p19 = false
above p20 = false
above p21 = false
above p22 = false
above p23 = false
above p24 = false
above p25 = false
above p30 = false
above p31 = false
above p32 = false
above p33 = false
above p34 = false
above p35 = false
above p36 = false
above p37 = false
above p38 = false
above p40 = false
above p45 = false
above p46 = false
above p47 = false
above p48 = false
above p49 = false
above p50 = false
above p51 = false
above p60 = true
above p61 = true
above p62 = true
above p70 = true
above p71 = true
above p72 = true
above p73 = true
above p74 = true
above p76 = true
above p81 = true
above p82 = true
above (swap own q) = false
above (swap found q) = false
above (swap united q) = false
above (swap opening q) = true
above (swap next q) = true

-- the first n of a list of places pass a test
abbrev passes : (Place → Bool) → ℕ → List Place → Bool
passes t zero vs = true
passes t (suc n) [] = true
passes t (suc n) (v ∷ vs) = t v && passes t n vs

both : (a b : Bool) → a && b ≡ true → (a ≡ true) × (b ≡ true)
both true true e = (refl, refl)
both true false e = absurd (true≢false (sym e))
both false b e = absurd (true≢false (sym e))

pass : (t : Place → Bool) (n : ℕ) (vs : List Place) (p : ℕ) → t nowhere ≡ true → passes t n vs ≡ true → p < n → t (get_or vs p nowhere) ≡ true
pass t zero vs p z e h = absurd (omega arith)
pass t (suc n) [] p z e h = z
pass t (suc n) (v ∷ vs) zero z e h = (both (t v) (passes t n vs) e).0
pass t (suc n) (v ∷ vs) (suc p) z e h = pass t n vs p z (both (t v) (passes t n vs) e).1 (omega arith)

pub below_60 : (p : ℕ) → p < 60 → below (place_of p) ≡ true
below_60 p h = pass below 60 places p refl refl h

-- all of them
abbrev all_pass : (Place → Bool) → List Place → Bool
all_pass t [] = true
all_pass t (v ∷ vs) = t v && all_pass t vs

all_pass_lem : (t : Place → Bool) (vs : List Place) (p : ℕ) → t nowhere ≡ true → all_pass t vs ≡ true → t (get_or vs p nowhere) ≡ true
all_pass_lem t [] p z e = z
all_pass_lem t (v ∷ vs) zero z e = (both (t v) (all_pass t vs) e).0
all_pass_lem t (v ∷ vs) (suc p) z e = all_pass_lem t vs p z (both (t v) (all_pass t vs) e).1

dropped : (n : ℕ) (vs : List Place) (j p : ℕ) → p ≡ n + j → get_or vs p nowhere ≡ get_or (drop n vs) j nowhere
dropped zero vs j p e = let same : p ≡ j = omega arith in ap (λ (i : ℕ). get_or vs i nowhere) same
dropped (suc n) [] j p e = refl
dropped (suc n) (v ∷ vs) j zero e = absurd (omega arith)
dropped (suc n) (v ∷ vs) j (suc p) e = dropped n vs j p (omega arith)

pub above_60 : (p : ℕ) → 60 ≤ p → above (place_of p) ≡ true
above_60 p h = ap above (dropped 60 places (p - 60) p (omega arith)) ∙ all_pass_lem above (drop 60 places) (p - 60) refl refl

-- ---- a step that goes on, back or next, writes what it was to write and keeps the number of frames
module _ (P : Turn → Type 0) where
  pub next_moves : (s : List ℕ) (e : Effect) (f : Frame) (fs : List Frame) (th : Thread) → ((v : Thread) → length v.frames ≡ suc (length fs) → P (Moves v e)) → P (next_from s e f fs th)
  next_moves [] e f fs th q = q _ refl
  next_moves (x ∷ []) e f fs th q = q _ refl
  next_moves (x ∷ y ∷ s) e f fs th q = q _ refl

  pub fork : (c : Bool) (o o' : Turn) → P o → P o' → P (ite c o o')
  unfolding ite
  fork true o o' p q = p
  fork false o o' p q = q

  pub add_moves : (e : Effect) (c : ℕ) (f : Frame) (fs : List Frame) (th : Thread) → ((v : Thread) → length v.frames ≡ suc (length fs) → P (Moves v e)) → P (adding e c f fs th)
  unfolding adding
  add_moves e c f fs th q = fork _ _ _ (q _ refl) (next_moves f.stack e (adds c f) fs th q)

  pub back_in_lem : (fs : List Frame) (e : Effect) (th : Thread) → ((v : Thread) → length v.frames ≡ length fs → P (Moves v e)) → P (back_in fs e th)
  back_in_lem [] e th q = q _ refl
  back_in_lem (f ∷ fs) e th q = fork f.begun _ _ (next_moves f.backup e f fs th q) (q _ refl)

  pub back_moves : (e : Effect) (th : Thread) → ((v : Thread) → length v.frames ≡ length th.frames → P (Moves v e)) → P (back e th)
  unfolding back
  back_moves e th q = back_in_lem th.frames e th q

-- ---- the arm of a match that takes several variants: its number is below n if theirs are
abbrev all_below : ℕ → List ℕ → Bool
all_below n [] = true
all_below n (k ∷ ks) = ltb k n && all_below n ks

pub one_below : (n x : ℕ) (ks : List ℕ) → all_below n ks ≡ true → OneOf ks x → x < n
one_below n x [] b o = absurd o
one_below n x (k ∷ []) b o = omega (arith, ltb-true k n (both (ltb k n) (all_below n []) b).0)
one_below n x (k ∷ j ∷ ks) b (inl e) = omega (arith, ltb-true k n (both (ltb k n) (all_below n (j ∷ ks)) b).0)
one_below n x (k ∷ j ∷ ks) b (inr o) = one_below n x (j ∷ ks) (both (ltb k n) (all_below n (j ∷ ks)) b).1 o
