-- From the frame on top to its thread: back, a new frame, and a step of the frame as a step of the thread. Assumes nothing.
use mathlib.Core.Path.{◌≡◌, refl, sym, ap, ap₂, ◌∙◌, fun_ext, subst}
use mathlib.Core.List.{List, ◌∷◌}
use Prim.Native.Nat.{ℕ, zero, suc, ◌+◌, ◌-◌, ◌*◌, ◌<◌, ◌≤◌}
use native.Mathlib.Omega.{arith}
use native.Mathlib.Decide.{ℕ_discrete}
use lib.ListN.{length, get_or, set}
use borrow.Author.Tests.{eq-eqb, ne_eqb}
use Rattle.std.specs.Prelude.{Option, Some, None, map}
use Rattle.std.proofs.lemmas.List.{length-map, map-set, get_or-map, get_or-set_same, get_or-set_other}
use Rattle.container.specs.Choice.{upd}
use Rattle.definitions.specs.declared.Action.{Action}
use Rattle.definitions.specs.Bench.{Sight}
use Rattle.definitions.specs.Places.{place_of, to_frames}
use Rattle.definitions.specs.Threads.{Frame, Thread, Moves, new_frame}
use Rattle.definitions.specs.Frames.{back_in}
use Rattle.definitions.specs.Steps.{step}
use Rattle.frames.specs.declared.frame.Frame.{Frame as Kept}
use Rattle.frames.specs.View.{held_frame, held, frames_of, top_row, HasRoom}
use Rattle.frames.specs.Turns.{Leads, Backs}
use Rattle.frames.specs.Outcomes.{Ending, told_in, Acts, Takes, Stands, Opens, Room, step_at}

-- ---- the frames of the code, where one is replaced
pub put_frame : (l : List Kept) (j : ℕ) (k : Kept) → j < length l → held (set l j k) ≡ upd (held l) j (held_frame k)
put_frame l j k h = fun_ext (λ i. rw (map-set held_frame l j k) (elim (ℕ_discrete i j) [
  | yes e ↦ rw (e, eq-eqb j j refl) (get_or-set_same (map held_frame l) j (held_frame k) (new_frame 0 0 None) (rw length-map h))
  | no e ↦ rw (ne_eqb i j e) (get_or-set_other (map held_frame l) j i (held_frame k) (new_frame 0 0 None) e)
]))

pub read_frame : (l : List Kept) (j : ℕ) (k : Kept) → j < length l → held_frame (get_or l j k) ≡ held l j
read_frame l j k h = sym (get_or-map held_frame l j k (new_frame 0 0 None) h)

-- ---- the frames of a thread
upd_at : (h : ℕ → Frame) (i : ℕ) (g : Frame) → upd h i g i ≡ g
upd_at h i g = rw (eq-eqb i i refl)

upd_other : (h : ℕ → Frame) (i : ℕ) (g : Frame) (j : ℕ) → (j ≡ i → ⊥) → upd h i g j ≡ h j
upd_other h i g j e = rw (ne_eqb j i e)

below : (h : ℕ → Frame) (t d k : ℕ) (g : Frame) → k ≤ d → frames_of (upd h (t * 4 + d) g) t k ≡ frames_of h t k
below h t d zero g l = refl
below h t d (suc k) g l = ap₂ ◌∷◌ (upd_other h (t * 4 + d) g (t * 4 + k) (λ e. omega arith)) (below h t d k g (omega arith))

beside : (h : ℕ → Frame) (t d u k : ℕ) (g : Frame) → d < 4 → k ≤ 4 → (u ≡ t → ⊥) → frames_of (upd h (t * 4 + d) g) u k ≡ frames_of h u k
beside h t d u zero g l m o = refl
beside h t d u (suc k) g l m o = ap₂ ◌∷◌ (upd_other h (t * 4 + d) g (u * 4 + k) (λ e. o (omega arith))) (beside h t d u k g l (omega arith) o)

-- the top one of d + 1 is replaced by g
module _ (h h' : ℕ → Frame) (t d : ℕ) (g : Frame) (q : h' ≡ upd h (t * 4 + d) g) where
  frames_top : frames_of h' t (suc d) ≡ g ∷ frames_of h t d
  frames_top = ap (λ (y : ℕ → Frame). frames_of y t (suc d)) q ∙ ap₂ ◌∷◌ (upd_at h (t * 4 + d) g) (below h t d d g (omega arith))

  frames_below : frames_of h' t d ≡ frames_of h t d
  frames_below = ap (λ (y : ℕ → Frame). frames_of y t d) q ∙ below h t d d g (omega arith)

  frames_beside : d < 4 → (u k : ℕ) → k ≤ 4 → (u ≡ t → ⊥) → frames_of h' u k ≡ frames_of h u k
  frames_beside l u k m o = ap (λ (y : ℕ → Frame). frames_of y u k) q ∙ beside h t d u k g l m o

-- ---- a new frame, in row i
pub entered : (l : List Kept) (t d i : ℕ) (k : Kept) {f : Frame} → length l ≡ 16 → t < 4 → d < 4 → i ≡ t * 4 + d → held_frame k ≡ f → Opens (held l) (held (set l i k)) t d f
entered l t d i k {f} n m o e q = rw e (record { frames = frames_top (held l) _ t d f w; others = frames_beside (held l) _ t d f w o })
  where
    w : held (set l (t * 4 + d) k) ≡ upd (held l) (t * 4 + d) f
    w = put_frame l (t * 4 + d) k (omega arith) ∙ ap (upd (held l) (t * 4 + d)) q

-- ---- the row i of the frame on top
pub top_none : (t d : ℕ) {r : Option ℕ} → r ≡ top_row t d → r ≡ None → d ≡ 0
top_none t zero e z = refl
top_none t (suc d) e z = absurd (cc)

pub top_at : (t d i : ℕ) {r : Option ℕ} → r ≡ top_row t (suc d) → r ≡ Some i → i ≡ t * 4 + d
top_at t d i e z = cc

pub top_some : (t i : ℕ) {r : Option ℕ} → r ≡ top_row t 0 → r ≡ Some i → ⊥
top_some t i e z = absurd (cc)

-- ---- back: k is the frame on top before it, k' after it
back_top : (l : List Kept) (t d : ℕ) (k k' : Kept) {p : ℕ} → length l ≡ 16 → t < 4 → d < 4
    → Leads (held_frame (get_or l (t * 4 + d) k)) (held_frame k') p (λ e f fs th. back_in (f ∷ fs) e th) → Backs (held l) (held (set l (t * 4 + d) k')) t (suc d) p
back_top l t d k k' {p} n i m q = record {
  turn = λ e th. ap (λ (fs : List Frame). Moves (to_frames p fs th) e) (frames_top (held l) _ t d (held_frame k') w)
      ∙ (q.turn e (frames_of (held l) t d) th ∙ ap (λ (f : Frame). back_in (f ∷ frames_of (held l) t d) e th) (read_frame l (t * 4 + d) k (omega arith)));
  others = frames_beside (held l) _ t d (held_frame k') w m;
}
  where
    w : held (set l (t * 4 + d) k') ≡ upd (held l) (t * 4 + d) (held_frame k')
    w = put_frame l (t * 4 + d) k' (omega arith)

pub backs_none : (h : ℕ → Frame) (t d : ℕ) {r : Option ℕ} → r ≡ top_row t d → r ≡ None → Backs h h t d 1
backs_none h t d e z = record { turn = λ _ th. rw (top_none t d e z); others = λ u k l o. refl }

pub backs_on : (l : List Kept) (t d i : ℕ) (k k' : Kept) {p : ℕ} {r : Option ℕ} → length l ≡ 16 → t < 4 → d ≤ 4 → r ≡ top_row t d → r ≡ Some i
    → Leads (held_frame (get_or l i k)) (held_frame k') p (λ e f fs th. back_in (f ∷ fs) e th) → Backs (held l) (held (set l i k')) t d p
backs_on l t zero i k k' n m o e z q = absurd (top_some t i e z)
backs_on l t (suc d) i k k' n m o e z q = let y : i ≡ t * 4 + d = top_at t d i e z in rw y (back_top l t d k k' n m (omega arith) (rw y at q))

-- ---- a step of the frame on top is a step of the thread
upd_same : (h : ℕ → Frame) (i : ℕ) → upd h i (h i) ≡ h
upd_same h i = fun_ext (λ j. elim (ℕ_discrete j i) [ yes e ↦ rw (e, eq-eqb i i refl) | no e ↦ rw (ne_eqb j i e) ])

own : (h : ℕ → Frame) (t d : ℕ) (th : Thread) {p b u : ℕ} {a : Action} → th.frames ≡ frames_of h t (suc d) → Stands p a b u th → to_frames p (frames_of h t (suc d)) th ≡ th
own h t d th o q = ap₂ (λ (x : ℕ) (y : List Frame). to_frames x y th) (sym q.place) (sym o)

module _ (p : ℕ) (s : Sight) (a : Action) (b u : ℕ) {r : Ending} where
  top_acts : (l : List Kept) (t d : ℕ) (k k' : Kept) → length l ≡ 16 → t < 4 → d < 4 → Acts (held_frame (get_or l (t * 4 + d) k)) (held_frame k') r (step_at p s)
      → Takes (held l) (held (set l (t * 4 + d) k')) t (suc d) r (Stands p a b u) (step (place_of p) s)
  unfolding step_at
  top_acts l t d k k' n i m q = record {
    turn = λ th o w. ap₂ (λ (x y : List Frame). told_in r x y th) (frames_top (held l) _ t d (held_frame k') v)
        (ap (frames_of (held (set l (t * 4 + d) k')) t) e ∙ frames_below (held l) _ t d (held_frame k') v)
        ∙ (q.turn (frames_of (held l) t d) th ∙ (ap (λ (f : Frame). step (place_of p) s (to_frames p (f ∷ frames_of (held l) t d) th)) g ∙ ap (step (place_of p) s) (own (held l) t d th o w)));
    others = frames_beside (held l) _ t d (held_frame k') v m;
    same = λ z. v ∙ (ap (upd (held l) (t * 4 + d)) (q.same z ∙ g) ∙ upd_same (held l) (t * 4 + d));
  }
    where
      v : held (set l (t * 4 + d) k') ≡ upd (held l) (t * 4 + d) (held_frame k')
      v = put_frame l (t * 4 + d) k' (omega arith)

      g : held_frame (get_or l (t * 4 + d) k) ≡ held l (t * 4 + d)
      g = read_frame l (t * 4 + d) k (omega arith)

      e : suc d - 1 ≡ d
      e = omega arith

  pub takes_top : (l : List Kept) (t d i : ℕ) (k k' : Kept) {v : Option ℕ} → length l ≡ 16 → t < 4 → d ≤ 4 → v ≡ top_row t d → v ≡ Some i
      → Acts (held_frame (get_or l i k)) (held_frame k') r (step_at p s)
      → Takes (held l) (held (set l i k')) t d r (Stands p a b u) (step (place_of p) s)
  takes_top l t zero i k k' n m o e z q = absurd (top_some t i e z)
  takes_top l t (suc d) i k k' n m o e z q = let y : i ≡ t * 4 + d = top_at t d i e z in rw y (top_acts l t d k k' n m (omega arith) (rw y at q))

-- ---- room on the stack of the frame on top
pub top_room : (l : List Kept) (t d i p : ℕ) (k : Kept) {v : Option ℕ} → length l ≡ 16 → t < 4 → d ≤ 4 → v ≡ top_row t d → v ≡ Some i → Room p (frames_of (held l) t d)
    → (p ≡ 60 → ⊥) → p < 81 → HasRoom (held_frame (get_or l i k))
top_room l t zero i p k n m o e z r f h = absurd (top_some t i e z)
top_room l t (suc d) i p k n m o e z r f h =
    let y : i ≡ t * 4 + d = top_at t d i e z in
    rw y (subst (λ f. HasRoom f) (sym (read_frame l (t * 4 + d) k (omega arith))) (r f h))

length_frames : (h : ℕ → Frame) (t d : ℕ) → length (frames_of h t d) ≡ d
length_frames h t zero = refl
length_frames h t (suc d) = ap suc (length_frames h t d)

-- as reach_frames says
pub few_frames : (h : ℕ → Frame) (t d : ℕ) (fs : List Frame) → fs ≡ frames_of h t d → length fs ≤ 4 → d ≤ 4
few_frames h t d fs e l = let k : length fs ≡ d = ap (λ (y : List Frame). length y) e ∙ length_frames h t d in omega arith
