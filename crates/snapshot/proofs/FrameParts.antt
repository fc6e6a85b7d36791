-- The bytes of a frame and of a thread's frames, part by part. Assumes nothing.
use Rattle.std.specs.Prelude.{Option, None, Some}
use mathlib.Core.Path.{◌≡◌, refl, sym, ap, ◌∙◌}
use mathlib.Core.Bool.{Bool, true, false, ◌&&◌}
use mathlib.Core.List.{List, [], ◌∷◌, ◌++◌}
use Prim.Native.Nat.{ℕ, zero, suc, ◌+◌, ◌-◌, ◌*◌, ◌≤◌, ◌<◌}
use native.Mathlib.Omega.{arith}
use native.Mathlib.Numerals.{add-one}
use mir.Val.{bool_byte}
use lib.Dec.{eqb}
use lib.ListN.{get_or, length}
use Rattle.container.specs.Choice.{ite}
use Rattle.definitions.specs.Run.{bytes_of}
use Rattle.definitions.specs.Threads.{Frame}
use Rattle.frames.specs.View.{held_frame, held, frames_of, top_row}
use Rattle.frames.specs.declared.frame.Frame.{Frame as Kept}
use Rattle.frames.proofs.Threads.{read_frame}
use Rattle.buffer.specs.Page.{Page, put_all}
use Rattle.buffer.proofs.Laws.{put_all_append}
use Rattle.snapshot.specs.Layout.{zeros, link_bytes, noted, padded, kept, flag, has_hand, has_stack, has_backup, has_done, frame_bytes, frames_bytes}
use Rattle.snapshot.specs.Parts.{top_bytes}

-- ---- a stack, the top first

-- one entry more, and none
padded_suc : (i : ℕ) (l : List ℕ) → padded i l ++ get_or l i 0 ∷ [] ≡ padded (suc i) l
unfolding padded
padded_suc zero [] = refl
padded_suc zero (x ∷ l) = refl
padded_suc (suc i) [] = ap (λ (y : List ℕ). 0 ∷ y) (padded_suc i [])
padded_suc (suc i) (x ∷ l) = ap (λ (y : List ℕ). x ∷ y) (padded_suc i l)

padded_none : (k : ℕ) → zeros k ≡ padded k []
unfolding padded
padded_none zero = refl
padded_none (suc k) = ap (λ (y : List ℕ). 0 ∷ y) (padded_none k)

-- the stack of a frame, where it is shown, and where it is not
pub stack_more : (i : ℕ) (l : List ℕ) → padded (i + 1) l ≡ padded i l ++ get_or l i 0 ∷ []
stack_more i l = rw (add-one i) (sym (padded_suc i l))

pub stack_none : (l : List ℕ) → padded 0 l ≡ []
unfolding padded
stack_none l = refl

module _ (c : Bool) (l : List ℕ) where
  pub stack_shown : c ≡ true → padded 86 (kept c l) ≡ padded 86 l
  unfolding ite
  stack_shown h = rw h

  pub stack_hidden : c ≡ false → padded 86 (kept c l) ≡ zeros 86
  unfolding ite
  stack_hidden h = rw h (sym (padded_none 86))

pub ruleset stack_cases = (stack_more, stack_none, stack_shown, stack_hidden)

-- ---- a frame

begun_is : (e b : Bool) → bool_byte (e && b) ≡ ite e (flag b) 0
unfolding ite
begun_is true true = refl
begun_is true false = refl
begun_is false b = refl

pub frame_parts : (p : ℕ) (f : Frame) {h q y s b e : Bool} {k d : ℕ} → h ≡ has_hand p → q ≡ eqb p 70 → y ≡ eqb p 72 → s ≡ has_stack p → b ≡ has_backup p → e ≡ has_done p
    → k ≡ bool_byte (e && f.begun) → d ≡ ite e f.done 0
    → f.lower ∷ f.upper ∷ (link_bytes f.store ++ (noted h (Some f.base) ++ (noted q (Some f.popped) ++ (noted y (Some f.key) ++ k
    ∷ (bytes_of 1 (length (kept s f.stack)) ++ (bytes_of 1 (length (kept b f.backup)) ++ (zeros 3 ++ (bytes_of 8 d ++ (padded 86 (kept s f.stack) ++ padded 86 (kept b f.backup))))))))))
    ≡ frame_bytes p f
unfolding frame_bytes
frame_parts p f e1 e2 e3 e4 e5 e6 e7 e8 = rw (e8, e7, e1, e2, e3, e4, e5, e6, begun_is (has_done p) f.begun)

-- ---- the frames of thread t, d of them

pub top_there : (l : List Kept) (t d w : ℕ) (k : Kept) {r : Option ℕ} {i : ℕ} {f : Kept} → r ≡ top_row t d → r ≡ Some i → f ≡ get_or l i k → i < length l
    → frame_bytes w (held_frame f) ≡ top_bytes w (frames_of (held l) t d)
top_there l t zero w k e s z h = absurd (cc)
top_there l t (suc d) w k {i = i} e s z h =
    let at : i ≡ t * 4 + d = cc in
    ap (λ i. frame_bytes w (held_frame i)) (z ∙ ap (λ i. get_or l i k) at) ∙ ap (frame_bytes w) (read_frame l (t * 4 + d) k (omega (arith, at)))

pub top_free : (h : ℕ → Frame) (t d w : ℕ) {r : Option ℕ} → r ≡ top_row t d → r ≡ None → zeros 196 ≡ top_bytes w (frames_of h t d)
top_free h t zero w e s = refl
top_free h t (suc d) w e s = absurd (cc)

-- what is left to write on a page is what was left to write before the frame on top; k of the four are written, w is the place
after_top : (k w : ℕ) (h : ℕ → Frame) (t d : ℕ) → top_bytes w (frames_of h t d) ++ frames_bytes k 0 (frames_of h t (d - 1)) ≡ frames_bytes (suc k) w (frames_of h t d)
unfolding frames_bytes
after_top k w h t zero = refl
after_top k w h t (suc d) = let one : suc d - 1 ≡ d = omega arith in rw one

pub frames_more : (h : ℕ → Frame) (k w t d : ℕ) (p : Page) {u e : ℕ} {q r : Page} → k < 4 → u ≡ t → e ≡ d - 1 → q ≡ put_all p (top_bytes w (frames_of h t d))
    → put_all p (frames_bytes (4 - k) w (frames_of h t d)) ≡ r
    → put_all q (frames_bytes (4 - (k + 1)) 0 (frames_of h u e)) ≡ r
frames_more h k w t d p l f e g i =
    let one : 4 - k ≡ suc (4 - (k + 1)) = omega arith in
    rw (f, e, g) (sym (put_all_append p (top_bytes w (frames_of h t d)) (frames_bytes (4 - (k + 1)) 0 (frames_of h t (d - 1))))
    ∙ (ap (put_all p) (after_top (4 - (k + 1)) w h t d) ∙ (ap (λ (m : ℕ). put_all p (frames_bytes m w (frames_of h t d))) (sym one) ∙ i)))

pub frames_done : (k w : ℕ) (fs : List Frame) (q : Page) {r : Page} → 4 ≤ k → put_all q (frames_bytes (4 - k) w fs) ≡ r → q ≡ r
unfolding frames_bytes put_all
frames_done k w fs q h e = let z : 4 - k ≡ 0 = omega arith in rw (← e, z)
