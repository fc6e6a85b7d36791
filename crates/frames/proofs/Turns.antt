-- What costs no step: next and back, and that a decision holds nothing of its thread's old frames; f is the frame before. Assumes nothing.
use Rattle.std.specs.Prelude.{Option, Some, None, IsTrue, ◌↔◌}
use Rattle.std.specs.List.{slice_get}
use mathlib.Core.Path.{◌≡◌, refl, sym, ap, ◌∙◌}
use mathlib.Core.Bool.{Bool, true, false}
use mathlib.Core.List.{List, [], ◌∷◌}
use Prim.Native.Nat.{ℕ}
use Rattle.container.specs.Choice.{ite}
use Rattle.definitions.specs.declared.Effect.{Effect}
use Rattle.definitions.specs.declared.Effect.TheVariants.{Quiet}
use Rattle.definitions.specs.Places.{to_frames}
use Rattle.definitions.specs.Threads.{Frame, Thread, Turn, Moves}
use Rattle.definitions.specs.Frames.{in_hand, popping, with_stack, adds, tail_of, reaches, next_from, adding, back_in, back}
use Rattle.frames.specs.Turns.{Leads, having, add_turn, extend_turn}

-- ---- next, by the stack s
module _ (f : Frame) (e : Effect) (fs : List Frame) (th : Thread) where
  next_nothing : (s : List ℕ) → f.stack ≡ s → slice_get s 0 ≡ None → Moves (to_frames 81 (with_stack (tail_of s) f ∷ fs) th) e ≡ next_from s e f fs th
  next_nothing [] w q = ap (λ (s : List ℕ). Moves (to_frames 81 (with_stack s f ∷ fs) th) e) (sym w)
  next_nothing (x ∷ s) w q = absurd (cc)

  next_one : (s : List ℕ) {x : ℕ} → slice_get s 0 ≡ Some x → tail_of s ≡ [] → Moves (to_frames 81 (popping x (tail_of s) f ∷ fs) th) e ≡ next_from s e f fs th
  next_one [] q z = absurd (cc)
  next_one (y ∷ []) {x} q z = let u : x ≡ y = cc in rw u
  next_one (y ∷ v ∷ s) q z = absurd (cc)

  next_two : (s : List ℕ) {x : ℕ} → slice_get s 0 ≡ Some x → (tail_of s ≡ [] → ⊥) → Moves (to_frames 70 (popping x (tail_of s) f ∷ fs) th) e ≡ next_from s e f fs th
  next_two [] q z = absurd (cc)
  next_two (y ∷ []) q z = absurd (z refl)
  next_two (y ∷ v ∷ s) {x} q z = let u : x ≡ y = cc in rw u

  -- the stack is of no account where it is replaced
  next_any : (s l : List ℕ) → (s ≡ [] → ⊥) → next_from s e (with_stack l f) fs th ≡ next_from s e f fs th
  next_any [] l z = absurd (z refl)
  next_any (x ∷ []) l z = refl
  next_any (x ∷ y ∷ s) l z = refl

some_left : {b : Bool} {l : List ℕ} → (IsTrue b ↔ (l ≡ [])) → b ≡ false → l ≡ [] → ⊥
some_left i z e = let y : _ ≡ true = i.1 e in cc

module _ (f : Frame) where
  module _ {l : List ℕ} {t : Option ℕ} (q : t ≡ slice_get f.stack 0) (k : l ≡ tail_of f.stack) where
    pub next_none : t ≡ None → Leads f (with_stack l f) 81 (λ e f fs th. next_from f.stack e f fs th)
    next_none z = record { turn = λ e fs th. rw k (next_nothing f e fs th f.stack refl (sym q ∙ z)) }

    pub next_last : {x : ℕ} {b : Bool} → t ≡ Some x → (IsTrue b ↔ (l ≡ [])) → b ≡ true → Leads f (popping x l f) 81 (λ e f fs th. next_from f.stack e f fs th)
    next_last z i y = record { turn = λ e fs th. rw k (next_one f e fs th f.stack (sym q ∙ z) (sym k ∙ i.0 y)) }

    pub next_more : {x : ℕ} {b : Bool} → t ≡ Some x → (IsTrue b ↔ (l ≡ [])) → b ≡ false → Leads f (popping x l f) 70 (λ e f fs th. next_from f.stack e f fs th)
    next_more z i y = record { turn = λ e fs th. rw k (next_two f e fs th f.stack (sym q ∙ z) (λ w. some_left i y (k ∙ w))) }

  -- ---- back, where there is a backup
  pub back_next : {g : Frame} {p : ℕ} {b : Bool} → f.begun ≡ true → (IsTrue b ↔ (f.backup ≡ [])) → b ≡ false
      → Leads (with_stack f.backup f) g p (λ e f fs th. next_from f.stack e f fs th) → Leads f g p (λ e f fs th. back_in (f ∷ fs) e th)
  unfolding ite
  back_next y i z l = record { turn = λ e fs th. l.turn e fs th ∙ (next_any f e fs th f.backup f.backup (some_left i z) ∙ rw y refl) }

  -- ---- where a swap succeeds
  pub extends : {g h : Frame} {p : ℕ} (x c : ℕ) → g ≡ in_hand x (tail_of f.stack) f → Leads g h p (add_turn c) → Leads f h p (extend_turn x c)
  unfolding add_turn extend_turn
  extends x c q l = record { turn = λ e fs th. l.turn e fs th ∙ ap (λ (y : Frame). adding e c y fs th) q }

pub ruleset next_cases = (next_none, next_last, next_more)

-- ---- what a decision holds of its thread's old frames is of no account
next_alike : (e : Effect) (l : List ℕ) (f : Frame) (fs gs : List Frame) (q : ℕ) (th : Thread) → next_from l e f fs th ≡ next_from l e f fs (to_frames q gs th)
next_alike e [] f fs gs q th = refl
next_alike e (x ∷ []) f fs gs q th = refl
next_alike e (x ∷ y ∷ l) f fs gs q th = refl

pub add_alike : (e : Effect) (c : ℕ) (f : Frame) (fs gs : List Frame) (q : ℕ) (th : Thread) → add_turn c e f fs th ≡ adding e c f fs (to_frames q gs th)
unfolding add_turn adding
add_alike e c f fs gs q th = ap (λ (x : Turn). ite (reaches c f.upper) (Moves (to_frames 81 (adds c f ∷ fs) th) e) x) (next_alike e f.stack (adds c f) fs gs q th)

pub back_alike : (f : Frame) (fs : List Frame) (th : Thread) → back_in (f ∷ fs) Quiet th ≡ back Quiet (having f fs th)
unfolding back
back_alike f fs th = ap (λ (x : Turn). ite f.begun x (Moves (to_frames 60 (f ∷ fs) th) Quiet)) (next_alike Quiet f.backup f fs (f ∷ fs) th.place th)

pub ruleset alike_cases = (add_alike, back_alike)
