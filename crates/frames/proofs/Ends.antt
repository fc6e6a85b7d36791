-- 82: the frame on top ends; and the stations between two ends. Assumes nothing.
use Rattle.std.specs.Prelude.{Option, Some, Ok}
use mathlib.Core.Path.{◌≡◌, refl, sym, ap, ◌∙◌, subst}
use Prim.Native.Nat.{ℕ, zero, suc, ◌+◌, ◌-◌, ◌^◌, ◌<◌, ◌≤◌}
use native.Mathlib.Omega.{arith}
use native.Mathlib.Numerals.{add-one}
use Rattle.container.specs.Container.{all, below, from}
use Rattle.container.proofs.Cases.{lower_past}
use Rattle.definitions.specs.declared.Action.{Action}
use Rattle.definitions.specs.declared.Effect.TheVariants.{Quiet}
use Rattle.definitions.specs.Places.{to_frames}
use Rattle.definitions.specs.Threads.{Frame, Moves}
use Rattle.definitions.specs.Frames.{between, back_in}
use Rattle.frames.specs.View.{frames_of}
use Rattle.frames.specs.Turns.{Backs, end_turn}
use Rattle.frames.specs.Outcomes.{Takes, Stands}
use Rattle.frames.specs.declared.Outcome.TheVariants.{Back}

pub within_low : (l h : ℕ) {c d : ℕ} → c ≡ from l all → h < 63 → d ≡ below (h + 1) c → d ≡ between l h
unfolding between
within_low l h e z q = q ∙ rw (e, add-one)

pub within_all : (l h : ℕ) {c : ℕ} → c < 2 ^ 64 → c ≡ from l all → 63 ≤ h → c ≡ between l h
unfolding between
within_all l h {c} m e z = lower_past c (suc h) m (omega arith) ∙ ap (below (suc h)) e

-- a frame waits below it: d frames, of which all but the top one, e of thread v, are left; c is the result
pub end_back : (h h' : ℕ → Frame) (t d v e : ℕ) (a : Action) (l u c : ℕ) (k : Option ℕ) {p : ℕ} → k ≡ Some c → (d ≡ 0 → ⊥) → (d ≡ 1 → ⊥) → v ≡ t → e ≡ d - 1 → Backs h h' v e p
    → Takes h h' t d (Ok (Back p)) (Stands 82 a l u) (end_turn k)
unfolding end_turn
end_back h h' t zero v e a l u c k q y z o i b = absurd (y refl)
end_back h h' t (suc zero) v e a l u c k q y z o i b = absurd (z refl)
end_back h h' t (suc (suc d)) v e a l u c k {p} q y z o i b = record {
  turn = λ th f w. ap (λ (x : ℕ). Moves (to_frames p (frames_of h' t x) th) Quiet) (sym i)
      ∙ (s.turn Quiet th ∙ (ap (λ (x : ℕ). back_in (frames_of h t x) Quiet th) n ∙ rw (f, q) refl));
  others = s.others;
  same = λ z. absurd z;
}
  where
    s : Backs h h' t e p
    s = subst (λ x. Backs h h' x e p) o b

    n : e ≡ suc d
    n = omega arith
