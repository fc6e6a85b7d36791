-- Which place a number names, from 60 on, and a thread's step by its place. Assumes nothing.
use Rattle.std.specs.Prelude.{Option, Some, Ok, Err}
use mathlib.Core.Path.{◌≡◌, refl, sym, ap, ap₂, ◌∙◌}
use mathlib.Core.List.{List, [], ◌∷◌}
use Prim.Native.Nat.{ℕ, zero, suc, ◌+◌, ◌-◌, ◌*◌, ◌<◌, ◌≤◌}
use native.Mathlib.Omega.{arith}
use native.Mathlib.Decide.{ℕ_discrete, dec_lt}
use lib.ListN.{get_or, length}
use Rattle.definitions.specs.declared.Action.{Action}
use Rattle.definitions.specs.declared.Effect.TheVariants.{Quiet}
use Rattle.definitions.specs.Bench.{Sight}
use Rattle.definitions.specs.Threads.{Frame, Thread, Moves, Full}
use Rattle.definitions.specs.Places.{Place, nowhere, places, place_of, to_frames}
use Rattle.definitions.specs.Frames.{store_of, in_frame}
use Rattle.definitions.specs.Queries.{read_out}
use Rattle.definitions.specs.Steps.{step}
use Rattle.frames.specs.declared.frame.Frame.{Frame as Kept}
use Rattle.frames.specs.View.{held_frame, held, frames_of, top_row}
use Rattle.frames.specs.Turns.{end_turn}
use Rattle.frames.specs.Outcomes.{Ending, Acts, Takes, Stands, step_at}
use Rattle.frames.specs.declared.Outcome.TheVariants.{Onward}
use Rattle.frames.specs.declared.Shortage.TheVariants.{Nodes}
use Rattle.frames.proofs.Threads.{read_frame, top_some, top_at}
use Rattle.queries.specs.Turns.{Bare}

-- ---- numbers that no place has
again : (m p : ℕ) → m ≤ p → m + (p - m) ≡ p
again m p h = omega arith

less : (m k p : ℕ) → m ≤ p → p < m + k → p - m < k
less m k p h l = omega arith

past : (l : List Place) (p : ℕ) → length l ≤ p → get_or l p nowhere ≡ nowhere
past [] p h = refl
past (v ∷ l) zero h = absurd (omega arith)
past (v ∷ l) (suc p) h = past l p (omega arith)

module _ {p : ℕ} (m : 60 ≤ p) (a : p < 63 → ⊥) (b : 63 < p → p < 68 → ⊥) (c : 69 < p → p < 75 → ⊥) (d : 75 < p → p < 83 → ⊥) where
  pub unlisted : place_of p ≡ nowhere
  unlisted = elim (dec_lt p 83) [
    | no h ↦ past places p (omega arith)
    | yes h ↦ elim (ℕ_discrete p 63) [
      | yes e ↦ rw e
      | no e ↦ elim (ℕ_discrete p 68) [
        | yes e ↦ rw e
        | no f ↦ elim (ℕ_discrete p 69) [
          | yes e ↦ rw e
          | no g ↦ elim (ℕ_discrete p 75) [
            | yes e ↦ rw e
            | no i ↦ absurd (omega (arith, a, b, c, d))
          ]
        ]
      ]
    ]
  ]

  pub stays : (s : Sight) {f : Frame} → Acts f f (Ok (Onward p Quiet)) (step_at p s)
  unfolding step_at step
  stays s {f} = record { turn = λ fs th. ap (λ (v : Place). step v s (to_frames p (f ∷ fs) th)) (sym unlisted); same = λ z. refl }

-- ---- a thread without frames
bare_by : (k : ℕ) → k < 23 → (60 + k ≡ 63 → ⊥) → (60 + k ≡ 68 → ⊥) → (60 + k ≡ 69 → ⊥) → (60 + k ≡ 75 → ⊥) → (s : Sight) (th : Thread) → th.frames ≡ [] → Full ≡ step (place_of (60 + k)) s th
unfolding step
bare_by zero h e f g i s th o = rw o
bare_by (suc zero) h e f g i s th o = rw o
bare_by (suc (suc zero)) h e f g i s th o = rw o
bare_by (suc (suc (suc zero))) h e f g i s th o = absurd (e refl)
bare_by (suc (suc (suc (suc zero)))) h e f g i s th o = rw o
bare_by (suc (suc (suc (suc (suc zero))))) h e f g i s th o = rw o
bare_by (suc (suc (suc (suc (suc (suc zero)))))) h e f g i s th o = rw o
bare_by (suc (suc (suc (suc (suc (suc (suc zero))))))) h e f g i s th o = rw o
bare_by (suc (suc (suc (suc (suc (suc (suc (suc zero)))))))) h e f g i s th o = absurd (f refl)
bare_by (suc (suc (suc (suc (suc (suc (suc (suc (suc zero))))))))) h e f g i s th o = absurd (g refl)
bare_by (suc (suc (suc (suc (suc (suc (suc (suc (suc (suc zero)))))))))) h e f g i s th o = rw o
bare_by (suc (suc (suc (suc (suc (suc (suc (suc (suc (suc (suc zero))))))))))) h e f g i s th o = rw o
bare_by (suc (suc (suc (suc (suc (suc (suc (suc (suc (suc (suc (suc zero)))))))))))) h e f g i s th o = rw o
bare_by (suc (suc (suc (suc (suc (suc (suc (suc (suc (suc (suc (suc (suc zero))))))))))))) h e f g i s th o = rw o
bare_by (suc (suc (suc (suc (suc (suc (suc (suc (suc (suc (suc (suc (suc (suc zero)))))))))))))) h e f g i s th o = rw o
bare_by (suc (suc (suc (suc (suc (suc (suc (suc (suc (suc (suc (suc (suc (suc (suc zero))))))))))))))) h e f g i s th o = absurd (i refl)
bare_by (suc (suc (suc (suc (suc (suc (suc (suc (suc (suc (suc (suc (suc (suc (suc (suc zero)))))))))))))))) h e f g i s th o = rw o
bare_by (suc (suc (suc (suc (suc (suc (suc (suc (suc (suc (suc (suc (suc (suc (suc (suc (suc zero))))))))))))))))) h e f g i s th o = rw o
bare_by (suc (suc (suc (suc (suc (suc (suc (suc (suc (suc (suc (suc (suc (suc (suc (suc (suc (suc zero)))))))))))))))))) h e f g i s th o = rw o
bare_by (suc (suc (suc (suc (suc (suc (suc (suc (suc (suc (suc (suc (suc (suc (suc (suc (suc (suc (suc zero))))))))))))))))))) h e f g i s th o = rw o
bare_by (suc (suc (suc (suc (suc (suc (suc (suc (suc (suc (suc (suc (suc (suc (suc (suc (suc (suc (suc (suc zero)))))))))))))))))))) h e f g i s th o = rw o
bare_by (suc (suc (suc (suc (suc (suc (suc (suc (suc (suc (suc (suc (suc (suc (suc (suc (suc (suc (suc (suc (suc zero))))))))))))))))))))) h e f g i s th o = rw o
bare_by (suc (suc (suc (suc (suc (suc (suc (suc (suc (suc (suc (suc (suc (suc (suc (suc (suc (suc (suc (suc (suc (suc zero)))))))))))))))))))))) h e f g i s th o = rw o
bare_by (suc (suc (suc (suc (suc (suc (suc (suc (suc (suc (suc (suc (suc (suc (suc (suc (suc (suc (suc (suc (suc (suc (suc k))))))))))))))))))))))) h e f g i s th o = absurd (omega arith)

pub bare_out : (p : ℕ) → 60 ≤ p → (p ≡ 63 → ⊥) → (p ≡ 68 → ⊥) → (p ≡ 69 → ⊥) → (p ≡ 75 → ⊥) → p ≤ 82 → Bare (Err Nodes) p
bare_out p m e f g i l s th o q = let n = again 60 p m in
    rw n at (bare_by (p - 60) (less 60 23 p m (omega arith)) (λ z. e (sym n ∙ z)) (λ z. f (sym n ∙ z)) (λ z. g (sym n ∙ z)) (λ z. i (sym n ∙ z)) s th o)

module _ {p : ℕ} (m : 60 ≤ p) (a : p < 63 → ⊥) (b : 63 < p → p < 68 → ⊥) (c : 69 < p → p < 75 → ⊥) (d : 75 < p → p < 83 → ⊥) where
  pub bare_stays : Bare (Ok (Onward p Quiet)) p
  unfolding step
  bare_stays s th o q = ap₂ (λ (x : ℕ) (l : List Frame). Moves (to_frames x l th) Quiet) (sym q) (sym o) ∙ ap (λ (v : Place). step v s th) (sym (unlisted m a b c d))

pub bare_takes : (s : Sight) (h : ℕ → Frame) (t p d : ℕ) (a : Action) (l u : ℕ) {r : Ending} {v : Option ℕ} → v ≡ top_row t d → ((i : ℕ) → v ≡ Some i → ⊥) → Bare r p
    → Takes h h t d r (Stands p a l u) (step (place_of p) s)
bare_takes s h t p zero a l u {r} e z b = record { turn = λ th o q. b s th o q.place; others = λ u k l o. refl; same = λ z. refl }
bare_takes s h t p (suc d) a l u {r} e z b = absurd (z (t * 4 + d) e)

-- ---- 82: k is the frame on top
at_82 : (s : Sight) (h : ℕ → Frame) (t d : ℕ) (k : ℕ) (c : Option ℕ) (th : Thread) → k ≡ store_of (h (t * 4 + d)).store → c ≡ s.stores k → th.frames ≡ frames_of h t (suc d)
    → end_turn c th ≡ step (place_of 82) s th
unfolding end_turn step
at_82 s h t d k c th ek ec o = ap (λ (l : List Frame). in_frame l (λ f fs. read_out c fs th)) o
    ∙ (ap (λ (x : Option ℕ). read_out x (frames_of h t d) th) (ec ∙ ap s.stores ek) ∙ ap (λ (l : List Frame). in_frame l (λ f fs. read_out (s.stores (store_of f.store)) fs th)) (sym o))

pub ends : (s : Sight) (l : List Kept) (t d i p : ℕ) (k : Kept) {a : Action} {b u : ℕ} {h' : ℕ → Frame} {r : Ending} {v : Option ℕ} {j : ℕ} {c : Option ℕ} → length l ≡ 16
    → t < 4 → d ≤ 4 → v ≡ top_row t d → v ≡ Some i → p ≡ 82
    → j ≡ store_of (get_or l i k).store → c ≡ s.stores j → Takes (held l) h' t d r (Stands 82 a b u) (end_turn c) → Takes (held l) h' t d r (Stands p a b u) (step (place_of p) s)
ends s l t zero i p k n m o y z w ej ec q = absurd (top_some t i y z)
ends s l t (suc d) i p k {a} {b} {u} {h'} {r} {j = j} {c = c} n m o y z w ej ec q = rw w at_end
  where
    e : held_frame (get_or l i k) ≡ held l (t * 4 + d)
    e = let g : i ≡ t * 4 + d = top_at t d i y z in rw g (read_frame l (t * 4 + d) k (omega arith))

    at_end : Takes (held l) h' t (suc d) r (Stands 82 a b u) (step (place_of 82) s)
    at_end = record { turn = λ th w y. q.turn th w y ∙ at_82 s (held l) t d j c th (ej ∙ ap (λ (f : Frame). store_of f.store) e) ec w; others = q.others; same = q.same }
