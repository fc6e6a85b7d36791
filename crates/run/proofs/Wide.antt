-- What the loop does for queries alone, it does in no file that asks for none: a step at a place from 60 on, a new frame, a way back to one, a
-- query's start. So the memory for them is lent there. Rests on crate answers, `unasked`.
use Rattle.std.specs.Prelude.{None, Result as Outcome, Ok}
use Rattle.machine.specs.declared.Asked.{Asked}
use Rattle.machine.specs.declared.Asked.TheVariants.{Step, Start}
use Rattle.definitions.specs.declared.Action.TheVariants.{Query}
use Rattle.definitions.specs.declared.Refusal.{Refusal}
use mathlib.Core.Path.{◌≡◌, refl, sym, ap, ◌∙◌}
use mathlib.Core.List.{List, [], ◌∷◌}
use Prim.Native.Nat.{ℕ, suc, ◌+◌, ◌/◌, ◌%◌, ◌≤◌, ◌<◌}
use native.Mathlib.Omega.{arith}
use borrow.Author.Tests.{eq-eqb}
use lib.ListN.{length, get_or}
use Rattle.answers.specs.Reachable.{Unasked}
use Rattle.answers.proofs.Queryless.{unasked}
use Rattle.steps.specs.declared.Notes.{Notes}
use Rattle.effects.specs.declared.Write.{Write}
use Rattle.steps.specs.declared.Note.{Note}
use Rattle.steps.specs.declared.Decision.{Decision}
use Rattle.steps.specs.declared.Decision.TheVariants.{Goes}
use Rattle.steps.specs.Decision.{thread}
use Rattle.definitions.specs.Nodes.{Shapes, Stores}
use Rattle.definitions.specs.Threads.{Frame, Thread, new_frame}
use Rattle.definitions.specs.Bench.{stop, Bench, sight}
use Rattle.definitions.specs.Versions.{stop_of}
use Rattle.definitions.specs.Run.{after}
use Rattle.run.proofs.Decided.{Decided}
use Rattle.run.proofs.Threads.{frames_count}
use Rattle.run.proofs.Turn.{seen, Asking, own_frames, own, asked_on, wants_so, next_bench, opens_one}

module _ {file : List ℕ} {k x y e : ℕ} {n : Shapes} {l : List ℕ} {s : Stores} {threads : List Notes} {counts : List ℕ} {h : ℕ → Frame} {count root used shown finished at : ℕ}
    {first buffer : List ℕ} {a : Outcome Asked Refusal} {end : Notes} (q : Asking file k x y e n l s threads counts h count root used shown finished at first buffer a end) where
  -- its thread in the bench
  own_then : (after file k).bench.threads (x / 16 % 4) ≡ thread (seen threads x end) (own_frames q)
  own_then = sym (ap (λ (b : Bench). b.threads (x / 16 % 4)) q.stands.bench) ∙ own q

  -- a frame is there
  framed : (m : ℕ) {f : Frame} {fs : List Frame} → ((after file m).bench.threads (x / 16 % 4)).frames ≡ f ∷ fs → Unasked file → ⊥
  framed m {f} {fs} g v = let none : f ∷ fs ≡ [] = sym g ∙ ((unasked file m v).threads (x / 16 % 4)).frames in let z : ◌≡◌ {A = ℕ} (suc (length fs)) 0 = ap length none in omega arith

  pub wide_turn : 60 ≤ (seen threads x end).place → Unasked file → ⊥
  wide_turn m v = let p : ((after file k).bench.threads (x / 16 % 4)).place ≡ (seen threads x end).place = ap (λ (t : Thread). t.place) own_then in
      omega (arith, ((unasked file k v).threads (x / 16 % 4)).place)

  pub wide_back : (get_or counts (x / 16 % 4) 0 ≡ 0 → ⊥) → Unasked file → ⊥
  wide_back o v =
      let none : own_frames q ≡ [] = sym (ap (λ (t : Thread). t.frames) own_then) ∙ ((unasked file k v).threads (x / 16 % 4)).frames in
      o (sym (frames_count h (x / 16 % 4) (get_or counts (x / 16 % 4) 0)) ∙ ap length none)

  pub wide_start : a ≡ Ok (Start Query) → Unasked file → ⊥
  wide_start z = framed (k + 1) {f = new_frame y e None} {fs = []}
      (ap (λ (b : Bench). (b.threads (x / 16 % 4)).frames) (next_bench q (asked_on q (wants_so q z))) ∙ rw (eq-eqb (x / 16 % 4) (x / 16 % 4) refl))

  pub wide_open : (z : a ≡ Ok Step) {r : ℕ} (d : Decision) (low : (seen threads x end).place < 60)
      (i : Decided (sight n root used s shown (stop (stop_of file) count)) (seen threads x end) r d) → {w : Write} {p : ℕ} → d ≡ Goes w p Note.Opened → Unasked file → ⊥
  wide_open z d low i o = framed (k + 1) (opens_one q z d low i o)
