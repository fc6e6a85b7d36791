-- What `settle` leaves of a step below 60 that has decided something (specs/Settled.antt): what is left to do there, with what the loop then holds
-- (Staged.antt). Rests on crate answers by the laws of one record more.
use Rattle.std.specs.Prelude.{Result as Outcome, Ok, None}
use mathlib.Core.Path.{◌≡◌, refl, ap, ◌∙◌}
use mathlib.Core.List.{List, []}
use Prim.Native.Nat.{ℕ, ◌/◌, ◌%◌, ◌<◌}
use native.Mathlib.Omega.{arith}
use lib.ListN.{length, get_or, set, length-set}
use lib.Seq.{set-get_or}
use Rattle.machine.specs.declared.Asked.{Asked}
use Rattle.machine.specs.Enacted.{Enacted}
use Rattle.machine.specs.Noted.{Noted}
use Rattle.definitions.specs.Nodes.{Shapes, Stores}
use Rattle.definitions.specs.Threads.{Frame, new_frame}
use Rattle.definitions.specs.declared.Effect.{Effect}
use Rattle.definitions.specs.declared.Refusal.{Refusal}
use Rattle.definitions.specs.declared.Refusal.TheVariants.{Numbers}
use Rattle.effects.specs.declared.Write.{Write}
use Rattle.effects.specs.Used.{used_after}
use Rattle.steps.specs.declared.Notes.{Notes}
use Rattle.steps.specs.declared.Note.{Note}
use Rattle.steps.specs.declared.Decision.{Decision}
use Rattle.steps.specs.declared.Decision.TheVariants.{Goes, Answers, NodesOut, Back}
use Rattle.run.specs.declared.Job.{Job}
use Rattle.run.specs.declared.query.Task.{Task}
use Rattle.definitions.specs.declared.Answer.{Answer}
use Rattle.run.specs.Settled.{left_by, Effected, Settles}
use Rattle.run.proofs.Chosen.{Chosen}
use Rattle.run.proofs.Decided.{written}
use Rattle.run.proofs.Noting.{placed}
use Rattle.run.proofs.Threads.{notes_of}
use Rattle.run.proofs.Turn.{seen, Asking, full_on, deeper}
use Rattle.run.proofs.Staged.{Stage, Staged, restaged, noted_done, answer_row, round_refused, round_back, round_open}

-- ---- the notes

-- notes put where they stand
put_back : (c : List Notes) (t : ℕ) (v d : Notes) → v ≡ get_or c t d → set c t v ≡ c
put_back c t v d e = rw e (set-get_or c t d)

-- a new frame's place is all that is noted
opened_placed : {th v : Notes} {p : ℕ} → Noted th v Note.Opened p → v ≡ placed p th
opened_placed o = ap notes_of (o.after (new_frame 0 0 None) [])

-- ---- what is written, of the decision
enacted : (d : Decision) {n n' : Shapes} {l l' : List ℕ} {root used shown r : ℕ} {s s' : Stores} {f : Effect}
    → written d ≡ f → Enacted n l root used s shown f n' l' r s' → Enacted n l root used s shown (written d) n' l' r s'
enacted d m e = rw m e

counted : (d : Decision) (u : ℕ) {f : Effect} {r : ℕ} → written d ≡ f → r ≡ used_after u f → r ≡ used_after u (written d)
counted d u m e = rw m e

-- ---- what is left
module _ {file : List ℕ} {k x y e : ℕ} {n : Shapes} {l : List ℕ} {s : Stores} {threads : List Notes} {counts : List ℕ} {h : ℕ → Frame} {count root used shown finished at : ℕ}
    {first buffer : List ℕ} {a : Outcome Asked Refusal} {end : Notes} (q : Asking file k x y e n l s threads counts h count root used shown finished at first buffer a end)
    (z : a ≡ Ok Asked.Step) (low : (seen threads x end).place < 60) (d : Decision) {threads' : List Notes} {count' : ℕ} (c : Chosen q d threads' count')
    (n' : Shapes) (l' : List ℕ) (root' used' : ℕ) (v : Notes) (same : length l' ≡ length l) where
  abbrev Left : Job → Type 0
  Left j = Staged file k x n' l' s (set threads' (x / 16 % 4) v) counts h count' root' used' shown finished at first buffer end l j

  four : length threads' ≡ 4
  four = c.rereads.size ∙ q.four

  -- where nothing is noted
  unnoted : {j : Job} → v ≡ seen threads' x end → Stage file k x n' l' s threads' counts h count' root' used' shown finished at first buffer end j → Left j
  unnoted o g =
      restaged refl refl (put_back threads' (x / 16 % 4) v end o) refl refl refl refl refl (record { four = four; each = q.each; same = same; stage = g })

  module _ {f : Effect} (o : written d ≡ f) (w : Effected f n l root used n' l' root' used') where
    all : Enacted n l root used s shown (written d) n' l' root' s
    all = enacted d o (w.enacts s shown)

    noted : {b : Write} {p : ℕ} {m : Note} → (m ≡ Note.Opened → ⊥) → d ≡ Goes b p m → Noted (seen threads' x end) v m p
        → Stage file k x n' l' s (set threads' (x / 16 % 4) v) counts h count' root' used' shown finished at first buffer end Job.Nothing
    noted u i g = noted_done q z d low c.decided l' all.nodes (deeper q.stands all same) (counted d used o w.used) c.rereads c.recounts i g u

    -- it is noted
    goes : {b : Write} {p : ℕ} (m : Note) → d ≡ Goes b p m → Noted (seen threads' x end) v m p
        → Stage file k x n' l' s (set threads' (x / 16 % 4) v) counts h count' root' used' shown finished at first buffer end (left_by m)
    goes Note.Opened i g = rw (opened_placed g) (round_open q z d low c.decided l' all.nodes (deeper q.stands all same) (counted d used o w.used) c.rereads c.recounts i)
    goes Note.Nothing i g = noted (λ u. let t : ◌≡◌ {A = ℕ} 0 1 = cc in omega arith) i g
    goes (Note.Route a₁) i g = noted (λ u. let t : ◌≡◌ {A = ℕ} 0 1 = cc in omega arith) i g
    goes (Note.Base a₁) i g = noted (λ u. let t : ◌≡◌ {A = ℕ} 0 1 = cc in omega arith) i g
    goes (Note.Parent a₁) i g = noted (λ u. let t : ◌≡◌ {A = ℕ} 0 1 = cc in omega arith) i g
    goes (Note.Side a₁) i g = noted (λ u. let t : ◌≡◌ {A = ℕ} 0 1 = cc in omega arith) i g
    goes (Note.Found a₁) i g = noted (λ u. let t : ◌≡◌ {A = ℕ} 0 1 = cc in omega arith) i g
    goes (Note.Neighbour a₁) i g = noted (λ u. let t : ◌≡◌ {A = ℕ} 0 1 = cc in omega arith) i g
    goes (Note.Main a₁ b₁) i g = noted (λ u. let t : ◌≡◌ {A = ℕ} 0 1 = cc in omega arith) i g
    goes (Note.Grandparent a₁) i g = noted (λ u. let t : ◌≡◌ {A = ℕ} 0 1 = cc in omega arith) i g
    goes (Note.Other a₁) i g = noted (λ u. let t : ◌≡◌ {A = ℕ} 0 1 = cc in omega arith) i g

    answers : {b : Write} {u : Answer} → d ≡ Answers b u → Stage file k x n' l' s threads' counts h count' root' used' shown finished at first buffer end (Job.Row u)
    answers i = answer_row q z d low c.decided l' all.nodes (deeper q.stands all same) (counted d used o w.used) c.rereads c.recounts i

    back : {b : Write} → d ≡ Back b → Stage file k x n' l' s threads' counts h count' root' used' shown finished at first buffer end (Job.Task Task.Back)
    back i = round_back q z d low c.decided l' all.nodes (deeper q.stands all same) (counted d used o w.used) c.rereads c.recounts i

  pub settled : {job : Job} → Settles d n l root used (seen threads' x end) n' l' root' used' v job → Left job
  settled {job} = by d refl
    where
      by : (u : Decision) → d ≡ u → Settles u n l root used (seen threads' x end) n' l' root' used' v job → Left job
      by (Goes b p m) i g = rw g.1.1 (record { four = length-set threads' _ _ ∙ four; each = q.each; same = same; stage = goes (ap written i) g.0 m i g.1.0 })
      by (Answers b u) i g = rw g.1.1 (unnoted g.1.0 (answers (ap written i) g.0 i))
      by (Back b) i g = rw g.1.1 (unnoted g.1.0 (back (ap written i) g.0 i))
      by NodesOut i g =
          let k = c.kept i in
          restaged g.0 g.1.0 (put_back threads' (x / 16 % 4) v end g.1.1.1.1.0 ∙ k.0) refl k.1 g.1.1.0 g.1.1.1.0 g.1.1.1.1.1
          (record { four = q.four; each = q.each; same = refl; stage = round_refused q refl refl Numbers (full_on q z d low c.decided i refl) })
