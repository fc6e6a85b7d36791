-- 1 and 2, and 4 and 5 but for the count, of a thread that is no query's: nothing is written, no frame is opened, and the search goes on or finishes. Assumes nothing.
use mathlib.Core.Path.{◌≡◌, refl, sym, ap, subst}
use mathlib.Core.Bool.{Bool, true, false}
use mathlib.Core.List.{List, []}
use Prim.Native.Nat.{ℕ, zero, suc, ◌<◌}
use native.Mathlib.Omega.{arith}
use lib.ListN.{length}
use Rattle.container.specs.Choice.{ite}
use Rattle.definitions.specs.declared.Action.{Action}
use Rattle.definitions.specs.declared.Action.TheVariants.{Lookup, Insert, Remove, Split, Join, Query}
use Rattle.definitions.specs.declared.Effect.TheVariants.{Quiet}
use Rattle.definitions.specs.Threads.{Frame, Thread, Turn, Moves, Finishes, Finds, Full, NoStore}
use Rattle.definitions.specs.Frames.{back}
use Rattle.definitions.specs.Nodes.{Shapes}
use Rattle.definitions.specs.Steps.{at_leaf, reached, onward, followed}
use Rattle.steps.specs.declared.Notes.{Notes}
use Rattle.steps.specs.declared.Note.{Note}
use Rattle.steps.specs.declared.Decision.{Decision}
use Rattle.steps.specs.declared.Decision.TheVariants.{Goes, Answers, NodesOut, Back}
use Rattle.steps.specs.Decision.{thread, noted, turn_of, top_after, Decides, finding, counting}
use Rattle.run.proofs.Decided.{written}

-- it goes on, though not to 1, with the frames fs, or finishes
abbrev Searches : List Frame → Turn → Type 0
Searches fs (Moves th e) = (e ≡ Quiet) × ((th.place ≡ 1 → ⊥) × (th.frames ≡ fs))
Searches fs (Finishes e a) = e ≡ Quiet
Searches fs (Finds c) = ⊥
Searches fs Full = ⊥
Searches fs NoStore = ⊥

either : (fs : List Frame) (c : Bool) (o o' : Turn) → Searches fs o → Searches fs o' → Searches fs (ite c o o')
unfolding ite
either fs true o o' p q = p
either fs false o o' p q = q

module _ (n : Shapes) (th : Thread) (a : th.action ≡ Query → ⊥) where
  at_leaf_lem : (v : Action) (x : ℕ) → th.action ≡ v → Searches th.frames (at_leaf v n th x)
  at_leaf_lem Lookup x e = refl
  at_leaf_lem Insert x e = (refl, (λ z. omega arith, refl))
  at_leaf_lem Remove x e = (refl, (λ z. omega arith, refl))
  at_leaf_lem Split x e = (refl, (λ z. omega arith, refl))
  at_leaf_lem Join x e = (refl, (λ z. omega arith, refl))
  at_leaf_lem Query x e = absurd (a e)

  at_reached : (x : ℕ) → Searches th.frames (reached n th x)
  unfolding reached
  at_reached x = either th.frames _ _ _ (refl, (λ z. omega arith, refl)) (at_leaf_lem th.action x refl)

  at_onward : (x : ℕ) → Searches th.frames (onward Quiet n th x)
  unfolding onward
  at_onward x = either th.frames _ _ _ (refl, (λ z. omega arith, refl)) (refl, (λ z. omega arith, refl))

  at_followed : (on : Bool) (x : ℕ) → Searches th.frames (followed on n th x)
  unfolding followed
  at_followed false x = at_reached x
  at_followed true x = either th.frames _ _ _ (at_reached x) (either th.frames _ _ _ (refl, (λ z. omega arith, refl)) (at_onward x))

  at_finding : (p : ℕ) → 0 < p → p < 3 → (on : Bool) (root : ℕ) → Searches th.frames (finding p on n root th)
  unfolding finding ite
  at_finding zero g h on root = absurd (omega arith)
  at_finding (suc zero) g h on root = at_reached root
  at_finding (suc (suc zero)) g h on root = at_followed on _
  at_finding (suc (suc (suc p))) g h on root = absurd (omega arith)

  at_counting : (p : ℕ) → 3 < p → p < 6 → Searches th.frames (counting p n th)
  unfolding counting ite
  at_counting zero g h = absurd (omega arith)
  at_counting (suc zero) g h = absurd (omega arith)
  at_counting (suc (suc zero)) g h = absurd (omega arith)
  at_counting (suc (suc (suc zero))) g h = absurd (omega arith)
  at_counting (suc (suc (suc (suc zero)))) g h = at_onward th.route
  at_counting (suc (suc (suc (suc (suc zero))))) g h = at_leaf_lem th.action th.base refl
  at_counting (suc (suc (suc (suc (suc (suc p)))))) g h = absurd (omega arith)

-- what the decision d of the notes th is then: nothing is written; it goes on and opens no frame, or finishes
abbrev pub Seeks : Decision → Type 0
Seeks (Goes e p n) = n ≡ Note.Opened → ⊥
Seeks (Answers e a) = Unit {0}
Seeks NodesOut = ⊥
Seeks (Back e) = ⊥

pub record Sought (d : Decision) : Type 0 where
  pub silent : written d ≡ Quiet
  pub ways : Seeks d

sought : {th : Notes} {d : Decision} {f : Thread → Turn} → Decides th d f → Searches [] (f (thread th [])) → Sought d
unfolding back
sought {th} {d} {f} i q = by d (subst (Searches []) (sym (i.turn [])) q)
  where
    top : Frame
    top = top_after (f (thread th []))

    grown : (p : ℕ) → (noted Note.Opened top p (thread th [])).frames ≡ [] → ⊥
    grown p e = let z : ◌≡◌ {A = ℕ} 1 0 = ap length e in omega arith

    by : (v : Decision) → Searches [] (turn_of top (thread th []) v) → Sought v
    by (Goes e p n) s = record { silent = s.0; ways = λ m. grown p (subst (λ (t : Note). (noted t top p (thread th [])).frames ≡ []) m s.1.1) }
    by (Answers e a) s = record { silent = s; ways = tt }
    by NodesOut s = absurd s
    by (Back e) s = absurd (s.1.0 refl)

pub sought_find : {th : Notes} {d : Decision} (on : Bool) (n : Shapes) (root : ℕ) → 0 < th.place → th.place < 3 → (th.action ≡ Query → ⊥) → Decides th d (finding th.place on n root) → Sought d
sought_find {th} on n root g h a i = sought i (at_finding n (thread th []) a th.place g h on root)

pub sought_count : {th : Notes} {d : Decision} (n : Shapes) → 3 < th.place → th.place < 6 → (th.action ≡ Query → ⊥) → Decides th d (counting th.place n) → d ≡ NodesOut → ⊥
sought_count {th} n g h a i e = subst Seeks e (sought i (at_counting n (thread th []) a th.place g h)).ways
