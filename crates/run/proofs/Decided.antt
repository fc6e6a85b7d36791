-- What the loop decides of a thread at a place below 60, in the definitions' words. With the stop on, the routes read are noted before 1 and 2
-- decide; the count is changed apart from what 4 and 5 write. Assumes nothing.
use mathlib.Core.Path.{◌≡◌, refl, sym, ap, ◌∙◌}
use mathlib.Core.Bool.{Bool, true, false, cond}
use mathlib.Core.List.{List, []}
use mathlib.Core.Logic.{◌⊎◌, inl, inr, ⊎_elim}
use Prim.Native.Nat.{ℕ, zero, suc, ◌+◌, ◌-◌, ◌<◌}
use native.Mathlib.Numerals.{add-one}
use native.Mathlib.Omega.{arith}
use borrow.Author.Tests.{ne_eqb, eqb-true}
use lib.Dec.{eqb}
use Rattle.container.specs.Choice.{ite}
use Rattle.definitions.specs.Nodes.{Nodes, Shapes, Stores, is_route}
use Rattle.definitions.specs.Threads.{Frame, Thread, Turn, Moves, Finishes, Finds, Full, NoStore}
use Rattle.definitions.specs.Bench.{stop, store, Sight, sight}
use Rattle.definitions.specs.Effects.{perform}
use Rattle.definitions.specs.Places.{place_of}
use Rattle.definitions.specs.Steps.{at_leaf, onward, released, step}
use Rattle.definitions.specs.declared.Action.{Action}
use Rattle.definitions.specs.declared.Action.TheVariants.{Lookup, Insert, Remove, Split, Join, Query}
use Rattle.definitions.specs.declared.Effect.{Effect}
use Rattle.definitions.specs.declared.Effect.TheVariants.{Quiet, Raise, Lower}
use Rattle.steps.specs.declared.Notes.{Notes}
use Rattle.effects.specs.Writes.{effect_of}
use Rattle.steps.specs.declared.Decision.{Decision}
use Rattle.steps.specs.declared.Decision.TheVariants.{Goes, Answers, NodesOut, Back}
use Rattle.steps.specs.Decision.{thread, turn_of, top_after, Decides, read_at, finding, counting}
use Rattle.run.specs.Threads.{recounted}
use Rattle.run.proofs.Numbers.{back_moves}

-- ---- a decision, and what it stands for

-- the notes th with k routes read
abbrev pub reread : ℕ → Notes → Notes
reread k th = record {
  action = th.action;
  station = th.station;
  extra = th.extra;
  place = th.place;
  route = th.route;
  read = k;
  base = th.base;
  parent = th.parent;
  left = th.left;
  found = th.found;
  neighbour = th.neighbour;
  main = th.main;
  owner = th.owner;
  grandparent = th.grandparent;
  other = th.other;
}

-- what is written
abbrev pub written : Decision → Effect
written (Goes e p n) = effect_of e
written (Answers e a) = effect_of e
written NodesOut = Quiet
written (Back e) = effect_of e

-- what a step at the place p does to the count besides writing e
abbrev pub counted : ℕ → Effect → Effect
counted p e = cond (eqb p 4) Raise (cond (eqb p 5) Lower e)

abbrev pub tallied : ℕ → Turn → Turn
tallied p (Moves th e) = Moves th (counted p e)
tallied p (Finishes e a) = Finishes (counted p e) a
tallied p (Finds c) = Finds c
tallied p Full = Full
tallied p NoStore = NoStore

abbrev Counting : ℕ → Type 0
Counting p = (p ≡ 4) ⊎ (p ≡ 5)

-- the step of a thread with the notes th is what d decides of them with k routes read; where the count changes nothing else is written
pub record Decided (s : Sight) (th : Notes) (k : ℕ) (d : Decision) : Type 0 where
  pub turn : (fs : List Frame) → step (place_of th.place) s (thread th fs) ≡ tallied th.place (turn_of (top_after (step (place_of th.place) s (thread th fs))) (thread (reread k th) fs) d)
  pub quiet : Counting th.place → written d ≡ Quiet

-- ---- by what the code says

abbrev effect_in : Turn → Effect
effect_in (Moves th e) = e
effect_in (Finishes e a) = e
effect_in (Finds c) = Quiet
effect_in Full = Quiet
effect_in NoStore = Quiet

effect_by : (f : Frame) (th : Thread) (d : Decision) → effect_in (turn_of f th d) ≡ written d
effect_by f th (Goes e p n) = refl
effect_by f th (Answers e a) = refl
effect_by f th NodesOut = refl
effect_by f th (Back e) = back_moves (λ t. effect_in t ≡ effect_of e) (effect_of e) th (λ w i. refl)

top_tallied : (p : ℕ) (t : Turn) → top_after (tallied p t) ≡ top_after t
top_tallied p (Moves th e) = refl
top_tallied p (Finishes e a) = refl
top_tallied p (Finds c) = refl
top_tallied p Full = refl
top_tallied p NoStore = refl

decide : {s : Sight} {th : Notes} {k : ℕ} {d : Decision} (f : Thread → Turn) → Decides (reread k th) d f
    → ((fs : List Frame) → step (place_of th.place) s (thread th fs) ≡ tallied th.place (f (thread (reread k th) fs)))
    → (Counting th.place → effect_in (f (thread (reread k th) [])) ≡ Quiet) → Decided s th k d
decide {s} {th} {k} {d} f i b q = record {
  turn = λ fs. b fs
      ∙ (ap (tallied th.place) (sym (i.turn fs))
      ∙ ap (λ (g : Frame). tallied th.place (turn_of g (thread (reread k th) fs) d)) (sym (ap top_after (b fs) ∙ top_tallied th.place (f (thread (reread k th) fs)))));
  quiet = λ e. sym (effect_by _ _ d) ∙ (ap effect_in (i.turn []) ∙ q e);
}

-- no count is changed
tallied_same : (p : ℕ) (t : Turn) → (p ≡ 4 → ⊥) → (p ≡ 5 → ⊥) → t ≡ tallied p t
tallied_same p (Moves th e) g h = rw (ne_eqb p 4 g, ne_eqb p 5 h)
tallied_same p (Finishes e a) g h = rw (ne_eqb p 4 g, ne_eqb p 5 h)
tallied_same p (Finds c) g h = refl
tallied_same p Full g h = refl
tallied_same p NoStore g h = refl

-- every place but 1, 2, 4 and 5
pub decided_at : (s : Sight) (th : Notes) {d : Decision} → (th.place ≡ 4 → ⊥) → (th.place ≡ 5 → ⊥) → Decides th d (step (place_of th.place) s) → Decided s th th.read d
decided_at s th g h i = decide (step (place_of th.place) s) i (λ fs. tallied_same th.place _ g h) (λ e. absurd (⊎_elim g h e))

-- ---- 1, 2
abbrev pub read_by : Bool → Notes → ℕ
read_by on th = cond on (read_at th.place th.read) th.read

module _ (n : Shapes) (root used : ℕ) (k : Stores) (shown : ℕ) (on : Bool) (c : ℕ) (th : Notes) where
  find_as : (p : ℕ) → 0 < p → p < 3 → (fs : List Frame)
      → step (place_of p) (sight n root used k shown (stop on c)) (thread th fs) ≡ finding p on n root (thread (reread (cond on (read_at p th.read) th.read) th) fs)
  unfolding step finding read_at ite
  find_as zero g h fs = absurd (omega arith)
  find_as (suc zero) g h fs = refl
  find_as (suc (suc zero)) g h fs = refl
  find_as (suc (suc (suc p))) g h fs = absurd (omega arith)

  pub decided_find : {m : ℕ} {d : Decision} → m ≡ read_by on th → 0 < th.place → th.place < 3 → Decides (reread m th) d (finding th.place on n root)
      → Decided (sight n root used k shown (stop on c)) th m d
  decided_find {m} {d} e g h i = decide (finding th.place on n root) i
      (λ fs. find_as th.place g h fs ∙ (ap (λ (j : ℕ). finding th.place on n root (thread (reread j th) fs)) (sym e) ∙ tallied_same th.place _ (λ q. omega arith) (λ q. omega arith)))
      (λ q. absurd (⊎_elim {C = ⊥} (λ j. omega arith) (λ j. omega arith) q))

-- ---- 4, 5
module _ (s : Sight) where
  passed : (b : Bool) (v w : Thread) → ite b (Moves v Raise) (Moves w Raise) ≡ tallied 4 (ite b (Moves v Quiet) (Moves w Quiet))
  unfolding ite
  passed true v w = refl
  passed false v w = refl

  freed : (a : Action) (th : Thread) → released a s.nodes th ≡ tallied 5 (at_leaf a s.nodes th th.base)
  freed Lookup th = refl
  freed Insert th = refl
  freed Remove th = refl
  freed Split th = refl
  freed Join th = refl
  freed Query th = refl

  count_as : (p : ℕ) → 3 < p → p < 10 → (th : Thread) → step (place_of p) s th ≡ tallied p (counting p s.nodes th)
  unfolding step counting onward ite
  count_as zero g h th = absurd (omega arith)
  count_as (suc zero) g h th = absurd (omega arith)
  count_as (suc (suc zero)) g h th = absurd (omega arith)
  count_as (suc (suc (suc zero))) g h th = absurd (omega arith)
  count_as (suc (suc (suc (suc zero)))) g h th = passed (is_route (s.nodes th.route).kind) _ _
  count_as (suc (suc (suc (suc (suc zero))))) g h th = freed th.action th
  count_as (suc (suc (suc (suc (suc (suc zero)))))) g h th = refl
  count_as (suc (suc (suc (suc (suc (suc (suc zero))))))) g h th = refl
  count_as (suc (suc (suc (suc (suc (suc (suc (suc zero)))))))) g h th = refl
  count_as (suc (suc (suc (suc (suc (suc (suc (suc (suc zero))))))))) g h th = refl
  count_as (suc (suc (suc (suc (suc (suc (suc (suc (suc (suc p)))))))))) g h th = absurd (omega arith)

  quiet_pass : (b : Bool) (v w : Thread) → effect_in (ite b (Moves v Quiet) (Moves w Quiet)) ≡ Quiet
  unfolding ite
  quiet_pass true v w = refl
  quiet_pass false v w = refl

  quiet_leaf : (a : Action) (th : Thread) → effect_in (at_leaf a s.nodes th th.base) ≡ Quiet
  quiet_leaf Lookup th = refl
  quiet_leaf Insert th = refl
  quiet_leaf Remove th = refl
  quiet_leaf Split th = refl
  quiet_leaf Join th = refl
  quiet_leaf Query th = refl

  quiet_count : (p : ℕ) (th : Thread) → Counting p → effect_in (counting p s.nodes th) ≡ Quiet
  unfolding counting onward ite
  quiet_count p th (inl e) = rw e (quiet_pass (is_route (s.nodes th.route).kind) _ _)
  quiet_count p th (inr e) = rw e (quiet_leaf th.action th)

  pub decided_count : (th : Notes) {d : Decision} → 3 < th.place → th.place < 10 → Decides th d (counting th.place s.nodes) → Decided s th th.read d
  decided_count th g h i = decide (counting th.place s.nodes) i (λ fs. count_as th.place g h (thread th fs)) (quiet_count th.place (thread th []))

-- ---- the store after it: what is written is written, and the count is c' then
pub count_stored : (p : ℕ) (e : Effect) (m : Nodes) (o u : ℕ) (k : Stores) (j : ℕ) (on : Bool) (c c' : ℕ) → (Counting p → e ≡ Quiet) → c' ≡ recounted p c
    → perform e (store m o u k j (stop on c')) ≡ perform (counted p e) (store m o u k j (stop on c))
count_stored p e m o u k j on c c' q h = by (eqb p 4) (eqb p 5) refl refl h
  where
    by : (a b : Bool) → eqb p 4 ≡ a → eqb p 5 ≡ b → c' ≡ cond a (c + 1) (cond b (c - 1) c)
        → perform e (store m o u k j (stop on c')) ≡ perform (cond a Raise (cond b Lower e)) (store m o u k j (stop on c))
    by true b f g i = rw (q (inl (eqb-true p 4 f)), i, add-one)
    by false true f g i = rw (q (inr (eqb-true p 5 g)), i)
    by false false f g i = rw i
