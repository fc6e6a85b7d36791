-- What is decided at a place below 60, with the thread's notes and the count of the stop that it is decided with: the notes change at 1 and 2 alone,
-- the count at 4 and 5, where numbers never run out. Rests on crate answers, by `searching`.
use Rattle.std.specs.Prelude.{Result as Outcome, Ok}
use Rattle.machine.specs.declared.Asked.{Asked}
use Rattle.machine.specs.declared.Asked.TheVariants.{Step}
use Rattle.definitions.specs.declared.Refusal.{Refusal}
use Rattle.steps.specs.declared.Decision.TheVariants.{NodesOut}
use mathlib.Core.Path.{◌≡◌, refl, sym, ap, ◌∙◌, subst}
use mathlib.Core.Bool.{Bool}
use mathlib.Core.List.{List}
use Prim.Native.Nat.{ℕ, ◌/◌, ◌%◌, ◌≤◌, ◌<◌}
use native.Mathlib.Omega.{arith}
use native.Mathlib.Decide.{dec_lt}
use Rattle.steps.specs.declared.Notes.{Notes}
use Rattle.steps.specs.declared.Decision.{Decision}
use Rattle.steps.specs.Decision.{Decides, counting, finding}
use Rattle.definitions.specs.Nodes.{Shapes, Stores, child_for}
use Rattle.definitions.specs.Threads.{Frame}
use Rattle.definitions.specs.Bench.{stop, sight}
use Rattle.definitions.specs.Places.{place_of}
use Rattle.definitions.specs.Steps.{reached, followed, step}
use Rattle.definitions.specs.Versions.{stop_of}
use Rattle.container.specs.Choice.{ite}
use Rattle.run.specs.Threads.{recounted}
use Rattle.run.proofs.Decided.{reread, Decided, decided_at, decided_count}
use Rattle.run.proofs.Changed.{count_other, Rereads, reread_none, Begun}
use Rattle.run.proofs.Sought.{Seeks, Sought, sought_find, sought_count}
use Rattle.run.proofs.Turn.{seen, Asking, awake}
use Rattle.run.proofs.Queried.{searching}

-- what is decided at 1 and at 2
pub finding_one : {th : Notes} {d : Decision} {p : ℕ} (on : Bool) (n : Shapes) (root : ℕ) → p ≡ 1 → Decides th d (λ h. reached n h root) → Decides th d (finding p on n root)
unfolding finding ite
finding_one on n root e i = rw e i

pub finding_two : {th : Notes} {d : Decision} {p : ℕ} (on : Bool) (n : Shapes) (root : ℕ) → p ≡ 2 → Decides th d (λ h. followed on n h (child_for h.station (n h.route)))
    → Decides th d (finding p on n root)
unfolding finding ite
finding_two on n root e i = rw e i

module _ {file : List ℕ} {k x y e : ℕ} {n : Shapes} {l : List ℕ} {s : Stores} {threads : List Notes} {counts : List ℕ} {h : ℕ → Frame} {count root used shown finished at : ℕ}
    {first buffer : List ℕ} {a : Outcome Asked Refusal} {end : Notes} (q : Asking file k x y e n l s threads counts h count root used shown finished at first buffer a end) where
  -- d is decided once the table is threads' and the count count', and is what the thread's step is; where numbers have run out these are the same
  pub record Chosen (d : Decision) (threads' : List Notes) (count' : ℕ) : Type 0 where
    pub decided : Decided (sight n root used s shown (stop (stop_of file) count)) (seen threads x end) (seen threads' x end).read d
    pub rereads : Rereads (x / 16 % 4) (seen threads' x end).read end threads threads'
    pub recounts : count' ≡ recounted (seen threads x end).place count
    pub kept : d ≡ NodesOut → (threads' ≡ threads) × (count' ≡ count)

  chosen_at : {d : Decision} {on : Bool} → ((seen threads x end).place ≡ 4 → ⊥) → ((seen threads x end).place ≡ 5 → ⊥) → on ≡ stop_of file
      → Decides (seen threads x end) d (step (place_of (seen threads x end).place) (sight n root used s shown (stop on count))) → Chosen d threads count
  chosen_at {d} f g o i =
      let j : Decides (seen threads x end) d (step (place_of (seen threads x end).place) (sight n root used s shown (stop (stop_of file) count))) = rw o at i in
      record { decided = decided_at _ _ f g j; rereads = reread_none _ _ _; recounts = count_other _ _ f g; kept = λ o. (refl, refl) }

  pub chosen_three : {d : Decision} {on : Bool} → (seen threads x end).place ≡ 3 → on ≡ stop_of file
      → Decides (seen threads x end) d (step (place_of (seen threads x end).place) (sight n root used s shown (stop on count))) → Chosen d threads count
  chosen_three e = chosen_at (λ u. omega (arith, e)) (λ u. omega (arith, e))

  pub chosen_ten : {d : Decision} {on : Bool} → 10 ≤ (seen threads x end).place → on ≡ stop_of file
      → Decides (seen threads x end) d (step (place_of (seen threads x end).place) (sight n root used s shown (stop on count))) → Chosen d threads count
  chosen_ten e = chosen_at (λ u. omega (arith, e)) (λ u. omega (arith, e))

  pub chosen_count : {d : Decision} {count' : ℕ} → a ≡ Ok Step → 3 < (seen threads x end).place → (seen threads x end).place < 10
      → count' ≡ recounted (seen threads x end).place count
      → Decides (seen threads x end) d (counting (seen threads x end).place n) → Chosen d threads count'
  chosen_count {d} z f g u i = rw u (record { decided = decided_count _ _ f g i; rereads = reread_none _ _ _; recounts = refl; kept = λ o. (refl, stays o) })
    where
      stays : d ≡ NodesOut → recounted (seen threads x end).place count ≡ count
      stays o = elim (dec_lt (seen threads x end).place 6) [
        | yes j ↦ absurd (sought_count n f j (searching q z j (λ v. omega arith)) i o)
        | no j ↦ sym (count_other (seen threads x end).place count (λ v. omega arith) (λ v. omega arith))
      ]

  -- 1 and 2 decide once the routes read are noted
  pub chosen_find : {d : Decision} {threads' : List Notes} (on : Bool) → a ≡ Ok Step → (seen threads x end).place < 3
      → Begun (sight n root used s shown (stop (stop_of file) count)) (x / 16 % 4) end threads threads' d
      → Decides (seen threads' x end) d (finding (seen threads' x end).place on n root) → Chosen d threads' count
  chosen_find {d} {threads'} on z low i j =
      record {
        decided = i.decided;
        rereads = i.rereads;
        recounts = count_other _ _ (λ (m : (seen threads x end).place ≡ 4). omega (arith, low, m)) (λ (m : (seen threads x end).place ≡ 5). omega (arith, low, m));
        kept = λ o. absurd (subst Seeks o found.ways);
      }
    where
      found : Sought d
      found =
          let own : seen threads' x end ≡ reread (seen threads' x end).read (seen threads x end) = i.rereads.own in
          let at : (seen threads' x end).place ≡ (seen threads x end).place = ap (λ (v : Notes). v.place) own in
          let same : (seen threads' x end).action ≡ (seen threads x end).action = ap (λ (v : Notes). v.action) own in
          sought_find on n root (omega (arith, at, awake q z)) (omega (arith, at, low)) (λ w. searching q z (omega arith) (λ v. omega arith) (sym same ∙ w)) j
