-- State of the first k records of a file, by the file that they are of their own; and the answer, by the refusals. Assumes nothing.
use mathlib.Core.Path.{◌≡◌, refl, sym, ap, ◌∙◌, subst}
use mathlib.Core.List.{List, [], ◌∷◌}
use Prim.Native.Nat.{ℕ, zero, suc, ◌≤◌, ◌<◌}
use native.Mathlib.Omega.{arith}
use borrow.Author.Tests.{eq-eqb, ne_eqb, lt-ltb, le-ltb}
use lib.Dec.{eqb, ltb}
use lib.ListN.{length}
use Rattle.container.specs.Choice.{ite}
use Rattle.schedule.specs.Proper.{Proper}
use Rattle.schedule.proofs.Laws.{proper}
use Rattle.definitions.specs.Versions.{version}
use Rattle.definitions.specs.Schedule.{count_of, file_refusal}
use Rattle.definitions.specs.Run.{Progress, after, ended, overlay}
use Rattle.run.proofs.Room.{has_room}
use Rattle.writer.specs.Part.{part}
use Rattle.writer.proofs.First.{head, count, part_fine, same}
use Rattle.snapshot.specs.Layout.{thread_bytes, node_bytes}
use Rattle.snapshot.specs.State.{state_head, state_bytes, stated_at, state_refusal, state_report, state_buffer}
use Rattle.snapshot.specs.declared.Stated.{Stated}

-- ---- of a file only its version counts
headed : (file : List ℕ) (q : Progress) → state_bytes file q ≡ state_bytes (version file ∷ []) q
unfolding state_bytes state_head thread_bytes node_bytes
headed file q = refl

same_state : (p file : List ℕ) (q : Progress) → version p ≡ version file → state_bytes p q ≡ state_bytes file q
same_state p file q e = headed p q ∙ (ap (λ (v : ℕ). state_bytes (v ∷ []) q) e ∙ sym (headed file q))

-- ---- the first k records, as the file p
module _ (file : List ℕ) (k : ℕ) (z : file_refusal file ≡ 0) (l : k ≤ count_of file) (p : List ℕ) (is_part : p ≡ part file k) where
  pub part_proper : Proper p
  part_proper = subst Proper (sym is_part) (proper (part file k) (part_fine file k z l))

  part_ended : ended (part file k) ≡ after file k
  part_ended = ap (after (part file k)) (count file k z l) ∙ same file k z l

  pub part_report : {r : Stated} → r ≡ stated_at p (ended p) → r ≡ stated_at file (after file k)
  part_report q =
      q ∙ (ap (λ (p : List ℕ). stated_at p (ended p)) is_part
      ∙ (ap (stated_at (part file k)) part_ended
      ∙ ap (λ (b : List ℕ). record { refusal = (after file k).refusal; records = (after file k).done; length = length b }) (same_state (part file k) file (after file k) (head file k z l))))

  pub part_buffer : (first : List ℕ) {w : List ℕ} → w ≡ overlay (state_bytes p (ended p)) first → w ≡ overlay (state_bytes file (after file k)) first
  part_buffer first q =
      q ∙ (ap (λ (p : List ℕ). overlay (state_bytes p (ended p)) first) is_part
      ∙ (ap (λ (v : Progress). overlay (state_bytes (part file k) v) first) part_ended
      ∙ ap (λ (b : List ℕ). overlay b first) (same_state (part file k) file (after file k) (head file k z l))))

-- ---- the answer

-- neither the file nor the buffer is refused
pub file_fine : (file : List ℕ) (n : ℕ) → state_refusal file n ≡ 0 → file_refusal file ≡ 0
unfolding state_refusal ite
file_fine file n = by (file_refusal file) (ite (ltb n 48912) 25 0)
  where
    by : (f m : ℕ) → ite (eqb f 0) m f ≡ 0 → f ≡ 0
    by zero m z = refl
    by (suc f) m z = rw (ne_eqb (suc f) 0 (λ e. omega arith)) at z

pub room_for : (file : List ℕ) (n : ℕ) → state_refusal file n ≡ 0 → 48912 ≤ n
unfolding state_refusal
room_for file n = has_room (file_refusal file) n 48912 25 (λ z. omega arith)

module _ (file first : List ℕ) (k : ℕ) {bad : ℕ} (e : bad ≡ state_refusal file (length first)) where
  pub refused_report_lem : (bad ≡ 0 → ⊥) → record { refusal = bad; records = 0; length = 0 } ≡ state_report file k (length first)
  unfolding state_report ite
  refused_report_lem z = rw (← e, ne_eqb _ _ z)

  pub refused_buffer : (bad ≡ 0 → ⊥) → first ≡ state_buffer file k first
  unfolding state_buffer ite
  refused_buffer z = rw (← e, ne_eqb _ _ z)

  module _ (z : bad ≡ 0) where
    -- fewer records than there are
    pub some_report : {r : Stated} → k < count_of file → r ≡ stated_at file (after file k) → r ≡ state_report file k (length first)
    unfolding state_report ite
    some_report l q = rw (← e, eq-eqb _ _ z, lt-ltb _ _ l) q

    pub some_buffer : {w : List ℕ} → k < count_of file → w ≡ overlay (state_bytes file (after file k)) first → w ≡ state_buffer file k first
    unfolding state_buffer ite
    some_buffer l q = rw (← e, eq-eqb _ _ z, lt-ltb _ _ l) q

    pub all_report : {r : Stated} → count_of file ≤ k → r ≡ stated_at file (ended file) → r ≡ state_report file k (length first)
    unfolding state_report ite
    all_report l q = rw (← e, eq-eqb _ _ z, le-ltb _ _ l) q

    pub all_buffer : {w : List ℕ} → count_of file ≤ k → w ≡ overlay (state_bytes file (ended file)) first → w ≡ state_buffer file k first
    unfolding state_buffer ite
    all_buffer l q = rw (← e, eq-eqb _ _ z, le-ltb _ _ l) q
