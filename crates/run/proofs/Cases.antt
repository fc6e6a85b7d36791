-- The cases of a row and of a file's refusal, each with the code's own facts as premises. Assumes nothing.
use Rattle.std.specs.Int.{to_be_bytes}
use Rattle.std.proofs.Common.{w64}
use Rattle.std.proofs.Math.Nat.{div-div-eq-div-mul}
use mathlib.Core.Path.{◌≡◌, refl, sym, ap, ◌∙◌}
use mathlib.Core.Bool.{Bool, true, false, not}
use mir.Val.{bool_byte}
use mathlib.Core.List.{List, [], ◌∷◌}
use Prim.Native.Nat.{ℕ, ◌*◌, ◌/◌, ◌%◌, ◌≤◌, ◌<◌}
use native.Mathlib.Decide.{ℕ_discrete}
use borrow.Author.Tests.{eq-eqb, ne_eqb}
use lib.Dec.{eqb}
use Rattle.container.specs.Choice.{ite}
use Rattle.buffer.specs.Page.{Page, put_all}
use Rattle.buffer.proofs.Laws.{put_all_append}
use Rattle.definitions.specs.Answers.{said, answer_number, shown}
use Rattle.definitions.specs.Records.{row, action_number}
use Rattle.definitions.specs.Versions.{version, row_room}
use Rattle.definitions.specs.Schedule.{count_of, file_refusal}
use Rattle.definitions.specs.Run.{bytes_of, wider_row, row_bytes, run_refusal}
use Rattle.definitions.specs.declared.Answer.{Answer}
use Rattle.definitions.specs.declared.Answer.TheVariants.{No, Yes, At, Lacking, Blocked, Lost, NeighbourBlocked, StoodDown, Stopped}
use Rattle.definitions.specs.Threads.{Frame}
use Rattle.steps.specs.declared.Notes.{Notes}
use Rattle.steps.specs.Decision.{thread}
use Rattle.run.specs.Standing.{row_of}
use Rattle.run.specs.Query.{found_number, found_row}
use Rattle.run.proofs.Room.{by_file, by_room, by_none}

-- ---- a row

-- a row shows the answer's own number
shown_number : (a : Answer) → answer_number (shown a) ≡ answer_number a
shown_number No = refl
shown_number Yes = refl
shown_number (At x) = refl
shown_number Lacking = refl
shown_number Blocked = refl
shown_number Lost = refl
shown_number NeighbourBlocked = refl
shown_number StoodDown = refl
shown_number Stopped = refl

-- the depth and the set's eight bytes after its four
pub wider_bytes : (d c : ℕ) → d / 256 ∷ d % 256 ∷ to_be_bytes w64 c ≡ wider_row d c
unfolding bytes_of
wider_bytes d c = simp div-div-eq-div-mul

-- what is written on a page: its buffer's name stays
module _ {N : Type 0} {a₁ a₂ : N} (p : Page) (v t : ℕ) (th : Notes) (b : Answer) (d : ℕ) {a y : ℕ} (f : a ≡ action_number th.action) (g : y ≡ answer_number b) where
  pub row_put : {q : Page} → v ≡ 1 → (a₂ ≡ a₁) × (q ≡ put_all p (t ∷ a ∷ th.station ∷ y ∷ [])) → (a₂ ≡ a₁) × (q ≡ put_all p (row_of v t th b d))
  unfolding ite
  row_put z h = (h.0, h.1 ∙ rw (f, g, shown_number b, eq-eqb v 1 z))

  pub wide_row_put : {a₃ : N} {q r : Page} {w : ℕ} → (v ≡ 1 → ⊥) → (a₂ ≡ a₁) × (q ≡ put_all p (t ∷ a ∷ th.station ∷ y ∷ [])) → w ≡ d → (a₃ ≡ a₂) × (r ≡ put_all q (wider_row w 0))
      → (a₃ ≡ a₁) × (r ≡ put_all p (row_of v t th b d))
  unfolding ite
  wide_row_put z h j i = (i.0 ∙ h.0, i.1 ∙ rw (h.1, j, ← put_all_append, f, g, shown_number b, ne_eqb v 1 z))

-- a row's bytes depend on the file's version alone, and on no frame: in version 1 the depth is not among them
pub row_as : (file : List ℕ) (v t : ℕ) (th : Notes) (fs : List Frame) (b : Answer) (d d' : ℕ) → v ≡ version file → ((version file ≡ 1 → ⊥) → d ≡ d')
    → row_of v t th b d ≡ row_bytes file t (thread th fs) (row (shown b) d' 0)
unfolding ite
row_as file v t th fs b d d' w f = elim (ℕ_discrete (version file) 1) [
  | yes e ↦ rw (w, eq-eqb (version file) 1 e)
  | no e ↦ rw (w, ne_eqb (version file) 1 e, f e)
]

-- ---- the row of a query

-- whether it has a station
pub found_byte : (b : Bool) {y : ℕ} → y ≡ bool_byte b → y ≡ answer_number (said b)
found_byte true e = e
found_byte false e = e

module _ {N : Type 0} {a₁ a₂ : N} (p : Page) (v t : ℕ) (th : Notes) (c : ℕ) {a y : ℕ} {q : Page} (f : a ≡ action_number th.action) (g : y ≡ found_number c)
    (h : (a₂ ≡ a₁) × (q ≡ put_all p (t ∷ a ∷ th.station ∷ y ∷ []))) where
  pub found_put : v ≡ 1 → (a₂ ≡ a₁) × (q ≡ put_all p (found_row v t th c))
  unfolding ite
  found_put z = (h.0, h.1 ∙ rw (f, g, eq-eqb v 1 z))

  pub wide_found_put : {a₃ : N} {r : Page} → (v ≡ 1 → ⊥) → (a₃ ≡ a₂) × (r ≡ put_all q (wider_row 0 c)) → (a₃ ≡ a₁) × (r ≡ put_all p (found_row v t th c))
  unfolding ite
  wide_found_put z k = (k.0 ∙ h.0, k.1 ∙ (ap (λ (w : Page). put_all w (wider_row 0 c)) h.1 ∙ rw (f, g, ne_eqb v 1 z, ← put_all_append)))

pub found_as : (file : List ℕ) (v t : ℕ) (th : Notes) (fs : List Frame) (c : ℕ) → v ≡ version file → found_row v t th c ≡ row_bytes file t (thread th fs) (row (said (not (eqb c 0))) 0 c)
found_as file v t th fs c w = rw w

-- ---- the refusal of a file and a row buffer
module _ (file : List ℕ) {v count : ℕ} (e : v ≡ version file) (i : count ≡ count_of file) where
  pub room_one : v ≡ 1 → 2 * count ≡ row_room file (count_of file)
  unfolding ite
  room_one z = rw (i, eq-eqb (version file) 1 (sym e ∙ z))

  pub room_two : (v ≡ 1 → ⊥) → 7 * count ≡ row_room file (count_of file)
  unfolding ite
  room_two z = rw (i, ne_eqb (version file) 1 (λ y. z (e ∙ y)))

pub ruleset room_cases = (room_one, room_two)

module _ (file : List ℕ) (room : ℕ) {bad : ℕ} (e : bad ≡ file_refusal file) where
  pub refusal_file : (bad ≡ 0 → ⊥) → bad ≡ run_refusal file room
  unfolding run_refusal
  refusal_file z = by_file room _ 5 e z

  pub refusal_room : {count needed : ℕ} → bad ≡ 0 → count ≡ count_of file → needed ≡ row_room file count → room < needed → 5 ≡ run_refusal file room
  unfolding run_refusal
  refusal_room z d i l = by_room room _ 5 e z (rw (i, d) at l)

  pub refusal_none : {count needed : ℕ} → bad ≡ 0 → count ≡ count_of file → needed ≡ row_room file count → needed ≤ room → 0 ≡ run_refusal file room
  unfolding run_refusal
  refusal_none z d i l = by_none room _ 5 e z (rw (i, d) at l)
