-- The cases of List: its refusals, and the text where the run has ended. Assumes nothing.
use mathlib.Core.Path.{◌≡◌, refl, sym, ap, ◌∙◌}
use mathlib.Core.Bool.{Bool, true, false}
use mathlib.Core.List.{List, ◌++◌}
use Prim.Native.Nat.{ℕ, ◌≤◌, ◌<◌}
use native.Mathlib.Omega.{arith}
use borrow.Author.Tests.{eq-eqb, ne_eqb}
use lib.Dec.{eqb}
use lib.ListN.{length}
use Rattle.container.specs.Choice.{ite}
use Rattle.container.specs.Container.{all}
use Rattle.buffer.specs.Page.{Page, page, put_all}
use Rattle.buffer.proofs.Laws.{put_fits}
use Rattle.answers.proofs.Reach.{reach_fits}
use Rattle.depths.specs.Rows.{rows, Holds, full}
use Rattle.definitions.specs.Nodes.{Shapes, Stores}
use Rattle.definitions.specs.Bench.{Bench}
use Rattle.definitions.specs.Tree.{held_below}
use Rattle.definitions.specs.Versions.{version, text_room}
use Rattle.definitions.specs.Schedule.{count_of, file_refusal}
use Rattle.definitions.specs.Refusal.{code_of}
use Rattle.definitions.specs.Run.{ended, overlay}
use Rattle.definitions.specs.Listing.{subtree_text, set_line, listing, listed_at, list_refusal, list_report, list_buffer}
use Rattle.definitions.specs.declared.Listed.{Listed}
use Rattle.listing.specs.Texts.{headed}
use Rattle.listing.proofs.Texts.{written}
use Rattle.run.specs.Standing.{numbers_for, Carried}
use Rattle.run.specs.declared.Standing.{Standing}
use Rattle.run.proofs.Ended.{held_all}
use Rattle.run.proofs.Room.{by_file, by_room, by_none, has_room}

-- ---- the refusal of a file and a text buffer
module _ (file : List ℕ) (room : ℕ) {bad : ℕ} (e : bad ≡ file_refusal file) where
  pub refusal_file : (bad ≡ 0 → ⊥) → bad ≡ list_refusal file room
  unfolding list_refusal
  refusal_file z = by_file room _ 6 e z

  module _ {needed : ℕ} (z : bad ≡ 0) (q : needed ≡ text_room file) where
    pub refusal_room : room < needed → 6 ≡ list_refusal file room
    unfolding list_refusal
    refusal_room l = by_room room _ 6 e z (rw q at l)

    pub refusal_none : needed ≤ room → 0 ≡ list_refusal file room
    unfolding list_refusal
    refusal_none l = by_none room _ 6 e z (rw q at l)

-- a buffer that is not refused has 4,096 bytes, which hold every text (answers/proofs/Reach.antt); version 2 asks for more than it needs
pub has_text_room : (file : List ℕ) (room : ℕ) {bad : ℕ} → bad ≡ list_refusal file room → bad ≡ 0 → 4096 ≤ room
unfolding list_refusal ite
has_text_room file room e z = least (eqb (version file) 1) (has_room (file_refusal file) room (text_room file) 6 (λ y. omega arith) (sym e ∙ z))
  where
    least : (c : Bool) → ite c 4096 8192 ≤ room → 4096 ≤ room
    least true l = l
    least false l = omega arith

-- ---- all records carried out over the depths l, and the text of version v written
module _ (file text : List ℕ) {t : Shapes} {l : List ℕ} {k : Stores} {s : Standing} {first buffer : List ℕ} {v at : ℕ} {text' : List ℕ} (i : v ≡ version file)
    (whole : (version file ≡ 1 → ⊥) → Holds (length l) (numbers_for file)) (room : 4096 ≤ length text) (h : Carried file (count_of file) t l k s first buffer)
    (w : page text' at ≡ put_all (page text 0) (subtree_text (headed v) 63 (full t (rows l)) s.root ++ set_line (headed v) (held_below 63 (full t (rows l)) s.root all))) where
  text_at : page text' at ≡ page (overlay (listing file (ended file).bench) text) (length (listing file (ended file).bench))
  text_at =
      let nodes = ap (λ (b : Bench). b.store.nodes) h.bench in
      let root = ap (λ (b : Bench). b.store.root) h.bench in
      w ∙ rw (written file v t (rows l) h.deep s.root (ended file).bench i (λ n. h.depths (held_all file h (whole n))) nodes root) (put_fits _ text (omega (arith, reach_fits file (count_of file))))

  pub ended_report : {r : ℕ} → r ≡ code_of s.refusal → record { refusal = r; length = at } ≡ listed_at file (ended file)
  ended_report e = rw (e, h.refusal, ap (λ (p : Page). p.at) text_at)

  pub ended_text : text' ≡ overlay (listing file (ended file).bench) text
  ended_text = ap (λ (p : Page). p.bytes) text_at

-- ---- the answer
module _ (file text : List ℕ) {bad : ℕ} (e : bad ≡ list_refusal file (length text)) where
  pub refused_report_lem : {r : Listed} → (bad ≡ 0 → ⊥) → r.refusal ≡ bad → r.length ≡ 0 → r ≡ list_report file (length text)
  unfolding list_report ite
  refused_report_lem z p q = rw (← e, ne_eqb _ _ z) (rw (← p, ← q) refl)

  pub refused_buffer : (bad ≡ 0 → ⊥) → text ≡ list_buffer file text
  unfolding list_buffer ite
  refused_buffer z = rw (← e, ne_eqb _ _ z)

  pub listed_report : {r : Listed} → bad ≡ 0 → r ≡ listed_at file (ended file) → r ≡ list_report file (length text)
  unfolding list_report ite
  listed_report z q = q ∙ rw (← e, eq-eqb _ _ z)

  pub listed_buffer : {text' : List ℕ} → bad ≡ 0 → text' ≡ overlay (listing file (ended file).bench) text → text' ≡ list_buffer file text
  unfolding list_buffer ite
  listed_buffer z q = q ∙ rw (← e, eq-eqb _ _ z)
