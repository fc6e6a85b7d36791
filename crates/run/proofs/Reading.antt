-- Record k of a proper file as the loop reads it, a chunk of what follows the file's first three bytes: its two bytes, and from version 2 on the other
-- two; what it asks; what is left after it. Assumes nothing.
use Rattle.std.specs.Prelude.{Result as Outcome}
use Rattle.machine.specs.declared.Asked.{Asked}
use Rattle.definitions.specs.declared.Refusal.{Refusal}
use mathlib.Core.Path.{◌≡◌, refl, sym, ap, ◌∙◌}
use mathlib.Core.Bool.{Bool, true, false}
use mathlib.Core.List.{List, ◌++◌}
use Prim.Native.Nat.{ℕ, ◌+◌, ◌-◌, ◌*◌, ◌≤◌, ◌<◌}
use native.Mathlib.Omega.{arith}
use native.Mathlib.Nat.{mul-suc}
use borrow.Author.Tests.{eq-eqb, ne_eqb}
use lib.Dec.{eqb}
use lib.ListN.{length, get_or, drop, length-drop, length-append, get_or-append}
use Rattle.std.proofs.lemmas.List.{get_or-drop, drop-drop, drop_at}
use Rattle.container.specs.Choice.{ite}
use Rattle.definitions.specs.Versions.{version, width, last_action}
use Rattle.definitions.specs.Schedule.{count_of, record_at}
use Rattle.schedule.specs.Proper.{Proper}
use Rattle.machine.specs.Asked.{asked}
use Rattle.run.proofs.Turn.{Reads}

-- how wide a record is
pub least : (file : List ℕ) → 1 < width file
unfolding ite
least file = by (eqb (version file) 1)
  where
    by : (v : Bool) → 1 < ite v 2 4
    by true = omega arith
    by false = omega arith

-- the width as the code has it, by the version
pub wide_plain : (file : List ℕ) {v n : ℕ} → v ≡ version file → v ≡ 1 → n ≡ 2 → n ≡ width file
unfolding ite
wide_plain file w o e = rw (eq-eqb _ _ (sym w ∙ o)) e

pub wide_more : (file : List ℕ) {v n : ℕ} → v ≡ version file → (v ≡ 1 → ⊥) → n ≡ 4 → n ≡ width file
unfolding ite
wide_more file w o e = rw (ne_eqb _ _ (λ h. o (w ∙ h))) e

-- what record k has, and what it asks at the place p
abbrev pub Read : List ℕ → ℕ → ℕ → ℕ → ℕ → Outcome Asked Refusal → ℕ → Type 0
Read file k x y e a p = Reads file k x y e × (a ≡ asked (last_action file) x y e p)

-- the records from k on are left
module _ (file : List ℕ) (h : Proper file) (k : ℕ) {rest : List ℕ} (here : rest ≡ drop (3 + width file * k) file) where
  left_long : length rest ≡ length file - (3 + width file * k)
  left_long = ap length here ∙ length-drop (3 + width file * k) file

  -- no whole record is left
  pub at_end : k ≤ count_of file → length rest < width file → k ≡ count_of file
  unfolding ite
  at_end = by (eqb (version file) 1) h.whole left_long
    where
      by : (v : Bool) → length file ≡ 3 + ite v 2 4 * count_of file → length rest ≡ length file - (3 + ite v 2 4 * k) → k ≤ count_of file → length rest < ite v 2 4 → k ≡ count_of file
      by true e l m n = omega arith
      by false e l m n = omega arith

  -- its bytes come first
  module _ (bytes rest' : List ℕ) (cut : rest ≡ bytes ++ rest') (wide : length bytes ≡ width file) where
    pub before_end : k < count_of file
    unfolding ite
    before_end = by (eqb (version file) 1) h.whole left_long (ap length cut ∙ length-append bytes rest') wide
      where
        by : (v : Bool) → length file ≡ 3 + ite v 2 4 * count_of file → length rest ≡ length file - (3 + ite v 2 4 * k) → length rest ≡ length bytes + length rest'
            → length bytes ≡ ite v 2 4 → k < count_of file
        by true e l m n = omega arith
        by false e l m n = omega arith

    pub left_on : rest' ≡ drop (3 + width file * (k + 1)) file
    left_on = sym (drop_at bytes rest' (width file) wide) ∙ ap (drop (width file)) (sym cut ∙ here) ∙ drop-drop (width file) (3 + width file * k) file
        ∙ ap (λ (m : ℕ). drop m file) (omega (arith, mul-suc (width file) k))

    byte : (i j : ℕ) → i < width file → 3 + width file * k + i ≡ j → get_or bytes i 0 ≡ get_or file j 0
    byte i j l e = sym (get_or-append bytes rest' 0 i (omega (arith, wide))) ∙ ap (λ (m : List ℕ). get_or m i 0) (sym cut ∙ here)
        ∙ get_or-drop (3 + width file * k) file i 0 ∙ ap (λ (m : ℕ). get_or file m 0) e

    first_two : (get_or bytes 0 0 ≡ (record_at file k).first) × (get_or bytes 1 0 ≡ (record_at file k).second)
    unfolding record_at
    first_two = (byte 0 (3 + width file * k) (omega (arith, least file)) (omega arith), byte 1 (4 + width file * k) (omega (arith, least file)) (omega arith))

    -- what depends on the version
    plain_none : version file ≡ 1 → 0 ≡ (record_at file k).extra
    unfolding record_at ite
    plain_none z = rw (eq-eqb _ _ z)

    plain_last : version file ≡ 1 → 5 ≡ last_action file
    unfolding ite
    plain_last z = rw (eq-eqb _ _ z)

    four : (version file ≡ 1 → ⊥) → width file ≡ 4
    four z = sym (wide_more file {v = version file} {n = 4} refl z refl)

    wide_extra : (version file ≡ 1 → ⊥) → get_or bytes 2 0 * 256 + get_or bytes 3 0 ≡ (record_at file k).extra
    unfolding record_at ite
    wide_extra z =
        let third : get_or bytes 2 0 ≡ get_or file (5 + width file * k) 0 = byte 2 (5 + width file * k) (omega (arith, four z)) (omega arith) in
        let fourth : get_or bytes 3 0 ≡ get_or file (6 + width file * k) 0 = byte 3 (6 + width file * k) (omega (arith, four z)) (omega arith) in
        rw (third, fourth, ne_eqb _ _ z) refl

    wide_last : (version file ≡ 1 → ⊥) → 6 ≡ last_action file
    unfolding ite
    wide_last z = rw (ne_eqb _ _ z)

    module _ (v : ℕ) {e : ℕ} {a : Outcome Asked Refusal} (w : v ≡ version file) (p : ℕ) where
      -- in version 1 the first two bytes are all
      pub read_plain : v ≡ 1 → e ≡ 0 → a ≡ asked 5 (get_or bytes 0 0) (get_or bytes 1 0) 0 p → Read file k (get_or bytes 0 0) (get_or bytes 1 0) e a p
      read_plain o b q =
          let z : version file ≡ 1 = sym w ∙ o in (
            (first_two.0, (first_two.1, b ∙ plain_none z)),
            q ∙ (ap (λ (d : ℕ). asked 5 (get_or bytes 0 0) (get_or bytes 1 0) d p) (sym b) ∙ ap (λ (l : ℕ). asked l (get_or bytes 0 0) (get_or bytes 1 0) e p) (plain_last z)),
          )

      pub read_wide : {m : ℕ} → (v ≡ 1 → ⊥) → e ≡ m → m ≡ get_or bytes 2 0 * 256 + get_or bytes 3 0 → a ≡ asked 6 (get_or bytes 0 0) (get_or bytes 1 0) m p
          → Read file k (get_or bytes 0 0) (get_or bytes 1 0) e a p
      read_wide o b d q =
          let z : version file ≡ 1 → ⊥ = λ h. o (w ∙ h) in (
            (first_two.0, (first_two.1, b ∙ (d ∙ wide_extra z))),
            q ∙ (ap (λ (u : ℕ). asked 6 (get_or bytes 0 0) (get_or bytes 1 0) u p) (sym b) ∙ ap (λ (l : ℕ). asked l (get_or bytes 0 0) (get_or bytes 1 0) e p) (wide_last z)),
          )
