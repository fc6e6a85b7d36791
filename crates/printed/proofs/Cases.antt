-- What each function has written, word by word and line by line. Assumes nothing.
use mathlib.Core.Path.{◌≡◌, refl, sym, ap, ◌∙◌}
use mathlib.Core.Bool.{Bool, true, false}
use mathlib.Core.List.{List, [], ◌∷◌, ◌++◌, append_assoc, append-nil}
use Prim.Native.Nat.{ℕ, zero, suc, ◌+◌, ◌*◌, ◌≤◌}
use native.Mathlib.Omega.{arith}
use borrow.Author.Tests.{ne_eqb}
use lib.Dec.{eqb}
use native.Mathlib.Nat.{add_comm, zero-mul, suc-mul}
use lib.ListN.{drop, get_or}
use lib.Seq.{drop-drop}
use Rattle.container.specs.Choice.{ite}
use Rattle.definitions.specs.Answers.{no_word, answer_word}
use Rattle.definitions.specs.Listing.{space, newline, decimal}
use Rattle.definitions.specs.Run.{row_width}
use Rattle.definitions.specs.Printed.{action_word, depth_text, row_line, row_lines}
use Rattle.listing.specs.Texts.{headed}

-- ---- the word for an action, by its number

module _ {a : ℕ} where
  pub word_lookup : a ≡ 1 → action_word a ≡ 108 ∷ 111 ∷ 111 ∷ 107 ∷ 117 ∷ 112 ∷ []
  unfolding action_word ite
  word_lookup h = rw h

  pub word_insert : a ≡ 2 → action_word a ≡ 105 ∷ 110 ∷ 115 ∷ 101 ∷ 114 ∷ 116 ∷ []
  unfolding action_word ite
  word_insert h = rw h

  pub word_remove : a ≡ 3 → action_word a ≡ 114 ∷ 101 ∷ 109 ∷ 111 ∷ 118 ∷ 101 ∷ []
  unfolding action_word ite
  word_remove h = rw h

  pub word_split : a ≡ 4 → action_word a ≡ 115 ∷ 112 ∷ 108 ∷ 105 ∷ 116 ∷ []
  unfolding action_word ite
  word_split h = rw h

  pub word_join : a ≡ 5 → action_word a ≡ 106 ∷ 111 ∷ 105 ∷ 110 ∷ []
  unfolding action_word ite
  word_join h = rw h

  pub word_range : (a ≡ 1 → ⊥) → (a ≡ 2 → ⊥) → (a ≡ 3 → ⊥) → (a ≡ 4 → ⊥) → (a ≡ 5 → ⊥) → action_word a ≡ 114 ∷ 97 ∷ 110 ∷ 103 ∷ 101 ∷ []
  unfolding action_word ite
  word_range h₁ h₂ h₃ h₄ h₅ = rw (ne_eqb _ _ h₁, ne_eqb _ _ h₂, ne_eqb _ _ h₃, ne_eqb _ _ h₄, ne_eqb _ _ h₅)

pub ruleset action_cases = (word_lookup, word_insert, word_remove, word_split, word_join, word_range)

-- ---- the answer

pub word_yes : (y : ℕ) → y ≡ 1 → answer_word y ≡ 121 ∷ 101 ∷ 115 ∷ []
word_yes y h = rw h

pub word_no : (y : ℕ) → (y ≡ 1 → ⊥) → answer_word y ≡ no_word
word_no zero h = refl
word_no (suc zero) h = absurd (h refl)
word_no (suc (suc zero)) h = refl
word_no (suc (suc (suc zero))) h = refl
word_no (suc (suc (suc (suc zero)))) h = refl
word_no (suc (suc (suc (suc (suc zero))))) h = refl
word_no (suc (suc (suc (suc (suc (suc zero)))))) h = refl
word_no (suc (suc (suc (suc (suc (suc (suc _))))))) h = refl

pub ruleset answer_cases = (word_yes, word_no)

-- ---- the length of a row, in version v

pub width_narrow : (v : ℕ) → v ≡ 1 → 4 ≡ row_width (headed v)
unfolding ite
width_narrow v e = rw e

pub width_wide : (v : ℕ) → (v ≡ 1 → ⊥) → 14 ≡ row_width (headed v)
unfolding ite
width_wide v e = rw (ne_eqb _ _ e)

pub width_least : (v : ℕ) → 4 ≤ row_width (headed v)
unfolding ite
width_least v = by (eqb v 1)
  where
    by : (c : Bool) → 4 ≤ ite c 4 14
    by true = omega arith
    by false = omega arith

pub ruleset width_cases = (width_narrow, width_wide)

-- ---- the depth of a row, in version v

module _ (v : ℕ) (row : List ℕ) where
  pub depth_plain : v ≡ 1 → depth_text (headed v) row ≡ []
  unfolding depth_text ite
  depth_plain e = rw e

  pub depth_other : (v ≡ 1 → ⊥) → (get_or row 1 0 ≡ 1 → ⊥) → depth_text (headed v) row ≡ []
  unfolding depth_text ite
  depth_other e a = rw (ne_eqb _ _ e, ne_eqb _ _ a)

  pub depth_no : (v ≡ 1 → ⊥) → get_or row 1 0 ≡ 1 → (get_or row 3 0 ≡ 1 → ⊥) → depth_text (headed v) row ≡ []
  unfolding depth_text ite
  depth_no e a y = rw (ne_eqb _ _ e, a, ne_eqb _ _ y)

  pub depth_told : (v ≡ 1 → ⊥) → get_or row 1 0 ≡ 1 → get_or row 3 0 ≡ 1 → depth_text (headed v) row ≡ space ∷ decimal (get_or row 4 0 * 256 + get_or row 5 0)
  unfolding depth_text ite
  depth_told e a y = rw (ne_eqb _ _ e, a, y)

pub ruleset depth_cases = (depth_plain, depth_other, depth_no, depth_told, width_wide)

-- ---- the line of a row

pub row_parts : (file row : List ℕ) {t s : ℕ} → t ≡ get_or row 0 0 → s ≡ get_or row 2 0
    → 116 ∷ (decimal t ++ space ∷ (action_word (get_or row 1 0) ++ space ∷ (decimal s ++ space ∷ (answer_word (get_or row 3 0) ++ (depth_text file row ++ newline ∷ [])))))
    ≡ row_line file row
unfolding row_line
row_parts file row e f = rw (e, f)

-- ---- the lines of several rows, one more at a time

pub lines_more : (file : List ℕ) (k : ℕ) (l : List ℕ) → row_lines file (suc k) l ≡ row_lines file k l ++ row_line file (drop (k * row_width file) l)
lines_more file zero l = append-nil (row_line file l) ∙ ap (λ (n : ℕ). row_line file (drop n l)) (sym (zero-mul (row_width file)))
lines_more file (suc k) l = rw (lines_more file k (drop (row_width file) l), drop-drop (k * row_width file) (row_width file) l, append_assoc)
    (ap (λ (n : ℕ). row_line file l ++ (row_lines file k (drop (row_width file) l) ++ row_line file (drop n l))) (add_comm (row_width file) (k * row_width file) ∙ sym (suc-mul k (row_width file))))
