-- Which records are barred, as the scan finds it. Assumes nothing.
use Rattle.std.specs.Prelude.{Option, None, Some, MatchOption}
use mathlib.Core.Path.{◌≡◌, refl, sym, ap, ◌∙◌}
use mathlib.Core.Bool.{Bool, true, false, not, ◌&&◌}
use mathlib.Core.List.{List}
use Prim.Native.Nat.{ℕ, ◌+◌, ◌*◌, ◌/◌, ◌%◌, ◌≤◌, ◌<◌}
use native.Mathlib.Omega.{arith}
use borrow.Author.Tests.{ne_eqb, le-leb, lt-leb}
use lib.Dec.{eqb, ltb, leb}
use lib.ListN.{length, get_or}
use Rattle.container.specs.Choice.{ite}
use Rattle.definitions.specs.Versions.{version, width}
use Rattle.definitions.specs.Schedule.{count_of, record_at}
use Rattle.definitions.specs.Profile.{outside, barred}
use Rattle.schedule.specs.Proper.{Proper}
use Rattle.writer.specs.Part.{FirstBarred}

-- ---- the first byte of a record: thread t, action a; version v

and_off : (x y : Bool) → y ≡ false → x && y ≡ false
and_off true y e = e
and_off false y e = refl

and_on : (x : Bool) → x && true ≡ x
and_on true = refl
and_on false = refl

module _ (v t a : ℕ) where
  abbrev barring : Bool
  barring = (leb t 3 && leb a (ite (eqb v 1) 5 6)) && outside t a

  pub bars_low : a < 2 → false ≡ barring
  bars_low h = sym (and_off (leb t 3 && leb a (ite (eqb v 1) 5 6)) _ (rw (ne_eqb a 6 (λ e. omega arith), lt-leb 2 a h) (and_off (ltb 0 t) false refl)))

  pub bars_high : 3 < t → false ≡ barring
  bars_high h = rw (lt-leb t 3 h)

  module _ (h : t ≤ 3) where
    -- the last action by the version
    by_last : (b : Bool) → ((c : Bool) → b ≡ leb a (ite c 5 6) && outside t a) → b ≡ barring
    by_last b f = rw (le-leb t 3 h) (f (eqb v 1))

    pub bars_query : a ≡ 6 → not (eqb v 1) ≡ barring
    unfolding ite
    bars_query e = rw (le-leb t 3 h, e) (by (eqb v 1))
      where
        by : (c : Bool) → not c ≡ leb 6 (ite c 5 6) && outside t 6
        by true = refl
        by false = refl

    pub bars_over : (a ≡ 6 → ⊥) → 5 < a → false ≡ barring
    unfolding ite
    bars_over n m = by_last false by
      where
        by : (c : Bool) → false ≡ leb a (ite c 5 6) && outside t a
        by true = rw (lt-leb a 5 m)
        by false = rw (lt-leb a 6 (omega arith))

    pub bars_rest : 2 ≤ a → a ≤ 5 → ltb 0 t ≡ barring
    unfolding ite
    bars_rest l m = by_last (ltb 0 t) by
      where
        writes : ltb 0 t ≡ outside t a
        writes = rw (ne_eqb a 6 (λ e. omega arith), le-leb 2 a l, le-leb a 5 m) (sym (and_on (ltb 0 t)))

        by : (c : Bool) → ltb 0 t ≡ leb a (ite c 5 6) && outside t a
        by true = writes ∙ ap (λ x. x && outside t a) (sym (le-leb a 5 m))
        by false = writes ∙ ap (λ x. x && outside t a) (sym (le-leb a 6 (omega arith)))

pub ruleset bars_cases = (bars_low, bars_high, bars_query, bars_over, bars_rest)

-- ---- where a record starts

-- record k starts inside a file that is not refused
pub within : (file : List ℕ) {v k at : ℕ} → Proper file → k < count_of file → v ≡ version file → at ≡ 3 + ite (eqb v 1) 2 4 * k → at < length file
unfolding ite
within file {k = k} {at = at} p l e f = by (eqb (version file) 1) (rw e at f) p.whole
  where
    by : (b : Bool) → at ≡ 3 + ite b 2 4 * k → length file ≡ 3 + ite b 2 4 * count_of file → at < length file
    by true g h = omega arith
    by false g h = omega arith

pub started : (file : List ℕ) (k : ℕ) {v end : ℕ} → v ≡ version file → end ≡ 3 + ite (eqb v 1) 2 4 * k → end ≡ 3 + width file * k
started file k e f = f ∙ ap (λ v. 3 + ite (eqb v 1) 2 4 * k) e

-- the first of the n records that is barred
pub first_of : (file : List ℕ) {n : ℕ} (r : Option ℕ) → n ≡ count_of file
    → MatchOption r ((k : ℕ) → 0 ≤ k → k < n → barred (record_at file k) ≡ false)
    (λ i. (0 ≤ i) × (i < n) × (barred (record_at file i) ≡ true) × ((k : ℕ) → 0 ≤ k → k < i → barred (record_at file k) ≡ false))
    → FirstBarred file r
first_of file None e f = record { low = omega arith; free = λ i l. f i (omega arith) (omega arith); bars = λ l. absurd (omega arith) }
first_of file (Some k) e f = (omega (arith, f.1), record { low = omega (arith, f.1); free = λ i l. f.3 i (omega arith) l; bars = λ _. f.2 })

-- ---- record k, by the byte that it starts with

pub bars_at : (file : List ℕ) (v k : ℕ) {at : ℕ} {b : Bool} → v ≡ version file → at ≡ 3 + ite (eqb v 1) 2 4 * k
    → b ≡ (leb (get_or file at 0 / 16) 3 && leb (get_or file at 0 % 16) (ite (eqb v 1) 5 6)) && outside (get_or file at 0 / 16) (get_or file at 0 % 16) → barred (record_at file k) ≡ b
unfolding record_at
bars_at file v k e f g = sym (g ∙ rw (f, e))
