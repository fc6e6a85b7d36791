-- The cases of what the schedule says and of a file's refusal, each with the code's own facts as premises. Assumes nothing.
use mathlib.Core.Path.{◌≡◌, refl, sym, ap, ap₂, ◌∙◌}
use mathlib.Core.Bool.{Bool, true, false, not, cond}
use mathlib.Core.List.{List, [], ◌∷◌, ◌++◌}
use lib.ListN.{length, get_or, take, drop, length-take, length-drop}
use Rattle.std.specs.Prelude.{Option, Some, None}
use Rattle.std.specs.Option.{MatchOption}
use Rattle.std.specs.Borrow.{Bor}
use Rattle.std.proofs.lemmas.List.{take_more, get_or-take, get_or-drop}
use lib.Seq.{take-length}
use Rattle.std.specs.List.{AllWithin, HoldsAt, sum_by}
use Rattle.std.proofs.lemmas.List.Sums.{sum_by-append}
use Rattle.container.specs.Choice.{ite}
use Prim.Native.Nat.{ℕ, zero, suc, ◌+◌, ◌-◌, ◌*◌, ◌/◌, ◌%◌, ◌≤◌, ◌<◌}
use native.Mathlib.Omega.{arith}
use native.Mathlib.Numerals.{add-one}
use lib.Dec.{eqb}
use Rattle.definitions.specs.Schedule.{count_of}
use Rattle.definitions.specs.Merge.{first_byte, fault}
use Rattle.definitions.specs.Written.{written_refusal}
use Rattle.history.specs.Ahead.{start_number, starts_to, ahead, Told}
use Rattle.history.proofs.Outlook.{ahead_own, ahead_other, ahead_none}
use Rattle.run.proofs.Room.{by_file, by_room, by_none}

-- ---- starts
-- 1 for a record that starts an operation
abbrev pub start_of : List ℕ → ℕ
start_of r = cond (not (eqb (get_or r 0 0 % 16) 0)) 1 0

starts_among : {file : List ℕ} {records rows : List (List ℕ)} (t : Told file records rows) (k : ℕ) → k ≤ length records → sum_by start_of (take k records) ≡ starts_to file k
unfolding starts_to start_number ite
starts_among t zero h = refl
starts_among {file} {records} t (suc k) h =
    let more : sum_by start_of (take (suc k) records) ≡ sum_by start_of (take k records ++ get_or records k [] ∷ []) =
    ap (λ n. sum_by start_of (take n records)) (sym (add-one k)) ∙ ap (sum_by start_of) (take_more records k [] h) in
    let one : start_of (get_or records k []) ≡ start_number (first_byte file k) = ap (λ x. cond (not (eqb (x % 16) 0)) 1 0) (t.first k h) ∙ by (eqb (first_byte file k % 16) 0) in
    omega (arith, more, sum_by-append start_of (take k records) (get_or records k [] ∷ []), one, starts_among t k (omega arith))
  where
    by : (b : Bool) → ◌≡◌ {A = ℕ} (cond (not b) 1 0) (ite b 0 1)
    by true = refl
    by false = refl

pub starts_are : {file : List ℕ} {records rows : List (List ℕ)} → Told file records rows → sum_by start_of records ≡ starts_to file (length records)
starts_are {file} {records} t = ap (λ l. sum_by start_of l) (sym (take-length records)) ∙ starts_among t (length records) (omega arith)

pub starts_few : (file : List ℕ) (k : ℕ) → starts_to file k ≤ k
unfolding starts_to start_number ite
starts_few file zero = omega arith
starts_few file (suc k) = by (eqb (first_byte file k % 16) 0) (starts_to file k) k (starts_few file k)
  where
    by : (b : Bool) (m n : ℕ) → m ≤ n → ite b 0 1 + m ≤ suc n
    by true m n h = omega arith
    by false m n h = omega arith

-- ---- what lies ahead
-- j records of other threads, and then perhaps one of thread t
ahead_past : (file : List ℕ) (t j i k : ℕ) → ((n : ℕ) → n < j → first_byte file (k + n) / 16 ≡ t → ⊥) → ahead file k (j + i) t ≡ ahead file (k + j) i t
ahead_past file t zero i k h = ap₂ (λ m n. ahead file n m t) (let z : 0 + i ≡ i = omega arith in z) (let z : k ≡ k + 0 = omega arith in z)
ahead_past file t (suc j) i k h =
    ap (λ m. ahead file k m t) (let z : suc j + i ≡ suc (j + i) = omega arith in z)
    ∙ ahead_other file k (j + i) t (λ e. h 0 (omega arith) (ap (λ n. first_byte file n / 16) (let z : k + 0 ≡ k = omega arith in z) ∙ e))
    ∙ ahead_past file t j i (suc k) (λ n l e. h (suc n) (omega arith) (ap (λ m. first_byte file m / 16) (let z : k + suc n ≡ suc k + n = omega arith in z) ∙ e))
    ∙ ap (λ n. ahead file n i t) (let z : suc k + j ≡ k + suc j = omega arith in z)

-- where the first of thread t's is sought among the records from `first` on, and then asked whether it is a step
module _ {file : List ℕ} {records rows : List (List ℕ)} (told : Told file records rows) (t : ℕ) {first : ℕ} (h : first ≤ length records) where
  abbrev later : List (List ℕ)
  later = take (length records - first) (drop first records)

  later_length : length later ≡ length records - first
  later_length = omega (arith, length-take (length records - first) (drop first records), length-drop first records)

  byte : (i : ℕ) → i < length later → get_or (get_or later i []) 0 0 ≡ first_byte file (first + i)
  byte i l = ap (λ r. get_or r 0 0) (get_or-take (length records - first) (drop first records) i [] (omega (arith, later_length)) ∙ get_or-drop first records i [])
      ∙ told.first (first + i) (omega (arith, later_length))

  before : (n : ℕ) → n ≤ length later → AllWithin (λ x. get_or x 0 0 / 16 ≡ t → ⊥) later 0 n → (i : ℕ) → i < n → first_byte file (first + i) / 16 ≡ t → ⊥
  before n l a i j e = a i [] (omega arith) j (ap (λ v. v / 16) (byte i (omega arith)) ∙ e)

  pub ahead_found : (found : Option (Bor (List ℕ))) {v : Bool}
      → MatchOption found (AllWithin (λ x. get_or x 0 0 / 16 ≡ t → ⊥) later 0 (length later))
      (λ x. (get_or x.now 0 0 / 16 ≡ t) × (i : ℕ) × (i < length later) × HoldsAt (λ y. y ≡ x.now) later i × AllWithin (λ x. get_or x 0 0 / 16 ≡ t → ⊥) later 0 i)
      → MatchOption found (v ≡ false) (λ x. v ≡ eqb (get_or x.now 0 0 % 16) 0) → v ≡ ahead file first (length records - first) t
  ahead_found None {v} a e =
      e ∙ sym (ap (λ n. ahead file first n t) (let z : length records - first ≡ length later + 0 = omega (arith, later_length) in z)
      ∙ ahead_past file t (length later) 0 first (before (length later) (omega arith) a) ∙ ahead_none file (first + length later) t)
  ahead_found (Some x) {v} a e =
      let i : ℕ = a.1 in
      let at : get_or later i [] ≡ x.now = a.3 [] in
      let own : get_or x.now 0 0 ≡ first_byte file (first + i) = ap (λ r. get_or r 0 0) (sym at) ∙ byte i a.2 in
      let split : length records - first ≡ i + suc (length later - suc i) = omega (arith, later_length, a.2) in
      e
      ∙ sym
      (ap (λ n. ahead file first n t) split ∙ ahead_past file t i (suc (length later - suc i)) first (before i (omega (arith, a.2)) a.4)
      ∙ ahead_own file (first + i) (length later - suc i) t (ap (λ v. v / 16) (sym own) ∙ a.0)
      ∙ ap (λ v. eqb (v % 16) 0) (sym own))

-- ---- the refusal of a file and a buffer
module _ (file : List ℕ) (room : ℕ) {bad : ℕ} (e : bad ≡ fault file) where
  pub refusal_file : (bad ≡ 0 → ⊥) → bad ≡ written_refusal file room
  unfolding written_refusal
  refusal_file z = by_file room _ 5 e z

  module _ {count need : ℕ} (z : bad ≡ 0) (d : count ≡ count_of file) (m : need ≡ 3 + 4 * count) where
    pub refusal_room : room < need → 5 ≡ written_refusal file room
    unfolding written_refusal
    refusal_room l = by_room room _ 5 e z (rw (m, d) at l)

    pub refusal_none : need ≤ room → 0 ≡ written_refusal file room
    unfolding written_refusal
    refusal_none l = by_none room _ 5 e z (rw (m, d) at l)
