-- The rows of a profile run, by their bytes: a split's or join's says 1, or 2. By induction over the records, from what is claimed of each. Assumes nothing.
use Prim.Native.Nat.{ℕ, zero, suc, ◌+◌, ◌*◌, ◌/◌, ◌%◌, ◌<◌}
use mathlib.Core.Path.{◌≡◌, refl, sym, ap, ◌∙◌}
use mathlib.Core.Logic.{◌⊎◌, inl, inr, ⊎_elim}
use mathlib.Core.Bool.{Bool, true, false}
use mathlib.Core.List.{List, [], ◌∷◌, ◌++◌, append-nil}
use native.Mathlib.Numerals.{add-one}
use native.Mathlib.Omega.{arith}
use lib.Dec.{eqb}
use lib.ListN.{length, get_or, drop, length-append, get_or-append}
use lib.Seq.{get_or-append-add}
use Rattle.container.specs.Choice.{ite}
use Rattle.definitions.specs.Bench.{Store}
use Rattle.definitions.specs.Answers.{answer_number}
use Rattle.definitions.specs.Records.{no_row, row, Result, refused, carried, action_number}
use Rattle.definitions.specs.Versions.{version}
use Rattle.definitions.specs.Schedule.{records_of, record_at}
use Rattle.definitions.specs.Run.{Progress, bytes_of, wider_row, row_width, advance_by, overlay}
use Rattle.definitions.specs.Profile.{profile_step, profile_after}
use Rattle.definitions.specs.declared.Answer.{Answer}
use Rattle.definitions.specs.declared.Answer.TheVariants.{Yes, Lacking}
use Rattle.definitions.specs.declared.Action.{Action}
use Rattle.definitions.specs.declared.Action.TheVariants.{Lookup, Insert, Remove, Split, Join, Query}
use Rattle.definitions.specs.Threads.{Thread}
use Rattle.answers.proofs.Tools.{◌==?◌}
use Rattle.profile.specs.Claim.{counted, Joined, Past, steps_by, Sound, row_byte, Says}
use Rattle.profile.proofs.ByRun.{on_step, off_step}

-- ---- rows of w bytes, n of them

record Told (w : ℕ) (rows : List ℕ) (n : ℕ) : Type 0 where
  size : length rows ≡ w * n
  says : (i : ℕ) → i < n → Says (get_or rows (w * i + 1) 0) (get_or rows (w * i + 3) 0)

-- v: version 1
abbrev wide : Bool → ℕ
wide v = ite v 4 14

-- one row more
module _ (v : Bool) (rows more : List ℕ) (n t x s y : ℕ) (h : Told (wide v) rows n) (m : length more ≡ ite v 0 10) (z : Says x y) where
  all : List ℕ
  all = rows ++ t ∷ x ∷ s ∷ y ∷ more

  grown : length all ≡ wide v * suc n
  unfolding all ite
  grown = length-append rows (t ∷ x ∷ s ∷ y ∷ more) ∙ by v h.size m
    where
      by : (v : Bool) → length rows ≡ wide v * n → length more ≡ ite v 0 10 → length rows + suc (suc (suc (suc (length more)))) ≡ wide v * suc n
      by true e f = omega arith
      by false e f = omega arith

  -- a byte of an earlier row, and of this one
  earlier : (i j : ℕ) → i < n → j < 4 → get_or all (wide v * i + j) 0 ≡ get_or rows (wide v * i + j) 0
  unfolding all ite
  earlier i j l k = get_or-append rows (t ∷ x ∷ s ∷ y ∷ more) 0 (wide v * i + j) (by v h.size)
    where
      by : (v : Bool) → length rows ≡ wide v * n → wide v * i + j < length rows
      by true e = omega arith
      by false e = omega arith

  here : (j : ℕ) → get_or all (wide v * n + j) 0 ≡ get_or (t ∷ x ∷ s ∷ y ∷ more) j 0
  unfolding all
  here j = ap (λ k. get_or (rows ++ t ∷ x ∷ s ∷ y ∷ more) (k + j) 0) (sym h.size) ∙ get_or-append-add rows (t ∷ x ∷ s ∷ y ∷ more) j 0

  one_more_lem : Told (wide v) all (suc n)
  one_more_lem = record {
    size = grown;
    says = λ i l. elim (i ==? n) [
      | yes e ↦ rw (e, here 1, here 3) z
      | no e ↦ rw (earlier i 1 (omega arith) (omega arith), earlier i 3 (omega arith) (omega arith)) (h.says i (omega arith))
    ];
  }

-- ---- what is claimed of a record, as its row says it

says_by : (o : Action) (a : Answer) → (o ≡ Join → (a ≡ Yes) ⊎ (a ≡ Lacking)) → (o ≡ Split → (a ≡ Yes) ⊎ (a ≡ Lacking)) → Says (action_number o) (answer_number a)
says_by Lookup a j s = λ h _. absurd (omega arith)
says_by Insert a j s = λ h _. absurd (omega arith)
says_by Remove a j s = λ h _. absurd (omega arith)
says_by Split a j s = λ _ _. ⊎_elim (λ e. inl (ap answer_number e)) (λ e. inr (ap answer_number e)) (s refl)
says_by Join a j s = λ _ _. ⊎_elim (λ e. inl (ap answer_number e)) (λ e. inr (ap answer_number e)) (j refl)
says_by Query a j s = λ _ h. absurd (omega arith)

joined_says : (a : Answer) (d c : ℕ) (s : Store) (th : Thread) → Joined (row a d c) s th → Says (action_number th.action) (answer_number a)
joined_says a d c s th (j, k) = says_by th.action a (λ e. ⊎_elim inl (λ q. inr q.0) (j e)) (λ e. ⊎_elim inl (λ q. inr q.0) (k e))

-- ---- the records

bytes_length : (k n : ℕ) → length (bytes_of k n) ≡ k
unfolding bytes_of
bytes_length zero n = refl
bytes_length (suc k) n = length-append (bytes_of k (n / 256)) (n % 256 ∷ []) ∙ (ap (λ m. m + 1) (bytes_length k (n / 256)) ∙ add-one k)

-- what version 2 adds to a row
rest_length : (v : Bool) (d c : ℕ) → length (ite v [] (wider_row d c)) ≡ ite v 0 10
unfolding ite
rest_length true d c = refl
rest_length false d c = ap (λ m. suc (suc m)) (bytes_length 8 c)

again : {w : ℕ} {rows : List ℕ} {n m : ℕ} → m ≡ n → Told w rows n → Told w rows m
again e h = rw e h

module _ (file : List ℕ) where
  abbrev Good : Progress → Type 0
  Good p = Told (row_width file) p.rows p.finished

  record_good : (p : Progress) (t : ℕ) (o : Result) (c : ℕ → ℕ) → Good p → Past o p.bench t c (λ _. Unit {0}) → Good (advance_by file p t o)
  unfolding all
  record_good p t (refused n) c g h = g
  record_good p t (carried b no_row) c g h = rw (append-nil p.rows) (again (omega arith) g)
  record_good p t (carried b (row a d e)) c g (_, j, _) =
      again (omega arith)
      (one_more_lem (eqb (version file) 1) p.rows (ite (eqb (version file) 1) [] (wider_row d e)) p.finished t (action_number (p.bench.threads t).action) (p.bench.threads t).station (answer_number a)
      g (rest_length (eqb (version file) 1) d e) (joined_says a d e p.bench.store (p.bench.threads t) j))

  all_good : (sound : (k : ℕ) → Sound file k) (k : ℕ) → Good (profile_after file k)
  unfolding profile_after
  all_good sound zero = record { size = none (eqb (version file) 1); says = λ i l. absurd (omega arith) }
    where
      none : (v : Bool) → 0 ≡ wide v * 0
      none v = omega arith
  all_good sound (suc k) = elim ((profile_after file k).refusal ==? 0) [
    | yes e ↦ rw (on_step file (profile_after file k) (record_at file k) e)
        (record_good (profile_after file k) ((record_at file k).first / 16) (profile_step (profile_after file k).bench (record_at file k))
        (counted ((record_at file k).first % 16) ((record_at file k).first / 16) (steps_by (records_of file k) (λ _. 0))) (all_good sound k) ((sound k).past e))
    | no e ↦ rw (off_step file (profile_after file k) (record_at file k) e) (all_good sound k)
  ]

  -- in the lent buffer
  lent : (rows buffer : List ℕ) (n : ℕ) → Told (row_width file) rows n → (i : ℕ) → i < n → Says (row_byte file (overlay rows buffer) i 1) (row_byte file (overlay rows buffer) i 3)
  unfolding ite
  lent rows buffer n h i l = rw (byte 1 (omega arith), byte 3 (omega arith)) (h.says i l)
    where
      inside : (v : Bool) (j : ℕ) → j < 4 → length rows ≡ wide v * n → wide v * i + j < length rows
      inside true j k e = omega arith
      inside false j k e = omega arith

      byte : (j : ℕ) → j < 4 → get_or (overlay rows buffer) (row_width file * i + j) 0 ≡ get_or rows (row_width file * i + j) 0
      byte j k = get_or-append rows (drop (length rows) buffer) 0 (row_width file * i + j) (inside (eqb (version file) 1) j k h.size)

  pub rows_say : (sound : (k : ℕ) → Sound file k) (buffer : List ℕ) (k i : ℕ) → i < (profile_after file k).finished
      → Says (row_byte file (overlay (profile_after file k).rows buffer) i 1) (row_byte file (overlay (profile_after file k).rows buffer) i 3)
  rows_say sound buffer k i l = lent (profile_after file k).rows buffer (profile_after file k).finished (all_good sound k) i l
