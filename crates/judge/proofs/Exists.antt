-- Every file has a report: with Unique.antt, the definition is a function. Assumes nothing.
use Rattle.std.proofs.lemmas.Bool.{cases_Bool, and_parts}
use Rattle.std.specs.Prelude.{Option, Some, None}
use mathlib.Core.Path.{◌≡◌, refl, sym, ◌∙◌}
use mathlib.Core.Logic.{◌⊎◌, inl, inr}
use mathlib.Core.Bool.{Bool, true, false, not, ◌||◌, true≢false, Bool-discrete}
use mathlib.Core.List.{List, []}
use Prim.Native.Nat.{ℕ, zero, suc, ◌+◌, ◌<◌, ◌≤◌, ◌^◌}
use native.Mathlib.Omega.{arith}
use native.Mathlib.Decide.{dec_lt}
use lib.Dec.{eqb, ltb}
use lib.Pow.{pow_pos}
use borrow.Author.Tests.{eq-eqb, ltb-true, ltb-false}
use Rattle.container.specs.Choice.{ite}
use Rattle.container.specs.Container.{has, insert}
use Rattle.definitions.specs.Schedule.{count_of}
use Rattle.definitions.specs.History.{Event, Events, events_of, Operations, Reading, begun, ended_by, noted, in_range, in_place}
use Rattle.definitions.specs.History.{reading, all_in_place, unfinished, reading_of, form_refusal, events_refusal, history_refusal}
use Rattle.definitions.specs.Judgement.{action_of, reply, padded, accepts, rejects, Decided, JudgementBy, Judgement}
use Rattle.judge.specs.Search.{state, Fitting, Before, Sound, Entry, dead, alive}
use Rattle.judge.specs.Standing.{Proper}
use Rattle.definitions.specs.declared.Judged.{Judged}
use Rattle.judge.specs.declared.Next.{Next}
use Rattle.judge.specs.declared.Next.TheVariants.{Dead, Done, Go}
use Rattle.judge.proofs.Tools.{◌==?◌}
use Rattle.judge.proofs.Rest.{head_fits, head_before, tail_rest, first_order, no_order}
use Rattle.judge.proofs.Table.{insert_below, insert_above, Goes, Lower, Left, choose_here, lower_none, lower_done, lower_stuck, left_none, left_done, left_some, entry_dead, entry_full}
use Rattle.judge.proofs.Noting.{proper_begun, proper_ended}
use Rattle.judge.proofs.Whole.{unread_proper}

-- ---- readings of events in place are proper
station_of : (e : Event) (R : Reading) → in_place e R ≡ true → e.station < 64
unfolding in_place
station_of e R p =
    let q0 = (and_parts (ltb e.thread 4) _ (and_parts (in_range e) _ p).0).1 in
    let q1 = (and_parts (ltb 0 e.action) _ q0).1 in
    let q2 = (and_parts (ltb e.action 4) _ q1).1 in
    ltb-true e.station 64 (and_parts (ltb e.station 64) (ltb e.mark 3) q2).0

proper_noted : (e : Event) (R : Reading) → in_place e R ≡ true → Proper R → Proper (noted e R)
unfolding ite
proper_noted e R p h = by (eqb e.mark 0)
  where
    open_by : (k : Option ℕ) → R.busy e.thread ≡ k → Proper (ended_by k e R)
    open_by None q = h
    open_by (Some k) q = proper_ended R e k (h.busy e.thread k q) h

    by : (c : Bool) → Proper (ite c (begun e R) (ended_by (R.busy e.thread) e R))
    by true = proper_begun R e (station_of e R p) h
    by false = open_by (R.busy e.thread) refl

proper_all : (E : Events) (n : ℕ) → all_in_place E n ≡ true → Proper (reading E n)
unfolding all_in_place reading
proper_all E zero p = unread_proper
proper_all E (suc n) p = let q = and_parts (all_in_place E n) (in_place (E n) (reading E n)) p in proper_noted (E n) (reading E n) q.1 (proper_all E n q.0)

-- ---- every mask has an entry
every : (f : ℕ → Bool) (n : ℕ) → ((j : ℕ) → j < n → f j ≡ true) ⊎ ((j : ℕ) × (j < n) × (f j ≡ false))
every f zero = inl (λ j h. absurd (omega arith))
every f (suc n) = elim (every f n) [
  | inl all ↦ elim (cases_Bool (f n)) [ inl q ↦ inl (λ j h. elim (j ==? n) [ yes w ↦ rw w q | no w ↦ all j (omega arith) ]) | inr q ↦ inr (n, omega arith, q) ]
  | inr x ↦ inr (x.0, omega (arith, x.1), x.2)
]

module _ (R : Operations) (sound : Sound R) where
  Before_or : (M i : ℕ) → i < R.count → Before R M i ⊎ (Before R M i → ⊥)
  Before_or M i h = elim (every (λ j. not ((R.operation i).finished_before j) || has M j) R.count) [
    | inl all ↦ inl (λ j e. pass ((R.operation i).finished_before j) (has M j) e (all j (sound.lower i j h e).0))
    | inr x ↦ inr (λ b. fail ((R.operation i).finished_before x.0) (has M x.0) (b x.0) x.2)
  ]
    where
      pass : (a c : Bool) → a ≡ true → not a || c ≡ true → c ≡ true
      pass true c e q = q
      pass false c e q = absurd (true≢false (sym e))

      fail : (a c : Bool) → (a ≡ true → c ≡ true) → not a || c ≡ false → ⊥
      fail true c f q = true≢false (sym (f refl) ∙ q)
      fail false c f q = true≢false q

  abbrev Has : ℕ → Type 0
  Has M = (v : Next) × Entry R M v

  goes : (M i : ℕ) → i < R.count → has M i ≡ false → Has (insert M i) → (r : Bool) × Goes R M i r
  goes M i h out (v, e) = elim (Before_or M i h) [
    | inr n ↦ (false, (λ q. absurd (true≢false (sym q)), λ _ l r. n (head_before R sound M i l r)))
    | inl b ↦ elim (Bool-discrete (R.operation i).yes (reply (action_of (R.operation i).action) (R.operation i).station (state R M))) [
      | no n ↦ (false, (λ q. absurd (true≢false (sym q)), λ _ l r. n (head_fits R sound M i l r)))
      | yes f ↦ by b f e
    ]
  ]
    where
      by : Before R M i → Fitting R M i → Entry R (insert M i) v → (r : Bool) × Goes R M i r
      by b f (dead none _) = (false, (λ q. absurd (true≢false (sym q)), λ _ l r. none l (tail_rest R sound M i l r)))
      by b f (alive l best _) = (true, (λ _. (f, (b, (l, best))), λ q. absurd (true≢false q)))

  scan : (M : ℕ) → ((i : ℕ) → i < R.count → has M i ≡ false → Has (insert M i)) → (d i : ℕ) (left : Bool) → R.count ≤ i + d → Lower R M i → Left R M i left → Has M
  scan M more zero i true h low lf = (Dead, entry_dead R M sound i true (omega arith) low lf refl)
  scan M more zero i false h low lf = (Done, entry_full R M sound i false (omega arith) lf refl)
  scan M more (suc d) i left h low lf = elim (dec_lt i R.count) [
    | no n ↦ scan M more d i left (omega arith) low lf
    | yes here ↦ elim (cases_Bool (has M i)) [
      | inl q ↦ scan M more d (i + 1) left (omega arith) (lower_done R M sound i low refl q) (left_done R M sound i left lf refl q)
      | inr q ↦ next here q (goes M i here q (more i here q)) (scan M more d (i + 1) true (omega arith))
    ]
  ]
    where
      next : i < R.count → has M i ≡ false → (r : Bool) × Goes R M i r → (Lower R M (i + 1) → Left R M (i + 1) true → Has M) → Has M
      next here q (true, g) go = (Go i, choose_here R M sound i here q low g refl)
      next here q (false, g) go = go (lower_stuck R M sound i low g refl) (left_some R M sound i here q)

  entry_all : (d M : ℕ) → M < 2 ^ R.count → 2 ^ R.count ≤ M + d → Has M
  entry_all zero M h l = absurd (omega arith)
  entry_all (suc d) M h l = scan M (λ i here out. entry_all d (insert M i) (insert_below M i R.count here sound.few h) (omega (arith, insert_above M i (omega (arith, sound.few, here)) out)))
      R.count 0 false (omega arith) (lower_none R M sound) (left_none R M sound)

-- ---- the report
sound_of : (R : Reading) → Proper R → R.all.count ≤ 12 → Sound R.all
sound_of R p few = record { few = few; lower = λ i j h q. (omega (arith, p.lower i j q), λ e. omega (arith, p.lower i j q)) }

verdict_of : (R : Operations) → Sound R → (r : Judged) × Decided R r
verdict_of R sound = go (entry_all R sound (2 ^ R.count) 0 (pow_pos R.count) (omega arith))
  where
    go : (v : Next) × Entry R 0 v → (r : Judged) × Decided R r
    go (v, dead h _) = (record { refusal = 0; accepted = false; operations = R.count; order = padded [] }, record { number = refl; operations = refl; verdict = rejects (no_order R h) refl refl })
    go (v, alive l b _) = (
      record { refusal = 0; accepted = true; operations = R.count; order = padded l },
      record { number = refl; operations = refl; verdict = accepts l (first_order R l b) refl refl },
    )

-- a file that is not refused
right_events : (E : Events) (n : ℕ) → events_refusal E n ≡ 0 → (all_in_place E n ≡ true) × ((reading E n).all.count ≤ 12)
unfolding events_refusal ite
right_events E n z = by (all_in_place E n) refl (ltb 12 (reading E n).all.count) refl z
  where
    by : (a : Bool) → all_in_place E n ≡ a → (c : Bool) → ltb 12 (reading E n).all.count ≡ c → ◌≡◌ {A = ℕ} (ite a (ite c 22 (ite (unfinished (reading E n)) 23 0)) 21) 0
        → (all_in_place E n ≡ true) × ((reading E n).all.count ≤ 12)
    by false a c q z = absurd (omega (arith, z))
    by true a true q z = absurd (omega (arith, z))
    by true a false q z = (a, omega (arith, ltb-false 12 (reading E n).all.count q))

right_file : (file : List ℕ) → history_refusal file ≡ 0 → events_refusal (events_of file) (count_of file) ≡ 0
unfolding history_refusal ite
right_file file z = by (eqb (form_refusal file) 0) refl z
  where
    by : (c : Bool) → eqb (form_refusal file) 0 ≡ c → ite c (events_refusal (events_of file) (count_of file)) (form_refusal file) ≡ 0 → events_refusal (events_of file) (count_of file) ≡ 0
    by true q z = z
    by false q z = absurd (true≢false (sym (eq-eqb (form_refusal file) 0 z) ∙ q))

pub report_exists : (file : List ℕ) → (r : Judged) × Judgement file r
report_exists file = by (history_refusal file) refl
  where
    by : (k : ℕ) → history_refusal file ≡ k → (r : Judged) × JudgementBy k file r
    by zero z = let q = right_events (events_of file) (count_of file) (right_file file z) in
        verdict_of (reading_of file).all (sound_of (reading_of file) (proper_all (events_of file) (count_of file) q.0) q.1)
    by (suc k) z = (record { refusal = suc k; accepted = false; operations = 0; order = padded [] }, record { number = refl; nothing = (refl, refl, refl) })
