-- A form of what a file adds to a tally that antt computes quickly, with its proof that it is the definition: its records one after another, each
-- handed the bench and the ledger that the one before left (as crates/definitions/proofs/Quick.antt does of a run). Assumes nothing.
use Prim.Native.Nat.{ℕ, zero, suc, ◌+◌, ◌/◌, ◌%◌}
use native.Mathlib.Omega.{arith}
use mathlib.Core.Path.{◌≡◌, refl, sym, ap, ap₂, ◌∙◌}
use mathlib.Core.Bool.{Bool}
use mathlib.Core.List.{List, [], ◌++◌}
use lib.Dec.{eqb, eqb-suc-zero}
use Rattle.container.specs.Choice.{ite}
use Rattle.definitions.specs.Bench.{Bench, fresh}
use Rattle.definitions.specs.Records.{Result, refused, carried, record_step}
use Rattle.definitions.specs.Versions.{stop_of}
use Rattle.definitions.specs.Schedule.{Rec, record_at, count_of}
use Rattle.definitions.specs.Run.{Progress, row_bytes, row_count, advance_by, advance, after, run_refusal, run_report, report_of, refused_report}
use Rattle.season.specs.Tally.{Tally, empty, sum, Ledger, ledger_of, entered, entered_by, enter, ledger, left_busy, refused_once, records_tally, file_tally, laid}

abbrev progress : Bench → ℕ → ℕ → ℕ → List ℕ → Progress
progress b k d n l = record { bench = b; refusal = k; done = d; finished = n; rows = l }

abbrev step_of : Bench → Rec → Result
step_of b r = record_step b r.last r.first r.second r.extra

-- m records from record i, from where a run stands
abbrev onward : List ℕ → ℕ → ℕ → Progress → Progress
onward f i zero p = p
onward f i (suc m) p = onward f (suc i) m (advance f p (record_at f i))

-- what they enter
abbrev entering : List ℕ → ℕ → ℕ → Progress → Ledger → Ledger
entering f i zero p g = g
entering f i (suc m) p g = entering f (suc i) m (advance f p (record_at f i)) (enter p (record_at f i) g)

onward_after : (f : List ℕ) (i m : ℕ) → onward f i m (after f i) ≡ after f (m + i)
unfolding after
onward_after f i zero = ap (after f) {x = i} {y = 0 + i} (omega arith)
onward_after f i (suc m) = onward_after f (suc i) m ∙ ap (after f) {x = m + suc i} {y = suc m + i} (omega arith)

entering_ledger : (f : List ℕ) (i m : ℕ) → entering f i m (after f i) (ledger f i) ≡ ledger f (m + i)
unfolding after ledger
entering_ledger f i zero = ap (ledger f) {x = i} {y = 0 + i} (omega arith)
entering_ledger f i (suc m) = entering_ledger f (suc i) m ∙ ap (ledger f) {x = m + suc i} {y = suc m + i} (omega arith)

-- a refused record ends the run, and nothing more is entered
onward_refused : (f : List ℕ) (i m : ℕ) (b : Bench) (k d n : ℕ) (l : List ℕ) → onward f i m (progress b (suc k) d n l) ≡ progress b (suc k) d n l
unfolding advance ite
onward_refused f i zero b k d n l = refl
onward_refused f i (suc m) b k d n l =
    ap (λ (c : Bool). onward f (suc i) m (ite c (advance_by f (progress b (suc k) d n l) ((record_at f i).first / 16) (step_of b (record_at f i))) (progress b (suc k) d n l))) (eqb-suc-zero k)
    ∙ onward_refused f (suc i) m b k d n l

entering_refused : (f : List ℕ) (i m : ℕ) (b : Bench) (k d n : ℕ) (l : List ℕ) (g : Ledger) → entering f i m (progress b (suc k) d n l) g ≡ g
unfolding advance enter ite
entering_refused f i zero b k d n l g = refl
entering_refused f i (suc m) b k d n l g =
    ap (λ (c : Bool). entering f (suc i) m
    (ite c (advance_by f (progress b (suc k) d n l) ((record_at f i).first / 16) (step_of b (record_at f i))) (progress b (suc k) d n l))
    (ite c (entered_by (step_of b (record_at f i)) ((record_at f i).first % 16) ((record_at f i).first / 16) (b.threads ((record_at f i).first / 16)) g) g)) (eqb-suc-zero k)
    ∙ entering_refused f (suc i) m b k d n l g

-- a record's result: what comes after it goes on from the bench and the ledger that it left; t is its thread, a its action, m records come
-- after it, from record i
abbrev on {ℓ} : {A : Type ℓ} → Result → ℕ → ℕ → (Bench → ℕ → List ℕ → Ledger → A) → (Progress → Ledger → A) → List ℕ → ℕ → ℕ → Bench → ℕ → ℕ → List ℕ → Ledger
    → A
on (refused zero) a t more end f i m b d n l g = end (onward f i m (progress b 0 d n l)) (entering f i m (progress b 0 d n l) g)
on (refused (suc k)) a t more end f i m b d n l g = end (progress b (suc k) d n l) g
on (carried b' w) a t more end f i m b d n l g = more b' (row_count w + n) (l ++ row_bytes f t (b.threads t) w) (entered a t (b.threads t) w g)

on_onward {ℓ} : {A : Type ℓ} (r : Result) (a t : ℕ) (more : Bench → ℕ → List ℕ → Ledger → A) (end : Progress → Ledger → A)
    (f : List ℕ) (i m : ℕ) (b : Bench) (d n : ℕ) (l : List ℕ) (g : Ledger)
    → ((b' : Bench) (n' : ℕ) (l' : List ℕ) (g' : Ledger) → more b' n' l' g' ≡ end (onward f i m (progress b' 0 (suc d) n' l')) (entering f i m (progress b' 0 (suc d) n' l') g'))
    → on r a t more end f i m b d n l g
    ≡ end (onward f i m (advance_by f (progress b 0 d n l) t r)) (entering f i m (advance_by f (progress b 0 d n l) t r) (entered_by r a t (b.threads t) g))
on_onward (refused zero) a t more end f i m b d n l g h = refl
on_onward (refused (suc k)) a t more end f i m b d n l g h = ap₂ end (sym (onward_refused f i m b k d n l)) (sym (entering_refused f i m b k d n l g))
on_onward (carried b' w) a t more end f i m b d n l g h = h b' (row_count w + n) (l ++ row_bytes f t (b.threads t) w) (entered a t (b.threads t) w g)

-- m records from record i; `end` is told where the run ends, and its ledger
abbrev carry {ℓ} : {A : Type ℓ} → (Progress → Ledger → A) → List ℕ → ℕ → ℕ → Bench → ℕ → ℕ → List ℕ → Ledger → A
carry end f i zero b d n l g = end (progress b 0 d n l) g
carry end f i (suc m) b d n l g =
    on (step_of b (record_at f i)) ((record_at f i).first % 16) ((record_at f i).first / 16) (λ b' n' l' g'. carry end f (suc i) m b' (suc d) n' l' g') end f (suc i) m b d n l g

carry_onward {ℓ} : {A : Type ℓ} (end : Progress → Ledger → A) (f : List ℕ) (i m : ℕ) (b : Bench) (d n : ℕ) (l : List ℕ) (g : Ledger)
    → carry end f i m b d n l g ≡ end (onward f i m (progress b 0 d n l)) (entering f i m (progress b 0 d n l) g)
unfolding advance enter ite
carry_onward end f i zero b d n l g = refl
carry_onward end f i (suc m) b d n l g =
    on_onward (step_of b (record_at f i)) ((record_at f i).first % 16) ((record_at f i).first / 16) (λ b' n' l' g'. carry end f (suc i) m b' (suc d) n' l' g') end f (suc i) m b d n l g
    (λ b' n' l' g'. carry_onward end f (suc i) m b' (suc d) n' l' g')

-- the run of a file
abbrev forward {ℓ} : {A : Type ℓ} → (Progress → Ledger → A) → List ℕ → ℕ → A
forward end file k = carry end file 0 k (fresh (stop_of file)) 0 0 [] (ledger_of (λ _. 0) empty)

forward_after {ℓ} : {A : Type ℓ} (end : Progress → Ledger → A) (file : List ℕ) (k : ℕ) → forward end file k ≡ end (after file k) (ledger file k)
unfolding after ledger
forward_after end file k =
    carry_onward end file 0 k (fresh (stop_of file)) 0 0 [] (ledger_of (λ _. 0) empty)
    ∙ ap₂ end (onward_after file 0 k ∙ ap (after file) {x = k + 0} {y = k} (omega arith)) (entering_ledger file 0 k ∙ ap (ledger file) {x = k + 0} {y = k} (omega arith))

-- ---- the tally of a file

abbrev tally_by : List ℕ → ℕ → Progress → Ledger → Tally
tally_by file n p g = sum (refused_once (ite (eqb (run_refusal file n) 0) (report_of p) (refused_report (run_refusal file n))).refusal)
    (ite (eqb (run_refusal file n) 0) (sum g.counts (left_busy p.bench.threads)) empty)

abbrev pub quick_tally : List ℕ → ℕ → List ℕ
quick_tally file n = forward (λ p g. laid (tally_by file n p g)) file (count_of file)

pub quick_tally_laid : (file : List ℕ) (n : ℕ) → quick_tally file n ≡ laid (file_tally file n)
unfolding file_tally records_tally run_report
quick_tally_laid file n = forward_after (λ p g. laid (tally_by file n p g)) file (count_of file)
