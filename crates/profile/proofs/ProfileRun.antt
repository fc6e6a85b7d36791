-- The profile run of a file: it is Run's up to a record that is barred, so what holds of every run's tree holds of it, and its claim holds at every moment.
use Prim.Native.Nat.{ℕ, zero, suc, ◌/◌, ◌%◌, ◌≤◌}
use mathlib.Core.Path.{◌≡◌, refl, sym, ◌∙◌, ap, subst}
use mathlib.Core.Logic.{◌≢◌}
use mathlib.Core.Bool.{Bool, true, false}
use mathlib.Core.List.{List, [], ◌∷◌, ◌++◌}
use native.Mathlib.Omega.{arith}
use lib.ListN.{length}
use lib.Dec.{leb}
use borrow.Author.Tests.{eq-eqb, ne_eqb, lt-ltb, leb-false}
use Rattle.container.specs.Choice.{ite}
use Rattle.definitions.specs.Bench.{Bench}
use Rattle.definitions.specs.Tree.{stored}
use Rattle.definitions.specs.Records.{Result, refused, carried, record_step}
use Rattle.definitions.specs.Schedule.{Rec, stop_of, count_of, records_of, record_at, file_refusal}
use Rattle.definitions.specs.Run.{Progress, begin, advance_by, advance, after, run_refusal}
use Rattle.definitions.specs.Profile.{barred, profile_step, profile_advance, profile_after, profile_refusal, profile_report, profile_buffer}
use Rattle.answers.proofs.Tools.{on, off, test, ◌==?◌}
use Rattle.answers.proofs.Reach.{reach_stored}
use Rattle.answers.proofs.RunSet.{Numbered, numbered}
use Rattle.profile.specs.Cut.{stopped_run}
use Rattle.profile.specs.Claim.{Calm, counted, Past, Throughout, steps_by, Sound, Behind, same, halted, OneWriterFiles}
use Rattle.profile.proofs.OneWriter.{one_writer}
use Rattle.profile.proofs.ByRun.{on_step, off_step, stopped_at}
use Rattle.profile.proofs.Said.{rows_say}

-- ---- one record

run_on : (file : List ℕ) (p : Progress) (r : Rec) → p.refusal ≡ 0 → advance file p r ≡ advance_by file p (r.first / 16) (record_step p.bench r.last r.first r.second r.extra)
unfolding advance ite
run_on file p r e = rw (eq-eqb p.refusal 0 e)

run_off : (file : List ℕ) (p : Progress) (r : Rec) → p.refusal ≢ 0 → advance file p r ≡ p
unfolding advance ite
run_off file p r h = rw (ne_eqb p.refusal 0 h)

allowed : (b : Bench) (r : Rec) → barred r ≡ false → profile_step b r ≡ record_step b r.last r.first r.second r.extra
unfolding profile_step ite
allowed b r e = rw e

-- ---- a profile run is Run's, or Run's stopped with 24 after j records

pub behind : (file : List ℕ) (k : ℕ) → Behind file k (profile_after file k)
unfolding profile_after after
behind file zero = same refl
behind file (suc k) = go (profile_after file k) (behind file k)
  where
    go : (p : Progress) → Behind file k p → Behind file (suc k) (profile_advance file p (record_at file k))
    go p (halted j l z h e) = rw (off_step file p (record_at file k) (λ i. clash_24 (sym (ap (λ q. q.refusal) e) ∙ i))) (halted j (omega arith) z h e)
      where
        clash_24 : ◌≡◌ {A = ℕ} 24 0 → ⊥
        clash_24 e = omega arith
    go p (same e) = elim (p.refusal ==? 0) [
      | yes i ↦ rw (on_step file p (record_at file k) i) (by (barred (record_at file k)) refl i)
      | no i ↦ rw (off_step file p (record_at file k) i) (same (sym (run_off file p (record_at file k) i) ∙ ap (λ q. advance file q (record_at file k)) e))
    ]
      where
        by : (q : Bool) → barred (record_at file k) ≡ q → p.refusal ≡ 0 → Behind file (suc k) (advance_by file p ((record_at file k).first / 16) (profile_step p.bench (record_at file k)))
        by true z i = rw (stopped_at p.bench (record_at file k) z) (halted k (omega arith) (sym (ap (λ q. q.refusal) e) ∙ i) z (ap stopped_run e))
        by false z i = rw (allowed p.bench (record_at file k) z) (same (sym (run_on file p (record_at file k) i) ∙ ap (λ q. advance file q (record_at file k)) e))

-- so its bench is one of Run's, and what holds of every run's bench holds of it: for instance the stored count's bound
pub profile_bench : (file : List ℕ) (k : ℕ) → (j : ℕ) × ((profile_after file k).bench ≡ (after file j).bench)
profile_bench file k = go (behind file k)
  where
    go : Behind file k (profile_after file k) → (j : ℕ) × ((profile_after file k).bench ≡ (after file j).bench)
    go (same e) = (k, ap (λ q. q.bench) e)
    go (halted j _ _ _ e) = (j, ap (λ q. q.bench) e)

pub profile_stored : (file : List ℕ) (k : ℕ) → stored (profile_after file k).bench ≤ 64
profile_stored file k = let (j, e) = profile_bench file k in rw e (reach_stored file j)

-- ---- the claim at every moment of a file's profile run

all_of : List ℕ → List Rec → Progress → Progress
all_of file [] p = p
all_of file (r ∷ rs) p = all_of file rs (profile_advance file p r)

all_last : (file : List ℕ) (rs : List Rec) (r : Rec) (p : Progress) → all_of file (rs ++ r ∷ []) p ≡ profile_advance file (all_of file rs p) r
unfolding all_of
all_last file [] r p = refl
all_last file (q ∷ rs) r p = all_last file rs r (profile_advance file p q)

after_is : (file : List ℕ) (k : ℕ) → profile_after file k ≡ all_of file (records_of file k) (begin (stop_of file))
unfolding profile_after records_of all_of
after_is file zero = refl
after_is file (suc k) = ap (λ p. profile_advance file p (record_at file k)) (after_is file k) ∙ sym (all_last file (records_of file k) _ (begin (stop_of file)))

stuck : (file : List ℕ) (rs : List Rec) (p : Progress) → p.refusal ≢ 0 → all_of file rs p ≡ p
unfolding all_of
stuck file [] p h = refl
stuck file (r ∷ rs) p h = ap (λ q. all_of file rs q) (off_step file p r h) ∙ stuck file rs p h

number : (b : Bench) (r : Rec) → Numbered (profile_step b r)
unfolding profile_step ite
number b r = go (barred r)
  where
    go : (q : Bool) → Numbered (ite q (refused 24) (record_step b r.last r.first r.second r.extra))
    go true = λ e. omega arith
    go false = numbered b r.last r.first r.second r.extra

list_calm : (file : List ℕ) (rs : List Rec) (p : Progress) (c : ℕ → ℕ) → p.refusal ≡ 0 → Throughout rs p.bench c → Calm (all_of file rs p).bench
unfolding all_of
list_calm file [] p c e h = h
list_calm file (r ∷ rs) p c e (now, h) = subst (λ q. Calm (all_of file rs q).bench) (sym (on_step file p r e))
    (go (profile_step p.bench r) (number p.bench r) h (λ q. list_calm file rs q _))
  where
    go : (o : Result) → Numbered o → Past o p.bench (r.first / 16) (counted (r.first % 16) (r.first / 16) c) (λ b'. Throughout rs b' (counted (r.first % 16) (r.first / 16) c))
        → ((q : Progress) → q.refusal ≡ 0 → Throughout rs q.bench (counted (r.first % 16) (r.first / 16) c) → Calm (all_of file rs q).bench)
        → Calm (all_of file rs (advance_by file p (r.first / 16) o)).bench
    go (refused n) k _ ih = rw (stuck file rs (advance_by file p (r.first / 16) (refused n)) k) now
    go (carried b' w) k (_, _, t) ih = ih (advance_by file p (r.first / 16) (carried b' w)) refl t

-- a file that is not of version 3 starts as a list does
off_start : (file : List ℕ) (rs : List Rec) → stop_of file ≡ false → Throughout rs (begin (stop_of file)).bench (λ _. 0)
off_start file rs e = subst (λ v. Throughout rs (begin v).bench (λ _. 0)) (sym e) (one_writer rs)

pub profile_calm : (file : List ℕ) (k : ℕ) → stop_of file ≡ false → Calm (profile_after file k).bench
profile_calm file k e = rw (after_is file k) (list_calm file (records_of file k) (begin (stop_of file)) (λ _. 0) refl (off_start file (records_of file k) e))

-- ---- and of every record

-- of a record, without what comes after it
this : (o : Result) (b : Bench) (t : ℕ) (c : ℕ → ℕ) (C : Bench → Type 0) → Past o b t c C → Past o b t c (λ _. Unit {0})
this (refused _) b t c C h = tt
this (carried b' w) b t c C (i, j, _) = (i, j, tt)

list_past : (file : List ℕ) (rs : List Rec) (r : Rec) (p : Progress) (c : ℕ → ℕ) → p.refusal ≡ 0 → Throughout (rs ++ r ∷ []) p.bench c → (all_of file rs p).refusal ≡ 0
    → Past (profile_step (all_of file rs p).bench r) (all_of file rs p).bench (r.first / 16) (counted (r.first % 16) (r.first / 16) (steps_by rs c)) (λ _. Unit {0})
unfolding all_of
list_past file [] r p c e (now, h) i = this (profile_step p.bench r) p.bench (r.first / 16) (counted (r.first % 16) (r.first / 16) c) _ h
list_past file (q ∷ rs) r p c e (now, h) i = subst Ok (sym (on_step file p q e))
    (go (profile_step p.bench q) (number p.bench q) h (λ v. list_past file rs r v _)) i
  where
    c' : ℕ → ℕ
    c' = counted (q.first % 16) (q.first / 16) c

    Ok : Progress → Type 0
    Ok v = (all_of file rs v).refusal ≡ 0
        → Past (profile_step (all_of file rs v).bench r) (all_of file rs v).bench (r.first / 16) (counted (r.first % 16) (r.first / 16) (steps_by rs c')) (λ _. Unit {0})

    go : (o : Result) → Numbered o → Past o p.bench (q.first / 16) c' (λ b'. Throughout (rs ++ r ∷ []) b' c')
        → ((v : Progress) → v.refusal ≡ 0 → Throughout (rs ++ r ∷ []) v.bench c' → Ok v) → Ok (advance_by file p (q.first / 16) o)
    go (refused n) k _ ih = λ j. absurd (k (sym (ap (λ v. v.refusal) (stuck file rs (advance_by file p (q.first / 16) (refused n)) k)) ∙ j))
    go (carried b' w) k (_, _, t) ih = ih (advance_by file p (q.first / 16) (carried b' w)) refl t

profile_sound : (file : List ℕ) → stop_of file ≡ false → (k : ℕ) → Sound file k
unfolding records_of
profile_sound file e k = record {
  calm = profile_calm file k e;
  past = subst (λ p. p.refusal ≡ 0 → Past (profile_step p.bench (record_at file k)) p.bench ((record_at file k).first / 16)
      (counted ((record_at file k).first % 16) ((record_at file k).first / 16) (steps_by (records_of file k) (λ _. 0))) (λ _. Unit {0}))
      (sym (after_is file k)) (list_past file (records_of file k) (record_at file k) (begin (stop_of file)) (λ _. 0) refl (off_start file (records_of file (suc k)) e));
}

-- ---- what is handed back

-- a file that is not refused is not of version 3
refused_3 : (file : List ℕ) (n : ℕ) → stop_of file ≡ true → profile_refusal file n ≢ 0
unfolding profile_refusal run_refusal file_refusal ite
refused_3 file n z = elim (test (leb 3 (length file))) [
  | on l ↦ rw (l, z) (λ e. omega arith)
  | off l ↦ rw (l, lt-ltb (length file) 3 (leb-false 3 (length file) l)) (λ e. omega arith)
]

not_3 : (file : List ℕ) (n : ℕ) → profile_refusal file n ≡ 0 → stop_of file ≡ false
not_3 file n e = elim (test (stop_of file)) [ on z ↦ absurd (refused_3 file n z e) | off z ↦ z ]

-- request l, by files
pub one_writer_files : OneWriterFiles
unfolding profile_report profile_buffer ite
one_writer_files file buffer e = record {
  report = rw (eq-eqb (profile_refusal file (length buffer)) 0 e);
  rows = rw (eq-eqb (profile_refusal file (length buffer)) 0 e);
  held = profile_sound file (not_3 file (length buffer) e);
  behind = behind file (count_of file);
  said = rw (eq-eqb (profile_refusal file (length buffer)) 0 e) (rows_say file (profile_sound file (not_3 file (length buffer) e)) buffer (count_of file));
}
