-- The history of a run has Run's own rows, byte for byte, and ends at Run's own bench; and each of its numbers is a byte. Assumes nothing.
use mathlib.Core.Path.{◌≡◌, refl, sym, ◌∙◌, ap}
use mathlib.Core.Logic.{◌≢◌}
use mathlib.Core.List.{List, [], ◌∷◌, ◌++◌, append_assoc, append-nil}
use Prim.Native.Nat.{ℕ, zero, suc, ◌/◌, ◌%◌, ◌≤◌}
use native.Mathlib.Omega.{arith}
use lib.ListN.{length, length-append}
use borrow.Author.Tests.{eq-eqb, ne_eqb}
use Rattle.container.specs.Choice.{ite}
use Rattle.definitions.specs.declared.Answer.{Answer}
use Rattle.definitions.specs.Bench.{Bench, fresh}
use Rattle.definitions.specs.Records.{Row, no_row, row, Result, refused, carried, record_step}
use Rattle.definitions.specs.Schedule.{stop_of, Rec, version, record_at, records_of, count_of}
use Rattle.definitions.specs.Run.{Progress, begin, row_bytes, advance_by, advance, after, ended}
use Rattle.definitions.specs.History.{Event}
use Rattle.definitions.specs.Written.{event_of, events_by, events_from, row_of, rows_of}
use Rattle.passing.specs.Lists.{end_by, end_from}
use Rattle.passing.proofs.Did.{Did, did}

-- ---- a run as a walk over a list of records
unfoldable pub walk : List ℕ → List Rec → Progress → Progress
walk file [] p = p
walk file (r ∷ rs) p = walk file rs (advance file p r)

walk_last : (file : List ℕ) (rs : List Rec) (r : Rec) (p : Progress) → walk file (rs ++ r ∷ []) p ≡ advance file (walk file rs p) r
unfolding walk
walk_last file [] r p = refl
walk_last file (q ∷ rs) r p = walk_last file rs r (advance file p q)

pub walk_is : (file : List ℕ) (k : ℕ) → after file k ≡ walk file (records_of file k) (begin (stop_of file))
unfolding after records_of walk
walk_is file zero = refl
walk_is file (suc k) = ap (λ p. advance file p (record_at file k)) (walk_is file k) ∙ sym (walk_last file (records_of file k) _ (begin (stop_of file)))

pub advance_on : (file : List ℕ) (p : Progress) (r : Rec) → p.refusal ≡ 0 → advance file p r ≡ advance_by file p (r.first / 16) (record_step p.bench r.last r.first r.second r.extra)
unfolding advance ite
advance_on file p r e = rw (eq-eqb p.refusal 0 e)

pub advance_off : (file : List ℕ) (p : Progress) (r : Rec) → p.refusal ≢ 0 → advance file p r ≡ p
unfolding advance ite
advance_off file p r h = rw (ne_eqb p.refusal 0 h)

pub stuck : (file : List ℕ) (rs : List Rec) (p : Progress) → p.refusal ≢ 0 → walk file rs p ≡ p
unfolding walk
stuck file [] p h = refl
stuck file (r ∷ rs) p h = ap (walk file rs) (advance_off file p r h) ∙ stuck file rs p h

-- ---- what a record adds
rows_append : (xs ys : List Event) → rows_of (xs ++ ys) ≡ rows_of xs ++ rows_of ys
rows_append [] ys = refl
rows_append (e ∷ xs) ys = ap (λ l. row_of e.mark e ++ l) (rows_append xs ys) ∙ sym (append_assoc (row_of e.mark e) (rows_of xs) (rows_of ys))

one_none : (n : ℕ) (b : Bench) (r : Rec) → rows_of (event_of n b r no_row) ≡ []
one_none zero b r = refl
one_none (suc n) b r = refl

-- in version 1 a row has these four bytes and no more
one_row : (file : List ℕ) (n : ℕ) (b : Bench) (r : Rec) (a : Answer) (d c : ℕ) → version file ≡ 1 → n ≡ 0
    → rows_of (event_of n b r (row a d c)) ≡ row_bytes file (r.first / 16) (b.threads (r.first / 16)) (row a d c)
unfolding ite
one_row file n b r a d c one e = rw (e, eq-eqb (version file) 1 one)

module _ (file : List ℕ) where
  pub bench_same : (rs : List Rec) (p : Progress) → p.refusal ≡ 0 → (walk file rs p).bench ≡ end_from rs p.bench
  unfolding walk
  bench_same [] p e = refl
  bench_same (r ∷ rs) p e = go (record_step p.bench r.last r.first r.second r.extra) (did p.bench r.last r.first r.second r.extra) (advance_on file p r e) (λ q. bench_same rs q)
    where
      go : (res : Result) → Did p.bench (r.first / 16) r.second (r.first % 16) res → advance file p r ≡ advance_by file p (r.first / 16) res
          → ((q : Progress) → q.refusal ≡ 0 → (walk file rs q).bench ≡ end_from rs q.bench) → (walk file rs (advance file p r)).bench ≡ end_by res p.bench (λ b'. end_from rs b')
      go (refused k) d q ih = ap (λ x. x.bench) (ap (walk file rs) q ∙ stuck file rs (advance_by file p (r.first / 16) (refused k)) d)
      go (carried b' w) d q ih = ap (λ x. (walk file rs x).bench) q ∙ ih (advance_by file p (r.first / 16) (carried b' w)) refl

  rows_same : (one : version file ≡ 1) (rs : List Rec) (p : Progress) → p.refusal ≡ 0 → (walk file rs p).rows ≡ p.rows ++ rows_of (events_from rs p.bench)
  unfolding walk
  rows_same one [] p e = sym (append-nil p.rows)
  rows_same one (r ∷ rs) p e = go (record_step p.bench r.last r.first r.second r.extra) (did p.bench r.last r.first r.second r.extra) (advance_on file p r e) (λ q. rows_same one rs q)
    where
      go : (res : Result) → Did p.bench (r.first / 16) r.second (r.first % 16) res → advance file p r ≡ advance_by file p (r.first / 16) res
          → ((q : Progress) → q.refusal ≡ 0 → (walk file rs q).rows ≡ q.rows ++ rows_of (events_from rs q.bench))
          → (walk file rs (advance file p r)).rows ≡ p.rows ++ rows_of (events_by res p.bench r (λ b'. events_from rs b'))
      go (refused k) d q ih = ap (λ x. x.rows) (ap (walk file rs) q ∙ stuck file rs (advance_by file p (r.first / 16) (refused k)) d) ∙ sym (append-nil p.rows)
      go (carried b' w) d q ih =
          ap (λ x. (walk file rs x).rows) q ∙ ih (advance_by file p (r.first / 16) (carried b' w)) refl
          ∙ append_assoc p.rows (row_bytes file (r.first / 16) (p.bench.threads (r.first / 16)) w) (rows_of (events_from rs b'))
          ∙ ap (λ l. p.rows ++ l) (ap (λ l. l ++ rows_of (events_from rs b')) (sym (added w d)) ∙ sym (rows_append (event_of (r.first % 16) p.bench r w) (events_from rs b')))
        where
          added : (w : Row) → Did p.bench (r.first / 16) r.second (r.first % 16) (carried b' w)
              → rows_of (event_of (r.first % 16) p.bench r w) ≡ row_bytes file (r.first / 16) (p.bench.threads (r.first / 16)) w
          added no_row d = one_none (r.first % 16) p.bench r
          added (row a k c) d = one_row file (r.first % 16) p.bench r a k c one d.1.number

-- Run's rows are the rows of the history, and Run ends where it ends
pub run_rows : (file : List ℕ) → version file ≡ 1 → (ended file).rows ≡ rows_of (events_from (records_of file (count_of file)) (fresh (stop_of file)))
run_rows file one = ap (λ p. p.rows) (walk_is file (count_of file)) ∙ rows_same file one (records_of file (count_of file)) (begin (stop_of file)) refl

pub run_bench : (file : List ℕ) → (ended file).bench ≡ end_from (records_of file (count_of file)) (fresh (stop_of file))
run_bench file = ap (λ p. p.bench) (walk_is file (count_of file)) ∙ bench_same file (records_of file (count_of file)) (begin (stop_of file)) refl

-- ---- no more events than records
pub records_length : (file : List ℕ) (k : ℕ) → length (records_of file k) ≡ k
unfolding records_of
records_length file zero = refl
records_length file (suc k) = omega (arith, length-append (records_of file k) (record_at file k ∷ []), records_length file k)

one_few : (n : ℕ) (b : Bench) (r : Rec) (w : Row) → length (event_of n b r w) ≤ 1
one_few zero b r no_row = omega arith
one_few zero b r (row _ _ _) = omega arith
one_few (suc n) b r w = omega arith

pub events_few : (rs : List Rec) (b : Bench) → length (events_from rs b) ≤ length rs
events_few [] b = omega arith
events_few (r ∷ rs) b = go (record_step b r.last r.first r.second r.extra) (λ b'. events_few rs b')
  where
    go : (res : Result) → ((b' : Bench) → length (events_from rs b') ≤ length rs) → length (events_by res b r (λ b'. events_from rs b')) ≤ suc (length rs)
    go (refused k) ih = omega arith
    go (carried b' w) ih = omega (arith, length-append (event_of (r.first % 16) b r w) (events_from rs b'), one_few (r.first % 16) b r w, ih b')
