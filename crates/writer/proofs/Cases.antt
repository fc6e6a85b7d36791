-- What each function of the profile run returns, one law for each way out. Assumes nothing.
use mathlib.Core.Path.{◌≡◌, refl, sym, ap, ◌∙◌}
use mathlib.Core.Bool.{Bool, true, false, ◌&&◌}
use mathlib.Core.List.{List}
use Prim.Native.Nat.{ℕ, ◌≤◌, ◌<◌}
use native.Mathlib.Omega.{arith}
use borrow.Author.Tests.{eq-eqb, ne_eqb, lt-ltb, le-ltb}
use lib.Dec.{eqb, leb}
use lib.ListN.{length}
use Rattle.container.specs.Choice.{ite}
use Rattle.definitions.specs.Schedule.{count_of}
use Rattle.definitions.specs.Versions.{stop_of}
use Rattle.definitions.specs.Run.{Progress, after, ended, report_of, overlay, run_refusal, run_report, run_buffer}
use Rattle.definitions.specs.Profile.{profile_after, profile_refusal, profile_report, profile_buffer}
use Rattle.definitions.specs.declared.Report.{Report}
use Rattle.profile.specs.Cut.{Cut, stopped_run, cut_run}
use Rattle.profile.proofs.ByRun.{profile_by_run}
use Rattle.writer.specs.Part.{halt}

-- ---- a report that is stopped

pub halted : (r : Report) → r.refusal ≡ 0 → record { refusal = 24; records = r.records; rows = r.rows; set = r.set; stored = r.stored; used = r.used } ≡ halt r
unfolding halt ite
halted r e = rw (eq-eqb r.refusal 0 e)

pub unhalted : (r : Report) → (r.refusal ≡ 0 → ⊥) → r ≡ halt r
unfolding halt ite
unhalted r e = rw (ne_eqb r.refusal 0 e)

-- ---- a file of version 3

module _ (file : List ℕ) (o : leb 3 (length file) && stop_of file ≡ true) where
  pub three_report : (n : ℕ) → record { refusal = 2; records = 0; rows = 0; set = 0; stored = 0; used = 0 } ≡ profile_report file n
  unfolding profile_report profile_refusal ite
  three_report n = rw o

  pub three_buffer : (rows : List ℕ) → rows ≡ profile_buffer file rows
  unfolding profile_buffer profile_refusal ite
  three_buffer rows = rw o

-- ---- the profile run of another

-- where Run goes no further
module _ (file : List ℕ) (o : leb 3 (length file) && stop_of file ≡ false) where
  -- a file that is refused
  pub refused_report_lem : (n : ℕ) → (run_refusal file n ≡ 0 → ⊥) → run_report file n ≡ profile_report file n
  unfolding profile_report profile_refusal run_report ite
  refused_report_lem n z = rw (o, ne_eqb (run_refusal file n) 0 z)

  pub refused_buffer : (rows : List ℕ) → (run_refusal file (length rows) ≡ 0 → ⊥) → run_buffer file rows ≡ profile_buffer file rows
  unfolding profile_buffer profile_refusal run_buffer ite
  refused_buffer rows z = rw (o, ne_eqb (run_refusal file (length rows)) 0 z)

  -- a file with no barred record
  module _ {k : ℕ} (c : Cut file (count_of file) k) where
    whole : count_of file ≤ k → profile_after file (count_of file) ≡ ended file
    unfolding cut_run ite
    whole l = profile_by_run file (count_of file) k c ∙ rw (le-ltb k (count_of file) l) (ap (after file) (all c.low l))
      where
        all : {a b : ℕ} → a ≤ b → b ≤ a → a ≡ b
        all h i = omega arith

    pub whole_report : (n : ℕ) → count_of file ≤ k → run_report file n ≡ profile_report file n
    unfolding profile_report profile_refusal run_report ite
    whole_report n l = rw (o, whole l)

    pub whole_buffer : (rows : List ℕ) → count_of file ≤ k → run_buffer file rows ≡ profile_buffer file rows
    unfolding profile_buffer profile_refusal run_buffer ite
    whole_buffer rows l = rw (o, whole l)

    -- a file with one
    stop : k < count_of file → profile_after file (count_of file) ≡ ite (eqb (after file k).refusal 0) (stopped_run (after file k)) (after file k)
    unfolding cut_run ite
    stop l = profile_by_run file (count_of file) k c ∙ rw (lt-ltb k (count_of file) l)

    -- its report, and its rows, whether or not Run went so far
    shown : (p : Progress) → halt (report_of p) ≡ report_of (ite (eqb p.refusal 0) (stopped_run p) p)
    unfolding halt ite
    shown p = by (eqb p.refusal 0)
      where
        by : (b : Bool)
            → ite b (record { refusal = 24; records = (report_of p).records; rows = (report_of p).rows; set = (report_of p).set; stored = (report_of p).stored; used = (report_of p).used })
            (report_of p)
            ≡ report_of (ite b (stopped_run p) p)
        by true = refl
        by false = refl

    same_rows : (p : Progress) → p.rows ≡ (ite (eqb p.refusal 0) (stopped_run p) p).rows
    unfolding ite
    same_rows p = by (eqb p.refusal 0)
      where
        by : (b : Bool) → p.rows ≡ (ite b (stopped_run p) p).rows
        by true = refl
        by false = refl

    pub cut_report : (n : ℕ) {r q : Report} → run_refusal file n ≡ 0 → k < count_of file → r ≡ report_of (after file k) → q ≡ halt r → q ≡ profile_report file n
    unfolding profile_report profile_refusal ite
    cut_report n z l e f = rw (o, eq-eqb (run_refusal file n) 0 z) (f ∙ (ap halt e ∙ (shown (after file k) ∙ ap report_of (sym (stop l)))))

    pub cut_buffer : (rows : List ℕ) {w : List ℕ} → run_refusal file (length rows) ≡ 0 → k < count_of file → w ≡ overlay (after file k).rows rows → w ≡ profile_buffer file rows
    unfolding profile_buffer profile_refusal ite
    cut_buffer rows z l e = rw (o, eq-eqb (run_refusal file (length rows)) 0 z) (e ∙ ap (λ b. overlay b rows) (same_rows (after file k) ∙ ap (λ (p : Progress). p.rows) (sym (stop l))))
