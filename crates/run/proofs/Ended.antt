-- Where a run begins and where it has ended: what the code then holds is what 01 says of the file and the row buffer. It rests on
-- Lending.antt.
use Rattle.frames.specs.View.{held}
use Rattle.std.specs.Prelude.{None, Result as Outcome, Ok, Err, Option}
use mathlib.Core.Path.{◌≡◌, refl, sym, ap, ◌∙◌}
use mathlib.Core.Logic.{inl, inr, ⊎_elim}
use mathlib.Core.Bool.{Bool, true, false}
use mathlib.Core.List.{List, []}
use Prim.Native.Nat.{ℕ, zero, suc, ◌+◌, ◌-◌, ◌≤◌, ◌<◌}
use native.Mathlib.Omega.{arith}
use borrow.Author.Tests.{eq-eqb, ne_eqb, le-ltb}
use lib.Dec.{ltb}
use lib.ListN.{length, replicate, length-replicate}
use Rattle.container.specs.Choice.{ite}
use Rattle.container.specs.Container.{all}
use Rattle.answers.specs.Reachable.{Unasked}
use Rattle.buffer.specs.Page.{Page, put_all}
use Rattle.buffer.proofs.Laws.{put_fits}
use Rattle.depths.specs.Rows.{rows, Holds, full}
use Rattle.depths.proofs.Fresh.{blank}
use Rattle.tree.specs.Below.{set_below, count_below}
use Rattle.tree.proofs.Held.{held_set, held_stored}
use Rattle.steps.specs.declared.Notes.{Notes}
use Rattle.steps.specs.Decision.{thread}
use Rattle.definitions.specs.Nodes.{Shapes, Stores, shape, empty_base}
use Rattle.definitions.specs.Threads.{Frame, Thread, idle}
use Rattle.definitions.specs.Bench.{stop, Bench, bench, store}
use Rattle.definitions.specs.Tree.{held_below, tree_held, tree_set, stored_below, stored}
use Rattle.definitions.specs.Versions.{version, stop_of, row_room}
use Rattle.definitions.specs.Refusal.{code_of}
use Rattle.definitions.specs.Schedule.{Rec, record_at, count_of, file_refusal}
use Rattle.definitions.specs.Run.{refused_report, Progress, advance, after, ended, report_of, overlay, run_refusal, run_report, run_buffer}
use Rattle.definitions.specs.declared.Refusal.{Refusal}
use Rattle.definitions.specs.declared.Report.{Report}
use Rattle.definitions.specs.declared.Stop.{Stop}
use Rattle.definitions.proofs.Refusals.{refused}
use Rattle.run.specs.Threads.{threads_of}
use Rattle.run.specs.Standing.{numbers_for, Lent, Spare, Enough, Stands, Carried, Handed}
use Rattle.run.specs.declared.Standing.{Standing}
use Rattle.run.proofs.Threads.{all_idle}
use Rattle.run.proofs.Turn.{stand}
use Rattle.run.proofs.Rows.{rows_fit}
use Rattle.run.proofs.Lending.{enough}
use Rattle.run.proofs.Room.{has_room}
use Rattle.frames.specs.declared.frame.Frame.{Frame as Kept}

-- rows that fit stand in the buffer
overlaid : {n : Shapes} {l : List ℕ} {k : Stores} {z : Stop} {threads : ℕ → Thread} {s : Standing} {first buffer : List ℕ} (p : Progress)
    → Stands n l k z threads s first buffer p → length p.rows ≤ length first → buffer ≡ overlay p.rows first
overlaid p h f = ap (λ (q : Page). q.bytes) (h.rows ∙ put_fits p.rows _ f)

-- ---- before the first record, and after the last
pub none_yet : (file first : List ℕ) (h : ℕ → Frame) {n : Shapes} {l : List ℕ} {s : Stores} {th : Notes} → n ≡ (λ _. shape empty_base) → s ≡ (λ _. None)
    → (Holds (length l) 1 → rows l ≡ (λ _ _. 0)) → thread th [] ≡ idle
    → Stands n l s (stop (stop_of file) 0) (threads_of (replicate 4 th) (replicate 4 0) h) (stand 0 1 0 (Ok tt) 0 0 0) first first (after file 0)
unfolding after put_all
none_yet file first h {th = th} e f b g = record {
  deep = λ _ _. 0;
  bench = rw (e, f) (ap (λ (t : ℕ → Thread). bench (store (λ _. empty_base) 0 1 (λ _. None) 0 (stop (stop_of file) 0)) t) (all_idle h th g));
  depths = b;
  refusal = refl;
  done = refl;
  finished = refl;
  rows = refl;
}

-- a standing does not say which threads it stands over, nor which stop: they are handed out beside it
abbrev pub handing : ℕ → ℕ → ℕ → Outcome (Unit {0}) Refusal → ℕ → ℕ → ℕ → List Notes → List ℕ → ℕ → Standing
handing root used shown refusal done finished at threads frames count =
    record { root = root; used = used; shown = shown; refusal = refusal; done = done; finished = finished; at = at; threads = threads; frames = frames; count = count }

module _ (file : List ℕ) (k last : ℕ) {n : Shapes} {l : List ℕ} {s : Stores} {root used shown done finished at count : ℕ} {refusal : Outcome (Unit {0}) Refusal}
    {threads : List Notes} {frames : List ℕ}
    {lent : List Kept} {first buffer : List ℕ} where
  pub all_done : after file k ≡ after file last
      → Stands n l s (stop (stop_of file) count) (threads_of threads frames (held lent)) (stand root used shown refusal done finished at) first buffer (after file k)
      → Carried file last n l s (handing root used shown refusal done finished at threads frames count) first buffer
      × Handed file (after file last).bench (handing root used shown refusal done finished at threads frames count) lent
  all_done e h =
      let table : threads_of threads frames (held lent) ≡ (after file last).bench.threads = ap (λ (b : Bench). b.threads) h.bench ∙ ap (λ (p : Progress). p.bench.threads) e in
      let switch : stop (stop_of file) count ≡ (after file last).bench.store.stop = ap (λ (b : Bench). b.store.stop) h.bench ∙ ap (λ (p : Progress). p.bench.store.stop) e in
      let g : Stands n l s (after file last).bench.store.stop (after file last).bench.threads (stand root used shown refusal done finished at) first buffer (after file last) =
      rw (table, switch, e) at h in (
        record { deep = g.deep; bench = g.bench; depths = g.depths; refusal = g.refusal; done = g.done; finished = g.finished; rows = g.rows },
        record { threads = table; stop = switch },
      )

-- a record that is refused ends them
still : (file : List ℕ) (p : Progress) (r : Rec) → (p.refusal ≡ 0 → ⊥) → advance file p r ≡ p
unfolding advance ite
still file p r z = rw (ne_eqb p.refusal 0 z)

onward : (file : List ℕ) (m : ℕ) → after file (suc m) ≡ advance file (after file m) (record_at file m)
unfolding after
onward file m = refl

stays : (file : List ℕ) (k j m : ℕ) → m ≡ k + j → ((after file k).refusal ≡ 0 → ⊥) → after file m ≡ after file k
stays file k zero m e z = let same : m ≡ k = omega arith in ap (after file) same
stays file k (suc j) m e z =
    let next : m ≡ suc (k + j) = omega arith in
    ap (after file) next ∙ (onward file (k + j) ∙ (ap (λ (p : Progress). advance file p (record_at file (k + j))) (stays file k j (k + j) refl z) ∙ still file (after file k) _ z))

-- the refused record was the last
module _ (file : List ℕ) (k last : ℕ) {n : Shapes} {l : List ℕ} {s : Stores} {root used shown done finished at count : ℕ} {v : Refusal} {threads : List Notes} {frames : List ℕ}
    {lent : List Kept} {first buffer : List ℕ} where
  pub stopped : k < last
      → Stands n l s (stop (stop_of file) count) (threads_of threads frames (held lent)) (stand root used shown (Err v) done finished at) first buffer (after file (k + 1))
      → Carried file last n l s (handing root used shown (Err v) done finished at threads frames count) first buffer
      × Handed file (after file last).bench (handing root used shown (Err v) done finished at threads frames count) lent
  stopped i h =
      let sum : last ≡ k + 1 + (last - (k + 1)) = omega arith in
      all_done file (k + 1) last (sym (stays file (k + 1) (last - (k + 1)) last sum (λ e. refused v (h.refusal ∙ e)))) h

-- ---- the tree
module _ {n : Shapes} {l : List ℕ} {k : Stores} {z : Stop} {threads : ℕ → Thread} {s : Standing} {first buffer : List ℕ} {p : Progress} (h : Stands n l k z threads s first buffer p) where
  pub set_at : set_below 63 n s.root all ≡ tree_set p.bench
  unfolding tree_held
  set_at = sym (held_set 63 (full n h.deep) s.root all) ∙ ap (λ (b : Bench). (held_below 63 b.store.nodes b.store.root all).set) h.bench

  stored_at : count_below 63 n s.root all ≡ stored p.bench
  unfolding stored
  stored_at = sym (held_stored 63 (full n h.deep) s.root all) ∙ ap (λ (b : Bench). stored_below 63 b.store.nodes b.store.root all) h.bench

  pub used_at : s.used ≡ p.bench.store.used
  used_at = ap (λ (b : Bench). b.store.used) h.bench

-- what holds the depths of all nodes that a run may use holds those of the nodes that it has used
pub held_all : (file : List ℕ) {n : Shapes} {l : List ℕ} {k : Stores} {s : Standing} {first buffer : List ℕ} → Carried file (count_of file) n l k s first buffer
    → Holds (length l) (numbers_for file) → Holds (length l) s.used
held_all file h w = (w.0, omega (arith, used_at h, enough file (count_of file) (omega arith), w.1))

-- ---- room for the rows
pub room_for : (file : List ℕ) (room : ℕ) → run_refusal file room ≡ 0 → row_room file (count_of file) ≤ room
unfolding run_refusal
room_for file room = has_room (file_refusal file) room (row_room file (count_of file)) 5 (λ z. omega arith)

-- ---- what is lent, before the first record

-- as much as any file from version 2 on needs: the depths of 256 nodes, and all the memory for queries
pub enough_all : (file : List ℕ) {d r n : ℕ} → (version file ≡ 1 → ⊥) → d ≡ 16384 → r ≡ 256 → n ≡ 16 → Enough file d r n
unfolding ite
enough_all file {d} v e f g = record { none = λ h. absurd (v h); whole = λ _. by (ltb 64 (count_of file)); spare = inr (f, g); depths = omega arith; results = omega arith; frames = omega arith }
  where
    by : (c : Bool) → Holds d (ite c 256 65)
    by true = (omega arith, omega arith)
    by false = (omega arith, omega arith)

-- as much as one needs that has up to 64 records and asks for no query: the depths of 65
pub enough_few : (file : List ℕ) {d r n : ℕ} → (version file ≡ 1 → ⊥) → count_of file ≤ 64 → Unasked file → Holds d 65 → d ≤ 16384 → r ≤ 256 → n ≤ 16 → Enough file d r n
unfolding ite
enough_few file v l o h d r n = record { none = λ e. absurd (v e); whole = λ _. rw (le-ltb 64 (count_of file) l) h; spare = inl o; depths = d; results = r; frames = n }

-- as it is lent
module _ (file : List ℕ) {d r n : ℕ} (e : Enough file d r n) where
  pub lent_so : Lent file (replicate d 0)
  lent_so = record { blank = blank d; none = λ v. length-replicate {A = ℕ} d 0 ∙ e.none v; whole = λ v. rw (length-replicate {A = ℕ} d 0) (e.whole v) }

  pub spare_so : (f : Kept) → Spare file (replicate r None) (replicate n f)
  spare_so f = ⊎_elim inl (λ v. inr (record { results = length-replicate {A = Option ℕ} r None ∙ v.0; frames = length-replicate {A = Kept} n f ∙ v.1 })) e.spare

-- ---- all records carried out
module _ (file first : List ℕ) {n : Shapes} {l : List ℕ} {k : Stores} {s : Standing} {buffer : List ℕ} {count : ℕ} (d : count ≡ count_of file) (h : Carried file count n l k s first buffer) where
  pub ended_report : {v x y : ℕ} → v ≡ code_of s.refusal → x ≡ set_below 63 n s.root all → y ≡ count_below 63 n s.root all
      → record { refusal = v; records = s.done; rows = s.finished; set = x; stored = y; used = s.used } ≡ report_of (ended file)
  ended_report e f g = rw (← d, e, f, g, set_at h, stored_at h, h.refusal, h.done, h.finished, used_at h)

  pub ended_buffer : row_room file (count_of file) ≤ length first → buffer ≡ overlay (ended file).rows first
  ended_buffer r = let m : row_room file count ≤ length first = rw (← d) at r in rw (← d) (overlaid (after file count) h (omega (arith, rows_fit file count, m)))

-- ---- the answer
module _ (file first : List ℕ) {bad : ℕ} (e : bad ≡ run_refusal file (length first)) where
  pub refused_report_lem : (bad ≡ 0 → ⊥) → refused_report bad ≡ run_report file (length first)
  unfolding run_report ite
  refused_report_lem z = rw (← e, ne_eqb _ _ z)

  pub refused_buffer : (bad ≡ 0 → ⊥) → first ≡ run_buffer file first
  unfolding run_buffer ite
  refused_buffer z = rw (← e, ne_eqb _ _ z)

  pub passed_report : {r : Report} → bad ≡ 0 → r ≡ report_of (ended file) → r ≡ run_report file (length first)
  unfolding run_report ite
  passed_report z f = rw (← e, eq-eqb _ _ z) f

  pub passed_buffer : {buffer : List ℕ} → bad ≡ 0 → buffer ≡ overlay (ended file).rows first → buffer ≡ run_buffer file first
  unfolding run_buffer ite
  passed_buffer z f = rw (← e, eq-eqb _ _ z) f
