-- The whole printed run: what Run and List hand back for a file that is not refused, that it lies in their buffers, and that every number
-- of it is below 10,000; and the one line for a file that is refused. Assumes nothing.
use mathlib.Core.Path.{◌≡◌, refl, ◌∙◌}
use mathlib.Core.Bool.{Bool, true, false}
use mathlib.Core.List.{List, ◌++◌}
use Prim.Native.Nat.{ℕ, ◌*◌, ◌%◌, ◌≤◌}
use native.Mathlib.Omega.{arith}
use native.Mathlib.Nat.{mul_comm}
use borrow.Author.Tests.{eq-eqb, ne_eqb, le-ltb}
use lib.Dec.{eqb, ltb}
use lib.ListN.{length, take, drop, length-append}
use lib.Seq.{take-append_seam}
use Rattle.container.specs.Choice.{ite}
use Rattle.definitions.specs.Tree.{stored}
use Rattle.definitions.specs.Schedule.{version, count_of, file_refusal}
use Rattle.definitions.specs.Run.{row_width, ended, report_of, overlay, run_refusal, run_report, run_buffer}
use Rattle.definitions.specs.Listing.{listing, listed_at, list_refusal, list_report, list_buffer}
use Rattle.definitions.specs.Printed.{first_line, row_lines, last_line, printed_at, printed}
use Rattle.definitions.specs.declared.Report.{Report}
use Rattle.definitions.specs.declared.Listed.{Listed}
use Rattle.buffer.specs.Page.{Page, put_all}
use Rattle.answers.proofs.Reach.{reach_stored}
use Rattle.listing.specs.Texts.{headed}
use Rattle.run.proofs.Rows.{done_few, rows_length}
use Rattle.answers.proofs.UsedRun.{reach_used}
use Rattle.printed.proofs.Refusals.{refusal_few, file_refusal_few}
use Rattle.printed.proofs.Lines.{version_lines, lines_front}

-- ---- a file that is not refused
module _ (file : List ℕ) (z : file_refusal file ≡ 0) (few : count_of file ≤ 4096) where
  -- with room for the rows of the longest run of version 2
  no_run_refusal : (n : ℕ) → 28672 ≤ n → run_refusal file n ≡ 0
  unfolding run_refusal ite
  no_run_refusal n g = rw (eq-eqb _ _ z) (rows_room (eqb (version file) 1))
    where
      rows_room : (c : Bool) → ◌≡◌ {A = ℕ} (ite (ltb n (ite c 2 7 * count_of file)) 5 0) 0
      rows_room true = rw (le-ltb n (2 * count_of file) (omega arith))
      rows_room false = rw (le-ltb n (7 * count_of file) (omega arith))

  run_report_lem : (n : ℕ) → 28672 ≤ n → run_report file n ≡ report_of (ended file)
  unfolding run_report ite
  run_report_lem n g = rw (no_run_refusal n g)

  run_buffer_lem : (rows : List ℕ) → 28672 ≤ length rows → run_buffer file rows ≡ overlay (ended file).rows rows
  unfolding run_buffer ite
  run_buffer_lem rows g = rw (no_run_refusal (length rows) g)

  -- with the room that version 2 asks for
  no_list_refusal : (n : ℕ) → 8192 ≤ n → list_refusal file n ≡ 0
  unfolding list_refusal ite
  no_list_refusal n g = rw (eq-eqb _ _ z) (text_room_lem (eqb (version file) 1))
    where
      text_room_lem : (c : Bool) → ◌≡◌ {A = ℕ} (ite (ltb n (ite c 4096 8192)) 6 0) 0
      text_room_lem true = rw (le-ltb n 4096 (omega arith))
      text_room_lem false = rw (le-ltb n 8192 g)

  list_report_lem : (n : ℕ) → 8192 ≤ n → list_report file n ≡ listed_at file (ended file)
  unfolding list_report ite
  list_report_lem n g = rw (no_list_refusal n g)

  list_buffer_lem : (text : List ℕ) → 8192 ≤ length text → list_buffer file text ≡ overlay (listing file (ended file).bench) text
  unfolding list_buffer ite
  list_buffer_lem text g = rw (no_list_refusal (length text) g)

small : (n : ℕ) → n ≤ 4096 → n % 10000 ≡ n
small n h = omega arith

-- the rows have their length
row_bytes_lem : (file : List ℕ) → length (ended file).rows ≡ (ended file).finished * row_width file
row_bytes_lem file = rows_length file (count_of file) ∙ mul_comm (row_width file) (ended file).finished

-- the lines of a run, by what it hands back
abbrev lines_of : ℕ → ℕ → Report → List ℕ → Listed → List ℕ → List ℕ
lines_of v count r rows l text =
    first_line (r.records % 10000) (count % 10000) (r.refusal % 10000) ++ (row_lines (headed v) r.rows rows ++ (take l.length text ++ last_line (r.stored % 10000) (r.used % 10000)))

ended_lines : (file rows text : List ℕ) → count_of file ≤ 4096
    → lines_of (version file) (count_of file) (report_of (ended file)) (overlay (ended file).rows rows) (listed_at file (ended file))
    (overlay (listing file (ended file).bench) text) ≡ printed_at file (ended file)
ended_lines file rows text few =
    let done : (ended file).done % 10000 ≡ (ended file).done = small _ (omega (arith, done_few file (count_of file))) in
    let count : count_of file % 10000 ≡ count_of file = small _ few in
    let refusal : (ended file).refusal % 10000 ≡ (ended file).refusal = small _ (omega (arith, refusal_few file (count_of file))) in
    let held : stored (ended file).bench % 10000 ≡ stored (ended file).bench = small _ (omega (arith, reach_stored file (count_of file))) in
    let used : (ended file).bench.store.used % 10000 ≡ (ended file).bench.store.used = small _ (omega (arith, reach_used file (count_of file))) in
    let lines : row_lines (headed (version file)) (ended file).finished (overlay (ended file).rows rows) ≡ row_lines file (ended file).finished (ended file).rows =
    version_lines (headed (version file)) file refl (ended file).finished (overlay (ended file).rows rows)
    ∙ lines_front file (ended file).finished (ended file).rows (drop (length (ended file).rows) rows) (row_bytes_lem file) in
    rw (done, count, refusal, held, used, lines, take-append_seam)

-- ---- what the code holds
module _ (file : List ℕ) {bad : ℕ} (e : bad ≡ file_refusal file) where
  module _ (rows text : List ℕ) {rows' text' : List ℕ} {r : Report} {l : Listed} (z : bad ≡ 0) (few : count_of file ≤ 4096) (a : 28672 ≤ length rows) (b : 8192 ≤ length text)
      (er : r ≡ run_report file (length rows)) (fr : rows' ≡ run_buffer file rows) (el : l ≡ list_report file (length text)) (ft : text' ≡ list_buffer file text) where
    accepted : file_refusal file ≡ 0
    accepted = rw (← e) z

    report : r ≡ report_of (ended file)
    report = er ∙ run_report_lem file accepted few (length rows) a

    rows_at : rows' ≡ overlay (ended file).rows rows
    rows_at = fr ∙ run_buffer_lem file accepted few rows a

    listed : l ≡ listed_at file (ended file)
    listed = el ∙ list_report_lem file accepted few (length text) b

    text_at : text' ≡ overlay (listing file (ended file).bench) text
    text_at = ft ∙ list_buffer_lem file accepted few text b

    -- the rows and the text lie in their buffers; v is the version
    pub lines_fit : (v : ℕ) → v ≡ version file → (r.rows * row_width (headed v) ≤ length rows') × (l.length ≤ length text')
    lines_fit v i = (
      rw (report, rows_at, i) (omega (arith, row_bytes_lem file, length-append (ended file).rows (drop (length (ended file).rows) rows))),
      rw (listed, text_at) (omega (arith, length-append (listing file (ended file).bench) (drop (length (listing file (ended file).bench)) text))),
    )

    pub lines_printed : (p : Page) (v : ℕ) {count : ℕ} {q : Page} → v ≡ version file → count ≡ count_of file → q ≡ put_all p (lines_of v count r rows' l text') → q ≡ put_all p (printed file)
    unfolding printed ite
    lines_printed p v i ec w = w ∙ rw (i, ec, report, rows_at, listed, text_at, ended_lines file rows text few, eq-eqb _ _ accepted)

  -- ---- a file that is refused
  pub line_printed : (p : Page) {q : Page} → (bad ≡ 0 → ⊥) → q ≡ put_all p (first_line (0 % 10000) (0 % 10000) (bad % 10000)) → q ≡ put_all p (printed file)
  unfolding printed ite
  line_printed p z w = w ∙ rw (small bad (rw e (omega (arith, file_refusal_few file))), ← e, ne_eqb _ _ z)
