-- The whole of History: what Run says of the file, and the report and the buffer at the end. Assumes nothing.
use mathlib.Core.Path.{◌≡◌, refl, sym, ap, ◌∙◌}
use mathlib.Core.Bool.{Bool, true, false}
use mathlib.Core.List.{List, [], ◌∷◌, ◌++◌}
use Prim.Native.Nat.{ℕ, ◌+◌, ◌*◌, ◌/◌, ◌%◌, ◌≤◌}
use native.Mathlib.Omega.{arith}
use borrow.Author.Tests.{eqb-true, eq-eqb, ne_eqb}
use lib.Dec.{eqb, ltb}
use lib.ListN.{length, get_or, take, drop, length-append, get_or-append}
use Rattle.std.specs.Simd.{first_chunks}
use Rattle.std.proofs.lemmas.List.{length-take-le, get_or-take}
use Rattle.schedule.specs.Records.{Pairs}
use Rattle.schedule.proofs.Pairs.{chunk_byte}
use Rattle.container.specs.Choice.{ite}
use Rattle.buffer.specs.Page.{Page, page, put_all}
use Rattle.buffer.proofs.Laws.{put_fits, joined}
use Rattle.schedule.specs.Proper.{Plain}
use Rattle.schedule.proofs.Laws.{plain, fault_file}
use Rattle.definitions.specs.Schedule.{count_of, file_refusal}
use Rattle.definitions.specs.Versions.{row_room}
use Rattle.definitions.specs.Merge.{fault}
use Rattle.definitions.specs.Run.{ended, overlay, run_refusal, report_of, run_report, run_buffer}
use Rattle.definitions.specs.Written.{bytes_of, run_events, written, written_refusal, written_report, written_buffer}
use Rattle.definitions.specs.declared.Report.{Report}
use Rattle.passing.proofs.RunPasses.{room_enough}
use Rattle.run.proofs.Room.{has_room, by_none}
use Rattle.history.specs.Ahead.{starts_to, Told}
use Rattle.history.proofs.Turned.{rows_four, done_most}
use Rattle.history.proofs.Loop.{count_all}

-- ---- no refusal
sound_file : (f n m k : ℕ) → (k ≡ 0 → ⊥) → ite (eqb f 0) (ite (ltb n m) k 0) f ≡ 0 → f ≡ 0
unfolding ite
sound_file f n m k i = by (eqb f 0) refl
  where
    by : (a : Bool) → eqb f 0 ≡ a → ite a (ite (ltb n m) k 0) f ≡ 0 → f ≡ 0
    by true e z = eqb-true f 0 e
    by false e z = z

module _ (file : List ℕ) (room : ℕ) (z : written_refusal file room ≡ 0) where
  no_fault : fault file ≡ 0
  unfolding written_refusal
  no_fault = sound_file (fault file) room (3 + 4 * count_of file) 5 (λ e. omega arith) z

  file_sound : file_refusal file ≡ 0
  file_sound = let p = plain file no_fault in fault_file file (omega (arith, p.whole)) p.version refl ∙ no_fault

  room_for : 3 + 4 * count_of file ≤ room
  unfolding written_refusal
  room_for = has_room (fault file) room (3 + 4 * count_of file) 5 (λ e. omega arith) z

  -- Run does not refuse the file with a row buffer of 8,192 bytes
  run_sound : (n : ℕ) → 2 * count_of file ≤ n → run_refusal file n ≡ 0
  unfolding run_refusal ite
  run_sound n h = sym (by_none n (row_room file (count_of file)) 5 (sym file_sound) refl (rw (eq-eqb _ _ (plain file no_fault).version) h))

-- ---- what Run hands back
module _ (file blank : List ℕ) (fine : run_refusal file (length blank) ≡ 0) where
  report_is : run_report file (length blank) ≡ report_of (ended file)
  unfolding run_report ite
  report_is = rw (eq-eqb _ _ fine)

  buffer_is : run_buffer file blank ≡ overlay (ended file).rows blank
  unfolding run_buffer ite
  buffer_is = rw (eq-eqb _ _ fine)

module _ (file blank : List ℕ) (room : ℕ) {bad : ℕ} (e : bad ≡ written_refusal file room) (z : bad ≡ 0) (sure : Plain file) (long : length blank ≡ 8192) where
  fine : run_refusal file (length blank) ≡ 0
  fine = run_sound file room (sym e ∙ z) (length blank) (omega (arith, sure.few, long))

  records_few : {r : Report} {pairs : List (List ℕ)} → r ≡ run_report file (length blank) → Pairs file pairs → r.records ≤ length pairs
  records_few p o = omega (arith, ap (λ (x : Report). x.records) (p ∙ report_is file blank fine), o.many, done_most file sure.version (count_of file))

  pub records_fit : {r : Report} {pairs : List (List ℕ)} → r ≡ run_report file (length blank) → Pairs file pairs → r.records ≡ length (take r.records pairs)
  records_fit {r} {pairs} p o = sym (length-take-le r.records pairs (records_few p o))

  rows_room : {buffer : List ℕ} → buffer ≡ run_buffer file blank → 4 * (ended file).finished ≤ length buffer
  rows_room q =
      omega (arith, rows_four file sure.version (count_of file), ap length (q ∙ buffer_is file blank fine), length-append (ended file).rows (drop (length (ended file).rows) blank))

  rows_few : {r : Report} {buffer : List ℕ} {n : ℕ} → r ≡ run_report file (length blank) → buffer ≡ run_buffer file blank → n ≡ length buffer / 4 → r.rows ≤ n
  rows_few p q e = omega (arith, ap (λ (x : Report). x.rows) (p ∙ report_is file blank fine), rows_room q, e)

  pub rows_fit : {r : Report} {buffer : List ℕ} (fours : List (List ℕ)) → r ≡ run_report file (length blank) → buffer ≡ run_buffer file blank → length fours ≡ length buffer / 4
      → r.rows ≡ length (take r.rows fours)
  rows_fit {r} {buffer} fours p q e = sym (length-take-le r.rows fours (rows_few p q e))

  -- the records done and the rows, each cut out of what has more of them
  pub told : {r : Report} {buffer : List ℕ} {pairs fours : List (List ℕ)} → r ≡ run_report file (length blank) → buffer ≡ run_buffer file blank → Pairs file pairs
      → fours ≡ first_chunks 4 (length buffer / 4) buffer → length fours ≡ length buffer / 4 → Told file (take r.records pairs) (take r.rows fours)
  told {r} {buffer} {pairs} {fours} p q o d e =
      let records = take r.records pairs in
      let rows = take r.rows fours in
      let w : r ≡ report_of (ended file) = p ∙ report_is file blank fine in
      let v : buffer ≡ (ended file).rows ++ drop (length (ended file).rows) blank = q ∙ buffer_is file blank fine in
      let g : r.records ≡ (ended file).done = ap (λ (x : Report). x.records) w in
      let m : r.rows ≡ (ended file).finished = ap (λ (x : Report). x.rows) w in
      let i : length records ≡ r.records = sym (records_fit p o) in
      let j : length rows ≡ r.rows = sym (rows_fit fours p q e) in
      let few : r.rows ≤ length buffer / 4 = rows_few p q refl in
      let most : r.records ≤ length pairs = records_few p o in
      record {
        version = sure.version;
        few = sure.few;
        whole = sure.whole;
        done = i ∙ g;
        finished = j ∙ m;
        first = λ n h. ap (λ x. get_or x 0 0) (get_or-take r.records pairs n [] (omega (arith, i))) ∙ o.first n (omega (arith, i, most));
        second = λ n h. ap (λ x. get_or x 1 0) (get_or-take r.records pairs n [] (omega (arith, i))) ∙ o.second n (omega (arith, i, most));
        cells = λ n b h t.
            ap (λ x. get_or x b 0) (get_or-take r.rows fours n [] (omega (arith, j))) ∙ ap (λ x. get_or (get_or x n []) b 0) d
            ∙ chunk_byte 4 (length buffer / 4) n b buffer (omega (arith, j, few)) t ∙ ap (λ x. get_or x (4 * n + b) 0) v
            ∙ get_or-append (ended file).rows (drop (length (ended file).rows) blank) 0 (4 * n + b) (omega (arith, j, m, rows_four file sure.version (count_of file)));
      }

  pub refusal_is : {r : Report} → r ≡ run_report file (length blank) → r.refusal ≡ (ended file).refusal
  refusal_is p = ap (λ (x : Report). x.refusal) (p ∙ report_is file blank fine)

-- ---- the count in the header
pub events_count : {file : List ℕ} {records rows : List (List ℕ)} {s f : ℕ} → Told file records rows → s ≡ starts_to file (length records) → f ≡ length rows → s + f ≡ length (run_events file)
events_count {file} t c e = sym (count_all file t.version (count_of file) ∙ rw (← t.done, ← t.finished, c, e))

pub written_put : {file : List ℕ} {records rows : List (List ℕ)} {s f : ℕ} → Told file records rows → s ≡ starts_to file (length records) → f ≡ length rows
    → (p : Page) {q r : Page} → q ≡ put_all p (1 ∷ (s + f) / 256 ∷ (s + f) % 256 ∷ []) → r ≡ put_all q (bytes_of (run_events file)) → r ≡ put_all p (written file)
unfolding written
written_put {file} t c e p g h = joined p _ _ g h ∙ ap (λ n. put_all p (1 ∷ n / 256 ∷ n % 256 ∷ bytes_of (run_events file))) (events_count t c e)

-- ---- the answer
module _ (file first : List ℕ) {bad : ℕ} (e : bad ≡ written_refusal file (length first)) where
  pub refused_report_lem : (bad ≡ 0 → ⊥) → record { refusal = bad; length = 0 } ≡ written_report file (length first)
  unfolding written_report ite
  refused_report_lem z = rw (← e, ne_eqb _ _ z)

  pub refused_buffer : (bad ≡ 0 → ⊥) → first ≡ written_buffer file first
  unfolding written_buffer ite
  refused_buffer z = rw (← e, ne_eqb _ _ z)

  module _ (z : bad ≡ 0) {r : Page} (g : r ≡ put_all (page first 0) (written file)) where
    fits : length (written file) ≤ length first
    fits = omega (arith, room_enough (count_of file) file refl, room_for file (length first) (sym e ∙ z))

    stands : r ≡ page (overlay (written file) first) (length (written file))
    stands = g ∙ put_fits (written file) first fits

    pub ended_report : {k : ℕ} → k ≡ (ended file).refusal → record { refusal = k; length = r.at } ≡ written_report file (length first)
    unfolding written_report ite
    ended_report p = rw (← e, eq-eqb _ _ z, p, ap (λ (x : Page). x.at) stands)

    pub ended_buffer : r.bytes ≡ written_buffer file first
    unfolding written_buffer ite
    ended_buffer = rw (← e, eq-eqb _ _ z) (ap (λ (x : Page). x.bytes) stands)
