-- One record more: what the loop holds after it, by what the record asks of its thread; and the end of the records. Rests on crate answers:
-- `reach_frames`, a thread has at most four frames; `reach_count`, `reach_take`, the count of the stop is at most 4 and never below 0.
use Rattle.std.specs.Prelude.{Some, Result as Outcome, Ok, Err}
use mathlib.Core.Path.{◌≡◌, refl, sym, ap, ◌∙◌, subst}
use mathlib.Core.Bool.{Bool, true, false}
use mathlib.Core.List.{List, [], ◌∷◌}
use Prim.Native.Nat.{ℕ, ◌+◌, ◌/◌, ◌%◌, ◌≤◌, ◌<◌}
use native.Mathlib.Numerals.{add-one}
use native.Mathlib.Omega.{arith}
use borrow.Author.Tests.{eq-eqb, ltb-false}
use lib.Dec.{eqb, ltb}
use lib.ListN.{length, get_or, set}
use Rattle.container.specs.Choice.{ite, upd}
use Rattle.buffer.specs.Page.{page, put_all}
use Rattle.buffer.proofs.Laws.{put_all_append}
use Rattle.depths.specs.Rows.{Rows, rows, Holds, full}
use Rattle.effects.specs.Used.{used_after, shown_after, within, deepened, Applied}
use Rattle.frames.specs.View.{frames_of}
use Rattle.frames.specs.Turns.{Backs}
use Rattle.frames.specs.Outcomes.{Opens}
use Rattle.answers.proofs.Reach.{reach_frames}
use Rattle.answers.proofs.Counted.{reach_count, reach_take}
use Rattle.queries.proofs.Fits.{few_fits}
use Rattle.steps.specs.declared.Notes.{Notes}
use Rattle.steps.specs.declared.Note.{Note}
use Rattle.effects.specs.Writes.{effect_of}
use Rattle.steps.specs.declared.Decision.{Decision}
use Rattle.steps.specs.declared.Decision.TheVariants.{Goes, Answers, NodesOut, Back}
use Rattle.steps.specs.Decision.{thread, top_after}
use Rattle.machine.specs.declared.Asked.{Asked}
use Rattle.machine.specs.declared.Asked.TheVariants.{Step, Start}
use Rattle.machine.specs.Asked.{asked, first_place, answered}
use Rattle.machine.specs.Noted.{frames_after, Noted}
use Rattle.machine.specs.Enacted.{depth_by, Enacted}
use Rattle.machine.proofs.Asks.{asked_so, busy, start_begun}
use Rattle.definitions.specs.Nodes.{Shapes, Stores}
use Rattle.definitions.specs.Threads.{Frame, Thread, new_frame, begun, idle}
use Rattle.definitions.specs.Bench.{stop, Store, store, Bench, bench, sight}
use Rattle.definitions.specs.Answers.{shown as shownAs, depth_in}
use Rattle.definitions.specs.Places.{place_of}
use Rattle.definitions.specs.Effects.{perform}
use Rattle.definitions.specs.Steps.{step}
use Rattle.definitions.specs.Records.{Row, no_row, row, Result, refused, carried, acted, record_step}
use Rattle.definitions.specs.Refusal.{refusal_number}
use Rattle.definitions.specs.Versions.{version, last_action, stop_of}
use Rattle.definitions.specs.Schedule.{Rec, record_at}
use Rattle.definitions.specs.Run.{Progress, row_bytes, row_count, advance_by, advance, after}
use Rattle.definitions.specs.declared.Action.{Action}
use Rattle.definitions.specs.declared.Action.TheVariants.{Query}
use Rattle.definitions.specs.declared.Answer.{Answer}
use Rattle.definitions.specs.declared.Refusal.{Refusal}
use Rattle.definitions.specs.declared.Refusal.TheVariants.{Numbers}
use Rattle.definitions.specs.declared.Effect.{Effect}
use Rattle.definitions.specs.declared.Effect.TheVariants.{Quiet}
use Rattle.effects.specs.declared.Write.{Write}
use Rattle.definitions.specs.declared.Stop.{Stop}
use Rattle.run.specs.Threads.{threads_of, recounted}
use Rattle.run.specs.Standing.{row_of, Stands}
use Rattle.run.specs.Query.{helping}
use Rattle.run.specs.declared.Standing.{Standing}
use Rattle.run.proofs.Cases.{row_as}
use Rattle.run.proofs.Noting.{opened_noted}
use Rattle.run.proofs.Decided.{reread, written, counted, Decided, count_stored}
use Rattle.run.proofs.Lending.{decided_inside}
use Rattle.run.proofs.Outcome.{outcome, goes_on_lem, finishes, runs_out, goes_back}
use Rattle.run.proofs.Finding.{depth_still, opened}
use Rattle.run.proofs.Changed.{Rereads}
use Rattle.run.proofs.Threads.{at_own, put, put_notes_lem, frames_count}

-- ---- one record more
-- only a record of one of the four threads is carried out
one_of_four : (b : Bench) (a x y e : ℕ) {b' : Bench} {w : Row} → record_step b a x y e ≡ carried b' w → x / 16 ≤ 3
unfolding record_step ite
one_of_four b a x y e {b'} {w} = by (ltb 3 (x / 16)) refl
  where
    by : (c : Bool) → ltb 3 (x / 16) ≡ c → ite c (refused 7) (ite (ltb a (x % 16)) (refused 8) (acted (x % 16) b (x / 16) y e)) ≡ carried b' w → x / 16 ≤ 3
    by true f q = let z : ◌≡◌ {A = ℕ} 0 1 = cc in absurd (omega arith)
    by false f q = ltb-false _ _ f

-- the notes that the code reads for the first byte x
abbrev pub seen : List Notes → ℕ → Notes → Notes
seen threads x end = get_or threads (x / 16 % 4) end

abbrev pub stand : ℕ → ℕ → ℕ → Outcome (Unit {0}) Refusal → ℕ → ℕ → ℕ → Standing
stand root used shown refusal done finished at =
    record { root = root; used = used; shown = shown; refusal = refusal; done = done; finished = finished; at = at; threads = []; frames = []; count = 0 }

unrefused : (file : List ℕ) (p : Progress) (r : Rec) → p.refusal ≡ 0 → advance file p r ≡ advance_by file p (r.first / 16) (record_step p.bench r.last r.first r.second r.extra)
unfolding advance ite
unrefused file p r z = rw (eq-eqb _ _ z)

-- what is written below 60 shows no store
shown_still_by : (w : Write) (j : ℕ) → shown_after j (effect_of w) ≡ j
shown_still_by Write.Quiet j = refl
shown_still_by (Write.Mark r l) j = refl
shown_still_by (Write.Settle m v) j = refl
shown_still_by (Write.Invalid r) j = refl
shown_still_by (Write.Swing v x) j = refl
shown_still_by (Write.Base v x k p c m) j = refl
shown_still_by (Write.Fork v x l r k y) j = refl
shown_still_by (Write.Commit m x p n g o) j = refl

shown_still : (d : Decision) (j : ℕ) → shown_after j (written d) ≡ j
shown_still (Goes e p n) j = shown_still_by e j
shown_still (Answers e a) j = shown_still_by e j
shown_still NodesOut j = refl
shown_still (Back e) j = shown_still_by e j

-- x, y and e are what record k of the file has
abbrev pub Reads : List ℕ → ℕ → ℕ → ℕ → ℕ → Type 0
Reads file k x y e = (x ≡ (record_at file k).first) × ((y ≡ (record_at file k).second) × (e ≡ (record_at file k).extra))

last_of : (file : List ℕ) (k : ℕ) → (record_at file k).last ≡ last_action file
unfolding record_at
last_of file k = refl

pub last_few : (file : List ℕ) → last_action file ≤ 6
unfolding ite
last_few file = by (eqb (version file) 1)
  where
    by : (v : Bool) → ite v 5 6 ≤ 6
    by true = omega arith
    by false = omega arith

-- the loop at record k, which is x, y, e: a is what it asks of its thread. The code reads that as `seen`, where the record names one of
-- the four, whatever `end` it would read past the table's end
pub record Asking (file : List ℕ) (k x y e : ℕ) (n : Shapes) (l : List ℕ) (s : Stores) (threads : List Notes) (counts : List ℕ) (h : ℕ → Frame)
    (count root used shown finished at : ℕ) (first buffer : List ℕ) (a : Outcome Asked Refusal) (end : Notes) : Type 0 where
  pub four : length threads ≡ 4
  pub each : length counts ≡ 4
  pub reads : Reads file k x y e
  pub stands : Stands n l s (stop (stop_of file) count) (threads_of threads counts h) (stand root used shown (Ok tt) k finished at) first buffer (after file k)
  pub asks : a ≡ asked (last_action file) x y e (seen threads x end).place

-- record k of the file has the answer m
abbrev pub Said : List ℕ → ℕ → Answer → Type 0
Said file k m =
    (b : Bench) × (d : ℕ) × (c : ℕ)
    × (record_step (after file k).bench (record_at file k).last (record_at file k).first (record_at file k).second (record_at file k).extra ≡ carried b (row m d c))

module _ {file : List ℕ} {k x y e : ℕ} {n : Shapes} {l : List ℕ} {s : Stores} {threads : List Notes} {counts : List ℕ} {h : ℕ → Frame} {count root used shown finished at : ℕ}
    {first buffer : List ℕ} {a : Outcome Asked Refusal} {end : Notes} (q : Asking file k x y e n l s threads counts h count root used shown finished at first buffer a end) where
  -- the thread's number, its frames, and the bench that the loop stands for
  abbrev pub here : Bench
  here = bench (store (full n q.stands.deep) root used s shown (stop (stop_of file) count)) (threads_of threads counts h)

  abbrev pub own_frames : List Frame
  own_frames = frames_of h (x / 16 % 4) (get_or counts (x / 16 % 4) 0)

  -- its thread
  pub own : threads_of threads counts h (x / 16 % 4) ≡ thread (seen threads x end) own_frames
  own = at_own threads counts h (x / 16 % 4) end q.four (omega arith)

  one_on : after file (k + 1) ≡ advance_by file (after file k) (x / 16) (record_step (after file k).bench (last_action file) x y e)
  unfolding after
  one_on = rw (add-one, q.reads.0, q.reads.1.0, q.reads.1.1, ← last_of file k) (unrefused file (after file k) (record_at file k) (sym q.stands.refusal))

  -- what the code relies on: each thread has at most four frames
  pub few : (u : ℕ) → get_or counts u 0 ≤ 4
  few u = few_fits file k u h (get_or counts u 0) (sym (ap (λ (b : Bench). (b.threads u).frames) q.stands.bench))

  -- and the count is at most 4; where it is taken off there is one
  count_at : count ≡ (after file k).bench.store.stop.count
  count_at = ap (λ (b : Bench). b.store.stop.count) q.stands.bench

  pub count_few : count ≤ 4
  count_few = omega (arith, count_at, reach_count file k)

  pub count_some_lem : (seen threads x end).place ≡ 5 → 0 < count
  count_some_lem e =
      let at : ((after file k).bench.threads (x / 16 % 4)).place ≡ 5 = sym (ap (λ (b : Bench). (b.threads (x / 16 % 4)).place) q.stands.bench) ∙ (ap (λ (t : Thread). t.place) own ∙ e) in
      omega (arith, count_at, reach_take file k (x / 16 % 4) (omega arith) at)

  -- it is carried out: its thread is th then, of the table `threads'`
  pub carried_on : {n' : Shapes} {l' : List ℕ} {s' : Stores} {threads' : ℕ → Thread} {deep' : Rows} {root' used' shown' count' finished' at' : ℕ} {buffer' : List ℕ} (th : Thread) (w : Row)
      → threads' ≡ upd (threads_of threads counts h) (x / 16 % 4) th
      → record_step here (last_action file) x y e ≡ carried (bench (store (full n' deep') root' used' s' shown' (stop (stop_of file) count')) (upd (threads_of threads counts h) (x / 16 % 4) th)) w
      → (Holds (length l') used' → rows l' ≡ deep')
      → finished' ≡ row_count w + finished → page buffer' at' ≡ put_all (page buffer at) (row_bytes file (x / 16 % 4) (thread (seen threads x end) own_frames) w)
      → Stands n' l' s' (stop (stop_of file) count') threads' (stand root' used' shown' (Ok tt) (k + 1) finished' at') first buffer' (after file (k + 1))
  carried_on {n'} {l'} {s'} {threads'} {deep'} th w t f g m ro =
      let p : Progress = after file k in
      let done : record_step p.bench (last_action file) x y e ≡ carried _ w = rw q.stands.bench at f in
      let mine : x / 16 % 4 ≡ x / 16 = omega (arith, one_of_four p.bench (last_action file) x y e done) in
      let at-mine : thread (seen threads x end) own_frames ≡ p.bench.threads (x / 16) =
      sym own ∙ (ap (threads_of threads counts h) mine ∙ ap (λ (b : Bench). b.threads (x / 16)) q.stands.bench) in
      rw (one_on, done)
      (record {
        deep = deep';
        bench = rw t;
        depths = g;
        refusal = refl;
        done = omega (arith, q.stands.done);
        finished = rw (m, q.stands.finished);
        rows = ro ∙ (ap (λ (i : ℕ). put_all (page buffer at) (row_bytes file i (thread (seen threads x end) own_frames) w)) mine
            ∙ (ap (λ (v : Thread). put_all (page buffer at) (row_bytes file (x / 16) v w)) at-mine ∙ rw (q.stands.rows, ← put_all_append)));
      })

  -- its answer, and its action
  pub said_so : {b : Bench} {m : Answer} {d c : ℕ} → record_step here (last_action file) x y e ≡ carried b (row m d c) → Said file k m
  said_so {b} {m} {d} {c} f =
      (b, d, c, rw (last_of file k, ← q.reads.0, ← q.reads.1.0, ← q.reads.1.1) (rw q.stands.bench at f))

  pub acting : x / 16 < 4 → (seen threads x end).action ≡ ((after file k).bench.threads (x / 16)).action
  acting low =
      let mine : x / 16 % 4 ≡ x / 16 = omega arith in
      ap (λ (t : Thread). t.action) (sym own ∙ (ap (threads_of threads counts h) mine ∙ ap (λ (b : Bench). b.threads (x / 16)) q.stands.bench))

  -- or it is refused
  pub refused_at : (v : Refusal) → record_step here (last_action file) x y e ≡ refused (refusal_number v)
      → Stands n l s (stop (stop_of file) count) (threads_of threads counts h) (stand root used shown (Err v) k finished at) first buffer (after file (k + 1))
  refused_at v f =
      let done : record_step (after file k).bench (last_action file) x y e ≡ refused (refusal_number v) = rw q.stands.bench at f in
      rw (one_on, done)
      (record { deep = q.stands.deep; bench = q.stands.bench; depths = q.stands.depths; refusal = refl; done = q.stands.done; finished = q.stands.finished; rows = q.stands.rows })

  pub next_bench : {b : Bench} {w : Row} → record_step here (last_action file) x y e ≡ carried b w → (after file (k + 1)).bench ≡ b
  next_bench f = ap (λ (p : Progress). p.bench) (one_on ∙ ap (advance_by file (after file k) (x / 16)) (ap (λ (b : Bench). record_step b (last_action file) x y e) (sym q.stands.bench) ∙ f))

  -- what it asks decides
  abbrev pub wants : Outcome Asked Refusal
  wants = asked (last_action file) x y e (seen threads x end).place

  pub asked_on : {m : Outcome Asked Refusal} → wants ≡ m → record_step here (last_action file) x y e ≡ answered m here (x / 16 % 4) y e
  asked_on f = asked_so here (x / 16 % 4) (last_action file) x y e (last_few file) (λ small. omega arith)
      ∙ ap (λ (m : Outcome Asked Refusal). answered m here (x / 16 % 4) y e) (ap (λ (t : Thread). asked (last_action file) x y e t.place) own ∙ f)

  pub wants_so : {m : Outcome Asked Refusal} → a ≡ m → wants ≡ m
  wants_so z = sym q.asks ∙ z

  -- a start is not refused
  pub started_on : {c : Action} → a ≡ Ok (Start c) → (after file (k + 1)).refusal ≡ 0
  started_on z = rw (one_on, rw q.stands.bench at (asked_on (wants_so z))) refl

  -- the table with the notes v for its thread, and c frames, or as many as before
  pub table_with : (h' : ℕ → Frame) (v : Notes) (c : ℕ) → ((u j : ℕ) → j ≤ 4 → (u ≡ x / 16 % 4 → ⊥) → frames_of h' u j ≡ frames_of h u j)
      → threads_of (set threads (x / 16 % 4) v) (set counts (x / 16 % 4) c) h' ≡ upd (threads_of threads counts h) (x / 16 % 4) (thread v (frames_of h' (x / 16 % 4) c))
  table_with h' v c o = put threads counts h h' (x / 16 % 4) v (omega (arith, q.four)) few o c (omega (arith, q.each))

  pub table_noted : (h' : ℕ → Frame) (v : Notes) → ((u j : ℕ) → j ≤ 4 → (u ≡ x / 16 % 4 → ⊥) → frames_of h' u j ≡ frames_of h u j)
      → threads_of (set threads (x / 16 % 4) v) counts h' ≡ upd (threads_of threads counts h) (x / 16 % 4) (thread v (frames_of h' (x / 16 % 4) (get_or counts (x / 16 % 4) 0)))
  table_noted h' v o = put_notes_lem threads counts h h' (x / 16 % 4) v (omega (arith, q.four)) few o

  -- a start that is no query's
  pub start_on : {c : Action} {v : Notes} → a ≡ Ok (Start c) → (c ≡ Query → ⊥) → thread v [] ≡ begun c y e (first_place c)
      → Stands n l s (stop (stop_of file) count) (threads_of (set threads (x / 16 % 4) v) (set counts (x / 16 % 4) 0) h)
      (stand root used shown (Ok tt) (k + 1) finished at) first buffer (after file (k + 1))
  unfolding put_all
  start_on {c} {v} z g f =
      carried_on (thread v []) no_row (table_with h v 0 (λ _ _ _ _. refl)) (asked_on (wants_so z) ∙ rw (f, start_begun c y e g)) q.stands.depths (omega arith) refl

  -- a refusal
  pub refused_on : {v : Refusal} → a ≡ Err v
      → Stands n l s (stop (stop_of file) count) (threads_of threads counts h) (stand root used shown (Err v) k finished at) first buffer (after file (k + 1))
  refused_on {v} z = refused_at v (asked_on (wants_so z))

  -- a thread that takes a step is not idle
  pub awake : a ≡ Ok Step → 0 < (seen threads x end).place
  awake z = busy (last_action file) x y e (seen threads x end).place (wants_so z)

  -- a step below 60, which with r routes read decides d
  module _ (z : a ≡ Ok Step) {r : ℕ} (d : Decision) (low : (seen threads x end).place < 60) (i : Decided (sight n root used s shown (stop (stop_of file) count)) (seen threads x end) r d) where
    abbrev effect : Effect
    effect = written d

    steps_on : {w : Result} → outcome here (x / 16 % 4) (seen threads x end) r own_frames d own i ≡ w → record_step here (last_action file) x y e ≡ w
    steps_on f = asked_on (wants_so z) ∙ f

    -- the frame that it puts on top, where it does
    abbrev top : Frame
    top = top_after (step (place_of (seen threads x end).place) (sight n root used s shown (stop (stop_of file) count)) (thread (seen threads x end) own_frames))

    -- numbers have run out
    pub full_on : {threads' : List Notes} → d ≡ NodesOut → threads' ≡ threads
        → Stands n l s (stop (stop_of file) count) (threads_of threads' counts h) (stand root used shown (Err Numbers) k finished at) first buffer (after file (k + 1))
    full_on o g = rw g (refused_at Numbers (steps_on (runs_out here (x / 16 % 4) (seen threads x end) r own_frames d own i o)))

    -- where it opens a frame there is room: its thread has one more after it
    pub opens_one : {e₁ : Write} {p : ℕ} → d ≡ Goes e₁ p Note.Opened → ((after file (k + 1)).bench.threads (x / 16 % 4)).frames ≡ top ∷ own_frames
    opens_one {p = p} o = ap (λ (w : Bench). (w.threads (x / 16 % 4)).frames) (next_bench (steps_on (goes_on_lem here (x / 16 % 4) (seen threads x end) r own_frames d own i o (opened_noted p))))
        ∙ rw (eq-eqb (x / 16 % 4) (x / 16 % 4) refl)

    pub opens_few : {e₁ : Write} {p : ℕ} → d ≡ Goes e₁ p Note.Opened → get_or counts (x / 16 % 4) 0 < 4
    opens_few o =
        let t : ℕ = x / 16 % 4 in
        omega (arith, subst (λ (fs : List Frame). length fs ≤ 4) (opens_one o) (reach_frames file (k + 1) t), frames_count h t (get_or counts t 0))

    -- it goes on or finishes; what it writes leaves n', root', used' and the depths l'. The routes read are noted in `threads'`, and count' is the
    -- new count
    module _ {n' : Shapes} (l' : List ℕ) {root' used' : ℕ} {threads' : List Notes} {count' : ℕ} (w : Applied n root used s shown effect n' root' s)
        (g : within effect (length l') → Holds (length l') used → rows l' ≡ deepened effect n q.stands.deep) (u : used' ≡ used_after used effect)
        (b : Rereads (x / 16 % 4) r end threads threads') (c : count' ≡ recounted (seen threads x end).place count) where
      stored_on : store (full n' (deepened effect n q.stands.deep)) root' used' s shown
          (stop (stop_of file) count') ≡ perform (counted (seen threads x end).place effect) here.store
      stored_on =
          let v : Stop = stop (stop_of file) count' in
          ap (λ (j : ℕ). store (full n' (deepened effect n q.stands.deep)) root' used' s j v) (sym (shown_still d shown))
          ∙ (rw u (w.stored q.stands.deep v)
          ∙ count_stored (seen threads x end).place effect (full n q.stands.deep) root used s shown (stop_of file) count _ i.quiet c)

      -- the depths, where those of the nodes then used are lent
      deep_on : Holds (length l') used' → rows l' ≡ deepened effect n q.stands.deep
      deep_on f = let j = decided_inside here.store (seen threads x end) r own_frames d i (length l') (rw u at f) in g j.0 j.1

      -- the table with the notes v for its thread, and m frames, or as many as before
      again_with : (h' : ℕ → Frame) (v : Notes) (m : ℕ) → ((u j : ℕ) → j ≤ 4 → (u ≡ x / 16 % 4 → ⊥) → frames_of h' u j ≡ frames_of h u j)
          → threads_of (set threads' (x / 16 % 4) v) (set counts (x / 16 % 4) m) h' ≡ upd (threads_of threads counts h) (x / 16 % 4) (thread v (frames_of h' (x / 16 % 4) m))
      again_with h' v m o = ap (λ (t : List Notes). threads_of t (set counts (x / 16 % 4) m) h') (b.puts v) ∙ table_with h' v m o

      again_noted : (h' : ℕ → Frame) (v : Notes) → ((u j : ℕ) → j ≤ 4 → (u ≡ x / 16 % 4 → ⊥) → frames_of h' u j ≡ frames_of h u j)
          → threads_of (set threads' (x / 16 % 4) v) counts h' ≡ upd (threads_of threads counts h) (x / 16 % 4) (thread v (frames_of h' (x / 16 % 4) (get_or counts (x / 16 % 4) 0)))
      again_noted h' v o = ap (λ (t : List Notes). threads_of t counts h') (b.puts v) ∙ table_noted h' v o

      -- what is noted of the notes in the table
      noted_of : {v : Notes} (m : Note) (p : ℕ) → Noted (seen threads' x end) v m p → Noted (reread r (seen threads x end)) v m p
      noted_of {v} m p f = subst (λ (t : Notes). Noted t v m p) b.own f

      -- it notes v, and its frames stay
      pub noted_on : {v : Notes} {e₁ : Write} {p : ℕ} {m : Note} → d ≡ Goes e₁ p m → Noted (seen threads' x end) v m p → frames_after m top own_frames ≡ own_frames
          → Stands n' l' s (stop (stop_of file) count') (threads_of (set threads' (x / 16 % 4) v) counts h) (stand root' used' shown (Ok tt) (k + 1) finished at) first buffer (after file (k + 1))
      unfolding put_all
      noted_on {v} {p = p} {m = m} o f j = carried_on (thread v own_frames) no_row (again_noted h v (λ _ _ _ _. refl))
          (steps_on (goes_on_lem here (x / 16 % 4) (seen threads x end) r own_frames d own i o (noted_of m p f) ∙ rw (← stored_on, j))) deep_on (omega arith) refl

      -- with a new frame, for the range base that it has reached: nothing is written, so the base is as it was
      base_still : {e₁ : Write} {p : ℕ} → d ≡ Goes e₁ p Note.Opened → helping (n' (seen threads x end).base) ≡ top
      base_still o =
          let m : ℕ = (seen threads x end).base in
          let c : (effect ≡ Quiet) × (top ≡ helping (n m)) = opened (sight n root used s shown (stop (stop_of file) count)) (seen threads x end) low r d i own_frames o in
          let v : Stop = stop (stop_of file) count in
          let kept : store (full n' (deepened effect n q.stands.deep)) root' (used_after used effect) s (shown_after shown effect) v ≡ here.store =
          w.stored q.stands.deep v ∙ ap (λ (a : Effect). perform a here.store) c.0 in
          ap (λ (t : Store). new_frame (t.nodes m).lower (t.nodes m).upper (Some (t.nodes m).store)) kept ∙ sym c.1

      pub opened_on : {v : Notes} {h' : ℕ → Frame} {e₁ : Write} {p₁ : ℕ} → d ≡ Goes e₁ p₁ Note.Opened → Noted (seen threads' x end) v Note.Opened p₁
          → Opens h h' (x / 16 % 4) (get_or counts (x / 16 % 4) 0) (helping (n' (seen threads' x end).base))
          → Stands n' l' s (stop (stop_of file) count')
          (threads_of (set threads' (x / 16 % 4) v) (set counts (x / 16 % 4) (get_or counts (x / 16 % 4) 0 + 1)) h')
          (stand root' used' shown (Ok tt) (k + 1) finished at) first buffer (after file (k + 1))
      unfolding put_all
      opened_on {v} {h'} {p₁ = p₁} o j p =
          let t : ℕ = x / 16 % 4 in
          let here-base : (seen threads' x end).base ≡ (seen threads x end).base = ap (λ (m : Notes). m.base) b.own in
          let most : Opens h h' t (get_or counts t 0) (helping (n' (seen threads x end).base)) = rw here-base at p in
          let more : frames_of h' t (get_or counts t 0 + 1) ≡ top ∷ own_frames = rw add-one (most.frames ∙ ap (λ (m : Frame). m ∷ own_frames) (base_still o)) in
          carried_on _ no_row (again_with h' v (get_or counts t 0 + 1) p.others)
          (steps_on (goes_on_lem here t (seen threads x end) r own_frames d own i o (noted_of Note.Opened p₁ j) ∙ rw (← stored_on, ← more))) deep_on (omega arith) refl

      -- back, where its frames lead
      pub back_on : {v : Notes} {h' : ℕ → Frame} {p : ℕ} {e₁ : Write} → d ≡ Back e₁ → Noted (seen threads' x end) v Note.Nothing p → Backs h h' (x / 16 % 4) (get_or counts (x / 16 % 4) 0) p
          → Stands n' l' s (stop (stop_of file) count') (threads_of (set threads' (x / 16 % 4) v) counts h')
          (stand root' used' shown (Ok tt) (k + 1) finished at) first buffer (after file (k + 1))
      unfolding put_all
      back_on {v} {h'} {p} o f m =
          carried_on (thread v (frames_of h' (x / 16 % 4) (get_or counts (x / 16 % 4) 0))) no_row (again_noted h' v m.others)
          (steps_on (goes_back here (x / 16 % 4) (seen threads x end) r own_frames d own i o (noted_of Note.Nothing p f)
          (m.turn effect (thread (reread r (seen threads x end)) own_frames)) ∙ rw (← stored_on))) deep_on (omega arith) refl

      pub answer_said : {e₁ : Write} {a₁ : Answer} → d ≡ Answers e₁ a₁ → Said file k (shownAs a₁)
      answer_said o = said_so (steps_on (finishes here (x / 16 % 4) (seen threads x end) r own_frames d own i o))

      pub answer_acts : x / 16 < 4 → (seen threads' x end).action ≡ ((after file k).bench.threads (x / 16)).action
      answer_acts low = ap (λ (t : Notes). t.action) b.own ∙ acting low

      -- with a row: from version 2 on the depths of all nodes then used are lent, and the depth is read in them after what is written
      pub said_on : {v : Notes} {finished' at' : ℕ} {buffer' : List ℕ} (m : ℕ) {e₁ : Write} {a₁ : Answer} → d ≡ Answers e₁ a₁ → thread v [] ≡ idle → finished' ≡ 1 + finished → m ≡ version file
          → ((version file ≡ 1 → ⊥) → Holds (length l') (after file (k + 1)).bench.store.used)
          → page buffer' at' ≡ put_all (page buffer at) (row_of m (x / 16 % 4) (seen threads' x end) a₁ (depth_by a₁ (rows l') (seen threads' x end).station))
          → Stands n' l' s (stop (stop_of file) count') (threads_of (set threads' (x / 16 % 4) v) (set counts (x / 16 % 4) 0) h)
          (stand root' used' shown (Ok tt) (k + 1) finished' at') first buffer' (after file (k + 1))
      said_on {v} m {a₁ = a₁} o f j vs len ro =
          let deep : Rows = q.stands.deep in
          let said = steps_on (finishes here (x / 16 % 4) (seen threads x end) r own_frames d own i o) in
          let same : used' ≡ (after file (k + 1)).bench.store.used = ap (λ (t : Store). t.used) stored_on ∙ sym (ap (λ (a : Bench). a.store.used) (next_bench said)) in
          let found : (version file ≡ 1 → ⊥) → depth_by a₁ (rows l') (seen threads x end).station ≡ depth_in a₁ (full n deep) (seen threads x end).station =
          λ z. ap (λ (r : Rows). depth_by a₁ r (seen threads x end).station) (deep_on (rw same (len z)))
          ∙ depth_still (sight n root used s shown (stop (stop_of file) count)) (seen threads x end) low r d i own_frames n deep (seen threads x end).station o in
          carried_on (thread v []) (row (shownAs a₁) (depth_in a₁ (full n deep) (seen threads x end).station) 0)
          (again_with h v 0 (λ _ _ _ _. refl))
          (steps_on (finishes here (x / 16 % 4) (seen threads x end) r own_frames d own i o ∙ rw (← stored_on, f))) deep_on j
          (ro ∙ (ap (λ (t : Notes). put_all (page buffer at) (row_of m (x / 16 % 4) t a₁ (depth_by a₁ (rows l') t.station))) b.own
          ∙ ap (put_all (page buffer at)) (row_as file m (x / 16 % 4) (seen threads x end) own_frames a₁ _ _ vs found)))

-- the depths after a step, where they are lent
pub deeper : {n n' : Shapes} {l l' : List ℕ} {s s' : Stores} {v : Stop} {threads : ℕ → Thread} {t : Standing} {first buffer : List ℕ} {p : Progress} {e : Effect} {root used shown r : ℕ}
    (h : Stands n l s v threads t first buffer p) → Enacted n l root used s shown e n' l' r s' → length l' ≡ length l
    → within e (length l') → Holds (length l') t.used → rows l' ≡ deepened e n h.deep
deeper {n} {t = t} {e = e} h o same z w = o.depths.rows (subst (within e) same z) ∙ ap (deepened e n) (h.depths (subst (λ (m : ℕ). Holds m t.used) same w))
