-- Where the ways of a record meet in the loop: nothing is left to do, or a row is, or what has to do with frames (`query::round`); and what the
-- loop holds once that is done. Rests on crate answers by the laws of one record more.
use Rattle.std.specs.Prelude.{Result as Outcome, Ok, Err}
use mathlib.Core.Path.{◌≡◌, refl, ap, ◌∙◌, subst}
use mathlib.Core.Bool.{not}
use mathlib.Core.List.{List, [], ◌∷◌}
use Prim.Native.Nat.{ℕ, ◌+◌, ◌/◌, ◌%◌, ◌≤◌, ◌<◌}
use native.Mathlib.Omega.{arith}
use lib.Dec.{eqb}
use lib.ListN.{length, get_or, set}
use lib.Seq.{set-set, get_or-set_same, set-get_or}
use Rattle.answers.specs.Reachable.{Unasked}
use Rattle.buffer.specs.Page.{page, put_all}
use Rattle.depths.specs.Rows.{rows, Holds}
use Rattle.effects.specs.Used.{used_after, within, deepened, Applied}
use Rattle.frames.specs.View.{frames_of}
use Rattle.frames.specs.Outcomes.{Opens, Room}
use Rattle.steps.specs.declared.Notes.{Notes}
use Rattle.effects.specs.declared.Write.{Write}
use Rattle.steps.specs.declared.Note.{Note}
use Rattle.steps.specs.declared.Decision.{Decision}
use Rattle.steps.specs.Decision.{thread}
use Rattle.machine.specs.declared.Asked.{Asked}
use Rattle.machine.specs.Noted.{Noted}
use Rattle.machine.specs.Enacted.{depth_by}
use Rattle.definitions.specs.Nodes.{Shapes, Stores}
use Rattle.definitions.specs.Threads.{Frame, Thread, begun, idle}
use Rattle.definitions.specs.Bench.{stop, sight}
use Rattle.definitions.specs.Answers.{said as answers, shown as shownAs}
use Rattle.definitions.specs.Places.{to_base}
use Rattle.definitions.specs.Versions.{version, stop_of}
use Rattle.definitions.specs.Run.{after}
use Rattle.definitions.specs.declared.Action.TheVariants.{Query}
use Rattle.definitions.specs.declared.Answer.{Answer}
use Rattle.definitions.specs.declared.Refusal.{Refusal}
use Rattle.run.specs.Threads.{threads_of, recounted}
use Rattle.run.specs.Standing.{row_of, Stands}
use Rattle.run.specs.Query.{goes_to, Leaves, Bare, Rounds, found_row}
use Rattle.run.specs.declared.Job.{Job}
use Rattle.run.specs.declared.query.Counts.{Counts}
use Rattle.run.specs.declared.query.Left.{Left}
use Rattle.run.specs.declared.query.Left.TheVariants.{Goes, Found}
use Rattle.run.specs.declared.query.Task.{Task}
use Rattle.run.specs.declared.query.Task.TheVariants.{Start, Help, Back, Step, Refuse}
use Rattle.run.proofs.Decided.{written, Decided}
use Rattle.run.proofs.Changed.{Rereads}
use Rattle.run.proofs.Noting.{placed, unopened_still}
use Rattle.run.proofs.Turn.{seen, stand, Asking, Said, acting, answer_said, answer_acts, few, noted_on, said_on, opened_on, opens_few, back_on}
use Rattle.run.proofs.Queried.{asking_on, stack_fits, left_on, found_said, left_found, left_refused}
use Rattle.run.proofs.Wide.{wide_turn, wide_back, wide_start, wide_open}

-- record k has been carried out
abbrev pub Next : List ℕ → ℕ → Shapes → List ℕ → Stores → List Notes → List ℕ → (ℕ → Frame) → ℕ → ℕ → ℕ → ℕ → ℕ → ℕ → List ℕ → List ℕ → Type 0
Next file k n l s threads counts h count root used shown finished at first buffer =
    Stands n l s (stop (stop_of file) count) (threads_of threads counts h) (stand root used shown (Ok tt) (k + 1) finished at) first buffer (after file (k + 1))

-- the thread of record k, of the notes `threads` and the numbers of frames `counts`
module _ (file : List ℕ) (k x : ℕ) (n : Shapes) (l : List ℕ) (s : Stores) (threads : List Notes) (counts : List ℕ) (h : ℕ → Frame) (count root used shown finished at : ℕ)
    (first buffer : List ℕ) (end : Notes) where
  -- what the loop holds once `round` has left this, with n', l', s' and the frames h'
  module _ (n' : Shapes) (l' : List ℕ) (s' : Stores) (h' : ℕ → Frame) where
    pub record Going (c : Counts) (p b m : ℕ) : Type 0 where
      pub on : (u : Notes) {v : Notes} → ((fs : List Frame) → thread v fs ≡ to_base p b (thread (seen threads x end) fs))
          → Next file k n' l' s' (set (set threads (x / 16 % 4) u) (x / 16 % 4) v) (set counts (x / 16 % 4) m) h' count c.root c.used c.shown finished at first buffer

    pub record Finding (c : Counts) (d : ℕ) : Type 0 where
      pub said : Said file k (answers (not (eqb d 0)))
      pub acts : x / 16 < 4 → (seen threads x end).action ≡ ((after file k).bench.threads (x / 16)).action
      pub on : {v : Notes} {finished' at' : ℕ} {buffer' : List ℕ} (m : ℕ) → thread v [] ≡ idle → finished' ≡ 1 + finished → m ≡ version file
          → page buffer' at' ≡ put_all (page buffer at) (found_row m (x / 16 % 4) (seen threads x end) d)
          → Next file k n' l' s' (set threads (x / 16 % 4) v) (set counts (x / 16 % 4) 0) h' count c.root c.used c.shown finished' at' first buffer'

    abbrev pub Rounded : Outcome Left Refusal → Type 0
    Rounded (Ok (Goes c p b m)) = Going c p b m
    Rounded (Ok (Found c d)) = Finding c d
    Rounded (Err f) = Stands n' l' s' (stop (stop_of file) count) (threads_of threads counts h') (stand root used shown (Err f) k finished at) first buffer (after file (k + 1))

    -- the same of what it has left
    pub going : {r : Outcome Left Refusal} {v : Left} {c : Counts} {p b m : ℕ} → r ≡ Ok v → v ≡ Goes c p b m → Rounded r → Going c p b m
    going e f g = subst Rounded (e ∙ ap Ok f) g

    pub finding_set : {r : Outcome Left Refusal} {v : Left} {c : Counts} {d : ℕ} → r ≡ Ok v → v ≡ Found c d → Rounded r → Finding c d
    finding_set e f g = subst Rounded (e ∙ ap Ok f) g

  -- what `round` relies on, and what it leads to
  pub record Rounding (task : Task) : Type 0 where
    pub frames : get_or counts (x / 16 % 4) 0 ≤ 4
    pub wide : (Bare task (get_or counts (x / 16 % 4) 0) → ⊥) → Unasked file → ⊥
    pub more : task ≡ Help → get_or counts (x / 16 % 4) 0 < 4
    pub room : task ≡ Step → (60 ≤ (seen threads x end).place) × Room (seen threads x end).place (frames_of h (x / 16 % 4) (get_or counts (x / 16 % 4) 0))
    pub on : (n' : Shapes) (l' : List ℕ) (s' : Stores) (h' : ℕ → Frame) (r : Outcome Left Refusal) → length l' ≡ length l
        → Rounds task n l s root used shown h (x / 16 % 4) (get_or counts (x / 16 % 4) 0) (seen threads x end) n' l' s' h' r
        → Rounded n' l' s' h' r

  pub record Answering (answer : Answer) : Type 0 where
    pub said : Said file k (shownAs answer)
    pub acts : x / 16 < 4 → (seen threads x end).action ≡ ((after file k).bench.threads (x / 16)).action
    pub on : {v : Notes} {finished' at' : ℕ} {buffer' : List ℕ} (m : ℕ) → thread v [] ≡ idle → finished' ≡ 1 + finished → m ≡ version file
        → ((version file ≡ 1 → ⊥) → Holds (length l) (after file (k + 1)).bench.store.used)
        → page buffer' at' ≡ put_all (page buffer at) (row_of m (x / 16 % 4) (seen threads x end) answer (depth_by answer (rows l) (seen threads x end).station))
        → Next file k n l s (set threads (x / 16 % 4) v) (set counts (x / 16 % 4) 0) h count root used shown finished' at' first buffer'

  -- the job that is left
  abbrev pub Stage : Job → Type 0
  Stage Job.Nothing = Next file k n l s threads counts h count root used shown finished at first buffer
  Stage (Job.Row a) = Answering a
  Stage (Job.Task r) = Rounding r

  -- what is left; the tables keep their lengths, the depths that of l₀
  pub record Staged (l₀ : List ℕ) (job : Job) : Type 0 where
    pub four : length threads ≡ 4
    pub each : length counts ≡ 4
    pub same : length l ≡ length l₀
    pub stage : Stage job

-- the same in other words
pub restaged : {file : List ℕ} {k x : ℕ} {n n' : Shapes} {l l' : List ℕ} {s : Stores} {threads threads' : List Notes} {counts counts' : List ℕ} {h : ℕ → Frame}
    {count count' root root' used used' shown finished at : ℕ} {first buffer : List ℕ} {end : Notes} {l₀ : List ℕ} {job job' : Job}
    → n' ≡ n → l' ≡ l → threads' ≡ threads → counts' ≡ counts → count' ≡ count → root' ≡ root → used' ≡ used → job' ≡ job
    → Staged file k x n l s threads counts h count root used shown finished at first buffer end l₀ job
    → Staged file k x n' l' s threads' counts' h count' root' used' shown finished at first buffer end l₀ job'
restaged a b c d i e f g p = rw (a, b, c, d, i, e, f, g) p

module _ {file : List ℕ} {k x y e : ℕ} {n : Shapes} {l : List ℕ} {s : Stores} {threads : List Notes} {counts : List ℕ} {h : ℕ → Frame} {count root used shown finished at : ℕ}
    {first buffer : List ℕ} {a : Outcome Asked Refusal} {end : Notes} (q : Asking file k x y e n l s threads counts h count root used shown finished at first buffer a end) where
  -- a step at a place from 60 on
  pub round_step : a ≡ Ok Asked.Step → 60 ≤ (seen threads x end).place → Rounding file k x n l s threads counts h count root used shown finished at first buffer end Step
  round_step z m = record {
    frames = few q (x / 16 % 4);
    wide = λ _. wide_turn q m;
    more = λ i. let o : ◌≡◌ {A = ℕ} 0 1 = cc in absurd (omega arith);
    room = λ _. (m, stack_fits q m);
    on = by;
  }
    where
      by : (n' : Shapes) (l' : List ℕ) (s' : Stores) (h' : ℕ → Frame) (r : Outcome Left Refusal) → length l' ≡ length l
          → Leaves n l s root used shown h (x / 16 % 4) (get_or counts (x / 16 % 4) 0) (seen threads x end) n' l' s' h' r
          → Rounded file k x n l s threads counts h count root used shown finished at first buffer end n' l' s' h' r
      by n' l' s' h' (Ok (Goes c p b j)) same g = record { on = λ u f. left_on q z g u same refl f }
      by n' l' s' h' (Ok (Found c d)) same g = record { said = found_said q z g refl; acts = acting q; on = λ j o i v ro. left_found q z g j same refl o i v ro }
      by n' l' s' h' (Err v) same g = left_refused q z g v refl

  -- a refusal, whatever it is for; it may have noted what is the same
  pub round_refused : {threads' : List Notes} {count' : ℕ} → threads' ≡ threads → count' ≡ count → (v : Refusal)
      → Stands n l s (stop (stop_of file) count) (threads_of threads counts h) (stand root used shown (Err v) k finished at) first buffer (after file (k + 1))
      → Rounding file k x n l s threads' counts h count' root used shown finished at first buffer end (Refuse v)
  round_refused g c v i = rw (g, c)
      (record {
        frames = few q (x / 16 % 4);
        wide = λ j. absurd (j tt);
        more = λ j. let o : ◌≡◌ {A = ℕ} 0 1 = cc in absurd (omega arith);
        room = λ j. let o : ◌≡◌ {A = ℕ} 0 1 = cc in absurd (omega arith);
        on = λ n' l' s' h' r same f. rw (f.1.1, f.0, f.1.0.nodes, f.1.0.depths, f.1.0.stores) i;
      })

  -- a query's start
  module _ {w : Notes} (z : a ≡ Ok (Asked.Start Query)) (f : thread w [] ≡ begun Query y e 60) where
    begins : get_or (set threads (x / 16 % 4) w) (x / 16 % 4) end ≡ w
    begins = get_or-set_same threads (x / 16 % 4) w end (omega (arith, q.four))

    bare : get_or (set counts (x / 16 % 4) 0) (x / 16 % 4) 0 ≡ 0
    bare = get_or-set_same counts (x / 16 % 4) 0 0 (omega (arith, q.each))

    station : w.station ≡ y
    station = ap (λ (t : Thread). t.station) f

    extra : w.extra ≡ e
    extra = ap (λ (t : Thread). t.extra) f

    pub round_start : Rounding file k x n l s (set threads (x / 16 % 4) w) (set counts (x / 16 % 4) 0) h count root used shown finished at first buffer end Start
    round_start = record {
      frames = omega (arith, bare);
      wide = λ _. wide_start q z;
      more = λ i. let o : ◌≡◌ {A = ℕ} 0 1 = cc in absurd (omega arith);
      room = λ i. let o : ◌≡◌ {A = ℕ} 0 1 = cc in absurd (omega arith);
      on = λ n' l' s' h' r same g.
          let to : r ≡ goes_to root used shown w.place w.base 1 = rw begins at g.1.1 in
          let opens : Opens h h' (x / 16 % 4) 0 _ = rw (begins, station, extra) at g.0 in
          rw to (record { on = λ u {v} i. rw (g.1.0.nodes, g.1.0.depths, g.1.0.stores, set-set, set-set, set-set) (asking_on q z (rw begins at (i []) ∙ f) opens) });
    }

  -- a step below 60 that has decided d
  module _ (z : a ≡ Ok Asked.Step) {r : ℕ} (d : Decision) (low : (seen threads x end).place < 60) (i : Decided (sight n root used s shown (stop (stop_of file) count)) (seen threads x end) r d)
      {n' : Shapes} (l' : List ℕ) {root' used' : ℕ} {threads' : List Notes} {count' : ℕ} (w : Applied n root used s shown (written d) n' root' s)
      (g : within (written d) (length l') → Holds (length l') used → rows l' ≡ deepened (written d) n q.stands.deep) (u : used' ≡ used_after used (written d))
      (b : Rereads (x / 16 % 4) r end threads threads') (c : count' ≡ recounted (seen threads x end).place count) where
    -- nothing is left once it has noted v, but for frames that stay
    pub noted_done : {v : Notes} {e₁ : Write} {p : ℕ} {m : Note} → d ≡ Decision.Goes e₁ p m → Noted (seen threads' x end) v m p → (m ≡ Note.Opened → ⊥)
        → Next file k n' l' s (set threads' (x / 16 % 4) v) counts h count' root' used' shown finished at first buffer
    noted_done {m = n} o f m = noted_on q z d low i l' w g u b c o f (unopened_still n _ _ m)

    -- with an answer
    pub answer_row : {e₁ : Write} {a₁ : Answer} → d ≡ Decision.Answers e₁ a₁ → Answering file k x n' l' s threads' counts h count' root' used' shown finished at first buffer end a₁
    answer_row o = record { said = answer_said q z d low i l' w g u b c o; acts = answer_acts q z d low i l' w g u b c; on = λ m f j v len ro. said_on q z d low i l' w g u b c m o f j v len ro }

    -- back
    pub round_back : {e₁ : Write} → d ≡ Decision.Back e₁ → Rounding file k x n' l' s threads' counts h count' root' used' shown finished at first buffer end Back
    round_back o = record {
      frames = few q (x / 16 % 4);
      wide = wide_back q;
      more = λ f. let v : ◌≡◌ {A = ℕ} 0 1 = cc in absurd (omega arith);
      room = λ f. let v : ◌≡◌ {A = ℕ} 0 1 = cc in absurd (omega arith);
      on = λ n'' l'' s'' h' p same f. rw f.1.goes (record {
        on = λ _ {v = t} j. rw (f.0.nodes, f.0.depths, f.0.stores, set-get_or counts (x / 16 % 4) 0, set-set)
            (back_on q z d low i l' w g u b c o (record { after = λ _ fs. j fs }) f.1.backs);
      });
    }

    -- a new frame, once its place is noted
    pub round_open : {e₁ : Write} {p₁ : ℕ} → d ≡ Decision.Goes e₁ p₁ Note.Opened
        → Rounding file k x n' l' s (set threads' (x / 16 % 4) (placed p₁ (seen threads' x end))) counts h count' root' used' shown finished at first buffer end Help
    round_open {p₁ = p₁} o =
        let t : ℕ = x / 16 % 4 in
        let put : Notes = placed p₁ (seen threads' x end) in
        let there : get_or (set threads' t put) t end ≡ put = get_or-set_same threads' t put end (omega (arith, b.size, q.four)) in
        record {
          frames = few q t;
          wide = λ _. wide_open q z d low i o;
          more = λ _. opens_few q z d low i o;
          room = λ f. let v : ◌≡◌ {A = ℕ} 0 1 = cc in absurd (omega arith);
          on = λ n'' l'' s'' h' p same f.
              let to : p ≡ goes_to root' used' shown p₁ (seen threads' x end).base (get_or counts t 0 + 1) = rw there at f.1.1 in
              rw to (record {
                on = λ _ {v = j} e. rw (f.1.0.nodes, f.1.0.depths, f.1.0.stores, set-set, set-set)
                    (opened_on q z d low i l' w g u b c o (record { after = λ fr fs. rw there at (e (fr ∷ fs)) }) (rw there at f.0));
              });
        }
