-- A job run alone from a reachable state with all threads idle ends, in one way: from the start record (Solo.antt, place by place) to its row.
use mathlib.Core.Path.{◌≡◌, refl, sym, ◌∙◌, ap, subst}
use mathlib.Core.Logic.{◌≢◌}
use mathlib.Core.Bool.{Bool, true, false, not, cond}
use Prim.Native.Nat.{ℕ, zero, suc, ◌+◌, ◌*◌, ◌/◌, ◌<◌, ◌≤◌}
use native.Mathlib.Omega.{arith}
use borrow.Author.Tests.{eq-eqb, ne_eqb}
use Rattle.container.specs.Choice.{upd}
use Rattle.container.specs.Depths.{Found, is_in, find}
use Rattle.definitions.specs.declared.Action.{Action}
use Rattle.definitions.specs.declared.Action.TheVariants.{Lookup, Insert, Remove, Split, Join, Query}
use Rattle.definitions.specs.declared.Answer.{Answer}
use Rattle.definitions.specs.Threads.{begun, idle, Turn, Moves, Finishes, Finds, Full, NoStore}
use Rattle.definitions.specs.Bench.{Bench, bench, sight_of}
use Rattle.definitions.specs.Effects.{recount, perform}
use Rattle.definitions.specs.Places.{place_of}
use Rattle.definitions.specs.Steps.{step}
use Rattle.definitions.specs.Tree.{tree_held}
use Rattle.definitions.specs.Records.{Row, no_row, row, carried, taken, record_step, action_number}
use Rattle.definitions.specs.Answers.{said, shown}
use Rattle.definitions.specs.Schedule.{Rec}
use Rattle.definitions.specs.Plain.{doing, Plain, settled, settled_by, finish, start, carried_out}
use Rattle.definitions.specs.Claim.{row_added}
use Rattle.answers.proofs.Tools.{◌==?◌, clash}
use Rattle.laws.specs.Jobs.{last, Reachable, past, Job, Updating, Steps, answer_to}
use Rattle.laws.specs.Laws.{longest, Ends, UpdatesEnd, OneEnd}
use Rattle.laws.proofs.OneRecord.{opening, step_of, step_thread, step_action, step_record, start_thread, start_action, action_low, start_record}
use Rattle.laws.proofs.Kept.{Kept, Says, Said, kept_next, kept_table}
use Rattle.laws.proofs.Calm.{Known, known, Calm, calm_counted, idle_calm}
use Rattle.laws.proofs.Solo.{Solo, at1, SoloTurn, updating, solo, solo_some, solo_busy}

-- ---- past a step record of thread t

abbrev step_rec : ℕ → Rec
step_rec t = record { last = last; first = 16 * t; second = 0; extra = 0 }

kept_step : (b b' : Bench) (P : Plain) (t : ℕ) (w : Row) → Kept b P → record_step b last (16 * t) 0 0 ≡ carried b' w → Kept b' (carried_out 0 t 0 0 (row_added w) P) × Said w (P.operation t) P
kept_step b b' P t w z e = subst (λ u. Kept b' (carried_out 0 u 0 0 (row_added w) P) × Said w (P.operation u) P) (step_thread t)
    (subst (λ n. Kept b' (carried_out n ((16 * t) / 16) 0 0 (row_added w) P) × Said w (P.operation ((16 * t) / 16)) P) (step_action t) (kept_next b b' P (step_rec t) w z e))

-- the rest of a run alone of thread t from b, in at most n steps
record Ran (t n : ℕ) (b : Bench) (P : Plain) : Type 0 where
  steps : ℕ
  answer : Answer
  after : Bench
  taken : Steps t (suc steps) b answer after
  short : suc steps ≤ n
  reached : Reachable after
  kept : Kept after (finish t P)
  mine : after.threads t ≡ idle
  others : (u : ℕ) → u ≢ t → after.threads u ≡ b.threads u
  used : after.store.used ≡ suc b.store.used
  says : Says (P.operation t) P answer

-- where it stands: the tree is calm, and there is a number left
record Amid (b : Bench) (P : Plain) (t n : ℕ) : Type 0 where
  reached : Reachable b
  kept : Kept b P
  calm : Calm b.store
  update : Updating (b.threads t).action
  room : b.store.used + 1 ≤ 256
  solo : Solo b.store (b.threads t) n

run : (n : ℕ) (b : Bench) (P : Plain) (t : ℕ) → t < 4 → Amid b P t n → Ran t n b P
unfolding taken
run zero b P t low a = absurd (solo_some b.store (b.threads t) a.calm a.solo)
run (suc n) b P t low a =
    go (step (place_of (b.threads t).place) (sight_of b.store) (b.threads t)) (solo b.store a.calm (b.threads t) a.update a.room n a.solo)
    (step_record b last t low (ne_eqb _ _ (solo_busy _ _ _ a.solo))) (λ c i. run n c P t low i)
  where
    go : (o : Turn) → SoloTurn b.store n o → record_step b last (16 * t) 0 0 ≡ taken b t o → ((c : Bench) → Amid c P t n → Ran t n c P) → Ran t (suc n) b P
    go (Moves th' e) (c, q, v, y) r ih =
        let r' : record_step b last (16 * t) 0 0 ≡ carried (bench (recount c b.store) (upd b.threads t th')) no_row = r ∙ ap (λ i. carried (bench i (upd b.threads t th')) no_row) q in
        let o = ih (bench (recount c b.store) (upd b.threads t th')) (record {
          reached = past b (step_rec t) no_row a.reached r';
          kept = (kept_step b _ P t no_row a.kept r').0;
          calm = calm_counted c b.store a.calm;
          update = rw (eq-eqb t t refl) v;
          room = a.room;
          solo = rw (eq-eqb t t refl) y;
        }) in
        record {
          steps = suc o.steps;
          answer = o.answer;
          after = o.after;
          taken = (_, r', o.taken);
          short = omega (arith, o.short);
          reached = o.reached;
          kept = o.kept;
          mine = o.mine;
          others = λ w h. o.others w h ∙ rw (ne_eqb w t h);
          used = o.used;
          says = o.says;
        }
    go (Finishes e ans) y r ih =
        let r' : record_step b last (16 * t) 0 0 ≡ carried (bench (perform e b.store) (upd b.threads t idle)) (row (shown ans) 0 0)
        = r ∙ ap (λ d. carried (bench (perform e b.store) (upd b.threads t idle)) (row (shown ans) d 0)) (y.1 b.store.nodes (b.threads t).station) in
        let k = kept_step b _ P t (row (shown ans) 0 0) a.kept r' in record {
          steps = 0;
          answer = shown ans;
          after = bench (perform e b.store) (upd b.threads t idle);
          taken = r';
          short = omega arith;
          reached = past b (step_rec t) (row (shown ans) 0 0) a.reached r';
          kept = k.0;
          mine = rw (eq-eqb t t refl);
          others = λ w h. rw (ne_eqb w t h);
          used = y.0;
          says = k.1;
        }
    go (Finds c) y r ih = absurd y
    go Full y r ih = absurd y
    go NoStore y r ih = absurd y

-- ---- from the start record to the row

abbrev start_rec : Job → Rec
start_rec j = record { last = last; first = 16 * j.thread + action_number j.action; second = j.station; extra = j.depth }

-- the bench and the plain table of a job that has started
abbrev opens : Bench → Job → Bench
opens b j = opening b j.thread (begun j.action j.station j.depth 1)

abbrev underway : Job → Plain → Plain
underway j P = start j.thread j.action j.station j.depth P

start_plain : (a : Action) (t y d : ℕ) (P : Plain) → carried_out (action_number a) t y d false P ≡ start t a y d P
start_plain Lookup t y d P = refl
start_plain Insert t y d P = refl
start_plain Remove t y d P = refl
start_plain Split t y d P = refl
start_plain Join t y d P = refl
start_plain Query t y d P = refl

kept_start : (b b' : Bench) (P : Plain) (j : Job) → Kept b P → step_of b (start_rec j) ≡ carried b' no_row → Kept b' (underway j P)
kept_start b b' P j z e = let low = action_low j.action in subst (λ v. Kept b' v) (start_plain j.action j.thread j.station j.depth P)
    (subst (λ t. Kept b' (carried_out (action_number j.action) t j.station j.depth false P)) (start_thread j.thread (action_number j.action) low)
    (subst (λ n. Kept b' (carried_out n ((16 * j.thread + action_number j.action) / 16) j.station j.depth false P)) (start_action j.thread (action_number j.action) low)
    (kept_next b b' P (start_rec j) no_row z e).0))

pub settled_at : (a : Action) (st d s : ℕ) (f g : ℕ → Found) → f s ≡ g s → settled a st d f s ≡ settled a st d g s
settled_at Lookup st d s f g e = e
settled_at Insert st d s f g e = rw e
settled_at Remove st d s f g e = rw e
settled_at Split st d s f g e = e
settled_at Join st d s f g e = e
settled_at Query st d s f g e = e

-- the plain table before the start and after it is one
says_so : (j : Job) (P : Plain) (ans : Answer) (had : Found) → Updating j.action → had ≡ P.table j.station
    → Says (doing j.action j.station j.depth) (underway j P) ans → ans ≡ said (answer_to j.action (is_in had))
says_so j P ans had u e = updating (λ a. Says (doing a j.station j.depth) (underway j P) ans → ans ≡ said (answer_to a (is_in had)))
    (λ h. h ∙ ap (λ v. said (not (is_in v))) (sym e)) (λ h. h ∙ ap (λ v. said (is_in v)) (sym e)) j.action u

low_number : (a : Action) → Updating a → action_number a ≤ 5
low_number = updating (λ a. action_number a ≤ 5) (omega arith) (omega arith)

pub updates_end : UpdatesEnd
updates_end b j z h p f = finished (run (longest b.store.stop.on) (opens b j) (underway j k.plain) j.thread p.thread (record {
  reached = past b (start_rec j) no_row z started;
  kept = kept_start b _ k.plain j k.kept started;
  calm = idle_calm b k h;
  update = rw (eq-eqb j.thread j.thread refl) p.action;
  room = f;
  solo = rw (eq-eqb j.thread j.thread refl) (at1 refl (long b.store.stop.on));
}))
  where
    k : Known b
    k = known b z

    long : (on : Bool) → 68 + cond on 2 0 ≤ longest on
    long false = omega arith
    long true = omega arith

    started : step_of b (start_rec j) ≡ carried (opens b j) no_row
    started = start_record b last j.thread j.action j.station j.depth (low_number j.action p.action) (low_number j.action p.action) p.thread p.station p.depth (h j.thread p.thread)

    opened : (underway j k.plain).operation j.thread ≡ doing j.action j.station j.depth
    opened = rw (eq-eqb j.thread j.thread refl)

    finished : Ran j.thread (longest b.store.stop.on) (opens b j) (underway j k.plain) → Ends j b
    finished o = record {
      steps = suc o.steps;
      answer = o.answer;
      after = o.after;
      alone = (opens b j, started, o.taken);
      short = o.short;
      reached = o.reached;
      idle = λ u v. elim (u ==? j.thread) [ yes q ↦ rw (q, o.mine) | no q ↦ rw (o.others u q, ne_eqb u j.thread q) (h u v) ];
      used = o.used;
      says = says_so j k.plain o.answer (find (tree_held b) j.station) p.action (kept_table k.kept j.station p.station) (rw opened at o.says);
      table = λ s v. kept_table o.kept s v ∙ ap (λ i. settled_by i k.plain.table s) opened ∙ settled_at j.action j.station j.depth s _ _ (sym (kept_table k.kept s v));
    }

-- ---- one end

steps_one : (t m n : ℕ) (b b' b'' : Bench) (a a' : Answer) → Steps t m b a b' → Steps t n b a' b'' → (m ≡ n) × (a ≡ a') × (b' ≡ b'')
steps_one t zero n b b' b'' a a' s r = absurd s
steps_one t (suc zero) zero b b' b'' a a' s r = absurd r
steps_one t (suc (suc m)) zero b b' b'' a a' s r = absurd r
steps_one t (suc zero) (suc zero) b b' b'' a a' s r = (refl, cc, cc)
steps_one t (suc zero) (suc (suc n)) b b' b'' a a' s (c, r, _) = absurd (clash (cc))
steps_one t (suc (suc m)) (suc zero) b b' b'' a a' (c, s, _) r = absurd (clash (cc))
steps_one t (suc (suc m)) (suc (suc n)) b b' b'' a a' (c, s, x) (c', r, y) = let z : c' ≡ c = cc in
    let o = steps_one t (suc m) (suc n) c b' b'' a a' x (subst (λ v. Steps t (suc n) v a' b'') z y) in (ap suc o.0, o.1, o.2)

pub one_end : OneEnd
one_end j m n b b' b'' a a' (c, e, s) (c', e', s') = let z : c' ≡ c = cc in steps_one j.thread m n c b' b'' a a' s (subst (λ v. Steps j.thread n v a' b'') z s')
