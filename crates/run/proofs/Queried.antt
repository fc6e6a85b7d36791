-- One record more, of a query: its start, and a step at a place from 60 on; what the loop holds after it. Rests on crate answers, by
-- `query_fits`: a frame's stack has room.
use Rattle.std.specs.Prelude.{None, Result as Outcome, Ok, Err}
use mathlib.Core.Path.{◌≡◌, refl, sym, ap, ◌∙◌, subst}
use mathlib.Core.Bool.{not}
use mathlib.Core.List.{List, [], ◌∷◌}
use Prim.Native.Nat.{ℕ, ◌+◌, ◌/◌, ◌%◌, ◌≤◌, ◌<◌}
use native.Mathlib.Omega.{arith}
use lib.Dec.{eqb}
use lib.ListN.{length, get_or, set}
use lib.Seq.{set-set}
use Rattle.buffer.specs.Page.{page, put_all}
use Rattle.depths.specs.Rows.{rows, Holds}
use Rattle.effects.specs.Used.{deepened}
use Rattle.frames.specs.View.{frames_of}
use Rattle.frames.specs.Outcomes.{Room, Opens}
use Rattle.queries.proofs.Fits.{query_fits}
use Rattle.steps.specs.declared.Notes.{Notes}
use Rattle.steps.specs.Decision.{thread}
use Rattle.machine.specs.declared.Asked.{Asked}
use Rattle.machine.specs.declared.Asked.TheVariants.{Step, Start}
use Rattle.machine.proofs.Asks.{query_ends, query_begun}
use Rattle.definitions.specs.Nodes.{Shapes, Stores}
use Rattle.definitions.specs.Threads.{Frame, Thread, new_frame, begun, idle}
use Rattle.definitions.specs.Bench.{stop, Bench}
use Rattle.definitions.specs.Answers.{said}
use Rattle.definitions.specs.Places.{to_base}
use Rattle.definitions.specs.Records.{no_row, row, record_step}
use Rattle.definitions.specs.Versions.{version, last_action, stop_of}
use Rattle.definitions.specs.Run.{after}
use Rattle.definitions.specs.declared.Action.TheVariants.{Query}
use Rattle.definitions.specs.declared.Refusal.{Refusal}
use Rattle.run.specs.Threads.{threads_of}
use Rattle.run.specs.Standing.{Stands}
use Rattle.run.specs.Query.{left_of, used_in, Leaves, found_row}
use Rattle.run.specs.declared.query.Counts.{Counts}
use Rattle.run.specs.declared.query.Left.{Left}
use Rattle.run.specs.declared.query.Left.TheVariants.{Goes, Found}
use Rattle.run.proofs.Cases.{found_as}
use Rattle.run.proofs.Framed.{no_query}
use Rattle.run.proofs.Turn.{seen, stand, Asking, Said, said_so, here, own_frames, own, wants, asked_on, wants_so, carried_on, refused_at, awake, table_with}

module _ {file : List ℕ} {k x y e : ℕ} {n : Shapes} {l : List ℕ} {s : Stores} {threads : List Notes} {counts : List ℕ} {h : ℕ → Frame} {count root used shown finished at : ℕ}
    {first buffer : List ℕ} {a : Outcome Asked Refusal} {end : Notes} (q : Asking file k x y e n l s threads counts h count root used shown finished at first buffer a end) where
  -- a query's start: one frame, from y to e
  pub asking_on : {v : Notes} {h' : ℕ → Frame} → a ≡ Ok (Start Query) → thread v [] ≡ begun Query y e 60 → Opens h h' (x / 16 % 4) 0 (new_frame y (e % 256) None)
      → Stands n l s (stop (stop_of file) count) (threads_of (set threads (x / 16 % 4) v) (set counts (x / 16 % 4) 1) h')
      (stand root used shown (Ok tt) (k + 1) finished at) first buffer (after file (k + 1))
  unfolding put_all
  asking_on {v} {h'} z f o =
      let w : wants q ≡ Ok (Start Query) = wants_so q z in
      let low : e % 256 ≡ e = omega (arith, query_ends (last_action file) x y e (seen threads x end).place w) in
      let one : frames_of h' (x / 16 % 4) 1 ≡ new_frame y e None ∷ [] = rw low at o.frames in
      carried_on q (thread v (frames_of h' (x / 16 % 4) 1)) no_row (table_with q h' v 1 o.others)
      (asked_on q w ∙ rw (one, query_begun y e f)) q.stands.depths (omega arith) refl

  -- a step at 1, 2, 4 or 5 is none of a query
  pub searching : a ≡ Ok Step → (seen threads x end).place < 6 → ((seen threads x end).place ≡ 3 → ⊥) → (seen threads x end).action ≡ Query → ⊥
  searching z l o e =
      let at : (after file k).bench.threads (x / 16 % 4) ≡ thread (seen threads x end) (own_frames q) = sym (ap (λ (b : Bench). b.threads (x / 16 % 4)) q.stands.bench) ∙ own q in
      no_query file k (x / 16 % 4) (seen threads x end).place (ap (λ (t : Thread). t.place) at) (awake q z) l o (ap (λ (t : Thread). t.action) at ∙ e)

  -- what a step at a place from 60 on relies on
  pub stack_fits : 60 ≤ (seen threads x end).place → Room (seen threads x end).place (own_frames q)
  stack_fits m =
      let at : (after file k).bench.threads (x / 16 % 4) ≡ thread (seen threads x end) (own_frames q) = sym (ap (λ (b : Bench). b.threads (x / 16 % 4)) q.stands.bench) ∙ own q in
      let p : ((after file k).bench.threads (x / 16 % 4)).place ≡ (seen threads x end).place = ap (λ (t : Thread). t.place) at in
      subst (λ (i : ℕ). Room i (own_frames q)) p (query_fits file k (x / 16 % 4) h (get_or counts (x / 16 % 4) 0) (ap (λ (t : Thread). t.frames) at) (omega (arith, p))).1

  -- it leaves r, the nodes n', the depths l', the stores s' and the frames that h' holds
  module _ (z : a ≡ Ok Step) {n' : Shapes} {l' : List ℕ} {s' : Stores} {h' : ℕ → Frame} {r : Outcome Left Refusal}
      (g : Leaves n l s root used shown h (x / 16 % 4) (get_or counts (x / 16 % 4) 0) (seen threads x end) n' l' s' h' r) where
    left_by : record_step (here q) (last_action file) x y e
        ≡ left_of n' (deepened g.effect n q.stands.deep) s' (stop (stop_of file) count) h' (here q) (x / 16 % 4) (seen threads x end) r
    left_by = asked_on q (wants_so q z) ∙ g.turn (here q) q.stands.deep (stop (stop_of file) count) refl (own q)

    -- the depths, where those of the nodes then used are lent
    deep_on : {v : ℕ} → length l' ≡ length l → used_in used r ≡ v → Holds (length l') v → rows l' ≡ deepened g.effect n q.stands.deep
    deep_on {v} same f i =
        let w = g.inside (rw f (subst (λ (m : ℕ). Holds m v) same i)) in
        g.depths w.0 ∙ ap (deepened g.effect n) (q.stands.depths w.1)

    -- its thread goes on: place and base in two stores
    pub left_on : (u : Notes) {v : Notes} {c : Counts} {p b m : ℕ} → length l' ≡ length l → r ≡ Ok (Goes c p b m) → ((fs : List Frame) → thread v fs ≡ to_base p b (thread (seen threads x end) fs))
        → Stands n' l' s' (stop (stop_of file) count) (threads_of (set (set threads (x / 16 % 4) u) (x / 16 % 4) v) (set counts (x / 16 % 4) m) h')
        (stand c.root c.used c.shown (Ok tt) (k + 1) finished at) first buffer (after file (k + 1))
    unfolding put_all
    left_on u {v} {m = m} i o f = rw set-set
        (carried_on q (thread v (frames_of h' (x / 16 % 4) m)) no_row (table_with q h' v m g.others)
        (left_by ∙ rw (o, f (frames_of h' (x / 16 % 4) m))) (deep_on i (ap (used_in used) o)) (omega arith) refl)

    pub found_said : {c : Counts} {d : ℕ} → r ≡ Ok (Found c d) → Said file k (said (not (eqb d 0)))
    found_said o =
        said_so q (subst (λ (m : Outcome Left Refusal). record_step (here q) (last_action file) x y e
        ≡ left_of n' (deepened g.effect n q.stands.deep) s' (stop (stop_of file) count) h' (here q) (x / 16 % 4) (seen threads x end) m) o left_by)

    -- it has found a set
    pub left_found : {v : Notes} {finished' at' : ℕ} {buffer' : List ℕ} (m : ℕ) {c : Counts} {d : ℕ} → length l' ≡ length l → r ≡ Ok (Found c d) → thread v [] ≡ idle → finished' ≡ 1 + finished
        → m ≡ version file → page buffer' at' ≡ put_all (page buffer at) (found_row m (x / 16 % 4) (seen threads x end) d)
        → Stands n' l' s' (stop (stop_of file) count) (threads_of (set threads (x / 16 % 4) v) (set counts (x / 16 % 4) 0) h')
        (stand c.root c.used c.shown (Ok tt) (k + 1) finished' at') first buffer' (after file (k + 1))
    left_found {v} m {d = d} i o f j vs ro = carried_on q (thread v []) (row (said (not (eqb d 0))) 0 d) (table_with q h' v 0 g.others)
        (left_by ∙ rw (o, f)) (deep_on i (ap (used_in used) o)) j
        (ro ∙ ap (put_all (page buffer at)) (found_as file m (x / 16 % 4) (seen threads x end) (own_frames q) d vs))

    -- it is refused
    pub left_refused : (v : Refusal) → r ≡ Err v
        → Stands n' l' s' (stop (stop_of file) count) (threads_of threads counts h') (stand root used shown (Err v) k finished at) first buffer (after file (k + 1))
    left_refused v o =
        let p = g.same (rw o tt) in
        rw (p.0, p.1.0, p.1.1.0, p.1.1.1) (refused_at q v (left_by ∙ rw o))
