-- What has been written of a run that has ended is its state, and the buffer holds it. Rests on crate answers: at most 256 numbers and 64 stores
-- (`reach_used`, `reach_shown`), at most four frames a thread (`reach_frames`).
use Rattle.frames.specs.View.{held as frames_held}
use Rattle.frames.specs.declared.frame.Frame.{Frame as Kept}
use Rattle.std.specs.Prelude.{Option, None}
use mathlib.Core.Path.{◌≡◌, refl, sym, ap, ◌∙◌, fun_ext}
use mathlib.Core.Bool.{Bool, true, false}
use mathlib.Core.List.{List, [], ◌∷◌, ◌++◌}
use Prim.Native.Nat.{ℕ, ◌≤◌}
use native.Mathlib.Omega.{arith}
use borrow.Author.Tests.{eqb-true, eqb-false}
use lib.Dec.{eqb}
use lib.ListN.{length, get_or}
use Rattle.container.specs.Choice.{ite}
use Rattle.container.specs.Container.{all}
use Rattle.container.specs.Depths.{container}
use Rattle.buffer.specs.Page.{Page, page, put_all}
use Rattle.buffer.proofs.Laws.{put_fits}
use Rattle.depths.specs.Rows.{Rows, rows, Holds, full}
use Rattle.definitions.specs.Nodes.{Shapes, Stores, entry, is_route}
use Rattle.definitions.specs.Threads.{Frame, Thread}
use Rattle.definitions.specs.Refusal.{code_of}
use Rattle.definitions.specs.Bench.{stop, Bench, bench, store}
use Rattle.definitions.specs.Versions.{version, stop_of}
use Rattle.definitions.specs.Run.{Progress, after, overlay}
use Rattle.definitions.specs.declared.Node.{Node}
use Rattle.definitions.specs.declared.Stop.{Stop}
use Rattle.answers.proofs.Reach.{reach_frames}
use Rattle.answers.proofs.UsedRun.{reach_used, reach_shown}
use Rattle.run.specs.declared.Standing.{Standing}
use Rattle.run.specs.Threads.{threads_of}
use Rattle.run.specs.Standing.{Stands, Carried, Handed}
use Rattle.run.proofs.Threads.{frames_count}
use Rattle.snapshot.specs.Layout.{zeros, each, shared_bytes, thread_bytes, kind_number, depth_bytes, reached_below, node_bytes}
use Rattle.snapshot.specs.Fields.{plain, field_bytes}
use Rattle.snapshot.specs.State.{ranges, state_head, state_bytes, stated_at}
use Rattle.snapshot.proofs.NodeCases.{all_bytes}
use Rattle.snapshot.proofs.Sizes.{state_size}
use Rattle.state.specs.Parts.{head_bytes, bench_bytes, Few}

-- ---- a node: its depths are those that are lent; version 1 shows none

flat : (file : List ℕ) (c : ℕ) (d d' : ℕ → ℕ) → version file ≡ 1 → depth_bytes file (container c d) ≡ depth_bytes file (container c d')
unfolding ite
flat file c d d' e = fun_ext (λ s. rw e)

same_node : (file : List ℕ) (range : Option ℕ) (n : Node) (d d' : ℕ → ℕ) → version file ≡ 1 → node_bytes file range (entry n d) ≡ node_bytes file range (entry n d')
same_node file range n d d' e =
    sym (all_bytes file range n d)
    ∙ (ap (λ (f : ℕ → List ℕ). kind_number n.kind ∷ (shared_bytes range ++ (field_bytes (plain n) ++ (zeros 6 ++ each f 64)))) (flat file (ite (is_route n.kind) 0 n.container) d d' e)
    ∙ all_bytes file range n d')

node_as : (file : List ℕ) (range : Option ℕ) (n : Node) (d d' : ℕ → ℕ) → ((version file ≡ 1 → ⊥) → d ≡ d') → node_bytes (version file ∷ []) range (entry n d) ≡ node_bytes file range (entry n d')
unfolding node_bytes
node_as file range n d d' f = by (eqb (version file) 1) refl
  where
    by : (b : Bool) → eqb (version file) 1 ≡ b → node_bytes file range (entry n d) ≡ node_bytes file range (entry n d')
    by true e = same_node file range n d d' (eqb-true (version file) 1 e)
    by false e = ap (λ (m : ℕ → ℕ). node_bytes file range (entry n m)) (f (eqb-false (version file) 1 e))

-- ---- the bytes of the standing s, over the nodes n, the lent depths l and the stores k, are those of the progress q that it stands for

module _ (file : List ℕ) (n : Shapes) (l : List ℕ) (k : Stores) (s : Standing) (q : Progress) (deep : Rows) (same : (version file ≡ 1 → ⊥) → rows l ≡ deep) where
  abbrev made : Stop → (ℕ → Thread) → Progress
  made z threads = record { bench = bench (store (full n deep) s.root s.used k s.shown z) threads; refusal = code_of s.refusal; done = s.done; finished = q.finished; rows = q.rows }

  abbrev found : ℕ → Option ℕ
  found = reached_below 63 n s.root all (λ _. None)

  nodes_as : each (λ x. node_bytes (version file ∷ []) (found x) (full n (rows l) x)) s.used ≡ each (λ x. node_bytes file (found x) (full n deep x)) s.used
  nodes_as = ap (λ (f : ℕ → List ℕ). each f s.used) (fun_ext (λ x. node_as file (found x) (n x) (rows l x) (deep x) (λ v. ap (λ (d : Rows). d x) (same v))))

  parts_as : (threads : ℕ → Thread)
      → head_bytes (version file) s
      ++ (each (λ u. thread_bytes (version file ∷ []) (threads u)) 4 ++ (each (λ x. node_bytes file (found x) (full n deep x)) s.used ++ each (λ j. shared_bytes (k j)) s.shown))
      ≡ state_bytes file (made (stop (stop_of file) s.count) threads)
  unfolding state_bytes state_head thread_bytes ranges
  parts_as threads = refl

  bench_as : (h : ℕ → Frame) → bench_bytes (version file) s n (rows l) k h ≡ state_bytes file (made (stop (stop_of file) s.count) (threads_of s.threads s.frames h))
  unfolding bench_bytes
  bench_as h =
      ap (λ (v : List ℕ). head_bytes (version file) s
      ++ (each (λ u. thread_bytes (version file ∷ []) (threads_of s.threads s.frames h u)) 4 ++ (v ++ each (λ j. shared_bytes (k j)) s.shown))) nodes_as
      ∙ parts_as (threads_of s.threads s.frames h)

module _ (file : List ℕ) {n : Shapes} {l : List ℕ} {k : Stores} {z : Stop} {threads : ℕ → Thread} {s : Standing} {first buffer : List ℕ} (q : Progress)
    (h : Stands n l k z threads s first buffer q) (deep : (version file ≡ 1 → ⊥) → Holds (length l) s.used) where
  same_made : state_bytes file (made file n l k s q h.deep (λ v. h.depths (deep v)) z threads) ≡ state_bytes file q
  same_made =
      ap (λ (b : Bench). state_bytes file (record { bench = b; refusal = code_of s.refusal; done = s.done; finished = q.finished; rows = q.rows })) h.bench
      ∙ (ap (λ (r : ℕ). state_bytes file (record { bench = q.bench; refusal = r; done = s.done; finished = q.finished; rows = q.rows })) h.refusal
      ∙ ap (λ (d : ℕ). state_bytes file (record { bench = q.bench; refusal = q.refusal; done = d; finished = q.finished; rows = q.rows })) h.done)

  pub whole_put : (p : Page) (f : ℕ → Frame) {e : Page} → threads_of s.threads s.frames f ≡ threads → stop (stop_of file) s.count ≡ z
      → e ≡ put_all p (bench_bytes (version file) s n (rows l) k f) → e ≡ put_all p (state_bytes file q)
  whole_put p f t y e =
      let of : Stop → (ℕ → Thread) → List ℕ = λ w g. state_bytes file (made file n l k s q h.deep (λ v. h.depths (deep v)) w g) in
      e ∙ ap (put_all p) (bench_as file n l k s q h.deep (λ v. h.depths (deep v)) f
      ∙ (ap (λ (g : ℕ → Thread). of (stop (stop_of file) s.count) g) t ∙ (ap (λ (w : Stop). of w threads) y ∙ same_made)))

-- ---- what the code relies on

pub all_few : (file : List ℕ) (count : ℕ) {n : Shapes} {l : List ℕ} {k : Stores} {s : Standing} {first buffer : List ℕ} {lent : List Kept} → Carried file count n l k s first buffer
    → Handed file (after file count).bench s lent → Few s
all_few file count {s = s} {lent = lent} h g = record {
  used = omega (arith, reach_used file count, ap (λ (v : Bench). v.store.used) h.bench);
  shown = omega (arith, reach_shown file count, ap (λ (v : Bench). v.store.shown) h.bench);
  frames = λ t. omega (arith, reach_frames file count t, ap (λ (f : ℕ → Thread). length (f t).frames) g.threads, frames_count (frames_held lent) t (get_or s.frames t 0));
}

-- ---- the buffer holds it

state_fits : (file : List ℕ) (k : ℕ) → length (state_bytes file (after file k)) ≤ 48912
state_fits file k = omega (arith, state_size file (after file k), reach_used file k, reach_shown file k)

module _ (file : List ℕ) (k : ℕ) (first : List ℕ) {buffer : List ℕ} {at : ℕ} (room : 48912 ≤ length first) (e : page buffer at ≡ put_all (page first 0) (state_bytes file (after file k))) where
  held : page buffer at ≡ page (overlay (state_bytes file (after file k)) first) (length (state_bytes file (after file k)))
  held = e ∙ put_fits (state_bytes file (after file k)) first (omega (arith, state_fits file k))

  pub held_buffer : buffer ≡ overlay (state_bytes file (after file k)) first
  held_buffer = ap (λ (p : Page). p.bytes) held

  pub held_report : {r d : ℕ} → r ≡ (after file k).refusal → d ≡ (after file k).done → record { refusal = r; records = d; length = at } ≡ stated_at file (after file k)
  held_report {r} {d} f g = rw (f, g, ap (λ (p : Page). p.at) held)
