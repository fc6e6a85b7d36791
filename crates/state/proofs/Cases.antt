-- What each function has written, one law for each way out; p is the page before, v the file's version. Assumes nothing.
use Rattle.std.specs.Prelude.{Option, None}
use mathlib.Core.Path.{◌≡◌, refl, ap}
use mathlib.Core.Bool.{false}
use mathlib.Core.List.{List, [], ◌∷◌, ◌++◌}
use Prim.Native.Nat.{ℕ, ◌+◌, ◌≤◌, ◌<◌}
use native.Mathlib.Numerals.{add-one}
use native.Mathlib.Omega.{arith}
use borrow.Author.Tests.{ne_eqb}
use lib.Dec.{eqb}
use lib.ListN.{length, get_or}
use Rattle.container.specs.Choice.{ite}
use Rattle.container.specs.Container.{all}
use Rattle.depths.specs.Rows.{Rows, full}
use Rattle.frames.specs.View.{frames_of}
use Rattle.steps.specs.declared.Notes.{Notes}
use Rattle.steps.specs.Decision.{thread}
use Rattle.definitions.specs.Nodes.{Shapes, Stores}
use Rattle.definitions.specs.Threads.{Frame}
use Rattle.definitions.specs.Schedule.{file_refusal}
use Rattle.definitions.specs.Refusal.{code_of}
use Rattle.definitions.specs.Run.{bytes_of}
use Rattle.definitions.specs.declared.Action.TheVariants.{Lookup}
use Rattle.run.specs.declared.Standing.{Standing}
use Rattle.run.specs.Threads.{none, threads_of}
use Rattle.run.proofs.Threads.{within, frames_count}
use Rattle.run.proofs.Room.{by_file, by_room, by_none}
use Rattle.snapshot.specs.Layout.{zeros, flag, each, shared_bytes, thread_head, frames_bytes, thread_bytes, reached_below, node_bytes}
use Rattle.snapshot.specs.State.{state_refusal}
use Rattle.state.specs.Parts.{head_bytes, bench_bytes}

-- ---- the refusal of a file and a buffer
module _ (file : List ℕ) (room : ℕ) {bad : ℕ} (e : bad ≡ file_refusal file) where
  pub refusal_file : (bad ≡ 0 → ⊥) → bad ≡ state_refusal file room
  unfolding state_refusal
  refusal_file z = by_file room _ 25 e z

  pub refusal_room : bad ≡ 0 → room < 48912 → 25 ≡ state_refusal file room
  unfolding state_refusal
  refusal_room z l = by_room room _ 25 e z l

  pub refusal_none : bad ≡ 0 → 48912 ≤ room → 0 ≡ state_refusal file room
  unfolding state_refusal
  refusal_none z l = by_none room _ 25 e z l

-- ---- the head
pub head_parts : (v : ℕ) (s : Standing) {y r : ℕ} → y ≡ flag (eqb v 3) → r ≡ code_of s.refusal
    → 1 ∷ v ∷ (bytes_of 2 s.done ++ r ∷ s.root ∷ (bytes_of 2 s.used ++ (bytes_of 1 s.shown ++ y ∷ (bytes_of 1 s.count ++ zeros 5)))) ≡ head_bytes v s
head_parts v s i j = rw (i, j)

-- ---- one after another
pub each_more : (f : ℕ → List ℕ) (k : ℕ) {xs : List ℕ} → xs ≡ f k → each f k ++ xs ≡ each f (k + 1)
unfolding each
each_more f k e = rw (add-one k, e)

pub each_none : (f : ℕ → List ℕ) → each f 0 ≡ []
unfolding each
each_none f = refl

-- ---- a thread: its notes th, its n frames
module _ (v : ℕ) (th : Notes) (h : ℕ → Frame) (t n : ℕ) where
  pub thread_flat : v ≡ 1 → thread_head 0 (thread th []) ++ zeros 784 ≡ thread_bytes (v ∷ []) (thread th (frames_of h t n))
  unfolding thread_bytes thread_head ite
  thread_flat e = rw e

  -- u and d are what its owner has
  pub thread_deep : {u d : ℕ} → (v ≡ 1 → ⊥) → u ≡ t → d ≡ n → thread_head n (thread th []) ++ frames_bytes 4 th.place (frames_of h u d) ≡ thread_bytes (v ∷ []) (thread th (frames_of h t n))
  unfolding thread_bytes thread_head ite
  thread_deep e f g = rw (f, g, ne_eqb v 1 e, frames_count h t n)

-- what the code would read past the thread table's end
abbrev pub past : Notes
past =
    record {
      action = Lookup;
      station = 0;
      extra = 0;
      place = 0;
      route = 0;
      read = 0;
      base = 0;
      parent = 0;
      left = false;
      found = 0;
      neighbour = 0;
      main = 0;
      owner = false;
      grandparent = None;
      other = 0;
    }

-- thread t of the table, as the code reads it
pub thread_at : (v : ℕ) (l : List Notes) (c : List ℕ) (h : ℕ → Frame) (t : ℕ) → length l ≡ 4 → t < 4
    → thread_bytes (v ∷ []) (thread (get_or l t past) (frames_of h t (get_or c t 0))) ≡ thread_bytes (v ∷ []) (threads_of l c h t)
thread_at v l c h t i j =
    ap (λ (w : Notes). thread_bytes (v ∷ []) (thread w (frames_of h t (get_or c t 0)))) (within l t past none (omega arith))

-- ---- a node, whose range has been read
pub node_at : (v : ℕ) (t : Shapes) (d : Rows) (x : ℕ) {range range' : Option ℕ} → range ≡ range' → node_bytes (v ∷ []) range (full t d x) ≡ node_bytes (v ∷ []) range' (full t d x)
node_at v t d x e = ap (λ (r : Option ℕ). node_bytes (v ∷ []) r (full t d x)) e

-- ---- the whole; w has the ranges of the nodes that are reachable
pub bench_parts : (v : ℕ) (s : Standing) (t : Shapes) (d : Rows) (k : Stores) (h : ℕ → Frame) (w : Stores) → w ≡ reached_below 63 t s.root all (λ _. None)
    → head_bytes v s
    ++ (each (λ u. thread_bytes (v ∷ []) (threads_of s.threads s.frames h u)) 4 ++ (each (λ x. node_bytes (v ∷ []) (w x) (full t d x)) s.used ++ each (λ j. shared_bytes (k j)) s.shown))
    ≡ bench_bytes v s t d k h
unfolding bench_bytes
bench_parts v s t d k h w q = rw q
