-- How many bytes each part of a state has: always the same, but for the numbers of nodes and of stores. Assumes nothing.
use Rattle.std.specs.Prelude.{Option, Some, None}
use mathlib.Core.Path.{◌≡◌, refl, ap, ◌∙◌}
use mathlib.Core.Bool.{Bool, true, false}
use mathlib.Core.List.{List, [], ◌∷◌, ◌++◌}
use Prim.Native.Nat.{ℕ, zero, suc, ◌+◌, ◌*◌, ◌/◌, ◌%◌}
use native.Mathlib.Omega.{arith}
use lib.Dec.{eqb}
use lib.ListN.{length, length-append}
use Rattle.container.specs.Choice.{ite}
use Rattle.definitions.specs.Nodes.{Entry}
use Rattle.definitions.specs.Threads.{Frame, Thread}
use Rattle.definitions.specs.Versions.{version}
use Rattle.definitions.specs.Run.{Progress, bytes_of}
use Rattle.definitions.specs.declared.Kind.{Kind}
use Rattle.definitions.specs.declared.Kind.TheVariants.{Normal, Route, Main, Neighbour, Range}
use Rattle.definitions.specs.declared.Stage.{Stage}
use Rattle.definitions.specs.declared.Stage.TheVariants.{Preparing, Completing, Aborted, Done}
use Rattle.snapshot.specs.Layout.{zeros, link_bytes, noted, shared_bytes, padded, each, thread_head, frame_bytes, frames_bytes, thread_bytes, route_bytes, base_bytes, agreed_bytes, own_bytes}
use Rattle.snapshot.specs.Layout.{depth_bytes, holding, node_bytes}
use Rattle.snapshot.specs.State.{ranges, state_head, state_bytes}

-- ---- bytes

bytes_size : (k n : ℕ) → length (bytes_of k n) ≡ k
unfolding bytes_of
bytes_size zero n = refl
bytes_size (suc k) n = length-append (bytes_of k (n / 256)) (n % 256 ∷ []) ∙ (let h = bytes_size k (n / 256) in omega arith)

link_size : (l : Option ℕ) → length (link_bytes l) ≡ 2
link_size None = refl
link_size (Some x) = refl

noted_size : (c : Bool) (l : Option ℕ) → length (noted c l) ≡ 2
unfolding noted
noted_size c l = link_size (ite c l None)

shared_size : (s : Option ℕ) → length (shared_bytes s) ≡ 9
shared_size None = refl
shared_size (Some c) = ap suc (bytes_size 8 c)

padded_size : (k : ℕ) (l : List ℕ) → length (padded k l) ≡ k
unfolding padded
padded_size zero l = refl
padded_size (suc k) [] = ap suc (padded_size k [])
padded_size (suc k) (x ∷ l) = ap suc (padded_size k l)

each_size : (f : ℕ → List ℕ) (m k : ℕ) → ((s : ℕ) → length (f s) ≡ m) → length (each f k) ≡ m * k
unfolding each
each_size f m zero h = omega arith
each_size f m (suc k) h = length-append (each f k) (f k) ∙ (let i = each_size f m k h in let j = h k in omega arith)

-- ---- a thread

ruleset sizes = (length-append, bytes_size, link_size, noted_size, padded_size)

head_size : (n : ℕ) (th : Thread) → length (thread_head n th) ≡ 32
unfolding thread_head
head_size n th = simp sizes

frame_size : (p : ℕ) (f : Frame) → length (frame_bytes p f) ≡ 196
unfolding frame_bytes
frame_size p f = simp sizes

frames_size : (k p : ℕ) (fs : List Frame) → length (frames_bytes k p fs) ≡ 196 * k
unfolding frames_bytes
frames_size zero p fs = omega arith
frames_size (suc k) p [] = length-append (zeros 196) (frames_bytes k 0 []) ∙ (let h = frames_size k 0 [] in omega arith)
frames_size (suc k) p (f ∷ fs) = length-append (frame_bytes p f) (frames_bytes k 0 fs) ∙ (let h = frames_size k 0 fs in let i = frame_size p f in omega arith)

thread_size : (file : List ℕ) (th : Thread) → length (thread_bytes file th) ≡ 816
unfolding thread_bytes ite
thread_size file th = by (eqb (version file) 1)
  where
    by : (b : Bool) → length (thread_head (ite b 0 (length th.frames)) th ++ ite b (zeros 784) (frames_bytes 4 th.place th.frames)) ≡ 816
    by true = simp (length-append, head_size)
    by false = simp (length-append, head_size, frames_size)

-- ---- a node

route_size : (k : Kind) (e : Entry) → length (route_bytes k e) ≡ 6
route_size Normal e = refl
route_size Route e = simp sizes
route_size Main e = refl
route_size Neighbour e = refl
route_size Range e = refl

base_size : (k : Kind) (e : Entry) → length (base_bytes k e) ≡ 10
base_size Normal e = simp sizes
base_size Route e = refl
base_size Main e = simp sizes
base_size Neighbour e = simp sizes
base_size Range e = simp sizes

agreed_size : (s : Stage) (e : Entry) → length (agreed_bytes s e) ≡ 8
agreed_size Preparing e = refl
agreed_size Completing e = simp sizes
agreed_size Aborted e = refl
agreed_size Done e = simp sizes

own_size : (k : Kind) (e : Entry) → length (own_bytes k e) ≡ 16
own_size Normal e = refl
own_size Route e = refl
own_size Main e = simp (length-append, agreed_size)
own_size Neighbour e = refl
own_size Range e = refl

node_size : (file : List ℕ) (range : Option ℕ) (e : Entry) → length (node_bytes file range e) ≡ 176
unfolding node_bytes
node_size file range e =
    let d = each_size (depth_bytes file (holding e)) 2 64 (λ s. bytes_size 2 _) in
    simp (length-append, shared_size, route_size, base_size, own_size, d)

-- ---- the whole

pub state_size : (file : List ℕ) (p : Progress) → length (state_bytes file p) ≡ 3280 + (176 * p.bench.store.used + 9 * p.bench.store.shown)
unfolding state_bytes state_head
state_size file p =
    let t = each_size (λ t. thread_bytes file (p.bench.threads t)) 816 4 (λ t. thread_size file (p.bench.threads t)) in
    let n = each_size (λ x. node_bytes file (ranges p.bench x) (p.bench.store.nodes x)) 176 p.bench.store.used (λ x. node_size file (ranges p.bench x) (p.bench.store.nodes x)) in
    let s = each_size (λ j. shared_bytes (p.bench.store.stores j)) 9 p.bench.store.shown (λ j. shared_size (p.bench.store.stores j)) in
    simp (length-append, bytes_size, t, n, s) (omega arith)
