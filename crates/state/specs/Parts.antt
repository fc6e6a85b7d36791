-- The bytes of a state as the code has them: of a standing, of threads and frames in lent arrays; v is the file's version.
use Rattle.std.specs.Prelude.{ℕ, ◌≤◌, ◌≡◌, List, [], ◌∷◌, ◌++◌, eqb, length, get_or, None}
use Rattle.container.specs.Container.{all}
use Rattle.depths.specs.Rows.{Rows, full}
use Rattle.definitions.specs.Nodes.{Shapes, Stores}
use Rattle.definitions.specs.Threads.{Frame}
use Rattle.definitions.specs.Refusal.{code_of}
use Rattle.definitions.specs.Run.{bytes_of}
use Rattle.run.specs.declared.Standing.{Standing}
use Rattle.run.specs.Threads.{threads_of}
use Rattle.snapshot.specs.Layout.{zeros, flag, each, shared_bytes, thread_bytes, reached_below, node_bytes}
use Rattle.snapshot.specs.State.{layout}
use Rattle.frames.specs.declared.frame.Frame.{Frame as Kept}

-- the first 16 bytes
abbrev pub head_bytes : ℕ → Standing → List ℕ
head_bytes v s =
    layout ∷ v ∷ (bytes_of 2 s.done
    ++ code_of s.refusal ∷ s.root ∷ (bytes_of 2 s.used
    ++ (bytes_of 1 s.shown ++ flag (eqb v 3) ∷ (bytes_of 1 s.count ++ zeros 5))))

-- the whole: the nodes t with the depths d, the stores k, the frames that h holds
unfoldable pub bench_bytes : ℕ → Standing → Shapes → Rows → Stores → (ℕ → Frame) → List ℕ
bench_bytes v s t d k h =
    head_bytes v s
    ++ (each (λ u. thread_bytes (v ∷ []) (threads_of s.threads s.frames h u)) 4
    ++ (each (λ x. node_bytes (v ∷ []) (reached_below 63 t s.root all (λ _. None) x) (full t d x)) s.used
    ++ each (λ j. shared_bytes (k j)) s.shown))

-- the frames are there; version 1 has none
pub record There (v : ℕ) (lent : List Kept) : Type 0 where
  pub frames : (v ≡ 1 → ⊥) → 16 ≤ length lent

-- a byte holds each number, and each thread has a place for its frames
pub record Few (s : Standing) : Type 0 where
  pub used : s.used ≤ 256
  pub shown : s.shown ≤ 256
  pub frames : (t : ℕ) → get_or s.frames t 0 ≤ 4
