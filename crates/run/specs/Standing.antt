-- How the code holds a run in progress: the bench by its node table, its root, the numbers used, its stores, its stop and its threads, the depths
-- where those of the nodes used are lent; the rows in a page of the lent buffer.
use Rattle.frames.specs.View.{held}
use Rattle.std.specs.Prelude.{ℕ, ◌≡◌, ◌⊎◌, ◌≤◌, List, [], ◌∷◌, ltb, length, Option}
use Rattle.container.specs.Choice.{ite}
use Rattle.answers.specs.Reachable.{Unasked}
use Rattle.buffer.specs.Page.{page, put_all}
use Rattle.depths.specs.Rows.{Rows, rows, Holds, full}
use Rattle.definitions.specs.Nodes.{Shapes, Stores}
use Rattle.definitions.specs.Threads.{Thread}
use Rattle.definitions.specs.Bench.{stop, Bench, bench, store}
use Rattle.definitions.specs.Answers.{shown}
use Rattle.definitions.specs.Records.{row}
use Rattle.definitions.specs.Refusal.{code_of}
use Rattle.definitions.specs.Versions.{version, stop_of}
use Rattle.definitions.specs.Schedule.{count_of}
use Rattle.definitions.specs.Run.{Progress, row_bytes, after}
use Rattle.definitions.specs.declared.Answer.{Answer}
use Rattle.definitions.specs.declared.Stop.{Stop}
use Rattle.steps.specs.declared.Notes.{Notes}
use Rattle.steps.specs.Decision.{thread}
use Rattle.run.specs.Threads.{threads_of}
use Rattle.run.specs.declared.Standing.{Standing}
use Rattle.frames.specs.declared.frame.Frame.{Frame as Kept}

-- as many node numbers as the run of a file may use: n records use at most n + 1, and there are 256
abbrev pub numbers_for : List ℕ → ℕ
numbers_for file = ite (ltb 64 (count_of file)) 256 65

-- the depths that it is lent, 0 at first: none in version 1, else those of all nodes that it may use
pub record Lent (file l : List ℕ) : Type 0 where
  pub blank : rows l ≡ (λ _ _. 0)
  pub none : version file ≡ 1 → length l ≡ 0
  pub whole : (version file ≡ 1 → ⊥) → Holds (length l) (numbers_for file)

-- n results, and j frames
pub record Sizes (n j : ℕ) (r : List (Option ℕ)) (f : List Kept) : Type 0 where
  pub results : length r ≡ n
  pub frames : length f ≡ j

-- the memory for queries that it is lent: the stores' results and the frames. A file that asks for no query
-- needs none
abbrev pub Spare : List ℕ → List (Option ℕ) → List Kept → Type 0
Spare file results lent = Unasked file ⊎ Sizes 256 16 results lent

-- the same by numbers: d depths, r results and n frames
pub record Enough (file : List ℕ) (d r n : ℕ) : Type 0 where
  pub none : version file ≡ 1 → d ≡ 0
  pub whole : (version file ≡ 1 → ⊥) → Holds d (numbers_for file)
  pub spare : Unasked file ⊎ ((r ≡ 256) × (n ≡ 16))
  pub depths : d ≤ 16384
  pub results : r ≤ 256
  pub frames : n ≤ 16

-- ---- a row

-- its bytes in a file of version v: of a file, they depend on its version alone
abbrev pub row_of : ℕ → ℕ → Notes → Answer → ℕ → List ℕ
row_of v t th a d = row_bytes (v ∷ []) t (thread th []) (row (shown a) d 0)

-- ---- a run

-- the standing s over the nodes t, the lent depths l, the stores k, the stop z and the threads, with the rows written into `buffer`, is the progress p
-- whose rows began in `blank`; `deep` are the bench's depths
pub record Stands (t : Shapes) (l : List ℕ) (k : Stores) (z : Stop) (threads : ℕ → Thread) (s : Standing) (blank buffer : List ℕ) (p : Progress) : Type 0 where
  pub deep : Rows
  pub bench : bench (store (full t deep) s.root s.used k s.shown z) threads ≡ p.bench
  pub depths : Holds (length l) s.used → rows l ≡ deep
  pub refusal : code_of s.refusal ≡ p.refusal
  pub done : s.done ≡ p.done
  pub finished : s.finished ≡ p.finished
  pub rows : page buffer s.at ≡ put_all (page blank 0) p.rows

-- the first n records of the file have been carried out; the threads and the stop are then those of the definition
abbrev pub Carried : List ℕ → ℕ → Shapes → List ℕ → Stores → Standing → List ℕ → List ℕ → Type 0
Carried file n t l k s blank buffer = Stands t l k (after file n).bench.store.stop (after file n).bench.threads s blank buffer (after file n)

-- the threads that s hands out, with the frames that are lent, and the count of the stop are those of the bench b
pub record Handed (file : List ℕ) (b : Bench) (s : Standing) (lent : List Kept) : Type 0 where
  pub threads : threads_of s.threads s.frames (held lent) ≡ b.threads
  pub stop : stop (stop_of file) s.count ≡ b.store.stop
