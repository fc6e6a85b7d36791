-- Request m, "Laws for reordering work": each law, and all of them (`ReorderLaws`). Versions differ only in whether their records carry
-- depths and range queries, so a law of every reachable state is a law of every version. The words are in Jobs.antt.
use Rattle.std.specs.Prelude.{ℕ, suc, ◌+◌, ◌%◌, ◌<◌, ◌≤◌, ◌≡◌, ◌≢◌, Bool, cond, true, List, [], ◌∷◌, length}
use Rattle.container.specs.Depths.{Container, is_in, find, merge, lower, upper}
use Rattle.definitions.specs.Nodes.{replaceable}
use Rattle.definitions.specs.Bench.{Bench, sight_of}
use Rattle.definitions.specs.Records.{record_step}
use Rattle.definitions.specs.Tree.{tree_held, tree_set}
use Rattle.definitions.specs.Run.{after}
use Rattle.definitions.specs.Answers.{said}
use Rattle.definitions.specs.Plain.{settled}
use Rattle.definitions.specs.declared.Kind.TheVariants.{Route}
use Rattle.definitions.specs.declared.Answer.{Answer}
use Rattle.answers.specs.Reachable.{Reached}
use Rattle.laws.specs.Jobs.{last, Reachable, AllIdle, Job, Proper, Alone, answer_to, Runs, Apart, Reordered}

-- ---- containers

-- "joining the two halves of a split container gives it back with its depths", whichever of them is the main
abbrev pub HalvesJoin : Type 0
HalvesJoin = (c : Container) → (merge (lower c) (upper c) ≡ c) × (merge (upper c) (lower c) ≡ c)

-- "joining containers of separate ranges doesn't depend on grouping"; of any containers
abbrev pub GroupsJoin : Type 0
GroupsJoin = (a b c : Container) → merge (merge a b) c ≡ merge a (merge b c)

-- ---- states

-- the state after each record of every file, of any version, is reachable
abbrev pub RunsReach : Type 0
RunsReach = (file : List ℕ) (k : ℕ) → Reachable (after file k).bench

-- "with all threads idle no reachable base waits for help": each is replaceable, a range base too: its result is set
abbrev pub NoneWaits : Type 0
NoneWaits = (b : Bench) → Reachable b → AllIdle b → (d x lo hi : ℕ) → Reached b.store.nodes b.store.root d x lo hi
    → (b.store.nodes x).kind ≢ Route → replaceable (sight_of b.store).nodes b.store.stores x ≡ true

-- a record whose action is at most 5 is carried out alike by every version
abbrev pub EveryVersion : Type 0
EveryVersion = (b : Bench) (l x y d : ℕ) → last ≤ l → x % 16 ≤ last → record_step b l x y d ≡ record_step b last x y d

-- ---- a job run alone

-- 1 reads the root, 2 at most 63 routes; then 3, 10, 12 and 13; with the stop on also 4 and 5
abbrev pub longest : Bool → ℕ
longest on = cond on 70 68

-- job j, run alone from b, ends: one number is used, the answer tells whether the station was in, and what the tree holds changes at that
-- station only
pub record Ends (j : Job) (b : Bench) : Type 0 where
  pub steps : ℕ
  pub answer : Answer
  pub after : Bench
  pub alone : Alone j steps b answer after
  pub short : steps ≤ longest b.store.stop.on
  pub reached : Reachable after
  pub idle : AllIdle after
  pub used : after.store.used ≡ suc b.store.used
  pub says : answer ≡ said (answer_to j.action (is_in (find (tree_held b) j.station)))
  pub table : (s : ℕ) → s < 64 → find (tree_held after) s ≡ settled j.action j.station j.depth (find (tree_held b)) s

abbrev pub UpdatesEnd : Type 0
UpdatesEnd = (b : Bench) (j : Job) → Reachable b → AllIdle b → Proper j → b.store.used + 1 ≤ 256 → Ends j b

-- and in one way only
abbrev pub OneEnd : Type 0
OneEnd = (j : Job) (m n : ℕ) (b b' b'' : Bench) (a a' : Answer) → Alone j m b a b' → Alone j n b a' b'' → (m ≡ n) × (a ≡ a') × (b' ≡ b'')

-- ---- reordering

-- the jobs in the order js and in the order ks, both from b: each job has one answer in both, and "the same set, depths [..]"; "Numbers used
-- are equal too"
pub record SameEnd (js ks : List Job) (b : Bench) : Type 0 where
  pub says : ℕ → Answer
  pub one : Bench
  pub other : Bench
  pub runs : Runs js b says one
  pub runs_other : Runs ks b says other
  pub set : tree_set one ≡ tree_set other
  pub depths : (s : ℕ) → s < 64 → find (tree_held one) s ≡ find (tree_held other) s
  pub used : one.store.used ≡ other.store.used

-- "two inserts or removes on different stations, each run alone from the same reachable state with all threads idle, give the same set,
-- depths and answers in either order, where node numbers suffice for both"
abbrev pub EitherOrder : Type 0
EitherOrder = (b : Bench) (i j : Job) → Reachable b → AllIdle b → Proper i → Proper j → i.station ≢ j.station → b.store.used + 2 ≤ 256
    → SameEnd (i ∷ j ∷ []) (j ∷ i ∷ []) b

-- "reorder a list of station jobs without thinking": any number of them, on different stations, in any order
abbrev pub AnyOrder : Type 0
AnyOrder = (b : Bench) (js ks : List Job) → Reachable b → AllIdle b → Apart js → Reordered js ks → b.store.used + length js ≤ 256
    → SameEnd js ks b

-- request m
pub record ReorderLaws : Type 0 where
  pub halves_join : HalvesJoin
  pub groups_join : GroupsJoin
  pub runs_reach : RunsReach
  pub none_waits : NoneWaits
  pub every_version : EveryVersion
  pub updates_end : UpdatesEnd
  pub one_end : OneEnd
  pub either_order : EitherOrder
  pub any_order : AnyOrder
