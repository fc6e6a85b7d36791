-- Threads and frames, and what a step decides (01, "Places"; 02 b: docs/RANGE.md).
use Rattle.std.specs.Prelude.{ℕ, ◌+◌, Bool, true, false, List, [], ◌∷◌, leb, Option, None}
use Rattle.container.specs.Choice.{ite}
use Rattle.definitions.specs.declared.Action.{Action}
use Rattle.definitions.specs.declared.Action.TheVariants.{Lookup, Query}
use Rattle.definitions.specs.declared.Effect.{Effect}
use Rattle.definitions.specs.declared.Effect.TheVariants.{Quiet}
use Rattle.definitions.specs.declared.Answer.{Answer}

-- one run of `all_in_range` (lines 161-214)
pub record Frame : Type 0 where
  -- the ends asked, both inside; no store only in a query's own frame, at first
  pub lower : ℕ
  pub upper : ℕ
  pub store : Option ℕ
  -- node numbers, the top first; the backup is the stack when the last base was added
  pub stack : List ℕ
  pub backup : List ℕ
  -- the base in hand, the base popped last, the key noted at 70
  pub base : ℕ
  pub popped : ℕ
  pub key : ℕ
  -- the stations of the bases added, and whether there is one
  pub done : ℕ
  pub begun : Bool

abbrev pub new_frame : ℕ → ℕ → Option ℕ → Frame
new_frame l h k = record { lower = l; upper = h; store = k; stack = []; backup = []; base = 0; popped = 0; key = 0; done = 0; begun = false }

-- a thread: its operation, its place (0 where it is idle) and its notes
pub record Thread : Type 0 where
  pub action : Action
  pub station : ℕ
  -- of an insert its depth, of a query its upper end
  pub extra : ℕ
  pub place : ℕ
  -- 2, 23, 32: the route reached; 4: the child read
  pub route : ℕ
  -- with the stop on: the routes whose child was read since 1, 9 for more than 8; a search at 2 with 8 or 9 is counted
  pub read : ℕ
  -- the base reached
  pub base : ℕ
  -- of a join: the base's parent, and whether the base is its left child
  pub parent : ℕ
  pub left : Bool
  -- of a join: the base found beside it, and the neighbour that replaced it
  pub found : ℕ
  pub neighbour : ℕ
  -- the main that is made, killed or helped, and whether it is the thread's own
  pub main : ℕ
  pub owner : Bool
  -- of a join: the grandparent, and the parent's other child
  pub grandparent : Option ℕ
  pub other : ℕ
  -- the frame that is carried on is the first; the others wait
  pub frames : List Frame

-- a thread that has noted an operation, at a place, and nothing else
abbrev pub begun : Action → ℕ → ℕ → ℕ → Thread
begun a s d p = record { action = a; station = s; extra = d; place = p; route = 0; read = 0; base = 0; parent = 0; left = true; found = 0; neighbour = 0; main = 0; owner = false; grandparent = None; other = 0; frames = [] }

-- "A query starts with one: its own ends, no store, at place 60"
abbrev pub asking : ℕ → ℕ → Thread
asking l h = record { action = Query; station = l; extra = h; place = 60; route = 0; read = 0; base = 0; parent = 0; left = true; found = 0; neighbour = 0; main = 0; owner = false; grandparent = None; other = 0; frames = new_frame l h None ∷ [] }

abbrev pub idle : Thread
idle = begun Lookup 0 0 0

-- what a step decides: the thread goes on, it finishes with an answer or with a set, or node numbers or stores have run out
pub data Turn : Type 0 where
  Moves : Thread → Effect → Turn
  Finishes : Effect → Answer → Turn
  Finds : ℕ → Turn
  Full NoStore : Turn

-- a step that writes nothing, to a thread's next notes or to an answer
abbrev pub goes : Thread → Turn
goes th = Moves th Quiet

abbrev pub says : Answer → Turn
says a = Finishes Quiet a

-- "a swap whose comparison succeeds but needs more new node numbers than are left": it needs k
abbrev pub room : ℕ → ℕ → Turn → Turn
room k used o = ite (leb (used + k) 256) o Full
