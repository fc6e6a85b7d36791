-- How the code holds the thread table: notes in one array, numbers of frames in another, and the frames that lie apart in the lent arrays.
use Rattle.std.specs.Prelude.{ℕ, ◌+◌, ◌-◌, true, false, cond, List, eqb, get_or, None}
use Rattle.frames.specs.View.{frames_of}
use Rattle.definitions.specs.Threads.{Frame, Thread}
use Rattle.definitions.specs.declared.Action.TheVariants.{Lookup}
use Rattle.steps.specs.declared.Notes.{Notes}
use Rattle.steps.specs.Decision.{thread}

-- the notes of an idle thread
abbrev pub none : Notes
none = record {
  action = Lookup;
  station = 0;
  extra = 0;
  place = 0;
  route = 0;
  read = 0;
  base = 0;
  parent = 0;
  left = true;
  found = 0;
  neighbour = 0;
  main = 0;
  owner = false;
  grandparent = None;
  other = 0;
}

-- its threads, by number: the notes l, the numbers of frames c, the frames that h holds
abbrev pub threads_of : List Notes → List ℕ → (ℕ → Frame) → ℕ → Thread
threads_of l c h t = thread (get_or l t none) (frames_of h t (get_or c t 0))

-- the count of the stop after a step at the place p: 4 raises it, 5 takes one off
abbrev pub recounted : ℕ → ℕ → ℕ
recounted p c = cond (eqb p 4) (c + 1) (cond (eqb p 5) (c - 1) c)
