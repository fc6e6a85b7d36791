-- What a step of a range query does where it reads a node or its thread has no frames, and how many frames its thread has after it.
use Rattle.std.specs.Prelude.{ℕ, ◌-◌, List, [], ◌≡◌, Ok, Err}
use Rattle.definitions.specs.Nodes.{Shapes}
use Rattle.definitions.specs.Bench.{Sight}
use Rattle.definitions.specs.Threads.{Frame, Thread, Turn}
use Rattle.definitions.specs.Places.{place_of}
use Rattle.definitions.specs.Queries.{reached_first, reached_next}
use Rattle.definitions.specs.Steps.{step}
use Rattle.frames.specs.Outcomes.{Ending, told_in}
use Rattle.frames.specs.declared.Outcome.TheVariants.{Onward, Blocked, Back, Found}

-- 60, 61: x is read and pushed on the stack; 71, 73 likewise
unfoldable pub first_turn : Shapes → ℕ → Frame → List Frame → Thread → Turn
first_turn n x f fs th = reached_first n x f.stack f fs th

unfoldable pub next_turn : Shapes → ℕ → Frame → List Frame → Thread → Turn
next_turn n x f fs th = reached_next n x f fs th

-- the outcome of a thread without frames at the place p; no thread comes here without one
abbrev pub Bare : Ending → ℕ → Type 0
Bare r p = (s : Sight) (th : Thread) → th.frames ≡ [] → th.place ≡ p → told_in r [] [] th ≡ step (place_of p) s th

-- how many frames the thread has after it, of d
abbrev pub depth_after : Ending → ℕ → ℕ
depth_after (Ok (Onward p e)) d = d
depth_after (Ok (Blocked x)) d = d
depth_after (Ok (Back p)) d = d - 1
depth_after (Ok (Found c)) d = 0
depth_after (Err s) d = d
