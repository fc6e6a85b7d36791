-- A thread in code: its notes, and its frames apart from them. The turn of the definitions that a decision of the code stands for.
use Rattle.std.specs.Prelude.{ℕ, ◌≡◌, Bool, List, [], ◌∷◌, eqb, Option, None}
use Rattle.container.specs.Choice.{ite}
use Rattle.definitions.specs.Nodes.{Shapes, child_for, is_route}
use Rattle.definitions.specs.Threads.{Frame, Thread, new_frame, Turn, Moves, Finishes, Finds, Full, NoStore}
use Rattle.definitions.specs.Frames.{back}
use Rattle.definitions.specs.Places.{to, to_route, to_base, to_parent, to_side, to_found, to_neighbour, to_main, to_grandparent, to_other, to_frames}
use Rattle.definitions.specs.Steps.{goes, reached, onward, one_more, followed, at_leaf}
use Rattle.definitions.specs.declared.Effect.TheVariants.{Quiet}
use Rattle.effects.specs.Writes.{effect_of}
use Rattle.steps.specs.declared.Notes.{Notes}
use Rattle.steps.specs.declared.Note.{Note}
use Rattle.steps.specs.declared.Decision.{Decision}
use Rattle.steps.specs.declared.Decision.TheVariants.{Goes, Answers, NodesOut, Back}

-- the thread with these notes and these frames
abbrev pub thread : Notes → List Frame → Thread
thread n fs = record { action = n.action; station = n.station; extra = n.extra; place = n.place; route = n.route; read = n.read; base = n.base; parent = n.parent; left = n.left; found = n.found; neighbour = n.neighbour; main = n.main; owner = n.owner; grandparent = n.grandparent; other = n.other; frames = fs }

-- the thread th at the place p, with a note of its own, or with the frame f on top of the others
abbrev pub noted : Note → Frame → ℕ → Thread → Thread
noted Note.Nothing f p th = to p th
noted (Note.Route x) f p th = to_route p x th
noted (Note.Base x) f p th = to_base p x th
noted (Note.Parent x) f p th = to_parent p x th
noted (Note.Side d) f p th = to_side p d th
noted (Note.Found x) f p th = to_found p x th
noted (Note.Neighbour x) f p th = to_neighbour p x th
noted (Note.Main x o) f p th = to_main p x o th
noted (Note.Grandparent g) f p th = to_grandparent p g th
noted (Note.Other x) f p th = to_other p x th
noted Note.Opened f p th = to_frames p (f ∷ th.frames) th

-- the turn of the thread th; f is the frame that it puts on top, where it does
abbrev pub turn_of : Frame → Thread → Decision → Turn
turn_of f th (Goes e p n) = Moves (noted n f p th) (effect_of e)
turn_of f th (Answers e a) = Finishes (effect_of e) a
turn_of f th NodesOut = Full
turn_of f th (Back e) = back (effect_of e) th

-- the frame on top after a turn
abbrev pub top_of : List Frame → Frame
top_of [] = new_frame 0 0 None
top_of (f ∷ fs) = f

abbrev pub top_after : Turn → Frame
top_after (Moves th e) = top_of th.frames
top_after (Finishes e a) = top_of []
top_after (Finds c) = top_of []
top_after Full = top_of []
top_after NoStore = top_of []

-- of a thread with the notes n the decision d is what f says, whatever its frames; a frame that is put on top is the one that f says
pub record Decides (n : Notes) (d : Decision) (f : Thread → Turn) : Type 0 where
  pub turn : (fs : List Frame) → turn_of (top_after (f (thread n fs))) (thread n fs) d ≡ f (thread n fs)

-- 31, 32: x is read on the way to the parent, which leads to p with the grandparent g
unfoldable pub rising : Shapes → ℕ → Option ℕ → ℕ → Thread → Turn
rising n x g p th = ite (eqb x th.parent) (goes (to_grandparent p g th)) (ite (is_route (n x).kind) (goes (to_route 32 x th)) (goes (to 37 th)))

-- ---- the stop

-- the routes read since 1, after a step at the place p, 1 or 2, with the stop on
unfoldable pub read_at : ℕ → ℕ → ℕ
read_at p k = ite (eqb p 2) (one_more k) 0

-- what 1 and 2 decide of a thread that has noted them
unfoldable pub finding : ℕ → Bool → Shapes → ℕ → Thread → Turn
finding p on n root th = ite (eqb p 1) (reached n th root) (ite (eqb p 2) (followed on n th (child_for th.station (n th.route))) (goes th))

-- what 4 and 5 decide, but for the count
unfoldable pub counting : ℕ → Shapes → Thread → Turn
counting p n th = ite (eqb p 4) (onward Quiet n th th.route) (ite (eqb p 5) (at_leaf th.action n th th.base) (goes th))
