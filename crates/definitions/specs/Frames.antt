-- Frames of a range query or of helping one, and what costs no step (02 b; docs/RANGE.md, "Without a step of their own"):
-- found first, add, next, back. Nothing shared is read here: a base's container, kind, ends and store never change.
use Rattle.std.specs.Prelude.{ℕ, suc, Bool, true, false, not, cond, List, [], ◌∷◌, eqb, Option, Some, None}
use Rattle.container.specs.Choice.{ite}
use Rattle.container.specs.Container.{all, union, cut, below, from}
use Rattle.definitions.specs.Threads.{Frame, Thread, Turn, Moves, Full}
use Rattle.definitions.specs.Places.{p1, p60, p62, p70, p81, p82, at_frames}
use Rattle.definitions.specs.declared.Kind.{Kind}
use Rattle.definitions.specs.declared.Kind.TheVariants.{Normal, Route, Main, Neighbour, Range}
use Rattle.definitions.specs.declared.Node.{Node}
use Rattle.definitions.specs.declared.Effect.{Effect}
use Rattle.definitions.specs.declared.Effect.TheVariants.{Quiet}

-- ---- stations

-- the stations from l to h, both inside
unfoldable pub between : ℕ → ℕ → ℕ
between l h = below (suc h) (from l all)

-- c has a station h or above
unfoldable pub reaches : ℕ → ℕ → Bool
reaches c h = not (eqb (cut c (from h all)) 0)

-- ---- a frame with something changed

abbrev pub with_stack : List ℕ → Frame → Frame
with_stack s f = record { lower = f.lower; upper = f.upper; store = f.store; stack = s; backup = f.backup; base = f.base; popped = f.popped; key = f.key; done = f.done; begun = f.begun }

-- x is pushed on the stack s; a base is then in hand too
abbrev pub pushed : ℕ → List ℕ → Frame → Frame
pushed x s f = with_stack (x ∷ s) f

abbrev pub in_hand : ℕ → List ℕ → Frame → Frame
in_hand x s f = record { lower = f.lower; upper = f.upper; store = f.store; stack = x ∷ s; backup = f.backup; base = x; popped = f.popped; key = f.key; done = f.done; begun = f.begun }

-- x is popped, s is left
abbrev pub popping : ℕ → List ℕ → Frame → Frame
popping x s f = record { lower = f.lower; upper = f.upper; store = f.store; stack = s; backup = f.backup; base = f.base; popped = x; key = f.key; done = f.done; begun = f.begun }

abbrev pub noting : ℕ → Frame → Frame
noting k f = record { lower = f.lower; upper = f.upper; store = f.store; stack = f.stack; backup = f.backup; base = f.base; popped = f.popped; key = k; done = f.done; begun = f.begun }

-- "the frame takes ends and store" of a base; or it has the new store
abbrev pub asks : ℕ → ℕ → ℕ → Frame → Frame
asks l h k f = record { lower = l; upper = h; store = Some k; stack = f.stack; backup = f.backup; base = f.base; popped = f.popped; key = f.key; done = f.done; begun = f.begun }

-- "done takes the container of the base in hand, the backup becomes the stack"
abbrev pub adds : ℕ → Frame → Frame
adds c f = record { lower = f.lower; upper = f.upper; store = f.store; stack = f.stack; backup = f.stack; base = f.base; popped = f.popped; key = f.key; done = union f.done c; begun = true }

-- ---- stacks and stores

abbrev pub top_of : List ℕ → ℕ
top_of [] = 0
top_of (x ∷ s) = x

abbrev pub tail_of : List ℕ → List ℕ
tail_of [] = []
tail_of (x ∷ s) = s

abbrev pub store_of : Option ℕ → ℕ
store_of None = 0
store_of (Some k) = k

abbrev pub is_range : Kind → Bool
is_range Normal = false
is_range Route = false
is_range Main = false
is_range Neighbour = false
is_range Range = true

-- a range base of store k
abbrev pub is_of : ℕ → Node → Bool
is_of k b = cond (is_range b.kind) (eqb b.store k) false

-- the frame that is carried on; a thread without one does not come here
abbrev pub in_frame : List Frame → (Frame → List Frame → Turn) → Turn
in_frame [] k = Full
in_frame (f ∷ fs) k = k f fs

-- ---- without a step; e is what the step before wrote

-- "Next: the base is popped off the stack" s. "Nothing left: 81. Else 70" (144-146, 188)
abbrev pub next_from : List ℕ → Effect → Frame → List Frame → Thread → Turn
next_from [] e f fs th = Moves (at_frames p81 (f ∷ fs) th) e
next_from (x ∷ []) e f fs th = Moves (at_frames p81 (popping x [] f ∷ fs) th) e
next_from (x ∷ y ∷ s) e f fs th = Moves (at_frames p70 (popping x (y ∷ s) f ∷ fs) th) e

-- "Add": c is the container of the base in hand. "The container has a station at or over the frame's upper end: 81. Else next" (184-186)
unfoldable pub adding : Effect → ℕ → Frame → List Frame → Thread → Turn
adding e c f fs th = ite (reaches c f.upper) (Moves (at_frames p81 (adds c f ∷ fs) th) e) (next_from f.stack e (adds c f) fs th)

-- "Found first": base b is on top of the stack. "The frame has no store: 62. It has one and the base is a range base of that store: add. Else 82"
-- (168-171)
abbrev pub found_first : Option ℕ → Node → Frame → List Frame → Thread → Turn
found_first None b f fs th = Moves (at_frames p62 (f ∷ fs) th) Quiet
found_first (Some k) b f fs th = ite (is_of k b) (adding Quiet b.container f fs th) (Moves (at_frames p82 (f ∷ fs) th) Quiet)

-- "Back: the end of helping. No frame: 1. The top frame has no base in done: 60. Else the stack becomes the backup, then next" (198-199, 203-204)
abbrev pub back_in : List Frame → Effect → Thread → Turn
back_in [] e th = Moves (at_frames p1 [] th) e
back_in (f ∷ fs) e th = ite f.begun (next_from f.backup e f fs th) (Moves (at_frames p60 (f ∷ fs) th) e)

unfoldable pub back : Effect → Thread → Turn
back e th = back_in th.frames e th
