-- The frames that sixteen of them hold: of four threads, four frames a thread. What stands past a stack's length, and in frames past a thread's
-- number of them, is of no account.
use Rattle.std.specs.Prelude.{ℕ, zero, suc, ◌+◌, ◌*◌, ◌<◌, List, [], ◌∷◌, length, get_or, map, take, reverse, Option, Some, None}
use Rattle.definitions.specs.Threads.{Frame, new_frame}
use Rattle.frames.specs.declared.stack.Stack.{Stack}
use Rattle.frames.specs.declared.frame.Frame.{Frame as Kept}

-- the top first
abbrev pub held_stack : Stack → List ℕ
held_stack s = reverse (take s.length s.items)

abbrev pub held_frame : Kept → Frame
held_frame f = record { lower = f.lower; upper = f.upper; store = f.store; stack = held_stack f.stack; backup = held_stack f.backup; base = f.base; popped = f.popped; key = f.key; done = f.done; begun = f.begun }

abbrev pub held : List Kept → ℕ → Frame
held l j = get_or (map held_frame l) j (new_frame 0 0 None)

-- the frames of thread t, d of them, the top first
abbrev pub frames_of : (ℕ → Frame) → ℕ → ℕ → List Frame
frames_of h t zero = []
frames_of h t (suc d) = h (t * 4 + d) ∷ frames_of h t d

-- where the top one lies, of d frames of thread t
abbrev pub top_row : ℕ → ℕ → Option ℕ
top_row t zero = None
top_row t (suc d) = Some (t * 4 + d)

-- its stack takes a number more
abbrev pub HasRoom : Frame → Type 0
HasRoom f = length f.stack < 88
