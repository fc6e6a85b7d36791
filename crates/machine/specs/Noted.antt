-- A thread's notes in code after a step's note, and what becomes of the frames beside them.
use Rattle.std.specs.Prelude.{ℕ, ◌≡◌, List, ◌∷◌}
use Rattle.definitions.specs.Threads.{Frame}
use Rattle.steps.specs.declared.Notes.{Notes}
use Rattle.steps.specs.declared.Note.{Note}
use Rattle.steps.specs.Decision.{thread, noted}

-- the frames after a step's note: the frame f on top of them, or the same
abbrev pub frames_after : Note → Frame → List Frame → List Frame
frames_after Note.Nothing f fs = fs
frames_after (Note.Route x) f fs = fs
frames_after (Note.Base x) f fs = fs
frames_after (Note.Parent x) f fs = fs
frames_after (Note.Side d) f fs = fs
frames_after (Note.Found x) f fs = fs
frames_after (Note.Neighbour x) f fs = fs
frames_after (Note.Main x o) f fs = fs
frames_after (Note.Grandparent g) f fs = fs
frames_after (Note.Other x) f fs = fs
frames_after Note.Opened f fs = f ∷ fs

-- th with the note n at the place p is r, whatever the frames
pub record Noted (th r : Notes) (n : Note) (p : ℕ) : Type 0 where
  pub after : (f : Frame) (fs : List Frame) → thread r (frames_after n f fs) ≡ noted n f p (thread th fs)
