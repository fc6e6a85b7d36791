-- What a step notes of its thread besides frames: notes at another place, and whether a frame is opened. Assumes nothing.
use mathlib.Core.Path.{◌≡◌, refl}
use mathlib.Core.List.{List}
use Prim.Native.Nat.{ℕ}
use Rattle.steps.specs.declared.Notes.{Notes}
use Rattle.steps.specs.declared.Note.{Note}
use Rattle.machine.specs.Noted.{frames_after, Noted}
use Rattle.definitions.specs.Threads.{Frame}

-- the notes th at the place p; nothing else is noted, or a new frame, which lies apart
abbrev pub placed : ℕ → Notes → Notes
placed p th = record {
  action = th.action;
  station = th.station;
  extra = th.extra;
  place = p;
  route = th.route;
  read = th.read;
  base = th.base;
  parent = th.parent;
  left = th.left;
  found = th.found;
  neighbour = th.neighbour;
  main = th.main;
  owner = th.owner;
  grandparent = th.grandparent;
  other = th.other;
}

pub opened_noted : {th : Notes} (p : ℕ) → Noted th (placed p th) Note.Opened p
opened_noted p = record { after = λ f fs. refl }

-- any note but a new frame leaves the frames
pub unopened_still : (n : Note) (f : Frame) (fs : List Frame) → (n ≡ Note.Opened → ⊥) → frames_after n f fs ≡ fs
unopened_still Note.Nothing f fs o = refl
unopened_still (Note.Route x) f fs o = refl
unopened_still (Note.Base x) f fs o = refl
unopened_still (Note.Parent x) f fs o = refl
unopened_still (Note.Side d) f fs o = refl
unopened_still (Note.Found x) f fs o = refl
unopened_still (Note.Neighbour x) f fs o = refl
unopened_still (Note.Main x d) f fs o = refl
unopened_still (Note.Grandparent g) f fs o = refl
unopened_still (Note.Other x) f fs o = refl
unopened_still Note.Opened f fs o = absurd (o refl)
