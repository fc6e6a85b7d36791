-- What a step of a range query leaves to its thread, and what fixed memory must hold for it (02 b, docs/RANGE.md).
use Rattle.std.specs.Prelude.{ℕ, suc, ◌-◌, ◌≤◌, ◌<◌, List, [], ◌∷◌, ◌≡◌, Result, Ok, Err}
use Rattle.definitions.specs.declared.Action.{Action}
use Rattle.definitions.specs.declared.Effect.TheVariants.{Quiet}
use Rattle.definitions.specs.declared.Refusal.{Refusal}
use Rattle.definitions.specs.declared.Refusal.TheVariants.{Numbers}
use Rattle.definitions.specs.Bench.{Sight}
use Rattle.definitions.specs.Threads.{Frame, Thread, Turn, Moves, Finds, Full, NoStore}
use Rattle.definitions.specs.Places.{place_of, at_base, p15, to_frames}
use Rattle.definitions.specs.Steps.{step}
use Rattle.frames.specs.View.{frames_of, HasRoom}
use Rattle.frames.specs.declared.Outcome.{Outcome}
use Rattle.frames.specs.declared.Outcome.TheVariants.{Onward, Blocked, Back, Found}
use Rattle.frames.specs.declared.Shortage.{Shortage}
use Rattle.frames.specs.declared.Shortage.TheVariants.{Nodes, Stores}

-- what a step leaves, or what it has run out of
abbrev pub Ending : Type 0
Ending = Result Outcome Shortage

-- the turn of a thread th that has the frames gs after the step, fs of them where the top one has ended
abbrev pub told_in : Ending → List Frame → List Frame → Thread → Turn
told_in (Ok (Onward p e)) gs fs th = Moves (to_frames p gs th) e
told_in (Ok (Blocked x)) gs fs th = Moves (at_base p15 x (to_frames 15 gs th)) Quiet
told_in (Ok (Back p)) gs fs th = Moves (to_frames p fs th) Quiet
told_in (Ok (Found c)) gs fs th = Finds c
told_in (Err Nodes) gs fs th = Full
told_in (Err Stores) gs fs th = NoStore

-- the refusal of a record whose step it is
abbrev pub refusal_for : Shortage → Refusal
refusal_for Nodes = Numbers
refusal_for Stores = Refusal.Stores

-- "The state is the one before that record"
abbrev pub Refused : Ending → Type 0
Refused (Ok r) = ⊥
Refused (Err s) = Unit {0}

-- the frame f on top of a thread's frames, changed to g, and the outcome r are what d decides of it
pub record Acts (f g : Frame) (r : Ending) (d : Frame → List Frame → Thread → Turn) : Type 0 where
  pub turn : (fs : List Frame) (th : Thread) → told_in r (g ∷ fs) fs th ≡ d f fs th
  pub same : Refused r → g ≡ f

-- a thread's place and what it was asked
pub record Stands (p : ℕ) (a : Action) (l u : ℕ) (th : Thread) : Type 0 where
  pub place : th.place ≡ p
  pub action : th.action ≡ a
  pub station : th.station ≡ l
  pub extra : th.extra ≡ u

-- thread t, with d frames, takes the step y wherever Q holds of it: the frames of the other threads stay, and a refused step changes no frame
pub record Takes (h h' : ℕ → Frame) (t d : ℕ) (r : Ending) (Q : Thread → Type 0) (y : Thread → Turn) : Type 0 where
  pub turn : (th : Thread) → th.frames ≡ frames_of h t d → Q th → told_in r (frames_of h' t d) (frames_of h' t (d - 1)) th ≡ y th
  pub others : (u k : ℕ) → k ≤ 4 → (u ≡ t → ⊥) → frames_of h' u k ≡ frames_of h u k
  pub same : Refused r → h' ≡ h

-- the thread stands at the place p with f and fs, and sees s
unfoldable pub step_at : ℕ → Sight → Frame → List Frame → Thread → Turn
step_at p s f fs th = step (place_of p) s (to_frames p (f ∷ fs) th)

-- a new frame f on top of thread t's d frames
pub record Opens (h h' : ℕ → Frame) (t d : ℕ) (f : Frame) : Type 0 where
  pub frames : frames_of h' t (suc d) ≡ f ∷ frames_of h t d
  pub others : (u k : ℕ) → k ≤ 4 → (u ≡ t → ⊥) → frames_of h' u k ≡ frames_of h u k

-- ---- fixed memory

-- the stack of the frame on top has room
abbrev pub Roomy : List Frame → Type 0
Roomy [] = Unit {0}
Roomy (f ∷ fs) = HasRoom f

-- a node is pushed or replaced on it at places between 60 and 81 only: 60 empties it first
abbrev pub Room : ℕ → List Frame → Type 0
Room p fs = (p ≡ 60 → ⊥) → p < 81 → Roomy fs
