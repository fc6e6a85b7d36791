-- What is decided of the frame on top, with what was read of nodes and stores as values: what costs no step, and the places
-- (docs/RANGE.md). Each is the definitions' own word of it.
use Rattle.std.specs.Prelude.{ℕ, ◌≤◌, ◌≡◌, Bool, false, List, ◌∷◌, leb, Option, Some, None}
use Rattle.container.specs.Choice.{ite}
use Rattle.definitions.specs.declared.Node.{Node}
use Rattle.definitions.specs.declared.Check.{Check}
use Rattle.definitions.specs.declared.Probe.{Probe}
use Rattle.definitions.specs.declared.Quarter.TheVariants.{ReadLeft}
use Rattle.definitions.specs.declared.Effect.{Effect}
use Rattle.definitions.specs.declared.Effect.TheVariants.{Quiet, Fill}
use Rattle.definitions.specs.Nodes.{shape, empty_base}
use Rattle.definitions.specs.Bench.{Sight, sight, stop}
use Rattle.definitions.specs.Threads.{Frame, Thread, Turn, Moves, goes}
use Rattle.definitions.specs.Places.{swap, opening, next, at, at_base, at_frames, p15, p60, to_frames}
use Rattle.definitions.specs.Frames.{adding, found_first, back_in, store_of, in_hand, asks, tail_of, in_frame}
use Rattle.definitions.specs.Queries.{left_of, ascended, met_by, opened_by, extended_by, read_out}
use Rattle.frames.specs.View.{frames_of}

-- a thread with these frames
abbrev pub having : Frame → List Frame → Thread → Thread
having f fs th = to_frames th.place (f ∷ fs) th

-- ---- the frame f on top of a thread's frames, changed to g, and the place p

-- are what d decides, whatever the step writes
pub record Leads (f g : Frame) (p : ℕ) (d : Effect → Frame → List Frame → Thread → Turn) : Type 0 where
  pub turn : (e : Effect) (fs : List Frame) (th : Thread) → Moves (to_frames p (g ∷ fs) th) e ≡ d e f fs th

-- the same of a step that writes nothing
pub record Goes (f g : Frame) (p : ℕ) (d : Frame → List Frame → Thread → Turn) : Type 0 where
  pub turn : (fs : List Frame) (th : Thread) → Moves (to_frames p (g ∷ fs) th) Quiet ≡ d f fs th

-- thread t, with d frames, goes back to place p; the frames of the other threads stay
pub record Backs (h h' : ℕ → Frame) (t d p : ℕ) : Type 0 where
  pub turn : (e : Effect) (th : Thread) → Moves (to_frames p (frames_of h' t d) th) e ≡ back_in (frames_of h t d) e th
  pub others : (u k : ℕ) → k ≤ 4 → (u ≡ t → ⊥) → frames_of h' u k ≡ frames_of h u k

-- ---- without a step of their own

-- add, of the container c
unfoldable pub add_turn : ℕ → Effect → Frame → List Frame → Thread → Turn
add_turn c e f fs th = adding e c f fs th

-- found first, with the base b
unfoldable pub found_turn : Node → Frame → List Frame → Thread → Turn
found_turn b f fs th = found_first f.store b f fs th

-- 77 to 80 and 64 to 67, where the swap succeeds: x is the new base, c its container, k the new store
unfoldable pub extend_turn : ℕ → ℕ → Effect → Frame → List Frame → Thread → Turn
extend_turn x c e f fs th = adding e c (in_hand x (tail_of f.stack) f) fs th

unfoldable pub begin_turn : ℕ → ℕ → ℕ → Effect → Frame → List Frame → Thread → Turn
begin_turn x k c e f fs th = adding e c (asks f.lower f.upper k (in_hand x (tail_of f.stack) f)) fs th

-- ---- the places

-- 70, with the top route n
unfoldable pub left_turn : Node → Frame → List Frame → Thread → Turn
left_turn n f fs th = left_of n f fs (having f fs th)

-- 72, likewise
unfoldable pub up_turn : Node → Frame → List Frame → Thread → Turn
up_turn n f fs th = ascended n f fs (having f fs th)

-- 74, with the result r and the base in hand b
unfoldable pub meet_turn : Option ℕ → Node → Frame → List Frame → Thread → Turn
meet_turn r b f fs th = met_by r b f fs (having f fs th)

-- 81: what it writes
abbrev pub fill_effect : Option ℕ → Frame → Effect
fill_effect None f = Fill (store_of f.store) f.done
fill_effect (Some _) f = Quiet

-- 62, by what the check of the base in hand answers
unfoldable pub ride_turn : Check → Frame → List Frame → Thread → Turn
ride_turn Check.Replaceable f fs th = goes (at (swap opening ReadLeft) (having f fs th))
ride_turn (Check.Preparing m) f fs th = goes (at_base p15 f.base (having f fs th))
ride_turn (Check.Completing m) f fs th = goes (at_base p15 f.base (having f fs th))
ride_turn Check.Stale f fs th = goes (at_base p15 f.base (having f fs th))
ride_turn (Check.Unset l h k) f fs th = ite (leb f.upper h) (goes (at_frames p60 (asks l h k f ∷ fs) (having f fs th))) (goes (at_base p15 f.base (having f fs th)))

-- 76: is the base in hand replaceable?
unfoldable pub pass_turn : Bool → Frame → List Frame → Thread → Turn
pass_turn free f fs th = ite free (goes (at (swap next ReadLeft) (having f fs th))) (goes (at_base p15 f.base (having f fs th)))

-- 64 to 67, 77 to 80: w is what the comparison found, b the base in hand, u the numbers used, k the stores shown
abbrev pub counts : ℕ → ℕ → Sight
counts u k = sight (λ _. shape empty_base) 0 u (λ _. None) k (stop false 0)

unfoldable pub open_turn : Probe → Node → ℕ → ℕ → Frame → List Frame → Thread → Turn
open_turn w b u k f fs th = opened_by w b (counts u k) f fs (having f fs th)

unfoldable pub go_on_turn : Probe → Node → ℕ → Frame → List Frame → Thread → Turn
go_on_turn w b u f fs th = extended_by w b (counts u 0) f fs (having f fs th)

-- 82: the result is k
unfoldable pub end_turn : Option ℕ → Thread → Turn
end_turn k th = in_frame th.frames (λ f fs. read_out k fs th)
