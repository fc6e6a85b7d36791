-- What every run gives the code at the places 60 to 82: fixed memory is never too small for it. Rests on crate answers: `reach_frames`,
-- `reach_entries`.
use mathlib.Core.Path.{◌≡◌, subst}
use mathlib.Core.List.{List, [], ◌∷◌}
use Prim.Native.Nat.{ℕ, ◌≤◌}
use native.Mathlib.Omega.{arith}
use lib.ListN.{length}
use Rattle.definitions.specs.Threads.{Frame}
use Rattle.definitions.specs.Run.{after}
use Rattle.answers.proofs.FrameFacts.{TopOf}
use Rattle.answers.proofs.Reach.{reach_frames}
use Rattle.answers.proofs.Rooms.{reach_entries}
use Rattle.frames.specs.View.{frames_of}
use Rattle.frames.specs.Outcomes.{Roomy, Room}
use Rattle.frames.proofs.Threads.{few_frames}

roomy : (fs : List Frame) → TopOf fs (λ f. length f.stack ≤ 86) → Roomy fs
roomy [] k = tt
roomy (f ∷ fs) k = omega arith

-- thread t after k records, whose frames h holds, d of them
module _ (file : List ℕ) (k t : ℕ) (h : ℕ → Frame) (d : ℕ) (o : ((after file k).bench.threads t).frames ≡ frames_of h t d) where
  -- what `leave` asks; and of the next record, what `enter` asks
  pub few_fits : d ≤ 4
  few_fits = few_frames h t d _ o (reach_frames file k t)

  -- what `query` asks
  pub query_fits : 60 ≤ ((after file k).bench.threads t).place → (d ≤ 4) × Room ((after file k).bench.threads t).place (frames_of h t d)
  query_fits m = (few_fits, λ e l. roomy (frames_of h t d) (subst (λ fs. TopOf fs (λ f. length f.stack ≤ 86)) o (reach_entries file k t (omega arith) l)))
