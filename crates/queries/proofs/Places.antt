-- The places of a query: what its frame on top decides, with what the code read of nodes and stores, is the step. Assumes nothing.
use Rattle.std.specs.Prelude.{Option, Some, None, Ok, Err}
use mathlib.Core.Path.{◌≡◌, refl, sym, ap, ap₂, ◌∙◌}
use mathlib.Core.Bool.{false}
use mathlib.Core.List.{List, ◌∷◌}
use Prim.Native.Nat.{ℕ, zero, suc, ◌+◌, ◌-◌, ◌<◌, ◌≤◌}
use native.Mathlib.Omega.{arith}
use Rattle.container.specs.Choice.{ite}
use Rattle.definitions.specs.declared.Effect.TheVariants.{Quiet}
use Rattle.definitions.specs.declared.Kind.{Kind}
use Rattle.definitions.specs.declared.Kind.TheVariants.{Normal, Route, Main, Neighbour, Range}
use Rattle.definitions.specs.declared.Stage.{Stage}
use Rattle.definitions.specs.declared.Stage.TheVariants.{Preparing, Completing, Aborted, Done}
use Rattle.definitions.specs.declared.Node.{Node}
use Rattle.definitions.specs.declared.Check.{Check}
use Rattle.definitions.specs.declared.Quarter.{Quarter}
use Rattle.definitions.specs.declared.Quarter.TheVariants.{ReadLeft, SwapLeft, ReadRight, SwapRight}
use Rattle.definitions.specs.declared.Probe.{Probe}
use Rattle.definitions.specs.declared.Probe.TheVariants.{Hit, Next, Miss}
use Rattle.definitions.specs.Nodes.{Shapes, Stores, check_stage, check_store, check_as, check, is_replaceable, replaceable}
use Rattle.definitions.specs.Bench.{Sight}
use Rattle.definitions.specs.Threads.{Frame, Thread, Turn, goes}
use Rattle.definitions.specs.Places.{Place, swap, Swap, opening, next, at, at_base, p15, place_of, quarter_of, quarter_number, first_of, number, to_frames}
use Rattle.definitions.specs.Frames.{top_of, store_of, is_range}
use Rattle.definitions.specs.Queries.{ascended, met_by, riding, opened_by, extended_by}
use Rattle.definitions.specs.Steps.{step, probe}
use Rattle.frames.specs.Turns.{Goes, counts, up_turn, meet_turn, ride_turn, open_turn, go_on_turn}
use Rattle.frames.specs.Outcomes.{Ending, told_in, Acts, step_at}
use Rattle.frames.specs.declared.Outcome.TheVariants.{Onward, Blocked, Back, Found}
use Rattle.frames.specs.declared.Shortage.TheVariants as shortage

-- ---- what an outcome holds of its thread's old place and frames is of no account
told_alike : (r : Ending) (gs fs hs : List Frame) (p : ℕ) (th : Thread) → told_in r gs fs th ≡ told_in r gs fs (to_frames p hs th)
told_alike (Ok (Onward q e)) gs fs hs p th = refl
told_alike (Ok (Blocked x)) gs fs hs p th = refl
told_alike (Ok (Back q)) gs fs hs p th = refl
told_alike (Ok (Found c)) gs fs hs p th = refl
told_alike (Err shortage.Nodes) gs fs hs p th = refl
told_alike (Err shortage.Stores) gs fs hs p th = refl

acts_as : {f g : Frame} {r : Ending} {d d' : Frame → List Frame → Thread → Turn} (p : ℕ) → Acts f g r d
    → ((fs : List Frame) (th : Thread) → d f fs (to_frames p (f ∷ fs) th) ≡ d' f fs th) → Acts f g r d'
acts_as {f} {g} {r} p k t = record { turn = λ fs th. told_alike r (g ∷ fs) fs (f ∷ fs) p th ∙ (k.turn fs (to_frames p (f ∷ fs) th) ∙ t fs th); same = k.same }

goes_acts : {f g : Frame} {p : ℕ} {d : Frame → List Frame → Thread → Turn} → Goes f g p d → Acts f g (Ok (Onward p Quiet)) d
goes_acts k = record { turn = k.turn; same = λ z. absurd z }

-- ---- 62: what the check answers says all that is read of the base
module _ (n : Shapes) (k : Stores) (x : ℕ) (f : Frame) (fs : List Frame) (p : ℕ) (th : Thread) where
  abbrev me : Thread
  me = to_frames p (f ∷ fs) th

  abbrev Rides : Check → Type 0
  Rides c = ride_turn c f fs me ≡ ite (is_replaceable c) (goes (at (swap opening ReadLeft) me)) (riding (n x) f fs me)

  -- no range base
  plain : (t : Kind) → (n x).kind ≡ t → is_range t ≡ false → goes (at_base p15 f.base me) ≡ riding (n x) f fs me
  unfolding ite
  plain t e z = rw (e, z)

  by_stage : (t : Kind) (v : Stage) (m : ℕ) → (n x).kind ≡ t → is_range t ≡ false → (c : Check) → Rides c → Rides (check_stage v m c)
  unfolding ride_turn ite
  by_stage t Preparing m e z c d = plain t e z
  by_stage t Completing m e z c d = plain t e z
  by_stage t Aborted m e z c d = refl
  by_stage t Done m e z c d = d

  by_store : (v : Option ℕ) → (n x).kind ≡ Range → Rides (check_store v (n x))
  unfolding ride_turn ite
  by_store None e = rw e
  by_store (Some c) e = refl

  stale : (t : Kind) → (n x).kind ≡ t → is_range t ≡ false → Rides Check.Stale
  unfolding ride_turn ite
  stale t e z = plain t e z

  free : Rides Check.Replaceable
  unfolding ride_turn ite
  free = refl

  by_kind : (t : Kind) → (n x).kind ≡ t → Rides (check_as t n k x)
  by_kind Normal e = free
  by_kind Route e = stale Route e refl
  by_kind Main e = by_stage Main (n x).stage x e refl Check.Stale (stale Main e refl)
  by_kind Neighbour e = by_stage Neighbour (n (n x).main).stage (n x).main e refl Check.Replaceable free
  by_kind Range e = by_store (k (n x).store) e

  pub ride_alike : ride_turn (check n k x) f fs me ≡ ite (replaceable n k x) (goes (at (swap opening ReadLeft) me)) (riding (n x) f fs me)
  unfolding check replaceable
  ride_alike = by_kind (n x).kind refl

-- ---- the two swaps of a query by their numbers
swap_open : (q : Quarter) → place_of (number (swap opening q)) ≡ swap opening q
swap_open ReadLeft = refl
swap_open SwapLeft = refl
swap_open ReadRight = refl
swap_open SwapRight = refl

swap_next : (q : Quarter) → place_of (number (swap next q)) ≡ swap next q
swap_next ReadLeft = refl
swap_next SwapLeft = refl
swap_next ReadRight = refl
swap_next SwapRight = refl

quarter_back : (j : ℕ) → j < 4 → quarter_number (quarter_of j) ≡ j
quarter_back zero h = refl
quarter_back (suc zero) h = refl
quarter_back (suc (suc zero)) h = refl
quarter_back (suc (suc (suc zero))) h = refl
quarter_back (suc (suc (suc (suc j)))) h = absurd (omega arith)

at_swap : (k : Swap) → ((q : Quarter) → place_of (number (swap k q)) ≡ swap k q) → (p : ℕ) → first_of k ≤ p → p < first_of k + 4 → place_of p ≡ swap k (quarter_of (p - first_of k))
at_swap k at p a b =
    let n : first_of k + quarter_number (quarter_of (p - first_of k)) ≡ p = omega (arith, quarter_back (p - first_of k) (omega arith)) in
    rw n at (at (quarter_of (p - first_of k)))

-- of what is seen, they use the numbers used and the stores shown
open_alike : (w : Probe) (b : Node) (s : Sight) (f : Frame) (fs : List Frame) (th : Thread) → opened_by w b (counts s.used s.shown) f fs th ≡ opened_by w b s f fs th
open_alike (Hit v) b s f fs th = refl
open_alike (Next q) b s f fs th = refl
open_alike Miss b s f fs th = refl

next_alike : (w : Probe) (b : Node) (s : Sight) (f : Frame) (fs : List Frame) (th : Thread) → extended_by w b (counts s.used 0) f fs th ≡ extended_by w b s f fs th
next_alike (Hit v) b s f fs th = refl
next_alike (Next q) b s f fs th = refl
next_alike Miss b s f fs th = refl

module _ (s : Sight) {f g : Frame} where
  pub at_62 : {r : Ending} {c : Check} → c ≡ check s.nodes s.stores f.base → Acts f g r (ride_turn c) → Acts f g r (step_at 62 s)
  unfolding step_at step
  at_62 ec q = acts_as 62 q (λ fs th. ap (λ (x : Check). ride_turn x f fs (to_frames 62 (f ∷ fs) th)) ec ∙ ride_alike s.nodes s.stores f.base f fs 62 th)

  -- v is the top route, or the base in hand
  pub at_72 : {p y : ℕ} {v : Node} → y ≡ top_of f.stack → v ≡ s.nodes y → Goes f g p (up_turn v) → Acts f g (Ok (Onward p Quiet)) (step_at 72 s)
  unfolding step_at step up_turn
  at_72 ey ev q = acts_as 72 (goes_acts q) (λ fs th. ap (λ (b : Node). ascended b f fs (to_frames 72 (f ∷ fs) th)) (ev ∙ ap s.nodes ey))

  pub at_74 : {p k : ℕ} {c : Option ℕ} {v : Node} → k ≡ store_of f.store → c ≡ s.stores k → v ≡ s.nodes f.base → Goes f g p (meet_turn c v) → Acts f g (Ok (Onward p Quiet)) (step_at 74 s)
  unfolding step_at step meet_turn
  at_74 ek ec ev q = acts_as 74 (goes_acts q) (λ fs th. ap₂ (λ (x : Option ℕ) (b : Node). met_by x b f fs (to_frames 74 (f ∷ fs) th)) (ec ∙ ap s.stores ek) ev)

  -- ---- 64 to 67, 77 to 80: v is the base in hand
  module _ {r : Ending} {v : Node} {w : Probe} (p : ℕ) (ev : v ≡ s.nodes f.base) where
    pub at_open : w ≡ probe (quarter_of (p - 64)) v.parent s.nodes s.root f.base → 64 ≤ p → p < 68 → Acts f g r (open_turn w v s.used s.shown) → Acts f g r (step_at p s)
    unfolding step_at step open_turn
    at_open ew m o k = acts_as p k (λ fs th. open_alike w v s f fs (to_frames p (f ∷ fs) th)
        ∙ (rw (ew, ev) refl ∙ ap (λ (y : Place). step y s (to_frames p (f ∷ fs) th)) (sym (at_swap opening swap_open p m o))))

    pub at_go_on : w ≡ probe (quarter_of (p - 77)) v.parent s.nodes s.root f.base → 77 ≤ p → p < 81 → Acts f g r (go_on_turn w v s.used) → Acts f g r (step_at p s)
    unfolding step_at step go_on_turn
    at_go_on ew m o k = acts_as p k (λ fs th. next_alike w v s f fs (to_frames p (f ∷ fs) th)
        ∙ (rw (ew, ev) refl ∙ ap (λ (y : Place). step y s (to_frames p (f ∷ fs) th)) (sym (at_swap next swap_next p m o))))

pub ruleset swap_cases = (at_open, at_go_on)
