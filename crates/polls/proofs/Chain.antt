-- A chain of 63 routes, which takes more records than a file holds, and a lookup alone at its end: after 63 steps, with the stop on after 65, it has no
-- row yet. Computed by the checker, along the list of records, from the definitions alone (Reached.antt has what it means for the claim).
use Rattle.std.specs.Prelude.{Option, Some, None}
use mathlib.Core.Path.{◌≡◌, refl}
use mathlib.Core.Bool.{Bool, true, false, cond}
use mathlib.Core.List.{List, [], ◌∷◌}
use Prim.Native.Nat.{ℕ, zero, suc, ◌+◌, ◌-◌, ◌/◌, ◌%◌}
use lib.Dec.{eqb, leb}
use lib.Count.{ones_in, count_trailing_zeros}
use Rattle.container.specs.Choice.{ite}
use Rattle.container.specs.Container.{has, insert, remove, union, cut, below, from, size, least, drop_least, upper_half, lower_half, split_key}
use Rattle.container.specs.Depths.{put, lower, upper}
use Rattle.definitions.specs.Nodes.{check, replaceable}
use Rattle.definitions.specs.Bench.{Bench, fresh}
use Rattle.definitions.specs.Steps.{reached, onward, followed, blocked, lacks, cleared, lost, probe, replaced, step}
use Rattle.definitions.specs.Records.{Row, no_row, row, Result, refused, carried, taken, stepped, started, record_step}
use Rattle.definitions.specs.Schedule.{Rec}

-- ---- the steps of one thread's open lookup, along a list

-- one record of the thread; Nil: it has none open
abbrev pub moves : ℕ → Row → Option ℕ → Option ℕ
moves zero w None = None
moves zero no_row (Some k) = Some (suc k)
moves zero (row _ _ _) (Some k) = None
moves (suc zero) w l = Some 0
moves (suc (suc _)) w l = None

abbrev pub goes_on : Result → (Bench → Row → Option ℕ) → Option ℕ
goes_on (refused _) f = None
goes_on (carried b w) f = f b w

abbrev pub waits : ℕ → List Rec → Bench → Option ℕ → Option ℕ
waits t [] b l = l
waits t (r ∷ rs) b l = goes_on (record_step b r.last r.first r.second r.extra) (λ b' w. waits t rs b' (cond (eqb t (r.first / 16)) (moves (r.first % 16) w l) l))

-- ---- the chain

-- a record of version 1, with the stop on of version 3
abbrev rec : Bool → ℕ → ℕ → Rec
rec on x y = record { last = cond on 6 5; first = x; second = y; extra = 0 }

-- n step records x
abbrev steps : Bool → ℕ → ℕ → List Rec → List Rec
steps on x zero rs = rs
steps on x (suc n) rs = rec on x 0 ∷ steps on x n rs

-- t0 starts an action and takes n steps
abbrev op : Bool → ℕ → ℕ → ℕ → List Rec → List Rec
op on a y n rs = rec on a y ∷ steps on 0 n rs

-- below d routes, at the left child of the last, an insert or split takes d + 4 steps, with the stop on from the 8th route on two more
abbrev cost : Bool → ℕ → ℕ
cost on d = d + cond on (cond (leb 8 d) 6 4) 4

-- m more routes, the first below d: t0 inserts 62 - d beside 63 - d and splits their base
abbrev levels : Bool → ℕ → ℕ → List Rec → List Rec
levels on d zero rs = rs
levels on d (suc m) rs = op on 2 (62 - d) (cost on d) (op on 4 (62 - d) (cost on d) (levels on (suc d) m rs))

-- 63 routes; then t1 looks up 0 and takes k steps
abbrev pub chain : Bool → ℕ → List Rec
chain on k = op on 2 63 3 (op on 2 62 3 (op on 4 62 3 (levels on 1 62 (rec on 17 0 ∷ steps on 16 k []))))

pub open_off : waits 1 (chain false 63) (fresh false) None ≡ Some 63
unfolding put lower upper check replaceable taken stepped started record_step reached onward followed blocked lacks cleared lost probe replaced
    step ite has insert remove union cut below from size least drop_least upper_half lower_half split_key ones_in count_trailing_zeros
open_off = refl

pub open_on : waits 1 (chain true 65) (fresh true) None ≡ Some 65
unfolding put lower upper check replaceable taken stepped started record_step reached onward followed blocked lacks cleared lost probe replaced
    step ite has insert remove union cut below from size least drop_least upper_half lower_half split_key ones_in count_trailing_zeros
open_on = refl
