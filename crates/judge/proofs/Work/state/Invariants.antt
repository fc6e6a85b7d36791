-- `judge::Work::state`: what its loop keeps true.
use mathlib.Core.Path.{◌≡◌}
use Prim.Native.Nat.{ℕ}
use Rattle.container.specs.Container.{has}
use Rattle.judge.specs.Search.{state_to}
use Rattle.judge.specs.Standing.{held}
use Rattle.judge.proofs.Work.state.Given as goal

abbrev pub invariant-loop-i : goal.invariant-loop-i
invariant-loop-i l = (x : ℕ) → has l.set x ≡ state_to (held l.self) l.mask l.i x
