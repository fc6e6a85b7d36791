-- `tally::is_roomy` meets its contract: the numbers before place `n-index` are at most the bits of all together. Assumes nothing.
use Prim.Native.Nat.{ℕ, ◌≤◌, ◌<◌}
use lib.ListN.{get_or}
use Rattle.tally.proofs.is_roomy.Given as goal

abbrev pub invariant-loop-n : goal.invariant-loop-n
invariant-loop-n l = (j : ℕ) → j < l.n-index → get_or l.tally j 0 ≤ l.all
