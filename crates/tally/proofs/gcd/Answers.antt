-- `tally::gcd` meets its contract: Euclid's number stays the same from turn to turn. Assumes nothing.
use mathlib.Core.Path.{sym, ◌∙◌}
use native.Mathlib.Omega.{arith}
use Rattle.tally.proofs.Averages.{gcd_next, gcd_zero}
use Rattle.tally.proofs.gcd.Goals as goal

pub loop-y-preserved : goal.loop-y-preserved
loop-y-preserved c = gcd_next c.loop-y.x c.loop-y.y (λ z. c.loop-y-test.true z) ∙ c.loop-y.invariant

pub returns : goal.returns
returns c = sym (gcd_zero _ _ (omega arith)) ∙ c.loop-y.invariant
