-- `tally::gcd` meets its contract: Euclid's number stays the same from turn to turn. Assumes nothing.
use mathlib.Core.Path.{◌≡◌}
use Rattle.season.specs.Season.{gcd}
use Rattle.tally.proofs.gcd.Given as goal

abbrev pub invariant-loop-y : goal.invariant-loop-y
invariant-loop-y l = gcd l.x l.y ≡ gcd l.a l.b

abbrev pub decreases-loop-y : goal.decreases-loop-y
decreases-loop-y l = l.y
