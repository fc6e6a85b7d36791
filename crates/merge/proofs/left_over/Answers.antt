-- `merge::left_over` meets its contract. Assumes nothing.
use mathlib.Core.Path.{refl}
use native.Mathlib.Omega.{arith}
use Rattle.merge.proofs.Output.{rest_second, rest_first}
use Rattle.merge.proofs.left_over.Goals as goal

pub returns-then-first-second : goal.returns-then-first-second
returns-then-first-second c =
    rw c.requires.0.whole (rest_second c.args.first.now c.args.second.now c.requires refl refl (omega (arith, c.requires.0.whole, c.requires.1.whole, c.if-first-second.true)))

pub returns : goal.returns
returns c = rw c.requires.1.whole (rest_first c.args.first.now c.args.second.now c.requires refl refl (omega (arith, c.requires.0.whole, c.requires.1.whole, c.if-first-second.false)))
