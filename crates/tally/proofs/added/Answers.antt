-- `tally::added` meets its contract. Assumes nothing.
use mathlib.Core.Path.{◌≡◌}
use Prim.Native.Nat.{◌≤◌, ◌<◌}
use native.Mathlib.Omega.{arith}
use borrow.Author.Rules.{rules}
use Rattle.std.proofs.lemmas.Grind.{common_steps}
use Rattle.tally.proofs.Cases.{added_next, added_past, added_fits, added_all}
use Rattle.tally.proofs.added.Goals as goal

pub returns-in_err-both-clause-none : goal.returns-in_err-both-clause-none
returns-in_err-both-clause-none c =
    let past : 4294967296 ≤ c.joined.result = grind (arith, common_steps) in
    let e = added_past c.args.tally.now c.args.one.now c.loop-i.both c.loop-i.i c.loop-i.invariant c.joined.result c.loop-i-test.true c.joined.ensures past in
    grind (arith, common_steps)

pub loop-i-preserved : goal.loop-i-preserved
loop-i-preserved c =
    let e : c.in_ok-both.field-0 ≡ c.joined.result = grind (arith, common_steps) in
    let l : c.in_ok-both.field-0 < 4294967296 = grind (arith, common_steps) in
    rw e (added_next c.args.tally.now c.args.one.now c.loop-i.both c.loop-i.i c.loop-i.invariant c.joined.result c.loop-i-test.true c.joined.ensures (omega arith))

pub returns-clause-some : goal.returns-clause-some
returns-clause-some c = (
  added_fits c.args.tally.now c.args.one.now c.loop-i.both c.loop-i.i c.loop-i.invariant c.loop-i-test.false,
  added_all c.args.tally.now c.args.one.now c.loop-i.both c.loop-i.i c.loop-i.invariant c.loop-i-test.false (search rules) (search rules),
)
