-- `snapshot::node::put_depths` meets its contract. Assumes nothing.
use borrow.Author.Rules.{rules}
use native.Mathlib.Omega.{arith}
use mathlib.Core.Path.{refl, ◌∙◌}
use Rattle.snapshot.proofs.NodeCases.{depths_flat, depths_empty, depths_start, depths_next, depths_there, depths_done, next_past, next_le, next_there}
use Rattle.snapshot.proofs.node.put_depths.Goals as goal

pub returns-then-version-eq1 : goal.returns-then-version-eq1
returns-then-version-eq1 c = (search rules, search depths_flat)

pub returns-then-c-eq0 : goal.returns-then-c-eq0
returns-then-c-eq0 c = (search rules, search depths_empty)

pub loop-s-init : goal.loop-s-init
loop-s-init c = (search rules, (search rules, search depths_start))

pub loop-s-smaller-then-low-lt64 : goal.loop-s-smaller-then-low-lt64
loop-s-smaller-then-low-lt64 c = omega (arith, next_past _ _ c.loop-s-test.true c.upper-rest.ensures c.lowest-low.ensures, c.if-low-lt64.true)

pub loop-s-preserved-then-low-lt64 : goal.loop-s-preserved-then-low-lt64
loop-s-preserved-then-low-lt64 c = (
  omega (arith, c.if-low-lt64.true),
  (
    search rules,
    depths_there _ _ _ _ _ c.if-version-eq1.false refl (next_there _ _ c.loop-s-test.true c.upper-rest.ensures c.lowest-low.ensures c.if-low-lt64.true)
        (c.from-then-low-lt64.ensures ∙ c.depth_at-d.ensures)
        (depths_next _ _ _ _ _ c.if-version-eq1.false c.loop-s-test.true c.upper-rest.ensures c.lowest-low.ensures c.from.ensures c.loop-s.invariant.1.1 c.put_zeros-in-loop-s.ensures.1)
        c.put_number.ensures.1,
  ),
)

pub loop-s-preserved : goal.loop-s-preserved
loop-s-preserved c = (
  next_le _ c.lowest-low.ensures,
  (search rules, depths_next _ _ _ _ _ c.if-version-eq1.false c.loop-s-test.true c.upper-rest.ensures c.lowest-low.ensures c.from.ensures c.loop-s.invariant.1.1 c.put_zeros-in-loop-s.ensures.1),
)

pub returns : goal.returns
returns c = (search rules, search depths_done)
