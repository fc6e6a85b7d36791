-- `frames::finish` meets its contract. Assumes nothing.
use Rattle.frames.proofs.Ends.{end_back}
use Rattle.frames.proofs.finish.Goals as goal

pub returns-then-owner-ne1 : goal.returns-then-owner-ne1
returns-then-owner-ne1 c = end_back _ _ _ _ _ _ _ _ _ _ _ c.in-Some.is c.if-owner-eq0.false c.if-owner-ne1.true c.below.ensures.thread c.below.ensures.depth c.leave.ensures
