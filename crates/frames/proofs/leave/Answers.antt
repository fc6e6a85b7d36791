-- `frames::leave` meets its contract. Assumes nothing.
use Rattle.frames.proofs.Threads.{backs_none, backs_on}
use Rattle.frames.proofs.leave.Goals as goal

pub returns-in-None : goal.returns-in-None
returns-in-None c = backs_none _ _ _ c.top.ensures.row c.in-None.is

pub returns-in-Some : goal.returns-in-Some
returns-in-Some c = backs_on _ _ _ _ _ _ c.told-frames c.args.owner.four c.args.owner.few c.top.ensures.row c.in-Some.is c.back.ensures
