-- `frames::enter` meets its contract. Assumes nothing.
use Rattle.frames.proofs.Threads.{entered}
use Rattle.frames.proofs.enter.Goals as goal

pub returns : goal.returns
returns c = entered _ _ _ _ _ c.told-frames c.args.owner.four c.requires.room c.free.ensures.row c.new.ensures
