-- `snapshot::frame::put_frames` meets its contract. Assumes nothing.
use borrow.Author.Rules.{rules}
use Rattle.snapshot.proofs.FrameParts.{frames_more, frames_done}
use Rattle.snapshot.proofs.frame.put_frames.Goals as goal

pub loop-preserved : goal.loop-preserved
loop-preserved c = (search rules, search (rules, frames_more))

pub returns : goal.returns
returns c = (search rules, search (rules, frames_done))
