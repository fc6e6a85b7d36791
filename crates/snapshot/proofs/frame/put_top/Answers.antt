-- `snapshot::frame::put_top` meets its contract. Assumes nothing.
use native.Mathlib.Omega.{arith}
use Rattle.buffer.proofs.Writes.{said}
use Rattle.frames.specs.View.{held}
use Rattle.snapshot.proofs.FrameParts.{top_there, top_free}
use Rattle.snapshot.proofs.frame.put_top.Goals as goal

pub returns-in-Some : goal.returns-in-Some
returns-in-Some c =
    said _ (top_there _ c.args.owner.thread c.args.owner.depth _ _ c.top.ensures.row c.in-Some.is c.index-frames-row.is (omega (arith, c.in-Some.ensures.inside, c.requires))) c.put_frame.ensures

pub returns-in-None : goal.returns-in-None
returns-in-None c = said _ (top_free (held c.args.frames.now) c.args.owner.thread c.args.owner.depth c.args.p c.top.ensures.row c.in-None.is) c.put_zeros.ensures
