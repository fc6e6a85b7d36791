-- `state::bench::Bench::put_thread` meets its contract. Assumes nothing.
use native.Mathlib.Omega.{arith}
use mathlib.Core.Path.{◌∙◌}
use lib.ListN.{get_or}
use Rattle.buffer.proofs.Writes.{next, said}
use Rattle.frames.specs.View.{held}
use Rattle.state.proofs.Cases.{past, thread_at, thread_flat, thread_deep}
use Rattle.state.proofs.bench.Bench.put_thread.Goals as goal

pub returns-then-self-eq1 : goal.returns-then-self-eq1
returns-then-self-eq1 c =
    let b = c.args.self.now in
    let s = b.standing in
    let h = held b.lent.now in
    let t = c.args.t in
    said _ (thread_flat _ (get_or s.threads t past) h t (get_or s.frames t 0) c.if-self-eq1.true ∙ thread_at b.version s.threads s.frames h t (omega arith) c.requires)
    (next _ _ _ c.put_head.ensures c.put_zeros.ensures)

pub put_frames-requires : goal.put_frames-requires
put_frames-requires c = c.args.self.now.there.frames c.if-self-eq1.false

pub returns-else-self-eq1 : goal.returns-else-self-eq1
returns-else-self-eq1 c =
    let b = c.args.self.now in
    let s = b.standing in
    let h = held b.lent.now in
    let t = c.args.t in
    said _ (thread_deep _ (get_or s.threads t past) h t (get_or s.frames t 0) c.if-self-eq1.false c.new.ensures.thread c.new.ensures.depth
    ∙ thread_at b.version s.threads s.frames h t (omega arith) c.requires)
    (next _ _ _ c.put_head-else-self-eq1.ensures c.put_frames.ensures)
