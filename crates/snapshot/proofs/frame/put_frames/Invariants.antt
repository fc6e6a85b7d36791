-- `snapshot::frame::put_frames`: what is left to write, after some of the four. Assumes nothing.
use mathlib.Core.Path.{◌≡◌}
use Prim.Native.Nat.{◌-◌}
use Rattle.buffer.specs.Page.{page, put_all}
use Rattle.frames.specs.View.{held, frames_of}
use Rattle.snapshot.specs.Layout.{frames_bytes}
use Rattle.snapshot.proofs.frame.put_frames.Given as goal

abbrev pub invariant-loop : goal.invariant-loop
invariant-loop l = (l.out.bytes.ghost_name ≡ l.initial.out.bytes.ghost_name)
    × (put_all (page l.out.bytes.now l.out.at) (frames_bytes (4 - l.counter) l.q (frames_of (held l.frames) l.left.thread l.left.depth))
    ≡ put_all (page l.initial.out.bytes.now l.initial.out.at) (frames_bytes 4 l.p (frames_of (held l.frames) l.initial.left.thread l.initial.left.depth)))
