-- `schedule::records` meets its contract. Assumes nothing.
use native.Mathlib.Omega.{arith}
use Rattle.schedule.proofs.Pairs.{pairs_are}
use Rattle.schedule.proofs.records.Goals as goal

pub slice_bounds-as_chunks-count : goal.slice_bounds-as_chunks-count
slice_bounds-as_chunks-count c = omega (arith, c.requires.whole)

pub returns : goal.returns
returns c = pairs_are _ c.requires c.as_chunks.ensures.front c.as_chunks.ensures.front_len
