-- `state::bench::Bench::put_threads` meets its contract. Assumes nothing.
use mathlib.Core.Path.{refl}
use Rattle.buffer.proofs.Writes.{next, said}
use Rattle.state.proofs.Cases.{each_more}
use Rattle.state.proofs.bench.Bench.put_threads.Goals as goal

pub loop-t-preserved : goal.loop-t-preserved
loop-t-preserved c = said _ (each_more _ _ refl) (next _ _ _ c.loop-t.invariant c.put_thread.ensures)
