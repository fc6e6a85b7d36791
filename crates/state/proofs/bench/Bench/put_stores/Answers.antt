-- `state::bench::Bench::put_stores` meets its contract. Assumes nothing.
use mathlib.Core.Path.{ap}
use Rattle.snapshot.specs.Layout.{shared_bytes}
use Rattle.buffer.proofs.Writes.{next, said}
use Rattle.state.proofs.Cases.{each_more}
use Rattle.state.proofs.bench.Bench.put_stores.Goals as goal

pub loop-j-preserved : goal.loop-j-preserved
loop-j-preserved c = said _ (each_more _ _ (ap shared_bytes c.result_at.ensures)) (next _ _ _ c.loop-j.invariant c.put_shared.ensures)
