-- `state::bench::Bench::put` meets its contract. Assumes nothing.
use mathlib.Core.Path.{ap, ◌∙◌}
use Rattle.container.specs.Container.{all}
use Rattle.definitions.specs.Nodes.{Stores}
use Rattle.depths.specs.Rows.{rows}
use Rattle.frames.specs.View.{held}
use Rattle.nodes.specs.Table.{table}
use Rattle.nodes.specs.Stores.{stores}
use Rattle.nodes.proofs.Blank.{unset}
use Rattle.snapshot.specs.Layout.{reached_below}
use Rattle.buffer.proofs.Writes.{next, said}
use Rattle.state.proofs.Cases.{bench_parts}
use Rattle.state.proofs.bench.Bench.put.Goals as goal

pub returns : goal.returns
returns c =
    let b = c.args.self.now in
    let nodes = table b.nodes.now in
    said _ (bench_parts b.version b.standing nodes (rows b.depths.now) (stores b.results.now) (held b.lent.now) _
    (c.reach.ensures ∙ ap (λ (w : Stores). reached_below 63 nodes b.standing.root all w) (unset 256)))
    (next _ _ _ c.put_head.ensures (next _ _ _ c.put_threads.ensures (next _ _ _ c.put_nodes.ensures c.put_stores.ensures)))
