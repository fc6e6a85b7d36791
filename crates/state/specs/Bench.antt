-- The parts of a state as the code holds them in one struct.
use Rattle.std.specs.Prelude.{ℕ, List}
use Rattle.depths.specs.Rows.{rows, full}
use Rattle.definitions.specs.Nodes.{Nodes}
use Rattle.definitions.specs.Threads.{Thread}
use Rattle.frames.specs.View.{held}
use Rattle.nodes.specs.Table.{table}
use Rattle.nodes.specs.Stores.{stores}
use Rattle.run.specs.Threads.{threads_of}
use Rattle.state.specs.Parts.{bench_bytes}
use Rattle.state.specs.declared.bench.Bench.{Bench}

abbrev pub threads_in : Bench → ℕ → Thread
threads_in b = threads_of b.standing.threads b.standing.frames (held b.lent.now)

abbrev pub nodes_in : Bench → Nodes
nodes_in b = full (table b.nodes.now) (rows b.depths.now)

abbrev pub bytes_in : Bench → List ℕ
bytes_in b = bench_bytes b.version b.standing (table b.nodes.now) (rows b.depths.now) (stores b.results.now) (held b.lent.now)
