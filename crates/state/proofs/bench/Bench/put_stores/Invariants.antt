-- `state::bench::Bench::put_stores`: j stores are written. Assumes nothing.
use Rattle.buffer.specs.Writes.{Writes}
use Rattle.nodes.specs.Stores.{stores}
use Rattle.snapshot.specs.Layout.{each, shared_bytes}
use Rattle.state.proofs.bench.Bench.put_stores.Given as goal

abbrev pub invariant-loop-j : goal.invariant-loop-j
invariant-loop-j l = Writes l.initial.out l.out (each (λ k. shared_bytes (stores l.self.results.now k)) l.j)
