-- `state::bench::Bench::put_threads`: t threads are written. Assumes nothing.
use mathlib.Core.List.{[], ◌∷◌}
use Rattle.buffer.specs.Writes.{Writes}
use Rattle.snapshot.specs.Layout.{each, thread_bytes}
use Rattle.state.specs.Bench.{threads_in}
use Rattle.state.proofs.bench.Bench.put_threads.Given as goal

abbrev pub invariant-loop-t : goal.invariant-loop-t
invariant-loop-t l = Writes l.initial.out l.out (each (λ u. thread_bytes (l.self.version ∷ []) (threads_in l.self u)) l.t)
