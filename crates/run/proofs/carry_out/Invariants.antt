-- The loop of `run::carry_out`: what it keeps.
use Rattle.frames.specs.View.{held}
use Rattle.std.proofs.Common.{◌≡◌, ◌+◌, ◌*◌, ◌≤◌, length}
use Rattle.std.specs.Prelude.{Ok}
use Rattle.std.specs.Slice.Iter.{chunks_exact_rest, chunks_exact_size}
use Rattle.std.specs.Iterator.Adapters.{enumerate_source, enumerate_count}
use lib.ListN.{drop}
use Rattle.nodes.specs.Table.{table}
use Rattle.nodes.specs.Stores.{stores}
use Rattle.definitions.specs.Bench.{stop}
use Rattle.definitions.specs.Versions.{stop_of, width}
use Rattle.definitions.specs.Schedule.{count_of}
use Rattle.definitions.specs.Run.{after}
use Rattle.run.specs.Threads.{threads_of}
use Rattle.run.specs.Standing.{Stands}
use Rattle.run.proofs.Threads.{Keeps}
use Rattle.run.proofs.Turn.{stand}
use Rattle.run.proofs.Counting.{Counting}
use Rattle.run.proofs.carry_out.Given as goal

abbrev pub invariant-loop-k : goal.invariant-loop-k
invariant-loop-k l =
    let k = enumerate_count l.k-iterator in
    let chunks = enumerate_source l.k-iterator in
    record {
      few : k ≤ count_of l.schedule;
      wide : chunks_exact_size chunks ≡ width l.schedule;
      rest : chunks_exact_rest chunks ≡ drop (3 + width l.schedule * k) l.schedule;
      kept : Keeps l.initial.depths l.initial.results l.initial.lent l.depths l.results l.lent;
      four : length l.threads ≡ 4;
      each : length l.frames ≡ 4;
      stands : Stands (table l.nodes) l.depths (stores l.results) (stop (stop_of l.schedule) l.count)
          (threads_of l.threads l.frames (held l.lent)) (stand l.root l.used l.shown (Ok tt) k l.finished l.at) l.initial.rows l.rows (after l.schedule k);
      counting : Counting l.schedule k l.initial.tally l.tally l.own;
    }
