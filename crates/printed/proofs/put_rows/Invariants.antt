-- `printed::put_rows`: the lines of the rows before the next one are written. Assumes nothing.
use mathlib.Core.Path.{◌≡◌}
use Prim.Native.Nat.{◌-◌, ◌*◌, ◌≤◌}
use lib.ListN.{drop}
use Rattle.std.specs.Slice.Iter.{chunks_exact_rest, chunks_exact_size}
use Rattle.std.specs.Iterator.Adapters.{take_source, take_count}
use Rattle.definitions.specs.Run.{row_width}
use Rattle.definitions.specs.Printed.{row_lines}
use Rattle.buffer.specs.Writes.{Writes}
use Rattle.listing.specs.Texts.{headed}
use Rattle.printed.proofs.put_rows.Given as goal

abbrev pub invariant-loop-row : goal.invariant-loop-row
invariant-loop-row l =
    let file = headed l.version in
    let left = take_count l.row-iterator in
    let chunks = take_source l.row-iterator in
    record {
      next : (goal.iterator-loop-row).can_next l.row-iterator;
      ends : (goal.iterator-loop-row).is_finite l.row-iterator;
      wide : chunks_exact_size chunks ≡ row_width file;
      few : left ≤ l.count;
      rest : chunks_exact_rest chunks ≡ drop ((l.count - left) * row_width file) l.rows;
      wrote : Writes l.initial.out l.out (row_lines file (l.count - left) l.rows);
    }
