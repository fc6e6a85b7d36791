-- `printed::put_rows` meets its contract. Assumes nothing.
use native.Mathlib.Omega.{arith}
use mathlib.Core.Path.{◌≡◌, refl, sym, ap, ◌∙◌}
use Prim.Native.Nat.{◌-◌}
use native.Mathlib.Nat.{zero-mul}
use Rattle.std.specs.Slice.Iter.{chunks_exact_rest, chunks_exact_size}
use Rattle.std.specs.Iterator.Adapters.{take_source, take_count}
use Rattle.definitions.specs.Run.{row_width}
use Rattle.definitions.specs.Printed.{row_lines}
use Rattle.listing.specs.Texts.{headed}
use Rattle.buffer.proofs.Writes.{none, next, said}
use Rattle.printed.proofs.Cases.{width_least}
use Rattle.printed.proofs.Lines.{walk_line, walk_rest, walk_end}
use Rattle.printed.proofs.put_rows.Goals as goal

pub chunks_exact-requires : goal.chunks_exact-requires
chunks_exact-requires c = omega (arith, c.row_width.ensures, width_least c.args.version)

pub loop-row-init : goal.loop-row-init
loop-row-init c =
    let start : c.args.count - take_count c.into_iter-row-iterator.result ≡ 0 = omega (arith, ap take_count c.into_iter-row-iterator.ensures.into_iter_gives, c.take-row-items.ensures.count) in
    let all = ap take_source c.into_iter-row-iterator.ensures.into_iter_gives ∙ c.take-row-items.ensures.source in
    let wide = ap chunks_exact_size all ∙ c.chunks_exact.ensures.size ∙ c.row_width.ensures in
    record {
      next = omega (arith, wide, width_least c.args.version);
      ends = tt;
      wide = wide;
      few = omega (arith, ap take_count c.into_iter-row-iterator.ensures.into_iter_gives, c.take-row-items.ensures.count);
      rest = ap chunks_exact_rest all ∙ c.chunks_exact.ensures.rest ∙ rw (start, zero-mul (row_width (headed c.args.version))) refl;
      wrote = rw start (refl, sym (none _));
    }

pub loop-row-preserved : goal.loop-row-preserved
loop-row-preserved c =
    let i = c.loop-row.invariant in
    let left = take_count c.loop-row.row-iterator in
    let step = c.in-Some.ensures.steps in
    let wide = step.0.1.1 ∙ i.wide in
    record {
      next = omega (arith, step.0.0, i.next);
      ends = tt;
      wide = step.0.0 ∙ i.wide;
      few = omega (arith, i.few, step.1);
      rest = walk_rest (headed c.args.version) c.args.rows.now _ c.args.count left c.in-Some.row.now _ _ i.few i.rest step.0.1.0 wide step.1;
      wrote = said _ (walk_line (headed c.args.version) c.args.rows.now _ c.args.count left c.in-Some.row.now _ _ i.few i.rest step.0.1.0 wide step.1) (next _ _ _ i.wrote c.put_row.ensures);
    }

pub returns : goal.returns
returns c =
    let i = c.loop-row.invariant in
    said _ (ap (λ k. row_lines (headed c.args.version) k c.args.rows.now)
    (walk_end (headed c.args.version) c.args.rows.now _ c.args.count _ i.few i.rest c.requires (λ l. omega (arith, (c.in-None.ensures.steps l).1.0, i.wide)))) i.wrote
