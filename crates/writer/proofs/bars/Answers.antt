-- `writer::bars` meets its contract. Assumes nothing.
use native.Mathlib.Omega.{arith}
use mathlib.Core.Path.{sym}
use Rattle.writer.proofs.Scan.{within, bars_at}
use Rattle.writer.proofs.bars.Goals as goal

pub start_of-requires : goal.start_of-requires
start_of-requires c = omega (arith, c.requires.1, c.requires.0.few)

pub bounds-s-start_of : goal.bounds-s-start_of
bounds-s-start_of c = within _ c.requires.0 c.requires.1 c.version_of-v.ensures c.start_of.ensures

pub returns : goal.returns
returns c = sym (bars_at _ _ c.args.k c.version_of-v.ensures c.start_of.ensures c.is_barred.ensures)
