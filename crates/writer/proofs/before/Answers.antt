-- `writer::before` meets its contract. Assumes nothing.
use mathlib.Core.Path.{refl}
use lib.ListN.{length}
use Rattle.run.proofs.Ended.{room_for}
use Rattle.writer.proofs.Parts.{file_fine, part_report, part_buffer}
use Rattle.writer.proofs.before.Goals as goal

pub part_of-requires : goal.part_of-requires
part_of-requires c = (file_fine _ _ c.requires.0, c.requires.1)

pub returns : goal.returns
returns c =
    let z = c.requires.0 in
    let rows = c.args.rows.now in (
      part_report _ (length rows) c.args.k z (room_for _ _ z) c.requires.1 _ c.part_of.ensures c.run.ensures.0,
      part_buffer _ (length rows) c.args.k z (room_for _ _ z) c.requires.1 _ rows refl c.part_of.ensures c.run.ensures.1,
    )
