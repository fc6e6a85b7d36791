-- `snapshot::frame::put_frame` meets its contract. Assumes nothing.
use Rattle.buffer.proofs.Writes.{next, said}
use Rattle.snapshot.proofs.FrameParts.{frame_parts}
use Rattle.snapshot.proofs.frame.put_frame.Goals as goal

pub returns : goal.returns
returns c =
    said _ (frame_parts _ _ c.is_at.ensures c.is_at-2.ensures c.is_at-3.ensures c.is_at-has_stack.ensures c.is_at-has_backup.ensures c.is_at-has_done.ensures c.from.ensures c.done_of.ensures)
    (next _ _ _ c.put_all.ensures (next _ _ _ c.put_link.ensures (next _ _ _ c.put_noted.ensures (next _ _ _ c.put_noted-2.ensures (next _ _ _ c.put_noted-3.ensures
    (next _ _ _ c.put.ensures (next _ _ _ c.put_length.ensures (next _ _ _ c.put_length-2.ensures (next _ _ _ c.put_zeros.ensures (next _ _ _ c.put_number.ensures
    (next _ _ _ c.put_stack.ensures c.put_stack-2.ensures)))))))))))
