-- `snapshot::thread::put_head` meets its contract. Assumes nothing.
use Rattle.buffer.proofs.Writes.{next, said}
use Rattle.snapshot.proofs.Heads.{head_parts}
use Rattle.snapshot.proofs.thread.put_head.Goals as goal

pub returns : goal.returns
returns c = said _ (head_parts _ _) (next _ _ _ c.put_notes.ensures (next _ _ _ c.put_number.ensures c.put_zeros.ensures))
