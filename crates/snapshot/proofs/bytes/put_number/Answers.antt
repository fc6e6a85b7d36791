-- `snapshot::bytes::put_number` meets its contract. Assumes nothing.
use Rattle.buffer.proofs.Writes.{said}
use Rattle.snapshot.proofs.ByteCases.{number_bytes}
use Rattle.snapshot.proofs.bytes.put_number.Goals as goal

pub returns : goal.returns
returns g c = said _ (number_bytes _ c.args.n c.requires c.to_be_bytes.ensures) c.put_all.ensures
