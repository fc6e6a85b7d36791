-- `nuxalder::nuxalder_history` meets its contract. Assumes nothing.
use mathlib.Core.Path.{ap}
use Rattle.nuxalder.specs.Fields.{written_fields}
use Rattle.nuxalder.proofs.nuxalder_history.Goals as goal

pub returns : goal.returns
returns c = let e = c.history-w.ensures in (ap written_fields e.0, e.1)
