-- `nuxalder::nuxalder_tally` meets its contract. Assumes nothing.
use mathlib.Core.Path.{ap}
use Rattle.nuxalder.specs.Fields.{tally_fields}
use Rattle.nuxalder.proofs.nuxalder_tally.Goals as goal

pub returns : goal.returns
returns c = let e = c.tally-t.ensures in (ap tally_fields e.0, (e.1.0, e.1.1))
