-- `nuxalder::nuxalder_average` meets its contract. Assumes nothing.
use mathlib.Core.Path.{ap}
use Rattle.nuxalder.specs.Fields.{average_fields}
use Rattle.nuxalder.proofs.nuxalder_average.Goals as goal

pub returns : goal.returns
returns c = ap average_fields c.average_of-r.ensures
