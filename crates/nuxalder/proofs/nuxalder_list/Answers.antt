-- `nuxalder::nuxalder_list` meets its contract. Assumes nothing.
use mathlib.Core.Path.{ap}
use Rattle.nuxalder.specs.Fields.{list_fields}
use Rattle.nuxalder.proofs.nuxalder_list.Goals as goal

pub returns : goal.returns
returns c = let e = c.list-r.ensures in (ap list_fields e.0, e.1)
