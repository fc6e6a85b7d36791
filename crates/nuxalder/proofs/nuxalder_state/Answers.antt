-- `nuxalder::nuxalder_state` meets its contract. Assumes nothing.
use mathlib.Core.Path.{ap}
use Rattle.nuxalder.specs.Fields.{state_fields}
use Rattle.nuxalder.proofs.nuxalder_state.Goals as goal

pub returns : goal.returns
returns c = let e = c.state-r.ensures in (ap state_fields e.0, e.1)
