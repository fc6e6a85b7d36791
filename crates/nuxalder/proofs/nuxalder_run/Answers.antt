-- `nuxalder::nuxalder_run` meets its contract. Assumes nothing.
use mathlib.Core.Path.{ap, ◌∙◌}
use Rattle.nuxalder.specs.Fields.{run_fields}
use Rattle.nuxalder.proofs.nuxalder_run.Goals as goal

pub returns : goal.returns
returns c = let e = c.run-r.ensures in (c.fields.ensures ∙ ap run_fields e.0, e.1)
