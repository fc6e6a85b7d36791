-- `nuxalder::nuxalder_run_one_writer` meets its contract. Assumes nothing.
use mathlib.Core.Path.{ap, ◌∙◌}
use Rattle.nuxalder.specs.Fields.{run_fields}
use Rattle.nuxalder.proofs.nuxalder_run_one_writer.Goals as goal

pub returns : goal.returns
returns c = let e = c.run-p.ensures in (c.fields.ensures ∙ ap run_fields e.0, e.1)
