-- `nuxalder::nuxalder_merge` meets its contract. Assumes nothing.
use mathlib.Core.Path.{refl, ap}
use Rattle.definitions.proofs.Refusals.{refused}
use Rattle.merge.proofs.Where.{report_refused, fits_second, report_second, fits_first, report_first}
use Rattle.nuxalder.specs.Fields.{merge_fields}
use Rattle.nuxalder.proofs.nuxalder_merge.Goals as goal

pub returns-in-Err : goal.returns-in-Err
returns-in-Err c = let m = c.in-Err.ensures in (rw c.from.ensures (ap merge_fields (report_refused _ _ _ m (refused _))), m.output)

pub overflow_sub-report : goal.overflow_sub-report
overflow_sub-report c = fits_second _ _ _ c.in-Ok.ensures refl c.if-first-second.true

pub returns-then-first-second : goal.returns-then-first-second
returns-then-first-second c = let m = c.in-Ok.ensures in (ap merge_fields (report_second _ _ _ m refl c.if-first-second.true), m.output)

pub overflow_sub-report-else-first-second : goal.overflow_sub-report-else-first-second
overflow_sub-report-else-first-second c = fits_first _ _ _ c.in-Ok.ensures refl c.if-first-second.false

pub returns-else-first-second : goal.returns-else-first-second
returns-else-first-second c = let m = c.in-Ok.ensures in (ap merge_fields (report_first _ _ _ m refl c.if-first-second.false), m.output)
