-- `tally::count_file` meets its contract. Assumes nothing.
use Rattle.tally.proofs.Files.{room_low, refusal_fits, file_added}
use Rattle.tally.proofs.count_file.Goals as goal

pub tallied-report-requires : goal.tallied-report-requires
tallied-report-requires c = room_low c.args.tally.now c.requires

pub count_refusal-requires : goal.count_refusal-requires
count_refusal-requires c = refusal_fits c.args.schedule.now _ c.args.tally.now _ c.tallied-report.result c.tallied-report.ensures.0 c.tallied-report.ensures.1.1 c.requires

pub returns : goal.returns
returns c = (
  c.tallied-report.ensures.0,
  (c.tallied-report.ensures.1.0, file_added c.args.schedule.now _ c.args.tally.now _ c.tallied-report.result c.tallied-report.ensures.0 c.tallied-report.ensures.1.1 _ c.count_refusal.ensures),
)
