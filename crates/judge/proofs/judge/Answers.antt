-- `judge::judge` meets its contract. Assumes nothing.
use Rattle.judge.proofs.Whole.{report_refused, report_decided}
use Rattle.judge.proofs.judge.Goals as goal

pub returns-in-Ok : goal.returns-in-Ok
returns-in-Ok c = report_decided c.args.history.now c.decide.result c.in-Ok.ensures.ok.0 c.in-Ok.ensures.ok.1 c.decide.ensures

pub returns-in-Err : goal.returns-in-Err
returns-in-Err c = report_refused c.args.history.now c.from.result c.in-Err.why c.in-Err.ensures.err c.from.ensures
