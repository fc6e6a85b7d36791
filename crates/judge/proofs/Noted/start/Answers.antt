-- `judge::Noted::start` meets its contract. Assumes nothing.
use Rattle.judge.proofs.Noting.{start_in, start_past}
use Rattle.judge.proofs.Noted.start.Goals as goal

pub returns-then-number-lt12-clause-stands : goal.returns-then-number-lt12-clause-stands
returns-then-number-lt12-clause-stands c R st = start_in c.args.self.now c.args.e R st c.if-number-lt12.true

pub returns-else-number-lt12-clause-stands : goal.returns-else-number-lt12-clause-stands
returns-else-number-lt12-clause-stands c R st = start_past c.args.self.now c.args.e R st c.if-number-lt12.false
