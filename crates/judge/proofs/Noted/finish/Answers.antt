-- `judge::Noted::finish` meets its contract. Assumes nothing.
use Rattle.judge.proofs.Noting.{finish_in, finish_past}
use Rattle.judge.proofs.Noted.finish.Goals as goal

pub returns-then-number-lt12-clause-stands : goal.returns-then-number-lt12-clause-stands
returns-then-number-lt12-clause-stands c R doing em st = finish_in c.args.self.now c.args.e R st c.args.number c.args.yes doing em c.with-self.result c.if-number-lt12.true c.with-self.ensures

pub returns-else-number-lt12-clause-stands : goal.returns-else-number-lt12-clause-stands
returns-else-number-lt12-clause-stands c R doing em st = finish_past c.args.self.now c.args.e R st c.args.number c.args.yes doing em c.if-number-lt12.false
