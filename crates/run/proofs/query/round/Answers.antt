-- `run::query::round` meets its contract. Assumes nothing.
use Rattle.run.proofs.Left.{stays, back_none}
use Rattle.run.proofs.query.round.Goals as goal

pub returns-in-Back : goal.returns-in-Back
returns-in-Back c = rw c.in-Back.is (stays, record { place = 1; backs = back_none _ _ _ c.if-depth-eq0.true; goes = rw c.if-depth-eq0.true })
