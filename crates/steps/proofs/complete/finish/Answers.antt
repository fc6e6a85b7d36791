-- `steps::complete::finish` meets its contract. Assumes nothing.
use native.Mathlib.Omega.{arith}
use Rattle.steps.proofs.DecideLaws.{from_52}
use Rattle.steps.proofs.complete.finish.Goals as goal

pub returns-in_default : goal.returns-in_default
returns-in_default c = from_52 _ _ (omega arith) (omega arith) c.go.ensures
