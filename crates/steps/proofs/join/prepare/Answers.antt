-- `steps::join::prepare` meets its contract. Assumes nothing.
use native.Mathlib.Omega.{arith}
use Rattle.steps.proofs.DecideLaws.{at_39}
use Rattle.steps.proofs.join.prepare.Goals as goal

pub returns-in_default : goal.returns-in_default
returns-in_default c = at_39 _ _ (omega arith) (omega arith) c.go.ensures
