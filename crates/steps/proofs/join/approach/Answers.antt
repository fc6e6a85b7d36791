-- `steps::join::approach` meets its contract. Assumes nothing.
use native.Mathlib.Omega.{arith}
use Rattle.steps.proofs.DecideLaws.{at_25}
use Rattle.steps.proofs.join.approach.Goals as goal

pub returns-in_default : goal.returns-in_default
returns-in_default c = at_25 _ _ (omega arith) (omega arith) c.hook.ensures
