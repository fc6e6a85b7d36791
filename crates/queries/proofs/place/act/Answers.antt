-- `queries::place::act` meets its contract. Assumes nothing.
use native.Mathlib.Omega.{arith}
use Rattle.queries.proofs.Dispatch.{stays}
use Rattle.queries.proofs.place.act.Goals as goal

pub returns-in_default-2 : goal.returns-in_default-2
returns-in_default-2 c = stays c.requires.from (λ h. omega arith) (λ h i. omega arith) (λ h i. omega arith) (λ h i. omega arith) _
