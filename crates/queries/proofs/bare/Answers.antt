-- `queries::bare` meets its contract. Assumes nothing.
use native.Mathlib.Omega.{arith}
use Rattle.queries.proofs.Dispatch.{bare_stays, bare_out}
use Rattle.queries.proofs.bare.Goals as goal

pub returns-in_default : goal.returns-in_default
returns-in_default c = bare_out _ c.requires (λ e. grind arith) (λ e. grind arith) (λ e. grind arith) (λ e. grind arith) (omega arith)

pub returns-in_default-2 : goal.returns-in_default-2
returns-in_default-2 c = bare_out _ c.requires (λ e. grind arith) (λ e. grind arith) (λ e. grind arith) (λ e. grind arith) (omega arith)

pub returns-in-63 : goal.returns-in-63
returns-in-63 c = bare_stays c.requires (λ h. omega arith) (λ h i. omega arith) (λ h i. omega arith) (λ h i. omega arith)

pub returns-in-63-2 : goal.returns-in-63-2
returns-in-63-2 c = bare_stays c.requires (λ h. omega arith) (λ h i. omega arith) (λ h i. omega arith) (λ h i. omega arith)

pub returns-in-63-3 : goal.returns-in-63-3
returns-in-63-3 c = bare_stays c.requires (λ h. omega arith) (λ h i. omega arith) (λ h i. omega arith) (λ h i. omega arith)
