-- `schedule::check` meets its contract. Assumes nothing.
use native.Mathlib.Omega.{arith}
use Rattle.schedule.proofs.Laws.{short, other, many, uneven, right, right_proper}
use Rattle.schedule.proofs.check.Goals as goal

pub returns-then-s-lt3-clause-refusal : goal.returns-then-s-lt3-clause-refusal
returns-then-s-lt3-clause-refusal c = short _ (omega arith)

pub returns-then-not-is_known-clause-refusal : goal.returns-then-not-is_known-clause-refusal
returns-then-not-is_known-clause-refusal c = other _ (omega arith) c.is_known.ensures c.if-not-is_known.true

pub returns-then-n-gt4096-clause-refusal : goal.returns-then-n-gt4096-clause-refusal
returns-then-n-gt4096-clause-refusal c = many _ (omega arith) c.is_known.ensures c.if-not-is_known.false c.count_of-n.ensures (omega arith)

pub returns-then-s-length_of-clause-refusal : goal.returns-then-s-length_of-clause-refusal
returns-then-s-length_of-clause-refusal c = uneven _ (omega arith) c.is_known.ensures c.if-not-is_known.false c.count_of-n.ensures (omega arith) c.length_of.ensures (λ e. omega arith)

pub returns-clause-refusal : goal.returns-clause-refusal
returns-clause-refusal c = right _ (omega arith) c.is_known.ensures c.if-not-is_known.false c.count_of-n.ensures (omega arith) c.length_of.ensures (omega arith)

pub returns-clause-proper : goal.returns-clause-proper
returns-clause-proper c = right_proper _ (omega arith) c.is_known.ensures c.if-not-is_known.false c.count_of-n.ensures (omega arith) c.length_of.ensures (omega arith)
