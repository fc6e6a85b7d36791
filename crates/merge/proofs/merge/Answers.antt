-- `merge::merge` meets its contract. Assumes nothing.
use mathlib.Core.Path.{sym}
use Rattle.merge.proofs.Refusals.{accepted}
use Rattle.merge.proofs.Output.{refused, merged}
use Rattle.merge.proofs.merge.Goals as goal

pub returns-in_err-check : goal.returns-in_err-check
returns-in_err-check c = refused _ _ _ _ _ c.in_err-check.ensures c.from_residual.ensures.1

pub put_merged-requires : goal.put_merged-requires
put_merged-requires c = accepted _ _ _ (sym c.in_ok-check.ensures)

pub left_over-requires : goal.left_over-requires
left_over-requires c = let a = accepted _ _ _ (sym c.in_ok-check.ensures) in (a.one, a.other)

pub returns : goal.returns
returns c = merged _ _ _ c.in_ok-check.ensures c.put_merged.ensures c.left_over.ensures
