-- `run::check` meets its contract. Assumes nothing.
use mathlib.Core.Path.{refl, ◌∙◌}
use Rattle.definitions.proofs.Refusals.{refused, handed_on}
use Rattle.run.proofs.Cases.{refusal_file, refusal_room, refusal_none}
use Rattle.run.proofs.check.Goals as goal

pub returns-in_err-check-clause-refusal : goal.returns-in_err-check-clause-refusal
returns-in_err-check-clause-refusal c = handed_on _ _ c.from_residual.ensures.1 ∙ refusal_file _ _ c.in_err-check.ensures.refusal (refused _)

pub returns-then-room-room_for-clause-refusal : goal.returns-then-room-room_for-clause-refusal
returns-then-room-room_for-clause-refusal c = refusal_room _ _ c.in_ok-check.ensures.refusal refl refl c.room_for.ensures c.if-room-room_for.true

pub returns-clause-refusal : goal.returns-clause-refusal
returns-clause-refusal c = refusal_none _ _ c.in_ok-check.ensures.refusal refl refl c.room_for.ensures c.if-room-room_for.false
