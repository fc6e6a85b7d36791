-- `history::check` meets its contract. Assumes nothing.
use mathlib.Core.Path.{refl, ◌∙◌}
use native.Mathlib.Omega.{arith}
use Rattle.definitions.proofs.Refusals.{refused, handed_on}
use Rattle.history.proofs.Cases.{refusal_file, refusal_room, refusal_none}
use Rattle.history.proofs.check.Goals as goal

pub returns-in_err-check_plain-clause-refusal : goal.returns-in_err-check_plain-clause-refusal
returns-in_err-check_plain-clause-refusal c = handed_on _ _ c.from_residual.ensures.1 ∙ refusal_file _ _ c.in_err-check_plain.ensures.fault (refused _)

pub count_of-count-requires : goal.count_of-count-requires
count_of-count-requires c = omega (arith, c.in_ok-check_plain.ensures.plain.whole)

pub history_room-requires : goal.history_room-requires
history_room-requires c = omega (arith, c.in_ok-check_plain.ensures.plain.few, c.count_of-count.ensures)

pub returns-then-room-history_room-clause-refusal : goal.returns-then-room-history_room-clause-refusal
returns-then-room-history_room-clause-refusal c = refusal_room _ _ c.in_ok-check_plain.ensures.fault refl c.count_of-count.ensures c.history_room.ensures.value c.if-room-history_room.true

pub returns-clause-refusal : goal.returns-clause-refusal
returns-clause-refusal c = refusal_none _ _ c.in_ok-check_plain.ensures.fault refl c.count_of-count.ensures c.history_room.ensures.value c.if-room-history_room.false
