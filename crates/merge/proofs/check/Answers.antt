-- `merge::check` meets its contract. Assumes nothing.
use mathlib.Core.Path.{◌∙◌}
use Rattle.definitions.proofs.Refusals.{numbered, handed_on}
use Rattle.merge.proofs.Refusals.{by_first, by_second, by_foreign, by_foreign_2, by_total, by_short, by_none}
use Rattle.merge.proofs.check.Goals as goal

pub returns-in_err-check_plain : goal.returns-in_err-check_plain
returns-in_err-check_plain c = handed_on _ _ c.from_residual.ensures.1 ∙ by_first _ _ _ (numbered _) c.in_err-check_plain.ensures.fault

pub returns-in_err-check_plain-2 : goal.returns-in_err-check_plain-2
returns-in_err-check_plain-2 c = handed_on _ _ c.from_residual-in_err-check_plain-2.ensures.1 ∙ by_second _ _ _ c.in_ok-check_plain.ensures.fault (numbered _) c.in_err-check_plain-2.ensures.fault

pub returns-in_err-check_threads : goal.returns-in_err-check_threads
returns-in_err-check_threads c =
    handed_on _ _ c.from_residual-in_err-check_threads.ensures.1
    ∙ by_foreign _ _ _ c.in_ok-check_plain.ensures.fault c.in_ok-check_plain-2.ensures.fault c.count_of-a.ensures c.count_of-b.ensures (numbered _) c.in_err-check_threads.ensures

pub returns-in_err-check_threads-2 : goal.returns-in_err-check_threads-2
returns-in_err-check_threads-2 c =
    handed_on _ _ c.from_residual-in_err-check_threads-2.ensures.1
    ∙ by_foreign_2 _ _ _ c.in_ok-check_plain.ensures.fault c.in_ok-check_plain-2.ensures.fault
    c.count_of-a.ensures c.count_of-b.ensures c.in_ok-check_threads.ensures (numbered _) c.in_err-check_threads-2.ensures

pub returns-then-a-b-gt4096 : goal.returns-then-a-b-gt4096
returns-then-a-b-gt4096 c =
    by_total _ _ _ c.in_ok-check_plain.ensures.fault c.in_ok-check_plain-2.ensures.fault
    c.count_of-a.ensures c.count_of-b.ensures c.in_ok-check_threads.ensures c.in_ok-check_threads-2.ensures c.if-a-b-gt4096.true

pub returns-then-room-min : goal.returns-then-room-min
returns-then-room-min c =
    by_short _ _ _ c.in_ok-check_plain.ensures.fault c.in_ok-check_plain-2.ensures.fault
    c.count_of-a.ensures c.count_of-b.ensures c.in_ok-check_threads.ensures c.in_ok-check_threads-2.ensures c.if-a-b-gt4096.false c.min.ensures c.if-room-min.true

pub returns : goal.returns
returns c =
    by_none _ _ _ c.in_ok-check_plain.ensures.fault c.in_ok-check_plain-2.ensures.fault
    c.count_of-a.ensures c.count_of-b.ensures c.in_ok-check_threads.ensures c.in_ok-check_threads-2.ensures c.if-a-b-gt4096.false c.min.ensures c.if-room-min.false
