-- `run::run_counted` meets its contract. Assumes nothing.
use mathlib.Core.Path.{refl, sym, ◌∙◌}
use lib.ListN.{length}
use Rattle.definitions.proofs.Refusals.{refused}
use native.Mathlib.Omega.{arith}
use Rattle.run.proofs.Looked.{few_records}
use Rattle.run.proofs.Counting.{some_added, none_added}
use Rattle.run.proofs.Ended.{room_for, enough_all, enough_few, refused_report_lem, refused_buffer, passed_report, passed_buffer}
use Rattle.run.proofs.run_counted.Goals as goal

pub returns-in-Err-clause-tally : goal.returns-in-Err-clause-tally
returns-in-Err-clause-tally c = λ _. none_added _ (length c.args.rows.now) _ (λ z. refused _ (c.in-Err.ensures.refusal ∙ z))

pub returns-in-Err-clause-run : goal.returns-in-Err-clause-run
returns-in-Err-clause-run c =
    let e = c.in-Err.ensures.refusal in
    (c.from.ensures ∙ refused_report_lem _ c.args.rows.now e (refused _), refused_buffer _ c.args.rows.now e (refused _))

pub report-requires-clause-room : goal.report-requires-clause-room
report-requires-clause-room c = room_for _ _ (sym c.in_default.ensures.refusal)

pub report-requires-then-may_ask-clause-room : goal.report-requires-then-may_ask-clause-room
report-requires-then-may_ask-clause-room c = room_for _ _ (sym c.in_default.ensures.refusal)

pub report-requires-else-may_ask-clause-room : goal.report-requires-else-may_ask-clause-room
report-requires-else-may_ask-clause-room c = room_for _ _ (sym c.in_default.ensures.refusal)

pub report-requires-then-may_ask-clause-enough : goal.report-requires-then-may_ask-clause-enough
report-requires-then-may_ask-clause-enough c = enough_all _ c.if-schedule-eq1.false (omega arith) (omega arith) (omega arith)

pub report-requires-else-may_ask-clause-enough : goal.report-requires-else-may_ask-clause-enough
report-requires-else-may_ask-clause-enough c =
    let n = c.if-schedule-eq1.false in
    let o = c.may_ask.ensures c.if-may_ask.false in
    enough_few _ n (few_records _ c.in_default.ensures.proper n o.1) o.0 (refl, omega arith) (omega arith) (omega arith) (omega arith)

pub returns-then-schedule-eq1-clause-tally : goal.returns-then-schedule-eq1-clause-tally
returns-then-schedule-eq1-clause-tally c = some_added _ (length c.args.rows.now) _ _ c.in_default.ensures.refusal c.report.ensures.tally

pub returns-then-schedule-eq1-clause-run : goal.returns-then-schedule-eq1-clause-run
returns-then-schedule-eq1-clause-run c =
    let e = c.in_default.ensures.refusal in
    let r = c.report.ensures in
    (passed_report _ c.args.rows.now e refl r.report, passed_buffer _ c.args.rows.now e refl r.rows)

pub returns-then-may_ask-clause-tally : goal.returns-then-may_ask-clause-tally
returns-then-may_ask-clause-tally c = some_added _ (length c.args.rows.now) _ _ c.in_default.ensures.refusal c.report-then-may_ask.ensures.tally

pub returns-then-may_ask-clause-run : goal.returns-then-may_ask-clause-run
returns-then-may_ask-clause-run c =
    let e = c.in_default.ensures.refusal in
    let r = c.report-then-may_ask.ensures in
    (passed_report _ c.args.rows.now e refl r.report, passed_buffer _ c.args.rows.now e refl r.rows)

pub returns-else-may_ask-clause-tally : goal.returns-else-may_ask-clause-tally
returns-else-may_ask-clause-tally c = some_added _ (length c.args.rows.now) _ _ c.in_default.ensures.refusal c.report-else-may_ask.ensures.tally

pub returns-else-may_ask-clause-run : goal.returns-else-may_ask-clause-run
returns-else-may_ask-clause-run c =
    let e = c.in_default.ensures.refusal in
    let r = c.report-else-may_ask.ensures in
    (passed_report _ c.args.rows.now e refl r.report, passed_buffer _ c.args.rows.now e refl r.rows)
