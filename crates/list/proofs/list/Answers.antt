-- `list::list` meets its contract. Assumes nothing.
use mathlib.Core.Path.{refl}
use Rattle.definitions.proofs.Refusals.{refused}
use native.Mathlib.Omega.{arith}
use Rattle.run.proofs.Looked.{few_records}
use Rattle.run.proofs.Ended.{enough_all, enough_few}
use Rattle.list.proofs.Cases.{has_text_room, refused_report_lem, refused_buffer, listed_report, listed_buffer}
use Rattle.list.proofs.list.Goals as goal

pub returns-in-Err : goal.returns-in-Err
returns-in-Err c =
    let e = c.in-Err.ensures.refusal in
    (refused_report_lem _ c.args.text.now e (refused _) c.from.ensures.0 c.from.ensures.1, refused_buffer _ c.args.text.now e (refused _))

pub report-requires-clause-room : goal.report-requires-clause-room
report-requires-clause-room c = has_text_room _ _ c.in_default.ensures.refusal refl

pub report-requires-then-may_ask-clause-room : goal.report-requires-then-may_ask-clause-room
report-requires-then-may_ask-clause-room c = has_text_room _ _ c.in_default.ensures.refusal refl

pub report-requires-else-may_ask-clause-room : goal.report-requires-else-may_ask-clause-room
report-requires-else-may_ask-clause-room c = has_text_room _ _ c.in_default.ensures.refusal refl

pub report-requires-then-may_ask-clause-enough : goal.report-requires-then-may_ask-clause-enough
report-requires-then-may_ask-clause-enough c = enough_all _ c.if-schedule-eq1.false (omega arith) (omega arith) (omega arith)

pub report-requires-else-may_ask-clause-enough : goal.report-requires-else-may_ask-clause-enough
report-requires-else-may_ask-clause-enough c =
    let n = c.if-schedule-eq1.false in
    let o = c.may_ask.ensures c.if-may_ask.false in
    enough_few _ n (few_records _ c.in_default.ensures.proper n o.1) o.0 (refl, omega arith) (omega arith) (omega arith) (omega arith)

pub returns-then-schedule-eq1 : goal.returns-then-schedule-eq1
returns-then-schedule-eq1 c =
    let e = c.in_default.ensures.refusal in
    let r = c.report.ensures in
    (listed_report _ c.args.text.now e refl r.report, listed_buffer _ c.args.text.now e refl r.text)

pub returns-then-may_ask : goal.returns-then-may_ask
returns-then-may_ask c =
    let e = c.in_default.ensures.refusal in
    let r = c.report-then-may_ask.ensures in
    (listed_report _ c.args.text.now e refl r.report, listed_buffer _ c.args.text.now e refl r.text)

pub returns-else-may_ask : goal.returns-else-may_ask
returns-else-may_ask c =
    let e = c.in_default.ensures.refusal in
    let r = c.report-else-may_ask.ensures in
    (listed_report _ c.args.text.now e refl r.report, listed_buffer _ c.args.text.now e refl r.text)
