-- `writer::run` meets its contract. Assumes nothing.
use mathlib.Core.Path.{sym, ◌∙◌}
use native.Mathlib.Omega.{arith}
use lib.ListN.{length}
use Rattle.definitions.proofs.Refusals.{passed, passed_code, failed_code}
use Rattle.writer.proofs.Cases.{three_report, three_buffer, refused_report_lem, refused_buffer, whole_report, whole_buffer, cut_report, cut_buffer}
use Rattle.writer.proofs.run.Goals as goal
use Rattle.writer.proofs.run.Goals.{then-is_ok+in_default, else-is_ok}

pub returns-then-is_of_3 : goal.returns-then-is_of_3
returns-then-is_of_3 c =
    let on = sym c.is_of_3.ensures ∙ c.if-is_of_3.true in
    (c.from.ensures ∙ three_report c.args.schedule.now on _, three_buffer c.args.schedule.now on _)

pub first_barred-requires : goal.first_barred-requires
first_barred-requires c = passed _ c.check.ensures.proper (sym c.is_ok.ensures.value ∙ c.if-is_ok.true)

pub before-r-requires : goal.before-r-requires
before-r-requires c = (sym c.check.ensures.refusal ∙ passed_code _ (sym c.is_ok.ensures.value ∙ c.if-is_ok.true), c.in-Some.ensures.1.low)

pub returns-in-Some : goal.returns-in-Some
returns-in-Some c =
    let off = sym c.is_of_3.ensures ∙ c.if-is_of_3.false in
    let z = sym c.check.ensures.refusal ∙ passed_code _ (sym c.is_ok.ensures.value ∙ c.if-is_ok.true) in
    let file = c.args.schedule.now in
    let rows = c.args.rows.now in
    let l = c.in-Some.ensures.0 in
    let k = c.in-Some.ensures.1 in
    (cut_report file off k (length rows) z l c.before-r.ensures.0 c.stopped.ensures, cut_buffer file off k rows z l c.before-r.ensures.1)

pub returns : goal.returns
returns c =
    let off = sym c.is_of_3.ensures ∙ c.if-is_of_3.false in
    let file = c.args.schedule.now in
    let rows = c.args.rows.now in
    elim c.if-is_ok.branch [
      | then-is_ok+in_default w ↦
          let k = w.in_default.ensures in
          (c.run.ensures.0 ∙ whole_report file off k (length rows) (omega arith), c.run.ensures.1 ∙ whole_buffer file off k rows (omega arith))
      | else-is_ok w ↦
          let bad = failed_code _ (sym c.is_ok.ensures.value ∙ w.if-is_ok.false) in (
            c.run.ensures.0 ∙ refused_report_lem file off (length rows) (λ z. bad (c.check.ensures.refusal ∙ z)),
            c.run.ensures.1 ∙ refused_buffer file off rows (λ z. bad (c.check.ensures.refusal ∙ z)),
          )
    ]
