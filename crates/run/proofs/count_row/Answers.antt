-- `run::count_row` meets its contract. Assumes nothing.
use Rattle.std.proofs.Common.{◌≡◌, ◌<◌, ◌∙◌}
use mathlib.Core.Logic.{inl, inr}
use native.Mathlib.Omega.{arith}
use Rattle.container.specs.Choice.{ite}
use Rattle.definitions.specs.Records.{action_number}
use Rattle.passing.proofs.Tallied.{number_small}
use Rattle.season.specs.Tally.{Field, place}
use Rattle.run.proofs.Counts.{answer_so, row_steps, row_stored}
use Rattle.run.proofs.count_row.Goals as goal
use Rattle.run.proofs.count_row.Goals.{then-yes, else-yes}

pub overflow_add-cells-in-Some-4 : goal.overflow_add-cells-in-Some-4
overflow_add-cells-in-Some-4 c =
    let low : c.from-a.result < 8 = omega (arith, c.from-a.ensures, c.from.ensures, number_small c.args.action) in
    let long = c.in-Some.ensures.cases.long in
    let answer : c.if-yes.answer ≡ place (ite c.args.yes Field.yes Field.no) c.from-a.result =
    answer_so c.from-a.result c.args.yes c.if-yes.answer
    (elim c.if-yes.branch [ then-yes w ↦ inl (w.if-yes.true, w.answer-is) | else-yes w ↦ inr (w.if-yes.false, w.answer-is) ]) in
    rw (answer, c.in-Some.ensures.cases.same) (omega (arith, row_steps c.args.tally.now c.from-a.result c.args.n c.args.yes low long c.requires.0 (c.requires.1 long).0))

pub returns-after-yes : goal.returns-after-yes
returns-after-yes c =
    let number : c.from-a.result ≡ action_number c.args.action = c.from-a.ensures ∙ c.from.ensures in
    let low : c.from-a.result < 8 = omega (arith, number, number_small c.args.action) in
    let answer : c.if-yes.answer ≡ place (ite c.args.yes Field.yes Field.no) c.from-a.result =
    answer_so c.from-a.result c.args.yes c.if-yes.answer
    (elim c.if-yes.branch [ then-yes w ↦ inl (w.if-yes.true, w.answer-is) | else-yes w ↦ inr (w.if-yes.false, w.answer-is) ]) in
    rw (answer, c.in-Some.ensures.cases.same, ← number)
    (λ long t e. row_stored c.args.tally.now c.from-a.result c.args.n c.args.yes low long t e _ (rw (answer, c.in-Some.ensures.cases.same) at c.max.ensures))
