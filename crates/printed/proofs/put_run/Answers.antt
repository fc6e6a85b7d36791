-- `printed::put_run` meets its contract. Assumes nothing.
use mathlib.Core.Path.{refl, ◌∙◌}
use native.Mathlib.Omega.{arith}
use borrow.Author.Rules.{rules}
use Rattle.definitions.proofs.Refusals.{refused, refused_as}
use Rattle.printed.proofs.Ended.{lines_fit, lines_printed, line_printed}
use Rattle.printed.proofs.put_run.Goals as goal

pub returns-in-Err : goal.returns-in-Err
returns-in-Err c =
    let e = c.in-Err.ensures.refusal in
    let w = c.put_first.ensures in
    record { lines = (w.0, line_printed _ (c.from.ensures ∙ e) _ (refused_as _ c.from.ensures) w.1); few = λ z. absurd (refused _ (e ∙ z)) }

pub bounds-schedule-0 : goal.bounds-schedule-0
bounds-schedule-0 c = omega (arith, c.in_default.ensures.proper.header)

pub put_lines-requires : goal.put_lines-requires
put_lines-requires c =
    let f = c.in_default.ensures in
    lines_fit _ f.refusal _ _ refl f.proper.few (search rules) (search rules) c.run-r.ensures.0 c.run-r.ensures.1 c.list-l.ensures.0 c.list-l.ensures.1 _ refl

pub returns : goal.returns
returns c =
    let f = c.in_default.ensures in
    let w = c.put_lines.ensures in
    record {
      lines = (
        w.0,
        lines_printed _ f.refusal _ _ refl f.proper.few (search rules) (search rules) c.run-r.ensures.0 c.run-r.ensures.1 c.list-l.ensures.0 c.list-l.ensures.1 _ _ refl c.count_of-count.ensures w.1,
      );
      few = λ _. f.proper.few;
    }
