-- `state::state` meets its contract. Assumes nothing.
use mathlib.Core.Path.{refl, sym, ◌∙◌}
use native.Mathlib.Omega.{arith}
use Rattle.definitions.proofs.Refusals.{refused}
use Rattle.state.proofs.Answer.{file_fine, room_for, refused_report_lem, refused_buffer, some_report, some_buffer, all_report, all_buffer}
use Rattle.state.proofs.state.Goals as goal

pub returns-in-Err : goal.returns-in-Err
returns-in-Err c =
    let e = c.in-Err.ensures.refusal in
    (c.from.ensures ∙ refused_report_lem _ c.args.out.now _ e (refused _), refused_buffer _ c.args.out.now _ e (refused _))

pub before-requires : goal.before-requires
before-requires c =
    let z = sym c.in_default.ensures.refusal in
    (file_fine _ _ z, (omega (arith, c.if-records-count.true, c.count_of-count.ensures), room_for _ _ z))

pub returns-then-records-count : goal.returns-then-records-count
returns-then-records-count c =
    let e = c.in_default.ensures.refusal in (
      some_report _ c.args.out.now _ e refl (omega (arith, c.if-records-count.true, c.count_of-count.ensures)) c.before-then-records-count.ensures.0,
      some_buffer _ c.args.out.now _ e refl (omega (arith, c.if-records-count.true, c.count_of-count.ensures)) c.before-then-records-count.ensures.1,
    )

pub whole-requires : goal.whole-requires
whole-requires c = (c.in_default.ensures.proper, room_for _ _ (sym c.in_default.ensures.refusal))

pub returns : goal.returns
returns c =
    let e = c.in_default.ensures.refusal in (
      all_report _ c.args.out.now _ e refl (omega (arith, c.if-records-count.false, c.count_of-count.ensures)) c.whole.ensures.0,
      all_buffer _ c.args.out.now _ e refl (omega (arith, c.if-records-count.false, c.count_of-count.ensures)) c.whole.ensures.1,
    )
