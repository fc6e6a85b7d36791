-- `judge::Noted::note` meets its contract. Assumes nothing.
use mathlib.Core.Path.{refl, sym, ◌∙◌}
use mathlib.Core.Bool.{true≢false}
use Rattle.judge.proofs.Noting.{note_start, note_finish, idle_start, idle_finish, busy_slot, busy_start, finish_of, finish_other}
use Rattle.judge.proofs.Noted.note.Goals as goal

pub returns-in_default-clause-stands : goal.returns-in_default-clause-stands
returns-in_default-clause-stands c R st = (busy_start c.args.self.now c.args.e R st _ c.in_default.is-1 c.in_default.is-0, refl)

pub returns-in_default-2-clause-stands : goal.returns-in_default-2-clause-stands
returns-in_default-2-clause-stands c R st = (
  finish_other c.args.self.now c.args.e R st _ c.in-Finish-Some.is-1 _ c.in-Finish-Some.is-0 (λ a s. true≢false (sym (c.is_of.ensures.1 (a, s)) ∙ c.if-is_of.false)),
  refl,
)

pub returns-in_default-3-clause-stands : goal.returns-in_default-3-clause-stands
returns-in_default-3-clause-stands c R st = (idle_finish c.args.self.now c.args.e R st _ c.in_default.is-0 c.in_default.is-1, refl)

pub returns-in-Start-None-clause-stands : goal.returns-in-Start-None-clause-stands
returns-in-Start-None-clause-stands c R st =
    (idle_start c.args.self.now c.args.e R st c.in-Start-None.is-0 c.in-Start-None.is-1, rw (note_start c.args.e R c.in-Start-None.is-0) (c.start.ensures.stands R st))

pub returns-in-Finish-Some-clause-stands : goal.returns-in-Finish-Some-clause-stands
returns-in-Finish-Some-clause-stands c R st =
    let p = c.is_of.ensures.0 c.if-is_of.true in
    let b = busy_slot c.args.self.now c.args.e R st _ c.in-Finish-Some.is-1 in (
      finish_of c.args.self.now c.args.e R st _ c.in-Finish-Some.is-1 _ c.in-Finish-Some.is-0 p.0 p.1,
      rw (note_finish c.args.e R _ c.in-Finish-Some.is-0, b) (c.finish.ensures.stands R b c.in-Finish-Some.is-0 st),
    )
