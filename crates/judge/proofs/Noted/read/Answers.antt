-- `judge::Noted::read` meets its contract. Assumes nothing.
use native.Mathlib.Omega.{arith}
use mathlib.Core.Bool.{false}
use mathlib.Core.Path.{◌≡◌, sym, ◌∙◌, ap, subst}
use Rattle.definitions.specs.Refusal.{refusal_number}
use Rattle.definitions.specs.History.{events_of, reading, noted, in_range}
use Rattle.judge.specs.Standing.{Stands}
use Rattle.judge.proofs.Whole.{all_start, all_step, all_stop, out_of_range, read_start, read_step, event_at, refusal_form, refusal_place, passed}
use Rattle.judge.proofs.Noted.read.Goals as goal

pub returns-in_err-events-clause-err : goal.returns-in_err-events-clause-err
returns-in_err-events-clause-err c =
    passed c.from_residual.result c.in_err-events.field-0.0 c.from_residual.ensures.1 (refusal_form c.args.history.now c.in_err-events.field-0.0 c.in_err-events.ensures.err)

pub loop-thread-init : goal.loop-thread-init
loop-thread-init c = record {
  few = omega (arith, c.new-noted.ensures.count);
  places = all_start (events_of c.args.history.now);
  stands = read_start (events_of c.args.history.now) c.new-noted.result c.new-noted.ensures.stands;
}

pub returns-in_err-try_from-clause-err : goal.returns-in_err-try_from-clause-err
returns-in_err-try_from-clause-err c =
    let h = c.args.history.now in
    let k = c.loop-thread.thread-index in
    let form = c.in_ok-events.ensures.ok in
    let out = subst (λ e. in_range e ≡ false) (event_at h _ _ _ k form.3 (omega (arith, c.loop-thread-test.true, form.2))) c.in_err-try_from.ensures.0 in
    passed c.from_residual-in_err-try_from.result c.in_err-try_from.field-0.0 c.from_residual-in_err-try_from.ensures.1
    (refusal_place h form.0 (all_stop (events_of h) k _ _ c.loop-thread-test.true form.2 (out_of_range (events_of h k) (reading (events_of h) k) out))
    ∙ sym (ap refusal_number c.in_err-try_from.ensures.1))

pub returns-in_err-note-clause-err : goal.returns-in_err-note-clause-err
returns-in_err-note-clause-err c =
    let h = c.args.history.now in
    let k = c.loop-thread.thread-index in
    let form = c.in_ok-events.ensures.ok in
    let is = c.in_ok-try_from.ensures ∙ event_at h _ _ _ k form.3 (omega (arith, c.loop-thread-test.true, form.2)) in
    let said = c.in_err-note.ensures.stands (reading (events_of h) k) c.loop-thread.invariant.stands in
    passed c.from_residual-in_err-note.result c.in_err-note.field-0.0 c.from_residual-in_err-note.ensures.1
    (refusal_place h form.0 (all_stop (events_of h) k _ _ c.loop-thread-test.true form.2 (rw (sym is) said.0)) ∙ sym (ap refusal_number said.1))

pub loop-thread-preserved : goal.loop-thread-preserved
loop-thread-preserved c =
    let h = c.args.history.now in
    let k = c.loop-thread.thread-index in
    let form = c.in_ok-events.ensures.ok in
    let is = c.in_ok-try_from.ensures ∙ event_at h _ _ _ k form.3 (omega (arith, c.loop-thread-test.true, form.2)) in
    let said = c.in_ok-note.ensures.stands (reading (events_of h) k) c.loop-thread.invariant.stands in
    record {
      few = omega (arith, c.in_ok-note.ensures.count);
      places = all_step (events_of h) k c.loop-thread.invariant.places (rw (sym is) said.0);
      stands = read_step (events_of h) k c.note.new.self (subst (λ e. Stands c.note.new.self (noted e (reading (events_of h) k))) is said.1);
    }

pub note-requires : goal.note-requires
note-requires c = omega (arith, c.loop-thread.invariant.few, c.loop-thread-test.true, c.in_ok-events.ensures.ok.1, c.in_ok-events.ensures.ok.2)
