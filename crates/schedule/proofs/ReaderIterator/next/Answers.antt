-- `schedule::Reader`'s `next` meets its contract. Assumes nothing.
use mathlib.Core.Logic.{inl, inr}
use Rattle.schedule.proofs.Laws.{reads_two, reads_four, reads_less, reads_none}
use Rattle.schedule.proofs.ReaderIterator.next.Goals as goal

pub returns-in_err-rest-clause-steps : goal.returns-in_err-rest-clause-steps
returns-in_err-rest-clause-steps c = reads_none _ c.in_err-rest.ensures.lookup.0 c.from_residual.ensures

pub returns-in-len2-up-clause-steps : goal.returns-in-len2-up-clause-steps
returns-in-len2-up-clause-steps c = reads_two c.args.self.now c.in_ok-rest.ensures.lookup.0 c.if-self-eq1.true c.in-len2-up.len_at_least

pub returns-in-len4-up-clause-steps : goal.returns-in-len4-up-clause-steps
returns-in-len4-up-clause-steps c = reads_four c.args.self.now c.in_ok-rest.ensures.lookup.0 c.if-self-eq1.false c.in-len4-up.len_at_least c.from_be_bytes-extra.ensures

pub returns-in_default-clause-steps : goal.returns-in_default-clause-steps
returns-in_default-clause-steps c = reads_less _ c.in_ok-rest.ensures.lookup.0 (inl c.in_default.len_below)

pub returns-in_default-2-clause-steps : goal.returns-in_default-2-clause-steps
returns-in_default-2-clause-steps c = reads_less _ c.in_ok-rest.ensures.lookup.0 (inr (c.if-self-eq1.false, c.in_default.len_below))
