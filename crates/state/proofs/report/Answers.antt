-- `state::report` meets its contract. Assumes nothing.
use mathlib.Core.Path.{◌∙◌}
use native.Mathlib.Omega.{arith}
use Rattle.nodes.proofs.Blank.{unset}
use Rattle.run.proofs.Counting.{none_lent}
use Rattle.run.proofs.Ended.{lent_so, spare_so, held_all}
use Rattle.state.proofs.Ended.{whole_put, all_few, held_report, held_buffer}
use Rattle.state.proofs.report.Goals as goal

pub carry_out-p-requires : goal.carry_out-p-requires
carry_out-p-requires g c = (c.requires.proper, (c.fresh-nodes.ensures, (unset _, (lent_so _ c.requires.enough, (spare_so _ c.requires.enough _, none_lent)))))

pub invariant_of-bench : goal.invariant_of-bench
invariant_of-bench g c =
    let e = c.carry_out-p.ensures in
    record { few = all_few _ _ e.0 e.1.0; there = record { frames = λ v. omega (arith, c.requires.there v) } }

pub returns : goal.returns
returns g c =
    let h = c.carry_out-p.ensures.0 in
    let o = c.carry_out-p.ensures.1.0 in
    let e = whole_put _ _ h (λ v. held_all _ h (rw c.carry_out-p.auto.depths ((lent_so _ c.requires.enough).whole v))) _ _ o.threads o.stop c.write-at.ensures in
    (held_report _ _ _ c.requires.room e (c.from.ensures ∙ (c.code.ensures ∙ h.refusal)) h.done, held_buffer _ _ _ c.requires.room e)
