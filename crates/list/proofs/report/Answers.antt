-- `list::report` meets its contract. Assumes nothing.
use mathlib.Core.Path.{refl, ◌∙◌}
use Rattle.nodes.proofs.Blank.{unset}
use Rattle.run.proofs.Counting.{none_lent}
use Rattle.run.proofs.Ended.{lent_so, spare_so}
use Rattle.list.proofs.Cases.{ended_report, ended_text}
use Rattle.list.proofs.report.Goals as goal

pub carry_out-p-requires : goal.carry_out-p-requires
carry_out-p-requires g c = (c.requires.proper, (c.fresh-nodes.ensures, (unset _, (lent_so _ c.requires.enough, (spare_so _ c.requires.enough _, none_lent)))))

pub returns-clause-report : goal.returns-clause-report
returns-clause-report g c = ended_report _ _ refl (λ z. rw c.carry_out-p.auto.depths ((lent_so _ c.requires.enough).whole z)) c.requires.room
    c.carry_out-p.ensures.0 c.write_tree-at.ensures (c.from.ensures ∙ c.code.ensures)

pub returns-clause-text : goal.returns-clause-text
returns-clause-text g c = ended_text _ _ refl (λ z. rw c.carry_out-p.auto.depths ((lent_so _ c.requires.enough).whole z)) c.requires.room
    c.carry_out-p.ensures.0 c.write_tree-at.ensures
