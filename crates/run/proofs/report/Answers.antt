-- `run::report` meets its contract. Assumes nothing.
use mathlib.Core.Path.{refl, ◌∙◌}
use Rattle.nodes.proofs.Blank.{unset}
use Rattle.run.proofs.Ended.{lent_so, spare_so, ended_report, ended_buffer}
use Rattle.run.proofs.report.Goals as goal

pub carry_out-p-requires : goal.carry_out-p-requires
carry_out-p-requires g c = (c.requires.proper, (c.fresh-nodes.ensures, (unset _, (lent_so _ c.requires.enough, (spare_so _ c.requires.enough _, c.requires.tally)))))

pub returns-clause-report : goal.returns-clause-report
returns-clause-report g c = ended_report _ _ refl c.carry_out-p.ensures.0 (c.from.ensures ∙ c.code.ensures) c.set_below.ensures c.stored_below.ensures

pub returns-clause-rows : goal.returns-clause-rows
returns-clause-rows g c = ended_buffer _ _ refl c.carry_out-p.ensures.0 c.requires.room

pub returns-clause-tally : goal.returns-clause-tally
returns-clause-tally g c = c.carry_out-p.ensures.1.1
