-- `run::write_row` meets its contract. Assumes nothing.
use Rattle.run.proofs.Cases.{row_put, wide_row_put}
use Rattle.run.proofs.write_row.Goals as goal

pub returns-then-v-ne1 : goal.returns-then-v-ne1
returns-then-v-ne1 c = wide_row_put _ _ _ c.args.th _ _ c.from.ensures c.from-2.ensures c.if-v-ne1.true c.put_all.ensures c.depth_of.ensures c.put_wider.ensures

pub returns-else-v-ne1 : goal.returns-else-v-ne1
returns-else-v-ne1 c = row_put _ _ _ c.args.th _ _ c.from.ensures c.from-2.ensures c.if-v-ne1.false c.put_all.ensures
