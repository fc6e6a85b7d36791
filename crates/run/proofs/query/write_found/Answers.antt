-- `run::query::write_found` meets its contract. Assumes nothing.
use Rattle.run.proofs.Cases.{found_byte, found_put, wide_found_put}
use Rattle.run.proofs.query.write_found.Goals as goal

pub returns-then-v-ne1 : goal.returns-then-v-ne1
returns-then-v-ne1 c = wide_found_put _ _ _ c.args.th _ c.from.ensures (found_byte _ c.from-2.ensures) c.put_all.ensures c.if-v-ne1.true c.put_wider.ensures

pub returns-else-v-ne1 : goal.returns-else-v-ne1
returns-else-v-ne1 c = found_put _ _ _ c.args.th _ c.from.ensures (found_byte _ c.from-2.ensures) c.put_all.ensures c.if-v-ne1.false
