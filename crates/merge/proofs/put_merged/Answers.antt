-- `merge::put_merged` meets its contract. Assumes nothing.
use Rattle.merge.proofs.Output.{output_put}
use Rattle.merge.proofs.put_merged.Goals as goal

pub returns : goal.returns
returns c = output_put _ _ _ c.requires c.count_of.ensures c.count_of-2.ensures c.to_be_bytes.ensures c.copy_from_slice.ensures.after c.put_turns.ensures
