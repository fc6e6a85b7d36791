-- `state::bench::Bench::put_head` meets its contract. Assumes nothing.
use borrow.Author.Rules.{rules}
use Rattle.buffer.proofs.Writes.{next, said}
use Rattle.state.proofs.Cases.{head_parts}
use Rattle.state.proofs.bench.Bench.put_head.Goals as goal

pub returns : goal.returns
returns c =
    said _ (head_parts c.args.self.now.version c.args.self.now.standing (search rules) c.code-refusal.ensures)
    (next _ _ _ c.put_all.ensures (next _ _ _ c.put_number.ensures (next _ _ _ c.put_all-2.ensures (next _ _ _ c.put_number-2.ensures (next _ _ _ c.put_number-3.ensures
    (next _ _ _ c.put.ensures (next _ _ _ c.put_number-4.ensures c.put_zeros.ensures)))))))
