-- `state::before` meets its contract. Assumes nothing.
use Rattle.state.proofs.Answer.{part_proper, part_report, part_buffer}
use Rattle.state.proofs.before.Goals as goal

pub part_of-requires : goal.part_of-requires
part_of-requires c = (c.requires.0, c.requires.1.0)

pub whole-requires : goal.whole-requires
whole-requires c = (part_proper _ c.args.k c.requires.0 c.requires.1.0 _ c.part_of.ensures, c.requires.1.1)

pub returns : goal.returns
returns c =
    let p = c.requires in
    (part_report _ c.args.k p.0 p.1.0 _ c.part_of.ensures c.whole.ensures.0, part_buffer _ c.args.k p.0 p.1.0 _ c.part_of.ensures _ c.whole.ensures.1)
