-- `frames::turn::back` meets its contract. Assumes nothing.
use Rattle.std.proofs.Common.{rules}
use Rattle.frames.proofs.Turns.{back_next}
use Rattle.frames.proofs.turn.back.Goals as goal

pub returns : goal.returns
returns c = search (back_next, rules)
