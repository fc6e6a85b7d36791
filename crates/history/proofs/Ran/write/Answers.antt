-- `history::Ran::write` meets its contract. Assumes nothing.
use mathlib.Core.Path.{refl}
use native.Mathlib.Omega.{arith}
use borrow.Author.Rules.{rules}
use Rattle.history.proofs.Loop.{told_room}
use Rattle.history.proofs.Whole.{written_put}
use Rattle.history.proofs.Ran.write.Goals as goal

pub overflow_cast-events : goal.overflow_cast-events
overflow_cast-events c = let room = told_room _ _ _ c.args.self.now.told in omega (arith, room, c.count_starts.ensures)

pub returns : goal.returns
returns c =
    let e = written_put c.args.self.now.told c.count_starts.ensures.0 refl _ c.put_header.ensures.1 c.put_events.ensures.1 in
    search (rules, e)
