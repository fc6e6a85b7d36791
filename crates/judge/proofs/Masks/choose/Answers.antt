-- `judge::Masks::choose` meets its contract. Assumes nothing.
use mathlib.Core.Path.{sym, ◌∙◌}
use Rattle.judge.specs.Standing.{held}
use Rattle.judge.proofs.Table.{choose_here, entry_dead, entry_full}
use Rattle.judge.proofs.Masks.choose.Goals as goal

pub returns-then-can_go : goal.returns-then-can_go
returns-then-can_go c = let w = c.args.self.now.work in choose_here (held w) c.args.mask w.sound c.loop-i.i c.loop-i-test.true
    (sym c.contains.ensures ∙ c.if-not-contains.true) c.loop-i.invariant.0 (c.can_go.ensures.yes, c.can_go.ensures.no) c.if-can_go.true

pub returns-then-some : goal.returns-then-some
returns-then-some c = let w = c.args.self.now.work in entry_dead (held w) c.args.mask w.sound c.loop-i.i c.loop-i.some c.loop-i-test.false c.loop-i.invariant.0 c.loop-i.invariant.1 c.if-some.true

pub returns-else-some : goal.returns-else-some
returns-else-some c = let w = c.args.self.now.work in entry_full (held w) c.args.mask w.sound c.loop-i.i c.loop-i.some c.loop-i-test.false c.loop-i.invariant.1 c.if-some.false
