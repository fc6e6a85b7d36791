-- `judge::Work::decide` meets its contract. Assumes nothing.
use mathlib.Core.Path.{refl}
use Rattle.judge.specs.Standing.{held}
use Rattle.judge.proofs.Whole.{decided}
use Rattle.judge.proofs.Work.decide.Goals as goal

pub returns : goal.returns
returns c = record {
  number = refl;
  operations = refl;
  verdict = decided (held c.args.self.now) c.order-order.result _ c.order-order.ensures.some c.order-order.ensures.none c.is_some.ensures c.unwrap_or.ensures;
}
