-- `judge::Masks::fill`: what its loop keeps true.
use mathlib.Core.Path.{◌≡◌}
use lib.ListN.{length}
use Rattle.judge.specs.Search.{Filled}
use Rattle.judge.specs.Standing.{held}
use Rattle.judge.proofs.Masks.fill.Given as goal

abbrev pub invariant-loop-m : goal.invariant-loop-m
invariant-loop-m l = record {
  work : l.self.work ≡ l.fn.self.work;
  long : length l.self.next ≡ 4096;
  filled : Filled (held l.self.work) l.self.next l.m;
}
