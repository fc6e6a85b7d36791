-- `merge::check_threads`: what its loop keeps true.
use Rattle.std.proofs.Common.{◌≡◌}
use Rattle.container.specs.Choice.{ite}
use Rattle.definitions.specs.Merge.{foreign}
use Rattle.merge.proofs.check_threads.Given as goal

abbrev pub invariant-loop-record : goal.invariant-loop-record
invariant-loop-record l = foreign l.f l.s l.record-index ≡ ite l.other 17 0
