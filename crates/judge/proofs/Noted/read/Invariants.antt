-- `judge::Noted::read`: what its loop keeps true.
use Prim.Native.Nat.{◌≤◌}
use mathlib.Core.Path.{◌≡◌}
use mathlib.Core.Bool.{true}
use Rattle.definitions.specs.History.{events_of, reading, all_in_place}
use Rattle.judge.specs.Standing.{Stands}
use Rattle.judge.proofs.Noted.read.Given as goal

abbrev pub invariant-loop-thread : goal.invariant-loop-thread
invariant-loop-thread l = record {
  few : l.noted.count ≤ l.thread-index;
  places : all_in_place (events_of l.history) l.thread-index ≡ true;
  stands : Stands l.noted (reading (events_of l.history) l.thread-index);
}
