-- `history::Ran::put_events`: what its loop keeps true.
use mathlib.Core.Path.{◌≡◌}
use Rattle.buffer.specs.Page.{page}
use Rattle.history.proofs.Loop.{Holds}
use Rattle.history.proofs.Ran.put_events.Given as goal

abbrev pub invariant-loop-k : goal.invariant-loop-k
invariant-loop-k l = (l.out.bytes.ghost_name ≡ l.initial.out.bytes.ghost_name) × Holds l.self.schedule.now l.k l.m (page l.initial.out.bytes.now l.initial.out.at) (page l.out.bytes.now l.out.at)
