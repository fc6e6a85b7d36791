-- `merge::put_turns`: what its loop keeps true.
use Prim.Native.Nat.{◌+◌, ◌*◌}
use Rattle.std.proofs.Common.{◌≡◌, length}
use Rattle.buffer.specs.Page.{page, put_all}
use Rattle.definitions.specs.Merge.{turns}
use Rattle.merge.proofs.put_turns.Given as goal

abbrev pub invariant-loop-k : goal.invariant-loop-k
invariant-loop-k l = page l.out (3 + 4 * length l.yielded) ≡ put_all (page l.initial.out 3) (turns l.first l.second (length l.yielded))
