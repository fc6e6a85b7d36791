-- The stations below s are written. Assumes nothing.
use Rattle.definitions.specs.Listing.{stations_to}
use Rattle.buffer.specs.Writes.{Writes}
use Rattle.listing.specs.Texts.{headed, shown}
use Rattle.listing.specs.Tree.{nodes_of}
use Rattle.listing.proofs.Tree.put_stations.Given as goal

abbrev pub invariant-loop-s : goal.invariant-loop-s
invariant-loop-s l = Writes l.initial.out l.out (stations_to (headed l.self.version) l.s (shown l.c l.levels (nodes_of l.self) l.x))
