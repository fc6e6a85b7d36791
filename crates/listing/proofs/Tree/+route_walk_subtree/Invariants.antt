-- `listing::route_walk` and `listing::subtree` call each other, with fewer levels left from a route down. Assumes nothing.
use Rattle.std.proofs.Common.{◌+◌}
use Rattle.listing.proofs.Tree.+route_walk_subtree.Given as goal

abbrev pub decreases-route_walk : goal.decreases-route_walk
decreases-route_walk l = l.levels + l.levels

abbrev pub decreases-subtree : goal.decreases-subtree
decreases-subtree l = l.levels + l.levels + 1
