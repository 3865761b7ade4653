use Rattle.loop_tree.specs.Trips.{AreTrips}
use Rattle.loop_tree.proofs.trips.trips_of.Given as goal

abbrev pub invariant-loop-k : goal.invariant-loop-k
invariant-loop-k l = AreTrips l.graph l.notes l.found.bodies l.k l.all.items
