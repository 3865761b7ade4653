use Rattle.foreign_scan.proofs.PlaceLaws.{ArePlacesBelow}
use Rattle.foreign_scan.proofs.sites.places_of.Given as goal

abbrev pub invariant-loop-e : goal.invariant-loop-e
invariant-loop-e l = ArePlacesBelow l.lists.sources.now l.lists.edges.now l.e l.places.items
