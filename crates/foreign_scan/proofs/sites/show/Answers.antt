use Rattle.foreign_scan.proofs.PlaceLaws.{places_within}
use Rattle.foreign_scan.proofs.sites.show.Goals as goal

pub invariant_of-result : goal.invariant_of-result
invariant_of-result c = places_within c.args.lists.now.sources.now c.args.lists.now.edges.now c.args.sites.items c.in_ok-places.places.items c.requires.within c.in_ok-places.ensures
