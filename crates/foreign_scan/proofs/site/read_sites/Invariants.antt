use Rattle.foreign_scan.proofs.SiteLaws.{AreSitesBelow}
use Rattle.foreign_scan.proofs.site.read_sites.Given as goal

abbrev pub invariant-loop-at : goal.invariant-loop-at
invariant-loop-at l = AreSitesBelow l.original l.foreign l.nodes l.at-index l.sites.items
