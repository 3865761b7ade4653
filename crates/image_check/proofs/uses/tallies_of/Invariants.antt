use Rattle.image_check.specs.Uses.{AreTallies, AreSmallTallies}
use Rattle.image_check.proofs.uses.tallies_of.Given as goal

abbrev pub invariant-loop-e : goal.invariant-loop-e
invariant-loop-e l = record {
  tallies : AreTallies l.graph l.tree l.sites l.owners l.e l.tallies.items;
  small : AreSmallTallies l.e l.tallies.items;
}
