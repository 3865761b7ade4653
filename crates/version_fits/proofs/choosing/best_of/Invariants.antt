use Rattle.std.specs.List.{All}
use Rattle.versioned_images.specs.Versions.{IsVersionOf}
use Rattle.version_fits.specs.Goals.{IsBest}
use Rattle.version_fits.proofs.choosing.best_of.Given as goal

abbrev pub invariant-loop-version : goal.invariant-loop-version
invariant-loop-version g l =
    IsBest l.plain.goal.now l.plain.image.now l.plain.fitted l.best
    × All (IsVersionOf l.plain.image.now) l.version-iterator.rest.items
    × (goal.iterator-loop-version g).can_next l.version-iterator
    × (goal.iterator-loop-version g).is_finite l.version-iterator
