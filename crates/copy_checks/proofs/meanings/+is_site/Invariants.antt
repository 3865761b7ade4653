use Rattle.std.proofs.Common.{length}
use Rattle.copy_checks.proofs.meanings.+is_site.Given as goal

abbrev pub decreases-is_site : goal.decreases-is_site
decreases-is_site l = length l.sites.now
