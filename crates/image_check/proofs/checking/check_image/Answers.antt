use Rattle.image_check.proofs.FileLaws.{first_cause}
use Rattle.image_check.proofs.checking.check_image.Goals as goal

pub returns-in-Fails : goal.returns-in-Fails
returns-in-Fails c = first_cause c.args.original.now.power c.args.original.now.view c.args.view c.args.original.now.graph c.args.original.now.tree c.in-Fails.why (rw c.in-Fails.is at c.in_ok-sites.ensures)
