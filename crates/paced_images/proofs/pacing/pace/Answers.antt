use Rattle.paced_images.proofs.PacedSafe.{safe_given}
use Rattle.paced_images.proofs.pacing.pace.Goals as goal

pub returns-clause-safe : goal.returns-clause-safe
returns-clause-safe c = safe_given c.args.image.now c.args.machine.now c.args.loops.now c.args.marks.now.sites.now c.args.marks.now.counted c.args.marks.now.tallied.now c.args.marks.now.share c.pace_files.result c.requires.image c.requires.machine c.requires.loops c.args.marks.now.quarters c.pace_files.ensures
