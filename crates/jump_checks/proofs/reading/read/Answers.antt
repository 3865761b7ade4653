use Rattle.std.proofs.Common.{◌∙◌}
use Rattle.jump_checks.proofs.Seen.{read_seen}
use Rattle.jump_checks.proofs.reading.read.Goals as goal

pub returns : goal.returns
returns c = c.entry.ensures ∙ read_seen c.args.claim.now c.requires.claim c.args.k c.requires.node
