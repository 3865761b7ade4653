use Rattle.walk_checks.proofs.Cases.{header_number}
use Rattle.walk_checks.proofs.edges.is_elsewhere.Goals as goal

pub returns : goal.returns
returns c so same = c.if-n-case.false (header_number c.args.case.now c.requires.case c.args.n c.requires.node same)
