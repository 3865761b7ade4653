use Rattle.lower_bounds.proofs.Cases.{header_number}
use Rattle.lower_bounds.proofs.edges.is_back_so.Goals as goal

pub returns : goal.returns
returns c so same = absurd (c.if-n-case.false (header_number c.args.case.now c.requires.case c.args.n c.requires.to same))
