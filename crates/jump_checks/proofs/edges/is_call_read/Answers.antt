use Rattle.std.proofs.Common.{refl}
use Rattle.jump_checks.proofs.edges.is_call_read.Goals as goal

pub returns : goal.returns
returns c so = (c.if-not-is_nothing.ensures refl, c.is_back_read.ensures so)
