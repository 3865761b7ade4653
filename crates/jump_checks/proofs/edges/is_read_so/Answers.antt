use Rattle.std.proofs.Common.{refl}
use Rattle.jump_checks.proofs.Along.{reads_so}
use Rattle.jump_checks.proofs.edges.is_read_so.Goals as goal

pub returns : goal.returns
returns c so = reads_so c.args.claim.now c.requires (c.if-not-are_of_registers.ensures refl) (c.if-not-is_start_clear.ensures refl) (c.are_edges_read.ensures so)
