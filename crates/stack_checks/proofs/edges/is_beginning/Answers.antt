use Rattle.std.proofs.Common.{refl}
use Rattle.stack_tables.specs.Tables.{address, stacks_in}
use Rattle.stack_checks.proofs.Cases.{begun_so}
use Rattle.stack_checks.proofs.edges.is_beginning.Goals as goal

pub returns : goal.returns
returns c so = begun_so (stacks_in c.args.claim.now) (address c.args.claim.now c.args.n) (c.if-not-are_registers_begun.ensures refl) (c.are_unknown.ensures so) (c.if-not-is_none_told.ensures refl) (c.if-not-is_none_dwindling.ensures refl)
